use Rattle.std.proofs.Common.{length, sym, ap, ◌∙◌}
use Rattle.program.specs.Readings.{prior}
use Rattle.program.specs.Programs.{index_of}
use Rattle.program.specs.Faults.{placed_fault}
use Rattle.program.proofs.Faults.{answered_none, allowed}
use Rattle.linked.specs.LinkedModel.{linked_program}
use Rattle.linked.specs.Reading.{node_number}
use Rattle.linked.proofs.Ordering.{previous_number}
use Rattle.linked.proofs.Held.{store_sound}
use Rattle.linked.proofs.linked.LinkedStore.previous.Goals as goal

pub returns : goal.returns
returns c =
    let s = c.args.self.now in
    let xs = s.cells.now in
    let n = c.args.n in
    let P = linked_program xs s.ends.next in
    let e = allowed (placed_fault P n) _ c.in_ok-placed.ensures in
    answered_none (placed_fault P n) c.number_of.result (prior P.order (index_of n P.order)) (sym e)
    (c.number_of.ensures ∙ ap (node_number (length xs)) c.links_at-links.ensures.prev ∙ sym (previous_number xs s.ends.next s.ends.prev (store_sound s).linked n e))

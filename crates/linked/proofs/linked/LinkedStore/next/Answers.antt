use Rattle.std.proofs.Common.{◌+◌, length, sym, ap, ◌∙◌}
use Rattle.std.specs.List.{slice_get}
use Rattle.program.specs.Programs.{index_of}
use Rattle.program.specs.Faults.{placed_fault}
use Rattle.program.proofs.Faults.{answered_none, allowed}
use Rattle.linked.specs.LinkedModel.{linked_program}
use Rattle.linked.specs.Reading.{node_number}
use Rattle.linked.proofs.Ordering.{next_number}
use Rattle.linked.proofs.Held.{store_sound}
use Rattle.linked.proofs.linked.LinkedStore.next.Goals as goal

pub returns : goal.returns
returns c =
    let s = c.args.self.now in
    let xs = s.cells.now in
    let n = c.args.n in
    let P = linked_program xs s.ends.next in
    let e = allowed (placed_fault P n) _ c.in_ok-placed.ensures in
    answered_none (placed_fault P n) c.number_of.result (slice_get P.order (index_of n P.order + 1)) (sym e)
    (c.number_of.ensures ∙ ap (node_number (length xs)) c.links_at-links.ensures.next ∙ sym (next_number xs s.ends.next s.ends.prev (store_sound s).linked n e))

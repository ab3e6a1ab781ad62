use Rattle.std.proofs.Common.{cond, length, Some, None, sym, ap, ◌∙◌, ltb}
use Rattle.program.specs.Programs.{state_of}
use Rattle.linked.specs.LinkedModel.{linked_program}
use Rattle.linked.specs.States.{within_linked, state_linked}
use Rattle.linked.proofs.Held.{store_sound}
use Rattle.linked.proofs.linked.LinkedLook.find.Goals as goal

pub returns : goal.returns
returns c =
    let s = c.args.self.now in
    let xs = s.cells.now in
    let n = c.args.n in
    let f = s.ends.next in
    c.state_at.ensures
    ∙ ap (λ t. cond (ltb n (length xs)) (Some t) None) (sym (state_linked xs f s.ends.prev (store_sound s).linked n))
    ∙ ap (λ b. cond b (Some (state_of (linked_program xs f) n)) None) (sym (within_linked xs f n))

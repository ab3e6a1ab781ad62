use Rattle.std.proofs.Common.{length, sym, ◌∙◌, arith}
use Rattle.std.proofs.lemmas.Bool.{le-leb}
use Rattle.std.proofs.lemmas.List.{length-map}
use Rattle.program.proofs.Accepting.{busy_inside}
use Rattle.program.proofs.Unused.{free_unused}
use Rattle.linked.specs.LinkedModel.{content, bodies, linked_program}
use Rattle.linked.proofs.Held.{store_proper}
use Rattle.linked.proofs.linked.LinkedLook.is_unused.Goals as goal

pub returns-then-n-self : goal.returns-then-n-self
returns-then-n-self c =
    let s = c.args.self.now in
    let xs = s.cells.now in
    let p = linked_program xs s.ends.next in
    let high = c.if-n-self.true in
    le-leb (length xs) c.args.n high
    ∙ sym (free_unused p (store_proper s) c.args.n (λ b. let l = busy_inside p c.args.n b in let m = length-map (bodies xs) content in let k = length-map xs (λ x. x.body) in omega arith))

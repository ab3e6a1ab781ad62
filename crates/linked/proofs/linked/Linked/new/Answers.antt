use Rattle.std.proofs.Common.{◌≡◌, ◌≤◌, min, length, take, replicate, sym, ap, ◌∙◌, subst, arith}
use Rattle.std.proofs.lemmas.List.{length-take}
use Rattle.program.specs.Programs.{new_program}
use Rattle.program.proofs.Keeping.{new_is_proper}
use Rattle.linked.specs.LinkedModel.{linked_program}
use Rattle.linked.specs.Slots.{blank_cell}
use Rattle.linked.proofs.Ordering.{Sound}
use Rattle.linked.proofs.Fresh.{sound_fresh, program_fresh}
use Rattle.linked.proofs.Held.{fields}
use Rattle.linked.proofs.linked.Linked.new.Goals as goal

pub invariant_of-result : goal.invariant_of-result
invariant_of-result c =
    let n = c.min-n.result in
    let l = length-take n c.args.cells.now in
    let m : length (take n c.args.cells.now) ≡ n = omega arith in
    let few : n ≤ 1024 = omega arith in
    let e : c.clear.new.cells ≡ replicate n blank_cell = c.clear.ensures ∙ ap (λ k. replicate k blank_cell) m in
    fields c.clear.new.cells n n (subst (λ xs. Sound xs n n) (sym e) (sound_fresh n few)) (new_program n) (ap (λ xs. linked_program xs n) e ∙ program_fresh n few) (new_is_proper n few)

pub returns : goal.returns
returns c =
    let n = c.min-n.result in
    let l = length-take n c.args.cells.now in
    let m : length (take n c.args.cells.now) ≡ n = omega arith in
    let few : n ≤ 1024 = omega arith in
    let q : n ≡ min (length c.args.cells.now) 1024 = omega arith in
    let e : c.clear.new.cells ≡ replicate n blank_cell = c.clear.ensures ∙ ap (λ k. replicate k blank_cell) m in
    ap (λ xs. linked_program xs n) e ∙ program_fresh n few ∙ ap new_program q

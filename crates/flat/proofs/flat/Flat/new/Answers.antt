use Rattle.std.proofs.Common.{◌≡◌, min, length, take, ap, ◌∙◌, arith}
use Rattle.std.proofs.lemmas.List.{length-take}
use Rattle.program.specs.Programs.{new_program}
use Rattle.flat.specs.FlatModel.{flat_program}
use Rattle.flat.proofs.Fresh.{program_fresh}
use Rattle.flat.proofs.Held.{fresh_fields}
use Rattle.flat.proofs.flat.Flat.new.Goals as goal

pub invariant_of-result : goal.invariant_of-result
invariant_of-result c =
    let l = length-take c.min-n.result c.args.cells.now in
    fresh_fields c.clear.new.cells (length (take c.min-n.result c.args.cells.now)) (omega arith) c.clear.ensures

pub returns : goal.returns
returns c =
    let m = length (take c.min-n.result c.args.cells.now) in
    let l = length-take c.min-n.result c.args.cells.now in
    let e : m ≡ min (length c.args.cells.now) 1024 = omega arith in
    ap flat_program c.clear.ensures ∙ program_fresh m ∙ ap new_program e

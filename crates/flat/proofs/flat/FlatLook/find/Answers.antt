use Rattle.std.proofs.Common.{◌≡◌, ◌∙◌, cond, ltb, length, get_or, Some, None, sym, arith}
use Rattle.std.proofs.lemmas.Grind.{common_steps}
use Rattle.flat.specs.declared.cells.FlatCell.TheVariants.{Vacant}
use Rattle.flat.specs.FlatModel.{tag}
use Rattle.flat.proofs.Held.{sound}
use Rattle.flat.proofs.States.{found_flat}
use Rattle.flat.proofs.flat.FlatLook.find.Goals as goal

pub returns : goal.returns
returns c =
    let xs = c.args.self.now.cells.now in
    let n = c.args.n in
    let e : c.map.result ≡ cond (ltb n (length xs)) (Some (tag (get_or xs n Vacant))) None = grind (arith, common_steps) in
    e ∙ sym (found_flat xs (sound c.args.self.now) n)

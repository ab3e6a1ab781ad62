use Rattle.std.proofs.Common.{◌≡◌, ◌∙◌, length, rules}
use Rattle.std.specs.List.{sum_by}
use Rattle.program.specs.Uses.{uses_by}
use Rattle.flat.specs.FlatModel.{content}
use Rattle.flat.proofs.Usage.{count_uses}
use Rattle.flat.proofs.flat.Flat.count_all.Goals as goal

pub returns : goal.returns
returns c =
    let e : c.sum.result ≡ sum_by (λ x. length (uses_by c.args.n 0 (content x))) c.args.self.now.cells.now = search rules in
    e ∙ count_uses c.args.n 0 c.args.self.now.cells.now

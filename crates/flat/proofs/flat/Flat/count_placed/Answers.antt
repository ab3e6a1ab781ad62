use Rattle.std.proofs.Common.{◌≡◌, ◌∙◌, is_some, rules}
use Rattle.std.specs.List.{count_by}
use Rattle.flat.specs.FlatModel.{rank_of}
use Rattle.flat.proofs.Counting.{count_ranked}
use Rattle.flat.proofs.flat.Flat.count_placed.Goals as goal

pub returns : goal.returns
returns c =
    let e : c.count.result ≡ count_by (λ x. is_some (rank_of x)) c.args.self.now.cells.now = search rules in
    e ∙ count_ranked c.args.self.now.cells.now

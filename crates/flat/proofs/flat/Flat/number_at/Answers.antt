use Rattle.std.proofs.Common.{◌≡◌, ◌∙◌, rules, tests, arith}
use Rattle.std.specs.List.{position}
use Rattle.std.proofs.lemmas.Grind.{common_steps}
use Rattle.std.proofs.lemmas.Iterator.{YieldsList-from_slice}
use Rattle.std.proofs.lemmas.Iterator.Search.{position_from_yields_List}
use Rattle.flat.specs.FlatModel.{rank_of, is_rank}
use Rattle.flat.proofs.Held.{sound}
use Rattle.flat.proofs.Neighbours.{nth}
use Rattle.flat.proofs.flat.Flat.number_at.Goals as goal

pub returns : goal.returns
returns c =
    let m : c.map.result ≡ c.position.result = grind (arith, common_steps) in
    let e : c.position.result ≡ position (λ x. is_rank c.args.j (rank_of x)) c.args.self.now.cells.now
    = position_from_yields_List (λ x. is_rank c.args.j (rank_of x)) _ _ c.position.result c.position.ensures.ran (YieldsList-from_slice _ c.iter.ensures.rest) (λ x b q k. search (rules, tests))
    in m ∙ e ∙ nth c.args.self.now.cells.now (sound c.args.self.now) c.args.j

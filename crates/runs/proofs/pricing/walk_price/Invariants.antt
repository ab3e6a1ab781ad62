use Rattle.std.proofs.Common.{◌≡◌}
use Rattle.program.specs.Programs.{at}
use Rattle.runs.specs.Scratch.{price_words, stamps_left}
use Rattle.runs.specs.Walks.{from}
use Rattle.runs.proofs.pricing.walk_price.Given as goal

abbrev pub invariant-loop-n : goal.invariant-loop-n
invariant-loop-n g l =
    let walk = l.n-iterator in
    let k = g.M.CostModel.costing in
    let p = g.S.Store.program l.store in
    (walk.store.now ≡ l.store)
    × (price_words k (at p) l.total l.words (from walk.at p.order) ≡ price_words k (at p) 0 l.initial.words p.order)
    × (stamps_left k (at p) l.words (from walk.at p.order) ≡ stamps_left k (at p) l.initial.words p.order)

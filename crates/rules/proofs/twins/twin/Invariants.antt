use Rattle.std.proofs.Common.{◌≡◌}
use Rattle.runs.specs.Walks.{from}
use Rattle.rules.specs.Rules.{twin_in}
use Rattle.rules.proofs.twins.twin.Given as goal

abbrev pub invariant-loop-m : goal.invariant-loop-m
invariant-loop-m g l =
    let walk = l.m-iterator in
    let p = g.S.Store.program l.store in
    (walk.store.now ≡ l.store) × (twin_in p l.n (from walk.at p.order) ≡ twin_in p l.n p.order)

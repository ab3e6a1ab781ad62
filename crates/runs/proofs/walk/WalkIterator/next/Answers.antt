use Rattle.std.proofs.Common.{length, sym, refl, ap, subst, arith}
use Rattle.runs.specs.Walks.{Stands, Step}
use Rattle.runs.proofs.Walks.{step, stands_test, test_stands}
use Rattle.runs.proofs.walk.WalkIterator.next.Goals as goal

pub returns-clause-steps : goal.returns-clause-steps
returns-clause-steps g c =
    let walk = c.args.self.now in
    let p = g.S.Store.program walk.store.now in
    let i = subst (λ x. Stands x p.order) c.in_ok-n.was (test_stands walk.at p.order walk.stands) in (
      refl,
      subst (λ x. Step p x c.next_of-self.result c.in_ok-n.n c.record_at-what.result) (sym c.in_ok-n.was)
          (step p (g.met.S.Store.proper walk.store.now) c.in_ok-n.n i c.next_of-self.result c.next_of-self.ensures c.record_at-what.result c.record_at-what.ensures),
    )

pub invariant_of-self : goal.invariant_of-self
invariant_of-self g c =
    let walk = c.args.self.now in
    let p = g.S.Store.program walk.store.now in
    let t = g.met.S.Store.proper walk.store.now in
    let i = subst (λ x. Stands x p.order) c.in_ok-n.was (test_stands walk.at p.order walk.stands) in
    let one = step p t c.in_ok-n.n i c.next_of-self.result c.next_of-self.ensures c.record_at-what.result c.record_at-what.ensures in
    record { stands = stands_test c.next_of-self.result p.order one.stands }

pub returns-clause-goes : goal.returns-clause-goes
returns-clause-goes g c =
    let one = (returns-clause-steps g c).1 in
    let less = ap length one.left in
    record { on = λ f. (tt, tt, omega arith); keeps = tt; rests = λ f. tt }

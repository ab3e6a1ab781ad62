use Rattle.std.proofs.Common.{sym, ap, ◌∙◌, subst}
use Rattle.runs.specs.Walks.{from, Stands}
use Rattle.runs.proofs.Walks.{from_first, first_stands, stands_test}
use Rattle.runs.proofs.walk.Walk.new.Goals as goal

pub invariant_of-result : goal.invariant_of-result
invariant_of-result g c =
    let p = g.S.Store.program c.args.store.now in
    record { stands = stands_test c.first.result p.order (subst (λ x. Stands x p.order) (sym c.first.ensures) (first_stands p (g.met.S.Store.proper c.args.store.now))) }

pub returns-clause-whole : goal.returns-clause-whole
returns-clause-whole g c =
    let p = g.S.Store.program c.args.store.now in
    ap (λ x. from x p.order) c.first.ensures ∙ from_first p (g.met.S.Store.proper c.args.store.now)

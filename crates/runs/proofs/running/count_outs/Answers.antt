use Rattle.std.proofs.Common.{◌∙◌, length, ap, inl, arith, rules, tests}
use Rattle.std.proofs.lemmas.Iterator.Consumers.{YieldsList-at, YieldsList-from_filter, count_from_yields_List}
use Rattle.program.specs.Programs.{at}
use Rattle.program.proofs.Orders.{few_placed}
use Rattle.runs.specs.Runs.{out?}
use Rattle.runs.specs.Walks.{from}
use Rattle.runs.proofs.Walks.{walk_gives}
use Rattle.runs.proofs.Sends.{few_outs, passing_outs}
use Rattle.runs.proofs.running.count_outs.Goals as goal

pub count-requires-clause-fits : goal.count-requires-clause-fits
count-requires-clause-fits g c =
    let p = g.S.Store.program c.args.store.now in
    let t = g.met.S.Store.proper c.args.store.now in
    let few = few_placed p t in
    let most = t.few in
    let whole = ap (λ w. length (from w.at (g.S.Store.program w.store.now).order)) c.filter.ensures.source
    ∙ ap (λ s. length (from c.new.result.at (g.S.Store.program s).order)) c.new.ensures.store
    ∙ ap length c.new.ensures.whole in
    inl (omega arith)

pub returns : goal.returns
returns g c =
    let p = g.S.Store.program c.args.store.now in
    count_from_yields_List _ _ c.count.ensures.ran (YieldsList-from_filter _ (λ i. out? i.op)
    (YieldsList-at c.filter.ensures.source (walk_gives g.S.Store p c.new.result (ap g.S.Store.program c.new.ensures.store) c.new.ensures.whole))
    c.filter.ensures.closure (λ x r q k. search (rules, tests)))
    ∙ passing_outs (at p) p.order

pub overflow_cast-result : goal.overflow_cast-result
overflow_cast-result g c =
    let most = few_outs (g.S.Store.program c.args.store.now) (g.met.S.Store.proper c.args.store.now) in
    omega (arith, returns g c)

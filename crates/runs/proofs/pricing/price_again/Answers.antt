use Rattle.std.proofs.Common.{Ok, ap, ◌∙◌}
use Rattle.runs.proofs.Pricings.{price_any}
use Rattle.runs.proofs.pricing.price_again.Goals as goal

pub returns-clause-formed : goal.returns-clause-formed
returns-clause-formed g c =
    λ f h.
    ap Ok (c.walk_price.ensures.answer
    ∙ price_any g.M.CostModel.costing (g.S.Store.program c.args.store.now) (g.met.S.Store.proper c.args.store.now) f c.args.words.now h)

use Rattle.std.proofs.Common.{length, Ok, Err, sym, refl, ap, ◌∙◌, arith, rules}
use Rattle.std.proofs.lemmas.Result.{err_from_is_err_and}
use Rattle.program.specs.Programs.{at}
use Rattle.runs.specs.Prices.{price}
use Rattle.runs.specs.Answers.{price_fault, counted}
use Rattle.runs.specs.Scratch.{price_words}
use Rattle.runs.proofs.Checks.{ok_none, err_some, none_fits}
use Rattle.runs.proofs.Tests.{form_law}
use Rattle.runs.proofs.Pricings.{price_whole}
use Rattle.runs.proofs.pricing.price.Goals as goal

pub walk_price-requires : goal.walk_price-requires
walk_price-requires g c =
    let p = g.S.Store.program c.args.store.now in
    let f = none_fits p (length c.args.scratch.now) (ok_none (price_fault p (length c.args.scratch.now)) c.in_ok-check_form.field-0 c.in_ok-check_form.ensures.answer) in
    omega arith

pub returns-in_err-check_form : goal.returns-in_err-check_form
returns-in_err-check_form g c =
    let p = g.S.Store.program c.args.store.now in
    let m = length c.args.scratch.now in
    let f = c.in_err-check_form.field-0.0 in
    let r = err_from_is_err_and c.from_residual.result c.from_residual.ensures.1 in
    record {
      answer = r.1 ∙ ap Err r.2 ∙ sym (ap (λ o. counted o (price g.M.CostModel.costing p)) (err_some (price_fault p m) f c.in_err-check_form.ensures.answer));
      scratch = search rules;
      form = form_law p (g.met.S.Store.proper c.args.store.now).distinct;
    }

pub returns : goal.returns
returns g c =
    let k = g.M.CostModel.costing in
    let p = g.S.Store.program c.args.store.now in
    let t = g.met.S.Store.proper c.args.store.now in
    let m = length c.args.scratch.now in
    let none = ok_none (price_fault p m) c.in_ok-check_form.field-0 c.in_ok-check_form.ensures.answer in
    record {
      answer = ap Ok (c.walk_price.ensures.answer
          ∙ ap (λ w. price_words k (at p) 0 w p.order) (c.in_ok-check_form.ensures.cleared refl)
          ∙ price_whole k p t m (none_fits p m none))
          ∙ sym (ap (λ o. counted o (price k p)) none);
      scratch = search rules;
      form = form_law p t.distinct;
    }

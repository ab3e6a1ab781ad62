use Rattle.std.proofs.Common.{Err, refl, ap, ◌∙◌}
use Rattle.std.proofs.lemmas.Result.{err_from_is_err_and}
use Rattle.session.specs.Copying.{accepted}
use Rattle.session.specs.Stack.{rest}
use Rattle.session.specs.Trail.{kept}
use Rattle.session.specs.Meaning.{trail, marks}
use Rattle.session.proofs.Rows.{marks_fit}
use Rattle.session.proofs.Steps.{unclosed, closed_to, after_accept}
use Rattle.session.proofs.session.Session.close_kept.Goals as goal

pub returns-in_err-check_newest : goal.returns-in_err-check_newest
returns-in_err-check_newest g c =
    let q = err_from_is_err_and c.from_residual.result c.from_residual.ensures.1 in
    unclosed g.S.Store.program c.args.self.now c.args.depth c.args.held (λ s. accepted s s.saves) c.from_residual.result c.in_err-check_newest.field-0.0
    (q.1 ∙ ap Err q.2) c.in_err-check_newest.ensures

pub returns : goal.returns
returns g c =
    let program = g.S.Store.program in
    let a = c.args.self.now in
    let p = program a.store in
    let t = trail a.journal in
    let ms = marks a.journal in
    closed_to program a c.args.depth c.args.held (λ s. accepted s s.saves) _ c.in_ok-check_newest.field-0
    p (kept (rest ms) t) (rest ms) refl c.close.ensures.records c.close.ensures.saves c.in_ok-check_newest.ensures (after_accept p t ms (marks_fit a.journal))

use Rattle.std.proofs.Common.{Err, ap, ◌∙◌}
use Rattle.std.proofs.lemmas.Result.{err_from_is_err_and}
use Rattle.session.specs.Copying.{reverted}
use Rattle.session.specs.Stack.{rest}
use Rattle.session.specs.Trail.{kept, undone, lowered}
use Rattle.session.specs.Meaning.{trail, marks}
use Rattle.session.proofs.Rows.{marks_fit}
use Rattle.session.proofs.Steps.{unclosed, closed_to, after_revert}
use Rattle.session.proofs.session.Session.close_undone.Goals as goal

pub returns-in_err-check_newest : goal.returns-in_err-check_newest
returns-in_err-check_newest g c =
    let q = err_from_is_err_and c.from_residual.result c.from_residual.ensures.1 in
    unclosed g.S.Store.program c.args.self.now c.args.depth c.args.held (λ s. reverted s s.saves) c.from_residual.result c.in_err-check_newest.field-0.0
    (q.1 ∙ ap Err q.2) c.in_err-check_newest.ensures

pub returns : goal.returns
returns g c =
    let program = g.S.Store.program in
    let a = c.args.self.now in
    let p = program a.store in
    let t = trail a.journal in
    let ms = marks a.journal in
    let b = c.rewind.ensures in
    closed_to program a c.args.depth c.args.held (λ s. reverted s s.saves) _ c.in_ok-check_newest.field-0
    (undone ms t p) (kept (rest ms) (lowered ms t)) (rest ms) b.program_is
    (c.close.ensures.records ∙ ap (λ l. kept (rest l) (trail c.rewind.new.self.journal)) b.marks_are ∙ ap (kept (rest ms)) b.trail_is)
    (c.close.ensures.saves ∙ ap rest b.marks_are)
    c.in_ok-check_newest.ensures (after_revert p t ms (marks_fit a.journal))

use Rattle.std.proofs.Common.{Ok, Err, sym, refl, ap, ◌∙◌}
use mathlib.Core.Bool.{false≢true}
use Rattle.edits.specs.Commands.{edit_of, after, opposite}
use Rattle.session.specs.Copying.{edit_step}
use Rattle.session.specs.Trail.{noted}
use Rattle.session.specs.Meaning.{trail, marks}
use Rattle.session.proofs.Rows.{marks_fit}
use Rattle.session.proofs.Grants.{noted_none}
use Rattle.session.proofs.Steps.{stepped, fair_command, accepted_edit, step_noted, step_unnoted}
use Rattle.session.proofs.session.Session.edit.Goals as goal

pub returns-in-Err : goal.returns-in-Err
returns-in-Err g c =
    let program = g.S.Store.program in
    let a = c.args.self.now in
    let p = program a.store in
    let e = edit_of c.args.command in
    let t = trail a.journal in
    let ms = marks a.journal in
    let f = c.in-Err.fault in
    let h = accepted_edit p e c.in_ok-apply.field-0 (g.met.S.Store.proper a.store) (fair_command c.args.command) c.in_ok-apply.ensures.answer in
    stepped program (edit_step e) a _ (Err f) p t ms
    (c.apply-in-Err.ensures.after ∙ ap (after (program c.apply.new.store)) c.opposite-back.ensures ∙ ap (λ q. after q (opposite p e)) c.apply.ensures.after ∙ h.1)
    (c.push.ensures.records ∙ sym (noted_none (edit_of c.opposite-back.result) t ms f c.in-Err.ensures.room))
    c.push.ensures.saves
    (step_unnoted p t ms e h.0 f c.in-Err.ensures.room)
    (λ o. (refl, refl))

pub returns : goal.returns
returns g c =
    let program = g.S.Store.program in
    let a = c.args.self.now in
    let p = program a.store in
    let e = edit_of c.args.command in
    let t = trail a.journal in
    let ms = marks a.journal in
    let h = accepted_edit p e c.in_ok-apply.field-0 (g.met.S.Store.proper a.store) (fair_command c.args.command) c.in_ok-apply.ensures.answer in
    stepped program (edit_step e) a _ (Ok tt) (after p e) (noted ms (opposite p e) t) ms
    c.apply.ensures.after
    (c.push.ensures.records ∙ ap (λ x. noted ms x t) c.opposite-back.ensures)
    c.push.ensures.saves
    (step_noted p t ms e h.0 (opposite p e) h.1 (marks_fit a.journal) c.in_default.field-0 c.in_default.ensures.room)
    (λ o. absurd (false≢true (sym o)))

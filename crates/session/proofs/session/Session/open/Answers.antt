use Rattle.std.proofs.Common.{cond, ◌∷◌, length, refl, ap, ◌∙◌}
use Rattle.session.specs.Copying.{open_step}
use Rattle.session.specs.Meaning.{trail, marks}
use Rattle.session.proofs.Steps.{stepped, step_opened}
use Rattle.session.proofs.session.Session.open.Goals as goal

pub returns : goal.returns
returns g c =
    let a = c.args.self.now in
    let p = g.S.Store.program a.store in
    let t = trail a.journal in
    let ms = marks a.journal in
    let e = c.open.ensures in
    stepped g.S.Store.program (open_step c.args.held) a _ c.open.result p t (marks c.open.new.self) refl e.records refl
    (step_opened p t ms (marks c.open.new.self) c.args.held c.open.result e.depth e.saves)
    (λ o. (refl, e.saves ∙ ap (λ b. cond b (record { at = length t; held = c.args.held } ∷ ms) ms) o))

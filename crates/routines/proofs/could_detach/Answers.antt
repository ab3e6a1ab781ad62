use Rattle.std.proofs.Common.{◌≡◌, Ok, is_ok, rules, sym, ap, ◌∙◌}
use Rattle.edits.specs.Commands.{unlink}
use Rattle.session.specs.Copying.{Copying, edit_step}
use Rattle.session.specs.Meaning.{meaning}
use Rattle.session.specs.Tokens.{handed_back}
use Rattle.routines.proofs.Holding.{taken_back}
use Rattle.routines.proofs.could_detach.Goals as goal

pub returns-in_err-revert_held : goal.returns-in_err-revert_held
returns-in_err-revert_held g c =
    let program = g.S.Store.program in
    let token = c.in_ok-token.token in
    let is : c.hold.result ≡ Ok token = search rules in
    let back =
    taken_back (meaning program c.args.session.now) (unlink c.args.n) (meaning program c.hold.new.self) (meaning program c.detach.new.self) token
    (sym is ∙ c.hold.ensures.answer) c.hold.ensures.after c.detach.ensures.after in
    let e = c.in_err-revert_held.ensures.answer ∙ ap (λ x. handed_back token x.answer) back in
    cc

pub returns : goal.returns
returns g c =
    let program = g.S.Store.program in
    let token = c.in_ok-token.token in
    let is : c.hold.result ≡ Ok token = search rules in
    let back =
    taken_back (meaning program c.args.session.now) (unlink c.args.n) (meaning program c.hold.new.self) (meaning program c.detach.new.self) token
    (sym is ∙ c.hold.ensures.answer) c.hold.ensures.after c.detach.ensures.after in (
      c.revert_held.ensures.after ∙ ap (λ x. x.after) back,
      c.is_ok-could.ensures.value ∙ ap is_ok (c.detach.ensures.answer ∙ ap (λ (x : Copying). (edit_step (unlink c.args.n) x).answer) c.hold.ensures.after),
    )

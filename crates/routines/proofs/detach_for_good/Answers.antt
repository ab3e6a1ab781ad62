use Rattle.std.proofs.Common.{◌≡◌, Ok, rules, sym, ap, ◌∙◌}
use Rattle.edits.specs.Commands.{unlink}
use Rattle.session.specs.Meaning.{meaning}
use Rattle.session.specs.Tokens.{handed_back}
use Rattle.routines.proofs.Holding.{kept}
use Rattle.routines.proofs.detach_for_good.Goals as goal

pub returns-in_err-accept_held : goal.returns-in_err-accept_held
returns-in_err-accept_held g c =
    let program = g.S.Store.program in
    let token = c.in_ok-token.token in
    let is : c.hold.result ≡ Ok token = search rules in
    let closed =
    kept (meaning program c.args.session.now) (unlink c.args.n) (meaning program c.hold.new.self) (meaning program c.detach.new.self) token
    (sym is ∙ c.hold.ensures.answer) c.hold.ensures.after c.detach.ensures.after in
    let e = c.in_err-accept_held.ensures.answer ∙ ap (λ x. handed_back token x.answer) closed in
    cc

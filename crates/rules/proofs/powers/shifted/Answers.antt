use Rattle.std.proofs.Common.{sym, ap, ◌∙◌}
use Rattle.rules.specs.Rules.{become, log}
use Rattle.rules.proofs.Logs.{shift_second}
use Rattle.rules.proofs.powers.shifted.Goals as goal

pub returns : goal.returns
returns g c =
    let p = g.S.Store.program c.args.store.now in
    ap become c.shift-2.ensures
    ∙ sym (shift_second c.args.a c.args.b (log p c.args.b) (log p c.args.a) c.in_ok-k.k (cc) (sym c.in_ok-k.ensures.answer))

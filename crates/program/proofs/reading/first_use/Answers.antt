use Rattle.std.proofs.Common.{◌∙◌, ap, None}
use Rattle.program.specs.Uses.{uses, least_beyond}
use Rattle.program.specs.Faults.{busy_fault}
use Rattle.program.proofs.Readings.{read_or, unread_unused}
use Rattle.program.proofs.reading.first_use.Goals as goal

pub returns : goal.returns
returns g c =
    let p = g.S.Store.program c.args.store.now in
    c.unwrap_or.ensures
    ∙ read_or (busy_fault p c.args.n) (least_beyond None (uses p c.args.n)) None c.next_use.result c.next_use.ensures
    (λ f. ap (least_beyond None) (unread_unused p (g.met.S.Store.proper c.args.store.now) c.args.n f))

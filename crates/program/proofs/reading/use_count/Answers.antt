use Rattle.std.proofs.Common.{◌∙◌, ap, length}
use Rattle.program.specs.Uses.{uses}
use Rattle.program.specs.Faults.{busy_fault}
use Rattle.program.proofs.Readings.{read_or, unread_unused}
use Rattle.program.proofs.reading.use_count.Goals as goal

pub returns : goal.returns
returns g c =
    let p = g.S.Store.program c.args.store.now in
    c.unwrap_or.ensures
    ∙ read_or (busy_fault p c.args.n) (length (uses p c.args.n)) 0 c.count_uses.result c.count_uses.ensures
    (λ f. ap length (unread_unused p (g.met.S.Store.proper c.args.store.now) c.args.n f))

use Rattle.std.proofs.Common.{◌∙◌, None}
use Rattle.program.specs.Faults.{placed_fault}
use Rattle.program.specs.Readings.{next_of}
use Rattle.program.proofs.Readings.{read_or, unplaced_none}
use Rattle.program.proofs.reading.next_of.Goals as goal

pub returns : goal.returns
returns g c =
    let p = g.S.Store.program c.args.store.now in
    c.unwrap_or.ensures
    ∙ read_or (placed_fault p c.args.n) (next_of p c.args.n) None c.next.result c.next.ensures
    (unplaced_none p (g.met.S.Store.proper c.args.store.now) c.args.n)

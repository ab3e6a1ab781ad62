use Rattle.std.proofs.Common.{◌∙◌, ap}
use Rattle.std.specs.Result.{result_map_both}
use Rattle.ir.specs.Instructions.{plain}
use Rattle.program.specs.Programs.{at}
use Rattle.program.specs.Faults.{busy_fault}
use Rattle.program.proofs.Readings.{read_or, plain_or, unread_zero}
use Rattle.program.proofs.reading.record_at.Goals as goal

pub returns : goal.returns
returns g c =
    let p = g.S.Store.program c.args.store.now in
    ap plain c.unwrap_or.ensures
    ∙ (plain_or c.read.result c.constant.result
    ∙ read_or (busy_fault p c.args.n) (at p c.args.n) (plain c.constant.result)
    (result_map_both plain (λ f. f) c.read.result) c.read.ensures
    (λ f. c.constant.ensures ∙ unread_zero p c.args.n f))

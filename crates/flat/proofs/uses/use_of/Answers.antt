use Rattle.std.proofs.Common.{sym}
use Rattle.ir.specs.Instructions.{plain}
use Rattle.flat.proofs.Usage.{least_positions}
use Rattle.flat.proofs.uses.use_of.Goals as goal

pub returns : goal.returns
returns c =
    rw (c.or-2.ensures, c.or.ensures, c.use_at-a.ensures, c.use_at-b.ensures, c.use_at-c.ensures, c.operands.ensures)
    (sym (least_positions c.args.after c.args.n c.args.user (plain c.args.what)))

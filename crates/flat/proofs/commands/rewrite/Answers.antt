use Rattle.flat.proofs.Writing.{rewritten}
use Rattle.flat.proofs.commands.rewrite.Goals as goal

pub returns : goal.returns
returns c = rewritten c.args.cells.now c.requires.sound c.args.n c.args.what c.requires.allowed c.cell_at-cell.result c.rewritten.result c.cell_at-cell.ensures c.rewritten.ensures.content c.rewritten.ensures.rank

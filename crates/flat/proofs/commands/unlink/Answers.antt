use Rattle.std.proofs.Common.{rules}
use Rattle.flat.specs.FlatModel.{down}
use Rattle.flat.proofs.Unlinking.{unlinked_cells}
use Rattle.flat.proofs.commands.unlink.Goals as goal

pub returns : goal.returns
returns c =
    unlinked_cells c.args.cells.now c.requires.sound c.args.n c.requires.allowed c.args.at c.requires.place
    c.rerank.new.cells (c.rerank.ensures (down c.args.at) (λ k r h p. search rules)) c.cell_at-cell.result c.unranked.result c.cell_at-cell.ensures
    c.unranked.ensures.content c.unranked.ensures.rank

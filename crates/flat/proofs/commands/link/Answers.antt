use Rattle.std.proofs.Common.{rules}
use Rattle.flat.specs.FlatModel.{up}
use Rattle.flat.proofs.Linking.{linked_cells}
use Rattle.flat.proofs.commands.link.Goals as goal

pub returns : goal.returns
returns c =
    linked_cells c.args.cells.now c.requires.sound c.args.n c.requires.busy c.requires.loose c.args.at c.requires.place
    c.rerank.new.cells (c.rerank.ensures (up c.args.at) (λ k r h p. search rules)) c.cell_at-cell.result c.ranked.result c.cell_at-cell.ensures
    c.ranked.ensures.content c.ranked.ensures.rank

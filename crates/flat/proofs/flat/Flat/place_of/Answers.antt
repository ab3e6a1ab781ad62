use Rattle.std.proofs.Common.{sym, ap, ◌∙◌}
use Rattle.flat.specs.FlatModel.{rank_of}
use Rattle.flat.proofs.Held.{sound}
use Rattle.flat.proofs.Orders.{index_ranked, index_unranked}
use Rattle.flat.proofs.flat.Flat.place_of.Goals as goal

pub returns-in-Some : goal.returns-in-Some
returns-in-Some c =
    sym (index_ranked c.args.self.now.cells.now (sound c.args.self.now) c.args.n c.in-Some.k (sym (c.in-Some.ensures ∙ ap rank_of c.cell_at.ensures)))

pub returns-in-None : goal.returns-in-None
returns-in-None c =
    c.count_placed.ensures
    ∙ sym (index_unranked c.args.self.now.cells.now (sound c.args.self.now) c.args.n (sym (c.in-None.ensures ∙ ap rank_of c.cell_at.ensures)))

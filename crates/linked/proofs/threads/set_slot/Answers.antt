use Rattle.std.proofs.Common.{refl}
use Rattle.linked.proofs.Columns.{rest_kept}
use Rattle.linked.proofs.Flats.{slot_write}
use Rattle.linked.proofs.threads.set_slot.Goals as goal

pub returns : goal.returns
returns c =
    let xs = c.args.cells.now in
    record {
      links = slot_write xs c.args.node c.args.to _ _ c.requires c.with.ensures;
      rest = rest_kept xs c.args.node.number _ _ refl refl;
    }

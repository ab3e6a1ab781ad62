use Rattle.std.proofs.Common.{ap, ◌∙◌}
use Rattle.linked.specs.Slots.{place}
use Rattle.linked.proofs.Flats.{slot_read}
use Rattle.linked.proofs.threads.slot.Goals as goal

pub returns : goal.returns
returns c = ap place c.at.ensures ∙ slot_read c.args.cells.now c.args.node c.index-cells-node.result c.requires

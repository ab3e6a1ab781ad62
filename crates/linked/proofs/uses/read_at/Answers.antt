use Rattle.std.proofs.Common.{ap, arith}
use Rattle.linked.specs.Slots.{seat_of}
use Rattle.linked.proofs.Usage.{operand_read, head_read}
use Rattle.linked.proofs.uses.read_at.Goals as goal

pub returns-in-A : goal.returns-in-A
returns-in-A c = operand_read c.args.cells.now c.args.node c.index-cells-node.result c.requires c.operands.result c.operands.ensures 0 (omega arith) (ap seat_of c.in-A.is)

pub returns-in-B : goal.returns-in-B
returns-in-B c = operand_read c.args.cells.now c.args.node c.index-cells-node.result c.requires c.operands.result c.operands.ensures 1 (omega arith) (ap seat_of c.in-B.is)

pub returns-in-C : goal.returns-in-C
returns-in-C c = operand_read c.args.cells.now c.args.node c.index-cells-node.result c.requires c.operands.result c.operands.ensures 2 (omega arith) (ap seat_of c.in-C.is)

pub returns-in-Head : goal.returns-in-Head
returns-in-Head c = head_read c.args.cells.now c.args.node (ap seat_of c.in-Head.is)

use Rattle.std.proofs.Common.{◌-◌, length}
use Rattle.linked.specs.Uses.{spots}
use Rattle.linked.specs.Slots.{place, links}
use Rattle.linked.specs.Facts.{table_in}
use Rattle.linked.proofs.Counting.{Rest}
use Rattle.linked.proofs.linked.Linked.count_all.Given as goal

abbrev pub invariant-loop-next : goal.invariant-loop-next
invariant-loop-next l = Rest (length l.self.cells.now) (links l.self.cells.now) (length (spots l.v 0 (table_in l.self.cells.now))) l.count (place l.node)

abbrev pub decreases-loop-next : goal.decreases-loop-next
decreases-loop-next l = length (spots l.v 0 (table_in l.self.cells.now)) - l.count

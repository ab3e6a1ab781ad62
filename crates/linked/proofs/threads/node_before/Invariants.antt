use Rattle.std.proofs.Common.{ℕ, ◌-◌, ◌*◌, List}
use Rattle.linked.specs.Uses.{spots}
use Rattle.linked.specs.Slots.{place, links, Lists}
use Rattle.linked.proofs.Walks.{Walk}
use Rattle.linked.proofs.threads.node_before.Given as goal

abbrev pub invariant-loop-w : goal.invariant-loop-w
invariant-loop-w l = (qs : List ℕ) → Lists l.cells qs → Walk (links l.cells) (4 * l.v) (spots l.v 0 qs) (place l.x) (place l.w) (place l.next)

abbrev pub decreases-loop-w : goal.decreases-loop-w
decreases-loop-w l = place l.x - place l.next

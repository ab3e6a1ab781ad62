use Rattle.linked.proofs.Ordering.{unlink_placed}
use Rattle.program.proofs.Faults.{allowed}
use Rattle.linked.proofs.Held.{store_sound, unlink_leaves}
use Rattle.linked.proofs.linked.LinkedStore.unlink.Goals as goal

pub unlink_at-self-requires : goal.unlink_at-self-requires
unlink_at-self-requires c =
    let s = c.args.self.now in
    let is = (store_sound s).linked in
    record { linked = is; placed = unlink_placed s.cells.now s.ends.next s.ends.prev is c.args.n (allowed _ _ c.in_ok-placed.ensures) }

pub invariant_of-self : goal.invariant_of-self
invariant_of-self c =
    let w = c.unlink_at-self.ensures in
    (unlink_leaves c.args.self.now c.args.n (allowed _ _ c.in_ok-placed.ensures) c.unlink_at-self.new.cells c.unlink_at-self.result.next c.unlink_at-self.result.prev w.linked w.after w.threads).1

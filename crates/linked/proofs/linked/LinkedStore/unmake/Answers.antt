use Rattle.linked.specs.declared.cells.Body.TheVariants.{Vacant}
use Rattle.program.proofs.Faults.{allowed}
use Rattle.linked.proofs.Held.{put_ready, unmake_may, unmake_leaves}
use Rattle.linked.proofs.linked.LinkedStore.unmake.Goals as goal

pub put-requires : goal.put-requires
put-requires c = let s = c.args.self.now in put_ready s c.args.n Vacant (unmake_may s c.args.n (allowed _ _ c.in_ok-unmake.ensures))

pub invariant_of-self : goal.invariant_of-self
invariant_of-self c = let w = c.put.ensures in (unmake_leaves c.args.self.now c.args.n (allowed _ _ c.in_ok-unmake.ensures) c.put.new.cells w.listed w.order w.bodies).1

pub returns-clause-after : goal.returns-clause-after
returns-clause-after c = let w = c.put.ensures in (unmake_leaves c.args.self.now c.args.n (allowed _ _ c.in_ok-unmake.ensures) c.put.new.cells w.listed w.order w.bodies).0

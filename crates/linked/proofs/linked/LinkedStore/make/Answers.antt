use Rattle.linked.specs.declared.cells.Body.TheVariants.{Idle}
use Rattle.program.proofs.Faults.{allowed, refused}
use Rattle.linked.proofs.Held.{put_ready, make_may, make_leaves}
use Rattle.linked.proofs.linked.LinkedStore.make.Goals as goal

pub returns-in_err-make-clause-after : goal.returns-in_err-make-clause-after
returns-in_err-make-clause-after c = refused _ _ _ _ c.in_err-make.ensures

pub put-requires : goal.put-requires
put-requires c = let s = c.args.self.now in put_ready s c.args.n (Idle c.args.what) (make_may s c.args.n c.args.what (allowed _ _ c.in_ok-make.ensures))

pub invariant_of-self : goal.invariant_of-self
invariant_of-self c = let w = c.put.ensures in (make_leaves c.args.self.now c.args.n c.args.what (allowed _ _ c.in_ok-make.ensures) c.put.new.cells w.listed w.order w.bodies).1

pub returns-clause-after : goal.returns-clause-after
returns-clause-after c = let w = c.put.ensures in (make_leaves c.args.self.now c.args.n c.args.what (allowed _ _ c.in_ok-make.ensures) c.put.new.cells w.listed w.order w.bodies).0

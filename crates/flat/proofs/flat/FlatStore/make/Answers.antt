use Rattle.ir.specs.Instructions.{plain}
use Rattle.program.proofs.Faults.{allowed, refused}
use Rattle.flat.proofs.Held.{kept, fields}
use Rattle.flat.proofs.flat.FlatStore.make.Goals as goal

pub returns-in_err-make-clause-after : goal.returns-in_err-make-clause-after
returns-in_err-make-clause-after c = refused _ _ _ _ c.in_err-make.ensures

pub make-requires-2-clause-allowed : goal.make-requires-2-clause-allowed
make-requires-2-clause-allowed c = allowed _ _ c.in_ok-make.ensures

pub invariant_of-self : goal.invariant_of-self
invariant_of-self c = let e = c.make-2.ensures in fields c.make-2.new.cells e.sound _ e.after ((kept c.args.self.now).by_make c.args.n (plain c.args.what) c.args.what.shaped)

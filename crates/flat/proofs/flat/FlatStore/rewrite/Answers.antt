use Rattle.ir.specs.Instructions.{plain}
use Rattle.program.proofs.Faults.{allowed, refused}
use Rattle.flat.proofs.Held.{kept, fields}
use Rattle.flat.proofs.flat.FlatStore.rewrite.Goals as goal

pub returns-in_err-rewrite-clause-after : goal.returns-in_err-rewrite-clause-after
returns-in_err-rewrite-clause-after c = refused _ _ _ _ c.in_err-rewrite.ensures

pub rewrite-requires-2-clause-allowed : goal.rewrite-requires-2-clause-allowed
rewrite-requires-2-clause-allowed c = allowed _ _ c.in_ok-rewrite.ensures

pub invariant_of-self : goal.invariant_of-self
invariant_of-self c = let e = c.rewrite-2.ensures in fields c.rewrite-2.new.cells e.sound _ e.after ((kept c.args.self.now).by_rewrite c.args.n (plain c.args.what) c.args.what.shaped)

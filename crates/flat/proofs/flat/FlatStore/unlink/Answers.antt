use Rattle.flat.proofs.Held.{kept, fields}
use Rattle.flat.proofs.flat.FlatStore.unlink.Goals as goal

pub invariant_of-self : goal.invariant_of-self
invariant_of-self c = let e = c.unlink.ensures in fields c.unlink.new.cells e.sound _ e.after ((kept c.args.self.now).by_unlink c.args.n)

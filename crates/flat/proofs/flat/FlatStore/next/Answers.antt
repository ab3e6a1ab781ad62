use Rattle.std.proofs.Common.{arith}
use Rattle.flat.proofs.Held.{sound}
use Rattle.flat.proofs.Neighbours.{index_small}
use Rattle.flat.proofs.flat.FlatStore.next.Goals as goal

pub overflow_add-place_of : goal.overflow_add-place_of
overflow_add-place_of c = let b = index_small c.args.self.now.cells.now (sound c.args.self.now) c.args.n in omega arith

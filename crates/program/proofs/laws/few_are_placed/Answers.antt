use Rattle.program.proofs.Orders.{few_placed}
use Rattle.program.proofs.laws.few_are_placed.Goals as goal

pub returns : goal.returns
returns c = few_placed

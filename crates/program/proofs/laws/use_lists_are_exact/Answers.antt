use Rattle.program.proofs.Uses.{uses_law}
use Rattle.program.proofs.laws.use_lists_are_exact.Goals as goal

pub returns : goal.returns
returns c = uses_law

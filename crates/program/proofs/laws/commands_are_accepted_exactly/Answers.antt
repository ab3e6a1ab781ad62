use Rattle.program.proofs.Accepting.{commands_accepted}
use Rattle.program.proofs.laws.commands_are_accepted_exactly.Goals as goal

pub returns : goal.returns
returns c = commands_accepted

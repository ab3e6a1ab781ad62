use Rattle.program.proofs.Keeping.{new_is_proper, commands_keep_proper}
use Rattle.program.proofs.laws.commands_keep_programs_proper.Goals as goal

pub returns : goal.returns
returns c = record { made = new_is_proper; kept = commands_keep_proper }

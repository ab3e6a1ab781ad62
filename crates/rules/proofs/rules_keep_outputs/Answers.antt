use Rattle.rules.proofs.Rules.{rules_keep_outputs, rules_by_commands}
use Rattle.rules.proofs.rules_keep_outputs.Goals as goal

pub returns : goal.returns
returns c = record { kept = rules_keep_outputs; commands = rules_by_commands }

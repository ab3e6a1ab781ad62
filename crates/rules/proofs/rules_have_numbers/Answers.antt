use Rattle.rules.proofs.Numbers.{rules_by_number, rules_listed}
use Rattle.rules.proofs.rules_have_numbers.Goals as goal

pub returns : goal.returns
returns c = record { whole = rules_by_number; listed = rules_listed }

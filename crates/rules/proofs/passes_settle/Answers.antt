use Rattle.rules.proofs.Passes.{spared_pass_law, second_pass_law}
use Rattle.rules.proofs.passes_settle.Goals as goal

pub returns : goal.returns
returns c = record { passed = spared_pass_law; again = second_pass_law }

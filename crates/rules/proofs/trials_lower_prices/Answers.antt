use Rattle.rules.proofs.Trials.{trial_law, trial_first}
use Rattle.rules.proofs.trials_lower_prices.Goals as goal

pub returns : goal.returns
returns c = record { lower = trial_law; first = trial_first }

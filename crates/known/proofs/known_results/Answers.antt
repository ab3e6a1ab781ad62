use Rattle.known.proofs.Table.{known_results}
use Rattle.known.proofs.known_results.Goals as goal

pub returns : goal.returns
returns c = known_results

use Rattle.edits.proofs.Renaming.{replace_end}
use Rattle.edits.proofs.Swaps.{replace_accepted, replace_step, replace_law}
use Rattle.edits.proofs.laws.replace_goes_use_by_use.Goals as goal

pub returns : goal.returns
returns c = record { accepted = replace_accepted; step = replace_step; end = replace_end; whole = replace_law }

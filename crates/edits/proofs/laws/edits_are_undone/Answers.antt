use Rattle.edits.proofs.Undoing.{edits_keep_proper, edits_undone}
use Rattle.edits.proofs.Journals.{journal_law}
use Rattle.edits.proofs.laws.edits_are_undone.Goals as goal

pub returns : goal.returns
returns c = record { kept = edits_keep_proper; undone = edits_undone; journal = journal_law }

use Rattle.std.proofs.Common.{sym}
use Rattle.session.proofs.Rows.{marks_length}
use Rattle.session.proofs.journal.Journal.depth.Goals as goal

pub returns : goal.returns
returns c = sym (marks_length c.args.self.now)

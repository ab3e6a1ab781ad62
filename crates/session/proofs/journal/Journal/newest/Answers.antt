use Rattle.std.proofs.Common.{take, ◌∙◌}
use Rattle.session.specs.Stack.{stack}
use Rattle.session.proofs.Stacks.{last_top}
use Rattle.session.proofs.journal.Journal.newest.Goals as goal

pub returns : goal.returns
unfolding stack
returns c = c.copied.ensures ∙ c.last.ensures.value ∙ last_top (take c.args.self.now.depth c.args.self.now.marks)

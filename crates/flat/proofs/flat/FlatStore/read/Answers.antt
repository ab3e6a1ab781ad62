use Rattle.std.proofs.Common.{ap, ◌∙◌}
use Rattle.flat.specs.FlatModel.{content}
use Rattle.program.proofs.Faults.{allowed}
use Rattle.flat.proofs.Accepted.{read_held}
use Rattle.flat.proofs.flat.FlatStore.read.Goals as goal

pub returns : goal.returns
returns c = read_held c.args.self.now.cells.now c.args.n (allowed _ _ c.in_ok-range.ensures) c.record.result (c.record.ensures ∙ ap content c.cell_at.ensures) c.ok_or.result c.ok_or.ensures.value

use Rattle.std.proofs.Common.{sym, ◌∙◌}
use Rattle.linked.proofs.Ordering.{last_number}
use Rattle.linked.proofs.Held.{store_sound}
use Rattle.linked.proofs.linked.LinkedStore.last.Goals as goal

pub returns : goal.returns
returns c = let s = c.args.self.now in c.number_of.ensures ∙ sym (last_number s.cells.now s.ends.next s.ends.prev (store_sound s).linked)

use Rattle.std.proofs.Common.{sym, ap, ◌∙◌, ◌*◌}
use Rattle.linked.specs.Paths.{low}
use Rattle.linked.specs.Uses.{spots}
use Rattle.linked.specs.Slots.{place}
use Rattle.linked.specs.Facts.{table_in}
use Rattle.linked.proofs.Held.{store_sound}
use Rattle.linked.proofs.Usage.{at_use, same_entry}
use Rattle.linked.proofs.linked.Linked.node_at.Goals as goal

pub returns-then-eq : goal.returns-then-eq
returns-then-eq c = at_use c.args.self.now.cells.now (store_sound c.args.self.now).listed c.args.v c.requires.v (place c.args.x) (sym c.read_at.ensures ∙ same_entry c.read_at.result c.args.v (sym c.eq.ensures ∙ c.if-eq.true))

pub node_before-requires-clause-woven : goal.node_before-requires-clause-woven
node_before-requires-clause-woven c = let s = c.args.self.now in (table_in s.cells.now, (store_sound s).listed)

pub returns : goal.returns
returns c =
    let s = c.args.self.now in
    let qs = table_in s.cells.now in
    c.node_before.ensures qs (store_sound s).listed ∙ ap (λ k. low k (4 * c.args.v) (spots c.args.v 0 qs)) c.behind.ensures

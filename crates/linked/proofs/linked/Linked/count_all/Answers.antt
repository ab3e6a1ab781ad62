use Rattle.std.proofs.Common.{◌≡◌, ◌≤◌, length, None, sym, ◌∙◌, subst, arith}
use Rattle.linked.specs.Uses.{spots}
use Rattle.linked.specs.Slots.{place, links}
use Rattle.linked.specs.Facts.{table_in}
use Rattle.linked.proofs.Counting.{Rest, rest_start, rest_more, rest_end, spots_few}
use Rattle.linked.proofs.Flats.{node_found, node_lost}
use Rattle.linked.proofs.Held.{store_sound}
use Rattle.linked.proofs.Usage.{listed_length}
use Rattle.linked.proofs.linked.Linked.count_all.Goals as goal

pub loop-next-init : goal.loop-next-init
loop-next-init c =
    let s = c.args.self.now in
    let xs = s.cells.now in
    subst (Rest (length xs) (links xs) (length (spots c.args.v 0 (table_in xs))) 0) (sym c.head-node.ensures)
    (rest_start (length xs) (table_in xs) (links xs) (store_sound s).listed c.args.v c.requires)

pub overflow_add-count : goal.overflow_add-count
overflow_add-count c =
    let s = c.args.self.now in
    let xs = s.cells.now in
    let few = (store_sound s).listed.few in
    let wide = (store_sound s).listed.wide_table in
    let most = spots_few c.args.v 0 (table_in xs) in
    let f = node_found c.slot.result c.in-Some.next (sym c.found.ensures ∙ c.in-Some.is) in
    let less = (rest_more (length xs) (links xs) (length (spots c.args.v 0 (table_in xs))) c.loop-next.count (place c.loop-next.node) (place c.in-Some.next) c.loop-next.invariant (f.0 ∙ c.slot.ensures) f.1).1 in
    omega arith

pub loop-next-preserved : goal.loop-next-preserved
loop-next-preserved c =
    let xs = c.args.self.now.cells.now in
    let f = node_found c.slot.result c.in-Some.next (sym c.found.ensures ∙ c.in-Some.is) in
    (rest_more (length xs) (links xs) (length (spots c.args.v 0 (table_in xs))) c.loop-next.count (place c.loop-next.node) (place c.in-Some.next) c.loop-next.invariant (f.0 ∙ c.slot.ensures) f.1).0

pub loop-next-smaller : goal.loop-next-smaller
loop-next-smaller c =
    let xs = c.args.self.now.cells.now in
    let f = node_found c.slot.result c.in-Some.next (sym c.found.ensures ∙ c.in-Some.is) in
    let less = (rest_more (length xs) (links xs) (length (spots c.args.v 0 (table_in xs))) c.loop-next.count (place c.loop-next.node) (place c.in-Some.next) c.loop-next.invariant (f.0 ∙ c.slot.ensures) f.1).1 in
    omega arith

pub returns : goal.returns
returns c =
    let s = c.args.self.now in
    let xs = s.cells.now in
    let none : c.found.result ≡ None = c.in_default.is in
    let far = node_lost c.slot.result (sym c.found.ensures ∙ none) in
    rest_end (length xs) (links xs) (length (spots c.args.v 0 (table_in xs))) c.loop-next.count (place c.loop-next.node) (store_sound s).listed.few c.loop-next.invariant (subst (λ k. 4096 ≤ k) c.slot.ensures far)
    ∙ listed_length xs (store_sound s).listed c.args.v c.requires

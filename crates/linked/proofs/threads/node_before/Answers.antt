use Rattle.std.proofs.Common.{◌*◌, ◌≤◌, length, get_or, sym, ap, ◌∙◌, subst, arith}
use Rattle.std.proofs.lemmas.Bool.{ltb-true}
use Rattle.linked.specs.Uses.{spots}
use Rattle.linked.specs.Slots.{place, links}
use Rattle.linked.proofs.Flats.{less_place}
use Rattle.linked.proofs.Walks.{Walk, walk_start, walk_more}
use Rattle.linked.proofs.threads.node_before.Goals as goal

pub loop-w-init : goal.loop-w-init
loop-w-init c qs is =
    let ls = links c.args.cells.now in
    let v = c.args.v in
    let x = place c.args.x in
    let next = place c.slot-next.result in
    let e = c.head-w.ensures in
    subst (λ w. Walk ls (4 * v) (spots v 0 qs) x w next) (sym e)
    (walk_start (length c.args.cells.now) qs ls is v x next c.requires.v (c.slot-next.ensures ∙ ap (λ k. get_or ls k 0) e))

pub loop-w-preserved : goal.loop-w-preserved
loop-w-preserved c qs is =
    let few = is.few in
    let fits : place c.args.x ≤ 4096 = omega (arith, c.requires.x) in
    let less = ltb-true (place c.loop-w.next) (place c.args.x) (sym (less_place c.loop-w.next c.args.x) ∙ sym c.lt.ensures ∙ c.loop-w-test.true) in
    (walk_more (links c.args.cells.now) (4 * c.args.v) (spots c.args.v 0 qs) (place c.args.x) fits (place c.loop-w.w) (place c.loop-w.next) (place c.slot-next-in-loop-w.result) (c.loop-w.invariant qs is) less c.slot-next-in-loop-w.ensures).0

pub loop-w-smaller : goal.loop-w-smaller
loop-w-smaller c =
    let qs = c.requires.woven.0 in
    let is = c.requires.woven.1 in
    let few = is.few in
    let fits : place c.args.x ≤ 4096 = omega (arith, c.requires.x) in
    let less = ltb-true (place c.loop-w.next) (place c.args.x) (sym (less_place c.loop-w.next c.args.x) ∙ sym c.lt.ensures ∙ c.loop-w-test.true) in
    let up = (walk_more (links c.args.cells.now) (4 * c.args.v) (spots c.args.v 0 qs) (place c.args.x) fits (place c.loop-w.w) (place c.loop-w.next) (place c.slot-next-in-loop-w.result) (c.loop-w.invariant qs is) less c.slot-next-in-loop-w.ensures).1 in
    omega arith

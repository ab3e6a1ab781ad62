use Rattle.std.proofs.Common.{◌≡◌, ◌*◌, length, get_or, set, ap, ◌∙◌, arith}
use Rattle.linked.specs.Paths.{low}
use Rattle.linked.specs.Uses.{spots, w_low, thread_in}
use Rattle.linked.specs.Slots.{place, links}
use Rattle.linked.proofs.Columns.{rest_then, relisted}
use Rattle.linked.proofs.threads.thread_in.Goals as goal

pub slot-next-requires : goal.slot-next-requires
slot-next-requires c =
    let qs = c.requires.0 in
    let o = c.requires.1 in
    let e = c.node_before-w.ensures qs o.lists in
    let w = w_low (length c.args.cells.now) qs (links c.args.cells.now) o.lists c.args.v (place c.args.x) o.value o.within o.plain o.free in
    omega arith

pub set_slot-requires-2 : goal.set_slot-requires-2
set_slot-requires-2 c =
    let qs = c.requires.0 in
    let o = c.requires.1 in
    let e = c.node_before-w.ensures qs o.lists in
    let w = w_low (length c.args.cells.now) qs (links c.args.cells.now) o.lists c.args.v (place c.args.x) o.value o.within o.plain o.free in
    omega arith

pub returns-clause-lists : goal.returns-clause-lists
returns-clause-lists c qs o =
    let xs = c.args.cells.now in
    let zs = c.set_slot-2.new.cells in
    let v = c.args.v in
    let x = place c.args.x in
    let ls = links xs in
    let w = low x (4 * v) (spots v 0 qs) in
    let e : place c.node_before-w.result ≡ w = c.node_before-w.ensures qs o.lists in
    let n : place c.slot-next.result ≡ get_or ls w 0 = c.slot-next.ensures ∙ ap (λ k. get_or ls k 0) e in
    let l : links zs ≡ set (set ls x (get_or ls w 0)) w x =
    c.set_slot-2.ensures.links ∙ ap (λ k. set k (place c.node_before-w.result) x) (c.set_slot.ensures.links ∙ ap (set ls x) n) ∙ ap (λ k. set (set ls x (get_or ls w 0)) k x) e in
    relisted xs zs (set qs x v) (set (set ls x (get_or ls w 0)) w x) (rest_then xs c.set_slot.new.cells zs c.set_slot.ensures.rest c.set_slot-2.ensures.rest) l
    (thread_in (length xs) qs ls o.lists v x o.value o.within o.plain o.free)

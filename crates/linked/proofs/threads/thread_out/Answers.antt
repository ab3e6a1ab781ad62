use Rattle.std.proofs.Common.{◌≡◌, ◌*◌, length, get_or, set, ap, ◌∙◌, arith}
use Rattle.linked.specs.Paths.{low}
use Rattle.linked.specs.Uses.{spots, w_out_low, thread_out}
use Rattle.linked.specs.Slots.{place, links}
use Rattle.linked.proofs.Columns.{relisted}
use Rattle.linked.proofs.threads.thread_out.Goals as goal

pub set_slot-requires : goal.set_slot-requires
set_slot-requires c =
    let qs = c.requires.0 in
    let o = c.requires.1 in
    let e = c.node_before-w.ensures qs o.lists in
    let w = w_out_low (length c.args.cells.now) qs (links c.args.cells.now) o.lists c.args.v (place c.args.x) o.value o.used in
    omega arith

pub returns-clause-lists : goal.returns-clause-lists
returns-clause-lists c qs o =
    let xs = c.args.cells.now in
    let ys = c.set_slot.new.cells in
    let v = c.args.v in
    let x = place c.args.x in
    let ls = links xs in
    let w = low x (4 * v) (spots v 0 qs) in
    let e : place c.node_before-w.result ≡ w = c.node_before-w.ensures qs o.lists in
    let l : links ys ≡ set ls w (get_or ls x 0) =
    c.set_slot.ensures.links ∙ ap (λ k. set ls k (place c.slot-next.result)) e ∙ ap (set ls w) c.slot-next.ensures in
    relisted xs ys (set qs x 4096) (set ls w (get_or ls x 0)) c.set_slot.ensures.rest l (thread_out (length xs) qs ls o.lists v x o.value o.used)

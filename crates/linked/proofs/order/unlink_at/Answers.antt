use Rattle.std.proofs.Common.{ap, ◌∙◌, arith}
use Rattle.std.specs.List.{remove}
use Rattle.program.specs.Programs.{index_of}
use Rattle.linked.specs.LinkedModel.{bodies, nexts, prevs, at, order_of, loosen_body, next_out, prev_out}
use Rattle.linked.proofs.Placing.{body_read, moved, loosen_content, placed_low, unlink_near, unlink_chained}
use Rattle.linked.proofs.order.unlink_at.Goals as goal

pub splice_out-requires : goal.splice_out-requires
splice_out-requires c =
    let xs = c.args.cells.now in
    let f = c.args.ends.next in
    let l = c.args.ends.prev in
    let n = c.args.n in
    let a = placed_low xs f l c.requires.linked n c.requires.placed in
    let near = unlink_near xs f l c.requires.linked n c.requires.placed in
    let before = near.0 in
    let after = near.1 in
    let e = ap (λ p. at p n) (c.set_body.ensures.order.prevs l) in
    let g = ap (λ p. at p n) (c.set_body.ensures.order.nexts f) in
    record { n = omega arith; before = omega arith; after = omega arith }

pub returns : goal.returns
returns c =
    let xs = c.args.cells.now in
    let f = c.args.ends.next in
    let l = c.args.ends.prev in
    let n = c.args.n in
    let o = order_of (bodies xs) (nexts xs f) in
    let en = c.set_body.ensures.order.nexts f in
    let ep = c.set_body.ensures.order.prevs l in
    let rest = c.splice_out.ensures.rest in
    let m =
    moved xs c.splice_out.new.cells f c.splice_out.result.next c.splice_out.result.prev n loosen_body loosen_content c.loosened-body.result
    (c.loosened-body.ensures ∙ ap loosen_body (body_read xs n c.index-cells-n.result (placed_low xs f l c.requires.linked n c.requires.placed)))
    (rest.bodies ∙ c.set_body.ensures.bodies)
    (next_out (nexts xs f) (prevs xs l) n) (prev_out (nexts xs f) (prevs xs l) n) (remove o (index_of n o))
    (c.splice_out.ensures.nexts ∙ ap (λ s. next_out s (prevs c.set_body.new.cells l) n) en ∙ ap (λ p. next_out (nexts xs f) p n) ep)
    (c.splice_out.ensures.prevs ∙ ap (λ s. prev_out s (prevs c.set_body.new.cells l) n) en ∙ ap (λ p. prev_out (nexts xs f) p n) ep)
    (unlink_chained xs f l c.requires.linked n c.requires.placed) in
    record { linked = m.0; after = m.1; threads = rest.threads ∙ c.set_body.ensures.threads }

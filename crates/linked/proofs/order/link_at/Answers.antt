use Rattle.std.proofs.Common.{ap, ◌∙◌, arith}
use Rattle.std.specs.List.{insert}
use Rattle.program.specs.Programs.{index_of}
use Rattle.linked.specs.LinkedModel.{bodies, nexts, prevs, at, order_of, place_body, next_in, prev_in}
use Rattle.linked.proofs.Placing.{body_read, moved, place_content, loose_low, link_before_low, link_chained}
use Rattle.linked.proofs.order.link_at.Goals as goal

pub splice_in-requires-clause-before : goal.splice_in-requires-clause-before
splice_in-requires-clause-before c =
    let low = link_before_low c.args.cells.now c.args.ends.next c.args.ends.prev c.requires.linked c.args.n c.requires.loose c.args.t c.requires.anchor in
    let kept = ap (λ p. at p c.args.t) (c.set_body.ensures.order.prevs c.args.ends.prev) in
    omega arith

pub returns : goal.returns
returns c =
    let xs = c.args.cells.now in
    let f = c.args.ends.next in
    let l = c.args.ends.prev in
    let n = c.args.n in
    let t = c.args.t in
    let o = order_of (bodies xs) (nexts xs f) in
    let en = c.set_body.ensures.order.nexts f in
    let ep = c.set_body.ensures.order.prevs l in
    let rest = c.splice_in.ensures.rest in
    let m =
    moved xs c.splice_in.new.cells f c.splice_in.result.next c.splice_in.result.prev n place_body place_content c.placed-body.result
    (c.placed-body.ensures ∙ ap place_body (body_read xs n c.index-cells-n.result (loose_low xs f l c.requires.linked n c.requires.loose)))
    (rest.bodies ∙ c.set_body.ensures.bodies)
    (next_in (nexts xs f) (prevs xs l) n t) (prev_in (prevs xs l) n t) (insert o (index_of t o) n)
    (c.splice_in.ensures.nexts ∙ ap (λ s. next_in s (prevs c.set_body.new.cells l) n t) en ∙ ap (λ p. next_in (nexts xs f) p n t) ep)
    (c.splice_in.ensures.prevs ∙ ap (λ p. prev_in p n t) ep)
    (link_chained xs f l c.requires.linked n c.requires.loose t c.requires.anchor) in
    record { linked = m.0; after = m.1; threads = rest.threads ∙ c.set_body.ensures.threads }

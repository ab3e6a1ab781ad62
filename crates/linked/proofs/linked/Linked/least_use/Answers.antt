use Rattle.std.proofs.Common.{◌+◌, ◌*◌, map, get_or, sym, ap, ◌∙◌, arith}
use Rattle.program.specs.Uses.{least_beyond, uses_from}
use Rattle.linked.specs.LinkedModel.{content, bodies}
use Rattle.linked.specs.Slots.{seat_of, links}
use Rattle.linked.specs.Reading.{decode}
use Rattle.linked.proofs.Held.{store_sound}
use Rattle.linked.proofs.Usage.{use_first, use_beyond, use_none, low_node}
use Rattle.linked.proofs.linked.Linked.least_use.Goals as goal

pub returns-in-None : goal.returns-in-None
returns-in-None c =
    let xs = c.args.self.now.cells.now in
    let us = uses_from c.args.v 0 (map content (bodies xs)) in
    c.use_after.ensures ∙ ap (λ k. decode (get_or (links xs) k 0)) c.head.ensures ∙ use_first xs (store_sound c.args.self.now).listed c.args.v c.requires ∙ ap (λ o. least_beyond o us) (sym c.in-None.is)

pub returns-then-user-self : goal.returns-then-user-self
returns-then-user-self c =
    let xs = c.args.self.now.cells.now in
    let us = uses_from c.args.v 0 (map content (bodies xs)) in
    sym (use_none xs (store_sound c.args.self.now).listed c.args.v c.requires c.in-Some.user c.in-Some.position c.if-user-self.true) ∙ ap (λ o. least_beyond o us) (sym c.in-Some.is)

pub use_after-requires-in-Some : goal.use_after-requires-in-Some
use_after-requires-in-Some c =
    let l = low_node c.args.self.now.cells.now (store_sound c.args.self.now).listed c.args.v c.requires (4 * c.in-Some.user + seat_of c.seat_at-seat.result + 1) in
    let e = c.node_at-w.ensures in
    omega arith

pub returns-else-user-self : goal.returns-else-user-self
returns-else-user-self c =
    let xs = c.args.self.now.cells.now in
    let us = uses_from c.args.v 0 (map content (bodies xs)) in
    let u = c.in-Some.user in
    let q = c.seat_at-seat.ensures in
    c.use_after-in-Some.ensures
    ∙ ap (λ k. decode (get_or (links xs) k 0)) c.node_at-w.ensures
    ∙ use_beyond xs (store_sound c.args.self.now).listed c.args.v c.requires u c.in-Some.position (seat_of c.seat_at-seat.result) q.0 q.1
    ∙ ap (λ o. least_beyond o us) (sym c.in-Some.is)

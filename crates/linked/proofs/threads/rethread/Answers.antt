use Rattle.std.proofs.Common.{◌≡◌, ◌+◌, ◌*◌, ◌<◌, length, set, sym, ap, ◌∙◌, subst, arith}
use Rattle.std.proofs.lemmas.List.{set-get_or, set-set, get_or-set_same}
use Rattle.linked.specs.Slots.{seat_of, entry, Lists}
use Rattle.linked.proofs.threads.rethread.Goals.{in-Some, in_default}
use Rattle.linked.proofs.threads.rethread.Goals as goal

pub returns-in-Some-new-clause-lists : goal.returns-in-Some-new-clause-lists
returns-in-Some-new-clause-lists c qs o =
    let x = 4 * c.args.n + seat_of c.args.seat in
    let empty : Lists c.match-old.cells (set qs x 4096) =
    elim c.match-old.branch [
      | in-Some w ↦ subst (λ ys. Lists ys (set qs x 4096)) (sym w.cells-is) (w.thread_out.ensures.lists qs (record { lists = o.lists; value = o.was w.in-Some.v w.in-Some.is; used = o.used ∙ ap entry w.in-Some.is }))
      | in_default w ↦
          let same : qs ≡ set qs x 4096 = sym (ap (set qs x) (sym (o.used ∙ ap entry w.in_default.is)) ∙ set-get_or qs x 4096) in
          subst (λ ys. Lists ys (set qs x 4096)) (sym w.cells-is) (subst (Lists c.args.cells.now) same o.lists)
    ] in
    let len : length c.match-old.cells ≡ length c.args.cells.now = c.match-old.auto.cells in
    let wide = o.lists.wide_table in
    let low : x < 4 * length c.args.cells.now = o.within in
    let v : c.in-Some-new.v < length c.args.cells.now = o.value c.in-Some-new.v c.in-Some-new.is in
    subst (Lists c.thread_in.new.cells) (set-set qs x 4096 c.in-Some-new.v ∙ ap (λ e. set qs x (entry e)) (sym c.in-Some-new.is))
    (c.thread_in.ensures.lists (set qs x 4096) (record {
      lists = empty;
      value = omega arith;
      within = omega arith;
      plain = o.plain;
      free = get_or-set_same qs x 4096 4096 (omega arith);
    }))

-- A rank opened, and a number put there.
use Rattle.std.proofs.Common.{◌≡◌, ℕ, ◌+◌, ◌-◌, ◌<◌, ◌≤◌, true, leb, ◌≢◌, List, map, length, get_or, set, Some, None, Option, sym, ap, ◌∙◌, subst, ⊎_elim, arith}
use Rattle.std.specs.Option.{option_map}
use Rattle.std.specs.List.{insert}
use Rattle.std.proofs.lemmas.List.Edits.{length-insert, get_or-insert_below, get_or-insert_at, get_or-insert_above}
use Rattle.std.proofs.lemmas.Bool.{cases_eq, cases_lt, le-leb, lt-leb, cond-true, cond-false}
use Rattle.program.specs.Programs.{Program, busy, Busy, In}
use Rattle.program.specs.Faults.{link_fault}
use Rattle.program.specs.Commands.{reorder, anchor_place, after_link}
use Rattle.program.proofs.Faults.{settles}
use Rattle.flat.specs.declared.cells.FlatCell.{FlatCell}
use Rattle.flat.specs.declared.cells.FlatCell.TheVariants.{Vacant}
use Rattle.flat.specs.FlatModel.{content, rank_of, weight, rank_at, placed_count, order_of, flat_program, rerank, up, Sound}
use Rattle.flat.proofs.Accepted.{After, busy_within, busy_here, out_rank}
use Rattle.flat.proofs.Orders.{Ordered, ordered_from_sound, index_bound}
use Rattle.flat.proofs.Moving.{moved, unmapped, rank_here, rank_else, count_moved, sound_moved, program_moved}

up_over : (at k : ℕ) → at ≤ k → up at k ≡ k + 1
up_over at k h = cond-true (leb at k) (k + 1) k (le-leb at k h)

up_under : (at k : ℕ) → k < at → up at k ≡ k
up_under at k h = cond-false (leb at k) (k + 1) k (lt-leb at k h)

module _ (xs : List FlatCell) (n at : ℕ) (x : FlatCell) (within : n < length xs) (was : rank_at xs n ≡ None) (new : rank_of x ≡ Some at) where
  abbrev linked : List FlatCell
  linked = moved (up at) xs n x within

  rank_new : rank_at linked n ≡ Some at
  rank_new = rank_here (up at) xs n x within ∙ new

  rank_old : (m : ℕ) → m ≢ n → rank_at linked m ≡ option_map (up at) (rank_at xs m)
  rank_old = rank_else (up at) xs n x within

  module _ (o : List ℕ) (is : Ordered xs o) (fits : at ≤ length o) where
    long_order : length (insert o at n) ≡ length o + 1
    long_order = length-insert o at n fits

    count_linked : length (insert o at n) ≡ placed_count linked
    count_linked =
        let l = long_order in
        let d = is.count in
        let c = count_moved (up at) xs n x within in
        let v : weight (rank_at xs n) ≡ 0 = ap weight was in
        let w : weight (rank_of x) ≡ 1 = ap weight new in
        omega arith

    low_linked : (m r : ℕ) → rank_at linked m ≡ Some r → r < length (insert o at n)
    low_linked m r e =
        let l = long_order in
        ⊎_elim
        (λ q. let p : rank_at linked n ≡ Some r = ap (rank_at linked) (sym q) ∙ e in let f = rank_new in let z : at ≡ r = cc in omega arith)
        (λ ne.
        let u = unmapped (rank_at xs m) (up at) r (sym (rank_old m ne) ∙ e) in
        let b = is.low m u.0 u.1 in
        ⊎_elim
        (λ under. let v = up_under at u.0 under in let t = u.2 in omega arith)
        (λ over. let v = up_over at u.0 over in let t = u.2 in omega arith)
        (cases_lt u.0 at))
        (cases_eq m n)

    ranked_linked : (m r : ℕ) → rank_at linked m ≡ Some r → get_or (insert o at n) r 0 ≡ m
    ranked_linked m r e =
        ⊎_elim
        (λ q.
        let p : rank_at linked n ≡ Some r = ap (rank_at linked) (sym q) ∙ e in
        let f = rank_new in
        let z : at ≡ r = cc in
        ap (λ k. get_or (insert o at n) k 0) (sym z) ∙ get_or-insert_at o at n 0 fits ∙ sym q)
        (λ ne.
        let u = unmapped (rank_at xs m) (up at) r (sym (rank_old m ne) ∙ e) in
        let g = is.ranked m u.0 u.1 in
        ⊎_elim
        (λ under.
        ap (λ k. get_or (insert o at n) k 0) (sym u.2 ∙ up_under at u.0 under) ∙ get_or-insert_below o at n 0 u.0 under fits ∙ g)
        (λ over.
        ap (λ k. get_or (insert o at n) k 0) (sym u.2 ∙ up_over at u.0 over) ∙ get_or-insert_above o at n 0 u.0 over fits ∙ g)
        (cases_lt u.0 at))
        (cases_eq m n)

    -- a number of the old order, at its new rank
    risen : (j : ℕ) → j < length o → rank_at linked (get_or o j 0) ≡ Some (up at j)
    risen j h =
        let p = is.placed j h in
        let ne : get_or o j 0 ≢ n = λ q. (let p' : rank_at xs n ≡ Some j = ap (rank_at xs) (sym q) ∙ p in let z : ◌≡◌ {A = ℕ} 0 1 = cc in omega arith) in
        rank_old (get_or o j 0) ne ∙ ap (option_map (up at)) p

    placed_linked : (j : ℕ) → j < length (insert o at n) → rank_at linked (get_or (insert o at n) j 0) ≡ Some j
    placed_linked j h =
        let l = long_order in
        ⊎_elim
        (λ under.
        ap (rank_at linked) (get_or-insert_below o at n 0 j under fits) ∙ risen j (omega arith) ∙ ap Some (up_under at j under))
        (λ over.
        ⊎_elim
        (λ q. ap (λ k. rank_at linked (get_or (insert o at n) k 0)) q ∙ ap (rank_at linked) (get_or-insert_at o at n 0 fits) ∙ rank_new ∙ ap Some (sym q))
        (λ ne.
        let k : ℕ = j - 1 in
        let e : j ≡ k + 1 = omega arith in
        let b : at ≤ k = omega arith in
        ap (λ i. rank_at linked (get_or (insert o at n) i 0)) e
        ∙ ap (rank_at linked) (get_or-insert_above o at n 0 k b fits)
        ∙ risen k (omega arith)
        ∙ ap Some (up_over at k b ∙ sym e))
        (cases_eq j at))
        (cases_lt j at)

    ordered_linked : Ordered linked (insert o at n)
    ordered_linked = record { count = count_linked; low = low_linked; ranked = ranked_linked; placed = placed_linked }

-- the cells after a loose number was put at a place
module _ (xs : List FlatCell) (s : Sound xs) (n : ℕ) (busy_n : Busy (flat_program xs) n) (loose : In n (order_of xs) → ⊥) (at : ℕ) (fits : at ≤ length (order_of xs))
    (ys : List FlatCell) (opened : ys ≡ map (rerank (up at)) xs) (old x : FlatCell) (is : old ≡ get_or xs n Vacant) (same : content x ≡ content old)
    (rank : busy (content old) ≡ true → rank_of x ≡ Some at) where
  within : n < length xs
  within = busy_within xs n busy_n

  ordered : Ordered (set (map (rerank (up at)) xs) n x) (insert (order_of xs) at n)
  ordered =
      ordered_linked xs n at x within (out_rank xs n s loose) (rank (ap (λ c. busy (content c)) is ∙ busy_here xs n busy_n)) (order_of xs)
      (ordered_from_sound xs s) fits

  pub linked_cells : After (set ys n x) (reorder (flat_program xs) (insert (order_of xs) at n))
  linked_cells =
      subst (λ l. After (set l n x) (reorder (flat_program xs) (insert (order_of xs) at n))) (sym opened)
      (record {
        after = program_moved (up at) xs n x within (insert (order_of xs) at n) ordered (same ∙ ap content is);
        sound = sound_moved (up at) xs n x within (insert (order_of xs) at n) ordered s.few;
      })

-- the place of an anchor is in the order, or its end
pub anchor_bound : (p : Program) (a : Option ℕ) → anchor_place p a ≤ length p.order
anchor_bound p None = omega arith
anchor_bound p (Some a) = index_bound a p.order

-- that place is where an accepted link puts a number
pub linked_after :
    (p : Program) (n at : ℕ) (a : Option ℕ) (q : Program) → link_fault p n a ≡ None → at ≡ anchor_place p a → q ≡ reorder p (insert p.order at n) → q ≡ after_link p n a
linked_after p n at a q none place e =
    e ∙ ap (λ k. reorder p (insert p.order k n)) place ∙ sym (settles (link_fault p n a) (reorder p (insert p.order (anchor_place p a) n)) p none)

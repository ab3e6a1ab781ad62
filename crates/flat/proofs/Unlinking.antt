-- A number taken from its rank, and the rank closed.
use Rattle.std.proofs.Common.{◌≡◌, ℕ, ◌+◌, ◌-◌, ◌<◌, ◌≤◌, ltb, ◌≢◌, List, map, length, get_or, set, Some, None, sym, ap, ◌∙◌, subst, ⊎_elim, arith}
use Rattle.std.specs.Option.{option_map}
use Rattle.std.specs.List.{remove}
use Rattle.std.proofs.lemmas.List.Edits.{length-remove, get_or-remove_below, get_or-remove_above}
use Rattle.std.proofs.lemmas.Bool.{cases_eq, cases_lt, lt-ltb, le-ltb, cond-true, cond-false}
use Rattle.program.specs.Programs.{Program, index_of}
use Rattle.program.specs.Faults.{placed_fault}
use Rattle.program.specs.Commands.{reorder, after_unlink}
use Rattle.flat.specs.declared.cells.FlatCell.{FlatCell}
use Rattle.flat.specs.declared.cells.FlatCell.TheVariants.{Vacant}
use Rattle.flat.specs.FlatModel.{content, rank_of, weight, rank_at, placed_count, order_of, flat_program, rerank, down, Sound}
use Rattle.flat.proofs.Accepted.{After, accepted, unlink_within, unlink_rank}
use Rattle.flat.proofs.Orders.{Ordered, ordered_from_sound}
use Rattle.flat.proofs.Moving.{moved, unmapped, rank_here, rank_else, count_moved, sound_moved, program_moved}

down_over : (at k : ℕ) → at < k → down at k ≡ k - 1
down_over at k h = cond-true (ltb at k) (k - 1) k (lt-ltb at k h)

down_under : (at k : ℕ) → k ≤ at → down at k ≡ k
down_under at k h = cond-false (ltb at k) (k - 1) k (le-ltb at k h)

module _ (xs : List FlatCell) (n at : ℕ) (x : FlatCell) (within : n < length xs) (was : rank_at xs n ≡ Some at) (new : rank_of x ≡ None) where
  abbrev unlinked : List FlatCell
  unlinked = moved (down at) xs n x within

  rank_gone : rank_at unlinked n ≡ None
  rank_gone = rank_here (down at) xs n x within ∙ new

  rank_old : (m : ℕ) → m ≢ n → rank_at unlinked m ≡ option_map (down at) (rank_at xs m)
  rank_old = rank_else (down at) xs n x within

  module _ (o : List ℕ) (is : Ordered xs o) where
    inside : at < length o
    inside = is.low n at was

    long_order : length (remove o at) + 1 ≡ length o
    long_order = length-remove o at inside

    count_unlinked : length (remove o at) ≡ placed_count unlinked
    count_unlinked =
        let l = long_order in
        let d = is.count in
        let c = count_moved (down at) xs n x within in
        let v : weight (rank_at xs n) ≡ 1 = ap weight was in
        let w : weight (rank_of x) ≡ 0 = ap weight new in
        omega arith

    -- a rank that is left is an old one of another number
    left : (m r : ℕ) → rank_at unlinked m ≡ Some r → (k : ℕ) × (rank_at xs m ≡ Some k) × (down at k ≡ r) × (k ≢ at)
    left m r e =
        ⊎_elim
        (λ q. let p : rank_at unlinked n ≡ Some r = ap (rank_at unlinked) (sym q) ∙ e in let f = rank_gone in let z : ◌≡◌ {A = ℕ} 0 1 = cc in absurd (omega arith))
        (λ ne.
        let u = unmapped (rank_at xs m) (down at) r (sym (rank_old m ne) ∙ e) in
        (u.0, u.1, u.2, λ q. ne (sym (is.ranked m u.0 u.1) ∙ (ap (λ k. get_or o k 0) q ∙ is.ranked n at was))))
        (cases_eq m n)

    low_unlinked : (m r : ℕ) → rank_at unlinked m ≡ Some r → r < length (remove o at)
    low_unlinked m r e =
        let l = long_order in
        let i = inside in
        let u = left m r e in
        let b = is.low m u.0 u.1 in
        ⊎_elim
        (λ over. let v = down_over at u.0 over in let t = u.2 in omega arith)
        (λ under. let v = down_under at u.0 under in let t = u.2 in let ne = u.3 in omega arith)
        (cases_lt at u.0)

    ranked_unlinked : (m r : ℕ) → rank_at unlinked m ≡ Some r → get_or (remove o at) r 0 ≡ m
    ranked_unlinked m r e =
        let u = left m r e in
        let g = is.ranked m u.0 u.1 in
        let t = u.2 in
        ⊎_elim
        (λ over.
        let v = down_over at u.0 over in
        let up : r + 1 ≡ u.0 = omega arith in
        get_or-remove_above o at 0 r (omega arith) inside ∙ ap (λ k. get_or o k 0) up ∙ g)
        (λ under.
        let v = down_under at u.0 under in
        let ne = u.3 in
        let same : r ≡ u.0 = omega arith in
        get_or-remove_below o at 0 r (omega arith) inside ∙ ap (λ k. get_or o k 0) same ∙ g)
        (cases_lt at u.0)

    -- another number of the old order, at its new rank
    fallen : (j : ℕ) → j < length o → j ≢ at → rank_at unlinked (get_or o j 0) ≡ Some (down at j)
    fallen j h apart =
        let p = is.placed j h in
        let ne : get_or o j 0 ≢ n = λ q. apart (let p' : rank_at xs n ≡ Some j = ap (rank_at xs) (sym q) ∙ p in cc) in
        rank_old (get_or o j 0) ne ∙ ap (option_map (down at)) p

    placed_unlinked : (j : ℕ) → j < length (remove o at) → rank_at unlinked (get_or (remove o at) j 0) ≡ Some j
    placed_unlinked j h =
        let l = long_order in
        ⊎_elim
        (λ under.
        ap (rank_at unlinked) (get_or-remove_below o at 0 j under inside)
        ∙ fallen j (omega arith) (λ q. omega arith)
        ∙ ap Some (down_under at j (omega arith)))
        (λ over.
        let back : j + 1 - 1 ≡ j = omega arith in
        ap (rank_at unlinked) (get_or-remove_above o at 0 j over inside)
        ∙ fallen (j + 1) (omega arith) (λ q. omega arith)
        ∙ ap Some (down_over at (j + 1) (omega arith) ∙ back))
        (cases_lt j at)

    ordered_unlinked : Ordered unlinked (remove o at)
    ordered_unlinked = record { count = count_unlinked; low = low_unlinked; ranked = ranked_unlinked; placed = placed_unlinked }

-- the cells after an accepted unlink
module _ (xs : List FlatCell) (s : Sound xs) (n : ℕ) (none : placed_fault (flat_program xs) n ≡ None) where
  abbrev p : Program
  p = flat_program xs

  module _ (at : ℕ) (place : at ≡ index_of n (order_of xs)) (ys : List FlatCell) (closed : ys ≡ map (rerank (down at)) xs) (old x : FlatCell) (is : old ≡ get_or xs n Vacant)
      (same : content x ≡ content old) (rank : rank_of x ≡ None) where
    within : n < length xs
    within = unlink_within xs n none

    ordered : Ordered (set (map (rerank (down at)) xs) n x) (remove (order_of xs) at)
    ordered =
        ordered_unlinked xs n at x within (unlink_rank xs n s none ∙ ap Some (sym place)) rank (order_of xs) (ordered_from_sound xs s)

    pub unlinked_cells : After (set ys n x) (after_unlink p n)
    unlinked_cells =
        let new : Program = reorder p (remove (order_of xs) (index_of n (order_of xs))) in
        subst (λ l. After (set l n x) (after_unlink p n)) (sym closed)
        (accepted (placed_fault p n) (set (map (rerank (down at)) xs) n x) new p none
        (program_moved (down at) xs n x within (remove (order_of xs) at) ordered (same ∙ ap content is) ∙ ap (λ k. reorder p (remove (order_of xs) k)) place)
        (sound_moved (down at) xs n x within (remove (order_of xs) at) ordered s.few))

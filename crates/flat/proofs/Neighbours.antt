-- The numbers at the places of the order, as a scan for a rank finds them.
use Rattle.std.proofs.Common.{◌≡◌, ℕ, suc, ◌+◌, ◌<◌, ◌≤◌, cond, ltb, List, length, Some, None, sym, refl, ap, ◌∙◌, ⊎_elim, arith}
use Rattle.std.specs.List.{slice_get, position, position_or_len}
use Rattle.std.proofs.lemmas.Option.{slice_get-get_or, slice_get_past}
use Rattle.std.proofs.lemmas.Bool.{cases_lt, lt-ltb, le-ltb, cond-true, cond-false}
use Rattle.std.proofs.lemmas.List.Recursion.{is_position_or_len}
use Rattle.program.specs.Programs.{index_of}
use Rattle.flat.specs.declared.cells.FlatCell.{FlatCell}
use Rattle.flat.specs.FlatModel.{rank_of, is_rank, placed_count, find_rank, order_of, Sound}
use Rattle.flat.specs.Keeping.{find_holds, length_order, get_or_order}
use Rattle.flat.proofs.Orders.{index_bound}
use Rattle.flat.proofs.Counting.{order_small}

rank_position : (j : ℕ) (xs : List FlatCell) → find_rank j xs ≡ position_or_len (λ c. is_rank j (rank_of c)) xs
rank_position j =
    is_position_or_len (find_rank j) (λ c. is_rank j (rank_of c)) refl
    (λ c cs. let one : suc (find_rank j cs) ≡ 1 + find_rank j cs = omega arith in ap (cond (is_rank j (rank_of c)) 0) one)

module _ (xs : List FlatCell) (s : Sound xs) where
  nth_found : (j i : ℕ) → find_rank j xs ≡ i → i < length xs → Some i ≡ slice_get (order_of xs) j
  nth_found j i e h =
      let len = length_order xs in
      let f : find_rank j xs < length xs = omega arith in
      let low : j < placed_count xs = s.low (find_rank j xs) j (find_holds j xs f) in
      let k : j < length (order_of xs) = omega arith in
      ap Some (sym e) ∙ sym (slice_get-get_or (order_of xs) j 0 k ∙ ap Some (get_or_order xs j low))

  nth_missing : (j : ℕ) → length xs ≤ find_rank j xs → None ≡ slice_get (order_of xs) j
  nth_missing j h =
      let len = length_order xs in
      let past : length (order_of xs) ≤ j =
      ⊎_elim (λ l. let f = s.filled j l in absurd (omega arith)) (λ l. omega arith) (cases_lt j (placed_count xs))
      in sym (slice_get_past (order_of xs) j past)

  pub nth : (j : ℕ) → position (λ c. is_rank j (rank_of c)) xs ≡ slice_get (order_of xs) j
  nth j =
      let i = position_or_len (λ c. is_rank j (rank_of c)) xs in
      let e = rank_position j xs in
      ⊎_elim
      (λ h. cond-true (ltb i (length xs)) (Some i) None (lt-ltb i (length xs) h) ∙ nth_found j i e h)
      (λ h. cond-false (ltb i (length xs)) (Some i) None (le-ltb i (length xs) h) ∙ nth_missing j (omega arith))
      (cases_lt i (length xs))

  pub index_small : (n : ℕ) → index_of n (order_of xs) ≤ 1024
  index_small n = let b = index_bound n (order_of xs) in let c = order_small xs s in omega arith

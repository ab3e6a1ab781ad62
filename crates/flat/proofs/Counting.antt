-- How many cells have a rank.
use Rattle.std.proofs.Common.{◌≡◌, ℕ, ◌+◌, ◌<◌, ◌≤◌, cond, List, [], ◌∷◌, length, is_some, Some, None, Option, sym, refl, ◌∙◌, arith, zero-add}
use Rattle.std.specs.List.{count_by}
use Rattle.std.proofs.lemmas.List.Recursion.{is_count_by}
use Rattle.flat.specs.declared.cells.FlatCell.{FlatCell}
use Rattle.flat.specs.FlatModel.{rank_of, weight, placed_count, order_of, rank_at, Sound}
use Rattle.flat.specs.Keeping.{length_order}

-- how many cells have a rank, as a loop counts them
pub count_ranked : (xs : List FlatCell) → count_by (λ c. is_some (rank_of c)) xs ≡ length (order_of xs)
count_ranked xs = sym (length_order xs ∙ is_count_by placed_count (λ c. is_some (rank_of c)) refl (λ c cs. by_rank (rank_of c) cs) xs)
  where
    by_rank : (o : Option ℕ) (cs : List FlatCell) → weight o + placed_count cs ≡ cond (is_some o) (1 + placed_count cs) (placed_count cs)
    by_rank None cs = zero-add (placed_count cs)
    by_rank (Some k) cs = refl

-- ---- bounds

weight_bound : (o : Option ℕ) → weight o ≤ 1
weight_bound None = omega arith
weight_bound (Some k) = omega arith

count_bound : (xs : List FlatCell) → placed_count xs ≤ length xs
count_bound [] = omega arith
count_bound (x ∷ xs) = let e = count_bound xs in let w = weight_bound (rank_of x) in omega arith

pub order_small : (xs : List FlatCell) → Sound xs → length (order_of xs) ≤ 1024
order_small xs s = let b = count_bound xs in let l = length_order xs in let f = s.few in omega arith

pub rank_small : (xs : List FlatCell) → Sound xs → (n r : ℕ) → rank_at xs n ≡ Some r → r < 1024
rank_small xs s n r e = let h = s.low n r e in let l = length_order xs in let b = order_small xs s in omega arith

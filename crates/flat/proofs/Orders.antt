-- The order that ranks stand for.
use Rattle.std.proofs.Common.{◌≡◌, ℕ, zero, suc, ◌<◌, ◌≤◌, Bool, true, false, cond, eqb, List, [], ◌∷◌, length, get_or, Some, None, Option, sym, refl, ◌∙◌, ⊎_elim, arith}
use Rattle.std.proofs.lemmas.List.{ext_get_or, get_or_past}
use Rattle.std.proofs.lemmas.Bool.{eq-eqb, eqb-true, cases_lt}
use Rattle.program.specs.Programs.{index_of}
use Rattle.flat.specs.declared.cells.FlatCell.{FlatCell}
use Rattle.flat.specs.declared.cells.FlatCell.TheVariants.{Vacant}
use Rattle.flat.specs.FlatModel.{rank_of, is_rank, placed_count, find_rank, order_of, rank_at, Sound}
use Rattle.flat.specs.Keeping.{find_holds, length_order, get_or_order, order_ranks}

-- ---- the first number of a rank

test_from_rank : (j : ℕ) (o : Option ℕ) → o ≡ Some j → is_rank j o ≡ true
test_from_rank j None e = let z : ◌≡◌ {A = ℕ} 0 1 = cc in absurd (omega arith)
test_from_rank j (Some k) e = eq-eqb k j (cc)

rank_within : (cells : List FlatCell) (n r : ℕ) → rank_at cells n ≡ Some r → n < length cells
rank_within cells n r e =
    ⊎_elim (λ h. h)
    (λ past. let p = get_or_past cells n Vacant past in let z : ◌≡◌ {A = ℕ} 0 1 = cc in absurd (omega arith))
    (cases_lt n (length cells))

find_least : (j : ℕ) (cells : List FlatCell) (n : ℕ) → rank_at cells n ≡ Some j → find_rank j cells ≤ n
find_least j [] n e = omega arith
find_least j (c ∷ cs) zero e = rw (test_from_rank j (rank_of c) e) (omega arith)
find_least j (c ∷ cs) (suc n) e =
    let below = find_least j cs n e in
    elim (is_rank j (rank_of c)) as (λ b. cond b 0 (suc (find_rank j cs)) ≤ suc n) [ true ↦ omega arith | false ↦ omega arith ]

-- ---- the place of a number in a list

pub index_bound : (n : ℕ) (o : List ℕ) → index_of n o ≤ length o
index_bound n [] = omega arith
index_bound n (x ∷ xs) =
    let below = index_bound n xs in
    elim (eqb x n) as (λ b. cond b 0 (suc (index_of n xs)) ≤ suc (length xs)) [ true ↦ omega arith | false ↦ omega arith ]

index_least : (n : ℕ) (o : List ℕ) (r : ℕ) → r < length o → get_or o r 0 ≡ n → index_of n o ≤ r
index_least n [] r h e = omega arith
index_least n (x ∷ xs) zero h e = rw (eq-eqb x n e) (omega arith)
index_least n (x ∷ xs) (suc r) h e =
    let below = index_least n xs r (omega arith) e in
    elim (eqb x n) as (λ b. cond b 0 (suc (index_of n xs)) ≤ suc r) [ true ↦ omega arith | false ↦ omega arith ]

index_holds : (n : ℕ) (o : List ℕ) → index_of n o < length o → get_or o (index_of n o) 0 ≡ n
index_holds n [] h = absurd (omega arith)
index_holds n (x ∷ xs) h =
    let by_test : (b : Bool) → eqb x n ≡ b → cond b 0 (suc (index_of n xs)) < suc (length xs) → get_or (x ∷ xs) (cond b 0 (suc (index_of n xs))) 0 ≡ n
    = elim [ true ↦ (λ e l. eqb-true x n e) | false ↦ (λ e l. index_holds n xs (omega arith)) ]
    in by_test (eqb x n) refl h

-- ---- a list of numbers that the ranks stand for

pub record Ordered (cells : List FlatCell) (o : List ℕ) : Type 0 where
  pub count : length o ≡ placed_count cells
  pub low : (n r : ℕ) → rank_at cells n ≡ Some r → r < length o
  pub ranked : (n r : ℕ) → rank_at cells n ≡ Some r → get_or o r 0 ≡ n
  pub placed : (j : ℕ) → j < length o → rank_at cells (get_or o j 0) ≡ Some j

pub ordered_from_sound : (cells : List FlatCell) → Sound cells → Ordered cells (order_of cells)
ordered_from_sound cells s =
    let len = length_order cells in
    record {
      count = len;
      low = λ n r e. let h = s.low n r e in omega arith;
      ranked = λ n r e. get_or_order cells r (s.low n r e) ∙ s.apart n r e;
      placed = order_ranks cells s.filled;
    }

module _ (cells : List FlatCell) (o : List ℕ) (is : Ordered cells o) where
  find_at : (j n : ℕ) → rank_at cells n ≡ Some j → find_rank j cells ≡ n
  find_at j n e =
      let w = rank_within cells n j e in
      let l = find_least j cells n e in
      let f = find_holds j cells (omega arith) in
      sym (is.ranked (find_rank j cells) j f) ∙ is.ranked n j e

  pub order_unique : order_of cells ≡ o
  order_unique =
      let len = length_order cells in
      let c = is.count in
      ext_get_or 0 (order_of cells) o (len ∙ sym c)
      (λ j h. let k : j < placed_count cells = omega arith in get_or_order cells j k ∙ find_at j (get_or o j 0) (is.placed j (omega arith)))

  pub sound_from_ordered : length cells ≤ 1024 → Sound cells
  sound_from_ordered few =
      let c = is.count in
      record {
        few = few;
        filled = λ j h.
            let e = is.placed j (omega arith) in
            let w = rank_within cells (get_or o j 0) j e in
            let f = find_at j (get_or o j 0) e in
            omega arith;
        low = λ n r e. let h = is.low n r e in omega arith;
        apart = λ n r e. find_at r n e;
      }

module _ (cells : List FlatCell) (s : Sound cells) (n : ℕ) where
  abbrev order : List ℕ
  order = order_of cells

  is : Ordered cells order
  is = ordered_from_sound cells s

  -- the place of a placed number is its rank
  pub index_ranked : (r : ℕ) → rank_at cells n ≡ Some r → index_of n order ≡ r
  index_ranked r e =
      let h = is.low n r e in
      let l = index_least n order r h (is.ranked n r e) in
      let f = index_holds n order (omega arith) in
      let p : rank_at cells (get_or order (index_of n order) 0) ≡ Some (index_of n order) = is.placed (index_of n order) (omega arith) in
      let q : rank_at cells n ≡ Some (index_of n order) = rw f at p in
      cc

  -- the place of another is the end
  pub index_unranked : rank_at cells n ≡ None → index_of n order ≡ length order
  index_unranked e =
      ⊎_elim
      (λ h.
      let f = index_holds n order h in
      let q : rank_at cells n ≡ Some (index_of n order) = rw f at (is.placed (index_of n order) h) in
      let z : ◌≡◌ {A = ℕ} 0 1 = cc in
      absurd (omega arith))
      (λ h. let b = index_bound n order in omega arith)
      (cases_lt (index_of n order) (length order))

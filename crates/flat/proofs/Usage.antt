-- Uses, as a scan of the cells finds them.
use Rattle.std.proofs.Common.{◌≡◌, ℕ, zero, suc, ◌+◌, ◌<◌, ◌≤◌, true, false, cond, eqb, ltb, List, [], ◌∷◌, ◌++◌, map, length, get_or, take, drop, Some, None, Option, sym, refl, ap, ◌∙◌, arith}
use Rattle.std.specs.Option.{option_or}
use Rattle.std.specs.List.{sum_by}
use Rattle.std.proofs.lemmas.List.{append-nil, length-append, length-map, at_drop_more, at_drop_all}
use Rattle.std.proofs.lemmas.List.Sums.{sum_by-cons}
use Rattle.ir.specs.Operations.{arity}
use Rattle.ir.specs.declared.operation.Op.{Op}
use Rattle.ir.specs.Instructions.{Instr, slot}
use Rattle.program.specs.Programs.{Cell, operands}
use Rattle.program.specs.Uses.{uses_at, uses_by, uses_from, beyond, least_beyond}
use Rattle.flat.specs.declared.cells.FlatCell.{FlatCell}
use Rattle.flat.specs.declared.cells.FlatCell.TheVariants.{Vacant}
use Rattle.flat.specs.FlatModel.{content, one_use}
use Rattle.flat.specs.Keeping.{get_or_map_at}

-- ---- one instruction

module _ (v u : ℕ) where
  step : (k x : ℕ) (xs : List ℕ) → uses_at v u k (x ∷ xs) ≡ one_use (Some x) v (u, k) ++ uses_at v u (suc k) xs
  step k x xs =
      elim (eqb x v) as (λ t. cond t ((u, k) ∷ uses_at v u (suc k) xs) (uses_at v u (suc k) xs) ≡ cond t ((u, k) ∷ []) [] ++ uses_at v u (suc k) xs) [ true ↦ refl | false ↦ refl ]

  module _ (a b c : ℕ) where
    -- of so many operands, position by position
    by_count : (m : ℕ) → m ≤ 3 → uses_at v u 1 (take m (a ∷ (b ∷ (c ∷ [])))) ≡ one_use (slot (ltb 0 m) a) v (u, 1) ++ (one_use (slot (ltb 1 m) b) v (u, 2) ++ one_use (slot (ltb 2 m) c) v (u, 3))
    by_count zero h = refl
    by_count (suc zero) h = step 1 a []
    by_count (suc (suc zero)) h = step 1 a (b ∷ []) ∙ ap (λ l. one_use (Some a) v (u, 1) ++ l) (step 2 b [])
    by_count (suc (suc (suc zero))) h =
        step 1 a (b ∷ (c ∷ []))
        ∙ ap (λ l. one_use (Some a) v (u, 1) ++ l) (step 2 b (c ∷ []) ∙ ap (λ l. one_use (Some b) v (u, 2) ++ l) (step 3 c [] ∙ append-nil (one_use (Some c) v (u, 3))))
    by_count (suc (suc (suc (suc m)))) h = absurd (omega arith)

-- the user changes no count
length_any : (v u w k : ℕ) (xs : List ℕ) → length (uses_at v u k xs) ≡ length (uses_at v w k xs)
length_any v u w k [] = refl
length_any v u w k (x ∷ xs) =
    let e = length_any v u w (suc k) xs in
    elim (eqb x v) as (λ b. length (cond b ((u, k) ∷ uses_at v u (suc k) xs) (uses_at v u (suc k) xs)) ≡ length (cond b ((w, k) ∷ uses_at v w (suc k) xs) (uses_at v w (suc k) xs))) [
      | true ↦ ap suc e
      | false ↦ e
    ]

length_by : (v u w : ℕ) (c : Cell) → length (uses_by v u c) ≡ length (uses_by v w c)
length_by v u w None = refl
length_by v u w (Some i) = length_any v u w 1 (operands i)

-- the counts of the cells add up
pub count_uses : (v u : ℕ) (xs : List FlatCell) → sum_by (λ c. length (uses_by v 0 (content c))) xs ≡ length (uses_from v u (map content xs))
count_uses v u [] = refl
count_uses v u (c ∷ cs) =
    let s = sum_by-cons (λ d. length (uses_by v 0 (content d))) c cs in
    let one = length_by v 0 u (content c) in
    let more = count_uses v (u + 1) cs in
    let l = length-append (uses_by v u (content c)) (uses_from v (u + 1) (map content cs)) in
    omega arith

few_operands : (op : Op) → arity op ≤ 3
few_operands op = grind arith

-- ---- the least use

module _ (after : Option (ℕ × ℕ)) where
  least_append : (xs ys : List (ℕ × ℕ)) → least_beyond after (xs ++ ys) ≡ option_or (least_beyond after xs) (least_beyond after ys)
  least_append [] ys = refl
  least_append (x ∷ xs) ys =
      elim (beyond after x) as (λ b. cond b (Some x) (least_beyond after (xs ++ ys)) ≡ option_or (cond b (Some x) (least_beyond after xs)) (least_beyond after ys)) [
        | true ↦ refl
        | false ↦ least_append xs ys
      ]

  pub least_positions :
      (v u : ℕ) (i : Instr)
      → least_beyond after (uses_at v u 1 (operands i))
      ≡ option_or (least_beyond after (one_use (slot (ltb 0 (arity i.op)) i.a) v (u, 1))) (option_or (least_beyond after (one_use (slot (ltb 1 (arity i.op)) i.b) v (u, 2))) (least_beyond after (one_use (slot (ltb 2 (arity i.op)) i.c) v (u, 3))))
  least_positions v u i =
      let a = one_use (slot (ltb 0 (arity i.op)) i.a) v (u, 1) in
      let b = one_use (slot (ltb 1 (arity i.op)) i.b) v (u, 2) in
      let c = one_use (slot (ltb 2 (arity i.op)) i.c) v (u, 3) in
      ap (least_beyond after) (by_count v u i.a i.b i.c (arity i.op) (few_operands i.op))
      ∙ least_append a (b ++ c)
      ∙ ap (option_or (least_beyond after a)) (least_append b c)

-- ---- the scan of the cells

module _ (v : ℕ) (xs : List FlatCell) (after : Option (ℕ × ℕ)) where
  -- the uses by the cells from a number on
  abbrev rest : ℕ → List (ℕ × ℕ)
  rest i = uses_from v i (drop i (map content xs))

  -- the least use by one cell
  abbrev here : ℕ → Option (ℕ × ℕ)
  here i = least_beyond after (uses_by v i (content (get_or xs i Vacant)))

  step_rest : (i : ℕ) → i < length xs → least_beyond after (rest i) ≡ option_or (here i) (least_beyond after (rest (i + 1)))
  step_rest i h =
      let l = length-map xs content in
      let cs : List Cell = map content xs in
      at_drop_more (λ l. least_beyond after (uses_from v i l)) cs i None (omega arith)
      ∙ least_append after (uses_by v i (get_or cs i None)) (rest (i + 1))
      ∙ ap (λ c. option_or (least_beyond after (uses_by v i c)) (least_beyond after (rest (i + 1)))) (get_or_map_at content xs i Vacant)

  -- a step to the next cell, by what the cell has
  found_step : (i : ℕ) → i < length xs → (o : Option (ℕ × ℕ)) → o ≡ here i → least_beyond after (rest i) ≡ option_or o (least_beyond after (rest (i + 1)))
  found_step i h o e = step_rest i h ∙ ap (λ p. option_or p (least_beyond after (rest (i + 1)))) (sym e)

  skipped : (m : ℕ) → m ≤ length xs → ((k : ℕ) → k < m → None ≡ here k) → least_beyond after (rest 0) ≡ least_beyond after (rest m)
  skipped zero h f = refl
  skipped (suc m) h f =
      let e : m + 1 ≡ suc m = omega arith in
      skipped m (omega arith) (λ k l. f k (omega arith)) ∙ found_step m (omega arith) None (f m (omega arith)) ∙ ap (λ i. least_beyond after (rest i)) e

  -- the first cell that has one has the least of all
  pub least_first :
      (r : Option (ℕ × ℕ)) → (r ≡ None → (k : ℕ) → k < length xs → None ≡ here k)
      → ((y : ℕ × ℕ) → r ≡ Some y → (i : ℕ) × (i < length xs) × (Some y ≡ here i) × ((k : ℕ) → k < i → None ≡ here k)) → r ≡ least_beyond after (uses_from v 0 (map content xs))
  least_first None none some =
      let l = length-map xs content in
      sym (skipped (length xs) (omega arith) (none refl) ∙ at_drop_all (λ l. least_beyond after (uses_from v (length xs) l)) (map content xs) (length xs) (omega arith))
  least_first (Some y) none some =
      let s = some y refl in
      let h = s.1 in
      sym (skipped s.0 (omega arith) s.3 ∙ found_step s.0 s.1 (Some y) s.2)

-- The lemmas behind the ghost member `proper` of the flat store, which may cite specs alone.
use Rattle.std.specs.Prelude.{◌≡◌, ℕ, zero, suc, ◌<◌, ◌≤◌, Bool, true, false, cond, List, [], ◌∷◌, map, length, Some, None, Option, slice_index, slice_index_or, refl}
use Rattle.std.proofs.Common.{sym, ap, ◌∙◌, subst, ⊎_elim, arith, zero-add}
use Rattle.std.proofs.lemmas.List.FromFn.{length-map-range_with_len, get_or-map-range_with_len}
use Rattle.std.proofs.lemmas.List.{length-map}
use Rattle.std.proofs.lemmas.Bool.{eqb-true}
use Rattle.ir.specs.Instructions.{Shapely}
use Rattle.program.specs.Programs.{cell, busy, held, In, Distinct}
use Rattle.program.specs.Proper.{Proper, Tied}
use Rattle.program.proofs.Keeping.{zero_shapely, tied_from}
use Rattle.flat.specs.declared.cells.FlatCell.{FlatCell}
use Rattle.flat.specs.declared.cells.FlatCell.TheVariants.{Vacant, Idle, Ranked}
use Rattle.flat.specs.FlatModel.{content, rank_of, is_rank, rank_at, placed_count, find_rank, order_of, flat_program, Filled}

-- ---- the order

rank_from_test : (j : ℕ) (o : Option ℕ) → is_rank j o ≡ true → o ≡ Some j
rank_from_test j None e = let z : ◌≡◌ {A = ℕ} 0 1 = cc in absurd (omega arith)
rank_from_test j (Some k) e = ap Some (eqb-true k j e)

pub find_holds : (j : ℕ) (cells : List FlatCell) → find_rank j cells < length cells → rank_at cells (find_rank j cells) ≡ Some j
find_holds j [] h = absurd (omega arith)
find_holds j (c ∷ cs) h =
    let by_test : (b : Bool) → is_rank j (rank_of c) ≡ b → cond b 0 (suc (find_rank j cs)) < suc (length cs) → rank_at (c ∷ cs) (cond b 0 (suc (find_rank j cs))) ≡ Some j
    = elim [ true ↦ (λ e l. rank_from_test j (rank_of c) e) | false ↦ (λ e l. find_holds j cs (omega arith)) ]
    in by_test (is_rank j (rank_of c)) refl h

pub length_order : (cells : List FlatCell) → length (order_of cells) ≡ placed_count cells
length_order cells = length-map-range_with_len (λ j. find_rank j cells) 0 (placed_count cells)

pub get_or_order : (cells : List FlatCell) (j : ℕ) → j < placed_count cells → slice_index (order_of cells) j ≡ find_rank j cells
get_or_order cells j h = get_or-map-range_with_len (λ i. find_rank i cells) 0 (placed_count cells) j j 0 h (zero-add j)

-- the number at a place of the order has that rank
pub order_ranks : (cells : List FlatCell) → Filled cells → (j : ℕ) → j < length (order_of cells) → rank_at cells (slice_index (order_of cells) j) ≡ Some j
order_ranks cells filled j h =
    let l = length_order cells in
    let k : j < placed_count cells = omega arith in
    ap (rank_at cells) (get_or_order cells j k) ∙ find_holds j cells (filled j k)

-- ---- places of a list

in_place : (k : ℕ) (xs : List ℕ) → In k xs → (i : ℕ) × (i < length xs) × (slice_index xs i ≡ k)
in_place k [] h = absurd h
in_place k (x ∷ xs) h =
    ⊎_elim (λ q. (0, omega arith, q)) (λ q. let r = in_place k xs q in let l = r.1 in (suc r.0, omega arith, r.2)) h

distinct_from : (o : List ℕ) → ((i j : ℕ) → i < length o → j < length o → slice_index o i ≡ slice_index o j → i ≡ j) → Distinct o
distinct_from [] f = tt
distinct_from (x ∷ xs) f = (
  λ h.
      let r = in_place x xs h in
      let l = r.1 in
      let z : ◌≡◌ {A = ℕ} 0 (suc r.0) = f 0 (suc r.0) (omega arith) (omega arith) (sym r.2) in omega arith,
  distinct_from xs (λ i j a b e. let z : suc i ≡ suc j = f (suc i) (suc j) (omega arith) (omega arith) e in omega arith),
)

-- ---- cells

pub get_or_map_at : {X Y : Type 0} (f : X → Y) (xs : List X) (n : ℕ) (d : X) → slice_index_or (map f xs) n (f d) ≡ f (slice_index_or xs n d)
get_or_map_at f [] n d = refl
get_or_map_at f (x ∷ xs) zero d = refl
get_or_map_at f (x ∷ xs) (suc n) d = get_or_map_at f xs n d

pub cell_flat : (cells : List FlatCell) (n : ℕ) → cell (flat_program cells) n ≡ content (slice_index_or cells n Vacant)
cell_flat cells n = get_or_map_at content cells n Vacant

ranked_busy : (c : FlatCell) (k : ℕ) → rank_of c ≡ Some k → busy (content c) ≡ true
ranked_busy Vacant k e = let z : ◌≡◌ {A = ℕ} 0 1 = cc in absurd (omega arith)
ranked_busy (Idle r) k e = refl
ranked_busy (Ranked r j) k e = refl

cell_shapely : (c : FlatCell) → Shapely (held (content c))
cell_shapely Vacant = zero_shapely
cell_shapely (Idle r) = r.shaped
cell_shapely (Ranked r k) = r.shaped

-- ---- the program

pub proper_flat : (xs : List FlatCell) → length xs ≤ 1024 → Filled xs → Tied (flat_program xs) → Proper (flat_program xs)
proper_flat xs few filled tied =
    let ranks : (j : ℕ) → j < length (order_of xs) → rank_at xs (slice_index (order_of xs) j) ≡ Some j = order_ranks xs filled in
    record {
      few = subst (λ m. m ≤ 1024) (sym (length-map xs content)) few;
      distinct = distinct_from (order_of xs)
          (λ i j a b e. let z : Some i ≡ Some j = sym (ranks i a) ∙ (ap (rank_at xs) e ∙ ranks j b) in cc);
      placed = λ k h.
          let p = in_place k (order_of xs) h in
          ap busy (cell_flat xs k) ∙ ranked_busy (slice_index_or xs k Vacant) p.0 (ap (rank_at xs) (sym p.2) ∙ ranks p.0 p.1);
      shaped = λ k. subst (λ c. Shapely (held c)) (sym (cell_flat xs k)) (cell_shapely (slice_index_or xs k Vacant));
      tied = tied_from (flat_program xs) tied;
    }

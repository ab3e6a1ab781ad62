-- A new linked store.
use Rattle.std.proofs.Common.{◌≡◌, ℕ, zero, suc, ◌*◌, ◌<◌, ◌≤◌, false, cond, eqb, List, [], ◌∷◌, ◌++◌, map, length, get_or, replicate, None, sym, refl, ap, ◌∙◌, arith}
use Rattle.std.proofs.lemmas.List.{length-replicate, length-map}
use Rattle.std.proofs.lemmas.Bool.{ne_eqb}
use Rattle.program.specs.Programs.{program_of, new_program}
use Rattle.linked.specs.declared.cells.Body.TheVariants.{Vacant}
use Rattle.linked.specs.declared.cells.LinkedCell.{LinkedCell}
use Rattle.linked.specs.LinkedModel.{content, mark, bodies, nexts, prevs, at, placed_count, linked_program, Chained}
use Rattle.linked.specs.Uses.{spots}
use Rattle.linked.specs.Slots.{links}
use Rattle.linked.specs.Table.{table}
use Rattle.linked.specs.Facts.{col_length, table_in, Strung, threaded_from}
use Rattle.linked.specs.Slots.{blank_cell}
use Rattle.linked.proofs.Ordering.{Sound}
use Rattle.linked.proofs.Orders.{order_unique}
use Rattle.linked.proofs.Columns.{col_end}
use Rattle.linked.proofs.Placing.{linked_by}

map_replicate : {X Y : Type 0} (f : X → Y) (m : ℕ) (x : X) → map f (replicate m x) ≡ replicate m (f x)
map_replicate f zero x = refl
map_replicate f (suc m) x = ap (λ t. f x ∷ t) (map_replicate f m x)

all_same : {X : Type 0} (m n : ℕ) (x : X) → get_or (replicate m x) n x ≡ x
all_same zero n x = refl
all_same (suc m) zero x = refl
all_same (suc m) (suc n) x = all_same m n x

bodies_fresh : (m : ℕ) → bodies (replicate m blank_cell) ≡ replicate m Vacant
bodies_fresh m = map_replicate (λ c. c.body) m blank_cell

content_fresh : (m : ℕ) → map content (replicate m Vacant) ≡ replicate m None
content_fresh m = map_replicate content m Vacant

count_fresh : (m : ℕ) → placed_count (replicate m Vacant) ≡ 0
count_fresh zero = refl
count_fresh (suc m) = let e = count_fresh m in omega arith

spots_fresh : (v k m : ℕ) → (4096 ≡ v → ⊥) → spots v k (table (replicate m None)) ≡ []
spots_fresh v k zero far = refl
spots_fresh v k (suc m) far =
    let off : eqb 4096 v ≡ false = ne_eqb 4096 v far in
    ap (λ b. cond b (k ∷ spots v (suc k) (4096 ∷ (4096 ∷ (4096 ∷ table (replicate m None))))) (spots v (suc k) (4096 ∷ (4096 ∷ (4096 ∷ table (replicate m None)))))) off
    ∙ ap (λ b. cond b (suc k ∷ spots v (suc (suc k)) (4096 ∷ (4096 ∷ table (replicate m None)))) (spots v (suc (suc k)) (4096 ∷ (4096 ∷ table (replicate m None))))) off
    ∙ ap (λ b. cond b (suc (suc k) ∷ spots v (suc (suc (suc k))) (4096 ∷ table (replicate m None))) (spots v (suc (suc (suc k))) (4096 ∷ table (replicate m None)))) off
    ∙ ap (λ b. cond b (suc (suc (suc k)) ∷ spots v (suc (suc (suc (suc k)))) (table (replicate m None))) (spots v (suc (suc (suc (suc k)))) (table (replicate m None)))) off
    ∙ spots_fresh v (suc (suc (suc (suc k)))) m far

link_fresh : (m v : ℕ) → v < m → get_or (links (replicate m blank_cell)) (4 * v) 0 ≡ 4096
link_fresh zero v h = absurd (omega arith)
link_fresh (suc m) zero h = refl
link_fresh (suc m) (suc v) h =
    let z : 4 * suc v ≡ suc (suc (suc (suc (4 * v)))) = omega arith in
    ap (λ k. get_or (links (replicate (suc m) blank_cell)) k 0) z ∙ link_fresh m v (omega arith)

module _ (m : ℕ) (few : m ≤ 1024) where
  abbrev xs : List LinkedCell
  xs = replicate m blank_cell

  len : length xs ≡ m
  len = length-replicate m blank_cell

  chained : Chained (bodies xs) (nexts xs m) (prevs xs m) []
  chained =
      let l = len in
      let b : length (bodies xs) ≡ m = length-map xs (λ c. c.body) ∙ len in
      record {
        wide = let q = col_length (λ c. c.links.next) xs m in omega arith;
        wide_back = let q = col_length (λ c. c.links.prev) xs m in omega arith;
        ring = (sym (col_end (λ c. c.links.next) xs (length (bodies xs)) m (omega arith)) ∙ sym b, sym (col_end (λ c. c.links.prev) xs (length (bodies xs)) m (omega arith)) ∙ sym b);
        marks = λ n. ap (λ bs. mark (get_or bs n Vacant)) (bodies_fresh m) ∙ ap mark (all_same m n Vacant);
        count = ap placed_count (bodies_fresh m) ∙ count_fresh m;
      }

  strung : Strung xs
  strung v h =
      let l = len in
      let none : spots v 0 (table_in xs) ≡ [] = ap (λ bs. spots v 0 (table (map content bs))) (bodies_fresh m) ∙ ap (λ cs. spots v 0 (table cs)) (content_fresh m) ∙ spots_fresh v 0 m (λ e. omega arith) in
      ap (λ ys. map (at (links xs)) (4 * v ∷ ys)) none
      ∙ ap (λ k. k ∷ []) (link_fresh m v (omega arith))
      ∙ ap (λ ys. ys ++ (4096 ∷ [])) (sym none)

  pub sound_fresh : Sound xs m m
  sound_fresh =
      let l = len in
      record {
        linked = linked_by xs m m (bodies xs) (nexts xs m) (prevs xs m) [] refl refl refl chained;
        listed = threaded_from xs (omega arith) strung;
        ranged = λ n i e.
            let none : get_or (map content (bodies xs)) n None ≡ None = ap (λ bs. get_or (map content bs) n None) (bodies_fresh m) ∙ ap (λ cs. get_or cs n None) (content_fresh m) ∙ all_same m n None in
            let z : ◌≡◌ {A = ℕ} 0 1 = cc in
            absurd (omega arith);
      }

  pub program_fresh : linked_program xs m ≡ new_program m
  program_fresh =
      ap (λ os. program_of (map content (bodies xs)) os) (order_unique (bodies xs) (nexts xs m) (prevs xs m) [] chained)
      ∙ ap (λ bs. program_of (map content bs) []) (bodies_fresh m)
      ∙ ap (λ cs. program_of cs []) (content_fresh m)

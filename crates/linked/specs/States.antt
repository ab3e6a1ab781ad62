-- What the cells say of the states of the numbers, and that their program is proper; the ghost member `proper` may cite specs alone.
use Rattle.std.specs.Prelude.{◌≡◌, ℕ, suc, ◌+◌, ◌<◌, ◌≤◌, Bool, true, false, cond, ltb, List, [], ◌∷◌, map, length, None, ◌==◌, nat_lt, slice_index_or, refl}
use Rattle.std.proofs.Common.{sym, ap, ◌∙◌, subst, ⊎_elim, arith}
use Rattle.std.proofs.lemmas.List.{length-map}
use Rattle.std.proofs.Math.ListN.{get_or-map}
use Rattle.std.proofs.lemmas.Bool.{lt-ltb, le-ltb, eq-eqb, ne_eqb}
use Rattle.program.specs.declared.state.State.TheVariants.{Loose, Placed as IsPlaced}
use Rattle.ir.specs.Instructions.{Shapely}
use Rattle.program.specs.Programs.{cell, busy, held, In, Distinct, index_of, has, within, state_by, state_of}
use Rattle.program.specs.Proper.{Proper, Tied}
use Rattle.program.proofs.Keeping.{zero_shapely, tied_from}
use Rattle.linked.specs.declared.cells.Body.{Body}
use Rattle.linked.specs.declared.cells.Body.TheVariants.{Vacant, Idle, Placed}
use Rattle.linked.specs.declared.cells.LinkedCell.{LinkedCell}
use Rattle.linked.specs.Rings.{occurs, occurs_here, absent_head, absent_rest}
use Rattle.linked.specs.LinkedModel.{content, mark, tag, bodies, nexts, order_of, linked_program, Linked}
use Rattle.linked.specs.Facts.{Forward, Backward, Marked}

pub index_in : (n : ℕ) (o : List ℕ) → 0 < occurs n o → index_of n o < length o
index_in n [] h = absurd (omega arith)
index_in n (x ∷ xs) h =
    let by_test : (b : Bool) → 0 < cond b 1 0 + occurs n xs → cond b 0 (suc (index_of n xs)) < suc (length xs)
    = elim [ true ↦ (λ l. omega arith) | false ↦ (λ l. let r = index_in n xs (omega arith) in omega arith) ]
    in by_test (x == n) h

pub index_out : (n : ℕ) (o : List ℕ) → occurs n o ≡ 0 → index_of n o ≡ length o
index_out n [] h = refl
index_out n (x ∷ xs) h =
    ap (λ b. cond b 0 (suc (index_of n xs))) (ne_eqb x n (absent_head n x xs h)) ∙ ap suc (index_out n xs (absent_rest n x xs h))

pub within_linked : (xs : List LinkedCell) (f n : ℕ) → within (linked_program xs f) n ≡ nat_lt n (length xs)
within_linked xs f n = ap (ltb n) (length-map (bodies xs) content ∙ length-map xs (λ c. c.body))

pub content_at : (bs : List Body) (n : ℕ) → slice_index_or (map content bs) n None ≡ content (slice_index_or bs n Vacant)
content_at bs n = get_or-map content bs n Vacant

pub cell_linked : (xs : List LinkedCell) (f n : ℕ) → cell (linked_program xs f) n ≡ content (slice_index_or (bodies xs) n Vacant)
cell_linked xs f n = content_at (bodies xs) n

module _ (xs : List LinkedCell) (f l : ℕ) (is : Linked xs f l) where
  abbrev o : List ℕ
  o = order_of (bodies xs) (nexts xs f)

  has_marked : (n : ℕ) → mark (slice_index_or (bodies xs) n Vacant) ≡ 1 → has n o ≡ true
  has_marked n e = let m = is.marks n in lt-ltb (index_of n o) (length o) (index_in n o (omega arith))

  pub has_unmarked : (n : ℕ) → mark (slice_index_or (bodies xs) n Vacant) ≡ 0 → has n o ≡ false
  has_unmarked n e = let i = index_out n o (sym (is.marks n) ∙ e) in le-ltb (index_of n o) (length o) (omega arith)

  pub state_linked : (n : ℕ) → state_of (linked_program xs f) n ≡ tag (slice_index_or (bodies xs) n Vacant)
  state_linked n =
      let by_body : (b : Body) → slice_index_or (bodies xs) n Vacant ≡ b → state_by (content b) (has n o) ≡ tag b
      = elim [
        | Vacant ↦ (λ e. refl)
        | Idle r ↦ (λ e. ap (λ b. cond b IsPlaced Loose) (has_unmarked n (ap mark e)))
        | Placed r ↦ (λ e. ap (λ b. cond b IsPlaced Loose) (has_marked n (ap mark e)))
      ]
      in ap (λ c. state_by c (has n o)) (cell_linked xs f n) ∙ by_body (slice_index_or (bodies xs) n Vacant) refl

-- ---- the program is proper

marked_busy : (b : Body) → 0 < mark b → busy (content b) ≡ true
marked_busy Vacant h = absurd (omega arith)
marked_busy (Idle r) h = refl
marked_busy (Placed r) h = refl

pub mark_low : (b : Body) → mark b ≤ 1
mark_low Vacant = omega arith
mark_low (Idle r) = omega arith
mark_low (Placed r) = omega arith

body_shapely : (b : Body) → Shapely (held (content b))
body_shapely Vacant = zero_shapely
body_shapely (Idle r) = r.shaped
body_shapely (Placed r) = r.shaped

in_occurs : (n : ℕ) (o : List ℕ) → In n o → 0 < occurs n o
in_occurs n [] h = absurd h
in_occurs n (x ∷ xs) h =
    ⊎_elim
    (λ e. let one : cond (x == n) 1 0 ≡ ◌+◌ 1 0 = ap (λ b. cond b 1 0) (eq-eqb x n e) in omega arith)
    (λ i. let more = in_occurs n xs i in omega arith)
    h

once_distinct : (o : List ℕ) → ((n : ℕ) → occurs n o ≤ 1) → Distinct o
once_distinct [] once = tt
once_distinct (x ∷ xs) once = (
  λ h. let more = in_occurs x xs h in let here = occurs_here x xs in let few = once x in omega arith,
  once_distinct xs (λ n. let few = once n in omega arith),
)

pub proper_linked : (xs : List LinkedCell) (f l : ℕ) → length xs ≤ 1024 → Forward xs f → Backward xs f l → Marked xs f → Tied (linked_program xs f) → Proper (linked_program xs f)
proper_linked xs f l few forward backward marked tied =
    let size = length-map (bodies xs) content ∙ length-map xs (λ c. c.body) in
    record {
      few = subst (λ m. m ≤ 1024) (sym size) few;
      distinct = once_distinct (order_of (bodies xs) (nexts xs f)) (λ n. let m = marked n in let k = mark_low (slice_index_or (bodies xs) n Vacant) in omega arith);
      placed = λ n h.
          let m = marked n in
          let i = in_occurs n (order_of (bodies xs) (nexts xs f)) h in
          ap busy (cell_linked xs f n) ∙ marked_busy (slice_index_or (bodies xs) n Vacant) (omega arith);
      shaped = λ n. subst (λ c. Shapely (held c)) (sym (cell_linked xs f n)) (body_shapely (slice_index_or (bodies xs) n Vacant));
      tied = tied_from (linked_program xs f) tied;
    }

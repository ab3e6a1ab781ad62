-- What a linked store keeps, as equations of numbers and lists of numbers.
use Rattle.std.specs.Prelude.{◌≡◌, ℕ, zero, suc, ◌+◌, ◌*◌, ◌<◌, ◌≤◌, List, [], ◌∷◌, ◌++◌, map, length, None, slice_index_or, refl}
use Rattle.std.proofs.Common.{sym, ap, ◌∙◌, arith}
use Rattle.std.proofs.lemmas.List.{length-map, length-append}
use Rattle.linked.specs.declared.cells.LinkedCell.{LinkedCell}
use Rattle.linked.specs.declared.cells.Threads.{Threads}
use Rattle.linked.specs.declared.cells.Body.TheVariants.{Vacant}
use Rattle.linked.specs.Rings.{occurs, trail, Ring}
use Rattle.linked.specs.Paths.{Path}
use Rattle.linked.specs.Uses.{spots}
use Rattle.linked.specs.Slots.{flat, links, Lists}
use Rattle.linked.specs.Table.{table, table_length, table_heads}
use Rattle.linked.specs.Making.{Inside}
use Rattle.linked.specs.LinkedModel.{content, mark, bodies, nexts, prevs, threads_of, at, placed_count, order_of, Linked}

-- the order that the links go through
abbrev pub order_in : List LinkedCell → ℕ → List ℕ
order_in cells first = order_of (bodies cells) (nexts cells first)

-- the operands of the cells
abbrev pub table_in : List LinkedCell → List ℕ
table_in cells = table (map content (bodies cells))

-- the next links go along the order, from the store's size back to it
abbrev pub Forward : List LinkedCell → ℕ → Type 0
Forward cells first = map (at (nexts cells first)) (length cells ∷ order_in cells first) ≡ order_in cells first ++ (length cells ∷ [])

-- the links to the one before go along the order backwards
abbrev pub Backward : List LinkedCell → ℕ → ℕ → Type 0
Backward cells first last = map (at (prevs cells last)) (order_in cells first ++ (length cells ∷ [])) ≡ length cells ∷ order_in cells first

-- exactly the numbers of the order are placed, each once
abbrev pub Marked : List LinkedCell → ℕ → Type 0
Marked cells first = (n : ℕ) → mark (slice_index_or (bodies cells) n Vacant) ≡ occurs n (order_in cells first)

-- the thread of each value goes along its uses, in ascending order, and ends
abbrev pub Strung : List LinkedCell → Type 0
Strung cells = (v : ℕ) → v < length cells → map (at (links cells)) (4 * v ∷ spots v 0 (table_in cells)) ≡ spots v 0 (table_in cells) ++ (4096 ∷ [])

-- the use lists go along the uses of the cells' own operands
abbrev pub Listed : List LinkedCell → Type 0
Listed cells = Lists cells (table_in cells)

-- each operand is a number of the store
abbrev pub Ranged : List LinkedCell → Type 0
Ranged cells = (n : ℕ) → Inside (length cells) (slice_index_or (map content (bodies cells)) n None)

-- ---- the same as relations

pub ring_from : (nx pv : ℕ → ℕ) (x : ℕ) (ys : List ℕ) (z : ℕ) → map nx (x ∷ ys) ≡ ys ++ (z ∷ []) → map pv (ys ++ (z ∷ [])) ≡ x ∷ ys → Ring nx pv x ys z
ring_from nx pv x [] z e f = (cc, cc)
ring_from nx pv x (y ∷ ys) z e f =
    let a : nx x ≡ y = cc in
    let b : pv y ≡ x = cc in
    let g : map nx (y ∷ ys) ≡ ys ++ (z ∷ []) = cc in
    let h : map pv (ys ++ (z ∷ [])) ≡ y ∷ ys = cc in
    (a, b, ring_from nx pv y ys z g h)

pub ring_forward : (nx pv : ℕ → ℕ) (x : ℕ) (ys : List ℕ) (z : ℕ) → Ring nx pv x ys z → map nx (x ∷ ys) ≡ ys ++ (z ∷ [])
ring_forward nx pv x [] z r = ap (λ a. a ∷ []) r.0
ring_forward nx pv x (y ∷ ys) z r = ap (λ a. a ∷ map nx (y ∷ ys)) r.0 ∙ ap (λ t. y ∷ t) (ring_forward nx pv y ys z r.2)

pub ring_backward : (nx pv : ℕ → ℕ) (x : ℕ) (ys : List ℕ) (z : ℕ) → Ring nx pv x ys z → map pv (ys ++ (z ∷ [])) ≡ x ∷ ys
ring_backward nx pv x [] z r = ap (λ a. a ∷ []) r.1
ring_backward nx pv x (y ∷ ys) z r = ap (λ a. a ∷ map pv (ys ++ (z ∷ []))) r.1 ∙ ap (λ t. x ∷ t) (ring_backward nx pv y ys z r.2)

pub path_from : (s : ℕ → ℕ) (x : ℕ) (ys : List ℕ) → map s (x ∷ ys) ≡ ys ++ (4096 ∷ []) → Path s x ys
path_from s x [] e = cc
path_from s x (y ∷ ys) e =
    let a : s x ≡ y = cc in
    let g : map s (y ∷ ys) ≡ ys ++ (4096 ∷ []) = cc in
    (a, path_from s y ys g)

pub path_to : (s : ℕ → ℕ) (x : ℕ) (ys : List ℕ) → Path s x ys → map s (x ∷ ys) ≡ ys ++ (4096 ∷ [])
path_to s x [] p = ap (λ a. a ∷ []) p
path_to s x (y ∷ ys) p = ap (λ a. a ∷ map s (y ∷ ys)) p.0 ∙ ap (λ t. y ∷ t) (path_to s y ys p.1)

trail_length : (s : ℕ → ℕ) (k a : ℕ) → length (trail s k a) ≡ k
trail_length s zero a = refl
trail_length s (suc k) a = ap suc (trail_length s k (s a))

pub col_length : {X : Type 0} (f : X → ℕ) (xs : List X) (e : ℕ) → length (map f xs ++ (e ∷ [])) ≡ length xs + 1
col_length f xs e = length-append (map f xs) (e ∷ []) ∙ ap (λ k. k + 1) (length-map xs f)

flat_length : (ts : List Threads) → length (flat ts) ≡ 4 * length ts
flat_length [] = refl
flat_length (t ∷ ts) = let e = flat_length ts in omega arith

pub linked_from : (cells : List LinkedCell) (first last : ℕ) → Forward cells first → Backward cells first last → Marked cells first → Linked cells first last
linked_from cells first last fw bw mk =
    let many = length-map cells (λ c. c.body) in
    let o = order_in cells first in
    record {
      wide = col_length (λ c. c.links.next) cells first ∙ ap (λ k. k + 1) (sym many);
      wide_back = col_length (λ c. c.links.prev) cells last ∙ ap (λ k. k + 1) (sym many);
      ring = ring_from (at (nexts cells first)) (at (prevs cells last)) (length (bodies cells)) o (length (bodies cells))
          (ap (λ s. map (at (nexts cells first)) (s ∷ o)) many ∙ fw ∙ ap (λ s. o ++ (s ∷ [])) (sym many))
          (ap (λ s. map (at (prevs cells last)) (o ++ (s ∷ []))) many ∙ bw ∙ ap (λ s. s ∷ o) (sym many));
      marks = mk;
      count = sym (trail_length (at (nexts cells first)) (placed_count (bodies cells)) (at (nexts cells first) (length (bodies cells))));
    }

pub forward_of : (cells : List LinkedCell) (first last : ℕ) → Linked cells first last → Forward cells first
forward_of cells first last is =
    let many = length-map cells (λ c. c.body) in
    let o = order_in cells first in
    ap (λ s. map (at (nexts cells first)) (s ∷ o)) (sym many) ∙ ring_forward (at (nexts cells first)) (at (prevs cells last)) (length (bodies cells)) o (length (bodies cells)) is.ring ∙ ap (λ s. o ++ (s ∷ [])) many

pub backward_of : (cells : List LinkedCell) (first last : ℕ) → Linked cells first last → Backward cells first last
backward_of cells first last is =
    let many = length-map cells (λ c. c.body) in
    let o = order_in cells first in
    ap (λ s. map (at (prevs cells last)) (o ++ (s ∷ []))) (sym many) ∙ ring_backward (at (nexts cells first)) (at (prevs cells last)) (length (bodies cells)) o (length (bodies cells)) is.ring ∙ ap (λ s. s ∷ o) many

pub threaded_from : (cells : List LinkedCell) → length cells ≤ 1024 → Strung cells → Listed cells
threaded_from cells few st =
    let many = length-map cells (λ c. c.body) in
    let more = length-map (bodies cells) content in
    let threads = length-map cells (λ c. c.threads) in
    let q = table_length (map content (bodies cells)) in
    let l = flat_length (threads_of cells) in
    record {
      wide_table = omega arith;
      wide = omega arith;
      few = few;
      heads = λ v h. table_heads (map content (bodies cells)) v;
      paths = λ v h. path_from (at (links cells)) (4 * v) (spots v 0 (table_in cells)) (st v h);
    }

pub strung_of : (cells : List LinkedCell) → Listed cells → Strung cells
strung_of cells is v h = path_to (at (links cells)) (4 * v) (spots v 0 (table_in cells)) (is.paths v h)

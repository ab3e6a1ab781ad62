-- A field of each cell, and one more at the end; and what a write of one field keeps of the others.
use Rattle.std.proofs.Common.{◌≡◌, ℕ, ◌<◌, List, [], ◌∷◌, ◌++◌, map, length, get_or, set, sym, refl, ap, ◌∙◌, subst, arith}
use Rattle.std.proofs.lemmas.List.{length-map, map-set, set-append_left}
use Rattle.std.proofs.Math.Seq.{map-set_same, get_or-append_seam}
use Rattle.linked.specs.declared.cells.LinkedCell.{LinkedCell}
use Rattle.linked.specs.LinkedModel.{SameOrder}
use Rattle.linked.specs.Uses.{Threaded}
use Rattle.linked.specs.Slots.{links, Lists, OnlyThreads}

module _ {X : Type 0} (f : X → ℕ) (xs : List X) (k e : ℕ) where
  pub col_end : length xs ≡ k → e ≡ get_or (map f xs ++ (e ∷ [])) k 0
  col_end h = sym (ap (λ j. get_or (map f xs ++ (e ∷ [])) j 0) (sym h ∙ sym (length-map xs f)) ∙ get_or-append_seam (map f xs) e [] 0)

  pub col_set : (y : X) → k < length xs → map f (set xs k y) ++ (e ∷ []) ≡ set (map f xs ++ (e ∷ [])) k (f y)
  col_set y h =
      let m = length-map xs f in
      ap (λ t. t ++ (e ∷ [])) (map-set f xs k y) ∙ sym (set-append_left (map f xs) (e ∷ []) k (f y) (omega arith))

-- a write that keeps the links of the order
pub order_kept : (xs : List LinkedCell) (k : ℕ) (y d : LinkedCell) → y.links ≡ (get_or xs k d).links → SameOrder xs (set xs k y)
order_kept xs k y d q = record {
  nexts = λ e. ap (λ t. t ++ (e ∷ [])) (map-set_same (λ c. c.links.next) xs k y d (ap (λ l. l.next) q));
  prevs = λ e. ap (λ t. t ++ (e ∷ [])) (map-set_same (λ c. c.links.prev) xs k y d (ap (λ l. l.prev) q));
}

-- ---- cells that differ in the links of the use lists alone

pub rest_kept : (xs : List LinkedCell) (k : ℕ) (y d : LinkedCell) → y.links ≡ (get_or xs k d).links → y.body ≡ (get_or xs k d).body → OnlyThreads xs (set xs k y)
rest_kept xs k y d p q = record { order = order_kept xs k y d p; bodies = map-set_same (λ c. c.body) xs k y d q }

pub order_then : (xs ys zs : List LinkedCell) → SameOrder xs ys → SameOrder ys zs → SameOrder xs zs
order_then xs ys zs a b = record { nexts = λ e. b.nexts e ∙ a.nexts e; prevs = λ e. b.prevs e ∙ a.prevs e }

pub rest_then : (xs ys zs : List LinkedCell) → OnlyThreads xs ys → OnlyThreads ys zs → OnlyThreads xs zs
rest_then xs ys zs a b = record { order = order_then xs ys zs a.order b.order; bodies = b.bodies ∙ a.bodies }

pub rest_none : (xs : List LinkedCell) → OnlyThreads xs xs
rest_none xs = record { order = record { nexts = λ e. refl; prevs = λ e. refl }; bodies = refl }

pub rest_length : (xs ys : List LinkedCell) → OnlyThreads xs ys → length xs ≡ length ys
rest_length xs ys r = sym (length-map xs (λ c. c.body)) ∙ ap length (sym r.bodies) ∙ length-map ys (λ c. c.body)

-- the use lists, counted by the cells as they are now
pub relisted : (xs ys : List LinkedCell) (qs ls : List ℕ) → OnlyThreads xs ys → links ys ≡ ls → Threaded (length xs) qs ls → Lists ys qs
relisted xs ys qs ls r e t =
    subst (λ s. Threaded s qs (links ys)) (rest_length xs ys r) (subst (λ k. Threaded (length xs) qs k) (sym e) t)

-- A walk along the order, from the first number by the next one each time.
use Rattle.std.proofs.Common.{◌≡◌, ℕ, ◌+◌, ◌<◌, List, [], ◌∷◌, true, map, length, drop, Some, None, Option, sym, refl, ap, ◌∙◌, subst, ⊎_elim, arith}
use Rattle.std.specs.List.{slice_get}
use Rattle.std.specs.Iterator.{AlwaysYields}
use Rattle.std.proofs.lemmas.Iterator.{YieldsList}
use Rattle.std.proofs.lemmas.Option.{slice_get-get_or, slice_get_past}
use Rattle.std.proofs.lemmas.List.{at_drop_more, drop_all}
use Rattle.std.proofs.lemmas.Bool.{cases_lt}
use Rattle.ir.specs.declared.instruction.Record.{Record}
use Rattle.ir.specs.Instructions.{plain}
use Rattle.program.specs.declared.store.Store.{Ghosts}
use Rattle.program.specs.Programs.{Program, size, at, index_of, In, Distinct}
use Rattle.program.specs.Readings.{first_of, next_of}
use Rattle.program.specs.Proper.{Proper}
use Rattle.program.proofs.Places.{in_index, index_holds, index_get_or, get_or_in, has_in, in_has}
use Rattle.program.proofs.Accepting.{busy_inside}
use Rattle.runs.specs.declared.walk.Walk.{Walk}
use Rattle.runs.specs.Walks.{from, Stands, stands?, Step, Moved}

nth_stands : (ns : List ℕ) (k : ℕ) → Stands (slice_get ns k) ns
nth_stands ns k =
    ⊎_elim (λ h. subst (λ o. Stands o ns) (sym (slice_get-get_or ns k 0 h)) (get_or_in ns k h))
    (λ h. subst (λ o. Stands o ns) (sym (slice_get_past ns k h)) tt) (cases_lt k (length ns))

module _ (ns : List ℕ) (d : Distinct ns) where
  from_nth : (k : ℕ) → from (slice_get ns k) ns ≡ drop k ns
  from_nth k =
      ⊎_elim
      (λ h. ap (λ o. from o ns) (slice_get-get_or ns k 0 h) ∙ ap (λ j. drop j ns) (index_get_or ns d k h))
      (λ h. ap (λ o. from o ns) (slice_get_past ns k h) ∙ sym (drop_all k ns h)) (cases_lt k (length ns))

  from_more : (n : ℕ) → In n ns → from (Some n) ns ≡ n ∷ from (slice_get ns (index_of n ns + 1)) ns
  from_more n i =
      let h = in_index n ns i in
      at_drop_more (λ l. l) ns (index_of n ns) 0 h
      ∙ ap (λ x. x ∷ drop (index_of n ns + 1) ns) (index_holds n ns h)
      ∙ ap (λ l. n ∷ l) (sym (from_nth (index_of n ns + 1)))

module _ (p : Program) (t : Proper p) where
  pub first_stands : Stands (first_of p) p.order
  first_stands = nth_stands p.order 0

  next_stands : (n : ℕ) → Stands (next_of p n) p.order
  next_stands n = nth_stands p.order (index_of n p.order + 1)

  -- from the first number on, the walk has the whole order before it
  pub from_first : from (first_of p) p.order ≡ p.order
  from_first = from_nth p.order t.distinct 0

  -- at a number, what is left is that number and what is left from the next
  from_next : (n : ℕ) → In n p.order → from (Some n) p.order ≡ n ∷ from (next_of p n) p.order
  from_next n i = from_more p.order t.distinct n i

  -- and each number has its word
  in_range : (n : ℕ) → In n p.order → n < size p
  in_range n i = busy_inside p n (t.placed n i)

  -- one step from n to the number behind it
  pub step : (n : ℕ) → In n p.order → (is : Option ℕ) → is ≡ next_of p n → (what : Record) → plain what ≡ at p n → Step p (Some n) is n what
  step n i is e what r = record {
    left = from_next n i ∙ ap (λ x. n ∷ from x p.order) (sym e);
    stands = subst (λ x. Stands x p.order) (sym e) (next_stands n);
    inside = in_range n i;
    reads = r;
  }

-- where a walk stands, as its type says it
pub stands_test : (x : Option ℕ) (ns : List ℕ) → Stands x ns → stands? x ns ≡ true
stands_test None ns h = refl
stands_test (Some n) ns h = in_has n ns h

pub test_stands : (x : Option ℕ) (ns : List ℕ) → stands? x ns ≡ true → Stands x ns
test_stands None ns e = tt
test_stands (Some n) ns e = has_in n ns e

-- ---- a walk to its end

-- where an equation has the first of a list and the others, it is not empty
filled : {n : ℕ} {ns : List ℕ} → [] ≡ n ∷ ns → ⊥
filled {n} {ns} e = let l : 0 ≡ length (n ∷ ns) = ap length e in omega arith

module _ {S : Type 0} (store : Ghosts S) where
  abbrev program : S → Program
  program = store.program

  abbrev steps : Walk S store → Option (ℕ × Record) → Walk S store → Type 0
  steps s r t = (t.store.now ≡ s.store.now) × Moved (program s.store.now) s.at t.at r

  left_in : (p : Program) (s j : Walk S store) (x : ℕ × Record) → program s.store.now ≡ p → steps s (Some x) j → from s.at p.order ≡ x.0 ∷ from j.at p.order
  left_in p s j x e h = subst (λ q. from s.at q.order ≡ x.0 ∷ from j.at q.order) e h.1.left

  -- it gives the records of what is left, in order
  gives : (ns : List ℕ) (p : Program) (s : Walk S store) → program s.store.now ≡ p → from s.at p.order ≡ ns → AlwaysYields steps (λ x. plain x.1) s (map (at p) ns)
  gives [] p s e f = λ x j h. filled (sym f ∙ left_in p s j x e h)
  gives (n ∷ ns) p s e f = (
    (λ j h. filled (sym (subst (λ q. from s.at q.order ≡ []) e h.1) ∙ f)),
    λ x j h.
        let l : x.0 ∷ from j.at p.order ≡ n ∷ ns = sym (left_in p s j x e h) ∙ f in
        let head : x.0 ≡ n = cc in
        let tail : from j.at p.order ≡ ns = cc in
        (subst (λ q. plain x.1 ≡ at q x.0) e h.1.reads ∙ ap (at p) head, gives ns p j (ap program h.0 ∙ e) tail),
  )

  pub walk_gives : (p : Program) (s : Walk S store) → program s.store.now ≡ p → from s.at p.order ≡ p.order → YieldsList steps (λ x. plain x.1) s (map (at p) p.order)
  walk_gives p s e f = record { runs = gives p.order p s e f }

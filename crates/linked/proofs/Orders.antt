-- What a link and an unlink do to the order.
use Rattle.std.proofs.Common.{◌≡◌, ℕ, zero, suc, ◌+◌, ◌<◌, ◌≤◌, Bool, true, false, cond, eqb, List, [], ◌∷◌, ◌++◌, ◌≢◌, length, get_or, take, drop, set, sym, refl, ap, ◌∙◌, subst, ⊎_elim, arith, length-append}
use Rattle.std.proofs.lemmas.List.{take-append-drop, get_or_past, get_or-set_same, get_or-set_other, length-set}
use Rattle.std.proofs.lemmas.Bool.{cases_eq, cases_lt, eq-eqb, ne_eqb, eqb-true}
use Rattle.program.specs.Programs.{index_of}
use Rattle.linked.specs.declared.cells.Body.{Body}
use Rattle.linked.specs.declared.cells.Body.TheVariants.{Vacant}
use Rattle.linked.specs.Rings.{occurs, trail, Ring, occurs_append, trail_ring}
use Rattle.linked.specs.LinkedModel.{mark, at, placed_count, order_of, Chained}
use Rattle.linked.specs.States.{mark_low}

-- ---- a list cut at a number that stands in it

pub cut : (t : ℕ) (o : List ℕ) → 0 < occurs t o → drop (index_of t o) o ≡ t ∷ drop (suc (index_of t o)) o
cut t [] h = absurd (omega arith)
cut t (x ∷ xs) h =
    let by_test : (b : Bool) → eqb x t ≡ b → 0 < cond b 1 0 + occurs t xs → drop (cond b 0 (suc (index_of t xs))) (x ∷ xs) ≡ t ∷ drop (suc (cond b 0 (suc (index_of t xs)))) (x ∷ xs)
    = elim [ true ↦ (λ e l. ap (λ y. y ∷ xs) (eqb-true x t e)) | false ↦ (λ e l. cut t xs (omega arith)) ]
    in by_test (eqb x t) refl h

pub cut_whole : (t : ℕ) (o : List ℕ) → 0 < occurs t o → o ≡ take (index_of t o) o ++ (t ∷ drop (suc (index_of t o)) o)
cut_whole t o h = sym (take-append-drop (index_of t o) o) ∙ ap (λ d. take (index_of t o) o ++ d) (cut t o h)

pub count_set : (bs : List Body) (n : ℕ) (b : Body) → n < length bs → placed_count (set bs n b) + mark (get_or bs n Vacant) ≡ placed_count bs + mark b
count_set [] n b h = absurd (omega arith)
count_set (x ∷ xs) zero b h = omega arith
count_set (x ∷ xs) (suc n) b h = let e = count_set xs n b (omega arith) in omega arith

-- ---- n put into a list, or taken out of it

mid_occurs : (k n : ℕ) (l r : List ℕ) → occurs k (l ++ (n ∷ r)) ≡ cond (eqb n k) 1 0 + occurs k (l ++ r)
mid_occurs k n l r = let e = occurs_append k l (n ∷ r) in let f = occurs_append k l r in omega arith

mid_other : (k n : ℕ) (l r : List ℕ) → (k ≢ n) → occurs k (l ++ (n ∷ r)) ≡ occurs k (l ++ r)
mid_other k n l r ne =
    let e = mid_occurs k n l r in
    let z : cond (eqb n k) 1 0 ≡ ◌+◌ 0 0 = ap (λ t. cond t 1 0) (ne_eqb n k (λ q. ne (sym q))) in
    omega arith

mid_here : (n : ℕ) (l r : List ℕ) → occurs n (l ++ (n ∷ r)) ≡ occurs n (l ++ r) + 1
mid_here n l r =
    let e = mid_occurs n n l r in
    let z : cond (eqb n n) 1 0 ≡ ◌+◌ 1 0 = ap (λ t. cond t 1 0) (eq-eqb n n refl) in
    omega arith

mid_length : (n : ℕ) (l r : List ℕ) → length (l ++ (n ∷ r)) ≡ length (l ++ r) + 1
mid_length n l r = let e = length-append l (n ∷ r) in let f = length-append l r in omega arith

module _ (bs : List Body) (ns ps o : List ℕ) (is : Chained bs ns ps o) where
  pub order_unique : order_of bs ns ≡ o
  order_unique = ap (λ k. trail (at ns) k (at ns (length bs))) is.count ∙ trail_ring (at ns) (at ps) (length bs) o (length bs) is.ring

  pub in_order : (n : ℕ) → 0 < occurs n o → n < length bs
  in_order n h =
      ⊎_elim (λ l. l)
      (λ past. let e = is.marks n in let z : mark (get_or bs n Vacant) ≡ 0 = ap mark (get_or_past bs n Vacant past) in absurd (omega arith))
      (cases_lt n (length bs))

  pub end_absent : occurs (length bs) o ≡ 0
  end_absent = sym (is.marks (length bs)) ∙ ap mark (get_or_past bs (length bs) Vacant (omega arith))

  pub once : (n : ℕ) → occurs n o ≤ 1
  once n = let l = mark_low (get_or bs n Vacant) in let e = is.marks n in omega arith

  -- a body and an order that are new at n alone
  pub chained_at : (n : ℕ) (b : Body) (ns' ps' o' : List ℕ) → n < length bs → ((k : ℕ) → (k ≢ n) → occurs k o' ≡ occurs k o) → occurs n o' ≡ mark b → length o' + mark (get_or bs n Vacant) ≡ length o + mark b → length ns' ≡ length bs + 1 → length ps' ≡ length bs + 1 → Ring (at ns') (at ps') (length bs) o' (length bs) → Chained (set bs n b) ns' ps' o'
  chained_at n b ns' ps' o' h else here many wn wp ring =
      let len = length-set bs n b in
      record {
        wide = wn ∙ ap (λ k. k + 1) (sym len);
        wide_back = wp ∙ ap (λ k. k + 1) (sym len);
        ring = subst (λ s. Ring (at ns') (at ps') s o' s) (sym len) ring;
        marks = λ k.
            ⊎_elim
            (λ e. ap (λ j. mark (get_or (set bs n b) j Vacant)) e ∙ ap mark (get_or-set_same bs n b Vacant h) ∙ sym here ∙ ap (λ j. occurs j o') (sym e))
            (λ ne. ap mark (get_or-set_other bs n k b Vacant ne) ∙ is.marks k ∙ sym (else k ne))
            (cases_eq k n);
        count = let q = count_set bs n b h in let c = is.count in omega arith;
      }

  module _ (n : ℕ) (b : Body) (ns' ps' l r : List ℕ) (h : n < length bs) where
    -- what a link leaves, but for the ring
    pub chained_linked : mark (get_or bs n Vacant) ≡ 0 → mark b ≡ 1 → o ≡ l ++ r → length ns' ≡ length bs + 1 → length ps' ≡ length bs + 1 → Ring (at ns') (at ps') (length bs) (l ++ (n ∷ r)) (length bs) → Chained (set bs n b) ns' ps' (l ++ (n ∷ r))
    chained_linked was now whole =
        let m = is.marks n in
        let i = mid_here n l r in
        let w = ap (occurs n) whole in
        let j = mid_length n l r in
        let v = ap length whole in
        chained_at n b ns' ps' (l ++ (n ∷ r)) h (λ k ne. mid_other k n l r ne ∙ ap (occurs k) (sym whole)) (omega arith) (omega arith)

    -- what an unlink leaves, but for the ring
    pub chained_unlinked : mark (get_or bs n Vacant) ≡ 1 → mark b ≡ 0 → o ≡ l ++ (n ∷ r) → length ns' ≡ length bs + 1 → length ps' ≡ length bs + 1 → Ring (at ns') (at ps') (length bs) (l ++ r) (length bs) → Chained (set bs n b) ns' ps' (l ++ r)
    chained_unlinked was now whole =
        let m = is.marks n in
        let i = mid_here n l r in
        let w = ap (occurs n) whole in
        let j = mid_length n l r in
        let v = ap length whole in
        chained_at n b ns' ps' (l ++ r) h (λ k ne. sym (mid_other k n l r ne) ∙ ap (occurs k) (sym whole)) (omega arith) (omega arith)

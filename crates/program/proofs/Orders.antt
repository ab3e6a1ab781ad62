-- Lists of numbers without repeats.
use Rattle.std.proofs.Common.{◌≡◌, ℕ, zero, suc, ◌<◌, ◌≤◌, Bool, true, false, cond, not, eqb, List, [], ◌∷◌, length, filter, sym, refl, ap, ◌∙◌, subst, inl, inr, ⊎_elim, arith}
use Rattle.std.proofs.lemmas.Bool.{eqb-true, eqb-false, ne_eqb, cond-true}
use Rattle.program.specs.Programs.{Program, size, In, Before, Distinct}
use Rattle.program.specs.Proper.{Proper}
use Rattle.program.proofs.Accepting.{busy_inside}

pub before_right : (m n : ℕ) (xs : List ℕ) → Before m n xs → In n xs
before_right m n [] h = absurd h
before_right m n (x ∷ xs) h = ⊎_elim (λ q. inr q.1) (λ q. inr (before_right m n xs q)) h

pub before_left : (m n : ℕ) (xs : List ℕ) → Before m n xs → In m xs
before_left m n [] h = absurd h
before_left m n (x ∷ xs) h = ⊎_elim (λ q. inl q.0) (λ q. inr (before_left m n xs q)) h

-- nothing stands before the head
pub before_head : (m n : ℕ) (ns : List ℕ) → Distinct (n ∷ ns) → Before m n (n ∷ ns) → ⊥
before_head m n ns d h = ⊎_elim (λ q. d.0 q.1) (λ q. d.0 (before_right m n ns q)) h

-- ---- without one number

abbrev pub without : ℕ → List ℕ → List ℕ
without n xs = filter (λ x. not (eqb x n)) xs

pub in_from_without : (n k : ℕ) (xs : List ℕ) → In k (without n xs) → In k xs × (k ≡ n → ⊥)
in_from_without n k [] h = absurd h
in_from_without n k (x ∷ xs) h = go (eqb x n) refl (in_from_without n k xs) h
  where
    go : (t : Bool) → eqb x n ≡ t → (In k (without n xs) → In k xs × (k ≡ n → ⊥))
        → In k (cond (not t) (x ∷ without n xs) (without n xs)) → In k (x ∷ xs) × (k ≡ n → ⊥)
    go true e ih h = (inr (ih h).0, (ih h).1)
    go false e ih h = ⊎_elim (λ q. (inl q, λ z. eqb-false x n e (q ∙ z))) (λ q. (inr (ih q).0, (ih q).1)) h

pub distinct_without : (n : ℕ) (xs : List ℕ) → Distinct xs → Distinct (without n xs)
distinct_without n [] h = tt
distinct_without n (x ∷ xs) h = go (eqb x n) (distinct_without n xs h.1)
  where
    go : (t : Bool) → Distinct (without n xs) → Distinct (cond (not t) (x ∷ without n xs) (without n xs))
    go true ih = ih
    go false ih = (λ q. h.0 (in_from_without n x xs q).0, ih)

absent_length : (n : ℕ) (xs : List ℕ) → (In n xs → ⊥) → length (without n xs) ≡ length xs
absent_length n [] h = refl
absent_length n (x ∷ xs) h =
    ap length (cond-true (not (eqb x n)) (x ∷ without n xs) (without n xs) (ap not (ne_eqb x n (λ e. h (inl e))))) ∙ ap suc (absent_length n xs (λ q. h (inr q)))

one_less : (n : ℕ) (xs : List ℕ) → Distinct xs → length xs ≤ suc (length (without n xs))
one_less n [] d = omega arith
one_less n (x ∷ xs) d = go (eqb x n) refl (one_less n xs d.1)
  where
    go : (t : Bool) → eqb x n ≡ t → length xs ≤ suc (length (without n xs)) → suc (length xs) ≤ suc (length (cond (not t) (x ∷ without n xs) (without n xs)))
    go true e ih = let q = absent_length n xs (λ i. d.0 (subst (λ k. In k xs) (sym (eqb-true x n e)) i)) in omega arith
    go false e ih = omega arith

-- there are at most m numbers below m
pub few_below : (m : ℕ) (xs : List ℕ) → Distinct xs → ((k : ℕ) → In k xs → k < m) → length xs ≤ m
few_below zero [] d f = omega arith
few_below zero (x ∷ xs) d f = let h = f x (inl refl) in absurd (omega arith)
few_below (suc m) xs d f =
    let below : (k : ℕ) → In k (without m xs) → k < m
    = λ k i. (let q = in_from_without m k xs i in let l = f k q.0 in let e : k ≡ m → ⊥ = q.1 in omega (arith, e)) in
    let h = few_below m (without m xs) (distinct_without m xs d) below in
    let l = one_less m xs d in
    omega arith

-- no more instructions are placed than a program has numbers
pub few_placed : (p : Program) → Proper p → length p.order ≤ size p
few_placed p t = few_below (size p) p.order t.distinct (λ k i. busy_inside p k (t.placed k i))

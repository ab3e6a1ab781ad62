-- Places of numbers in a list.
use Rattle.std.proofs.Common.{◌≡◌, ℕ, zero, suc, ◌<◌, Bool, true, false, cond, eqb, List, [], ◌∷◌, length, get_or, refl, ap, ◌∙◌, inl, inr, ⊎_elim, arith}
use Rattle.std.proofs.lemmas.Bool.{ltb-true, lt-ltb, le-ltb, eqb-true, eqb-false, eq-eqb, ne_eqb, cond_both, cond-false, cases_eq, cases_lt, both_ways}
use Rattle.program.specs.Programs.{index_of, has, In, Distinct}

pub in_index : (n : ℕ) (xs : List ℕ) → In n xs → index_of n xs < length xs
in_index n [] h = absurd h
in_index n (x ∷ xs) h =
    cond_both (eqb x n) 0 (suc (index_of n xs)) (λ z. z < suc (length xs)) (λ e. omega arith)
    (λ e. let r = in_index n xs (⊎_elim (λ q. absurd (eqb-false x n e q)) (λ q. q) h) in omega arith)

pub index_other : (n x : ℕ) (xs : List ℕ) → (x ≡ n → ⊥) → index_of n (x ∷ xs) ≡ suc (index_of n xs)
index_other n x xs d = cond-false (eqb x n) 0 (suc (index_of n xs)) (ne_eqb x n d)

pub index_in : (n : ℕ) (xs : List ℕ) → index_of n xs < length xs → In n xs
index_in n [] h = absurd (omega arith)
index_in n (x ∷ xs) h =
    ⊎_elim (λ q. inl q)
    (λ d. let e = index_other n x xs d in inr (index_in n xs (omega arith))) (cases_eq x n)

pub has_in : (n : ℕ) (xs : List ℕ) → has n xs ≡ true → In n xs
has_in n xs e = index_in n xs (ltb-true (index_of n xs) (length xs) e)

pub in_has : (n : ℕ) (xs : List ℕ) → In n xs → has n xs ≡ true
in_has n xs h = lt-ltb (index_of n xs) (length xs) (in_index n xs h)

pub has_out : (n : ℕ) (xs : List ℕ) → has n xs ≡ false → In n xs → ⊥
has_out n xs e h = both_ways (has n xs) e (in_has n xs h)

pub out_has : (n : ℕ) (xs : List ℕ) → (In n xs → ⊥) → has n xs ≡ false
out_has n xs d =
    ⊎_elim (λ l. absurd (d (index_in n xs l))) (λ l. le-ltb (index_of n xs) (length xs) l) (cases_lt (index_of n xs) (length xs))

pub get_or_in : (xs : List ℕ) (k : ℕ) → k < length xs → In (get_or xs k 0) xs
get_or_in [] k h = absurd (omega arith)
get_or_in (x ∷ xs) zero h = inl refl
get_or_in (x ∷ xs) (suc k) h = inr (get_or_in xs k (omega arith))

-- a number stands at its place, and in a list without repeats at no other
pub index_holds : (n : ℕ) (xs : List ℕ) → index_of n xs < length xs → get_or xs (index_of n xs) 0 ≡ n
index_holds n [] h = absurd (omega arith)
index_holds n (x ∷ xs) h =
    let by_test : (b : Bool) → eqb x n ≡ b → cond b 0 (suc (index_of n xs)) < suc (length xs) → get_or (x ∷ xs) (cond b 0 (suc (index_of n xs))) 0 ≡ n
    = elim [ true ↦ (λ e l. eqb-true x n e) | false ↦ (λ e l. index_holds n xs (omega arith)) ]
    in by_test (eqb x n) refl h

pub index_get_or : (xs : List ℕ) → Distinct xs → (k : ℕ) → k < length xs → index_of (get_or xs k 0) xs ≡ k
index_get_or [] d k h = absurd (omega arith)
index_get_or (x ∷ xs) d zero h = ap (λ b. cond b 0 (suc (index_of x xs))) (eq-eqb x x refl)
index_get_or (x ∷ xs) d (suc k) h =
    index_other (get_or xs k 0) x xs (λ e. d.0 (rw e (get_or_in xs k (omega arith)))) ∙ ap suc (index_get_or xs d.1 k (omega arith))

-- A number taken out of a list and put back.
use Rattle.std.proofs.Common.{◌≡◌, ℕ, zero, suc, eqb, List, [], ◌∷◌, length, Some, None, Option, sym, refl, ap, ◌∙◌, subst, inl, inr, ⊎_elim}
use Rattle.std.specs.List.{insert, remove, slice_get}
use Rattle.std.proofs.lemmas.Bool.{eq-eqb, cond-true, cases_eq}
use Rattle.program.specs.Programs.{index_of, In, Distinct}
use Rattle.program.proofs.Places.{index_other}
use Rattle.program.proofs.Keeping.{in_removed}

index_here : (n x : ℕ) (xs : List ℕ) → x ≡ n → index_of n (x ∷ xs) ≡ 0
index_here n x xs e = cond-true (eqb x n) 0 (suc (index_of n xs)) (eq-eqb x n e)

-- at the place of n: first, or one further than in the rest
module _ (P : ℕ → Type 0) (n x : ℕ) (xs : List ℕ) where
  at_index : (x ≡ n → P 0) → ((x ≡ n → ⊥) → P (suc (index_of n xs))) → P (index_of n (x ∷ xs))
  at_index f g =
      ⊎_elim (λ q. subst P (sym (index_here n x xs q)) (f q)) (λ d. subst P (sym (index_other n x xs d)) (g d)) (cases_eq x n)

-- ---- put in, then taken out

pub in_inserted_here : (n i : ℕ) (xs : List ℕ) → In n (insert xs i n)
in_inserted_here n zero xs = inl refl
in_inserted_here n (suc i) [] = inl refl
in_inserted_here n (suc i) (x ∷ xs) = inr (in_inserted_here n i xs)

pub taken_out : (n i : ℕ) (xs : List ℕ) → (In n xs → ⊥) → remove (insert xs i n) (index_of n (insert xs i n)) ≡ xs
taken_out n zero xs d = at_index (λ j. remove (n ∷ xs) j ≡ xs) n n xs (λ q. refl) (λ e. absurd (e refl))
taken_out n (suc i) [] d = at_index (λ j. remove (n ∷ []) j ≡ []) n n [] (λ q. refl) (λ e. absurd (e refl))
taken_out n (suc i) (x ∷ xs) d =
    at_index (λ j. remove (x ∷ insert xs i n) j ≡ x ∷ xs) n x (insert xs i n) (λ q. absurd (d (inl q)))
    (λ e. ap (λ z. x ∷ z) (taken_out n i xs (λ q. d (inr q))))

-- ---- taken out, then put back

rest_of : (n x : ℕ) (xs : List ℕ) → In n (x ∷ xs) → (x ≡ n → ⊥) → In n xs
rest_of n x xs h d = ⊎_elim (λ q. absurd (d q)) (λ q. q) h

pub put_back : (n : ℕ) (xs : List ℕ) → In n xs → insert (remove xs (index_of n xs)) (index_of n xs) n ≡ xs
put_back n [] h = absurd h
put_back n (x ∷ xs) h =
    at_index (λ i. insert (remove (x ∷ xs) i) i n ≡ x ∷ xs) n x xs (λ q. ap (λ z. z ∷ xs) (sym q))
    (λ d. ap (λ z. x ∷ z) (put_back n xs (rest_of n x xs h d)))

pub out_then : (n : ℕ) (xs : List ℕ) → Distinct xs → In n (remove xs (index_of n xs)) → ⊥
out_then n [] d = λ h. h
out_then n (x ∷ xs) d =
    at_index (λ i. In n (remove (x ∷ xs) i) → ⊥) n x xs (λ q h. d.0 (subst (λ m. In m xs) (sym q) h))
    (λ e h. ⊎_elim e (out_then n xs d.1) h)

-- the number stands at the place i of the list; none stands at its end
abbrev pub Stands : Option ℕ → List ℕ → ℕ → Type 0
Stands None xs i = length xs ≡ i
Stands (Some s) xs i = In s xs × (index_of s xs ≡ i)

first_stands : (xs : List ℕ) → Stands (slice_get xs 0) xs 0
first_stands [] = refl
first_stands (x ∷ xs) = (inl refl, index_here x x xs refl)

stands_later : (x : ℕ) (o : Option ℕ) (xs : List ℕ) (i : ℕ) → (In x xs → ⊥) → Stands o xs i → Stands o (x ∷ xs) (suc i)
stands_later x None xs i d h = ap suc h
stands_later x (Some s) xs i d h = (inr h.0, index_other s x xs (λ e. d (subst (λ m. In m xs) (sym e) h.0)) ∙ ap suc h.1)

-- what stood behind n stands where n was
pub next_stands : (n : ℕ) (xs : List ℕ) → Distinct xs → In n xs → Stands (slice_get xs (suc (index_of n xs))) (remove xs (index_of n xs)) (index_of n xs)
next_stands n [] d h = absurd h
next_stands n (x ∷ xs) d h =
    at_index (λ i. Stands (slice_get (x ∷ xs) (suc i)) (remove (x ∷ xs) i) i) n x xs (λ q. first_stands xs)
    (λ e.
    let i : ℕ = index_of n xs in
    stands_later x (slice_get xs (suc i)) (remove xs i) i (λ q. d.0 (in_removed x i xs q)) (next_stands n xs d.1 (rest_of n x xs h e)))

-- An ascending list of pairs is known by what is in it.
use Rattle.std.proofs.Common.{◌≡◌, ℕ, List, [], ◌∷◌, sym, refl, ap, ◌∙◌, inl, inr, ⊎_elim, arith}
use Rattle.std.specs.List.{AllByRecursion}
use Rattle.program.specs.Uses.{Precedes, Ascending, Among}
use Rattle.program.proofs.Uses.{all_among}

pub not_itself : (x y : ℕ × ℕ) → Precedes x y → x ≡ y → ⊥
not_itself x y h e =
    let a : x.0 ≡ y.0 = ap (λ z. z.0) e in let b : x.1 ≡ y.1 = ap (λ z. z.1) e in ⊎_elim (λ q. omega arith) (λ q. omega arith) h

not_both : (x y : ℕ × ℕ) → Precedes x y → Precedes y x → ⊥
not_both x y h g = ⊎_elim (λ a. ⊎_elim (λ b. omega arith) (λ b. omega arith) g) (λ a. ⊎_elim (λ b. omega arith) (λ b. omega arith) g) h

behind :
    (x y : ℕ × ℕ) (xs ys : List (ℕ × ℕ)) → AllByRecursion (Precedes x) xs → x ≡ y → ((z : ℕ × ℕ) → Among z (x ∷ xs) → Among z (y ∷ ys))
    → (z : ℕ × ℕ) → Among z xs → Among z ys
behind x y xs ys a s f z h = ⊎_elim (λ e. absurd (not_itself x z (all_among (Precedes x) z xs a h) (s ∙ e))) (λ q. q) (f z (inr h))

pub ascending_one :
    (xs ys : List (ℕ × ℕ)) → Ascending xs → Ascending ys → ((z : ℕ × ℕ) → Among z xs → Among z ys) → ((z : ℕ × ℕ) → Among z ys → Among z xs)
    → xs ≡ ys
ascending_one [] [] a b f g = refl
ascending_one [] (y ∷ ys) a b f g = absurd (g y (inl refl))
ascending_one (x ∷ xs) [] a b f g = absurd (f x (inl refl))
ascending_one (x ∷ xs) (y ∷ ys) a b f g =
    let same : x ≡ y
    = ⊎_elim (λ e. sym e)
    (λ q. ⊎_elim (λ e. e) (λ r. absurd (not_both y x (all_among (Precedes y) x ys b.0 q) (all_among (Precedes x) y xs a.0 r))) (g y (inl refl)))
    (f x (inl refl)) in
    let rest : xs ≡ ys = ascending_one xs ys a.1 b.1 (behind x y xs ys a.0 same f) (behind y x ys xs b.0 (sym same) g) in
    cc

-- Logarithms to the base 2, and the tests by which the code finds them.
use Rattle.std.proofs.Common.{◌≡◌, ℕ, zero, suc, ◌+◌, ◌-◌, ◌*◌, ◌^◌, ◌<◌, ◌≤◌, true, false, eqb, Some, None, sym, refl, ap, ◌∙◌, ⊎_elim, arith}
use mathlib.Core.Bool.{false≢true}
use lib.Count.{ones}
use Rattle.std.specs.Int.{is_power_of_two}
use Rattle.std.proofs.lemmas.Bool.{cases_eq, cond_both, cond-true, cond-false, eqb-true, eq-eqb, ne_eqb}
use Rattle.std.proofs.lemmas.Nat.{ones_cat, zero_from_ones, pow_pos, pow_below}
use Rattle.rules.specs.Rules.{nothing, become, log_to, shift_of, shift_by}
use Rattle.rules.specs.Changes.{unless_zero}

-- what is found is the logarithm
pub log_is : (x m k : ℕ) → log_to x m ≡ suc k → (x ≡ 2 ^ (suc k)) × (suc k ≤ m)
log_is x zero k = λ e. absurd (omega arith)
log_is x (suc m) k =
    cond_both (eqb x (2 ^ (suc m))) (suc m) (log_to x m) (λ n. n ≡ suc k → (x ≡ 2 ^ (suc k)) × (suc k ≤ suc m))
    (λ q z. (eqb-true x (2 ^ (suc m)) q ∙ ap (λ y. 2 ^ y) z, omega arith))
    (λ q z. let h = log_is x m k z in (h.0, omega arith))

-- and every logarithm up to the limit is found
log_found : (x m k : ℕ) → x ≡ 2 ^ k → 0 < k → k ≤ m → log_to x m ≡ k
log_found x zero k e p l = absurd (omega arith)
log_found x (suc m) k e p l =
    ⊎_elim
    (λ q. cond-true (eqb x (2 ^ suc m)) (suc m) (log_to x m) (eq-eqb x (2 ^ suc m) (e ∙ ap (λ y. 2 ^ y) q)) ∙ sym q)
    (λ d.
    let b : 2 ^ k < 2 ^ suc m = pow_below k (suc m) (omega arith) in
    cond-false (eqb x (2 ^ suc m)) (suc m) (log_to x m) (ne_eqb x (2 ^ suc m) (λ z. omega arith))
    ∙ log_found x m k e p (omega arith))
    (cases_eq k (suc m))

-- ---- one bit is set

power_one : (x k : ℕ) → x ≡ 2 ^ k → is_power_of_two x ≡ true
unfolding ones
power_one x k e =
    let c = ones_cat k 1 0 (pow_pos k) in
    let h : 1 * 2 ^ k + 0 ≡ x = omega arith in
    eq-eqb (ones x) 1 (sym (ap ones h) ∙ c)

power_only : (x k : ℕ) → is_power_of_two x ≡ true → 2 ^ k ≤ x → x < 2 * 2 ^ k → x ≡ 2 ^ k
unfolding ones
power_only x k t l h =
    let r : ℕ = x - 2 ^ k in
    let c : ones (1 * 2 ^ k + r) ≡ 1 + ones r = ones_cat k 1 r (omega arith) in
    let s : 1 * 2 ^ k + r ≡ x = omega arith in
    let o : ones x ≡ 1 = eqb-true (ones x) 1 t in
    let z : r ≡ 0 = zero_from_ones r (let q : ones (1 * 2 ^ k + r) ≡ ones x = ap ones s in omega arith) in
    omega arith

-- ---- as the code answers

no_log : (x : ℕ) → ((k : ℕ) → x ≡ 2 ^ suc k → ⊥) → unless_zero (log_to x 31) ≡ None
no_log x f = by_log (log_to x 31) refl
  where
    by_log : (n : ℕ) → log_to x 31 ≡ n → unless_zero n ≡ None
    by_log zero e = refl
    by_log (suc k) e = absurd (f k (log_is x 31 k e).0)

pub log_small : (x : ℕ) → x < 2 → unless_zero (log_to x 31) ≡ None
log_small x l = no_log x (λ k e. let h : 2 ^ 0 < 2 ^ suc k = pow_below 0 (suc k) (omega arith) in omega arith)

pub log_other : (x : ℕ) → is_power_of_two x ≡ false → unless_zero (log_to x 31) ≡ None
log_other x f = no_log x (λ k e. false≢true (sym f ∙ power_one x (suc k) e))

pub log_power : (x k : ℕ) → is_power_of_two x ≡ true → 2 ≤ x → 2 ^ k ≤ x → x < 2 * 2 ^ k → k < 32 → unless_zero (log_to x 31) ≡ Some k
log_power x zero t m l h b = absurd (omega arith)
log_power x (suc k) t m l h b = ap unless_zero (log_found x 31 (suc k) (power_only x (suc k) t l h) (omega arith) (omega arith))

-- ---- a shift by what is found, b first

pub shift_none : (a b k j : ℕ) → unless_zero k ≡ None → unless_zero j ≡ None → shift_by a b k j ≡ nothing
shift_none a b zero zero e f = refl
shift_none a b zero (suc j) e f = cc
shift_none a b (suc k) j e f = cc

pub shift_second : (a b k j n : ℕ) → unless_zero k ≡ None → unless_zero j ≡ Some n → shift_by a b k j ≡ become (shift_of b n)
shift_second a b zero zero n e f = cc
shift_second a b zero (suc j) n e f = cc
shift_second a b (suc k) j n e f = cc

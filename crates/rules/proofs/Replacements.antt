-- Rules 3, 4 and 6 are valid: operands of the same value, results that are always 0, and products with powers of 2.
use Rattle.std.proofs.Common.{◌≡◌, ℕ, zero, suc, ◌+◌, ◌-◌, ◌*◌, ◌%◌, ◌^◌, ◌<◌, Bool, true, false, cond, ◌||◌, eqb, refl, ap, ◌∙◌, ⊎_elim, mul_comm, arith, lit<}
use mathlib.Core.Bool.{false≢true}
use lib.Bits.{bit_and, bit_or, bit_xor, and_zero_l, and_zero_r, or_zero_l, or_zero_r, xor_zero_l, xor_zero_r, xor_self}
use Rattle.std.proofs.lemmas.Bool.{eqb-true, or_cases, cond_both}
use Rattle.ir.specs.declared.operation.Op.{Op}
use Rattle.ir.specs.declared.operation.Op.TheVariants.{Add, Subtract, Multiply, And, Or, Xor, Pick, Shift}
use Rattle.ir.specs.Instructions.{constant_of}
use Rattle.ir.specs.Values.{word}
use Rattle.program.specs.Programs.{Program, at, takes, In, Before}
use Rattle.runs.specs.Runs.{out?}
use Rattle.rules.specs.Rules.{nothing, drop_for, become, constant?, is, neutral, same_by, zero_if, fixed_by, log_to, log, shift_of, shift_by, power_by, by_op}
use Rattle.rules.specs.Laws.{Sound}
use Rattle.rules.proofs.Valid.{Always, Valid}
use Rattle.rules.proofs.Logs.{log_is}
use Rattle.rules.proofs.Known.{constant_is, is_value, word_of, become_constant, Two, means_by, two}

-- ---- powers of 2

power_is : (p : Program) (m k : ℕ) → log p m ≡ suc k → (constant? (at p m).op ≡ true) × ((at p m).literal ≡ 2 ^ (suc k)) × (suc k < 32)
power_is p m k =
    cond_both (constant? (at p m).op) (log_to (at p m).literal 31) 0 (λ x. x ≡ suc k → (constant? (at p m).op ≡ true) × ((at p m).literal ≡ 2 ^ (suc k)) × (suc k < 32))
    (λ q z. let l = log_is (at p m).literal 31 k z in (q, l.0, omega arith))
    (λ q z. absurd (omega arith))

module _ (p : Program) (n : ℕ) (s : Sound p) (i : In n p.order) where
  abbrev a : ℕ
  a = (at p n).a

  abbrev b : ℕ
  b = (at p n).b

  abbrev c : ℕ
  c = (at p n).c

  abbrev First : ℕ → Type 0
  First k = Before k n p.order

  -- ---- the value of an operand

  neutral_valid :
      (f : ℕ → ℕ → ℕ) (x : ℕ) → Two p n f → ((y : ℕ) → y < word → f y x ≡ y) → ((y : ℕ) → y < word → f x y ≡ y)
      → Valid p n (neutral p x a b)
  neutral_valid f x h right left =
      cond_both (is p b x) (drop_for a) (cond (is p a x) (drop_for b) nothing) (Valid p n)
      (λ e. (
        h.quiet,
        h.first_a,
        λ w v u g.
            h.means w v u g
            ∙ (ap (λ y. f (v a) y) (is_value p n b x h.first_b e w v u g) ∙ right (v a) (word_of p n s a h.first_a w v u g)),
      ))
      (λ z. cond_both (is p a x) (drop_for b) nothing (Valid p n)
      (λ e. (
        h.quiet,
        h.first_b,
        λ w v u g.
            h.means w v u g
            ∙ (ap (λ y. f y (v b)) (is_value p n a x h.first_a e w v u g) ∙ left (v b) (word_of p n s b h.first_b w v u g)),
      ))
      (λ e. tt))

  pick_valid : (at p n).op ≡ Pick → Valid p n (same_by p (at p n) Pick)
  pick_valid e =
      let first = s.1 n i in
      let first_a : First a = first.0 (ap (takes 0) e) in
      cond_both (constant? (at p a).op) (drop_for (cond (eqb (at p a).literal 0) c b)) nothing (Valid p n)
      (λ t. (
        ap out? e,
        cond_both (eqb (at p a).literal 0) c b First (λ q. first.2 (ap (takes 2) e)) (λ q. first.1 (ap (takes 1) e)),
        λ w v u f.
            means_by p n s i Pick e w v u f
            ∙ (ap (λ x. cond (eqb x 0) (v c) (v b)) (constant_is p n a first_a t w v u f) ∙ inside (eqb (at p a).literal 0) v),
      ))
      (λ t. tt)
    where
      inside : (t : Bool) (v : ℕ → ℕ) → cond t (v c) (v b) ≡ v (cond t c b)
      inside true v = refl
      inside false v = refl

  shift_valid : (at p n).op ≡ Shift → Valid p n (same_by p (at p n) Shift)
  shift_valid e =
      let l : ℕ = (at p n).literal in
      let first_a : First a = (s.1 n i).0 (ap (takes 0) e) in
      cond_both (eqb l 0) (drop_for a) nothing (Valid p n)
      (λ t. (
        ap out? e,
        first_a,
        λ w v u f.
            let h : v a < word = word_of p n s a first_a w v u f in
            let m : v n ≡ (v a * 1) % word = means_by p n s i Shift e w v u f ∙ ap (λ x. (v a * 2 ^ x) % word) (eqb-true l 0 t) in
            omega arith,
      ))
      (λ t. tt)

  same_from : (o : Op) → (at p n).op ≡ o → Valid p n (same_by p (at p n) o)
  same_from Add e =
      let f : ℕ → ℕ → ℕ = λ x y. (x + y) % word in
      neutral_valid f 0 (two p n s i Add e f refl refl refl (λ l w x y z. refl)) (λ x h. omega arith) (λ x h. omega arith)
  same_from Subtract e =
      let t : Two p n (λ x y. (x + word - y) % word) = two p n s i Subtract e (λ x y. (x + word - y) % word) refl refl refl (λ l w x y z. refl) in
      cond_both (is p b 0) (drop_for a) nothing (Valid p n)
      (λ q. (
        t.quiet,
        t.first_a,
        λ w v u f.
            let h : v a < word = word_of p n s a t.first_a w v u f in
            let z : v b ≡ 0 = is_value p n b 0 t.first_b q w v u f in
            let m : v n ≡ (v a + word - v b) % word = t.means w v u f in
            omega arith,
      ))
      (λ q. tt)
  same_from Multiply e =
      let f : ℕ → ℕ → ℕ = λ x y. (x * y) % word in
      neutral_valid f 1 (two p n s i Multiply e f refl refl refl (λ l w x y z. refl)) (λ x h. omega arith) (λ x h. omega arith)
  same_from Or e = neutral_valid bit_or 0 (two p n s i Or e bit_or refl refl refl (λ l w x y z. refl)) (λ x h. or_zero_r x) (λ x h. or_zero_l x)
  same_from Xor e = neutral_valid bit_xor 0 (two p n s i Xor e bit_xor refl refl refl (λ l w x y z. refl)) (λ x h. xor_zero_r x) (λ x h. xor_zero_l x)
  same_from Pick e = pick_valid e
  same_from Shift e = shift_valid e
  same_from o e = tt

  pub same_valid : Valid p n (by_op same_by p n)
  same_valid = same_from (at p n).op refl

  -- ---- always 0

  zero_valid :
      (f : ℕ → ℕ → ℕ) → Two p n f → ((x : ℕ) → f x 0 ≡ 0) → ((x : ℕ) → f 0 x ≡ 0) → Valid p n (zero_if (is p b 0 || is p a 0))
  zero_valid f h right left =
      cond_both (is p b 0 || is p a 0) (become (constant_of 0)) nothing (Valid p n)
      (λ t. become_constant p n 0 (lit< tt) h.quiet (λ w v u g.
      h.means w v u g
      ∙ ⊎_elim (λ e. ap (λ y. f (v a) y) (is_value p n b 0 h.first_b e w v u g) ∙ right (v a))
      (λ e. ap (λ x. f x (v b)) (is_value p n a 0 h.first_a e w v u g) ∙ left (v b)) (or_cases (is p b 0) (is p a 0) t)))
      (λ t. tt)

  equal_valid : (f : ℕ → ℕ → ℕ) → Two p n f → ((x : ℕ) → f x x ≡ 0) → Valid p n (zero_if (eqb a b))
  equal_valid f h self =
      cond_both (eqb a b) (become (constant_of 0)) nothing (Valid p n)
      (λ t. become_constant p n 0 (lit< tt) h.quiet (λ w v u g.
      h.means w v u g ∙ (ap (λ x. f (v x) (v b)) (eqb-true a b t) ∙ self (v b))))
      (λ t. tt)

  fixed_from : (o : Op) → (at p n).op ≡ o → Valid p n (fixed_by p (at p n) o)
  fixed_from Subtract e =
      let f : ℕ → ℕ → ℕ = λ x y. (x + word - y) % word in
      equal_valid f (two p n s i Subtract e f refl refl refl (λ l w x y z. refl)) (λ x. omega arith)
  fixed_from Multiply e =
      let f : ℕ → ℕ → ℕ = λ x y. (x * y) % word in
      zero_valid f (two p n s i Multiply e f refl refl refl (λ l w x y z. refl)) (λ x. omega arith) (λ x. omega arith)
  fixed_from And e = zero_valid bit_and (two p n s i And e bit_and refl refl refl (λ l w x y z. refl)) (λ x. and_zero_r x) (λ x. and_zero_l x)
  fixed_from Xor e = equal_valid bit_xor (two p n s i Xor e bit_xor refl refl refl (λ l w x y z. refl)) (λ x. xor_self x)
  fixed_from o e = tt

  pub fixed_valid : Valid p n (by_op fixed_by p n)
  fixed_valid = fixed_from (at p n).op refl

  -- ---- powers of 2

  become_shift : (x k : ℕ) → out? (at p n).op ≡ false → First x → k < 32 → Always p (λ v w. v n ≡ (v x * 2 ^ k) % word) → Valid p n (become (shift_of x k))
  become_shift x k q first l m = (
    q,
    refl,
    (l, λ t. absurd (omega arith), λ t. refl, λ t. refl),
    (λ t. first, λ t. absurd (false≢true t), λ t. absurd (false≢true t)),
    m,
  )

  shifted :
      Two p n (λ x y. (x * y) % word) → (k j : ℕ) → log p b ≡ k → log p a ≡ j → Valid p n (shift_by a b k j)
  shifted t zero zero ek ej = tt
  shifted t zero (suc j) ek ej =
      let h = power_is p a j ej in
      become_shift b (suc j) t.quiet t.first_b h.2
      (λ w v u f.
      t.means w v u f
      ∙ (ap (λ x. x % word) (mul_comm (v a) (v b))
      ∙ ap (λ x. (v b * x) % word) (constant_is p n a t.first_a h.0 w v u f ∙ h.1)))
  shifted t (suc k) j ek ej =
      let h = power_is p b k ek in
      become_shift a (suc k) t.quiet t.first_a h.2
      (λ w v u f. t.means w v u f ∙ ap (λ x. (v a * x) % word) (constant_is p n b t.first_b h.0 w v u f ∙ h.1))

  power_from : (o : Op) → (at p n).op ≡ o → Valid p n (power_by p (at p n) o)
  power_from Multiply e =
      shifted (two p n s i Multiply e (λ x y. (x * y) % word) refl refl refl (λ l w x y z. refl)) (log p b) (log p a) refl refl
  power_from o e = tt

  pub power_valid : Valid p n (by_op power_by p n)
  power_valid = power_from (at p n).op refl

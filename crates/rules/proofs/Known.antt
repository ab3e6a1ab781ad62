-- What is known of the values of a sound program: constants, and an instruction by its operation.
use Rattle.std.proofs.Common.{◌≡◌, ℕ, ◌<◌, true, false, eqb, List, refl, ap, ◌∙◌}
use Rattle.std.proofs.lemmas.Bool.{eqb-true, and_parts}
use Rattle.ir.specs.declared.operation.Op.{Op}
use Rattle.ir.specs.Instructions.{constant_of}
use Rattle.ir.specs.Values.{word, value_of}
use Rattle.program.specs.Programs.{Program, at, takes, In, Before}
use Rattle.program.proofs.Operands.{no_operands}
use Rattle.program.proofs.Orders.{before_left}
use Rattle.runs.specs.Runs.{out?, arg}
use Rattle.rules.specs.Rules.{constant?, is, become}
use Rattle.rules.specs.Laws.{Sound}
use Rattle.rules.proofs.Words.{words, constant_value}
use Rattle.rules.proofs.Valid.{Always, Valid}

module _ (p : Program) (n : ℕ) where
  -- a constant before n has the value of its literal
  pub constant_is : (k : ℕ) → Before k n p.order → constant? (at p k).op ≡ true → Always p (λ v w. v k ≡ (at p k).literal)
  constant_is k b e w v a f =
      f k (before_left k n p.order b)
      ∙ constant_value (at p k).op (at p k).literal w (arg (takes 0 (at p k).op) v (at p k).a) (arg (takes 1 (at p k).op) v (at p k).b)
      (arg (takes 2 (at p k).op) v (at p k).c) e

  pub is_value : (k x : ℕ) → Before k n p.order → is p k x ≡ true → Always p (λ v w. v k ≡ x)
  is_value k x b e w v a f =
      let h = and_parts (constant? (at p k).op) (eqb (at p k).literal x) e in
      constant_is k b h.0 w v a f ∙ eqb-true (at p k).literal x h.1

  pub word_of : Sound p → (k : ℕ) → Before k n p.order → Always p (λ v w. v k < word)
  word_of s k b w v a f = words p s w v a f k (before_left k n p.order b)

  -- what has one value always can become its constant
  pub become_constant : (x : ℕ) → x < word → out? (at p n).op ≡ false → Always p (λ v w. v n ≡ x) → Valid p n (become (constant_of x))
  become_constant x l q m = (
    q,
    refl,
    (l, λ h. refl, λ h. refl, λ h. refl),
    no_operands (λ m. Before m n p.order),
    m,
  )

  -- n computes f of its first two operands, which stand before it
  pub record Two (f : ℕ → ℕ → ℕ) : Type 0 where
    pub quiet : out? (at p n).op ≡ false
    pub first_a : Before (at p n).a n p.order
    pub first_b : Before (at p n).b n p.order
    pub means : Always p (λ v w. v n ≡ f (v (at p n).a) (v (at p n).b))

  module _ (s : Sound p) (i : In n p.order) (o : Op) (e : (at p n).op ≡ o) where
    -- n has the value of its operation
    pub means_by :
        Always p (λ v w. v n ≡ value_of o (at p n).literal w (arg (takes 0 o) v (at p n).a) (arg (takes 1 o) v (at p n).b) (arg (takes 2 o) v (at p n).c))
    means_by w v a f =
        f n i
        ∙ ap (λ q. value_of q (at p n).literal w (arg (takes 0 q) v (at p n).a) (arg (takes 1 q) v (at p n).b) (arg (takes 2 q) v (at p n).c)) e

    pub two :
        (f : ℕ → ℕ → ℕ) → out? o ≡ false → takes 0 o ≡ true → takes 1 o ≡ true
        → ((l : ℕ) (w : List ℕ) (x y z : ℕ) → value_of o l w x y z ≡ f x y) → Two f
    two f q t u g =
        let a : ℕ = (at p n).a in
        let b : ℕ = (at p n).b in
        record {
          quiet = ap out? e ∙ q;
          first_a = (s.1 n i).0 (ap (takes 0) e ∙ t);
          first_b = (s.1 n i).1 (ap (takes 1) e ∙ u);
          means = λ w v k h.
              means_by w v k h
              ∙ (g (at p n).literal w (arg (takes 0 o) v a) (arg (takes 1 o) v b) (arg (takes 2 o) v (at p n).c) ∙ (λ j. f (arg (t j) v a) (arg (u j) v b)));
        }

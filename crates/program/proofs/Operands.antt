-- What holds of the operands of an instruction.
use Rattle.std.proofs.Common.{◌≡◌, ℕ, zero, suc, ◌<◌, true, List, [], ◌∷◌, take, Some, refl, ◌∙◌, arith}
use mathlib.Core.Bool.{false≢true}
use Rattle.std.specs.List.{slice_get}
use Rattle.std.proofs.lemmas.Bool.{ltb-true}
use Rattle.ir.specs.Operations.{arity}
use Rattle.ir.specs.Instructions.{Instr, constant_of}
use Rattle.program.specs.Programs.{takes, Operands}
use Rattle.program.specs.Uses.{position}

pub operands_map : (i : Instr) (P Q : ℕ → Type 0) → ((m : ℕ) → P m → Q m) → Operands i P → Operands i Q
operands_map i P Q f o = (λ h. f i.a (o.0 h), λ h. f i.b (o.1 h), λ h. f i.c (o.2 h))

pub operands_both :
    (i : Instr) (P Q R : ℕ → Type 0) → ((m : ℕ) → P m → Q m → R m) → Operands i P → Operands i Q → Operands i R
operands_both i P Q R f o q =
    (λ h. f i.a (o.0 h) (q.0 h), λ h. f i.b (o.1 h) (q.1 h), λ h. f i.c (o.2 h) (q.2 h))

pub no_operands : (P : ℕ → Type 0) → Operands (constant_of 0) P
no_operands P = (λ h. absurd (false≢true h), λ h. absurd (false≢true h), λ h. absurd (false≢true h))

nth_take : (m k : ℕ) (xs : List ℕ) → k < m → slice_get (take m xs) k ≡ slice_get xs k
nth_take zero k xs h = absurd (omega arith)
nth_take (suc m) k [] h = refl
nth_take (suc m) zero (x ∷ xs) h = refl
nth_take (suc m) (suc k) (x ∷ xs) h = nth_take m k xs (omega arith)

-- an operand that is there stands at its position
pub at_position : (i : Instr) (k : ℕ) → takes k i.op ≡ true → position i (suc k) ≡ slice_get (i.a ∷ (i.b ∷ (i.c ∷ []))) k
at_position i k h = nth_take (arity i.op) k (i.a ∷ (i.b ∷ (i.c ∷ []))) (ltb-true k (arity i.op) h)

-- what is refuted at each position holds of no operand
pub operands_from :
    (i : Instr) (n : ℕ) → ((k : ℕ) → position i k ≡ Some n → ⊥) → Operands i (λ m. m ≡ n → ⊥)
operands_from i n f = (
  λ h e. f 1 (at_position i 0 h ∙ cc),
  λ h e. f 2 (at_position i 1 h ∙ cc),
  λ h e. f 3 (at_position i 2 h ∙ cc),
)

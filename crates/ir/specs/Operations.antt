-- The thirteen operations: codes, letters, how many operands, which literals.
use Rattle.std.specs.Prelude.{◌≡◌, ℕ, ◌^◌, ◌<◌, [], ◌∷◌, Some, None, Option, slice_index_or}
use Rattle.ir.specs.declared.operation.Op.{Op}
use Rattle.ir.specs.declared.operation.Op.TheVariants.{Constant, Input, Add, Subtract, Multiply, And, Or, Xor, Less, Equal, Pick, Shift, Out}

-- the operation of a code, 0 to 12; no other number is a code
abbrev pub operation_of : ℕ → Option Op
operation_of code =
    slice_index_or
    (Some Constant ∷ Some Input ∷ Some Add ∷ Some Subtract ∷ Some Multiply ∷ Some And ∷ Some Or ∷ Some Xor ∷ Some Less ∷ Some Equal ∷ Some Pick ∷ Some Shift ∷ Some Out ∷ [])
    code
    None

-- the byte of the letter that stands for the operation in a line: c i + - * & | ^ < = ? h o
abbrev pub letter_of : Op → ℕ
letter_of Constant = 99
letter_of Input = 105
letter_of Add = 43
letter_of Subtract = 45
letter_of Multiply = 42
letter_of And = 38
letter_of Or = 124
letter_of Xor = 94
letter_of Less = 60
letter_of Equal = 61
letter_of Pick = 63
letter_of Shift = 104
letter_of Out = 111

-- how many operands there are
abbrev pub arity : Op → ℕ
arity Constant = 0
arity Input = 0
arity Add = 2
arity Subtract = 2
arity Multiply = 2
arity And = 2
arity Or = 2
arity Xor = 2
arity Less = 2
arity Equal = 2
arity Pick = 3
arity Shift = 1
arity Out = 1

-- a literal is below this: any word, a channel, a shift, or 0 where the operation has no literal
abbrev pub limit : Op → ℕ
limit Constant = 2 ^ 32
limit Input = 16
limit Add = 1
limit Subtract = 1
limit Multiply = 1
limit And = 1
limit Or = 1
limit Xor = 1
limit Less = 1
limit Equal = 1
limit Pick = 1
limit Shift = 32
limit Out = 16

-- the literal is in range and each absent operand is 0
abbrev pub Shaped : Op → ℕ → ℕ → ℕ → ℕ → Type 0
Shaped op literal a b c = (literal < limit op) × (arity op < 1 → a ≡ 0) × (arity op < 2 → b ≡ 0) × (arity op < 3 → c ≡ 0)

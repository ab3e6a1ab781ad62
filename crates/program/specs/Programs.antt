-- What a program is: for each number its instruction or nothing, and the order of the placed numbers.
use Rattle.std.specs.Prelude.{◌≡◌, ℕ, suc, Bool, true, false, cond, ◌⊎◌, List, [], ◌∷◌, length, take, replicate, Some, None, Option, ◌==◌, nat_lt, slice_index_or}
use Rattle.ir.specs.declared.operation.Op.{Op}
use Rattle.ir.specs.Operations.{arity}
use Rattle.ir.specs.Instructions.{Instr, constant_of}
use Rattle.program.specs.declared.state.State.{State}
use Rattle.program.specs.declared.state.State.TheVariants.{Free, Loose, Placed}

-- the instruction of a number, or None where the number is free
abbrev pub Cell : Type 0
Cell = Option Instr

pub record Program : Type 0 where
  pub cells : List Cell
  pub order : List ℕ

abbrev pub program_of : List Cell → List ℕ → Program
program_of cells order = record { cells = cells; order = order }

-- all of so many numbers are free
abbrev pub new_program : ℕ → Program
new_program n = record { cells = replicate n None; order = [] }

-- ---- numbers

-- a program of size C has the numbers 0 to C - 1
abbrev pub size : Program → ℕ
size p = length p.cells

abbrev pub within : Program → ℕ → Bool
within p n = nat_lt n (size p)

-- the cell of a number; beyond the size, as if it were free
abbrev pub cell : Program → ℕ → Cell
cell p n = slice_index_or p.cells n None

abbrev pub busy : Cell → Bool
busy None = false
busy (Some i) = true

-- the number is loose or placed
abbrev pub Busy : Program → ℕ → Type 0
Busy p n = busy (cell p n) ≡ true

-- the instruction of a number; a free one counts as the constant 0
abbrev pub held : Cell → Instr
held None = constant_of 0
held (Some i) = i

abbrev pub at : Program → ℕ → Instr
at p n = held (cell p n)

-- ---- order

-- the place of n in a list, from 0; the list's length if n is not there
abbrev pub index_of : ℕ → List ℕ → ℕ
index_of n [] = 0
index_of n (x ∷ xs) = cond (x == n) 0 (suc (index_of n xs))

abbrev pub has : ℕ → List ℕ → Bool
has n xs = nat_lt (index_of n xs) (length xs)

-- n stands in the list
abbrev pub In : ℕ → List ℕ → Type 0
In n [] = ⊥
In n (x ∷ xs) = (x ≡ n) ⊎ In n xs

-- m stands before n in the list
abbrev pub Before : ℕ → ℕ → List ℕ → Type 0
Before m n [] = ⊥
Before m n (x ∷ xs) = ((x ≡ m) × In n xs) ⊎ Before m n xs

-- no number stands twice
abbrev pub Distinct : List ℕ → Type 0
Distinct [] = Unit {0}
Distinct (x ∷ xs) = (In x xs → ⊥) × Distinct xs

-- ---- states

abbrev pub state_by : Cell → Bool → State
state_by None placed = Free
state_by (Some i) placed = cond placed Placed Loose

-- free without an instruction, placed with one that stands in the order, and loose with one that does not
abbrev pub state_of : Program → ℕ → State
state_of p n = state_by (cell p n) (has n p.order)

abbrev pub is_free : State → Bool
is_free Free = true
is_free Loose = false
is_free Placed = false

abbrev pub is_loose : State → Bool
is_loose Free = false
is_loose Loose = true
is_loose Placed = false

abbrev pub is_placed : State → Bool
is_placed Free = false
is_placed Loose = false
is_placed Placed = true

-- ---- operands

-- the operands that are there
abbrev pub operands : Instr → List ℕ
operands i = take (arity i.op) (i.a ∷ (i.b ∷ (i.c ∷ [])))

-- whether the operation has an operand at this place, from 0
abbrev pub takes : ℕ → Op → Bool
takes place op = nat_lt place (arity op)

-- P holds of each operand that is there
abbrev pub Operands : Instr → (ℕ → Type 0) → Type 0
Operands i P = (takes 0 i.op ≡ true → P i.a) × (takes 1 i.op ≡ true → P i.b) × (takes 2 i.op ≡ true → P i.c)

-- every operand of an instruction of the order stands before it
abbrev pub Formed : (ℕ → Instr) → List ℕ → Type 0
Formed of ns = (n : ℕ) → In n ns → Operands (of n) (λ m. Before m n ns)

-- a program is well formed when every operand of a placed instruction is placed before it
abbrev pub WellFormed : Program → Type 0
WellFormed p = Formed (at p) p.order

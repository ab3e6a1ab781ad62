-- The test for a well-formed program.
use Rattle.std.specs.Prelude.{ℕ, Bool, false, cond, not, ◌&&◌, ◌||◌, List, [], ◌∷◌, Some, None, Option, ◌==◌}
use Rattle.ir.specs.Instructions.{Instr}
use Rattle.program.specs.Programs.{Program, at, takes, Operands, In, Before, WellFormed}

abbrev pub member : ℕ → List ℕ → Bool
member n [] = false
member n (x ∷ xs) = x == n || member n xs

-- the operand is absent, or among those seen
abbrev pub seen? : List ℕ → Bool → ℕ → Bool
seen? seen present n = not present || member n seen

abbrev pub reads_seen : List ℕ → Instr → Bool
reads_seen seen i =
    seen? seen (takes 0 i.op) i.a && (seen? seen (takes 1 i.op) i.b && seen? seen (takes 2 i.op) i.c)

-- the first that reads one that has not been seen before it
abbrev pub first_broken : (ℕ → Instr) → List ℕ → List ℕ → Option ℕ
first_broken of seen [] = None
first_broken of seen (n ∷ ns) = cond (reads_seen seen (of n)) (first_broken of (n ∷ seen) ns) (Some n)

-- the first placed instruction with an operand that is not placed before it
abbrev pub broken : Program → Option ℕ
broken p = first_broken (at p) [] p.order

-- what the test finds: nothing in a well-formed program; else a placed instruction with an operand that is not placed before it, while those of every earlier one are
abbrev pub Found : Program → Option ℕ → Type 0
Found p None = WellFormed p
Found p (Some n) =
    In n p.order × (Operands (at p n) (λ m. Before m n p.order) → ⊥)
    × ((k : ℕ) → Before k n p.order → Operands (at p k) (λ m. Before m k p.order))

abbrev pub FormLaw : Program → Type 0
FormLaw p = Found p (broken p)

-- A use and a neighbour, read off a link; and the operands, read off a cell.
use Rattle.std.specs.Prelude.{◌≡◌, ℕ, ◌/◌, ◌%◌, ◌<◌, ◌≤◌, cond, ◌⊎◌, List, [], ◌∷◌, Some, None, Option, nat_lt}
use Rattle.ir.specs.Instructions.{Instr, slots}

-- the use at a place of the links; none from 4096 on
abbrev pub decode : ℕ → Option (ℕ × ℕ)
decode y = cond (nat_lt y 4096) (Some (y / 4, y % 4)) None

-- the operand of a cell at each position
abbrev pub slots_of : Option Instr → List (Option ℕ)
slots_of None = None ∷ (None ∷ (None ∷ []))
slots_of (Some i) = slots i

-- a node of the order as a number, absent at the end
abbrev pub node_number : ℕ → ℕ → Option ℕ
node_number size k = cond (nat_lt k size) (Some k) None

-- q stands for the position p against the positions 1 to 3
abbrev pub Cut : ℕ → ℕ → Type 0
Cut p q = ((q ≡ p) ⊎ ((q ≡ 3) × (4 ≤ p))) × (q < 4)

-- Instructions of the model: the five parts of a record, with no proof beside them.
use Rattle.std.specs.Prelude.{ℕ, Bool, true, false, List, [], ◌∷◌, Some, None, Option, nat_lt}
use Rattle.ir.specs.declared.operation.Op.{Op}
use Rattle.ir.specs.declared.operation.Op.TheVariants.{Constant}
use Rattle.ir.specs.declared.instruction.Record.{Record}
use Rattle.ir.specs.Operations.{arity, Shaped}

pub record Instr : Type 0 where
  pub op : Op
  pub literal : ℕ
  pub a : ℕ
  pub b : ℕ
  pub c : ℕ

-- what a record says
abbrev pub plain : Record → Instr
plain r = record { op = r.op; literal = r.literal; a = r.a; b = r.b; c = r.c }

-- the instruction keeps its operation's shape, as every record does
abbrev pub Shapely : Instr → Type 0
Shapely i = Shaped i.op i.literal i.a i.b i.c

-- the constant of a word
abbrev pub constant_of : ℕ → Instr
constant_of literal = record { op = Constant; literal = literal; a = 0; b = 0; c = 0 }

-- an operand where the operation has it
abbrev pub slot : Bool → ℕ → Option ℕ
slot true n = Some n
slot false n = None

-- the operand at each of the three positions, and None behind the last that the operation has
abbrev pub slots : Instr → List (Option ℕ)
slots i = slot (nat_lt 0 (arity i.op)) i.a ∷ (slot (nat_lt 1 (arity i.op)) i.b ∷ (slot (nat_lt 2 (arity i.op)) i.c ∷ []))

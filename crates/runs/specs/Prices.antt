-- Cost models and prices.
use Rattle.std.specs.Prelude.{ℕ, ◌+◌, min, max, List, [], ◌∷◌}
use Rattle.ir.specs.declared.operation.Op.{Op}
use Rattle.ir.specs.declared.operation.Op.TheVariants.{Constant, Input, Add, Subtract, Multiply, And, Or, Xor, Less, Equal, Pick, Shift, Out}
use Rattle.ir.specs.Instructions.{Instr}
use Rattle.program.specs.Programs.{Program, at, takes}
use Rattle.runs.specs.Runs.{arg, upd, nothing}

-- a cost model: an instruction's stamp from its operation, its literal and its operands' stamps (0 for an absent one); and the new total from the old one and a stamp
pub record Costing : Type 0 where
  pub stamp : Op → ℕ → ℕ → ℕ → ℕ → ℕ
  pub total : ℕ → ℕ → ℕ

-- the stamp of an instruction where v gives the stamps of the others
abbrev pub stamp_of : Costing → Instr → (ℕ → ℕ) → ℕ
stamp_of c i v =
    c.stamp i.op i.literal (arg (takes 0 i.op) v i.a) (arg (takes 1 i.op) v i.b) (arg (takes 2 i.op) v i.c)

abbrev pub price_from : Costing → (ℕ → Instr) → ℕ → (ℕ → ℕ) → List ℕ → ℕ
price_from c of total v [] = total
price_from c of total v (n ∷ ns) =
    price_from c of (c.total total (stamp_of c (of n) v)) (upd v n (stamp_of c (of n) v)) ns

-- the price of a program: from total 0, the placed instructions in order
abbrev pub price : Costing → Program → ℕ
price c p = price_from c (at p) 0 nothing p.order

-- ---- the two delivered cost models

abbrev pub bytes : Op → ℕ
bytes Constant = 2
bytes Input = 2
bytes Add = 3
bytes Subtract = 3
bytes Multiply = 3
bytes And = 3
bytes Or = 3
bytes Xor = 3
bytes Less = 3
bytes Equal = 3
bytes Pick = 4
bytes Shift = 4
bytes Out = 3

abbrev pub delay : Op → ℕ
delay Constant = 0
delay Input = 1
delay Add = 2
delay Subtract = 2
delay Multiply = 5
delay And = 1
delay Or = 1
delay Xor = 1
delay Less = 2
delay Equal = 2
delay Pick = 2
delay Shift = 1
delay Out = 1

-- sums stop at the greatest word
abbrev pub capped : ℕ → ℕ
capped x = min x 4294967295

-- Size: the stamp is the bytes, the total their sum
abbrev pub by_size : Costing
by_size = record { stamp = λ op literal x y z. bytes op; total = λ total stamp. capped (total + stamp) }

-- Delay: the stamp is the time at which the value is there, the greatest operand stamp plus the delay; the total is the greatest stamp
abbrev pub by_delay : Costing
by_delay = record { stamp = λ op literal x y z. capped (max (max x y) z + delay op); total = λ total stamp. max total stamp }

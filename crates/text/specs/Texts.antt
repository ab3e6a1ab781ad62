-- The text of numbers and of records. Bytes are numbers: 9 is the tab.
use Rattle.std.specs.Prelude.{ℕ, List, [], ◌∷◌, ◌++◌, decimal}
use Rattle.ir.specs.declared.operation.Op.{Op}
use Rattle.ir.specs.declared.operation.Op.TheVariants.{Constant, Input, Add, Subtract, Multiply, And, Or, Xor, Less, Equal, Pick, Shift, Out}
use Rattle.ir.specs.Operations.{letter_of}
use Rattle.ir.specs.Instructions.{Instr}

-- numbers in plain digits, each behind a tab
abbrev pub tabbed : List ℕ → List ℕ
tabbed [] = []
tabbed (n ∷ ns) = 9 ∷ (decimal n ++ tabbed ns)

-- the numbers that a record's text has behind its letter: the literal if the operation has one, then the operands that it has
abbrev pub numbers_by : Op → Instr → List ℕ
numbers_by Constant i = i.literal ∷ []
numbers_by Input i = i.literal ∷ []
numbers_by Add i = i.a ∷ i.b ∷ []
numbers_by Subtract i = i.a ∷ i.b ∷ []
numbers_by Multiply i = i.a ∷ i.b ∷ []
numbers_by And i = i.a ∷ i.b ∷ []
numbers_by Or i = i.a ∷ i.b ∷ []
numbers_by Xor i = i.a ∷ i.b ∷ []
numbers_by Less i = i.a ∷ i.b ∷ []
numbers_by Equal i = i.a ∷ i.b ∷ []
numbers_by Pick i = i.a ∷ i.b ∷ i.c ∷ []
numbers_by Shift i = i.literal ∷ i.a ∷ []
numbers_by Out i = i.literal ∷ i.a ∷ []

-- a record's text: its letter, then its numbers
abbrev pub record_text : Instr → List ℕ
record_text i = letter_of i.op ∷ tabbed (numbers_by i.op i)

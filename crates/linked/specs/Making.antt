-- What a record asks of the numbers that it reads.
use Rattle.std.specs.Prelude.{◌≡◌, ℕ, ◌<◌, true, ltb, Some, Option}
use Rattle.ir.specs.declared.instruction.Record.{Record}
use Rattle.ir.specs.Operations.{arity}
use Rattle.ir.specs.Instructions.{Instr}
use Rattle.linked.specs.declared.cells.Body.{Body}
use Rattle.linked.specs.declared.cells.Body.TheVariants.{Vacant, Idle, Placed}

-- its operands are numbers of the store
pub record Reads (i : Instr) (size : ℕ) : Type 0 where
  pub a : ltb 0 (arity i.op) ≡ true → i.a < size
  pub b : ltb 1 (arity i.op) ≡ true → i.b < size
  pub c : ltb 2 (arity i.op) ≡ true → i.c < size

-- the operands of an instruction, where there is one, are numbers of the store
abbrev pub Inside : ℕ → Option Instr → Type 0
Inside size c = (i : Instr) → c ≡ Some i → Reads i size

-- a body with another record
abbrev pub body_with : Body → Record → Body
body_with Vacant r = Vacant
body_with (Idle q) r = Idle r
body_with (Placed q) r = Placed r

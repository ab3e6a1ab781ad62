-- When a command is accepted, said of the program alone; and that the commands keep a program proper.
use Rattle.std.specs.Prelude.{◌≡◌, ℕ, ◌<◌, ◌≤◌, false, length, Some, None, Option, ◌≢◌}
use Rattle.ir.specs.Instructions.{Instr, Shapely}
use Rattle.program.specs.Programs.{Program, size, cell, busy, Busy, Operands, In, new_program}
use Rattle.program.specs.Uses.{Use}
use Rattle.program.specs.Faults.{make_fault, rewrite_fault, link_fault, placed_fault, unmake_fault}
use Rattle.program.specs.Commands.{after_make, after_link, after_unlink, after_unmake, after_rewrite}
use Rattle.program.specs.Proper.{Proper}

-- the number is in range and free, and the operands are other numbers that are not free
pub record CanMake (p : Program) (n : ℕ) (i : Instr) : Type 0 where
  pub inside : n < size p
  pub was_free : busy (cell p n) ≡ false
  pub apart : Operands i (λ m. Busy p m × (m ≢ n))

-- the number is not free, nor are the operands, which are other numbers
pub record CanRewrite (p : Program) (n : ℕ) (i : Instr) : Type 0 where
  pub was_busy : Busy p n
  pub apart : Operands i (λ m. Busy p m × (m ≢ n))

-- the end, or a placed number
abbrev pub Anchored : Program → Option ℕ → Type 0
Anchored p None = Unit {0}
Anchored p (Some a) = Busy p a × In a p.order

pub record CanLink (p : Program) (n : ℕ) (anchor : Option ℕ) : Type 0 where
  pub was_busy : Busy p n
  pub loose : In n p.order → ⊥
  pub anchored : Anchored p anchor

pub record CanUnlink (p : Program) (n : ℕ) : Type 0 where
  pub was_busy : Busy p n
  pub placed : In n p.order

-- the number is loose, and no operand of a loose or placed number is this one
pub record CanUnmake (p : Program) (n : ℕ) : Type 0 where
  pub was_busy : Busy p n
  pub loose : In n p.order → ⊥
  pub unread : (y : ℕ × ℕ) → Use p n y → ⊥

-- no fault, exactly if
pub record AcceptedExactly (p : Program) : Type 0 where
  pub make : (n : ℕ) (i : Instr) → (make_fault p n i ≡ None → CanMake p n i) × (CanMake p n i → make_fault p n i ≡ None)
  pub rewrite : (n : ℕ) (i : Instr) → (rewrite_fault p n i ≡ None → CanRewrite p n i) × (CanRewrite p n i → rewrite_fault p n i ≡ None)
  pub link : (n : ℕ) (a : Option ℕ) → (link_fault p n a ≡ None → CanLink p n a) × (CanLink p n a → link_fault p n a ≡ None)
  pub unlink : (n : ℕ) → (placed_fault p n ≡ None → CanUnlink p n) × (CanUnlink p n → placed_fault p n ≡ None)
  pub unmake : (n : ℕ) → (unmake_fault p n ≡ None → CanUnmake p n) × (CanUnmake p n → unmake_fault p n ≡ None)

abbrev pub CommandsAccepted : Type 0
CommandsAccepted = (p : Program) → AcceptedExactly p

-- accepted or refused, each command leaves a proper program
pub record Kept (p : Program) : Type 0 where
  pub by_make : (n : ℕ) (i : Instr) → Shapely i → Proper (after_make p n i)
  pub by_link : (n : ℕ) (anchor : Option ℕ) → Proper (after_link p n anchor)
  pub by_unlink : (n : ℕ) → Proper (after_unlink p n)
  pub by_unmake : (n : ℕ) → Proper (after_unmake p n)
  pub by_rewrite : (n : ℕ) (i : Instr) → Shapely i → Proper (after_rewrite p n i)

abbrev pub CommandsKeepProper : Type 0
CommandsKeepProper = (p : Program) → Proper p → Kept p

abbrev pub NewIsProper : Type 0
NewIsProper = (n : ℕ) → n ≤ 1024 → Proper (new_program n)

abbrev pub FewPlaced : Type 0
FewPlaced = (p : Program) → Proper p → length p.order ≤ size p

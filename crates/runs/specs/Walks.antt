-- A walk along the order, from the first number by the next one each time.
use Rattle.std.specs.Prelude.{◌≡◌, ℕ, ◌<◌, Bool, true, List, [], ◌∷◌, drop, Some, None, Option}
use Rattle.ir.specs.declared.instruction.Record.{Record}
use Rattle.ir.specs.Instructions.{plain}
use Rattle.program.specs.Programs.{Program, size, at, index_of, has, In}

-- what is left of the order from a number on; nothing where there is no number
abbrev pub from : Option ℕ → List ℕ → List ℕ
from None ns = []
from (Some n) ns = drop (index_of n ns) ns

-- the walk has ended, or is at a number of the order
abbrev pub Stands : Option ℕ → List ℕ → Type 0
Stands None ns = Unit {0}
Stands (Some n) ns = In n ns

-- the same as a test, so that a walk's type can carry it
abbrev pub stands? : Option ℕ → List ℕ → Bool
stands? None ns = true
stands? (Some n) ns = has n ns

-- one step of a walk from `was` to `is`, over n with its record
pub record Step (p : Program) (was is : Option ℕ) (n : ℕ) (what : Record) : Type 0 where
  pub left : from was p.order ≡ n ∷ from is p.order
  pub stands : Stands is p.order
  pub inside : n < size p
  pub reads : plain what ≡ at p n

-- a step, or the end of the walk
abbrev pub Moved : Program → Option ℕ → Option ℕ → Option (ℕ × Record) → Type 0
Moved p was is None = from was p.order ≡ []
Moved p was is (Some x) = Step p was is x.0 x.1

-- What the program of every store obeys.
use Rattle.std.specs.Prelude.{◌≡◌, ℕ, ◌≤◌, Bool, true, cond, not, ◌&&◌, ◌==◌, ◌≢◌}
use Rattle.ir.specs.Instructions.{Shapely}
use Rattle.program.specs.Programs.{Program, size, cell, busy, Busy, at, takes, Operands, In, Distinct}

pub record Proper (p : Program) : Type 0 where
  pub few : size p ≤ 1024
  pub distinct : Distinct p.order
  -- a placed number is not free
  pub placed : (n : ℕ) → In n p.order → Busy p n
  pub shaped : (n : ℕ) → Shapely (at p n)
  -- no operand is free or the instruction itself
  pub tied : (n : ℕ) → Operands (at p n) (λ m. Busy p m × (m ≢ n))

-- the last of these as a test, so that a store's type can carry it
abbrev pub fits? : Program → ℕ → Bool → ℕ → Bool
fits? p n present m = cond present (busy (cell p m) && not (m == n)) true

abbrev pub tied? : Program → ℕ → Bool
tied? p n =
    fits? p n (takes 0 (at p n).op) (at p n).a
    && (fits? p n (takes 1 (at p n).op) (at p n).b && fits? p n (takes 2 (at p n).op) (at p n).c)

abbrev pub Tied : Program → Type 0
Tied p = (n : ℕ) → tied? p n ≡ true

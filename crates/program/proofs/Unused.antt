-- A free number has no uses.
use Rattle.std.proofs.Common.{◌≡◌, ℕ, true, subst}
use Rattle.program.specs.Programs.{Program, at, Busy}
use Rattle.program.specs.Uses.{uses, unused}
use Rattle.program.specs.Proper.{Proper}
use Rattle.program.proofs.Operands.{operands_map}
use Rattle.program.proofs.Uses.{none_unused}
use Rattle.program.proofs.Positions.{no_use}

pub free_unused : (p : Program) → Proper p → (n : ℕ) → (Busy p n → ⊥) → unused (uses p n) ≡ true
free_unused p t n f =
    none_unused p n
    (no_use p n
    (λ k. operands_map (at p k) (λ m. Busy p m × (m ≡ k → ⊥)) (λ m. m ≡ n → ⊥) (λ m h e. f (subst (Busy p) e h.0)) (t.tied k)))

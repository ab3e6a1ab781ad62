-- What the routines leave behind.
use Rattle.std.specs.Prelude.{◌≡◌, ℕ, ◌+◌, Bool, true, length, is_ok, Ok, Err, Result}
use Rattle.edits.specs.Commands.{unlink}
use Rattle.session.specs.Copying.{Copying, edit_step, open_step, accept_step}
use Rattle.routines.specs.declared.Stopped.{Stopped}
use Rattle.routines.specs.declared.Stopped.TheVariants.{NotHeld, NotClosed}

-- whether n could be detached under a held save
abbrev pub could : ℕ → Copying → Bool
could n s = is_ok (edit_step (unlink n) (open_step true s).after).answer

-- the session is as it was, and it is told whether n could be detached; or no save could be held. A save once held could be closed
abbrev pub Back : ℕ → Copying → Copying → Result Bool Stopped → Type 0
Back n s t (Ok answer) = (t ≡ s) × (answer ≡ could n s)
Back n s t (Err (NotHeld f)) = (t ≡ s) × ((open_step true s).answer ≡ Err f)
Back n s t (Err (NotClosed f token)) = ⊥

-- the session after a hold, a detach of n and an accept of the held save
abbrev pub detached : ℕ → Copying → Copying
detached n s = (accept_step (length s.saves + 1) true (edit_step (unlink n) (open_step true s).after).after).after

-- n was detached if it could be, and it is told whether the other could be too; or no save could be held, and nothing changed
abbrev pub ForGood : ℕ → ℕ → Copying → Copying → Result Bool Stopped → Type 0
ForGood n other s t (Ok answer) = (t ≡ detached n s) × (answer ≡ could other (detached n s))
ForGood n other s t (Err (NotHeld f)) = (t ≡ s) × ((open_step true s).answer ≡ Err f)
ForGood n other s t (Err (NotClosed f token)) = ⊥

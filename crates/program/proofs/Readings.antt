-- What an answer of a reading says, accepted or refused.
use Rattle.std.proofs.Common.{◌≡◌, ℕ, ◌+◌, true, List, [], ◌∷◌, length, Some, None, Ok, Err, Option, Result, sym, refl, ap, ◌∙◌, ⊎_elim, arith}
use Rattle.std.proofs.lemmas.Option.{slice_get_past}
use Rattle.std.proofs.lemmas.Bool.{cases_lt}
use Rattle.std.specs.Result.{result_unwrap_or, result_map_both}
use Rattle.ir.specs.declared.instruction.Record.{Record}
use Rattle.ir.specs.Instructions.{plain, constant_of}
use Rattle.program.specs.declared.fault.StoreFault.{StoreFault}
use Rattle.program.specs.Programs.{Program, Cell, cell, busy, held, at, index_of}
use Rattle.program.specs.Faults.{placed_fault, busy_fault}
use Rattle.program.specs.Readings.{answered, next_of}
use Rattle.program.specs.Uses.{uses, unused}
use Rattle.program.specs.Proper.{Proper}
use Rattle.program.proofs.Unused.{free_unused}
use Rattle.program.proofs.Places.{index_in}
use Rattle.program.proofs.Accepting.{commands_accepted, busy_accepted}

-- a reading that falls back on a value which is right where it is refused
pub read_or : {A : Type 0} (f : Option StoreFault) (x d : A) (r : Result A StoreFault) → r ≡ answered f x → ((f ≡ None → ⊥) → d ≡ x) → result_unwrap_or r d ≡ x
read_or None x d r e h = ap (λ s. result_unwrap_or s d) e
read_or (Some g) x d r e h =
    ap (λ s. result_unwrap_or s d) e ∙ h (λ n. let z : ◌≡◌ {A = ℕ} 0 1 = cc in omega arith)

-- the same, of a record
pub plain_or : (r : Result Record StoreFault) (d : Record) → plain (result_unwrap_or r d) ≡ result_unwrap_or (result_map_both plain (λ f. f) r) (plain d)
plain_or (Ok x) d = refl
plain_or (Err f) d = refl

-- a number that cannot be read counts as the constant 0
pub unread_zero : (p : Program) (n : ℕ) → (busy_fault p n ≡ None → ⊥) → constant_of 0 ≡ at p n
unread_zero p n f = by_cell (cell p n) refl
  where
    by_cell : (c : Cell) → cell p n ≡ c → constant_of 0 ≡ held c
    by_cell None e = refl
    by_cell (Some i) e = absurd (f (busy_accepted p n (ap busy e)))

-- nothing stands behind a number that is not placed
pub unplaced_none : (p : Program) → Proper p → (n : ℕ) → (placed_fault p n ≡ None → ⊥) → None ≡ next_of p n
unplaced_none p t n f =
    ⊎_elim
    (λ h.
    let i = index_in n p.order h in
    absurd (f (((commands_accepted p).unlink n).1 (record { was_busy = t.placed n i; placed = i }))))
    (λ h. sym (slice_get_past p.order (index_of n p.order + 1) (omega arith)))
    (cases_lt (index_of n p.order) (length p.order))

-- nothing reads a number that is refused as free
pub unread_unused : (p : Program) → Proper p → (n : ℕ) → (busy_fault p n ≡ None → ⊥) → [] ≡ uses p n
unread_unused p t n f = by_uses (uses p n) (free_unused p t n (λ b. f (busy_accepted p n b)))
  where
    by_uses : (us : List (ℕ × ℕ)) → unused us ≡ true → [] ≡ us
    by_uses [] e = refl
    by_uses (u ∷ us) e = let z : ◌≡◌ {A = ℕ} 0 1 = cc in absurd (omega arith)

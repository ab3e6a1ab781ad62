-- The copying session: what every session means. It keeps whole copies of the program and no journal.
use Rattle.std.specs.Prelude.{ℕ, ◌+◌, ◌-◌, Bool, true, false, cond, List, [], ◌∷◌, length, Some, None, Ok, Err, Option, Result, ◌==◌, nat_lt}
use Rattle.ir.specs.declared.fault.Layer.{Layer}
use Rattle.ir.specs.declared.fault.Report.{Report}
use Rattle.program.specs.declared.fault.StoreFault.{StoreFault}
use Rattle.program.specs.Programs.{Program}
use Rattle.program.specs.Uses.{uses}
use Rattle.program.specs.Faults.{store_report}
use Rattle.edits.specs.Commands.{Edit, fault_of, after}
use Rattle.edits.specs.Replace.{replace, replace_fault}
use Rattle.session.specs.declared.fault.SessionFault.{SessionFault}
use Rattle.session.specs.declared.fault.SessionFault.TheVariants.{Store, TooDeep, NotNewest, WrongKind, TooFewRecords}

-- a store's fault passes through whole; the others have layer T
abbrev pub session_report : SessionFault → Report
session_report (Store f) = store_report f
session_report (TooDeep depth) = record { number = 10; layer = Layer.Saves; place = depth }
session_report (NotNewest depth) = record { number = 11; layer = Layer.Saves; place = depth }
session_report (WrongKind depth) = record { number = 12; layer = Layer.Saves; place = depth }
session_report (TooFewRecords need) = record { number = 13; layer = Layer.Saves; place = need }

-- a save keeps a copy of the program and of the records left, and whether it is held
pub record Save : Type 0 where
  pub program : Program
  pub left : ℕ
  pub held : Bool

-- the saves come newest first
pub record Copying : Type 0 where
  pub program : Program
  pub saves : List Save
  pub left : ℕ

-- a new session has no save and 512 records left
abbrev pub fresh : Program → Copying
fresh p = record { program = p; saves = []; left = 512 }

-- what a call answers, and the session after it
pub record Step (A : Type 0) : Type 0 where
  pub after : Copying
  pub answer : A

-- the step that leads to a session and answers so
abbrev pub to : {A : Type 0} → Copying → A → Step A
to s a = record { after = s; answer = a }

-- ---- edits

-- an accepted edit costs records while a save is present; without one it costs nothing
abbrev pub charged : Copying → Program → ℕ → List Save → Step (Result (Unit {0}) SessionFault)
charged s q need [] = to (record { program = q; saves = s.saves; left = s.left }) (Ok tt)
charged s q need (v ∷ vs) =
    cond (nat_lt s.left need) (to s (Err (TooFewRecords need)))
    (to (record { program = q; saves = s.saves; left = s.left - need }) (Ok tt))

-- the store's fault comes before the want of records
abbrev pub edited : Copying → Option StoreFault → Program → ℕ → Step (Result (Unit {0}) SessionFault)
edited s None q need = charged s q need s.saves
edited s (Some f) q need = to s (Err (Store f))

-- make, link, unlink, unmake, rewrite: one record
abbrev pub edit_step : Edit → Copying → Step (Result (Unit {0}) SessionFault)
edit_step e s = edited s (fault_of s.program e) (after s.program e) 1

-- replace: one record for each use
abbrev pub replace_step : ℕ → ℕ → Copying → Step (Result (Unit {0}) SessionFault)
replace_step n m s = edited s (replace_fault s.program n m) (replace n m s.program) (length (uses s.program n))

-- ---- saves

-- a save more, open or held, if there are fewer than eight; the answer is the new depth
abbrev pub open_step : Bool → Copying → Step (Result ℕ SessionFault)
open_step held s =
    cond (nat_lt (length s.saves) 8)
    (to (record { program = s.program; saves = record { program = s.program; left = s.left; held = held } ∷ s.saves; left = s.left }) (Ok (length s.saves + 1)))
    (to s (Err (TooDeep (length s.saves))))

-- whether two kinds of save are one
abbrev pub same : Bool → Bool → Bool
same true true = true
same true false = false
same false true = false
same false false = true

-- why the newest save cannot be closed: 11 if the depth is not its own, then 12 if it is held and met by depth, or open and met by token
abbrev pub close_fault : List Save → ℕ → Bool → Option SessionFault
close_fault [] depth held = Some (NotNewest depth)
close_fault (v ∷ vs) depth held =
    cond (depth == length (v ∷ vs)) (cond (same v.held held) None (Some (WrongKind depth))) (Some (NotNewest depth))

-- all records are left again once no save is
abbrev pub left_after : List Save → ℕ → ℕ
left_after [] left = 512
left_after (v ∷ vs) left = left

-- the newest save is removed, and nothing else changes
abbrev pub accepted : Copying → List Save → Copying
accepted s [] = s
accepted s (v ∷ vs) = record { program = s.program; saves = vs; left = left_after vs s.left }

-- the newest save is removed, and brings back its program and its records left
abbrev pub reverted : Copying → List Save → Copying
reverted s [] = s
reverted s (v ∷ vs) = record { program = v.program; saves = vs; left = v.left }

-- a refused close leaves one session as it is, an accepted one leads to the other
abbrev pub closed : Option SessionFault → Copying → Copying → Step (Result (Unit {0}) SessionFault)
closed None s t = to t (Ok tt)
closed (Some f) s t = to s (Err f)

-- an accept, by the depth and the kind of the newest save
abbrev pub accept_step : ℕ → Bool → Copying → Step (Result (Unit {0}) SessionFault)
accept_step depth held s = closed (close_fault s.saves depth held) s (accepted s s.saves)

-- a revert, by the depth and the kind of the newest save
abbrev pub revert_step : ℕ → Bool → Copying → Step (Result (Unit {0}) SessionFault)
revert_step depth held s = closed (close_fault s.saves depth held) s (reverted s s.saves)

-- the same step, its answer put another way
abbrev pub answering : {A B : Type 0} → (A → B) → (Copying → Step A) → Copying → Step B
answering f step s = to (step s).after (f (step s).answer)

-- a reading changes nothing
abbrev pub reading : {A : Type 0} → (Program → A) → Copying → Step A
reading f s = to s (f s.program)

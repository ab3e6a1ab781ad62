-- Work that is accepted under saves is accepted without them too, with the same answer and the same program.
use Rattle.std.proofs.Common.{◌≡◌, ℕ, ◌-◌, ◌≤◌, Bool, true, false, cond, ltb, ◌⊎◌, List, [], ◌∷◌, length, Some, None, Ok, Err, Option, Result, refl, inl, inr, arith}
use Rattle.program.specs.declared.fault.StoreFault.{StoreFault}
use Rattle.program.specs.Programs.{Program}
use Rattle.program.specs.Uses.{uses}
use Rattle.edits.specs.Commands.{fault_of, after}
use Rattle.edits.specs.Replace.{replace_fault, replace as replaced}
use Rattle.session.specs.declared.fault.SessionFault.{SessionFault}
use Rattle.session.specs.declared.fault.SessionFault.TheVariants.{Store, TooFewRecords}
use Rattle.session.specs.Copying.{Save, Copying, fresh, Step, to, charged, edited}
use Rattle.session.specs.Calls.{Work, edit, replace, Answer, zeroed, work_step}

pub record Refusal (s : Copying) (t : Step Answer) : Type 0 where
  pub fault : SessionFault
  pub is : t ≡ to s (Err fault)

-- accepted, and so it would be in a new session over the same program
pub record Success (s : Copying) (t : Step Answer) (anew : Step Answer) : Type 0 where
  pub value : ℕ
  pub program : Program
  pub left : ℕ
  pub is : t ≡ to (record { program = program; saves = s.saves; left = left }) (Ok value)
  pub few : left ≤ 512
  pub again : anew ≡ to (fresh program) (Ok value)

module _ (s : Copying) (h : s.left ≤ 512) (q : Program) (need : ℕ) where
  abbrev zero : Step (Result (Unit {0}) SessionFault) → Step Answer
  zero x = to x.after (zeroed x.answer)

  abbrev short : Step (Result (Unit {0}) SessionFault)
  short = to s (Err (TooFewRecords need))

  abbrev paid : Step (Result (Unit {0}) SessionFault)
  paid = to (record { program = q; saves = s.saves; left = s.left - need }) (Ok tt)

  abbrev anew : Step Answer
  anew = zero (charged (fresh s.program) q need [])

  by_test : (b : Bool) → Refusal s (zero (cond b short paid)) ⊎ Success s (zero (cond b short paid)) anew
  by_test true = inl (record { fault = TooFewRecords need; is = refl })
  by_test false = inr (record { value = 0; program = q; left = s.left - need; is = refl; few = omega arith; again = refl })

  by_saves : (vs : List Save) → Refusal s (zero (charged s q need vs)) ⊎ Success s (zero (charged s q need vs)) anew
  by_saves [] = inr (record { value = 0; program = q; left = s.left; is = refl; few = h; again = refl })
  by_saves (v ∷ vs) = by_test (ltb s.left need)

  pub by_fault : (f : Option StoreFault) → Refusal s (zero (edited s f q need)) ⊎ Success s (zero (edited s f q need)) (zero (edited (fresh s.program) f q need))
  by_fault None = by_saves s.saves
  by_fault (Some f) = inl (record { fault = Store f; is = refl })

-- every kind of work
pub steady : (w : Work) (s : Copying) → s.left ≤ 512 → Refusal s (work_step w s) ⊎ Success s (work_step w s) (work_step w (fresh s.program))
steady (edit e) s h = by_fault s h (after s.program e) 1 (fault_of s.program e)
steady (replace n m) s h = by_fault s h (replaced n m s.program) (length (uses s.program n)) (replace_fault s.program n m)

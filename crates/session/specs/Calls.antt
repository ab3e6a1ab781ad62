-- The calls of a session as values, and whole lists of them.
use Rattle.std.specs.Prelude.{ℕ, Bool, true, false, List, [], ◌∷◌, Ok, Err, Result}
use Rattle.ir.specs.Instructions.{plain}
use Rattle.edits.specs.Commands.{Edit, make, link, unlink, unmake, rewrite}
use Rattle.session.specs.declared.fault.SessionFault.{SessionFault}
use Rattle.session.specs.declared.call.Call.{Call}
use Rattle.session.specs.declared.call.Call.TheVariants.{Make, Place, Detach, Erase, Rewrite, Replace, Save, Hold, Accept, Revert, AcceptHeld, RevertHeld}
use Rattle.session.specs.Copying.{Copying, Step, edit_step, replace_step, open_step, accept_step, revert_step, answering}

-- what changes the program directly
pub data Work : Type 0 where
  edit : Edit → Work
  replace : ℕ → ℕ → Work

-- a save is closed by accepting or by reverting
pub data Ending : Type 0 where
  accepting : Ending
  reverting : Ending

-- work; a save or a hold; an accept or a revert, by a depth or by a token that bears it
pub data Act : Type 0 where
  work : Work → Act
  begin : (held : Bool) → Act
  end : Ending → (held : Bool) → ℕ → Act

-- what a call of the code says
abbrev pub act_of : Call → Act
act_of (Make n what) = work (edit (make n (plain what)))
act_of (Place n anchor) = work (edit (link n anchor))
act_of (Detach n) = work (edit (unlink n))
act_of (Erase n) = work (edit (unmake n))
act_of (Rewrite n what) = work (edit (rewrite n (plain what)))
act_of (Replace n m) = work (replace n m)
act_of Save = begin false
act_of Hold = begin true
act_of (Accept depth) = end accepting false depth
act_of (Revert depth) = end reverting false depth
act_of (AcceptHeld depth) = end accepting true depth
act_of (RevertHeld depth) = end reverting true depth

-- a number, or why the call was refused
abbrev pub Answer : Type 0
Answer = Result ℕ SessionFault

-- what answers nothing answers 0
abbrev pub zeroed : Result (Unit {0}) SessionFault → Answer
zeroed (Ok u) = Ok 0
zeroed (Err f) = Err f

-- an edit or a replace answers 0 or why it was refused
abbrev pub work_step : Work → Copying → Step Answer
work_step (edit e) = answering zeroed (edit_step e)
work_step (replace n m) = answering zeroed (replace_step n m)

-- so does an accept or a revert, by a depth or by a token
abbrev pub close_step : Ending → Bool → ℕ → Copying → Step Answer
close_step accepting held depth = answering zeroed (accept_step depth held)
close_step reverting held depth = answering zeroed (revert_step depth held)

-- the step of any call
abbrev pub act_step : Act → Copying → Step Answer
act_step (work w) = work_step w
act_step (begin held) = open_step held
act_step (end e held depth) = close_step e held depth

-- the answers to a list of calls
abbrev pub answers : List Act → Copying → List Answer
answers [] s = []
answers (a ∷ rest) s = (act_step a s).answer ∷ answers rest (act_step a s).after

-- the session after a list of calls
abbrev pub final : List Act → Copying → Copying
final [] s = s
final (a ∷ rest) s = final rest (act_step a s).after

-- What holds after any list of calls.
use Rattle.std.specs.Prelude.{◌≡◌, ℕ, List, [], ◌∷◌, length, Some, None, Ok, Err, Option}
use Rattle.ir.specs.Instructions.{Instr}
use Rattle.program.specs.Programs.{Program, Busy, cell}
use Rattle.program.specs.Uses.{Ascending, Among, Use, position}
use Rattle.program.specs.Readings.{count_answer, use_answer}
use Rattle.session.specs.Copying.{fresh}
use Rattle.session.specs.Calls.{Act, Answer, answers, final}
use Rattle.history.specs.Striking.{history, acts_of, answers_of}

-- the call was accepted
abbrev pub Accepted : Answer → Type 0
Accepted (Ok x) = Unit {0}
Accepted (Err f) = ⊥

-- each of the calls was accepted
abbrev pub AllAccepted : List Answer → Type 0
AllAccepted [] = Unit {0}
AllAccepted (r ∷ rs) = Accepted r × AllAccepted rs

-- the surviving history of the calls, entered in a new session over the program p, is accepted throughout, gets the answers that it got, and builds the program q
pub record Repeats (p : Program) (acts : List Act) (rs : List Answer) (q : Program) : Type 0 where
  pub accepted : AllAccepted (answers_of (history acts rs))
  pub same_answers : answers (acts_of (history acts rs)) (fresh p) ≡ answers_of (history acts rs)
  pub same_program : (final (acts_of (history acts rs)) (fresh p)).program ≡ q

-- a second list, if it is the surviving history of the calls and began at the same program, got the answers that it got before, all of them accepted, and ended at the same program
abbrev pub Again : Program → List Act → List Answer → Program → Program → List Act → List Answer → Program → Type 0
Again p acts rs q p₂ more got q₂ =
    p₂ ≡ p → more ≡ acts_of (history acts rs) → (got ≡ answers_of (history acts rs)) × AllAccepted got × (q₂ ≡ q)

-- what one reads who asks for the least use of v, then for the least beyond the last one, until there is none
abbrev pub ReadOut : Program → ℕ → Option (ℕ × ℕ) → List (ℕ × ℕ) → Type 0
ReadOut p v after [] = use_answer p v after ≡ Ok None
ReadOut p v after (y ∷ ys) = (use_answer p v after ≡ Ok (Some y)) × ReadOut p v (Some y) ys

-- the use list of v as the readings give it: it ascends strictly, so names nothing twice; it names just the operand positions at which v is read; and the count is its length
pub record UseList (p : Program) (v : ℕ) (ys : List (ℕ × ℕ)) : Type 0 where
  pub read : ReadOut p v None ys
  pub ascends : Ascending ys
  pub exactly : (y : ℕ × ℕ) → (Among y ys → Use p v y) × (Use p v y → Among y ys)
  pub counted : count_answer p v ≡ Ok (length ys)

-- each number that is not free has its use list; and what a loose or placed instruction reads at a position is such a number
pub record UsesRead (p : Program) : Type 0 where
  pub lists : (v : ℕ) → Busy p v → (ys : List (ℕ × ℕ)) × UseList p v ys
  pub all_named : (u k v : ℕ) (i : Instr) → cell p u ≡ Some i → position i k ≡ Some v → Busy p v

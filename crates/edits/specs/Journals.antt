-- Lists of edits, and the journal of what takes them back.
use Rattle.std.specs.Prelude.{◌≡◌, List, [], ◌∷◌, ◌++◌, None}
use Rattle.std.specs.List.{AllByRecursion}
use Rattle.program.specs.Programs.{Program}
use Rattle.program.specs.Proper.{Proper}
use Rattle.edits.specs.Commands.{Edit, fault_of, after, opposite, Fair}

-- the program after a list of edits
abbrev pub play : Program → List Edit → Program
play p [] = p
play p (e ∷ es) = play (after p e) es

-- each edit is accepted in its turn
abbrev pub Runs : Program → List Edit → Type 0
Runs p [] = Unit {0}
Runs p (e ∷ es) = (fault_of p e ≡ None) × Runs (after p e) es

-- the opposites of the edits, the newest first
abbrev pub journal : Program → List Edit → List Edit
journal p [] = []
journal p (e ∷ es) = journal (after p e) es ++ (opposite p e ∷ [])

-- accepted edits leave a proper program, and their journal, newest first, is accepted record for record and brings the program back
pub record Journaled (p : Program) (es : List Edit) : Type 0 where
  pub proper : Proper (play p es)
  pub fair : AllByRecursion Fair (journal p es)
  pub undoes : Runs (play p es) (journal p es)
  pub back : play (play p es) (journal p es) ≡ p

abbrev pub JournalLaw : Type 0
JournalLaw = (p : Program) (es : List Edit) → Proper p → AllByRecursion Fair es → Runs p es → Journaled p es

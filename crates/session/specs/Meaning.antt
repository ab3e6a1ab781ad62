-- What a session of the code means, and what a call promises of it.
use Rattle.std.specs.Prelude.{◌≡◌, false, List, map, is_ok, Result}
use Rattle.program.specs.Programs.{Program}
use Rattle.edits.specs.Commands.{Edit, edit_of}
use Rattle.session.specs.declared.mark.Mark.{Mark}
use Rattle.session.specs.declared.journal.Journal.{Journal}
use Rattle.session.specs.declared.session.Session.{Session}
use Rattle.session.specs.Copying.{Copying, Step}
use Rattle.session.specs.Stack.{stack}
use Rattle.session.specs.Trail.{copying, undone, lowered}

-- the journal's records in use, newest first
abbrev pub trail : Journal → List Edit
trail j = map edit_of (stack j.entries j.len)

-- the marks of the saves, newest first
abbrev pub marks : Journal → List Mark
marks j = stack j.marks j.depth

module _ {S M : Type 0} (program : S → Program) where
  -- the copying session that a session means
  abbrev pub meaning : Session S M → Copying
  meaning s = copying (program s.store) (trail s.journal) (marks s.journal)

  -- the call answered, and left the session, as the copying session's step does; if it was refused, the journal's records in use and its marks are as they were
  pub record Stepped {A E : Type 0} (step : Copying → Step (Result A E)) (a b : Session S M) (r : Result A E) : Type 0 where
    pub after : meaning b ≡ (step (meaning a)).after
    pub answer : r ≡ (step (meaning a)).answer
    pub unmoved : is_ok r ≡ false → (trail b.journal ≡ trail a.journal) × (marks b.journal ≡ marks a.journal)

  -- the reading answered by the program, and nothing changed
  pub record Read {A : Type 0} (read : Program → A) (a b : Session S M) (r : A) : Type 0 where
    pub answer : r ≡ read (program a.store)
    pub same : program b.store ≡ program a.store
    pub journal : b.journal ≡ a.journal

  -- every edit since the newest save was taken back, the newest first
  pub record Rewound (a b : Session S M) : Type 0 where
    pub program_is : program b.store ≡ undone (marks a.journal) (trail a.journal) (program a.store)
    pub trail_is : trail b.journal ≡ lowered (marks a.journal) (trail a.journal)
    pub marks_are : marks b.journal ≡ marks a.journal

  -- what a list of calls needs of one: answer and session are the step's
  pub record Called {A : Type 0} (step : Copying → Step A) (a b : Session S M) (r : A) : Type 0 where
    pub after : meaning b ≡ (step (meaning a)).after
    pub answer : r ≡ (step (meaning a)).answer

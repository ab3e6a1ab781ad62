-- A journal in place of copies: what takes back each edit, newest first, and for each save how many there were then.
use Rattle.std.specs.Prelude.{◌≡◌, ℕ, ◌+◌, ◌-◌, ◌≤◌, Bool, cond, ◌&&◌, List, [], ◌∷◌, length, take, drop, Some, None, Ok, Err, Option, Result, ◌==◌, nat_le, nat_lt}
use Rattle.program.specs.Programs.{Program}
use Rattle.edits.specs.declared.command.Command.{Command}
use Rattle.edits.specs.Commands.{Edit, edit_of}
use Rattle.edits.specs.Journals.{play}
use Rattle.session.specs.declared.mark.Mark.{Mark}
use Rattle.session.specs.declared.fault.SessionFault.{SessionFault}
use Rattle.session.specs.declared.fault.SessionFault.TheVariants.{TooDeep, NotNewest, WrongKind, TooFewRecords}
use Rattle.session.specs.Copying.{Save, Copying, same}

-- the records above a mark
abbrev pub above : List Edit → ℕ → List Edit
above trail at = take (length trail - at) trail

-- the records below a mark
abbrev pub below : List Edit → ℕ → List Edit
below trail at = drop (length trail - at) trail

-- the saves that the marks stand for: each has the program that undoing down to its mark brings back
abbrev pub copies : Program → List Edit → List Mark → List Save
copies p trail [] = []
copies p trail (m ∷ ms) =
    record { program = play p (above trail m.at); left = 512 - m.at; held = m.held }
    ∷ copies (play p (above trail m.at)) (below trail m.at) ms

-- the copying session that a program, a journal and marks stand for
abbrev pub copying : Program → List Edit → List Mark → Copying
copying p trail ms = record { program = p; saves = copies p trail ms; left = 512 - length trail }

-- the marks lie within so many records, the newer above the older, and no record lies below the oldest
abbrev pub marked? : ℕ → List Mark → Bool
marked? n [] = n == 0
marked? n (m ∷ ms) = nat_le m.at n && marked? m.at ms

-- records for so many edits, or the want of them; without a save none are needed
abbrev pub granted : List Mark → List Edit → ℕ → Result (Unit {0}) SessionFault
granted [] trail need = Ok tt
granted (m ∷ ms) trail need = cond (nat_lt (512 - length trail) need) (Err (TooFewRecords need)) (Ok tt)

-- the depth once a save more is opened; or there are eight
abbrev pub deepened : List Mark → Result ℕ SessionFault
deepened ms = cond (nat_lt (length ms) 8) (Ok (length ms + 1)) (Err (TooDeep (length ms)))

-- the records once an edit is noted
abbrev pub noted : List Mark → Edit → List Edit → List Edit
noted [] e trail = trail
noted (m ∷ ms) e trail = cond (nat_lt (length trail) 512) (e ∷ trail) trail

-- the records kept when a save is gone: none once no save is left
abbrev pub kept : List Mark → List Edit → List Edit
kept [] trail = []
kept (m ∷ ms) trail = trail

-- no record lies above the newest mark
abbrev pub Low : List Mark → List Edit → Type 0
Low [] trail = Unit {0}
Low (m ∷ ms) trail = length trail ≤ m.at

-- so many records lie below the newest mark
abbrev pub High : List Mark → List Edit → Type 0
High [] trail = ⊥
High (m ∷ ms) trail = m.at ≤ length trail

-- the newest record was taken off, or none lies above the newest mark
abbrev pub Popped : List Mark → List Edit → List Edit → Option Command → Type 0
Popped ms before later None = (later ≡ before) × Low ms before
Popped ms before later (Some c) = (before ≡ edit_of c ∷ later) × High ms later

-- the program once the records above the newest mark are taken back
abbrev pub undone : List Mark → List Edit → Program → Program
undone [] trail p = p
undone (m ∷ ms) trail p = play p (above trail m.at)

-- the records that are left then
abbrev pub lowered : List Mark → List Edit → List Edit
lowered [] trail = trail
lowered (m ∷ ms) trail = below trail m.at

-- whether the newest mark is at the depth and of the kind
abbrev pub closable : List Mark → ℕ → Bool → Result (Unit {0}) SessionFault
closable [] depth held = Err (NotNewest depth)
closable (m ∷ ms) depth held =
    cond (depth == length (m ∷ ms)) (cond (same m.held held) (Ok tt) (Err (WrongKind depth))) (Err (NotNewest depth))

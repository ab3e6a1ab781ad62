-- The steps of the copying session, at a session that a journal stands for.
use Rattle.std.proofs.Common.{◌≡◌, ℕ, ◌+◌, ◌-◌, Bool, true, false, cond, eqb, ltb, List, [], ◌∷◌, length, is_ok, Some, None, Ok, Err, Option, Result, sym, refl, ap, ◌∙◌, arith}
use mathlib.Core.Bool.{false≢true}
use Rattle.std.proofs.lemmas.Bool.{eqb-true}
use Rattle.std.proofs.lemmas.Bool.Decides.{nat_tests}
use Rattle.program.specs.Programs.{Program}
use Rattle.program.specs.declared.fault.StoreFault.{StoreFault}
use Rattle.program.specs.Commands.{verdict}
use Rattle.edits.specs.declared.command.Command.{Command}
use Rattle.edits.specs.declared.command.Command.TheVariants.{Make, Link, Unlink, Unmake, Rewrite}
use Rattle.edits.specs.Commands.{Edit, edit_of, fault_of, after, opposite, Fair}
use Rattle.program.specs.Proper.{Proper}
use Rattle.edits.proofs.Undoing.{edits_undone}
use Rattle.edits.specs.Journals.{play}
use Rattle.session.specs.declared.fault.SessionFault.{SessionFault}
use Rattle.session.specs.declared.fault.SessionFault.TheVariants.{TooDeep, NotNewest, WrongKind}
use Rattle.session.specs.declared.mark.Mark.{Mark}
use Rattle.session.specs.declared.session.Session.{Session}
use Rattle.session.specs.Copying.{Save, Copying, Step, to, charged, edited, edit_step, open_step, same, close_fault, accepted, reverted, closed}
use Rattle.session.specs.Stack.{rest}
use Rattle.session.specs.Trail.{above, below, copies, copying, granted, deepened, noted, kept, marked?, undone, lowered, closable}
use Rattle.session.specs.Meaning.{trail, marks, meaning, Stepped}
use Rattle.session.proofs.Stacks.{marked_head, marked_oldest}
use Rattle.session.specs.Sweeping.{Enough}
use Rattle.session.proofs.Grants.{granted_left, noted_some}
use Rattle.session.proofs.Trails.{copies_push, length_copies, copies_open, copies_kept, length_below}

module _ {S M : Type 0} (program : S → Program) where
  -- a call whose step is known
  pub stepped :
      {A E : Type 0} (step : Copying → Step (Result A E)) (a b : Session S M) (r : Result A E) (q : Program) (t : List Edit) (ms : List Mark)
      → program b.store ≡ q → trail b.journal ≡ t → marks b.journal ≡ ms → step (meaning program a) ≡ to (copying q t ms) r
      → (is_ok r ≡ false → (t ≡ trail a.journal) × (ms ≡ marks a.journal)) → Stepped program step a b r
  stepped step a b r q t ms e f g is un = record {
    after =
        ap (λ x. copying x (trail b.journal) (marks b.journal)) e ∙ ap (λ x. copying q x (marks b.journal)) f ∙ ap (copying q t) g
        ∙ sym (ap (λ x. x.after) is);
    answer = sym (ap (λ x. x.answer) is);
    unmoved = λ o. (f ∙ (un o).0, g ∙ (un o).1);
  }

-- ---- what edits cost

-- an edit that is paid for
abbrev pub paid : Copying → Program → ℕ → List Save → Copying
paid s q need [] = record { program = q; saves = s.saves; left = s.left }
paid s q need (v ∷ vs) = record { program = q; saves = s.saves; left = s.left - need }

-- with records for it
pub charged_enough : (s : Copying) (q : Program) (need : ℕ) (vs : List Save) → Enough vs s.left need → charged s q need vs ≡ to (paid s q need vs) (Ok tt)
charged_enough s q need [] h = refl
charged_enough s q need (v ∷ vs) h = grind (arith, nat_tests)

module _ (p : Program) (t : List Edit) (need : ℕ) where
  pub enough : (ms : List Mark) (u : Unit {0}) → Ok u ≡ granted ms t need → Enough (copies p t ms) (512 - length t) need
  enough [] u e = tt
  enough (m ∷ ms) u e = granted_left t need m ms u e

  -- too few records
  pub charged_short : (q : Program) (ms : List Mark) (f : SessionFault) → Err f ≡ granted ms t need → charged (copying p t ms) q need (copies p t ms) ≡ to (copying p t ms) (Err f)
  charged_short q [] f e = cc
  charged_short q (m ∷ ms) f e = grind (arith, nat_tests)

-- ---- edits as the code makes them

pub fair_command : (c : Command) → Fair (edit_of c)
fair_command (Make n what) = what.shaped
fair_command (Link n anchor) = tt
fair_command (Unlink n) = tt
fair_command (Unmake n) = tt
fair_command (Rewrite n what) = what.shaped

pub fine_from_ok : (o : Option StoreFault) (u : Unit {0}) → Ok u ≡ verdict o → o ≡ None
fine_from_ok None u e = refl
fine_from_ok (Some f) u e = cc

-- an edit that the store accepts is taken back by its opposite
pub accepted_edit : (p : Program) (e : Edit) (u : Unit {0}) → Proper p → Fair e → Ok u ≡ verdict (fault_of p e) → (fault_of p e ≡ None) × (after (after p e) (opposite p e) ≡ p)
accepted_edit p e u t f is = let fine = fine_from_ok (fault_of p e) u is in (fine, (edits_undone p e t f fine).back)

module _ (p : Program) (t : List Edit) (ms : List Mark) (e : Edit) (fine : fault_of p e ≡ None) where
  by_fault : edit_step e (copying p t ms) ≡ charged (copying p t ms) (after p e) 1 (copies p t ms)
  by_fault = ap (λ f. edited (copying p t ms) f (after p e) 1) fine

  -- noted, or with nothing to note
  pub step_noted :
      (back : Edit) → after (after p e) back ≡ p → marked? (length t) ms ≡ true → (u : Unit {0}) → Ok u ≡ granted ms t 1
      → edit_step e (copying p t ms) ≡ to (copying (after p e) (noted ms back t) ms) (Ok tt)
  step_noted back undo fit u r =
      by_fault ∙ charged_enough (copying p t ms) (after p e) 1 (copies p t ms) (enough p t 1 ms u r) ∙ ap (λ s. to s (Ok tt)) (by_marks ms fit r)
    where
      by_marks : (l : List Mark) → marked? (length t) l ≡ true → Ok u ≡ granted l t 1 → paid (copying p t l) (after p e) 1 (copies p t l) ≡ copying (after p e) (noted l back t) l
      by_marks [] f r = refl
      by_marks (m ∷ l) f r =
          let h = granted_left t 1 m l u r in
          let n : 512 - length t - 1 ≡ 512 - length (back ∷ t) = omega arith in
          let pushed = copies_push p (after p e) back t m l undo (marked_head (length t) m l f) in
          rw (← noted_some back t (m ∷ l) (λ z. omega arith) (omega arith)) (cc)

  -- no room for the note
  pub step_unnoted : (f : SessionFault) → Err f ≡ granted ms t 1 → edit_step e (copying p t ms) ≡ to (copying p t ms) (Err f)
  step_unnoted f r = by_fault ∙ charged_short p t 1 (after p e) ms f r

-- ---- saves

-- a save more, or as many as there may be
pub step_opened :
    (p : Program) (t : List Edit) (ms next : List Mark) (held : Bool) (r : Result ℕ SessionFault) → r ≡ deepened ms
    → next ≡ cond (is_ok r) (record { at = length t; held = held } ∷ ms) ms → open_step held (copying p t ms) ≡ to (copying p t next) r
step_opened p t ms next held r e is = rw (is, e, length_copies p t ms) (by_test (ltb (length ms) 8))
  where
    by_test :
        (b : Bool) → cond b (to (record { program = p; saves = record { program = p; left = 512 - length t; held = held } ∷ copies p t ms; left = 512 - length t }) (Ok (length ms + 1))) (to (copying p t ms) (Err (TooDeep (length ms))))
        ≡ to (copying p t (cond (is_ok (cond b (Ok (length ms + 1)) (Err (TooDeep (length ms))))) (record { at = length t; held = held } ∷ ms) ms)) (cond b (Ok (length ms + 1)) (Err (TooDeep (length ms))))
    by_test true = ap (λ vs. to (record { program = p; saves = vs; left = 512 - length t }) (Ok (length ms + 1))) (sym (copies_open p t ms held))
    by_test false = refl

-- what the answer of a check says
abbrev refusal : Result (Unit {0}) SessionFault → Option SessionFault
refusal (Ok u) = None
refusal (Err f) = Some f

why : (p : Program) (t : List Edit) (ms : List Mark) (d : ℕ) (held : Bool) → close_fault (copies p t ms) d held ≡ refusal (closable ms d held)
why p t [] d held = refl
why p t (m ∷ ms) d held =
    rw (length_copies (play p (above t m.at)) (below t m.at) ms) (by_tests (eqb d (length (m ∷ ms))) (same m.held held))
  where
    by_tests : (b c : Bool) → cond b (cond c None (Some (WrongKind d))) (Some (NotNewest d)) ≡ refusal (cond b (cond c (Ok tt) (Err (WrongKind d))) (Err (NotNewest d)))
    by_tests true true = refl
    by_tests true false = refl
    by_tests false c = refl

module _ {S M : Type 0} (program : S → Program) (a : Session S M) (d : ℕ) (held : Bool) (u : Copying → Copying) where
  abbrev closing : Copying → Step (Result (Unit {0}) SessionFault)
  closing s = closed (close_fault s.saves d held) s (u s)

  verdict_is : (r : Result (Unit {0}) SessionFault) → r ≡ closable (marks a.journal) d held → closing (meaning program a) ≡ closed (refusal r) (meaning program a) (u (meaning program a))
  verdict_is r e =
      ap (λ o. closed o (meaning program a) (u (meaning program a))) (why (program a.store) (trail a.journal) (marks a.journal) d held ∙ ap refusal (sym e))

  -- a close that is refused, whatever it would do
  pub unclosed : (r : Result (Unit {0}) SessionFault) (f : SessionFault) → r ≡ Err f → Err f ≡ closable (marks a.journal) d held → Stepped program closing a a r
  unclosed r f is e = rw is (stepped program closing a a (Err f) (program a.store) (trail a.journal) (marks a.journal) refl refl refl (verdict_is (Err f) e) (λ o. (refl, refl)))

  -- a close that is accepted leads to what the step does
  pub closed_to :
      (b : Session S M) (v : Unit {0}) (q : Program) (t : List Edit) (ms : List Mark)
      → program b.store ≡ q → trail b.journal ≡ t → marks b.journal ≡ ms → Ok v ≡ closable (marks a.journal) d held
      → copying q t ms ≡ u (meaning program a) → Stepped program closing a b (Ok v)
  closed_to b v q t ms f g h e is =
      stepped program closing a b (Ok v) q t ms f g h (verdict_is (Ok v) e ∙ ap (λ s. to s (Ok v)) (sym is)) (λ o. absurd (false≢true (sym o)))

-- the newest save gone
module _ (p : Program) (t : List Edit) where
  pub after_accept : (ms : List Mark) → marked? (length t) ms ≡ true → copying p (kept (rest ms) t) (rest ms) ≡ accepted (copying p t ms) (copies p t ms)
  after_accept [] f = ap (λ n. record { program = p; saves = []; left = 512 - n }) (sym (eqb-true (length t) 0 f))
  after_accept (m ∷ []) f = refl
  after_accept (m ∷ (k ∷ l)) f = ap (λ vs. record { program = p; saves = vs; left = 512 - length t }) (copies_kept p t m (k ∷ l) f)

  pub after_revert :
      (ms : List Mark) → marked? (length t) ms ≡ true
      → copying (undone ms t p) (kept (rest ms) (lowered ms t)) (rest ms) ≡ reverted (copying p t ms) (copies p t ms)
  after_revert [] f = ap (λ n. record { program = p; saves = []; left = 512 - n }) (sym (eqb-true (length t) 0 f))
  after_revert (m ∷ []) f = ap (λ n. record { program = play p (above t m.at); saves = []; left = 512 - n }) (sym (marked_oldest (length t) m f))
  after_revert (m ∷ (k ∷ l)) f =
      ap (λ n. record { program = play p (above t m.at); saves = copies (play p (above t m.at)) (below t m.at) (k ∷ l); left = 512 - n })
      (length_below t m.at (marked_head (length t) m (k ∷ l) f))

-- What the journal's type says of its rows, and what its ghost fields ask of the rows written.
use Rattle.std.proofs.Common.{◌≡◌, ℕ, ◌+◌, ◌-◌, ◌<◌, ◌≤◌, true, List, [], ◌∷◌, map, length, get_or, set, Ok, sym, refl, ap, ◌∙◌, subst, ⊎_elim, arith}
use Rattle.std.proofs.lemmas.Bool.{cases_lt}
use Rattle.std.proofs.lemmas.List.{length-map, length-set}
use Rattle.edits.specs.declared.command.Command.{Command}
use Rattle.edits.specs.Commands.{Edit, edit_of}
use Rattle.session.specs.declared.mark.Mark.{Mark}
use Rattle.session.specs.declared.journal.Journal.{Journal}
use Rattle.session.specs.Stack.{stack, rest}
use Rattle.session.specs.Trail.{marked?, granted, kept, Low, High}
use Rattle.session.specs.Meaning.{trail, marks}
use Rattle.session.proofs.Stacks.{stack_none, stack_push, stack_pop, length_stack, stack_rest, rest_none, marked_on, marked_more, marked_rest}
use Rattle.session.proofs.Grants.{room_some}

pub trail_length : (j : Journal) → length (trail j) ≡ j.len
trail_length j =
    let f = j.few in
    let s = j.sized in
    length-map (stack j.entries j.len) edit_of ∙ length_stack j.entries j.len (omega arith)

pub marks_length : (j : Journal) → length (marks j) ≡ j.depth
marks_length j = let f = j.shallow in let s = j.wide in length_stack j.marks j.depth (omega arith)

-- the marks lie within the records
pub marks_fit : (j : Journal) → marked? (length (trail j)) (marks j) ≡ true
marks_fit j = ap (λ n. marked? n (marks j)) (trail_length j) ∙ j.marked

-- what the type keeps of its fields
abbrev pub Fields : List Command → ℕ → List Mark → ℕ → Type 0
Fields es n ms d = record { sized : length es ≡ 512; few : n ≤ 512; wide : length ms ≡ 8; shallow : d ≤ 8; marked : marked? n (stack ms d) ≡ true }

-- no record, and no mark
pub none_noted : (es : List Command) → map edit_of (stack es 0) ≡ []
none_noted es = ap (map edit_of) (stack_none es)

module _ (j : Journal) where
  -- where a note is granted and a save is there, a record is free
  pub room_left : (u : Unit {0}) → (j.depth ≡ 0 → ⊥) → Ok u ≡ granted (marks j) (trail j) 1 → j.len < 512
  room_left u d r =
      let l = trail_length j in
      let h = room_some (trail j) (marks j) u (λ z. d (sym (marks_length j) ∙ z)) r in
      omega arith

  pub push_fields : (c : Command) → (j.depth ≡ 0 → ⊥) → j.len < 512 → Fields (set j.entries j.len c) (j.len + 1) j.marks j.depth
  push_fields c d h =
      record {
        sized = length-set j.entries j.len c ∙ j.sized;
        few = omega arith;
        wide = j.wide;
        shallow = j.shallow;
        marked = by_marks (marks j) (marks_length j) j.marked;
      }
    where
      by_marks : (ms : List Mark) → length ms ≡ j.depth → marked? j.len ms ≡ true → marked? (j.len + 1) ms ≡ true
      by_marks [] l e = absurd (d (sym l))
      by_marks (m ∷ ms) l e = marked_more j.len (j.len + 1) m ms (omega arith) e

  pub push_trail : (c : Command) → j.len < 512 → map edit_of (stack (set j.entries j.len c) (j.len + 1)) ≡ edit_of c ∷ trail j
  push_trail c h = let s = j.sized in ap (map edit_of) (stack_push j.entries j.len c (omega arith))

  pub open_marks : (m : Mark) → j.depth < 8 → stack (set j.marks j.depth m) (j.depth + 1) ≡ m ∷ marks j
  open_marks m h = let s = j.wide in stack_push j.marks j.depth m (omega arith)

  pub open_fields : (m : Mark) → m.at ≡ j.len → j.depth < 8 → Fields j.entries j.len (set j.marks j.depth m) (j.depth + 1)
  open_fields m e h = record {
    sized = j.sized;
    few = j.few;
    wide = length-set j.marks j.depth m ∙ j.wide;
    shallow = omega arith;
    marked = ap (marked? j.len) (open_marks m h) ∙ marked_on j.len m (marks j) (omega arith) (subst (λ n. marked? n (marks j) ≡ true) (sym e) j.marked);
  }

  pub no_mark : j.depth ≡ 0 → marks j ≡ []
  no_mark e = ap (stack j.marks) e ∙ stack_none j.marks

  -- one record fewer, still at or above the newest mark
  module _ (m : Mark) (ms : List Mark) (is : marks j ≡ m ∷ ms) (h : m.at < j.len) where
    pub pop_trail : (d : Command) → trail j ≡ edit_of (get_or j.entries (j.len - 1) d) ∷ map edit_of (stack j.entries (j.len - 1))
    pop_trail d = let f = j.few in let s = j.sized in ap (map edit_of) (stack_pop j.entries j.len d (omega arith) (omega arith))

    pub pop_high : m.at ≤ length (map edit_of (stack j.entries (j.len - 1)))
    pop_high =
        let f = j.few in
        let s = j.sized in
        let l = length-map (stack j.entries (j.len - 1)) edit_of in
        let k = length_stack j.entries (j.len - 1) (omega arith) in
        omega arith

-- nothing is taken off at the newest mark
pub stays_low : (ms : List Mark) (t : List Edit) (m : Mark) (n : ℕ) → ms ≡ m ∷ rest ms → length t ≡ n → n ≤ m.at → Low ms t
stays_low ms t m n is e h = subst (λ l. Low l t) (sym is) (let k = e in omega arith)

pub stays_high : (ms : List Mark) (t : List Edit) (m : Mark) → ms ≡ m ∷ rest ms → m.at ≤ length t → High ms t
stays_high ms t m is h = subst (λ l. High l t) (sym is) h

kept_some : (ms : List Mark) (t : List Edit) → (length ms ≡ 0 → ⊥) → t ≡ kept ms t
kept_some [] t d = absurd (d refl)
kept_some (m ∷ ms) t d = refl

-- the newest save gone: d saves are left
module _ (j : Journal) (d : ℕ) (e : d ≡ j.depth - 1) where
  pub close_marks : stack j.marks d ≡ rest (marks j)
  close_marks =
      let s = j.wide in
      let k = j.shallow in
      ⊎_elim
      (λ h. ap (stack j.marks) e ∙ stack_rest j.marks j.depth h (omega arith))
      (λ h. let z : d ≡ j.depth = omega arith in ap (stack j.marks) z ∙ rest_none j.marks j.depth (omega arith))
      (cases_lt 0 j.depth)

  -- none is left
  module _ (z : d ≡ 0) where
    none_left : stack j.marks d ≡ []
    none_left = ap (stack j.marks) z ∙ stack_none j.marks

    pub last_fields : Fields j.entries 0 j.marks d
    last_fields = record { sized = j.sized; few = omega arith; wide = j.wide; shallow = omega arith; marked = ap (marked? 0) none_left }

    pub last_trail : map edit_of (stack j.entries 0) ≡ kept (rest (marks j)) (trail j)
    last_trail = none_noted j.entries ∙ sym (ap (λ ms. kept ms (trail j)) (sym close_marks ∙ none_left))

  -- some are left
  module _ (d_some : d ≡ 0 → ⊥) where
    some_left : length (rest (marks j)) ≡ 0 → ⊥
    some_left z =
        let s = j.wide in
        let k = j.shallow in
        d_some (sym (length_stack j.marks d (omega arith)) ∙ ap length close_marks ∙ z)

    pub close_fields : Fields j.entries j.len j.marks d
    close_fields =
        let k = j.shallow in
        record { sized = j.sized; few = j.few; wide = j.wide; shallow = omega arith; marked = ap (marked? j.len) close_marks ∙ by_marks (marks j) j.marked some_left }
      where
        by_marks : (ms : List Mark) → marked? j.len ms ≡ true → (length (rest ms) ≡ 0 → ⊥) → marked? j.len (rest ms) ≡ true
        by_marks [] e f = absurd (f refl)
        by_marks (m ∷ []) e f = absurd (f refl)
        by_marks (m ∷ (l ∷ ms)) e f = marked_rest j.len m l ms e

    pub close_trail : trail j ≡ kept (rest (marks j)) (trail j)
    close_trail = kept_some (rest (marks j)) (trail j) some_left

-- The faults of a command are absent exactly if the program allows it.
use Rattle.std.proofs.Common.{◌≡◌, ℕ, ◌<◌, Bool, true, false, not, ◌&&◌, eqb, Some, None, Option, sym, refl, ap, ◌∙◌, ⊎_elim}
use mathlib.Core.Bool.{false≢true}
use Rattle.std.specs.Option.{option_or}
use Rattle.std.proofs.lemmas.Bool.{ltb-true, lt-ltb, eqb-false, ne_eqb, and_parts, and_from, not-true, not_from_false, cases_lt, both_ways}
use Rattle.std.proofs.lemmas.List.{get_or_past}
use Rattle.ir.specs.Instructions.{Instr}
use Rattle.program.specs.declared.fault.StoreFault.{StoreFault}
use Rattle.program.specs.declared.fault.StoreFault.TheVariants.{OutOfRange, WrongState, BadOperand, StillUsed, BadAnchor}
use Rattle.program.specs.Programs.{Program, Cell, size, cell, busy, Busy, has, In, within, state_by, state_of, is_free, is_loose, is_placed, operands, takes, Operands}
use Rattle.program.specs.Uses.{uses, unused}
use Rattle.program.specs.Faults.{unless, when, first_fault, range_fault, operand_fault, ranges_fault, make_fault, rewrite_fault, anchor_range, anchor_fault, link_fault, placed_fault, unmake_fault, busy_fault}
use Rattle.program.specs.Laws.{CanMake, CanRewrite, Anchored, CanLink, CanUnlink, CanUnmake, CommandsAccepted}
use Rattle.program.proofs.Faults.{in_turn, or_left_none, or_right_none, unless_none}
use Rattle.program.proofs.Operands.{operands_map}
use Rattle.program.proofs.Places.{has_in, in_has, has_out, out_has}
use Rattle.program.proofs.Uses.{unused_none, none_unused}

-- ---- states

pub busy_state : (o : Cell) (b : Bool) → not (is_free (state_by o b)) ≡ busy o
busy_state None b = refl
busy_state (Some i) true = refl
busy_state (Some i) false = refl

free_state : (o : Cell) (b : Bool) → is_free (state_by o b) ≡ not (busy o)
free_state None b = refl
free_state (Some i) true = refl
free_state (Some i) false = refl

loose_state : (o : Cell) (b : Bool) → is_loose (state_by o b) ≡ (busy o && not b)
loose_state None b = refl
loose_state (Some i) true = refl
loose_state (Some i) false = refl

placed_state : (o : Cell) (b : Bool) → is_placed (state_by o b) ≡ (busy o && b)
placed_state None b = refl
placed_state (Some i) true = refl
placed_state (Some i) false = refl

-- ---- faults

pub or_none_both : (o p : Option StoreFault) → o ≡ None → p ≡ None → option_or o p ≡ None
or_none_both o p e f = ap (λ z. option_or z p) e ∙ f

pub unless_true : (b : Bool) (f : StoreFault) → b ≡ true → unless b f ≡ None
unless_true b f e = ap (λ z. unless z f) e

when_none : (h : Bool) (o : Option StoreFault) → when h o ≡ None → h ≡ true → o ≡ None
when_none true o e t = e
when_none false o e t = absurd (false≢true t)

none_when : (h : Bool) (o : Option StoreFault) → (h ≡ true → o ≡ None) → when h o ≡ None
none_when true o f = f refl
none_when false o f = refl

first_none : (f : ℕ → Option StoreFault) (i : Instr) → first_fault f (operands i) ≡ None → Operands i (λ x. f x ≡ None)
first_none f i e =
    let x : Option StoreFault = when (takes 0 i.op) (f i.a) in
    let y : Option StoreFault = when (takes 1 i.op) (f i.b) in
    let z : Option StoreFault = when (takes 2 i.op) (f i.c) in
    let g : option_or x (option_or y z) ≡ None = sym (in_turn f i) ∙ e in
    let k : option_or y z ≡ None = or_right_none x (option_or y z) g in (
      when_none (takes 0 i.op) (f i.a) (or_left_none x (option_or y z) g),
      when_none (takes 1 i.op) (f i.b) (or_left_none y z k),
      when_none (takes 2 i.op) (f i.c) (or_right_none y z k),
    )

none_first : (f : ℕ → Option StoreFault) (i : Instr) → Operands i (λ x. f x ≡ None) → first_fault f (operands i) ≡ None
none_first f i o =
    let x : Option StoreFault = when (takes 0 i.op) (f i.a) in
    let y : Option StoreFault = when (takes 1 i.op) (f i.b) in
    let z : Option StoreFault = when (takes 2 i.op) (f i.c) in
    in_turn f i
    ∙ or_none_both x (option_or y z) (none_when (takes 0 i.op) (f i.a) o.0)
    (or_none_both y z (none_when (takes 1 i.op) (f i.b) o.1) (none_when (takes 2 i.op) (f i.c) o.2))

-- what is not free is in range
pub busy_inside : (p : Program) (n : ℕ) → Busy p n → n < size p
busy_inside p n e =
    ⊎_elim (λ l. l) (λ l. absurd (both_ways (busy (cell p n)) (ap busy (get_or_past p.cells n None l)) e)) (cases_lt n (size p))

module _ (p : Program) where
  placed? : ℕ → Bool
  placed? n = has n p.order

  range_none : (n : ℕ) → range_fault p n ≡ None → n < size p
  range_none n e = ltb-true n (size p) (unless_none (within p n) (OutOfRange n) e)

  pub none_range : (n : ℕ) → n < size p → range_fault p n ≡ None
  none_range n h = unless_true (within p n) (OutOfRange n) (lt-ltb n (size p) h)

  operand_none : (n x : ℕ) → operand_fault p n x ≡ None → Busy p x × (x ≡ n → ⊥)
  operand_none n x e =
      let h = and_parts (not (is_free (state_of p x))) (not (eqb x n)) (unless_none (not (is_free (state_of p x)) && not (eqb x n)) (BadOperand x) e) in
      (sym (busy_state (cell p x) (has x p.order)) ∙ h.0, eqb-false x n (not-true (eqb x n) h.1))

  none_operand : (n x : ℕ) → Busy p x × (x ≡ n → ⊥) → operand_fault p n x ≡ None
  none_operand n x h =
      unless_true (not (is_free (state_of p x)) && not (eqb x n)) (BadOperand x)
      (and_from (not (is_free (state_of p x))) (not (eqb x n)) (busy_state (cell p x) (has x p.order) ∙ h.0) (not_from_false (eqb x n) (ne_eqb x n h.1)))

  none_ranges : (n : ℕ) (i : Instr) → n < size p → Operands i (λ j. Busy p j × (j ≡ n → ⊥)) → ranges_fault p n i ≡ None
  none_ranges n i h o =
      or_none_both (range_fault p n) (first_fault (range_fault p) (operands i)) (none_range n h)
      (none_first (range_fault p) i (operands_map i (λ j. Busy p j × (j ≡ n → ⊥)) (λ j. range_fault p j ≡ None) (λ j b. none_range j (busy_inside p j b.0)) o))

  module _ (n : ℕ) where
    abbrev free_part : Option StoreFault
    free_part = unless (is_free (state_of p n)) (WrongState n)

    abbrev busy_part : Option StoreFault
    busy_part = unless (not (is_free (state_of p n))) (WrongState n)

    abbrev loose_part : Option StoreFault
    loose_part = unless (is_loose (state_of p n)) (WrongState n)

    loose_none : loose_part ≡ None → Busy p n × (In n p.order → ⊥)
    loose_none e =
        let h = and_parts (busy (cell p n)) (not (has n p.order)) (sym (loose_state (cell p n) (has n p.order)) ∙ unless_none (is_loose (state_of p n)) (WrongState n) e) in
        (h.0, has_out n p.order (not-true (has n p.order) h.1))

    none_loose : Busy p n → (In n p.order → ⊥) → loose_part ≡ None
    none_loose b d =
        unless_true (is_loose (state_of p n)) (WrongState n)
        (loose_state (cell p n) (has n p.order) ∙ and_from (busy (cell p n)) (not (has n p.order)) b (not_from_false (has n p.order) (out_has n p.order d)))

    placed_true : is_placed (state_of p n) ≡ true → Busy p n × In n p.order
    placed_true e =
        let h = and_parts (busy (cell p n)) (has n p.order) (sym (placed_state (cell p n) (has n p.order)) ∙ e) in
        (h.0, has_in n p.order h.1)

    true_placed : Busy p n → In n p.order → is_placed (state_of p n) ≡ true
    true_placed b h = placed_state (cell p n) (has n p.order) ∙ and_from (busy (cell p n)) (has n p.order) b (in_has n p.order h)

    module _ (i : Instr) where
      abbrev tail_part : Option StoreFault
      tail_part = first_fault (operand_fault p n) (operands i)

      tail_none : tail_part ≡ None → Operands i (λ j. Busy p j × (j ≡ n → ⊥))
      tail_none e =
          operands_map i (λ j. operand_fault p n j ≡ None) (λ j. Busy p j × (j ≡ n → ⊥)) (λ j. operand_none n j) (first_none (operand_fault p n) i e)

      none_tail : Operands i (λ j. Busy p j × (j ≡ n → ⊥)) → tail_part ≡ None
      none_tail o =
          none_first (operand_fault p n) i (operands_map i (λ j. Busy p j × (j ≡ n → ⊥)) (λ j. operand_fault p n j ≡ None) (λ j. none_operand n j) o)

      make_can : make_fault p n i ≡ None → CanMake p n i
      make_can e =
          let r : ranges_fault p n i ≡ None = or_left_none (ranges_fault p n i) (option_or free_part tail_part) e in
          let s : option_or free_part tail_part ≡ None = or_right_none (ranges_fault p n i) (option_or free_part tail_part) e in
          record {
            inside = range_none n (or_left_none (range_fault p n) (first_fault (range_fault p) (operands i)) r);
            was_free = not-true (busy (cell p n)) (sym (free_state (cell p n) (has n p.order)) ∙ unless_none (is_free (state_of p n)) (WrongState n) (or_left_none free_part tail_part s));
            apart = tail_none (or_right_none free_part tail_part s);
          }

      can_make : CanMake p n i → make_fault p n i ≡ None
      can_make c =
          or_none_both (ranges_fault p n i) (option_or free_part tail_part) (none_ranges n i c.inside c.apart)
          (or_none_both free_part tail_part
          (unless_true (is_free (state_of p n)) (WrongState n) (free_state (cell p n) (has n p.order) ∙ not_from_false (busy (cell p n)) c.was_free))
          (none_tail c.apart))

      rewrite_can : rewrite_fault p n i ≡ None → CanRewrite p n i
      rewrite_can e =
          let s : option_or busy_part tail_part ≡ None = or_right_none (ranges_fault p n i) (option_or busy_part tail_part) e in
          record {
            was_busy = sym (busy_state (cell p n) (has n p.order)) ∙ unless_none (not (is_free (state_of p n))) (WrongState n) (or_left_none busy_part tail_part s);
            apart = tail_none (or_right_none busy_part tail_part s);
          }

      can_rewrite : CanRewrite p n i → rewrite_fault p n i ≡ None
      can_rewrite c =
          or_none_both (ranges_fault p n i) (option_or busy_part tail_part) (none_ranges n i (busy_inside p n c.was_busy) c.apart)
          (or_none_both busy_part tail_part
          (unless_true (not (is_free (state_of p n))) (WrongState n) (busy_state (cell p n) (has n p.order) ∙ c.was_busy))
          (none_tail c.apart))

    unlink_can : placed_fault p n ≡ None → CanUnlink p n
    unlink_can e =
        let h = placed_true (unless_none (is_placed (state_of p n)) (WrongState n) (or_right_none (range_fault p n) (unless (is_placed (state_of p n)) (WrongState n)) e)) in
        record { was_busy = h.0; placed = h.1 }

    can_unlink : CanUnlink p n → placed_fault p n ≡ None
    can_unlink c =
        or_none_both (range_fault p n) (unless (is_placed (state_of p n)) (WrongState n)) (none_range n (busy_inside p n c.was_busy))
        (unless_true (is_placed (state_of p n)) (WrongState n) (true_placed c.was_busy c.placed))

    abbrev unused_part : Option StoreFault
    unused_part = unless (unused (uses p n)) (StillUsed n)

    unmake_can : unmake_fault p n ≡ None → CanUnmake p n
    unmake_can e =
        let s : option_or loose_part unused_part ≡ None = or_right_none (range_fault p n) (option_or loose_part unused_part) e in
        let l = loose_none (or_left_none loose_part unused_part s) in
        record {
          was_busy = l.0;
          loose = l.1;
          unread = unused_none p n (unless_none (unused (uses p n)) (StillUsed n) (or_right_none loose_part unused_part s));
        }

    can_unmake : CanUnmake p n → unmake_fault p n ≡ None
    can_unmake c =
        or_none_both (range_fault p n) (option_or loose_part unused_part) (none_range n (busy_inside p n c.was_busy))
        (or_none_both loose_part unused_part (none_loose c.was_busy c.loose) (unless_true (unused (uses p n)) (StillUsed n) (none_unused p n c.unread)))

  anchor_none : (a : Option ℕ) → anchor_fault p a ≡ None → Anchored p a
  anchor_none None e = tt
  anchor_none (Some a) e = placed_true a (unless_none (is_placed (state_of p a)) (BadAnchor a) e)

  none_anchor : (a : Option ℕ) → Anchored p a → anchor_fault p a ≡ None
  none_anchor None h = refl
  none_anchor (Some a) h = unless_true (is_placed (state_of p a)) (BadAnchor a) (true_placed a h.0 h.1)

  none_anchor_range : (a : Option ℕ) → Anchored p a → anchor_range p a ≡ None
  none_anchor_range None h = refl
  none_anchor_range (Some a) h = none_range a (busy_inside p a h.0)

  link_can : (n : ℕ) (a : Option ℕ) → link_fault p n a ≡ None → CanLink p n a
  link_can n a e =
      let t : Option StoreFault = option_or (loose_part n) (anchor_fault p a) in
      let s : option_or (anchor_range p a) t ≡ None = or_right_none (range_fault p n) (option_or (anchor_range p a) t) e in
      let u : t ≡ None = or_right_none (anchor_range p a) t s in
      let l = loose_none n (or_left_none (loose_part n) (anchor_fault p a) u) in
      record { was_busy = l.0; loose = l.1; anchored = anchor_none a (or_right_none (loose_part n) (anchor_fault p a) u) }

  can_link : (n : ℕ) (a : Option ℕ) → CanLink p n a → link_fault p n a ≡ None
  can_link n a c =
      let t : Option StoreFault = option_or (loose_part n) (anchor_fault p a) in
      or_none_both (range_fault p n) (option_or (anchor_range p a) t) (none_range n (busy_inside p n c.was_busy))
      (or_none_both (anchor_range p a) t (none_anchor_range a c.anchored)
      (or_none_both (loose_part n) (anchor_fault p a) (none_loose n c.was_busy c.loose) (none_anchor a c.anchored)))

pub commands_accepted : CommandsAccepted
commands_accepted p =
    record {
      make = λ n i. (make_can p n i, can_make p n i);
      rewrite = λ n i. (rewrite_can p n i, can_rewrite p n i);
      link = λ n a. (link_can p n a, can_link p n a);
      unlink = λ n. (unlink_can p n, can_unlink p n);
      unmake = λ n. (unmake_can p n, can_unmake p n);
    }

-- a number that is not free can be read
pub busy_accepted : (p : Program) (n : ℕ) → Busy p n → busy_fault p n ≡ None
busy_accepted p n b =
    or_none_both (range_fault p n) (unless (not (is_free (state_of p n))) (WrongState n)) (none_range p n (busy_inside p n b))
    (unless_true (not (is_free (state_of p n))) (WrongState n) (busy_state (cell p n) (has n p.order) ∙ b))

-- What no fault of a command says of the cells, and what the command leaves.
use Rattle.std.proofs.Common.{◌≡◌, ℕ, zero, suc, ◌+◌, ◌<◌, ◌≤◌, Bool, true, false, cond, not, eqb, ltb, List, [], ◌∷◌, map, length, get_or, take, drop, set, Some, None, Option, sym, refl, ap, ◌∙◌, subst, inl, inr, ⊎_elim, arith}
use Rattle.std.specs.Option.{option_or, unwrap_or}
use Rattle.std.specs.List.{slice_get}
use Rattle.std.proofs.lemmas.List.{get_or-set_same, get_or-set_other, length-map, length-set, map-set, take_all}
use Rattle.linked.proofs.Columns.{col_end}
use Rattle.std.proofs.lemmas.Bool.{both_ways, ltb-true, lt-ltb, le-ltb, cases_eq, eq-eqb}
use Rattle.ir.specs.Operations.{arity}
use Rattle.ir.specs.Instructions.{Instr, plain}
use Rattle.ir.specs.declared.instruction.Record.{Record}
use Rattle.program.specs.declared.fault.StoreFault.{StoreFault}
use Rattle.program.specs.declared.fault.StoreFault.TheVariants.{OutOfRange, WrongState, StillUsed, BadAnchor}
use Rattle.program.specs.declared.state.State.{State}
use Rattle.program.specs.declared.state.State.TheVariants.{Free, Loose, Placed as IsPlaced}
use Rattle.program.specs.Programs.{Program, program_of, index_of, within, operands, is_free, is_loose, is_placed, state_of}
use Rattle.program.specs.Uses.{uses_from, unused}
use Rattle.program.specs.Faults.{range_fault, ranges_fault, first_fault, operand_fault, make_fault, rewrite_fault, unmake_fault, link_fault, placed_fault, anchor_range, anchor_fault, unless, when}
use Rattle.program.specs.Commands.{put, anchor_place}
use Rattle.program.proofs.Faults.{or_left_none, or_right_none, unless_none, in_turn}
use Rattle.linked.specs.declared.cells.Body.{Body}
use Rattle.linked.specs.declared.cells.Body.TheVariants.{Vacant, Idle, Placed}
use Rattle.linked.specs.declared.cells.LinkedCell.{LinkedCell}
use Rattle.linked.specs.Rings.{occurs, Ring}
use Rattle.linked.specs.LinkedModel.{SameOrder, content, mark, tag, bodies, nexts, prevs, threads_of, at, order_of, linked_program, Chained, Linked, Anchor}
use Rattle.linked.specs.Uses.{Threaded}
use Rattle.linked.specs.Slots.{flat, links}
use Rattle.linked.specs.Facts.{table_in, Listed, Ranged}
use Rattle.linked.specs.Making.{Reads, Inside, body_with}
use Rattle.linked.specs.States.{within_linked, state_linked, index_in, index_out}
use Rattle.linked.specs.Reading.{node_number}
use Rattle.program.specs.Readings.{prior}
use Rattle.linked.specs.Table.{table}
use Rattle.linked.proofs.Orders.{chained_at, order_unique, end_absent, in_order}
use Rattle.linked.proofs.Splicing.{parts, left_ring, right_ring}
use Rattle.linked.proofs.Placing.{linked_by, placed_mark, loose_mark}

-- the links go along the order, the use lists along the uses, and each operand is a number of the store
pub record Sound (cells : List LinkedCell) (first last : ℕ) : Type 0 where
  pub linked : Linked cells first last
  pub listed : Listed cells
  pub ranged : Ranged cells

-- ---- no fault

tag_free : (b : Body) → is_free (tag b) ≡ true → b ≡ Vacant
tag_free Vacant e = refl
tag_free (Idle r) e = let z : ◌≡◌ {A = ℕ} 0 1 = cc in absurd (omega arith)
tag_free (Placed r) e = let z : ◌≡◌ {A = ℕ} 0 1 = cc in absurd (omega arith)

state_loose : (s : State) → is_loose s ≡ true → s ≡ Loose
state_loose Free e = let z : ◌≡◌ {A = ℕ} 0 1 = cc in absurd (omega arith)
state_loose Loose e = refl
state_loose IsPlaced e = let z : ◌≡◌ {A = ℕ} 0 1 = cc in absurd (omega arith)

state_placed : (s : State) → is_placed s ≡ true → s ≡ IsPlaced
state_placed Free e = let z : ◌≡◌ {A = ℕ} 0 1 = cc in absurd (omega arith)
state_placed Loose e = let z : ◌≡◌ {A = ℕ} 0 1 = cc in absurd (omega arith)
state_placed IsPlaced e = refl

when_none : (b : Bool) (o : Option StoreFault) → when b o ≡ None → b ≡ true → o ≡ None
when_none true o e h = e
when_none false o e h = let z : ◌≡◌ {A = ℕ} 0 1 = cc in absurd (omega arith)

module _ (xs : List LinkedCell) (f : ℕ) where
  pub range_low : (n : ℕ) → range_fault (linked_program xs f) n ≡ None → n < length xs
  range_low n e = ltb-true n (length xs) (sym (within_linked xs f n) ∙ unless_none (within (linked_program xs f) n) (OutOfRange n) e)

  ranges_reads : (n : ℕ) (i : Instr) → ranges_fault (linked_program xs f) n i ≡ None → Reads i (length xs)
  ranges_reads n i e =
      let P = linked_program xs f in
      let all : first_fault (range_fault P) (operands i) ≡ None = or_right_none (range_fault P n) (first_fault (range_fault P) (operands i)) e in
      let turn = sym (in_turn (range_fault P) i) ∙ all in
      let oa : Option StoreFault = when (ltb 0 (arity i.op)) (range_fault P i.a) in
      let ob : Option StoreFault = when (ltb 1 (arity i.op)) (range_fault P i.b) in
      let oc : Option StoreFault = when (ltb 2 (arity i.op)) (range_fault P i.c) in
      let rest = or_right_none oa (option_or ob oc) turn in
      record {
        a = λ t. range_low i.a (when_none (ltb 0 (arity i.op)) (range_fault P i.a) (or_left_none oa (option_or ob oc) turn) t);
        b = λ t. range_low i.b (when_none (ltb 1 (arity i.op)) (range_fault P i.b) (or_left_none ob oc rest) t);
        c = λ t. range_low i.c (when_none (ltb 2 (arity i.op)) (range_fault P i.c) (or_right_none ob oc rest) t);
      }

  inside_reads : (i j : Instr) → Reads i (length xs) → Some i ≡ Some j → Reads j (length xs)
  inside_reads i j r e = let s : i ≡ j = cc in subst (λ k. Reads k (length xs)) s r

  pub ranges_inside : (n : ℕ) (i : Instr) → ranges_fault (linked_program xs f) n i ≡ None → Inside (length xs) (Some i)
  ranges_inside n i e j q = inside_reads i j (ranges_reads n i e) q

  pub hold_low : (n : ℕ) (i : Instr) → ranges_fault (linked_program xs f) n i ≡ None → n < length xs
  hold_low n i e = range_low n (or_left_none _ _ e)

module _ (xs : List LinkedCell) (f l : ℕ) (is : Linked xs f l) where
  abbrev P : Program
  P = linked_program xs f

  abbrev bs : List Body
  bs = bodies xs

  abbrev o : List ℕ
  o = order_of bs (nexts xs f)

  pub make_free : (n : ℕ) (i : Instr) → make_fault P n i ≡ None → get_or bs n Vacant ≡ Vacant
  make_free n i e =
      let free : is_free (state_of P n) ≡ true = unless_none _ (WrongState n) (or_left_none _ _ (or_right_none _ _ e)) in
      tag_free (get_or bs n Vacant) (sym (ap is_free (state_linked xs f l is n)) ∙ free)

  pub rewrite_held : (n : ℕ) (i : Instr) → rewrite_fault P n i ≡ None → get_or bs n Vacant ≡ Vacant → ⊥
  rewrite_held n i e v =
      let test = not (is_free (state_of P n)) in
      let here : test ≡ true = unless_none test (WrongState n) (or_left_none (unless test (WrongState n)) (first_fault (operand_fault P n) (operands i)) (or_right_none (ranges_fault P n i) _ e)) in
      both_ways test (ap (λ s. not (is_free s)) (state_linked xs f l is n ∙ ap tag v)) here

  module _ (n : ℕ) (anchor : Option ℕ) (e : link_fault P n anchor ≡ None) where
    abbrev state_part : Option StoreFault
    state_part = unless (is_loose (state_of P n)) (WrongState n)

    rest : option_or state_part (anchor_fault P anchor) ≡ None
    rest =
        let tail : Option StoreFault = option_or state_part (anchor_fault P anchor) in
        or_right_none (anchor_range P anchor) tail (or_right_none (range_fault P n) (option_or (anchor_range P anchor) tail) e)

    pub link_loose : tag (get_or bs n Vacant) ≡ Loose
    link_loose =
        let q : is_loose (state_of P n) ≡ true = unless_none _ (WrongState n) (or_left_none state_part (anchor_fault P anchor) rest) in
        sym (state_linked xs f l is n) ∙ state_loose (state_of P n) q

  anchor_ok : (anchor : Option ℕ) → anchor_fault P anchor ≡ None → Anchor xs (unwrap_or anchor (length xs))
  anchor_ok None e = inl refl
  anchor_ok (Some a) e = inr (sym (state_linked xs f l is a) ∙ state_placed (state_of P a) (unless_none _ (BadAnchor a) e))

  pub link_anchor : (n : ℕ) (anchor : Option ℕ) → link_fault P n anchor ≡ None → Anchor xs (unwrap_or anchor (length xs))
  link_anchor n anchor e = anchor_ok anchor (or_right_none (state_part n anchor e) (anchor_fault P anchor) (rest n anchor e))

  pub link_place : (anchor : Option ℕ) → index_of (unwrap_or anchor (length xs)) o ≡ anchor_place P anchor
  link_place None =
      let m = length-map xs (λ c. c.body) in
      ap (λ k. index_of k o) (sym m) ∙ index_out (length bs) o (end_absent bs (nexts xs f) (prevs xs l) o is)
  link_place (Some a) = refl

  pub unlink_placed : (n : ℕ) → placed_fault P n ≡ None → tag (get_or bs n Vacant) ≡ IsPlaced
  unlink_placed n e =
      let q : is_placed (state_of P n) ≡ true = unless_none _ (WrongState n) (or_right_none (range_fault P n) (unless (is_placed (state_of P n)) (WrongState n)) e) in
      sym (state_linked xs f l is n) ∙ state_placed (state_of P n) q

  -- ---- the number after another
  nth_drop : (os : List ℕ) (k : ℕ) → slice_get os k ≡ slice_get (drop k os) 0
  nth_drop [] zero = refl
  nth_drop [] (suc k) = refl
  nth_drop (x ∷ os) zero = refl
  nth_drop (x ∷ os) (suc k) = nth_drop os k

  follows : (n : ℕ) (r : List ℕ) → Ring (at (nexts xs f)) (at (prevs xs l)) n r (length bs) → ((k : ℕ) → 0 < occurs k r → k < length bs) → slice_get r 0 ≡ node_number (length bs) (at (nexts xs f) n)
  follows n [] ring low = sym (ap (λ b. cond b (Some (at (nexts xs f) n)) None) (le-ltb (at (nexts xs f) n) (length bs) (let e = ring.0 in omega arith)))
  follows n (y ∷ ys) ring low =
      let e = ring.0 in
      let h : y < length bs = low y (let q : cond (eqb y y) 1 0 ≡ ◌+◌ 1 0 = ap (λ b. cond b 1 0) (eq-eqb y y refl) in omega arith) in
      ap Some (sym e) ∙ sym (ap (λ b. cond b (Some (at (nexts xs f) n)) None) (lt-ltb (at (nexts xs f) n) (length bs) (omega arith)))

  pub next_number : (n : ℕ) → placed_fault P n ≡ None → slice_get o (index_of n o + 1) ≡ node_number (length xs) (at (nexts xs f) n)
  next_number n e =
      let m = (placed_mark (get_or bs n Vacant) (unlink_placed n e)).0 in
      let k = is.marks n in
      let placed : 0 < occurs n o = omega arith in
      let i = index_of n o in
      let ring = right_ring bs (nexts xs f) (prevs xs l) o is n placed in
      let suc_i : i + 1 ≡ suc i = omega arith in
      ap (slice_get o) suc_i
      ∙ nth_drop o (suc i)
      ∙ follows n (drop (suc i) o) ring (λ j h. let p = parts bs (nexts xs f) (prevs xs l) o is n placed j in in_order bs (nexts xs f) (prevs xs l) o is j (omega arith))
      ∙ ap (λ s. node_number s (at (nexts xs f) n)) (length-map xs (λ c. c.body))

  -- ---- the first, and the number before another
  pub first_number : slice_get o 0 ≡ node_number (length xs) f
  first_number =
      let m = length-map xs (λ c. c.body) in
      follows (length bs) o is.ring (λ k h. in_order bs (nexts xs f) (prevs xs l) o is k h)
      ∙ ap (node_number (length bs)) (sym (col_end (λ c. c.links.next) xs (length bs) f (omega arith)))
      ∙ ap (λ s. node_number s f) m

  -- the last of a list, or x
  abbrev last_of : ℕ → List ℕ → ℕ
  last_of x [] = x
  last_of x (y ∷ ys) = last_of y ys

  lead : (x : ℕ) (ys : List ℕ) (t : ℕ) → Ring (at (nexts xs f)) (at (prevs xs l)) x ys t → at (prevs xs l) t ≡ last_of x ys
  lead x [] t r = r.1
  lead x (y ∷ ys) t r = lead y ys t r.2

  last_take : (x : ℕ) (os : List ℕ) (i : ℕ) → i < length os → ((k : ℕ) → 0 < occurs k os → k < length bs) → slice_get os i ≡ node_number (length bs) (last_of x (take (suc i) os))
  last_take x [] i h low = absurd (omega arith)
  last_take x (y ∷ ys) zero h low =
      let k : y < length bs = low y (let q : cond (eqb y y) 1 0 ≡ ◌+◌ 1 0 = ap (λ b. cond b 1 0) (eq-eqb y y refl) in omega arith) in
      sym (ap (λ b. cond b (Some y) None) (lt-ltb y (length bs) k))
  last_take x (y ∷ ys) (suc i) h low = last_take y ys i (omega arith) (λ k p. low k (omega arith))

  before_take : (i : ℕ) → i ≤ length o → prior o i ≡ node_number (length bs) (last_of (length bs) (take i o))
  before_take zero h = sym (ap (λ b. cond b (Some (length bs)) None) (le-ltb (length bs) (length bs) (omega arith)))
  before_take (suc i) h = last_take (length bs) o i (omega arith) (λ k p. in_order bs (nexts xs f) (prevs xs l) o is k p)

  pub previous_number : (n : ℕ) → placed_fault P n ≡ None → prior o (index_of n o) ≡ node_number (length xs) (at (prevs xs l) n)
  previous_number n e =
      let m = (placed_mark (get_or bs n Vacant) (unlink_placed n e)).0 in
      let k = is.marks n in
      let placed : 0 < occurs n o = omega arith in
      let i = index_of n o in
      let h = index_in n o placed in
      let ring = left_ring bs (nexts xs f) (prevs xs l) o is n placed in
      before_take i (omega arith)
      ∙ ap (node_number (length bs)) (sym (lead (length bs) (take i o) n ring))
      ∙ ap (λ s. node_number s (at (prevs xs l) n)) (length-map xs (λ c. c.body))

  pub last_number : prior o (length o) ≡ node_number (length xs) l
  last_number =
      let m = length-map xs (λ c. c.body) in
      before_take (length o) (omega arith)
      ∙ ap (λ os. node_number (length bs) (last_of (length bs) os)) (take_all (length o) o (omega arith))
      ∙ ap (node_number (length bs)) (sym (lead (length bs) o (length bs) is.ring))
      ∙ ap (node_number (length bs)) (sym (col_end (λ c. c.links.prev) xs (length bs) l (omega arith)))
      ∙ ap (λ s. node_number s l) m

-- ---- a write of a body that keeps its mark
module _ (bs : List Body) (ns ps o : List ℕ) (is : Chained bs ns ps o) (n : ℕ) (b : Body) (h : n < length bs) (same : mark b ≡ mark (get_or bs n Vacant)) where
  chained_kept : Chained (set bs n b) ns ps o
  chained_kept = chained_at bs ns ps o is n b ns ps o h (λ k ne. refl) (sym (is.marks n) ∙ sym same) (ap (λ m. length o + m) (sym same)) is.wide is.wide_back is.ring

-- cells after a write of a body
module _ (xs ys : List LinkedCell) (f l : ℕ) (is : Linked xs f l) (n : ℕ) (b : Body) (h : n < length xs) (same : mark b ≡ mark (get_or (bodies xs) n Vacant)) (eb : bodies ys ≡ set (bodies xs) n b) (en : nexts ys f ≡ nexts xs f) (ep : prevs ys l ≡ prevs xs l) where
  abbrev order : List ℕ
  order = order_of (bodies xs) (nexts xs f)

  new : Chained (set (bodies xs) n b) (nexts xs f) (prevs xs l) order
  new = let m = length-map xs (λ c. c.body) in chained_kept (bodies xs) (nexts xs f) (prevs xs l) order is n b (omega arith) same

  pub linked_kept : Linked ys f l
  linked_kept = linked_by ys f l (set (bodies xs) n b) (nexts xs f) (prevs xs l) order eb en ep new

  pub program_kept : linked_program ys f ≡ put (linked_program xs f) n (content b)
  program_kept =
      ap (λ s. program_of (map content s) (order_of s (nexts ys f))) eb
      ∙ ap (λ s. program_of (map content (set (bodies xs) n b)) (order_of (set (bodies xs) n b) s)) en
      ∙ ap (λ s. program_of (map content (set (bodies xs) n b)) s) (order_unique (set (bodies xs) n b) (nexts xs f) (prevs xs l) order new)
      ∙ ap (λ cs. program_of cs order) (map-set content (bodies xs) n b)

-- ---- a link or an unlink leaves the use lists

same_size : (xs ys : List LinkedCell) → map content (bodies ys) ≡ map content (bodies xs) → length xs ≡ length ys
same_size xs ys e = sym (length-map xs (λ c. c.body)) ∙ sym (length-map (bodies xs) content) ∙ ap length (sym e) ∙ length-map (bodies ys) content ∙ length-map ys (λ c. c.body)

pub listed_kept : (xs ys : List LinkedCell) → map content (bodies ys) ≡ map content (bodies xs) → threads_of ys ≡ threads_of xs → Listed xs → Listed ys
listed_kept xs ys e t w =
    subst (λ s. Threaded s (table_in ys) (links ys)) (same_size xs ys e)
    (subst (λ ls. Threaded (length xs) (table_in ys) ls) (ap flat (sym t))
    (subst (λ qs. Threaded (length xs) qs (links xs)) (ap table (sym e)) w))

pub ranged_kept : (xs ys : List LinkedCell) → map content (bodies ys) ≡ map content (bodies xs) → Ranged xs → Ranged ys
ranged_kept xs ys e r n i q = subst (Reads i) (same_size xs ys e) (r n i (ap (λ cs. get_or cs n None) (sym e) ∙ q))

ranged_set : (xs ys : List LinkedCell) (n : ℕ) (b : Body) → n < length xs → bodies ys ≡ set (bodies xs) n b → Inside (length xs) (content b) → Ranged xs → Ranged ys
ranged_set xs ys n b h e t r k i q =
    let cs = map content (bodies xs) in
    let m = length-map xs (λ c. c.body) in
    let w = length-map (bodies xs) content in
    let len : length xs ≡ length ys = sym (sym (length-map ys (λ c. c.body)) ∙ ap length e ∙ length-set (bodies xs) n b ∙ m) in
    let here : get_or (set cs n (content b)) k None ≡ Some i = ap (λ c. get_or c k None) (sym (ap (map content) e ∙ map-set content (bodies xs) n b)) ∙ q in
    subst (Reads i) len
    (⊎_elim
    (λ s. t i (sym (get_or-set_same cs n (content b) None (omega arith)) ∙ ap (λ j. get_or (set cs n (content b)) j None) (sym s) ∙ here))
    (λ ne. r k i (sym (get_or-set_other cs n k (content b) None ne) ∙ here))
    (cases_eq k n))

with_mark : (b : Body) (r : Record) → mark (body_with b r) ≡ mark b
with_mark Vacant r = refl
with_mark (Idle q) r = refl
with_mark (Placed q) r = refl

with_content : (b : Body) (r : Record) → (b ≡ Vacant → ⊥) → content (body_with b r) ≡ Some (plain r)
with_content Vacant r ne = absurd (ne refl)
with_content (Idle q) r ne = refl
with_content (Placed q) r ne = refl

-- ---- bodies that may be written

-- n keeps its place in the order, and the operands of b are numbers of the store
pub record Allowed (xs : List LinkedCell) (n : ℕ) (b : Body) : Type 0 where
  pub within : n < length xs
  pub same : mark b ≡ mark (get_or (bodies xs) n Vacant)
  pub inside : Inside (length xs) (content b)

-- what a written body leaves of a sound store
module _ (xs ys : List LinkedCell) (f l : ℕ) (is : Sound xs f l) (n : ℕ) (b : Body) (a : Allowed xs n b) (listed : Listed ys) (order : SameOrder xs ys) (eb : bodies ys ≡ set (bodies xs) n b) where
  pub put_sound : Sound ys f l
  put_sound = record {
    linked = linked_kept xs ys f l is.linked n b a.within a.same eb (order.nexts f) (order.prevs l);
    listed = listed;
    ranged = ranged_set xs ys n b a.within eb a.inside is.ranged;
  }

  pub put_program : linked_program ys f ≡ put (linked_program xs f) n (content b)
  put_program = program_kept xs ys f l is.linked n b a.within a.same eb (order.nexts f) (order.prevs l)

module _ (xs : List LinkedCell) (f l : ℕ) (is : Linked xs f l) (n : ℕ) where
  abbrev p : Program
  p = linked_program xs f

  pub make_allowed : (what : Record) → make_fault p n (plain what) ≡ None → Allowed xs n (Idle what)
  make_allowed what e =
      let r = or_left_none _ _ e in
      record { within = hold_low xs f n (plain what) r; same = sym (ap mark (make_free xs f l is n (plain what) e)); inside = ranges_inside xs f n (plain what) r }

  module _ (what : Record) (b : Body) (is_b : b ≡ body_with (get_or (bodies xs) n Vacant) what) (e : rewrite_fault p n (plain what) ≡ None) where
    pub rewrite_content : content b ≡ Some (plain what)
    rewrite_content = ap content is_b ∙ with_content (get_or (bodies xs) n Vacant) what (rewrite_held xs f l is n (plain what) e)

    pub rewrite_allowed : Allowed xs n b
    rewrite_allowed =
        let r = or_left_none _ _ e in
        record {
          within = hold_low xs f n (plain what) r;
          same = ap mark is_b ∙ with_mark (get_or (bodies xs) n Vacant) what;
          inside = subst (Inside (length xs)) (sym rewrite_content) (ranges_inside xs f n (plain what) r);
        }

  loose_unmarked : (b : Body) → tag b ≡ Loose → mark Vacant ≡ mark b
  loose_unmarked b e = sym (loose_mark b e).0

  pub unmake_allowed : unmake_fault p n ≡ None → Allowed xs n Vacant
  unmake_allowed e =
      let q : is_loose (state_of p n) ≡ true = unless_none _ (WrongState n) (or_left_none (unless (is_loose (state_of p n)) (WrongState n)) (unless (unused (uses_from n 0 p.cells)) (StillUsed n)) (or_right_none (range_fault p n) _ e)) in
      record {
        within = range_low xs f n (or_left_none _ _ e);
        same = loose_unmarked (get_or (bodies xs) n Vacant) (sym (state_linked xs f l is n) ∙ state_loose (state_of p n) q);
        inside = λ j z. let y : ◌≡◌ {A = ℕ} 0 1 = cc in absurd (omega arith);
      }

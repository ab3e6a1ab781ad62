-- Replacing a number use by use.
use Rattle.std.proofs.Common.{◌≡◌, ℕ, zero, suc, ◌<◌, Bool, false, not, ◌&&◌, eqb, List, [], ◌∷◌, map, set, Some, None, Option, sym, refl, ap, ◌∙◌, subst, inl, inr, ⊎_elim, arith}
use lib.ListN.{get_or-map}
use Rattle.std.specs.Option.{option_or}
use Rattle.std.specs.List.{slice_get}
use Rattle.std.proofs.lemmas.Bool.{ne_eqb, eqb-false, and_parts, and_from, not-true, not_from_false}
use Rattle.std.proofs.lemmas.List.{get_or-set_other, map-set, set-get_or}
use Rattle.ir.specs.Instructions.{Instr, Shapely}
use Rattle.program.specs.declared.fault.StoreFault.{StoreFault}
use Rattle.program.specs.declared.fault.StoreFault.TheVariants.{WrongState, BadOperand}
use Rattle.program.specs.Programs.{Program, size, cell, busy, Busy, held, at, has, In, operands, Operands, state_of, is_free}
use Rattle.program.specs.Uses.{uses, Precedes, Ascending, Among, position, Use}
use Rattle.program.specs.Faults.{unless, range_fault, rewrite_fault}
use Rattle.program.specs.Commands.{put}
use Rattle.program.specs.Proper.{Proper}
use Rattle.program.proofs.Faults.{or_left_none, or_right_none, unless_none, settles}
use Rattle.program.proofs.Operands.{operands_from}
use Rattle.program.proofs.Places.{has_out, out_has}
use Rattle.program.proofs.Uses.{all_among, from_ascends, in_uses, uses_in}
use Rattle.program.proofs.Accepting.{commands_accepted, busy_inside, busy_accepted, busy_state, none_range, or_none_both, unless_true}
use Rattle.program.proofs.Keeping.{set_case, still_busy}
use Rattle.edits.specs.Commands.{after}
use Rattle.edits.specs.Replace.{rename_cell, replace, replace_fault, Replaceable, ReplaceAccepted, swap_at, swap, OneSwap, ReplaceStep, ReplaceLaw}
use Rattle.program.proofs.Positions.{operand_at, use_reads, reads_use}
use Rattle.edits.proofs.Undoing.{busy_is, edits_keep_proper}
use Rattle.edits.proofs.Ascending.{not_itself, ascending_one}
use Rattle.edits.proofs.Renaming.{swap_each, swap_shapely, swap_same, swap_other, rename_swap, replace_end}

-- ---- faults

nth_in : (v k : ℕ) (xs : List ℕ) → slice_get xs k ≡ Some v → In v xs
nth_in v k [] e = let z : ◌≡◌ {A = ℕ} 0 1 = cc in absurd (omega arith)
nth_in v zero (x ∷ xs) e = inl (cc)
nth_in v (suc k) (x ∷ xs) e = inr (nth_in v k xs e)

in_nth : (v : ℕ) (xs : List ℕ) → In v xs → (k : ℕ) × (slice_get xs k ≡ Some v)
in_nth v [] h = absurd h
in_nth v (x ∷ xs) h = ⊎_elim (λ q. (0, ap Some q)) (λ q. let r = in_nth v xs q in (suc r.0, r.1)) h

reads_out : (i : Instr) (n : ℕ) → has n (operands i) ≡ false → (k : ℕ) → position i k ≡ Some n → ⊥
reads_out i n h zero e = let z : ◌≡◌ {A = ℕ} 0 1 = cc in omega arith
reads_out i n h (suc k) e = has_out n (operands i) h (nth_in n k (operands i) e)

module _ (p : Program) where
  abbrev state_part : ℕ → Option StoreFault
  state_part k = unless (not (is_free (state_of p k))) (WrongState k)

  state_none : (k : ℕ) → state_part k ≡ None → Busy p k
  state_none k e = sym (busy_state (cell p k) (has k p.order)) ∙ unless_none (not (is_free (state_of p k))) (WrongState k) e

  none_state : (k : ℕ) → Busy p k → state_part k ≡ None
  none_state k b = or_right_none (range_fault p k) (state_part k) (busy_accepted p k b)

  module _ (n m : ℕ) where
    abbrev reads : Bool
    reads = has n (operands (at p m))

    abbrev last : Option StoreFault
    last = unless (not (eqb m n) && not reads) (BadOperand m)

    abbrev second : Option StoreFault
    second = option_or (state_part m) last

    abbrev first : Option StoreFault
    first = option_or (state_part n) second

    replace_can : replace_fault p n m ≡ None → Replaceable p n m
    replace_can e =
        let e1 : first ≡ None = or_right_none (range_fault p m) first (or_right_none (range_fault p n) (option_or (range_fault p m) first) e) in
        let e2 : second ≡ None = or_right_none (state_part n) second e1 in
        let h = and_parts (not (eqb m n)) (not reads) (unless_none (not (eqb m n) && not reads) (BadOperand m) (or_right_none (state_part m) last e2)) in
        record {
          busy_n = state_none n (or_left_none (state_part n) second e1);
          busy_m = state_none m (or_left_none (state_part m) last e2);
          other = eqb-false m n (not-true (eqb m n) h.0);
          reads_not = operands_from (at p m) n (reads_out (at p m) n (not-true reads h.1));
        }

    can_replace : Replaceable p n m → replace_fault p n m ≡ None
    can_replace c =
        let apart : In n (operands (at p m)) → ⊥
        = λ h. let q = in_nth n (operands (at p m)) h in operand_at (λ k. k ≡ n → ⊥) (at p m) (suc q.0) n c.reads_not q.1 refl in
        or_none_both (range_fault p n) (option_or (range_fault p m) first) (none_range p n (busy_inside p n c.busy_n))
        (or_none_both (range_fault p m) first (none_range p m (busy_inside p m c.busy_m))
        (or_none_both (state_part n) second (none_state n c.busy_n)
        (or_none_both (state_part m) last (none_state m c.busy_m)
        (unless_true (not (eqb m n) && not reads) (BadOperand m)
        (and_from (not (eqb m n)) (not reads) (not_from_false (eqb m n) (ne_eqb m n c.other))
        (not_from_false reads (out_has n (operands (at p m)) apart)))))))

pub replace_accepted : ReplaceAccepted
replace_accepted p n m = (replace_can p n m, can_replace p n m)

-- ---- one use

module _ (p : Program) (n m : ℕ) (y : ℕ × ℕ) (t : Proper p) (c : Replaceable p n m) (it : Use p n y) where
  abbrev u : ℕ
  u = y.0

  abbrev k : ℕ
  k = y.1

  abbrev old : Instr
  old = at p u

  abbrev new : Instr
  new = swap_at k m old

  abbrev q : Program
  q = put p u (Some new)

  busy_u : Busy p u
  busy_u = ap busy it.is

  inside_u : u < size p
  inside_u = busy_inside p u busy_u

  reads_n : position old k ≡ Some n
  reads_n = use_reads p n y it

  m_not_u : m ≡ u → ⊥
  m_not_u e = operand_at (λ j. j ≡ n → ⊥) (at p m) k n c.reads_not (ap (λ w. position (at p w) k) e ∙ reads_n) refl

  new_shapely : Shapely new
  new_shapely = swap_shapely old n m (t.shaped u) k reads_n

  new_apart : Operands new (λ j. Busy p j × (j ≡ u → ⊥))
  new_apart = swap_each (λ j. Busy p j × (j ≡ u → ⊥)) k m old (t.tied u) (c.busy_m, m_not_u)

  accepted_swap : rewrite_fault p u new ≡ None
  accepted_swap = ((commands_accepted p).rewrite u new).1 (record { was_busy = busy_u; apart = new_apart })

  same_cells : map (rename_cell n m) (set p.cells u (Some new)) ≡ map (rename_cell n m) p.cells
  same_cells =
      let cs = map (rename_cell n m) p.cells in
      map-set (rename_cell n m) p.cells u (Some new)
      ∙ (ap (set cs u)
      (ap Some (rename_swap n m old k reads_n)
      ∙ (sym (ap (rename_cell n m) (busy_is (cell p u) busy_u)) ∙ sym (get_or-map (rename_cell n m) p.cells u None)))
      ∙ set-get_or cs u None)

  still_replaceable : Replaceable q n m
  still_replaceable =
      let up : (j : ℕ) → Busy p j → Busy q j = still_busy p t u inside_u new new_shapely new_apart in
      record {
        busy_n = up n c.busy_n;
        busy_m = up m c.busy_m;
        other = c.other;
        reads_not = subst (λ x. Operands (held x) (λ j. j ≡ n → ⊥)) (sym (get_or-set_other p.cells u m (Some new) None m_not_u)) c.reads_not;
      }

  -- the uses that are left are the others
  less : (w j : ℕ) → position (at q w) j ≡ Some n → (position (at p w) j ≡ Some n) × ((w, j) ≡ y → ⊥)
  less =
      set_case p.cells u (Some new) (λ w x. (j : ℕ) → position (held x) j ≡ Some n → (position (at p w) j ≡ Some n) × ((w, j) ≡ y → ⊥)) inside_u
      (λ j e.
      let apart : j ≡ k → ⊥
      = λ g. let s : Some m ≡ Some n = sym (swap_same old n m k reads_n) ∙ (ap (position new) (sym g) ∙ e) in c.other (cc) in
      (sym (swap_other old n m k j reads_n apart) ∙ e, λ g. apart (ap (λ x. x.1) g)))
      (λ w d j e. (e, λ g. d (ap (λ x. x.0) g)))

  more : (w j : ℕ) → position (at p w) j ≡ Some n → ((w, j) ≡ y → ⊥) → position (at q w) j ≡ Some n
  more =
      set_case p.cells u (Some new) (λ w x. (j : ℕ) → position (at p w) j ≡ Some n → ((w, j) ≡ y → ⊥) → position (held x) j ≡ Some n) inside_u
      (λ j e d. swap_other old n m k j reads_n (λ g. d (ap (λ x. (u, x)) g)) ∙ e) (λ w d j e g. e)

  left_uses : (ys : List (ℕ × ℕ)) → uses p n ≡ y ∷ ys → uses q n ≡ ys
  left_uses ys e =
      let up : Ascending (y ∷ ys) = subst Ascending e (from_ascends n 0 p.cells) in
      ascending_one (uses q n) ys (from_ascends n 0 q.cells) up.1
      (λ z h.
      let l = less z.0 z.1 (use_reads q n z (in_uses q n z h)) in
      ⊎_elim (λ g. absurd (l.1 (sym g))) (λ g. g) (subst (Among z) e (uses_in p n z (reads_use p n z l.0))))
      (λ z h.
      uses_in q n z
      (reads_use q n z
      (more z.0 z.1 (use_reads p n z (in_uses p n z (subst (Among z) (sym e) (inr h))))
      (λ g. not_itself y z (all_among (Precedes y) z ys up.0 h) (sym g)))))

  one_swap : (ys : List (ℕ × ℕ)) → uses p n ≡ y ∷ ys → OneSwap p n m y ys
  one_swap ys e =
      let is : after p (swap p m y) ≡ q = settles (rewrite_fault p u new) q p accepted_swap in
      record {
        fair = new_shapely;
        accepted = accepted_swap;
        left = ap (λ x. uses x n) is ∙ left_uses ys e;
        same = ap (replace n m) is ∙ ap (λ cs. record { cells = cs; order = p.order }) same_cells;
        still = subst (λ x. Replaceable x n m) (sym is) still_replaceable;
      }

pub replace_step : ReplaceStep
replace_step p n m y ys t c e = one_swap p n m y t c (in_uses p n y (subst (Among y) (sym e) (inl refl))) ys e

-- ---- all of them

replaced :
    (p : Program) (n m : ℕ) (ys : List (ℕ × ℕ)) → Proper p → Replaceable p n m → uses p n ≡ ys
    → Proper (replace n m p) × (uses (replace n m p) n ≡ [])
replaced p n m [] t c e = subst (λ q. Proper q × (uses q n ≡ [])) (sym (replace_end p n m e)) (t, e)
replaced p n m (y ∷ ys) t c e =
    let s = replace_step p n m y ys t c e in
    let q : Program = after p (swap p m y) in
    subst (λ x. Proper x × (uses x n ≡ [])) s.same (replaced q n m ys (edits_keep_proper p (swap p m y) t s.fair) s.still s.left)

pub replace_law : ReplaceLaw
replace_law p n m t e = replaced p n m (uses p n) t (replace_can p n m e) refl

-- The commands keep a program proper.
use Rattle.std.proofs.Common.{◌≡◌, ℕ, zero, suc, ◌<◌, ◌≤◌, Bool, true, false, not, ◌&&◌, eqb, ◌⊎◌, List, [], ◌∷◌, length, get_or, set, replicate, Some, None, Option, sym, refl, ap, ◌∙◌, subst, inl, inr, ⊎_elim, arith}
use mathlib.Core.Bool.{false≢true}
use Rattle.std.specs.List.{insert, remove}
use Rattle.std.proofs.lemmas.Bool.{cases_eq, and_parts, and_from, not-true, not_from_false, eqb-false, ne_eqb}
use Rattle.std.proofs.lemmas.List.{get_or-set_same, get_or-set_other, length-set, length-replicate}
use Rattle.ir.specs.Instructions.{Instr, Shapely, constant_of}
use Rattle.program.specs.declared.fault.StoreFault.{StoreFault}
use Rattle.program.specs.Programs.{Program, Cell, size, cell, busy, Busy, held, at, index_of, In, Distinct, takes, Operands, new_program}
use Rattle.program.specs.Uses.{Use}
use Rattle.program.specs.Faults.{make_fault, link_fault, placed_fault, unmake_fault, rewrite_fault}
use Rattle.program.specs.Commands.{put, reorder, settled, anchor_place}
use Rattle.program.specs.Proper.{Proper, fits?, tied?, Tied}
use Rattle.program.specs.Laws.{Kept, CommandsKeepProper, NewIsProper}
use Rattle.program.proofs.Accepting.{commands_accepted, busy_inside}
use Rattle.program.proofs.Operands.{operands_map, operands_both, operands_from, no_operands}

pub zero_shapely : Shapely (constant_of 0)
zero_shapely = (omega arith, λ h. refl, λ h. refl, λ h. refl)

-- ---- one cell changed

pub set_case :
    (cs : List Cell) (n : ℕ) (o : Cell) (P : ℕ → Cell → Type 0) → n < length cs → P n o
    → ((k : ℕ) → (k ≡ n → ⊥) → P k (get_or cs k None)) → (k : ℕ) → P k (get_or (set cs n o) k None)
set_case cs n o P l here else k =
    ⊎_elim
    (λ e. subst (λ m. P m (get_or (set cs n o) m None)) (sym e) (subst (P n) (sym (get_or-set_same cs n o None l)) here))
    (λ d. subst (P k) (sym (get_or-set_other cs n k o None d)) (else k d)) (cases_eq k n)

module _ (p : Program) (t : Proper p) (n : ℕ) (l : n < size p) where
  few_put : (c : Cell) → size (put p n c) ≤ 1024
  few_put c = subst (λ m. m ≤ 1024) (sym (length-set p.cells n c)) t.few

  -- a record at n
  module _ (i : Instr) (s : Shapely i) (o : Operands i (λ m. Busy p m × (m ≡ n → ⊥))) where
    pub still_busy : (k : ℕ) → Busy p k → Busy (put p n (Some i)) k
    still_busy = set_case p.cells n (Some i) (λ k c. Busy p k → busy c ≡ true) l (λ h. refl) (λ k d h. h)

    pub filled_proper : Proper (put p n (Some i))
    filled_proper =
        record {
          few = few_put (Some i);
          distinct = t.distinct;
          placed = λ k h. still_busy k (t.placed k h);
          shaped = set_case p.cells n (Some i) (λ k c. Shapely (held c)) l s (λ k d. t.shaped k);
          tied = set_case p.cells n (Some i) (λ k c. Operands (held c) (λ m. Busy (put p n (Some i)) m × (m ≡ k → ⊥))) l
              (operands_map i (λ m. Busy p m × (m ≡ n → ⊥)) (λ m. Busy (put p n (Some i)) m × (m ≡ n → ⊥)) (λ m h. (still_busy m h.0, h.1)) o)
              (λ k d.
              operands_map (at p k) (λ m. Busy p m × (m ≡ k → ⊥)) (λ m. Busy (put p n (Some i)) m × (m ≡ k → ⊥)) (λ m h. (still_busy m h.0, h.1))
              (t.tied k));
        }

  -- nothing at n
  module _ (loose : In n p.order → ⊥) (un : (k : ℕ) → Operands (at p k) (λ m. m ≡ n → ⊥)) where
    busy_apart : (k : ℕ) → Busy p k → (k ≡ n → ⊥) → Busy (put p n None) k
    busy_apart k b d = ap busy (get_or-set_other p.cells n k None None d) ∙ b

    emptied_proper : Proper (put p n None)
    emptied_proper =
        record {
          few = few_put None;
          distinct = t.distinct;
          placed = λ k h. busy_apart k (t.placed k h) (λ e. loose (subst (λ m. In m p.order) e h));
          shaped = set_case p.cells n None (λ k c. Shapely (held c)) l zero_shapely (λ k d. t.shaped k);
          tied = set_case p.cells n None (λ k c. Operands (held c) (λ m. Busy (put p n None) m × (m ≡ k → ⊥))) l
              (no_operands (λ m. Busy (put p n None) m × (m ≡ n → ⊥)))
              (λ k d.
              operands_both (at p k) (λ m. Busy p m × (m ≡ k → ⊥)) (λ m. m ≡ n → ⊥) (λ m. Busy (put p n None) m × (m ≡ k → ⊥))
              (λ m h e. (busy_apart m h.0 e, h.1)) (t.tied k) (un k));
        }

-- an instruction that is no user of n does not read it
pub never_read : (p : Program) (n : ℕ) → ((y : ℕ × ℕ) → Use p n y → ⊥) → (k : ℕ) → Operands (at p k) (λ m. m ≡ n → ⊥)
never_read p n f k = by_cell (cell p k) refl
  where
    by_cell : (c : Cell) → cell p k ≡ c → Operands (held c) (λ m. m ≡ n → ⊥)
    by_cell None e = no_operands (λ m. m ≡ n → ⊥)
    by_cell (Some i) e = operands_from i n (λ j r. f (k, j) (record { user = i; is = e; reads = r }))

-- ---- the order changed

pub in_inserted : (k n i : ℕ) (xs : List ℕ) → In k (insert xs i n) → (n ≡ k) ⊎ In k xs
in_inserted k n zero xs h = h
in_inserted k n (suc i) [] h = h
in_inserted k n (suc i) (x ∷ xs) h =
    ⊎_elim (λ q. inr (inl q)) (λ q. ⊎_elim (λ z. inl z) (λ z. inr (inr z)) (in_inserted k n i xs q)) h

pub distinct_inserted : (n i : ℕ) (xs : List ℕ) → Distinct xs → (In n xs → ⊥) → Distinct (insert xs i n)
distinct_inserted n zero xs d h = (h, d)
distinct_inserted n (suc i) [] d h = (h, d)
distinct_inserted n (suc i) (x ∷ xs) d h =
    (λ q. ⊎_elim (λ z. h (inl (sym z))) (λ z. d.0 z) (in_inserted x n i xs q), distinct_inserted n i xs d.1 (λ q. h (inr q)))

pub in_removed : (k i : ℕ) (xs : List ℕ) → In k (remove xs i) → In k xs
in_removed k zero [] h = h
in_removed k zero (x ∷ xs) h = inr h
in_removed k (suc i) [] h = h
in_removed k (suc i) (x ∷ xs) h = ⊎_elim (λ q. inl q) (λ q. inr (in_removed k i xs q)) h

pub distinct_removed : (i : ℕ) (xs : List ℕ) → Distinct xs → Distinct (remove xs i)
distinct_removed zero [] d = d
distinct_removed zero (x ∷ xs) d = d.1
distinct_removed (suc i) [] d = d
distinct_removed (suc i) (x ∷ xs) d = (λ q. d.0 (in_removed x i xs q), distinct_removed i xs d.1)

pub linked_proper : (p : Program) (n i : ℕ) → Proper p → Busy p n → (In n p.order → ⊥) → Proper (reorder p (insert p.order i n))
linked_proper p n i t b d =
    record {
      few = t.few;
      distinct = distinct_inserted n i p.order t.distinct d;
      placed = λ k h. ⊎_elim (λ q. subst (Busy p) q b) (λ q. t.placed k q) (in_inserted k n i p.order h);
      shaped = t.shaped;
      tied = t.tied;
    }

pub unlinked_proper : (p : Program) (i : ℕ) → Proper p → Proper (reorder p (remove p.order i))
unlinked_proper p i t =
    record {
      few = t.few;
      distinct = distinct_removed i p.order t.distinct;
      placed = λ k h. t.placed k (in_removed k i p.order h);
      shaped = t.shaped;
      tied = t.tied;
    }

-- ---- the commands

settled_both : (o : Option StoreFault) (a b : Program) (P : Program → Type 0) → (o ≡ None → P a) → P b → P (settled o a b)
settled_both None a b P f h = f refl
settled_both (Some g) a b P f h = h

module _ (p : Program) (t : Proper p) where
  kept : Kept p
  kept =
      let a = commands_accepted p in
      record {
        by_make = λ n i s.
            settled_both (make_fault p n i) (put p n (Some i)) p Proper
            (λ e. let c = (a.make n i).0 e in filled_proper p t n c.inside i s c.apart) t;
        by_link = λ n x.
            settled_both (link_fault p n x) (reorder p (insert p.order (anchor_place p x) n)) p Proper
            (λ e. let c = (a.link n x).0 e in linked_proper p n (anchor_place p x) t c.was_busy c.loose) t;
        by_unlink = λ n.
            settled_both (placed_fault p n) (reorder p (remove p.order (index_of n p.order))) p Proper
            (λ e. unlinked_proper p (index_of n p.order) t) t;
        by_unmake = λ n.
            settled_both (unmake_fault p n) (put p n None) p Proper
            (λ e. let c = (a.unmake n).0 e in emptied_proper p t n (busy_inside p n c.was_busy) c.loose (never_read p n c.unread)) t;
        by_rewrite = λ n i s.
            settled_both (rewrite_fault p n i) (put p n (Some i)) p Proper
            (λ e. let c = (a.rewrite n i).0 e in filled_proper p t n (busy_inside p n c.was_busy) i s c.apart) t;
      }

pub commands_keep_proper : CommandsKeepProper
commands_keep_proper p t = kept p t

-- ---- the new program

all_free : (n k : ℕ) → ◌≡◌ {A = Cell} (get_or (replicate n None) k None) None
all_free zero k = refl
all_free (suc n) zero = refl
all_free (suc n) (suc k) = all_free n k

pub new_is_proper : NewIsProper
new_is_proper n h =
    record {
      few = subst (λ m. m ≤ 1024) (sym (length-replicate n None)) h;
      distinct = tt;
      placed = λ k i. absurd i;
      shaped = λ k. subst (λ c. Shapely (held c)) (sym (all_free n k)) zero_shapely;
      tied = λ k. subst (λ c. Operands (held c) (λ j. Busy (new_program n) j × (j ≡ k → ⊥))) (sym (all_free n k)) (no_operands (λ j. Busy (new_program n) j × (j ≡ k → ⊥)));
    }

-- ---- as a test

fits_true : (p : Program) (k : ℕ) (h : Bool) (j : ℕ) → fits? p k h j ≡ true → h ≡ true → Busy p j × (j ≡ k → ⊥)
fits_true p k true j e t = let q = and_parts (busy (cell p j)) (not (eqb j k)) e in (q.0, eqb-false j k (not-true (eqb j k) q.1))
fits_true p k false j e t = absurd (false≢true t)

true_fits : (p : Program) (k : ℕ) (h : Bool) (j : ℕ) → (h ≡ true → Busy p j × (j ≡ k → ⊥)) → fits? p k h j ≡ true
true_fits p k true j f = and_from (busy (cell p j)) (not (eqb j k)) (f refl).0 (not_from_false (eqb j k) (ne_eqb j k (f refl).1))
true_fits p k false j f = refl

module _ (p : Program) (k : ℕ) where
  abbrev fa : Bool
  fa = fits? p k (takes 0 (at p k).op) (at p k).a

  abbrev fb : Bool
  fb = fits? p k (takes 1 (at p k).op) (at p k).b

  abbrev fc : Bool
  fc = fits? p k (takes 2 (at p k).op) (at p k).c

  tied_true : tied? p k ≡ true → Operands (at p k) (λ j. Busy p j × (j ≡ k → ⊥))
  tied_true e =
      let q = and_parts fa (fb && fc) e in
      let r = and_parts fb fc q.1 in (
        fits_true p k (takes 0 (at p k).op) (at p k).a q.0,
        fits_true p k (takes 1 (at p k).op) (at p k).b r.0,
        fits_true p k (takes 2 (at p k).op) (at p k).c r.1,
      )

  true_tied : Operands (at p k) (λ j. Busy p j × (j ≡ k → ⊥)) → tied? p k ≡ true
  true_tied o =
      and_from fa (fb && fc) (true_fits p k (takes 0 (at p k).op) (at p k).a o.0)
      (and_from fb fc (true_fits p k (takes 1 (at p k).op) (at p k).b o.1) (true_fits p k (takes 2 (at p k).op) (at p k).c o.2))

-- the test says just that no operand is free or the instruction itself
pub tied_from : (p : Program) → Tied p → (k : ℕ) → Operands (at p k) (λ m. Busy p m × (m ≡ k → ⊥))
tied_from p t k = tied_true p k (t k)

pub tied_test : (p : Program) → Proper p → Tied p
tied_test p t k = true_tied p k (t.tied k)

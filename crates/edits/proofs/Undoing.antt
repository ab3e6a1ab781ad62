-- The opposite of an accepted edit brings the program back.
use Rattle.std.proofs.Common.{◌≡◌, ℕ, ◌<◌, true, false, List, set, Some, None, Option, sym, refl, ap, ◌∙◌, subst, add-one}
use mathlib.Core.Bool.{false≢true}
use Rattle.std.specs.List.{insert, remove, slice_get}
use Rattle.std.proofs.lemmas.Bool.{both_ways}
use Rattle.std.proofs.lemmas.List.{get_or-set_same, get_or-set_other, length-set, set-set, set-get_or}
use Rattle.ir.specs.Instructions.{Instr, Shapely}
use Rattle.program.specs.Programs.{Program, Cell, size, cell, busy, Busy, held, at, index_of, Operands}
use Rattle.program.specs.Faults.{make_fault, link_fault, placed_fault, unmake_fault, rewrite_fault}
use Rattle.program.specs.Commands.{put, reorder, anchor_place}
use Rattle.program.specs.Readings.{next_of}
use Rattle.program.specs.Proper.{Proper}
use Rattle.program.specs.Laws.{CanMake, CanRewrite, Anchored, CanLink, CanUnlink, CanUnmake}
use Rattle.program.proofs.Faults.{settles}
use Rattle.program.proofs.Operands.{operands_map}
use Rattle.program.proofs.Accepting.{commands_accepted, busy_inside}
use Rattle.program.proofs.Keeping.{commands_keep_proper, set_case, still_busy, unlinked_proper}
use Rattle.edits.specs.Commands.{Edit, make, link, unlink, unmake, rewrite, fault_of, after, opposite, Fair, Undone, EditsUndone, EditsKeepProper}
use Rattle.edits.proofs.Moves.{in_inserted_here, taken_out, put_back, out_then, Stands, next_stands}
use Rattle.program.proofs.Positions.{no_use}

free_is : (c : Cell) → busy c ≡ false → c ≡ None
free_is None e = refl
free_is (Some i) e = absurd (false≢true (sym e))

pub busy_is : (c : Cell) → busy c ≡ true → c ≡ Some (held c)
busy_is None e = absurd (false≢true e)
busy_is (Some i) e = refl

anchored_there :
    (p : Program) (o : Option ℕ) (i : ℕ) → Proper p → Stands o p.order i → Anchored p o × (anchor_place p o ≡ i)
anchored_there p None i t h = (tt, h)
anchored_there p (Some s) i t h = ((t.placed s h.0, h.0), h.1)

module _ (p : Program) (n : ℕ) where
  -- what was there goes back
  refilled : (c was : Cell) → cell p n ≡ was → put (put p n c) n was ≡ p
  refilled c was e =
      ap (λ cs. record { cells = cs; order = p.order })
      (set-set p.cells n c was ∙ (ap (set p.cells n) (sym e) ∙ set-get_or p.cells n None))

  module _ (t : Proper p) where
    can_unmake : (i : Instr) → CanMake p n i → CanUnmake (put p n (Some i)) n
    can_unmake i c =
        record {
          was_busy = ap busy (get_or-set_same p.cells n (Some i) None c.inside);
          loose = λ h. both_ways (busy (cell p n)) c.was_free (t.placed n h);
          unread = no_use (put p n (Some i)) n
              (set_case p.cells n (Some i) (λ k x. Operands (held x) (λ m. m ≡ n → ⊥)) c.inside
              (operands_map i (λ m. Busy p m × (m ≡ n → ⊥)) (λ m. m ≡ n → ⊥) (λ m h. h.1) c.apart)
              (λ k d.
              operands_map (at p k) (λ m. Busy p m × (m ≡ k → ⊥)) (λ m. m ≡ n → ⊥)
              (λ m h e. both_ways (busy (cell p n)) c.was_free (subst (Busy p) e h.0)) (t.tied k)));
        }

    can_make : CanUnmake p n → CanMake (put p n None) n (at p n)
    can_make c =
        let l : n < size p = busy_inside p n c.was_busy in
        record {
          inside = subst (λ m. n < m) (sym (length-set p.cells n None)) l;
          was_free = ap busy (get_or-set_same p.cells n None None l);
          apart = operands_map (at p n) (λ m. Busy p m × (m ≡ n → ⊥)) (λ m. Busy (put p n None) m × (m ≡ n → ⊥))
              (λ m h. (ap busy (get_or-set_other p.cells n m None None h.1) ∙ h.0, h.1)) (t.tied n);
        }

    can_rewrite : (i : Instr) → Shapely i → CanRewrite p n i → CanRewrite (put p n (Some i)) n (at p n)
    can_rewrite i s c =
        let l : n < size p = busy_inside p n c.was_busy in
        record {
          was_busy = ap busy (get_or-set_same p.cells n (Some i) None l);
          apart = operands_map (at p n) (λ m. Busy p m × (m ≡ n → ⊥)) (λ m. Busy (put p n (Some i)) m × (m ≡ n → ⊥))
              (λ m h. (still_busy p t n l i s c.apart m h.0, h.1)) (t.tied n);
        }

    abbrev place : ℕ
    place = index_of n p.order

    abbrev rest : List ℕ
    rest = remove p.order place

    -- what stood behind n is its anchor
    anchor : CanUnlink p n → Anchored (reorder p rest) (next_of p n) × (anchor_place (reorder p rest) (next_of p n) ≡ place)
    anchor c =
        anchored_there (reorder p rest) (next_of p n) place (unlinked_proper p place t)
        (subst (λ k. Stands (slice_get p.order k) rest place) (sym (add-one place)) (next_stands n p.order t.distinct c.placed))

    can_link : CanUnlink p n → CanLink (reorder p rest) n (next_of p n)
    can_link c = record { was_busy = c.was_busy; loose = out_then n p.order t.distinct; anchored = (anchor c).0 }

    linked_back : CanUnlink p n → insert rest (anchor_place (reorder p rest) (next_of p n)) n ≡ p.order
    linked_back c = ap (λ i. insert rest i n) (anchor c).1 ∙ put_back n p.order c.placed

-- the edit leads to q, and its opposite from there to p
undone_by :
    (p : Program) (e : Edit) (q : Program) → after p e ≡ q → Fair (opposite p e) → fault_of q (opposite p e) ≡ None
    → after q (opposite p e) ≡ p → Undone p e
undone_by p e q is f a b =
    record {
      fair = f;
      accepted = ap (λ x. fault_of x (opposite p e)) is ∙ a;
      back = ap (λ x. after x (opposite p e)) is ∙ b;
    }

pub edits_undone : EditsUndone
edits_undone p (make n i) t s e =
    let c = ((commands_accepted p).make n i).0 e in
    let q : Program = put p n (Some i) in
    let a : unmake_fault q n ≡ None = ((commands_accepted q).unmake n).1 (can_unmake p n t i c) in
    undone_by p (make n i) q (settles (make_fault p n i) q p e) tt a
    (settles (unmake_fault q n) (put q n None) q a ∙ refilled p n (Some i) None (free_is (cell p n) c.was_free))
edits_undone p (link n o) t s e =
    let c = ((commands_accepted p).link n o).0 e in
    let i : ℕ = anchor_place p o in
    let q : Program = reorder p (insert p.order i n) in
    let a : placed_fault q n ≡ None = ((commands_accepted q).unlink n).1 (record { was_busy = c.was_busy; placed = in_inserted_here n i p.order }) in
    undone_by p (link n o) q (settles (link_fault p n o) q p e) tt a
    (settles (placed_fault q n) (reorder q (remove q.order (index_of n q.order))) q a ∙ ap (reorder p) (taken_out n i p.order c.loose))
edits_undone p (unlink n) t s e =
    let c = ((commands_accepted p).unlink n).0 e in
    let o : Option ℕ = next_of p n in
    let q : Program = reorder p (remove p.order (index_of n p.order)) in
    let a : link_fault q n o ≡ None = ((commands_accepted q).link n o).1 (can_link p n t c) in
    undone_by p (unlink n) q (settles (placed_fault p n) q p e) tt a
    (settles (link_fault q n o) (reorder q (insert q.order (anchor_place q o) n)) q a ∙ ap (reorder p) (linked_back p n t c))
edits_undone p (unmake n) t s e =
    let c = ((commands_accepted p).unmake n).0 e in
    let i : Instr = at p n in
    let q : Program = put p n None in
    let a : make_fault q n i ≡ None = ((commands_accepted q).make n i).1 (can_make p n t c) in
    undone_by p (unmake n) q (settles (unmake_fault p n) q p e) (t.shaped n) a
    (settles (make_fault q n i) (put q n (Some i)) q a ∙ refilled p n None (Some i) (busy_is (cell p n) c.was_busy))
edits_undone p (rewrite n i) t s e =
    let c = ((commands_accepted p).rewrite n i).0 e in
    let j : Instr = at p n in
    let q : Program = put p n (Some i) in
    let a : rewrite_fault q n j ≡ None = ((commands_accepted q).rewrite n j).1 (can_rewrite p n t i s c) in
    undone_by p (rewrite n i) q (settles (rewrite_fault p n i) q p e) (t.shaped n) a
    (settles (rewrite_fault q n j) (put q n (Some j)) q a ∙ refilled p n (Some i) (Some j) (busy_is (cell p n) c.was_busy))

pub edits_keep_proper : EditsKeepProper
edits_keep_proper p (make n i) t s = (commands_keep_proper p t).by_make n i s
edits_keep_proper p (link n o) t s = (commands_keep_proper p t).by_link n o
edits_keep_proper p (unlink n) t s = (commands_keep_proper p t).by_unlink n
edits_keep_proper p (unmake n) t s = (commands_keep_proper p t).by_unmake n
edits_keep_proper p (rewrite n i) t s = (commands_keep_proper p t).by_rewrite n i s

-- A write to a cell that keeps its rank: make, unmake and rewrite.
use Rattle.std.proofs.Common.{◌≡◌, ℕ, ◌<◌, List, map, length, get_or, set, Some, None, Option, sym, ap, ◌∙◌, subst, ⊎_elim, arith}
use Rattle.std.proofs.lemmas.List.{get_or-set_same, get_or-set_other, length-set, map-set}
use Rattle.std.proofs.lemmas.Bool.{cases_eq}
use Rattle.ir.specs.declared.instruction.Record.{Record}
use Rattle.ir.specs.Instructions.{plain}
use Rattle.program.specs.declared.fault.StoreFault.{StoreFault}
use Rattle.program.specs.Programs.{Program, program_of}
use Rattle.program.specs.Faults.{make_fault, unmake_fault, rewrite_fault}
use Rattle.program.specs.Commands.{put, settled, after_make, after_unmake, after_rewrite}
use Rattle.flat.specs.declared.cells.FlatCell.{FlatCell}
use Rattle.flat.specs.declared.cells.FlatCell.TheVariants.{Vacant, Idle}
use Rattle.flat.specs.FlatModel.{content, rank_of, weight, order_of, rank_at, flat_program, Sound}
use Rattle.flat.proofs.Accepted.{After, accepted, make_within, make_rank, unmake_within, unmake_rank, rewrite_within}
use Rattle.flat.proofs.Moving.{count_set}
use Rattle.flat.proofs.Orders.{Ordered, ordered_from_sound, order_unique, sound_from_ordered}

module _ (xs : List FlatCell) (n : ℕ) (x : FlatCell) (within : n < length xs) (same : rank_of x ≡ rank_at xs n) where
  rank_kept : (m : ℕ) → rank_at (set xs n x) m ≡ rank_at xs m
  rank_kept m =
      ⊎_elim
      (λ e. ap (λ k. rank_at (set xs n x) k) e ∙ ap rank_of (get_or-set_same xs n x Vacant within) ∙ same ∙ ap (λ k. rank_at xs k) (sym e))
      (λ ne. ap rank_of (get_or-set_other xs n m x Vacant ne))
      (cases_eq m n)

  ordered_kept : (o : List ℕ) → Ordered xs o → Ordered (set xs n x) o
  ordered_kept o is = record {
    count = let k = is.count in let c = count_set xs n x within in let w : weight (rank_of x) ≡ weight (rank_at xs n) = ap weight same in omega arith;
    low = λ m r e. is.low m r (sym (rank_kept m) ∙ e);
    ranked = λ m r e. is.ranked m r (sym (rank_kept m) ∙ e);
    placed = λ j h. rank_kept (get_or o j 0) ∙ is.placed j h;
  }

  sound_kept : Sound xs → Sound (set xs n x)
  sound_kept s =
      let l = length-set xs n x in
      let f = s.few in
      sound_from_ordered (set xs n x) (order_of xs) (ordered_kept (order_of xs) (ordered_from_sound xs s)) (omega arith)

  program_kept : Sound xs → flat_program (set xs n x) ≡ put (flat_program xs) n (content x)
  program_kept s =
      let o = order_unique (set xs n x) (order_of xs) (ordered_kept (order_of xs) (ordered_from_sound xs s)) in
      let c = map-set content xs n x in
      ap (λ cs. program_of cs (order_of (set xs n x))) c ∙ ap (λ os. program_of (set (map content xs) n (content x)) os) o

  written : Sound xs → (f : Option StoreFault) → f ≡ None → After (set xs n x) (settled f (put (flat_program xs) n (content x)) (flat_program xs))
  written s f none = accepted f (set xs n x) (put (flat_program xs) n (content x)) (flat_program xs) none (program_kept s) (sound_kept s)

-- the cells after a command that the checks allow
module _ (xs : List FlatCell) (s : Sound xs) (n : ℕ) where
  abbrev p : Program
  p = flat_program xs

  pub made : (what : Record) → make_fault p n (plain what) ≡ None → After (set xs n (Idle what)) (after_make p n (plain what))
  made what none = written xs n (Idle what) (make_within xs n (plain what) none) (sym (make_rank xs n (plain what) none)) s (make_fault p n (plain what)) none

  pub unmade : unmake_fault p n ≡ None → After (set xs n Vacant) (after_unmake p n)
  unmade none = written xs n Vacant (unmake_within xs n none) (sym (unmake_rank xs n s none)) s (unmake_fault p n) none

  pub rewritten :
      (what : Record) → rewrite_fault p n (plain what) ≡ None → (old x : FlatCell) → old ≡ get_or xs n Vacant → content x ≡ Some (plain what) → rank_of x ≡ rank_of old
      → After (set xs n x) (after_rewrite p n (plain what))
  rewritten what none old x is new same =
      subst (λ o. After (set xs n x) (settled (rewrite_fault p n (plain what)) (put p n o) p)) new
      (written xs n x (rewrite_within xs n (plain what) none) (same ∙ ap rank_of is) s (rewrite_fault p n (plain what)) none)

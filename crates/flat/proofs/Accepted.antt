-- What an accepted command or reading says of its number's cell, and of the program after it.
use Rattle.std.proofs.Common.{◌≡◌, ℕ, ◌<◌, true, false, not, List, length, get_or, Some, None, Option, Result, sym, refl, ap, ◌∙◌, arith}
use Rattle.std.proofs.lemmas.List.{length-map}
use Rattle.std.specs.Option.{option_map, option_or, ok_or}
use Rattle.std.specs.Result.{result_map_both}
use Rattle.ir.specs.declared.instruction.Record.{Record}
use Rattle.ir.specs.Instructions.{Instr, plain}
use Rattle.program.specs.declared.fault.StoreFault.{StoreFault}
use Rattle.program.specs.declared.fault.StoreFault.TheVariants.{WrongState}
use Rattle.program.specs.Programs.{Program, size, cell, busy, Busy, held, at, In, index_of, has, is_free, state_of}
use Rattle.program.specs.Faults.{unless, range_fault, make_fault, rewrite_fault, placed_fault, unmake_fault}
use Rattle.program.specs.Commands.{settled}
use Rattle.program.specs.Readings.{answered, read_answer}
use Rattle.program.proofs.Accepting.{commands_accepted, busy_state, busy_inside}
use Rattle.program.proofs.Places.{has_in, in_index}
use Rattle.flat.specs.declared.cells.FlatCell.{FlatCell}
use Rattle.flat.specs.declared.cells.FlatCell.TheVariants.{Vacant, Idle, Ranked}
use Rattle.flat.specs.FlatModel.{content, rank_of, rank_at, order_of, flat_program, Sound}
use Rattle.flat.specs.Keeping.{cell_flat}
use Rattle.flat.proofs.Orders.{index_ranked, index_unranked}
use Rattle.flat.proofs.States.{has_ranked}

-- the cells that a command leaves stand for a program, and are sound
abbrev pub After : List FlatCell → Program → Type 0
After ys p = record { after : flat_program ys ≡ p; sound : Sound ys }

-- with no fault the new program is the one that a command leaves
pub accepted : (f : Option StoreFault) (ys : List FlatCell) (new old : Program) → f ≡ None → flat_program ys ≡ new → Sound ys → After ys (settled f new old)
accepted f ys new old e q s = record { after = q ∙ sym (ap (λ g. settled g new old) e); sound = s }

module _ (xs : List FlatCell) (n : ℕ) where
  abbrev p : Program
  p = flat_program xs

  abbrev here : FlatCell
  here = get_or xs n Vacant

  size_within : n < size p → n < length xs
  size_within h = let l = length-map xs content in omega arith

  pub busy_within : Busy p n → n < length xs
  busy_within b = size_within (busy_inside p n b)

  pub busy_here : Busy p n → busy (content here) ≡ true
  busy_here b = sym (ap busy (cell_flat xs n)) ∙ b

  -- ---- read: in range, and free exactly if the cell has no record

  pub read_held :
      range_fault p n ≡ None → (o : Option Record) → option_map plain o ≡ content here → (r : Result Record StoreFault) → r ≡ ok_or o (WrongState n)
      → result_map_both plain (λ f. f) r ≡ read_answer p n
  read_held none o is r e =
      let by_record : (q : Option Record) → result_map_both plain (λ f. f) (ok_or q (WrongState n)) ≡ answered (unless (busy (option_map plain q)) (WrongState n)) (held (option_map plain q))
      = elim [ None ↦ refl | Some s ↦ refl ]
      in ap (result_map_both plain (λ f. f)) e
      ∙ by_record o
      ∙ ap (λ c. answered (unless (busy c) (WrongState n)) (held c)) (is ∙ sym (cell_flat xs n))
      ∙ ap (λ b. answered (unless b (WrongState n)) (at p n)) (sym (busy_state (cell p n) (has n p.order)))
      ∙ ap (λ f. answered (option_or f (unless (not (is_free (state_of p n))) (WrongState n))) (at p n)) (sym none)

  free_rank : (c : FlatCell) → busy (content c) ≡ false → rank_of c ≡ None
  free_rank Vacant e = refl
  free_rank (Idle r) e = refl
  free_rank (Ranked r k) e = let z : ◌≡◌ {A = ℕ} 0 1 = cc in absurd (omega arith)

  -- ---- make: in range and free

  pub make_within : (i : Instr) → make_fault p n i ≡ None → n < length xs
  make_within i e = size_within (((commands_accepted p).make n i).0 e).inside

  pub make_rank : (i : Instr) → make_fault p n i ≡ None → rank_at xs n ≡ None
  make_rank i e = free_rank here (sym (ap busy (cell_flat xs n)) ∙ (((commands_accepted p).make n i).0 e).was_free)

  -- ---- rewrite: not free

  pub rewrite_within : (i : Instr) → rewrite_fault p n i ≡ None → n < length xs
  rewrite_within i e = busy_within (((commands_accepted p).rewrite n i).0 e).was_busy

  -- ---- unmake: loose, and then there is no rank

  pub out_rank : Sound xs → (In n (order_of xs) → ⊥) → rank_at xs n ≡ None
  out_rank s out =
      let by_rank : (o : Option ℕ) → rank_at xs n ≡ o → o ≡ None
      = elim [ None ↦ (λ e. refl) | Some r ↦ (λ e. absurd (out (has_in n (order_of xs) (has_ranked xs s n r e)))) ]
      in by_rank (rank_at xs n) refl

  pub unmake_within : unmake_fault p n ≡ None → n < length xs
  unmake_within e = busy_within (((commands_accepted p).unmake n).0 e).was_busy

  pub unmake_rank : Sound xs → unmake_fault p n ≡ None → rank_at xs n ≡ None
  unmake_rank s e = out_rank s (((commands_accepted p).unmake n).0 e).loose

  -- ---- unlink: placed, and then the place is the rank

  pub unlink_within : placed_fault p n ≡ None → n < length xs
  unlink_within e = busy_within (((commands_accepted p).unlink n).0 e).was_busy

  pub unlink_rank : Sound xs → placed_fault p n ≡ None → rank_at xs n ≡ Some (index_of n (order_of xs))
  unlink_rank s e =
      let by_rank : (o : Option ℕ) → rank_at xs n ≡ o → o ≡ Some (index_of n (order_of xs))
      = elim [
        | None ↦ (λ q. let i = index_unranked xs s n q in let b = in_index n (order_of xs) (((commands_accepted p).unlink n).0 e).placed in absurd (omega arith))
        | Some r ↦ (λ q. ap Some (sym (index_ranked xs s n r q)))
      ]
      in by_rank (rank_at xs n) refl

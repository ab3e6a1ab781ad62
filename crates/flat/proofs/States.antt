-- The state of a number, from its cell.
use Rattle.std.proofs.Common.{◌≡◌, ℕ, true, false, cond, ltb, List, length, get_or, Some, None, refl, ap, ◌∙◌, arith}
use Rattle.std.proofs.lemmas.List.{length-map}
use Rattle.std.proofs.lemmas.Bool.{lt-ltb, le-ltb}
use Rattle.program.specs.declared.state.State.TheVariants.{Placed, Loose}
use Rattle.program.specs.Programs.{index_of, has, within, state_by, state_of}
use Rattle.program.specs.Readings.{found}
use Rattle.flat.specs.declared.cells.FlatCell.{FlatCell}
use Rattle.flat.specs.declared.cells.FlatCell.TheVariants.{Vacant, Idle, Ranked}
use Rattle.flat.specs.FlatModel.{content, rank_of, rank_at, order_of, flat_program, tag, Sound}
use Rattle.flat.specs.Keeping.{cell_flat, length_order}
use Rattle.flat.proofs.Orders.{index_ranked, index_unranked}

within_flat : (xs : List FlatCell) (n : ℕ) → within (flat_program xs) n ≡ ltb n (length xs)
within_flat xs n = ap (ltb n) (length-map xs content)

module _ (xs : List FlatCell) (s : Sound xs) (n : ℕ) where
  pub has_ranked : (r : ℕ) → rank_at xs n ≡ Some r → has n (order_of xs) ≡ true
  has_ranked r e =
      let i = index_ranked xs s n r e in
      let l = length_order xs in
      let h = s.low n r e in
      lt-ltb (index_of n (order_of xs)) (length (order_of xs)) (omega arith)

  has_unranked : rank_at xs n ≡ None → has n (order_of xs) ≡ false
  has_unranked e =
      let i = index_unranked xs s n e in le-ltb (index_of n (order_of xs)) (length (order_of xs)) (omega arith)

  pub state_flat : state_of (flat_program xs) n ≡ tag (get_or xs n Vacant)
  state_flat =
      let by_cell : (c : FlatCell) → get_or xs n Vacant ≡ c → state_by (content c) (has n (order_of xs)) ≡ tag c
      = elim [
        | Vacant ↦ (λ e. refl)
        | Idle r ↦ (λ e. ap (λ b. cond b Placed Loose) (has_unranked (ap rank_of e)))
        | Ranked r k ↦ (λ e. ap (λ b. cond b Placed Loose) (has_ranked k (ap rank_of e)))
      ]
      in ap (λ o. state_by o (has n (order_of xs))) (cell_flat xs n) ∙ by_cell (get_or xs n Vacant) refl

  pub found_flat : found (flat_program xs) n ≡ cond (ltb n (length xs)) (Some (tag (get_or xs n Vacant))) None
  found_flat = ap (λ b. cond b (Some (state_of (flat_program xs) n)) None) (within_flat xs n) ∙ ap (λ s. cond (ltb n (length xs)) (Some s) None) state_flat

-- Ranks changed in all cells, and then the cell of one number written: link and unlink.
use Rattle.std.proofs.Common.{◌≡◌, ℕ, zero, suc, ◌+◌, ◌<◌, ◌≤◌, ◌≢◌, List, [], ◌∷◌, map, length, get_or, set, Some, None, Option, sym, refl, ap, ◌∙◌, arith}
use Rattle.std.specs.Option.{option_map}
use Rattle.std.proofs.lemmas.List.{get_or-set_same, get_or-set_other, length-set, length-map, map-set, set-get_or}
use Rattle.program.specs.Programs.{program_of}
use Rattle.program.specs.Commands.{reorder}
use Rattle.flat.specs.declared.cells.FlatCell.{FlatCell}
use Rattle.flat.specs.declared.cells.FlatCell.TheVariants.{Vacant, Idle, Ranked}
use Rattle.flat.specs.FlatModel.{content, rank_of, weight, placed_count, order_of, rank_at, flat_program, rerank, Sound}
use Rattle.flat.specs.Keeping.{get_or_map_at}
use Rattle.flat.proofs.Orders.{Ordered, order_unique, sound_from_ordered}

module _ (f : ℕ → ℕ) where
  rerank_rank : (c : FlatCell) → rank_of (rerank f c) ≡ option_map f (rank_of c)
  rerank_rank Vacant = refl
  rerank_rank (Idle r) = refl
  rerank_rank (Ranked r k) = refl

  rerank_content : (c : FlatCell) → content (rerank f c) ≡ content c
  rerank_content Vacant = refl
  rerank_content (Idle r) = refl
  rerank_content (Ranked r k) = refl

  rerank_contents : (xs : List FlatCell) → map content (map (rerank f) xs) ≡ map content xs
  rerank_contents [] = refl
  rerank_contents (x ∷ xs) =
      ap (λ c. c ∷ map content (map (rerank f) xs)) (rerank_content x) ∙ ap (λ cs. content x ∷ cs) (rerank_contents xs)

  weight_mapped : (o : Option ℕ) → weight (option_map f o) ≡ weight o
  weight_mapped None = refl
  weight_mapped (Some k) = refl

  rerank_count : (xs : List FlatCell) → placed_count (map (rerank f) xs) ≡ placed_count xs
  rerank_count [] = refl
  rerank_count (x ∷ xs) =
      let w : weight (rank_of (rerank f x)) ≡ weight (rank_of x) = ap weight (rerank_rank x) ∙ weight_mapped (rank_of x) in
      let e = rerank_count xs in
      omega arith

pub count_set : (xs : List FlatCell) (n : ℕ) (x : FlatCell) → n < length xs → placed_count (set xs n x) + weight (rank_at xs n) ≡ placed_count xs + weight (rank_of x)
count_set [] n x h = absurd (omega arith)
count_set (y ∷ ys) zero x h = omega arith
count_set (y ∷ ys) (suc n) x h = let e = count_set ys n x (omega arith) in omega arith

pub unmapped : (o : Option ℕ) (f : ℕ → ℕ) (r : ℕ) → option_map f o ≡ Some r → (k : ℕ) × (o ≡ Some k) × (f k ≡ r)
unmapped None f r e = let z : ◌≡◌ {A = ℕ} 0 1 = cc in absurd (omega arith)
unmapped (Some k) f r e = (k, refl, cc)

module _ (f : ℕ → ℕ) (xs : List FlatCell) (n : ℕ) (x : FlatCell) (within : n < length xs) where
  abbrev pub moved : List FlatCell
  moved = set (map (rerank f) xs) n x

  long : n < length (map (rerank f) xs)
  long = let l = length-map xs (rerank f) in omega arith

  pub rank_here : rank_at moved n ≡ rank_of x
  rank_here = ap rank_of (get_or-set_same (map (rerank f) xs) n x Vacant long)

  rank_all : (m : ℕ) → rank_at (map (rerank f) xs) m ≡ option_map f (rank_at xs m)
  rank_all m = ap rank_of (get_or_map_at (rerank f) xs m Vacant) ∙ rerank_rank f (get_or xs m Vacant)

  pub rank_else : (m : ℕ) → m ≢ n → rank_at moved m ≡ option_map f (rank_at xs m)
  rank_else m ne = ap rank_of (get_or-set_other (map (rerank f) xs) n m x Vacant ne) ∙ rank_all m

  pub count_moved : placed_count moved + weight (rank_at xs n) ≡ placed_count xs + weight (rank_of x)
  count_moved =
      let c = rerank_count f xs in
      let w : weight (rank_at (map (rerank f) xs) n) ≡ weight (rank_at xs n) = ap weight (rank_all n) ∙ weight_mapped f (rank_at xs n) in
      let e = count_set (map (rerank f) xs) n x long in
      omega arith

  contents_moved : content x ≡ content (get_or xs n Vacant) → map content moved ≡ map content xs
  contents_moved same =
      map-set content (map (rerank f) xs) n x
      ∙ ap (λ cs. set cs n (content x)) (rerank_contents f xs)
      ∙ ap (λ c. set (map content xs) n c) (same ∙ sym (get_or_map_at content xs n Vacant))
      ∙ set-get_or (map content xs) n None

  module _ (o : List ℕ) (is : Ordered moved o) where
    pub sound_moved : length xs ≤ 1024 → Sound moved
    sound_moved few =
        let l = length-set (map (rerank f) xs) n x in
        let k = length-map xs (rerank f) in
        sound_from_ordered moved o is (omega arith)

    pub program_moved : content x ≡ content (get_or xs n Vacant) → flat_program moved ≡ reorder (flat_program xs) o
    program_moved same =
        ap (λ cs. program_of cs (order_of moved)) (contents_moved same)
        ∙ ap (λ os. program_of (map content xs) os) (order_unique moved o is)

-- A new flat store.
use Rattle.std.proofs.Common.{◌≡◌, ℕ, zero, suc, ◌≤◌, [], ◌∷◌, map, replicate, Some, None, sym, refl, ap, ◌∙◌, arith}
use Rattle.std.proofs.lemmas.List.{length-replicate}
use Rattle.flat.specs.declared.cells.FlatCell.TheVariants.{Vacant}
use Rattle.program.specs.Programs.{program_of, new_program}
use Rattle.flat.specs.FlatModel.{content, placed_count, order_of, rank_at, flat_program, Sound}
use Rattle.flat.proofs.Orders.{Ordered, order_unique, sound_from_ordered}

count_fresh : (m : ℕ) → placed_count (replicate m Vacant) ≡ 0
count_fresh zero = refl
count_fresh (suc m) = let e = count_fresh m in omega arith

rank_fresh : (m n : ℕ) → rank_at (replicate m Vacant) n ≡ None
rank_fresh zero n = refl
rank_fresh (suc m) zero = refl
rank_fresh (suc m) (suc n) = rank_fresh m n

content_fresh : (m : ℕ) → map content (replicate m Vacant) ≡ replicate m None
content_fresh zero = refl
content_fresh (suc m) = ap (λ cs. None ∷ cs) (content_fresh m)

no_rank : (m n r : ℕ) → rank_at (replicate m Vacant) n ≡ Some r → ⊥
no_rank m n r e = let f = rank_fresh m n in let z : ◌≡◌ {A = ℕ} 0 1 = cc in omega arith

ordered_fresh : (m : ℕ) → Ordered (replicate m Vacant) []
ordered_fresh m = record {
  count = sym (count_fresh m);
  low = λ n r e. absurd (no_rank m n r e);
  ranked = λ n r e. absurd (no_rank m n r e);
  placed = λ j h. absurd (omega arith);
}

pub sound_fresh : (m : ℕ) → m ≤ 1024 → Sound (replicate m Vacant)
sound_fresh m h = let l = length-replicate m Vacant in sound_from_ordered (replicate m Vacant) [] (ordered_fresh m) (omega arith)

pub program_fresh : (m : ℕ) → flat_program (replicate m Vacant) ≡ new_program m
program_fresh m =
    ap (λ cs. program_of cs (order_of (replicate m Vacant))) (content_fresh m)
    ∙ ap (λ os. program_of (replicate m None) os) (order_unique (replicate m Vacant) [] (ordered_fresh m))

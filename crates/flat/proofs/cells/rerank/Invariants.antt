use Rattle.std.proofs.Common.{◌≡◌, ℕ, ◌<◌, ◌≤◌, ◌^◌, ◌++◌, map, take, drop, Some}
use Rattle.flat.specs.FlatModel.{rank_at, rerank}
use Rattle.flat.proofs.cells.rerank.Given as goal

abbrev pub invariant-loop-cell : goal.invariant-loop-cell
invariant-loop-cell g l = record {
  ahead : (n k : ℕ) → l.cell-index ≤ n → rank_at l.cells n ≡ Some k → k < 1024;
  behind : (h : ℕ → ℕ) → ((k r : ℕ) → k < 2 ^ 32 → goal.F-post g l.fn.change k r → r ≡ h k) → l.cells ≡ map (rerank h) (take l.cell-index l.initial.cells) ++ drop l.cell-index l.initial.cells;
}

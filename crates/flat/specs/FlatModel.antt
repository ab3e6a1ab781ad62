-- What the cells of the flat store stand for, and which cells stand for a program.
use Rattle.std.specs.Prelude.{◌≡◌, ℕ, suc, ◌+◌, ◌-◌, ◌<◌, ◌≤◌, Bool, false, cond, List, [], ◌∷◌, map, length, Some, None, Option, ◌==◌, nat_le, nat_lt, slice_index_or}
use Rattle.std.specs.List.{range_with_len}
use Rattle.ir.specs.Instructions.{plain}
use Rattle.program.specs.declared.state.State.{State}
use Rattle.program.specs.declared.state.State.TheVariants.{Free, Loose, Placed}
use Rattle.program.specs.Programs.{Program, Cell}
use Rattle.flat.specs.declared.cells.FlatCell.{FlatCell}
use Rattle.flat.specs.declared.cells.FlatCell.TheVariants.{Vacant, Idle, Ranked}

-- ---- one cell

-- the instruction of a cell's number
abbrev pub content : FlatCell → Cell
content Vacant = None
content (Idle r) = Some (plain r)
content (Ranked r k) = Some (plain r)

-- the rank of a cell, where it has one
abbrev pub rank_of : FlatCell → Option ℕ
rank_of Vacant = None
rank_of (Idle r) = None
rank_of (Ranked r k) = Some k

-- the state of a cell's number
abbrev pub tag : FlatCell → State
tag Vacant = Free
tag (Idle r) = Loose
tag (Ranked r k) = Placed

-- ---- the program of a list of cells

-- the rank of a number; none beyond the list
abbrev pub rank_at : List FlatCell → ℕ → Option ℕ
rank_at cells n = rank_of (slice_index_or cells n Vacant)

-- whether the rank is there and is j
abbrev pub is_rank : ℕ → Option ℕ → Bool
is_rank j None = false
is_rank j (Some k) = k == j

-- 1 for a rank, 0 for none
abbrev pub weight : Option ℕ → ℕ
weight None = 0
weight (Some k) = 1

-- how many cells have a rank
abbrev pub placed_count : List FlatCell → ℕ
placed_count [] = 0
placed_count (c ∷ cs) = weight (rank_of c) + placed_count cs

-- the first number that has the rank j, or the length of the list
abbrev pub find_rank : ℕ → List FlatCell → ℕ
find_rank j [] = 0
find_rank j (c ∷ cs) = cond (is_rank j (rank_of c)) 0 (suc (find_rank j cs))

-- the numbers by their ranks
abbrev pub order_of : List FlatCell → List ℕ
order_of cells = map (λ j. find_rank j cells) (range_with_len 0 (placed_count cells))

-- the program that the cells stand for
abbrev pub flat_program : List FlatCell → Program
flat_program cells = record { cells = map content cells; order = order_of cells }

-- ---- sound cells

-- each rank below the count is some number's
abbrev pub Filled : List FlatCell → Type 0
Filled cells = (j : ℕ) → j < placed_count cells → find_rank j cells < length cells

-- each rank is below the count
abbrev pub Low : List FlatCell → Type 0
Low cells = (n r : ℕ) → rank_at cells n ≡ Some r → r < placed_count cells

-- no rank is that of two numbers
abbrev pub Apart : List FlatCell → Type 0
Apart cells = (n r : ℕ) → rank_at cells n ≡ Some r → find_rank r cells ≡ n

-- the ranks are 0 to one below the count, each once
pub record Sound (cells : List FlatCell) : Type 0 where
  pub few : length cells ≤ 1024
  pub filled : Filled cells
  pub low : Low cells
  pub apart : Apart cells

-- ---- what one step of the code does

-- the cell with its rank, where it has one, changed
abbrev pub rerank : (ℕ → ℕ) → FlatCell → FlatCell
rerank f Vacant = Vacant
rerank f (Idle r) = Idle r
rerank f (Ranked r k) = Ranked r (f k)

-- ranks from `at` on rise by one, which opens `at`
abbrev pub up : ℕ → ℕ → ℕ
up at k = cond (nat_le at k) (k + 1) k

-- ranks above `at` fall by one, which closes `at`
abbrev pub down : ℕ → ℕ → ℕ
down at k = cond (nat_lt at k) (k - 1) k

-- the use y of v, where the operand at its position is there and is v
abbrev pub one_use : Option ℕ → ℕ → ℕ × ℕ → List (ℕ × ℕ)
one_use x v y = cond (is_rank v x) (y ∷ []) []

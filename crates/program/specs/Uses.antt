-- Uses. A use of v is a pair (u, k): the number u is loose or placed, and its operand at position k, from 1, is v.
use Rattle.std.specs.Prelude.{◌≡◌, ℕ, zero, suc, ◌+◌, ◌<◌, Bool, true, false, cond, ◌&&◌, ◌||◌, ◌⊎◌, List, [], ◌∷◌, ◌++◌, Some, None, Option, ◌==◌, nat_lt}
use Rattle.std.specs.List.{AllByRecursion, slice_get}
use Rattle.ir.specs.Instructions.{Instr}
use Rattle.program.specs.Programs.{Program, Cell, cell, operands}

-- ---- the list

-- the positions, from k on, at which v stands in a list of operands, for the user u
abbrev pub uses_at : ℕ → ℕ → ℕ → List ℕ → List (ℕ × ℕ)
uses_at v u k [] = []
uses_at v u k (x ∷ xs) = cond (x == v) ((u, k) ∷ uses_at v u (suc k) xs) (uses_at v u (suc k) xs)

abbrev pub uses_by : ℕ → ℕ → Cell → List (ℕ × ℕ)
uses_by v u None = []
uses_by v u (Some i) = uses_at v u 1 (operands i)

-- the uses of v by the cells of a list, the first of which has the number u
abbrev pub uses_from : ℕ → ℕ → List Cell → List (ℕ × ℕ)
uses_from v u [] = []
uses_from v u (c ∷ cs) = uses_by v u c ++ uses_from v (u + 1) cs

-- the use list of v
abbrev pub uses : Program → ℕ → List (ℕ × ℕ)
uses p v = uses_from v 0 p.cells

abbrev pub unused : List (ℕ × ℕ) → Bool
unused [] = true
unused (u ∷ us) = false

-- ---- reading it

-- by user, then by position
abbrev pub before : ℕ × ℕ → ℕ × ℕ → Bool
before x y = nat_lt x.0 y.0 || (x.0 == y.0 && nat_lt x.1 y.1)

-- greater than a given pair; any use is, where none is given
abbrev pub beyond : Option (ℕ × ℕ) → ℕ × ℕ → Bool
beyond None y = true
beyond (Some x) y = before x y

-- the first of a list that is beyond a pair
abbrev pub least_beyond : Option (ℕ × ℕ) → List (ℕ × ℕ) → Option (ℕ × ℕ)
least_beyond after [] = None
least_beyond after (y ∷ ys) = cond (beyond after y) (Some y) (least_beyond after ys)

-- ---- what use lists are, said of the program alone

abbrev pub Precedes : ℕ × ℕ → ℕ × ℕ → Type 0
Precedes x y = (x.0 < y.0) ⊎ ((x.0 ≡ y.0) × (x.1 < y.1))

-- each pair precedes all that follow it
abbrev pub Ascending : List (ℕ × ℕ) → Type 0
Ascending [] = Unit {0}
Ascending (x ∷ xs) = AllByRecursion (Precedes x) xs × Ascending xs

abbrev pub Among : ℕ × ℕ → List (ℕ × ℕ) → Type 0
Among y [] = ⊥
Among y (x ∷ xs) = (x ≡ y) ⊎ Among y xs

-- the operand at a position, from 1
abbrev pub position : Instr → ℕ → Option ℕ
position i zero = None
position i (suc k) = slice_get (operands i) k

-- the user is not free, and its operand at the position is there and is v
pub record Use (p : Program) (v : ℕ) (y : ℕ × ℕ) : Type 0 where
  pub user : Instr
  pub is : cell p y.0 ≡ Some user
  pub reads : position user y.1 ≡ Some v

abbrev pub Beyond : Option (ℕ × ℕ) → ℕ × ℕ → Type 0
Beyond None y = Unit {0}
Beyond (Some x) y = Precedes x y

-- the least use beyond a pair, or that there is none
abbrev pub LeastUse : Program → ℕ → Option (ℕ × ℕ) → Option (ℕ × ℕ) → Type 0
LeastUse p v after None = (z : ℕ × ℕ) → Use p v z → Beyond after z → ⊥
LeastUse p v after (Some y) =
    Use p v y × Beyond after y × ((z : ℕ × ℕ) → Use p v z → Beyond after z → (y ≡ z) ⊎ Precedes y z)

-- what one reads who asks for the least use beyond the last one until there is none
abbrev pub Reading : (Option (ℕ × ℕ) → Option (ℕ × ℕ)) → Option (ℕ × ℕ) → List (ℕ × ℕ) → Type 0
Reading ask after [] = ask after ≡ None
Reading ask after (y ∷ ys) = (ask after ≡ Some y) × Reading ask (Some y) ys

-- the use list of v ascends strictly by user, then by position; a pair is in it exactly if it is a use of v; and it is what one reads from the least use up, and nothing else is
pub record UsesSaid (p : Program) (v : ℕ) : Type 0 where
  pub ascends : Ascending (uses p v)
  pub exactly : (y : ℕ × ℕ) → (Among y (uses p v) → Use p v y) × (Use p v y → Among y (uses p v))
  pub least : (after : Option (ℕ × ℕ)) → LeastUse p v after (least_beyond after (uses p v))
  pub read : Reading (λ after. least_beyond after (uses p v)) None (uses p v)
  pub only : (ys : List (ℕ × ℕ)) → Reading (λ after. least_beyond after (uses p v)) None ys → ys ≡ uses p v

abbrev pub UsesLaw : Type 0
UsesLaw = (p : Program) (v : ℕ) → UsesSaid p v

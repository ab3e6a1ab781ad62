-- The first n of a row as a stack, the last of them on top.
use Rattle.std.specs.Prelude.{ℕ, List, [], ◌∷◌, reverse, take, Some, None, Option}

-- the first n of the row, the last of them first
unfoldable pub stack : {A : Type 0} → List A → ℕ → List A
stack xs n = reverse (take n xs)

-- what lies on top, if anything does
abbrev pub top : {A : Type 0} → List A → Option A
top [] = None
top (x ∷ xs) = Some x

-- what lies under the top
abbrev pub rest : {A : Type 0} → List A → List A
rest [] = []
rest (x ∷ xs) = xs

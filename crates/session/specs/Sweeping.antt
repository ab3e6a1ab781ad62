-- The rewrites of a replace, one use after another.
use Rattle.std.specs.Prelude.{ℕ, ◌≤◌, List, [], ◌∷◌, length}
use Rattle.program.specs.Uses.{uses}
use Rattle.edits.specs.Replace.{replace, Replaceable}
use Rattle.session.specs.Copying.{Save, Copying, charged}

-- without a save nothing is asked, with one a record for each use
abbrev pub Enough : List Save → ℕ → ℕ → Type 0
Enough [] left need = Unit {0}
Enough (v ∷ vs) left need = need ≤ left

-- m can be put for n, and there are records for it
pub record Ready (n m : ℕ) (s : Copying) : Type 0 where
  pub can : Replaceable s.program n m
  pub enough : Enough s.saves s.left (length (uses s.program n))

-- the session once m stands for n everywhere
abbrev pub swept : ℕ → ℕ → Copying → Copying
swept n m s = (charged s (replace n m s.program) (length (uses s.program n)) s.saves).after

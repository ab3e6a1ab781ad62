-- What a rule has to show of its change.
use Rattle.std.proofs.Common.{◌≡◌, ℕ, false, List}
use Rattle.ir.specs.Instructions.{Shapely}
use Rattle.program.specs.Programs.{Program, at, Operands, Before}
use Rattle.runs.specs.Runs.{out?, value, Fits}
use Rattle.rules.specs.Rules.{Inputs, Change, nothing, vanish, drop_for, become}

-- P holds of the values that fit the program, on any sixteen input words
abbrev pub Always : Program → ((ℕ → ℕ) → List ℕ → Type 0) → Type 0
Always p P = (w : List ℕ) (v : ℕ → ℕ) → Inputs w → Fits (at p) p.order w v → P v w

-- no instruction reads n
abbrev pub Unread : Program → ℕ → Type 0
Unread p n = (k : ℕ) → Operands (at p k) (λ m. m ≡ n → ⊥)

-- n is no out; what takes its place stands before it and has its value
abbrev pub Valid : Program → ℕ → Change → Type 0
Valid p n nothing = Unit {0}
Valid p n vanish = (out? (at p n).op ≡ false) × Unread p n
Valid p n (drop_for y) = (out? (at p n).op ≡ false) × Before y n p.order × Always p (λ v w. v n ≡ v y)
Valid p n (become i) =
    (out? (at p n).op ≡ false) × (out? i.op ≡ false) × Shapely i × Operands i (λ m. Before m n p.order)
    × Always p (λ v w. v n ≡ value i v w)

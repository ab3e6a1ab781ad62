-- The operand of an instruction at a position.
use Rattle.std.proofs.Common.{◌≡◌, ℕ, zero, suc, ◌<◌, true, List, [], ◌∷◌, take, Some, None, refl, ap, ◌∙◌, subst, arith}
use Rattle.std.specs.List.{slice_get}
use Rattle.std.proofs.lemmas.Bool.{lt-ltb}
use Rattle.ir.specs.Operations.{arity}
use Rattle.ir.specs.Instructions.{Instr}
use Rattle.program.specs.Programs.{Program, Cell, cell, at, held, takes, Operands}
use Rattle.program.specs.Uses.{position, Use}
use Rattle.program.proofs.Operands.{no_operands}

abbrev pub three : Instr → List ℕ
three i = i.a ∷ (i.b ∷ (i.c ∷ []))

there : (A k v : ℕ) (xs : List ℕ) → slice_get (take A xs) k ≡ Some v → (k < A) × (slice_get xs k ≡ Some v)
there zero k v xs e = let z : ◌≡◌ {A = ℕ} 0 1 = cc in absurd (omega arith)
there (suc A) k v [] e = let z : ◌≡◌ {A = ℕ} 0 1 = cc in absurd (omega arith)
there (suc A) zero v (x ∷ xs) e = (omega arith, e)
there (suc A) (suc k) v (x ∷ xs) e = let h = there A k v xs e in (omega arith, h.1)

-- an operand at a position is the first, the second or the third, and is there
module _ (i : Instr) (v : ℕ) (P : ℕ → Type 0) where
  pub by_position :
      (takes 0 i.op ≡ true → i.a ≡ v → P 1) → (takes 1 i.op ≡ true → i.b ≡ v → P 2) → (takes 2 i.op ≡ true → i.c ≡ v → P 3)
      → (k : ℕ) → position i k ≡ Some v → P k
  by_position f g h zero e = let z : ◌≡◌ {A = ℕ} 0 1 = cc in absurd (omega arith)
  by_position f g h (suc k) e = by_place k (there (arity i.op) k v (three i) e)
    where
      by_place : (k : ℕ) → (k < arity i.op) × (slice_get (three i) k ≡ Some v) → P (suc k)
      by_place zero q = f (lt-ltb 0 (arity i.op) q.0) (cc q.1)
      by_place (suc zero) q = g (lt-ltb 1 (arity i.op) q.0) (cc q.1)
      by_place (suc (suc zero)) q = h (lt-ltb 2 (arity i.op) q.0) (cc q.1)
      by_place (suc (suc (suc k))) q = let z : ◌≡◌ {A = ℕ} 0 1 = cc q.1 in absurd (omega arith)

pub operand_at : (P : ℕ → Type 0) (i : Instr) (k v : ℕ) → Operands i P → position i k ≡ Some v → P v
operand_at P i k v o =
    by_position i v (λ k. P v) (λ t e. subst P e (o.0 t)) (λ t e. subst P e (o.1 t)) (λ t e. subst P e (o.2 t)) k

-- ---- uses

module _ (p : Program) (n : ℕ) where
  pub use_reads : (y : ℕ × ℕ) → Use p n y → position (at p y.0) y.1 ≡ Some n
  use_reads y h = ap (λ c. position (held c) y.1) h.is ∙ h.reads

  pub reads_use : (y : ℕ × ℕ) → position (at p y.0) y.1 ≡ Some n → Use p n y
  reads_use y e = by_cell (cell p y.0) refl e
    where
      by_cell : (c : Cell) → cell p y.0 ≡ c → position (held c) y.1 ≡ Some n → Use p n y
      by_cell None is r = absurd (operand_at (λ m. ⊥) (held None) y.1 n (no_operands (λ m. ⊥)) r)
      by_cell (Some i) is r = record { user = i; is = is; reads = r }

  -- what no instruction reads has no use
  pub no_use : ((k : ℕ) → Operands (at p k) (λ m. m ≡ n → ⊥)) → (y : ℕ × ℕ) → Use p n y → ⊥
  no_use f y h = operand_at (λ m. m ≡ n → ⊥) (at p y.0) y.1 n (f y.0) (use_reads y h) refl

-- Another number for an operand: at one position, and wherever the old number stands.
use Rattle.std.proofs.Common.{◌≡◌, ℕ, zero, suc, Bool, true, false, cond, ◌&&◌, eqb, List, [], ◌∷◌, map, get_or, take, set, Some, None, sym, refl, ap, ◌∙◌, arith}
use lib.Seq.{take-set-lt}
use Rattle.std.specs.List.{slice_get}
use Rattle.std.proofs.lemmas.Bool.{ltb-true, eq-eqb, ne_eqb, and_from, cond-true, cond_both}
use Rattle.ir.specs.Operations.{arity}
use Rattle.ir.specs.Instructions.{Instr, Shapely}
use Rattle.program.specs.Programs.{Cell, held, operands, takes, Operands}
use Rattle.program.specs.Uses.{unused, position}
use Rattle.program.proofs.Operands.{at_position}
use Rattle.program.proofs.Uses.{unused_none}
use Rattle.program.proofs.Keeping.{never_read}
use Rattle.edits.specs.Replace.{swapped, rename, rename_cell, swap_at, ReplaceEnd}
use Rattle.program.proofs.Positions.{three, by_position}

-- ---- at one position

nth_set_other : (k j m : ℕ) (xs : List ℕ) → (j ≡ k → ⊥) → slice_get (set xs k m) j ≡ slice_get xs j
nth_set_other k j m [] d = refl
nth_set_other zero zero m (x ∷ xs) d = absurd (d refl)
nth_set_other zero (suc j) m (x ∷ xs) d = refl
nth_set_other (suc k) zero m (x ∷ xs) d = refl
nth_set_other (suc k) (suc j) m (x ∷ xs) d = nth_set_other k j m xs (λ e. d (ap suc e))

pub swap_each : (P : ℕ → Type 0) (k m : ℕ) (i : Instr) → Operands i P → P m → Operands (swap_at k m i) P
swap_each P zero m i o h = o
swap_each P (suc zero) m i o h = (λ t. h, o.1, o.2)
swap_each P (suc (suc zero)) m i o h = (o.0, λ t. h, o.2)
swap_each P (suc (suc (suc zero))) m i o h = (o.0, o.1, λ t. h)
swap_each P (suc (suc (suc (suc k)))) m i o h = o

module _ (i : Instr) (v m : ℕ) where
  abbrev A : ℕ
  A = arity i.op

  pub swap_shapely : Shapely i → (k : ℕ) → position i k ≡ Some v → Shapely (swap_at k m i)
  swap_shapely s =
      by_position i v (λ k. Shapely (swap_at k m i)) (λ t e. let l = ltb-true 0 A t in (s.0, λ g. absurd (omega arith), s.2, s.3))
      (λ t e. let l = ltb-true 1 A t in (s.0, s.1, λ g. absurd (omega arith), s.3))
      (λ t e. let l = ltb-true 2 A t in (s.0, s.1, s.2, λ g. absurd (omega arith)))

  pub swap_same : (k : ℕ) → position i k ≡ Some v → position (swap_at k m i) k ≡ Some m
  swap_same =
      by_position i v (λ k. position (swap_at k m i) k ≡ Some m) (λ t e. at_position (swap_at 1 m i) 0 t)
      (λ t e. at_position (swap_at 2 m i) 1 t) (λ t e. at_position (swap_at 3 m i) 2 t)

  pub swap_other : (k j : ℕ) → position i k ≡ Some v → (j ≡ k → ⊥) → position (swap_at k m i) j ≡ position i j
  swap_other k zero h d = refl
  swap_other k (suc j) h d =
      by_position i v (λ k. (suc j ≡ k → ⊥) → position (swap_at k m i) (suc j) ≡ position i (suc j)) (λ t e. at_place 0 t) (λ t e. at_place 1 t)
      (λ t e. at_place 2 t) k h d
    where
      at_place : (k : ℕ) → takes k i.op ≡ true → (suc j ≡ suc k → ⊥) → slice_get (take A (set (three i) k m)) j ≡ slice_get (operands i) j
      at_place k t d = ap (λ xs. slice_get xs j) (take-set-lt A (three i) k m (ltb-true k A t)) ∙ nth_set_other k j m (operands i) (λ e. d (ap suc e))

-- ---- everywhere

module _ (n m : ℕ) where
  swapped_there : (h : Bool) (x : ℕ) → h ≡ true → x ≡ n → swapped h n m m ≡ swapped h n m x
  swapped_there h x t e =
      let is : m ≡ swapped h n m x = sym (cond-true (h && eqb x n) m x (and_from h (eqb x n) t (eq-eqb x n e))) in
      cond_both (h && eqb m n) m m (λ z. z ≡ swapped h n m x) (λ q. is) (λ q. is)

  swapped_none : (h : Bool) (x : ℕ) → (h ≡ true → x ≡ n → ⊥) → swapped h n m x ≡ x
  swapped_none false x f = refl
  swapped_none true x f = ap (λ t. cond t m x) (ne_eqb x n (f refl))

  -- one position more or less makes no difference
  pub rename_swap : (i : Instr) (k : ℕ) → position i k ≡ Some n → rename n m (swap_at k m i) ≡ rename n m i
  rename_swap i =
      by_position i n (λ k. rename n m (swap_at k m i) ≡ rename n m i)
      (λ t e. ap (λ x. swap_at 1 x (rename n m i)) (swapped_there (takes 0 i.op) i.a t e))
      (λ t e. ap (λ x. swap_at 2 x (rename n m i)) (swapped_there (takes 1 i.op) i.b t e))
      (λ t e. ap (λ x. swap_at 3 x (rename n m i)) (swapped_there (takes 2 i.op) i.c t e))

  rename_none : (i : Instr) → Operands i (λ x. x ≡ n → ⊥) → rename n m i ≡ i
  rename_none i o =
      λ j. record {
        op = i.op;
        literal = i.literal;
        a = swapped_none (takes 0 i.op) i.a o.0 j;
        b = swapped_none (takes 1 i.op) i.b o.1 j;
        c = swapped_none (takes 2 i.op) i.c o.2 j;
      }

  cell_none : (c : Cell) → Operands (held c) (λ x. x ≡ n → ⊥) → rename_cell n m c ≡ c
  cell_none None o = refl
  cell_none (Some i) o = ap Some (rename_none i o)

  cells_none : (cs : List Cell) → ((k : ℕ) → Operands (held (get_or cs k None)) (λ x. x ≡ n → ⊥)) → map (rename_cell n m) cs ≡ cs
  cells_none [] f = refl
  cells_none (c ∷ cs) f = cc (cell_none c (f 0), cells_none cs (λ k. f (suc k)))

pub replace_end : ReplaceEnd
replace_end p n m e =
    ap (λ cs. record { cells = cs; order = p.order }) (cells_none n m p.cells (never_read p n (unused_none p n (ap unused e))))

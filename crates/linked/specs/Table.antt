-- The operands of a program, at 4 * user + position; 4096 where there is none.
use Rattle.std.specs.Prelude.{◌≡◌, ℕ, zero, suc, ◌+◌, ◌*◌, true, false, cond, List, [], ◌∷◌, ◌++◌, map, length, get_or, take, set, Some, None, Option, ◌==◌, nat_lt, slice_index_or, slice_set, refl}
use Rattle.std.proofs.Common.{sym, ap, ◌∙◌, arith}
use Rattle.std.proofs.lemmas.List.{map-append}
use Rattle.std.proofs.lemmas.Bool.{ne_eqb}
use Rattle.ir.specs.declared.operation.Op.{Op}
use Rattle.ir.specs.declared.operation.Op.TheVariants.{Constant, Input, Add, Subtract, Multiply, And, Or, Xor, Less, Equal, Pick, Shift, Out}
use Rattle.ir.specs.Operations.{arity}
use Rattle.ir.specs.Instructions.{Instr}
use Rattle.program.specs.Programs.{operands}
use Rattle.program.specs.Uses.{uses_at, uses_by, uses_from}
use Rattle.linked.specs.Uses.{spots}

-- the first operand, or 4096
abbrev pub operand_a : Option Instr → ℕ
operand_a None = 4096
operand_a (Some i) = cond (nat_lt 0 (arity i.op)) i.a 4096

-- the second operand, or 4096
abbrev pub operand_b : Option Instr → ℕ
operand_b None = 4096
operand_b (Some i) = cond (nat_lt 1 (arity i.op)) i.b 4096

-- the third operand, or 4096
abbrev pub operand_c : Option Instr → ℕ
operand_c None = 4096
operand_c (Some i) = cond (nat_lt 2 (arity i.op)) i.c 4096

-- the operands of the cells, four places to a cell; the first place is the head of the cell's own list
abbrev pub table : List (Option Instr) → List ℕ
table [] = []
table (c ∷ cs) = 4096 ∷ (operand_a c ∷ (operand_b c ∷ (operand_c c ∷ table cs)))

-- where a use stands in the table
abbrev pub code : ℕ × ℕ → ℕ
code x = 4 * x.0 + x.1

pub table_length : (cs : List (Option Instr)) → length (table cs) ≡ 4 * length cs
table_length [] = refl
table_length (c ∷ cs) = let e = table_length cs in omega arith

pub table_heads : (cs : List (Option Instr)) (v : ℕ) → slice_index_or (table cs) (4 * v) 4096 ≡ 4096
table_heads [] v = refl
table_heads (c ∷ cs) zero = refl
table_heads (c ∷ cs) (suc v) =
    let z : 4 * suc v ≡ suc (suc (suc (suc (4 * v)))) = omega arith in
    ap (λ k. get_or (table (c ∷ cs)) k 4096) z ∙ table_heads cs v

-- a write of one cell is a write of its three operands
pub table_set : (cs : List (Option Instr)) (n : ℕ) (c : Option Instr) → table (slice_set cs n c) ≡ slice_set (slice_set (slice_set (table cs) (4 * n + 1) (operand_a c)) (4 * n + 2) (operand_b c)) (4 * n + 3) (operand_c c)
table_set [] n c = refl
table_set (x ∷ cs) zero c = refl
table_set (x ∷ cs) (suc n) c =
    let p : 4 * suc n + 1 ≡ suc (suc (suc (suc (4 * n + 1)))) = omega arith in
    let q : 4 * suc n + 2 ≡ suc (suc (suc (suc (4 * n + 2)))) = omega arith in
    let r : 4 * suc n + 3 ≡ suc (suc (suc (suc (4 * n + 3)))) = omega arith in
    ap (λ t. 4096 ∷ (operand_a x ∷ (operand_b x ∷ (operand_c x ∷ t)))) (table_set cs n c)
    ∙ sym (ap (λ k. set (slice_set (slice_set (table (x ∷ cs)) k (operand_a c)) (4 * suc n + 2) (operand_b c)) (4 * suc n + 3) (operand_c c)) p
    ∙ ap (λ k. set (slice_set (slice_set (table (x ∷ cs)) (suc (suc (suc (suc (4 * n + 1))))) (operand_a c)) k (operand_b c)) (4 * suc n + 3) (operand_c c)) q
    ∙ ap (λ k. set (slice_set (slice_set (table (x ∷ cs)) (suc (suc (suc (suc (4 * n + 1))))) (operand_a c)) (suc (suc (suc (suc (4 * n + 2))))) (operand_b c)) k (operand_c c)) r)

-- ---- the uses of the program are the places in the table

spots_append : (v k : ℕ) (xs ys : List ℕ) → spots v k (xs ++ ys) ≡ spots v k xs ++ spots v (k + length xs) ys
spots_append v k [] ys = let z : k ≡ k + 0 = omega arith in ap (λ j. spots v j ys) z
spots_append v k (x ∷ xs) ys =
    let z : suc k + length xs ≡ k + suc (length xs) = omega arith in
    let below : spots v (suc k) (xs ++ ys) ≡ spots v (suc k) xs ++ spots v (k + suc (length xs)) ys = spots_append v (suc k) xs ys ∙ ap (λ j. spots v (suc k) xs ++ spots v j ys) z in
    elim (x == v) as (λ b. cond b (k ∷ spots v (suc k) (xs ++ ys)) (spots v (suc k) (xs ++ ys)) ≡ cond b (k ∷ spots v (suc k) xs) (spots v (suc k) xs) ++ spots v (k + suc (length xs)) ys) [
      | true ↦ ap (λ zs. k ∷ zs) below
      | false ↦ below
    ]

spots_of : (v u p : ℕ) (xs : List ℕ) → spots v (4 * u + p) xs ≡ map code (uses_at v u p xs)
spots_of v u p [] = refl
spots_of v u p (x ∷ xs) =
    let z : suc (4 * u + p) ≡ 4 * u + suc p = omega arith in
    let below : spots v (suc (4 * u + p)) xs ≡ map code (uses_at v u (suc p) xs) = ap (λ j. spots v j xs) z ∙ spots_of v u (suc p) xs in
    elim (x == v) as (λ b. cond b ((4 * u + p) ∷ spots v (suc (4 * u + p)) xs) (spots v (suc (4 * u + p)) xs) ≡ map code (cond b ((u, p) ∷ uses_at v u (suc p) xs) (uses_at v u (suc p) xs))) [
      | true ↦ ap (λ zs. (4 * u + p) ∷ zs) below
      | false ↦ below
    ]

module _ (v : ℕ) (far : 4096 ≡ v → ⊥) where
  none : (k : ℕ) (xs : List ℕ) → spots v k (4096 ∷ xs) ≡ spots v (suc k) xs
  none k xs = ap (λ b. cond b (k ∷ spots v (suc k) xs) (spots v (suc k) xs)) (ne_eqb 4096 v far)

  less : (k : ℕ) (xs : List ℕ) → spots v k (xs ++ (4096 ∷ [])) ≡ spots v k xs
  less k [] = none k []
  less k (x ∷ xs) = ap (λ zs. cond (x == v) (k ∷ zs) zs) (less (suc k) xs)

  row : (k : ℕ) (op : Op) (a b c : ℕ) → spots v k (cond (nat_lt 0 (arity op)) a 4096 ∷ (cond (nat_lt 1 (arity op)) b 4096 ∷ (cond (nat_lt 2 (arity op)) c 4096 ∷ []))) ≡ spots v k (take (arity op) (a ∷ (b ∷ (c ∷ []))))
  row k Constant a b c = less k (4096 ∷ (4096 ∷ [])) ∙ less k (4096 ∷ []) ∙ less k []
  row k Input a b c = less k (4096 ∷ (4096 ∷ [])) ∙ less k (4096 ∷ []) ∙ less k []
  row k Add a b c = less k (a ∷ (b ∷ []))
  row k Subtract a b c = less k (a ∷ (b ∷ []))
  row k Multiply a b c = less k (a ∷ (b ∷ []))
  row k And a b c = less k (a ∷ (b ∷ []))
  row k Or a b c = less k (a ∷ (b ∷ []))
  row k Xor a b c = less k (a ∷ (b ∷ []))
  row k Less a b c = less k (a ∷ (b ∷ []))
  row k Equal a b c = less k (a ∷ (b ∷ []))
  row k Pick a b c = refl
  row k Shift a b c = less k (a ∷ (4096 ∷ [])) ∙ less k (a ∷ [])
  row k Out a b c = less k (a ∷ (4096 ∷ [])) ∙ less k (a ∷ [])

  row_uses : (u : ℕ) (c : Option Instr) → spots v (4 * u + 1) (operand_a c ∷ (operand_b c ∷ (operand_c c ∷ []))) ≡ map code (uses_by v u c)
  row_uses u None = less (4 * u + 1) (4096 ∷ (4096 ∷ [])) ∙ less (4 * u + 1) (4096 ∷ []) ∙ less (4 * u + 1) []
  row_uses u (Some i) = row (4 * u + 1) i.op i.a i.b i.c ∙ spots_of v u 1 (operands i)

  pub table_uses : (u : ℕ) (cs : List (Option Instr)) → spots v (4 * u) (table cs) ≡ map code (uses_from v u cs)
  table_uses u [] = refl
  table_uses u (c ∷ cs) =
      let one : suc (4 * u) ≡ 4 * u + 1 = omega arith in
      let four : 4 * u + 1 + 3 ≡ 4 * (u + 1) = omega arith in
      let three : List ℕ = operand_a c ∷ (operand_b c ∷ (operand_c c ∷ [])) in
      none (4 * u) (three ++ table cs)
      ∙ ap (λ k. spots v k (three ++ table cs)) one
      ∙ spots_append v (4 * u + 1) three (table cs)
      ∙ ap (λ k. spots v (4 * u + 1) three ++ spots v k (table cs)) four
      ∙ ap (λ xs. xs ++ spots v (4 * (u + 1)) (table cs)) (row_uses u c)
      ∙ ap (λ ys. map code (uses_by v u c) ++ ys) (table_uses (u + 1) cs)
      ∙ sym (map-append code (uses_by v u c) (uses_from v (u + 1) cs))

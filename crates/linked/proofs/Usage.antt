-- The least use beyond a pair, as the links give it.
use Rattle.std.proofs.Common.{◌≡◌, ℕ, suc, ◌+◌, ◌*◌, ◌/◌, ◌%◌, ◌<◌, ◌≤◌, Bool, true, false, cond, ◌&&◌, ◌||◌, eqb, ltb, ◌⊎◌, List, [], ◌∷◌, ◌++◌, map, length, get_or, Some, None, Option, sym, refl, ap, ◌∙◌, ⊎_elim, arith}
use Rattle.std.specs.Option.{option_eq}
use Rattle.std.proofs.lemmas.List.{length-map, length-take}
use Rattle.std.proofs.lemmas.Bool.{eqb-true, cases_eq, cases_lt, cases_order, eq-eqb, ne_eqb, lt-ltb, le-ltb}
use Rattle.ir.specs.Operations.{arity}
use Rattle.ir.specs.Instructions.{Instr}
use Rattle.program.specs.Programs.{operands}
use Rattle.program.specs.Uses.{uses_at, uses_by, uses_from, before, least_beyond}
use Rattle.linked.specs.declared.cells.LinkedCell.{LinkedCell}
use Rattle.linked.specs.declared.cells.Node.{Node}
use Rattle.linked.specs.LinkedModel.{content, bodies}
use Rattle.linked.specs.Rings.{occurs}
use Rattle.linked.specs.Paths.{Path, Rising, Climbs, climbs_rest, low, low_in, rising_above}
use Rattle.linked.specs.Uses.{spots, spots_climbs, own_yes, node_low}
use Rattle.linked.specs.Slots.{seat_of, place, links, entry}
use Rattle.linked.specs.Table.{code, table_uses, table_heads}
use Rattle.linked.specs.Facts.{table_in, Listed}
use Rattle.linked.specs.Reading.{decode, slots_of}
use Rattle.linked.specs.States.{content_at}
use Rattle.linked.proofs.Placing.{body_read}
use Rattle.linked.proofs.Rows.{row_entry}

-- the first of a list that is not below x
abbrev first_from : ℕ → List ℕ → ℕ
first_from x [] = 4096
first_from x (y ∷ ys) = cond (ltb y x) (first_from x ys) y

path_first : (s : ℕ → ℕ) (x h : ℕ) (ys : List ℕ) → Path s h ys → s (low x h ys) ≡ first_from x ys
path_first s x h [] p = p
path_first s x h (y ∷ ys) p =
    elim (ltb y x) as (λ b. s (cond b (low x y ys) h) ≡ cond b (first_from x ys) y) [ true ↦ path_first s x y ys p.1 | false ↦ p.0 ]

low_stop : (x k h : ℕ) (ys : List ℕ) → Rising k ys → x ≤ suc k → low x h ys ≡ h
low_stop x k h [] r l = refl
low_stop x k h (y ∷ ys) r l = let a = r.0 in ap (λ b. cond b (low x y ys) h) (le-ltb y x (omega arith))

pub low_zero : (h : ℕ) (ys : List ℕ) → low 0 h ys ≡ h
low_zero h [] = refl
low_zero h (y ∷ ys) = ap (λ b. cond b (low 0 y ys) h) (le-ltb y 0 (omega arith))

-- a node of the list is the last that is not beyond it
pub low_here : (x h : ℕ) (ys : List ℕ) → Climbs ys → 0 < occurs x ys → low (x + 1) h ys ≡ x
low_here x h [] r i = absurd (omega arith)
low_here x h (y ∷ ys) r i =
    ⊎_elim
    (λ e. ap (λ b. cond b (low (x + 1) y ys) h) (lt-ltb y (x + 1) (omega arith)) ∙ low_stop (x + 1) y y ys r (omega arith) ∙ e)
    (λ ne.
    let z : cond (eqb y x) 1 0 ≡ ◌+◌ 0 0 = ap (λ b. cond b 1 0) (ne_eqb y x ne) in
    let later : 0 < occurs x ys = omega arith in
    let less = rising_above y x ys r later in
    ap (λ b. cond b (low (x + 1) y ys) h) (lt-ltb y (x + 1) (omega arith)) ∙ low_here x y ys (climbs_rest y ys r) later)
    (cases_eq y x)

-- ---- pairs

abbrev Fine : ℕ → List (ℕ × ℕ) → Type 0
Fine size [] = Unit {0}
Fine size (y ∷ ys) = (y.0 < size) × (0 < y.1) × (y.1 < 4) × Fine size ys

fine_append : (size : ℕ) (xs ys : List (ℕ × ℕ)) → Fine size xs → Fine size ys → Fine size (xs ++ ys)
fine_append size [] ys a b = b
fine_append size (x ∷ xs) ys a b = (a.0, a.1, a.2, fine_append size xs ys a.3 b)

fine_at : (size v u k : ℕ) (xs : List ℕ) → u < size → 0 < k → k + length xs ≤ 4 → Fine size (uses_at v u k xs)
fine_at size v u k [] h g l = tt
fine_at size v u k (x ∷ xs) h g l =
    let below = fine_at size v u (suc k) xs h (omega arith) (omega arith) in
    elim (eqb x v) as (λ b. Fine size (cond b ((u, k) ∷ uses_at v u (suc k) xs) (uses_at v u (suc k) xs))) [ true ↦ (h, g, omega arith, below) | false ↦ below ]

few_operands : (i : Instr) → 1 + length (operands i) ≤ 4
few_operands i = let l = length-take (arity i.op) (i.a ∷ (i.b ∷ (i.c ∷ []))) in omega arith

fine_by : (size v u : ℕ) (c : Option Instr) → u < size → Fine size (uses_by v u c)
fine_by size v u None h = tt
fine_by size v u (Some i) h = fine_at size v u 1 (operands i) h (omega arith) (few_operands i)

fine_from : (size v u : ℕ) (cs : List (Option Instr)) → u + length cs ≤ size → Fine size (uses_from v u cs)
fine_from size v u [] h = tt
fine_from size v u (c ∷ cs) h = fine_append size (uses_by v u c) (uses_from v (u + 1) cs) (fine_by size v u c (omega arith)) (fine_from size v (u + 1) cs (omega arith))

pub decode_code : (y : ℕ × ℕ) → y.0 < 1024 → y.1 < 4 → decode (code y) ≡ Some y
decode_code y h g =
    let a : (4 * y.0 + y.1) / 4 ≡ y.0 = omega arith in
    let b : (4 * y.0 + y.1) % 4 ≡ y.1 = omega arith in
    ap (λ t. cond t (Some (code y / 4, code y % 4)) None) (lt-ltb (code y) 4096 (omega arith))
    ∙ ap (λ u. Some (u, code y % 4)) a ∙ ap (λ p. Some (y.0, p)) b

-- the pair (u, p), p cut to 3, against a use
late : (u p q : ℕ) (y : ℕ × ℕ) → (q ≡ p) ⊎ ((q ≡ 3) × (4 ≤ p)) → q < 4 → y.1 < 4 → (b : Bool) → before (u, p) y ≡ b → (b ≡ true → 4 * u + q + 1 ≤ code y) × (b ≡ false → code y < 4 * u + q + 1)
late u p q y cut h g b e =
    let yes : u < y.0 → before (u, p) y ≡ true = λ l. ap (λ t. t || (eqb u y.0 && ltb p y.1)) (lt-ltb u y.0 l) in
    let no : y.0 < u → before (u, p) y ≡ false = λ l. ap (λ t. t || (eqb u y.0 && ltb p y.1)) (le-ltb u y.0 (omega arith)) ∙ ap (λ t. t && ltb p y.1) (ne_eqb u y.0 (λ s. omega arith)) in
    let same : u ≡ y.0 → before (u, p) y ≡ ltb p y.1 = λ s. ap (λ t. t || (eqb u y.0 && ltb p y.1)) (le-ltb u y.0 (omega arith)) ∙ ap (λ t. t && ltb p y.1) (eq-eqb u y.0 s) in
    let apart : true ≡ false → ⊥ = λ z. let y : ◌≡◌ {A = ℕ} 0 1 = cc in omega arith in
    ⊎_elim
    (λ s.
    ⊎_elim
    (λ l.
    let t : b ≡ true = sym e ∙ same s ∙ lt-ltb p y.1 l in
    ((λ _. ⊎_elim (λ c. omega arith) (λ c. let c0 = c.0 in let c1 = c.1 in omega arith) cut), (λ f. absurd (apart (sym t ∙ f)))))
    (λ l.
    let t : b ≡ false = sym e ∙ same s ∙ le-ltb p y.1 l in
    ((λ f. absurd (apart (sym f ∙ t))), (λ _. ⊎_elim (λ c. omega arith) (λ c. let c0 = c.0 in omega arith) cut)))
    (cases_lt p y.1))
    (λ lt.
    ⊎_elim
    (λ l. let t : b ≡ true = sym e ∙ yes l in ((λ _. omega arith), (λ f. absurd (apart (sym t ∙ f)))))
    (λ l. let t : b ≡ false = sym e ∙ no l in ((λ f. absurd (apart (sym f ∙ t))), (λ _. omega arith)))
    lt)
    (cases_order u y.0)

module _ (size : ℕ) (few : size ≤ 1024) where
  first_all : (us : List (ℕ × ℕ)) → Fine size us → decode (first_from 0 (map code us)) ≡ least_beyond None us
  first_all [] f = refl
  first_all (y ∷ ys) f =
      let a = f.0 in
      ap (λ b. decode (cond b (first_from 0 (map code ys)) (code y))) (le-ltb (code y) 0 (omega arith)) ∙ decode_code y (omega arith) f.2

  first_beyond : (u p q : ℕ) → (q ≡ p) ⊎ ((q ≡ 3) × (4 ≤ p)) → q < 4 → (us : List (ℕ × ℕ)) → Fine size us → decode (first_from (4 * u + q + 1) (map code us)) ≡ least_beyond (Some (u, p)) us
  first_beyond u p q cut h [] f = refl
  first_beyond u p q cut h (y ∷ ys) f =
      let a = f.0 in
      let below = first_beyond u p q cut h ys f.3 in
      let x = 4 * u + q + 1 in
      let by_test : (b : Bool) → before (u, p) y ≡ b → decode (first_from x (map code (y ∷ ys))) ≡ cond b (Some y) (least_beyond (Some (u, p)) ys)
      = elim [
        | true ↦ (λ e. ap (λ t. decode (cond t (first_from x (map code ys)) (code y))) (le-ltb (code y) x ((late u p q y cut h f.2 true e).0 refl)) ∙ decode_code y (omega arith) f.2)
        | false ↦ (λ e. ap (λ t. decode (cond t (first_from x (map code ys)) (code y))) (lt-ltb (code y) x ((late u p q y cut h f.2 false e).1 refl)) ∙ below)
      ]
      in by_test (before (u, p) y) refl

  first_none : (u p : ℕ) → size ≤ u → (us : List (ℕ × ℕ)) → Fine size us → least_beyond (Some (u, p)) us ≡ None
  first_none u p h [] f = refl
  first_none u p h (y ∷ ys) f =
      let a = f.0 in
      let no : before (u, p) y ≡ false = ap (λ t. t || (eqb u y.0 && ltb p y.1)) (le-ltb u y.0 (omega arith)) ∙ ap (λ t. t && ltb p y.1) (ne_eqb u y.0 (λ s. omega arith)) in
      ap (λ b. cond b (Some y) (least_beyond (Some (u, p)) ys)) no ∙ first_none u p h ys f.3

-- ---- of cells
module _ (xs : List LinkedCell) (is : Listed xs) (v : ℕ) (h : v < length xs) where
  abbrev us : List (ℕ × ℕ)
  us = uses_from v 0 (map content (bodies xs))

  listed : spots v 0 (table_in xs) ≡ map code us
  listed = let f = is.few in table_uses v (λ e. omega arith) 0 (map content (bodies xs))

  pub listed_length : length (spots v 0 (table_in xs)) ≡ length us
  listed_length = ap length listed ∙ length-map us code

  fine : Fine (length xs) us
  fine = let a = length-map (bodies xs) content in let b = length-map xs (λ c. c.body) in fine_from (length xs) v 0 (map content (bodies xs)) (omega arith)

  found : (x : ℕ) → get_or (links xs) (low x (4 * v) (spots v 0 (table_in xs))) 0 ≡ first_from x (map code us)
  found x = path_first (λ k. get_or (links xs) k 0) x (4 * v) (spots v 0 (table_in xs)) (is.paths v h) ∙ ap (first_from x) listed

  pub use_first : decode (get_or (links xs) (4 * v) 0) ≡ least_beyond None us
  use_first = ap (λ k. decode (get_or (links xs) k 0)) (sym (low_zero (4 * v) (spots v 0 (table_in xs)))) ∙ ap decode (found 0) ∙ first_all (length xs) is.few us fine

  pub use_beyond : (u p q : ℕ) → (q ≡ p) ⊎ ((q ≡ 3) × (4 ≤ p)) → q < 4 → decode (get_or (links xs) (low (4 * u + q + 1) (4 * v) (spots v 0 (table_in xs))) 0) ≡ least_beyond (Some (u, p)) us
  use_beyond u p q cut g = ap decode (found (4 * u + q + 1)) ∙ first_beyond (length xs) is.few u p q cut g us fine

  pub use_none : (u p : ℕ) → length xs ≤ u → least_beyond (Some (u, p)) us ≡ None
  use_none u p g = first_none (length xs) is.few u p g us fine

  pub at_use : (x : ℕ) → get_or (table_in xs) x 4096 ≡ v → x ≡ low (x + 1) (4 * v) (spots v 0 (table_in xs))
  at_use x e = let o = own_yes (length xs) (table_in xs) (links xs) is v x h e in sym (low_here x (4 * v) (spots v 0 (table_in xs)) (spots_climbs v 0 (table_in xs)) (omega arith))

  pub low_node : (x : ℕ) → low x (4 * v) (spots v 0 (table_in xs)) < 4 * length xs
  low_node x = node_low (length xs) (table_in xs) (links xs) is v (low x (4 * v) (spots v 0 (table_in xs))) h (low_in x (4 * v) (spots v 0 (table_in xs)))

-- ---- the operand at a node

pub operand_read : (xs : List LinkedCell) (x : Node) (d : LinkedCell) → x.number < length xs → (ops : List (Option ℕ)) → ops ≡ slots_of (content (get_or xs x.number d).body) → (k : ℕ) → k < 3 → seat_of x.seat ≡ suc k → entry (get_or ops k None) ≡ get_or (table_in xs) (place x) 4096
operand_read xs x d h ops are k l e =
    ap (λ os. entry (get_or os k None)) (are ∙ ap (λ b. slots_of (content b)) (body_read xs x.number d h))
    ∙ sym (row_entry (map content (bodies xs)) x.number k l ∙ ap (λ c. entry (get_or (slots_of c) k None)) (content_at (bodies xs) x.number))
    ∙ ap (λ p. get_or (table_in xs) (4 * x.number + p) 4096) (sym e)

pub head_read : (xs : List LinkedCell) (x : Node) → seat_of x.seat ≡ 0 → 4096 ≡ get_or (table_in xs) (place x) 4096
head_read xs x e = let z : place x ≡ 4 * x.number = omega arith in sym (ap (λ k. get_or (table_in xs) k 4096) z ∙ table_heads (map content (bodies xs)) x.number)

-- an operand that is v
pub same_entry : (o : Option ℕ) (v : ℕ) → option_eq eqb o (Some v) ≡ true → entry o ≡ v
same_entry None v e = let z : ◌≡◌ {A = ℕ} 0 1 = cc in absurd (omega arith)
same_entry (Some u) v e = eqb-true u v e

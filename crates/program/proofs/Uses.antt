-- Lists of uses: they ascend, have every use and no other, and are read from the least up.
use Rattle.std.proofs.Common.{◌≡◌, ℕ, zero, suc, ◌+◌, ◌≤◌, Bool, true, false, cond, ◌&&◌, eqb, ltb, ◌⊎◌, List, [], ◌∷◌, ◌++◌, get_or, Some, None, Option, sym, refl, ap, ◌∙◌, subst, inl, inr, ⊎_elim, arith}
use mathlib.Core.Bool.{false≢true}
use Rattle.std.specs.List.{AllByRecursion, slice_get}
use Rattle.std.proofs.lemmas.Bool.{ltb-true, lt-ltb, eqb-true, eq-eqb, and_parts, and_from, or_cases, or_left, or_right, cases_Bool, both_ways, cond-true, cond-false}
use Rattle.std.proofs.lemmas.List.{append_assoc}
use Rattle.ir.specs.Instructions.{Instr}
use Rattle.program.specs.Programs.{Program, Cell, cell, operands}
use Rattle.program.specs.Uses.{uses, uses_at, uses_by, uses_from, unused, before, beyond, least_beyond, Precedes, Ascending, Among, position, Use, Beyond, LeastUse, Reading, UsesLaw}

abbrev Pair : Type 0
Pair = ℕ × ℕ

all_map : (P Q : Pair → Type 0) → ((x : Pair) → P x → Q x) → (xs : List Pair) → AllByRecursion P xs → AllByRecursion Q xs
all_map P Q f [] a = tt
all_map P Q f (x ∷ xs) a = (f x a.0, all_map P Q f xs a.1)

all_append : (P : Pair → Type 0) (xs ys : List Pair) → AllByRecursion P xs → AllByRecursion P ys → AllByRecursion P (xs ++ ys)
all_append P [] ys a b = b
all_append P (x ∷ xs) ys a b = (a.0, all_append P xs ys a.1 b)

all_right : (P : Pair → Type 0) (xs ys : List Pair) → AllByRecursion P (xs ++ ys) → AllByRecursion P ys
all_right P [] ys a = a
all_right P (x ∷ xs) ys a = all_right P xs ys a.1

pub all_among : (P : Pair → Type 0) (y : Pair) (xs : List Pair) → AllByRecursion P xs → Among y xs → P y
all_among P y [] a h = absurd h
all_among P y (x ∷ xs) a h = ⊎_elim (λ e. subst P e a.0) (λ q. all_among P y xs a.1 q) h

pub among_append : (y : Pair) (xs ys : List Pair) → Among y (xs ++ ys) → Among y xs ⊎ Among y ys
among_append y [] ys h = inr h
among_append y (x ∷ xs) ys h = ⊎_elim (λ e. inl (inl e)) (λ q. ⊎_elim (λ z. inl (inr z)) (λ z. inr z) (among_append y xs ys q)) h

pub among_left : (y : Pair) (xs ys : List Pair) → Among y xs → Among y (xs ++ ys)
among_left y [] ys h = absurd h
among_left y (x ∷ xs) ys h = ⊎_elim (λ e. inl e) (λ q. inr (among_left y xs ys q)) h

pub among_right : (y : Pair) (xs ys : List Pair) → Among y ys → Among y (xs ++ ys)
among_right y [] ys h = h
among_right y (x ∷ xs) ys h = inr (among_right y xs ys h)

-- ---- ascending

ascending_append : (xs ys : List Pair) → Ascending xs → Ascending ys → AllByRecursion (λ x. AllByRecursion (Precedes x) ys) xs → Ascending (xs ++ ys)
ascending_append [] ys a b c = b
ascending_append (x ∷ xs) ys a b c = (all_append (Precedes x) xs ys a.0 c.0, ascending_append xs ys a.1 b c.1)

at_low : (v u k : ℕ) (xs : List ℕ) → AllByRecursion (λ y. (y.0 ≡ u) × (k ≤ y.1)) (uses_at v u k xs)
at_low v u k [] = tt
at_low v u k (x ∷ xs) =
    let P : Pair → Type 0 = λ y. (y.0 ≡ u) × (k ≤ y.1) in
    let rest : AllByRecursion P (uses_at v u (suc k) xs) = all_map (λ y. (y.0 ≡ u) × (suc k ≤ y.1)) P (λ y h. (h.0, omega arith)) (uses_at v u (suc k) xs) (at_low v u (suc k) xs) in
    elim (eqb x v) as (λ t. AllByRecursion P (cond t ((u, k) ∷ uses_at v u (suc k) xs) (uses_at v u (suc k) xs))) [
      | true ↦ ((refl, omega arith), rest)
      | false ↦ rest
    ]

at_ascends : (v u k : ℕ) (xs : List ℕ) → Ascending (uses_at v u k xs)
at_ascends v u k [] = tt
at_ascends v u k (x ∷ xs) =
    let rest : Ascending (uses_at v u (suc k) xs) = at_ascends v u (suc k) xs in
    let above : AllByRecursion (Precedes (u, k)) (uses_at v u (suc k) xs)
    = all_map (λ y. (y.0 ≡ u) × (suc k ≤ y.1)) (Precedes (u, k)) (λ y h. inr (sym h.0, omega arith)) (uses_at v u (suc k) xs) (at_low v u (suc k) xs) in
    elim (eqb x v) as (λ t. Ascending (cond t ((u, k) ∷ uses_at v u (suc k) xs) (uses_at v u (suc k) xs))) [
      | true ↦ (above, rest)
      | false ↦ rest
    ]

by_low : (v u : ℕ) (c : Cell) → AllByRecursion (λ y. y.0 ≡ u) (uses_by v u c)
by_low v u None = tt
by_low v u (Some i) = all_map (λ y. (y.0 ≡ u) × (1 ≤ y.1)) (λ y. y.0 ≡ u) (λ y h. h.0) (uses_at v u 1 (operands i)) (at_low v u 1 (operands i))

by_ascends : (v u : ℕ) (c : Cell) → Ascending (uses_by v u c)
by_ascends v u None = tt
by_ascends v u (Some i) = at_ascends v u 1 (operands i)

from_low : (v u : ℕ) (cs : List Cell) → AllByRecursion (λ y. u ≤ y.0) (uses_from v u cs)
from_low v u [] = tt
from_low v u (c ∷ cs) =
    all_append (λ y. u ≤ y.0) (uses_by v u c) (uses_from v (u + 1) cs)
    (all_map (λ y. y.0 ≡ u) (λ y. u ≤ y.0) (λ y h. omega arith) (uses_by v u c) (by_low v u c))
    (all_map (λ y. u + 1 ≤ y.0) (λ y. u ≤ y.0) (λ y h. omega arith) (uses_from v (u + 1) cs) (from_low v (u + 1) cs))

pub from_ascends : (v u : ℕ) (cs : List Cell) → Ascending (uses_from v u cs)
from_ascends v u [] = tt
from_ascends v u (c ∷ cs) =
    let tail : List Pair = uses_from v (u + 1) cs in
    ascending_append (uses_by v u c) tail (by_ascends v u c) (from_ascends v (u + 1) cs)
    (all_map (λ y. y.0 ≡ u) (λ x. AllByRecursion (Precedes x) tail)
    (λ x h. all_map (λ y. u + 1 ≤ y.0) (Precedes x) (λ y g. inl (omega arith)) tail (from_low v (u + 1) cs)) (uses_by v u c) (by_low v u c))

-- ---- every use and no other

in_at :
    (v u k w j : ℕ) (xs : List ℕ) → Among (w, j) (uses_at v u k xs) → (w ≡ u) × ((i : ℕ) × (j ≡ k + i) × (slice_get xs i ≡ Some v))
in_at v u k w j [] h = absurd h
in_at v u k w j (x ∷ xs) h =
    go (λ q. let r = in_at v u (suc k) w j xs q in let i : ℕ = r.1.0 in let e = r.1.1 in (r.0, (suc i, omega arith, r.1.2))) (eqb x v) refl h
  where
    go : (Among (w, j) (uses_at v u (suc k) xs) → (w ≡ u) × ((i : ℕ) × (j ≡ k + i) × (slice_get (x ∷ xs) i ≡ Some v)))
        → (t : Bool) → eqb x v ≡ t → Among (w, j) (cond t ((u, k) ∷ uses_at v u (suc k) xs) (uses_at v u (suc k) xs))
        → (w ≡ u) × ((i : ℕ) × (j ≡ k + i) × (slice_get (x ∷ xs) i ≡ Some v))
    go there true e g = ⊎_elim (λ q. (sym (ap (λ z. z.0) q), (0, (let z : k ≡ j = ap (λ z. z.1) q in omega arith), ap Some (eqb-true x v e)))) there g
    go there false e g = there g

at_in : (v u k j i : ℕ) (xs : List ℕ) → j ≡ k + i → slice_get xs i ≡ Some v → Among (u, j) (uses_at v u k xs)
at_in v u k j i [] e h = let z : ◌≡◌ {A = ℕ} 0 1 = cc in absurd (omega arith)
at_in v u k j zero (x ∷ xs) e h =
    let q : x ≡ v = cc in
    subst (λ t. Among (u, j) (cond t ((u, k) ∷ uses_at v u (suc k) xs) (uses_at v u (suc k) xs))) (sym (eq-eqb x v q))
    (inl (let z : k ≡ j = omega arith in ap (λ z. (u, z)) z))
at_in v u k j (suc i) (x ∷ xs) e h =
    let r : Among (u, j) (uses_at v u (suc k) xs) = at_in v u (suc k) j i xs (omega arith) h in
    elim (eqb x v) as (λ t. Among (u, j) (cond t ((u, k) ∷ uses_at v u (suc k) xs) (uses_at v u (suc k) xs))) [ true ↦ inr r | false ↦ r ]

pub in_by : (v u w j : ℕ) (c : Cell) → Among (w, j) (uses_by v u c) → (w ≡ u) × ((r : Instr) × (c ≡ Some r) × (position r j ≡ Some v))
in_by v u w j None h = absurd h
in_by v u w j (Some r) h =
    let q = in_at v u 1 w j (operands r) h in
    let i : ℕ = q.1.0 in
    let e = q.1.1 in
    let z : j ≡ suc i = omega arith in
    (q.0, (r, refl, ap (position r) z ∙ q.1.2))

pub by_in : (v u j : ℕ) (r : Instr) → position r j ≡ Some v → Among (u, j) (uses_by v u (Some r))
by_in v u zero r h = let z : ◌≡◌ {A = ℕ} 0 1 = cc in absurd (omega arith)
by_in v u (suc i) r h = at_in v u 1 (suc i) i (operands r) (omega arith) h

pub in_from :
    (v u w j : ℕ) (cs : List Cell) → Among (w, j) (uses_from v u cs)
    → (i : ℕ) × (w ≡ u + i) × ((r : Instr) × (get_or cs i None ≡ Some r) × (position r j ≡ Some v))
in_from v u w j [] h = absurd h
in_from v u w j (c ∷ cs) h =
    ⊎_elim
    (λ q. let r = in_by v u w j c q in let e = r.0 in (0, omega arith, r.1))
    (λ q. let r = in_from v (u + 1) w j cs q in let i : ℕ = r.0 in let e = r.1 in (suc i, omega arith, r.2))
    (among_append (w, j) (uses_by v u c) (uses_from v (u + 1) cs) h)

pub from_in :
    (v u w j i : ℕ) (r : Instr) (cs : List Cell) → w ≡ u + i → get_or cs i None ≡ Some r → position r j ≡ Some v
    → Among (w, j) (uses_from v u cs)
from_in v u w j i r [] e h g = let z : ◌≡◌ {A = ℕ} 0 1 = cc in absurd (omega arith)
from_in v u w j zero r (c ∷ cs) e h g =
    let z : u ≡ w = omega arith in
    among_left (w, j) (uses_by v u c) (uses_from v (u + 1) cs)
    (subst (λ m. Among (m, j) (uses_by v u c)) z (subst (λ d. Among (u, j) (uses_by v u d)) (sym h) (by_in v u j r g)))
from_in v u w j (suc i) r (c ∷ cs) e h g =
    among_right (w, j) (uses_by v u c) (uses_from v (u + 1) cs) (from_in v (u + 1) w j i r cs (omega arith) h g)

module _ (p : Program) (v : ℕ) where
  pub in_uses : (y : Pair) → Among y (uses p v) → Use p v y
  in_uses y h =
      let q = in_from v 0 y.0 y.1 p.cells h in
      let i : ℕ = q.0 in
      let e = q.1 in
      let z : y.0 ≡ i = omega arith in
      record { user = q.2.0; is = ap (λ m. cell p m) z ∙ q.2.1; reads = q.2.2 }

  pub uses_in : (y : Pair) → Use p v y → Among y (uses p v)
  uses_in y h = from_in v 0 y.0 y.1 y.0 h.user p.cells (omega arith) h.is h.reads

  -- no use, exactly if the list is empty
  pub unused_none : unused (uses p v) ≡ true → (y : Pair) → Use p v y → ⊥
  unused_none e y h = by_list (uses p v) e (uses_in y h)
    where
      by_list : (ys : List Pair) → unused ys ≡ true → Among y ys → ⊥
      by_list [] e h = h
      by_list (x ∷ xs) e h = false≢true e

  pub none_unused : ((y : Pair) → Use p v y → ⊥) → unused (uses p v) ≡ true
  none_unused f = by_list (uses p v) (λ y h. f y (in_uses y h))
    where
      by_list : (ys : List Pair) → ((y : Pair) → Among y ys → ⊥) → unused ys ≡ true
      by_list [] g = refl
      by_list (x ∷ xs) g = absurd (g x (inl refl))

-- ---- the least beyond a pair

before_true : (x y : Pair) → before x y ≡ true → Precedes x y
before_true x y e =
    ⊎_elim (λ q. inl (ltb-true x.0 y.0 q))
    (λ q. let h = and_parts (eqb x.0 y.0) (ltb x.1 y.1) q in inr (eqb-true x.0 y.0 h.0, ltb-true x.1 y.1 h.1))
    (or_cases (ltb x.0 y.0) (eqb x.0 y.0 && ltb x.1 y.1) e)

true_before : (x y : Pair) → Precedes x y → before x y ≡ true
true_before x y h =
    ⊎_elim (λ q. or_left (ltb x.0 y.0) (eqb x.0 y.0 && ltb x.1 y.1) (lt-ltb x.0 y.0 q))
    (λ q. or_right (ltb x.0 y.0) (eqb x.0 y.0 && ltb x.1 y.1)
    (and_from (eqb x.0 y.0) (ltb x.1 y.1) (eq-eqb x.0 y.0 q.0) (lt-ltb x.1 y.1 q.1))) h

beyond_true : (a : Option Pair) (y : Pair) → beyond a y ≡ true → Beyond a y
beyond_true None y e = tt
beyond_true (Some x) y e = before_true x y e

true_beyond : (a : Option Pair) (y : Pair) → Beyond a y → beyond a y ≡ true
true_beyond None y h = refl
true_beyond (Some x) y h = true_before x y h

abbrev Lowest : List Pair → Option Pair → Option Pair → Type 0
Lowest xs after None = (z : Pair) → Among z xs → Beyond after z → ⊥
Lowest xs after (Some y) = Among y xs × Beyond after y × ((z : Pair) → Among z xs → Beyond after z → (y ≡ z) ⊎ Precedes y z)

lowest : (after : Option Pair) (xs : List Pair) → Ascending xs → Lowest xs after (least_beyond after xs)
lowest after [] a = λ z h b. h
lowest after (x ∷ xs) a = go (lowest after xs a.1) (beyond after x) refl
  where
    later : beyond after x ≡ false → (o : Option Pair) → Lowest xs after o → Lowest (x ∷ xs) after o
    later e None l = λ z h b.
        ⊎_elim (λ q. both_ways (beyond after x) e (true_beyond after x (subst (Beyond after) (sym q) b))) (λ q. l z q b) h
    later e (Some y) l = (
      inr l.0,
      l.1,
      λ z h b.
          ⊎_elim (λ q. absurd (both_ways (beyond after x) e (true_beyond after x (subst (Beyond after) (sym q) b)))) (λ q. l.2 z q b) h,
    )

    go : Lowest xs after (least_beyond after xs) → (t : Bool) → beyond after x ≡ t → Lowest (x ∷ xs) after (cond t (Some x) (least_beyond after xs))
    go ih true e = (inl refl, beyond_true after x e, λ z h b. ⊎_elim (λ q. inl q) (λ q. inr (all_among (Precedes x) z xs a.0 q)) h)
    go ih false e = later e (least_beyond after xs) ih

module _ (p : Program) (v : ℕ) (after : Option Pair) where
  least_from : (o : Option Pair) → Lowest (uses p v) after o → LeastUse p v after o
  least_from None l = λ z h b. l z (uses_in p v z h) b
  least_from (Some y) l = (in_uses p v y l.0, l.1, λ z h b. l.2 z (uses_in p v z h) b)

-- ---- reading it all

least_skip : (after : Option Pair) (pre ys : List Pair) → AllByRecursion (λ x. beyond after x ≡ false) pre → least_beyond after (pre ++ ys) ≡ least_beyond after ys
least_skip after [] ys s = refl
least_skip after (x ∷ pre) ys s =
    cond-false (beyond after x) (Some x) (least_beyond after (pre ++ ys)) s.0 ∙ least_skip after pre ys s.1

lower : (pre : List Pair) (y : Pair) (ys : List Pair) → Ascending (pre ++ (y ∷ ys)) → AllByRecursion (λ x. Precedes x y) pre
lower [] y ys a = tt
lower (x ∷ pre) y ys a = ((all_right (Precedes x) pre (y ∷ ys) a.0).0, lower pre y ys a.1)

upper : (pre : List Pair) (y : Pair) (ys : List Pair) → Ascending (pre ++ (y ∷ ys)) → AllByRecursion (Precedes y) ys
upper [] y ys a = a.0
upper (x ∷ pre) y ys a = upper pre y ys a.1

not_before : (x y : Pair) → (Precedes x y → ⊥) → before x y ≡ false
not_before x y d = ⊎_elim (λ e. absurd (d (before_true x y e))) (λ e. e) (cases_Bool (before x y))

opposite : (x y : Pair) → Precedes x y → Precedes y x → ⊥
opposite x y h g = ⊎_elim (λ a. ⊎_elim (λ b. omega arith) (λ b. omega arith) g) (λ a. ⊎_elim (λ b. omega arith) (λ b. omega arith) g) h

itself : (y : Pair) → Precedes y y → ⊥
itself y h = ⊎_elim (λ a. omega arith) (λ a. omega arith) h

reads_on :
    (xs : List Pair) (after : Option Pair) (pre ys : List Pair) → xs ≡ pre ++ ys → Ascending (pre ++ ys)
    → AllByRecursion (λ x. beyond after x ≡ false) pre → AllByRecursion (λ y. beyond after y ≡ true) ys → Reading (λ a. least_beyond a xs) after ys
reads_on xs after pre [] e a s b = ap (least_beyond after) e ∙ least_skip after pre [] s
reads_on xs after pre (y ∷ ys) e a s b =
    let next : pre ++ (y ∷ ys) ≡ (pre ++ (y ∷ [])) ++ ys = sym (append_assoc pre (y ∷ []) ys) in (
      ap (least_beyond after) e ∙ (least_skip after pre (y ∷ ys) s ∙ cond-true (beyond after y) (Some y) (least_beyond after ys) b.0),
      reads_on xs (Some y) (pre ++ (y ∷ [])) ys (e ∙ next) (subst Ascending next a)
          (all_append (λ x. before y x ≡ false) pre (y ∷ [])
          (all_map (λ x. Precedes x y) (λ x. before y x ≡ false) (λ x h. not_before y x (λ g. opposite x y h g)) pre (lower pre y ys a))
          (not_before y y (itself y), tt))
          (all_map (Precedes y) (λ x. before y x ≡ true) (λ x h. true_before y x h) ys (upper pre y ys a)),
    )

all_beyond_none : (xs : List Pair) → AllByRecursion (λ y. beyond None y ≡ true) xs
all_beyond_none [] = tt
all_beyond_none (x ∷ xs) = (refl, all_beyond_none xs)

one_reading : (ask : Option Pair → Option Pair) (after : Option Pair) (ys zs : List Pair) → Reading ask after ys → Reading ask after zs → ys ≡ zs
one_reading ask after [] [] h g = refl
one_reading ask after [] (z ∷ zs) h g =
    let e : None ≡ Some z = sym h ∙ g.0 in let q : ◌≡◌ {A = ℕ} 0 1 = cc in absurd (omega arith)
one_reading ask after (y ∷ ys) [] h g =
    let e : None ≡ Some y = sym g ∙ h.0 in let q : ◌≡◌ {A = ℕ} 0 1 = cc in absurd (omega arith)
one_reading ask after (y ∷ ys) (z ∷ zs) h g =
    let e : Some y ≡ Some z = sym h.0 ∙ g.0 in
    let q : z ≡ y = cc in
    let r : ys ≡ zs = one_reading ask (Some y) ys zs h.1 (subst (λ x. Reading ask (Some x) zs) q g.1) in
    cc

pub uses_law : UsesLaw
uses_law p v =
    let xs : List Pair = uses p v in
    let up : Ascending xs = from_ascends v 0 p.cells in
    let all : Reading (λ a. least_beyond a xs) None xs = reads_on xs None [] xs refl up tt (all_beyond_none xs) in
    record {
      ascends = up;
      exactly = λ y. (in_uses p v y, uses_in p v y);
      least = λ after. least_from p v after (least_beyond after xs) (lowest after xs up);
      read = all;
      only = λ ys h. one_reading (λ a. least_beyond a xs) None ys xs h all;
    }

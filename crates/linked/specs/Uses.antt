-- The uses of each value, as the places where it stands in a table of operands.
use Rattle.std.specs.Prelude.{◌≡◌, ℕ, zero, suc, ◌+◌, ◌*◌, ◌<◌, ◌≤◌, true, false, cond, List, [], ◌∷◌, length, get_or, ◌==◌, ◌≢◌, nat_eq, nat_lt, slice_index, slice_index_or, slice_set, refl}
use Rattle.std.proofs.Common.{sym, ap, ◌∙◌, subst, ⊎_elim, arith, zero-add}
use Rattle.std.proofs.lemmas.List.{get_or-set_same, get_or-set_other, length-set, get_or_past}
use Rattle.std.proofs.lemmas.Bool.{cases_eq, cases_lt, eq-eqb, ne_eqb, lt-ltb, le-ltb}
use Rattle.linked.specs.Rings.{occurs}
use Rattle.linked.specs.Paths.{Path, Rising, Climbs, low, ins, del, Single, low_in, told, path_kept, path_in, path_out}

-- the places, from k on, at which v stands
abbrev pub spots : ℕ → ℕ → List ℕ → List ℕ
spots v k [] = []
spots v k (q ∷ qs) = cond (q == v) (k ∷ spots v (suc k) qs) (spots v (suc k) qs)

pub spots_low : (v k : ℕ) (qs : List ℕ) (j : ℕ) → j < k → occurs j (spots v k qs) ≡ 0
spots_low v k [] j h = refl
spots_low v k (q ∷ qs) j h =
    let below = spots_low v (suc k) qs j (omega arith) in
    let z : cond (k == j) 1 0 ≡ ◌+◌ 0 0 = ap (λ b. cond b 1 0) (ne_eqb k j (λ e. omega arith)) in
    elim (q == v) as (λ b. occurs j (cond b (k ∷ spots v (suc k) qs) (spots v (suc k) qs)) ≡ 0) [ true ↦ omega arith | false ↦ below ]

pub spots_at : (v k : ℕ) (qs : List ℕ) (i d : ℕ) → (d ≢ v) → occurs (k + i) (spots v k qs) ≡ cond (slice_index_or qs i d == v) 1 0
spots_at v k [] i d ne = ap (λ b. cond b 1 0) (sym (ne_eqb d v ne))
spots_at v k (q ∷ qs) zero d ne =
    let here : cond (k == k + 0) 1 0 ≡ ◌+◌ 1 0 = ap (λ b. cond b 1 0) (eq-eqb k (k + 0) (omega arith)) in
    let rest = spots_low v (suc k) qs (k + 0) (omega arith) in
    elim (q == v) as (λ b. occurs (k + 0) (cond b (k ∷ spots v (suc k) qs) (spots v (suc k) qs)) ≡ cond b 1 0) [ true ↦ omega arith | false ↦ rest ]
spots_at v k (q ∷ qs) (suc i) d ne =
    let off : cond (k == k + suc i) 1 0 ≡ ◌+◌ 0 0 = ap (λ b. cond b 1 0) (ne_eqb k (k + suc i) (λ e. omega arith)) in
    let same : k + suc i ≡ suc k + i = omega arith in
    let rest : occurs (k + suc i) (spots v (suc k) qs) ≡ cond (slice_index_or qs i d == v) 1 0 = ap (λ j. occurs j (spots v (suc k) qs)) same ∙ spots_at v (suc k) qs i d ne in
    elim (q == v) as (λ b. occurs (k + suc i) (cond b (k ∷ spots v (suc k) qs) (spots v (suc k) qs)) ≡ cond (slice_index_or qs i d == v) 1 0) [ true ↦ omega arith | false ↦ rest ]

pub spots_rising : (v k : ℕ) (qs : List ℕ) (f : ℕ) → f < k → Rising f (spots v k qs)
spots_rising v k [] f h = tt
spots_rising v k (q ∷ qs) f h =
    elim (q == v) as (λ b. Rising f (cond b (k ∷ spots v (suc k) qs) (spots v (suc k) qs))) [
      | true ↦ (h, spots_rising v (suc k) qs k (omega arith))
      | false ↦ spots_rising v (suc k) qs f (omega arith)
    ]

-- a write of another value's place
pub spots_else : (w k : ℕ) (qs : List ℕ) (i v d : ℕ) → (v ≢ w) → (slice_index_or qs i d ≢ w) → spots w k (slice_set qs i v) ≡ spots w k qs
spots_else w k [] i v d vw iw = refl
spots_else w k (q ∷ qs) zero v d vw iw =
    ap (λ b. cond b (k ∷ spots w (suc k) qs) (spots w (suc k) qs)) (ne_eqb v w vw ∙ sym (ne_eqb q w iw))
spots_else w k (q ∷ qs) (suc i) v d vw iw =
    ap (λ zs. cond (q == w) (k ∷ zs) zs) (spots_else w (suc k) qs i v d vw iw)

ins_low : (x k : ℕ) (ys : List ℕ) → Rising k ys → x ≤ k → ins x ys ≡ x ∷ ys
ins_low x k [] r h = refl
ins_low x k (y ∷ ys) r h = let a = r.0 in ap (λ b. cond b (y ∷ ins x ys) (x ∷ (y ∷ ys))) (le-ltb y x (omega arith))

-- one more place
pub spots_in : (v k : ℕ) (qs : List ℕ) (i d : ℕ) → i < length qs → (slice_index_or qs i d ≢ v) → spots v k (slice_set qs i v) ≡ ins (k + i) (spots v k qs)
spots_in v k [] i d h ne = absurd (omega arith)
spots_in v k (q ∷ qs) zero d h ne =
    let z : k + 0 ≡ k = omega arith in
    ap (λ b. cond b (k ∷ spots v (suc k) qs) (spots v (suc k) qs)) (eq-eqb v v refl)
    ∙ sym (ins_low k k (spots v (suc k) qs) (spots_rising v (suc k) qs k (omega arith)) (omega arith))
    ∙ ap (λ b. ins k (cond b (k ∷ spots v (suc k) qs) (spots v (suc k) qs))) (sym (ne_eqb q v ne))
    ∙ ap (λ j. ins j (cond (q == v) (k ∷ spots v (suc k) qs) (spots v (suc k) qs))) (sym z)
spots_in v k (q ∷ qs) (suc i) d h ne =
    let same : suc k + i ≡ k + suc i = omega arith in
    let rest : spots v (suc k) (slice_set qs i v) ≡ ins (k + suc i) (spots v (suc k) qs) = spots_in v (suc k) qs i d (omega arith) ne ∙ ap (λ j. ins j (spots v (suc k) qs)) same in
    let t : nat_lt k (k + suc i) ≡ true = lt-ltb k (k + suc i) (omega arith) in
    elim (q == v) as (λ b. cond b (k ∷ spots v (suc k) (slice_set qs i v)) (spots v (suc k) (slice_set qs i v)) ≡ ins (k + suc i) (cond b (k ∷ spots v (suc k) qs) (spots v (suc k) qs))) [
      | true ↦ ap (λ zs. k ∷ zs) rest ∙ sym (ap (λ b. cond b (k ∷ ins (k + suc i) (spots v (suc k) qs)) ((k + suc i) ∷ (k ∷ spots v (suc k) qs))) t)
      | false ↦ rest
    ]

-- one place less
pub spots_out : (v k : ℕ) (qs : List ℕ) (i u d : ℕ) → i < length qs → slice_index_or qs i d ≡ v → (u ≢ v) → spots v k (slice_set qs i u) ≡ del (k + i) (spots v k qs)
spots_out v k [] i u d h e ne = absurd (omega arith)
spots_out v k (q ∷ qs) zero u d h e ne =
    let z : nat_eq k (k + 0) ≡ true = eq-eqb k (k + 0) (omega arith) in
    ap (λ b. cond b (k ∷ spots v (suc k) qs) (spots v (suc k) qs)) (ne_eqb u v ne)
    ∙ sym (ap (λ b. cond b (spots v (suc k) qs) (k ∷ del (k + 0) (spots v (suc k) qs))) z)
    ∙ ap (λ b. del (k + 0) (cond b (k ∷ spots v (suc k) qs) (spots v (suc k) qs))) (sym (eq-eqb q v e))
spots_out v k (q ∷ qs) (suc i) u d h e ne =
    let same : suc k + i ≡ k + suc i = omega arith in
    let rest : spots v (suc k) (slice_set qs i u) ≡ del (k + suc i) (spots v (suc k) qs) = spots_out v (suc k) qs i u d (omega arith) e ne ∙ ap (λ j. del j (spots v (suc k) qs)) same in
    let t : nat_eq k (k + suc i) ≡ false = ne_eqb k (k + suc i) (λ q. omega arith) in
    elim (q == v) as (λ b. cond b (k ∷ spots v (suc k) (slice_set qs i u)) (spots v (suc k) (slice_set qs i u)) ≡ del (k + suc i) (cond b (k ∷ spots v (suc k) qs) (spots v (suc k) qs))) [
      | true ↦ ap (λ zs. k ∷ zs) rest ∙ sym (ap (λ b. cond b (spots v (suc k) qs) (k ∷ del (k + suc i) (spots v (suc k) qs))) t)
      | false ↦ rest
    ]

pub spots_climbs : (v k : ℕ) (qs : List ℕ) → Climbs (spots v k qs)
spots_climbs v k [] = tt
spots_climbs v k (q ∷ qs) =
    elim (q == v) as (λ b. Climbs (cond b (k ∷ spots v (suc k) qs) (spots v (suc k) qs))) [
      | true ↦ spots_rising v (suc k) qs k (omega arith)
      | false ↦ spots_climbs v (suc k) qs
    ]

-- the links thread each value's uses; qs has at 4 * user + position the operand there, or 4096
pub record Threaded (size : ℕ) (qs ls : List ℕ) : Type 0 where
  pub wide_table : length qs ≡ 4 * size
  pub wide : length ls ≡ 4 * size
  pub few : size ≤ 1024
  pub heads : (v : ℕ) → v < size → slice_index_or qs (4 * v) 4096 ≡ 4096
  pub paths : (v : ℕ) → v < size → Path (λ k. slice_index ls k) (4 * v) (spots v 0 qs)

module _ (size : ℕ) (qs ls : List ℕ) (is : Threaded size qs ls) where
  far : (v : ℕ) → v < size → 4096 ≢ v
  far v h e = let f = is.few in omega arith

  pub own : (v k : ℕ) → v < size → occurs k (spots v 0 qs) ≡ cond (slice_index_or qs k 4096 == v) 1 0
  own v k h = ap (λ j. occurs j (spots v 0 qs)) (sym (zero-add k)) ∙ spots_at v 0 qs k 4096 (far v h)

  pub own_yes : (v k : ℕ) → v < size → slice_index_or qs k 4096 ≡ v → occurs k (spots v 0 qs) ≡ 1
  own_yes v k h e = own v k h ∙ ap (λ b. cond b 1 0) (eq-eqb (slice_index_or qs k 4096) v e)

  pub own_not : (v k : ℕ) → v < size → (slice_index_or qs k 4096 ≢ v) → occurs k (spots v 0 qs) ≡ 0
  own_not v k h ne = own v k h ∙ ap (λ b. cond b 1 0) (ne_eqb (slice_index_or qs k 4096) v ne)

  pub own_of : (v k : ℕ) → v < size → 0 < occurs k (spots v 0 qs) → slice_index_or qs k 4096 ≡ v
  own_of v k h i = ⊎_elim (λ e. e) (λ ne. let z = own_not v k h ne in absurd (omega arith)) (cases_eq (slice_index_or qs k 4096) v)

  head_not : (u v : ℕ) → u < size → v < size → occurs (4 * u) (spots v 0 qs) ≡ 0
  head_not u v h g = own_not v (4 * u) g (λ e. far v g (sym (is.heads u h) ∙ e))

  pub single : (v : ℕ) → v < size → Single (4 * v ∷ spots v 0 qs)
  single v h k =
      ⊎_elim
      (λ e.
      let z : occurs k (spots v 0 qs) ≡ 0 = ap (λ j. occurs j (spots v 0 qs)) (sym e) ∙ head_not v v h h in
      let t : cond (4 * v == k) 1 0 ≡ ◌+◌ 1 0 = ap (λ b. cond b 1 0) (eq-eqb (4 * v) k e) in
      omega arith)
      (λ ne.
      let t : cond (4 * v == k) 1 0 ≡ ◌+◌ 0 0 = ap (λ b. cond b 1 0) (ne_eqb (4 * v) k ne) in
      ⊎_elim (λ e. let z = own_yes v k h e in omega arith) (λ no. let z = own_not v k h no in omega arith) (cases_eq (slice_index_or qs k 4096) v))
      (cases_eq (4 * v) k)

  -- a node of one value's list is none of another's
  pub other_list : (u v k : ℕ) → u < size → v < size → (u ≢ v) → 0 < occurs k (4 * v ∷ spots v 0 qs) → occurs k (4 * u ∷ spots u 0 qs) ≡ 0
  other_list u v k h g ne i =
      ⊎_elim
      (λ e.
      let t : cond (4 * u == k) 1 0 ≡ ◌+◌ 0 0 = ap (λ b. cond b 1 0) (ne_eqb (4 * u) k (λ q. ne (omega arith))) in
      let z : occurs k (spots u 0 qs) ≡ 0 = ap (λ j. occurs j (spots u 0 qs)) (sym e) ∙ head_not v u g h in
      omega arith)
      (λ no.
      let t : cond (4 * v == k) 1 0 ≡ ◌+◌ 0 0 = ap (λ b. cond b 1 0) (ne_eqb (4 * v) k no) in
      let mine = own_of v k g (omega arith) in
      let z : occurs k (spots u 0 qs) ≡ 0 = own_not u k h (λ e. ne (sym e ∙ mine)) in
      let s : cond (4 * u == k) 1 0 ≡ ◌+◌ 0 0 = ap (λ b. cond b 1 0) (ne_eqb (4 * u) k (λ q. far v g (sym (is.heads u h) ∙ ap (λ j. get_or qs j 4096) q ∙ mine))) in
      omega arith)
      (cases_eq (4 * v) k)

  -- every node is a place of the links
  pub node_low : (v k : ℕ) → v < size → 0 < occurs k (4 * v ∷ spots v 0 qs) → k < 4 * size
  node_low v k h i =
      ⊎_elim
      (λ e. omega arith)
      (λ no.
      let t : cond (4 * v == k) 1 0 ≡ ◌+◌ 0 0 = ap (λ b. cond b 1 0) (ne_eqb (4 * v) k no) in
      let mine = own_of v k h (omega arith) in
      let w = is.wide_table in
      ⊎_elim (λ l. omega arith) (λ past. absurd (far v h (sym (get_or_past qs k 4096 past) ∙ mine))) (cases_lt k (length qs)))
      (cases_eq (4 * v) k)

  -- ---- a use of v at x goes into v's list
  module _ (v x : ℕ) (h : v < size) (hx : x < 4 * size) (plain : (u : ℕ) → x ≢ 4 * u) (free : get_or qs x 4096 ≡ 4096) where
    abbrev w : ℕ
    w = low x (4 * v) (spots v 0 qs)

    x_out : (u : ℕ) → u < size → occurs x (4 * u ∷ spots u 0 qs) ≡ 0
    x_out u g =
        let z = own_not u x g (λ e. far u g (sym free ∙ e)) in
        let t : cond (4 * u == x) 1 0 ≡ ◌+◌ 0 0 = ap (λ b. cond b 1 0) (ne_eqb (4 * u) x (λ q. plain u (sym q))) in
        omega arith

    pub w_low : w < 4 * size
    w_low = node_low v w h (low_in x (4 * v) (spots v 0 qs))

    pub w_not : w ≡ x → ⊥
    w_not = told w x (4 * v ∷ spots v 0 qs) (low_in x (4 * v) (spots v 0 qs)) (x_out v h)

    abbrev after : List ℕ
    after = slice_set (slice_set ls x (slice_index ls w)) w x

    to_x : get_or after w 0 ≡ x
    to_x = let l = length-set ls x (slice_index ls w) in let a = w_low in let b = is.wide in get_or-set_same (slice_set ls x (slice_index ls w)) w x 0 (omega arith)

    from_x : get_or after x 0 ≡ slice_index ls w
    from_x = let b = is.wide in get_or-set_other (slice_set ls x (slice_index ls w)) w x x 0 (λ e. w_not (sym e)) ∙ get_or-set_same ls x (slice_index ls w) 0 (omega arith)

    else : (k : ℕ) → (k ≢ w) → (k ≢ x) → slice_index after k ≡ slice_index ls k
    else k kw kx = get_or-set_other (slice_set ls x (slice_index ls w)) w k x 0 kw ∙ get_or-set_other ls x k (slice_index ls w) 0 kx

    pub thread_in : Threaded size (slice_set qs x v) after
    thread_in = record {
      wide_table = length-set qs x v ∙ is.wide_table;
      wide = length-set (slice_set ls x (slice_index ls w)) w x ∙ length-set ls x (slice_index ls w) ∙ is.wide;
      few = is.few;
      heads = λ u g. get_or-set_other qs x (4 * u) v 4096 (λ e. plain u (sym e)) ∙ is.heads u g;
      paths = λ u g.
          ⊎_elim
          (λ e.
          let wide = is.wide_table in
          let z : 0 + x ≡ x = zero-add x in
          let list : spots v 0 (slice_set qs x v) ≡ ins x (spots v 0 qs) = spots_in v 0 qs x 4096 (omega arith) (λ q. far v h (sym free ∙ q)) ∙ ap (λ j. ins j (spots v 0 qs)) z in
          subst (λ t. Path (λ k. slice_index after k) (4 * t) (spots t 0 (slice_set qs x v))) (sym e)
          (subst (λ ys. Path (λ k. slice_index after k) (4 * v) ys) (sym list)
          (path_in (λ k. slice_index ls k) (λ k. slice_index after k) x (4 * v) (spots v 0 qs) (is.paths v h) (single v h) (x_out v h) to_x from_x else)))
          (λ ne.
          let list : spots u 0 (slice_set qs x v) ≡ spots u 0 qs = spots_else u 0 qs x v 4096 (λ q. ne (sym q)) (λ q. far u g (sym free ∙ q)) in
          let w_out = other_list u v w g h ne (low_in x (4 * v) (spots v 0 qs)) in
          subst (λ ys. Path (λ k. slice_index after k) (4 * u) ys) (sym list)
          (path_kept (λ k. slice_index ls k) (λ k. slice_index after k) (4 * u) (spots u 0 qs) (is.paths u g)
          (λ k i. else k (told k w (4 * u ∷ spots u 0 qs) i w_out) (told k x (4 * u ∷ spots u 0 qs) i (x_out u g)))))
          (cases_eq u v);
    }

  -- ---- the use of v at x goes out of v's list
  module _ (v x : ℕ) (h : v < size) (used : get_or qs x 4096 ≡ v) where
    abbrev w_out : ℕ
    w_out = low x (4 * v) (spots v 0 qs)

    pub x_low : x < 4 * size
    x_low = let w = is.wide_table in ⊎_elim (λ l. omega arith) (λ past. absurd (far v h (sym (get_or_past qs x 4096 past) ∙ used))) (cases_lt x (length qs))

    x_in : 0 < occurs x (spots v 0 qs)
    x_in = let e = own_yes v x h used in omega arith

    pub w_out_low : w_out < 4 * size
    w_out_low = node_low v w_out h (low_in x (4 * v) (spots v 0 qs))

    abbrev left : List ℕ
    left = slice_set ls w_out (slice_index ls x)

    over : get_or left w_out 0 ≡ slice_index ls x
    over = let a = w_out_low in let b = is.wide in get_or-set_same ls w_out (slice_index ls x) 0 (omega arith)

    rest : (k : ℕ) → (k ≢ w_out) → slice_index left k ≡ slice_index ls k
    rest k kw = get_or-set_other ls w_out k (slice_index ls x) 0 kw

    pub thread_out : Threaded size (slice_set qs x 4096) left
    thread_out = record {
      wide_table = length-set qs x 4096 ∙ is.wide_table;
      wide = length-set ls w_out (slice_index ls x) ∙ is.wide;
      few = is.few;
      heads = λ u g. get_or-set_other qs x (4 * u) 4096 4096 (λ e. far v h (sym (is.heads u g) ∙ ap (λ j. get_or qs j 4096) e ∙ used)) ∙ is.heads u g;
      paths = λ u g.
          ⊎_elim
          (λ e.
          let wide = is.wide_table in
          let low_x = x_low in
          let list : spots v 0 (slice_set qs x 4096) ≡ del x (spots v 0 qs) = spots_out v 0 qs x 4096 4096 (omega arith) used (far v h) ∙ ap (λ j. del j (spots v 0 qs)) (zero-add x) in
          subst (λ t. Path (λ k. slice_index left k) (4 * t) (spots t 0 (slice_set qs x 4096))) (sym e)
          (subst (λ ys. Path (λ k. slice_index left k) (4 * v) ys) (sym list)
          (path_out (λ k. slice_index ls k) (λ k. slice_index left k) x (4 * v) (spots v 0 qs) (is.paths v h) (spots_climbs v 0 qs) (single v h) x_in over rest)))
          (λ ne.
          let list : spots u 0 (slice_set qs x 4096) ≡ spots u 0 qs = spots_else u 0 qs x 4096 4096 (far u g) (λ q. ne (sym q ∙ used)) in
          let off = other_list u v w_out g h ne (low_in x (4 * v) (spots v 0 qs)) in
          subst (λ ys. Path (λ k. slice_index left k) (4 * u) ys) (sym list)
          (path_kept (λ k. slice_index ls k) (λ k. slice_index left k) (4 * u) (spots u 0 qs) (is.paths u g)
          (λ k i. rest k (told k w_out (4 * u ∷ spots u 0 qs) i off))))
          (cases_eq u v);
    }

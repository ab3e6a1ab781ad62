-- A doubly linked ring, by a function to the next node and one to the node before.
use Rattle.std.specs.Prelude.{◌≡◌, ℕ, zero, suc, ◌+◌, ◌<◌, cond, ◌⊎◌, List, [], ◌∷◌, ◌++◌, length, ◌==◌, ◌≢◌, refl}
use Rattle.std.proofs.Common.{sym, ap, ◌∙◌, inl, inr, ⊎_elim, append-nil, arith}
use Rattle.std.proofs.lemmas.Bool.{eq-eqb}

-- how often n stands in a list
abbrev pub occurs : ℕ → List ℕ → ℕ
occurs n [] = 0
occurs n (x ∷ xs) = cond (x == n) 1 0 + occurs n xs

-- k nodes from a on
abbrev pub trail : (ℕ → ℕ) → ℕ → ℕ → List ℕ
trail nx zero a = []
trail nx (suc k) a = a ∷ trail nx k (nx a)

-- from x to z by way of the nodes of a list
abbrev pub Ring : (ℕ → ℕ) → (ℕ → ℕ) → ℕ → List ℕ → ℕ → Type 0
Ring nx pv x [] z = (nx x ≡ z) × (pv z ≡ x)
Ring nx pv x (y ∷ ys) z = (nx x ≡ y) × (pv y ≡ x) × Ring nx pv y ys z

pub occurs_append : (n : ℕ) (xs ys : List ℕ) → occurs n (xs ++ ys) ≡ occurs n xs + occurs n ys
occurs_append n [] ys = omega arith
occurs_append n (x ∷ xs) ys = let e = occurs_append n xs ys in omega arith

occurs_same : (n : ℕ) → cond (n == n) 1 0 ≡ ◌+◌ 1 0
occurs_same n = ap (λ b. cond b 1 0) (eq-eqb n n refl)

pub occurs_here : (n : ℕ) (xs : List ℕ) → occurs n (n ∷ xs) ≡ 1 + occurs n xs
occurs_here n xs = let e = occurs_same n in omega arith

-- what does not stand in a list is not its first, and not in its rest
pub absent_head : (n x : ℕ) (xs : List ℕ) → occurs n (x ∷ xs) ≡ 0 → x ≢ n
absent_head n x xs e same = let h : cond (x == n) 1 0 ≡ ◌+◌ 1 0 = ap (λ b. cond b 1 0) (eq-eqb x n same) in omega arith

pub absent_rest : (n x : ℕ) (xs : List ℕ) → occurs n (x ∷ xs) ≡ 0 → occurs n xs ≡ 0
absent_rest n x xs e = omega arith

module _ (nx pv : ℕ → ℕ) where
  pub trail_ring : (x : ℕ) (ys : List ℕ) (z : ℕ) → Ring nx pv x ys z → trail nx (length ys) (nx x) ≡ ys
  trail_ring x [] z r = refl
  trail_ring x (y ∷ ys) z r =
      ap (λ a. a ∷ trail nx (length ys) (nx a)) r.0 ∙ ap (λ t. y ∷ t) (trail_ring y ys z r.2)

  pub ring_join : (x : ℕ) (l : List ℕ) (t : ℕ) (r : List ℕ) (z : ℕ) → Ring nx pv x l t → Ring nx pv t r z → Ring nx pv x (l ++ (t ∷ r)) z
  ring_join x [] t r z a b = (a.0, a.1, b)
  ring_join x (y ∷ ys) t r z a b = (a.0, a.1, ring_join y ys t r z a.2 b)

  pub ring_left : (x : ℕ) (l : List ℕ) (t : ℕ) (r : List ℕ) (z : ℕ) → Ring nx pv x (l ++ (t ∷ r)) z → Ring nx pv x l t
  ring_left x [] t r z a = (a.0, a.1)
  ring_left x (y ∷ ys) t r z a = (a.0, a.1, ring_left y ys t r z a.2)

  pub ring_right : (x : ℕ) (l : List ℕ) (t : ℕ) (r : List ℕ) (z : ℕ) → Ring nx pv x (l ++ (t ∷ r)) z → Ring nx pv t r z
  ring_right x [] t r z a = a.2
  ring_right x (y ∷ ys) t r z a = ring_right y ys t r z a.2

  -- the node before the end leads there, and is the start or one of the list
  pub ring_before : (x : ℕ) (l : List ℕ) (t : ℕ) → Ring nx pv x l t → (nx (pv t) ≡ t) × ((pv t ≡ x) ⊎ (0 < occurs (pv t) l))
  ring_before x [] t a = (ap nx a.1 ∙ a.0, inl a.1)
  ring_before x (y ∷ ys) t a =
      let below = ring_before y ys t a.2 in (
        below.0,
        ⊎_elim
            (λ e. inr (let h : cond (y == pv t) 1 0 ≡ ◌+◌ 1 0 = ap (λ b. cond b 1 0) (eq-eqb y (pv t) (sym e)) in omega arith))
            (λ h. inr (omega arith))
            below.1,
      )

  -- the node after the start
  pub ring_after : (x : ℕ) (l : List ℕ) (z : ℕ) → Ring nx pv x l z → (pv (nx x) ≡ x) × ((nx x ≡ z) ⊎ (0 < occurs (nx x) l))
  ring_after x [] z a = (ap pv a.0 ∙ a.1, inl a.0)
  ring_after x (y ∷ ys) z a =
      (ap pv a.0 ∙ a.1, inr (let h : cond (y == nx x) 1 0 ≡ ◌+◌ 1 0 = ap (λ b. cond b 1 0) (eq-eqb y (nx x) (sym a.0)) in omega arith))

-- n goes between m and t
pub record Spliced (nx pv nx' pv' : ℕ → ℕ) (m n t : ℕ) : Type 0 where
  pub to_t : nx m ≡ t
  pub to_m : pv t ≡ m
  pub next_m : nx' m ≡ n
  pub next_n : nx' n ≡ t
  pub next_else : (k : ℕ) → (k ≢ m) → (k ≢ n) → nx' k ≡ nx k
  pub prev_t : pv' t ≡ n
  pub prev_n : pv' n ≡ m
  pub prev_else : (k : ℕ) → (k ≢ t) → (k ≢ n) → pv' k ≡ pv k

module _ (nx pv nx' pv' : ℕ → ℕ) (m n t : ℕ) (s : Spliced nx pv nx' pv' m n t) where
  kept_next : (x y : ℕ) → nx x ≡ y → (y ≢ t) → (x ≢ n) → nx' x ≡ y
  kept_next x y a yt xn = s.next_else x (λ e. yt (sym a ∙ ap nx e ∙ s.to_t)) xn ∙ a

  kept_prev : (x y : ℕ) → pv y ≡ x → (y ≢ t) → (y ≢ n) → pv' y ≡ x
  kept_prev x y a yt yn = s.prev_else y yt yn ∙ a

  pub splice_else : (x : ℕ) (ys : List ℕ) (z : ℕ) → Ring nx pv x ys z → (x ≢ n) → occurs n ys ≡ 0 → (z ≢ n) → occurs t ys ≡ 0 → (z ≢ t) → Ring nx' pv' x ys z
  splice_else x [] z a xn on zn ot zt = (kept_next x z a.0 zt xn, kept_prev x z a.1 zt zn)
  splice_else x (y ∷ ys) z a xn on zn ot zt =
      let yn = absent_head n y ys on in
      let yt = absent_head t y ys ot in
      (kept_next x y a.0 yt xn, kept_prev x y a.1 yt yn, splice_else y ys z a.2 yn (absent_rest n y ys on) zn (absent_rest t y ys ot) zt)

  pub splice_end : (x : ℕ) (ys : List ℕ) → Ring nx pv x ys t → (x ≢ n) → occurs n ys ≡ 0 → occurs t ys ≡ 0 → Ring nx' pv' x (ys ++ (n ∷ [])) t
  splice_end x [] a xn on ot =
      let e : m ≡ x = sym s.to_m ∙ a.1 in
      (ap nx' (sym e) ∙ s.next_m, s.prev_n ∙ e, (s.next_n, s.prev_t))
  splice_end x (y ∷ ys) a xn on ot =
      let yn = absent_head n y ys on in
      let yt = absent_head t y ys ot in
      (kept_next x y a.0 yt xn, kept_prev x y a.1 yt yn, splice_end y ys a.2 yn (absent_rest n y ys on) (absent_rest t y ys ot))

-- n, which stands between m and t, goes out
pub record Unspliced (nx pv nx' pv' : ℕ → ℕ) (m n t : ℕ) : Type 0 where
  pub to_n : nx m ≡ n
  pub to_m : pv n ≡ m
  pub from_n : nx n ≡ t
  pub from_t : pv t ≡ n
  pub next_m : nx' m ≡ t
  pub next_else : (k : ℕ) → (k ≢ m) → nx' k ≡ nx k
  pub prev_t : pv' t ≡ m
  pub prev_else : (k : ℕ) → (k ≢ t) → pv' k ≡ pv k

module _ (nx pv nx' pv' : ℕ → ℕ) (m n t : ℕ) (s : Unspliced nx pv nx' pv' m n t) where
  left_next : (x y : ℕ) → nx x ≡ y → (y ≢ n) → nx' x ≡ y
  left_next x y a yn = s.next_else x (λ e. yn (sym a ∙ ap nx e ∙ s.to_n)) ∙ a

  left_prev : (x y : ℕ) → pv y ≡ x → (x ≢ n) → pv' y ≡ x
  left_prev x y a xn = s.prev_else y (λ e. xn (sym a ∙ ap pv e ∙ s.from_t)) ∙ a

  pub unsplice_else : (x : ℕ) (ys : List ℕ) (z : ℕ) → Ring nx pv x ys z → (x ≢ n) → occurs n ys ≡ 0 → (z ≢ n) → Ring nx' pv' x ys z
  unsplice_else x [] z a xn on zn = (left_next x z a.0 zn, left_prev x z a.1 xn)
  unsplice_else x (y ∷ ys) z a xn on zn =
      let yn = absent_head n y ys on in
      (left_next x y a.0 yn, left_prev x y a.1 xn, unsplice_else y ys z a.2 yn (absent_rest n y ys on) zn)

  pub unsplice_end : (x : ℕ) (ys : List ℕ) → Ring nx pv x ys n → (x ≢ n) → occurs n ys ≡ 0 → Ring nx' pv' x ys t
  unsplice_end x [] a xn on =
      let e : m ≡ x = sym s.to_m ∙ a.1 in
      (ap nx' (sym e) ∙ s.next_m, s.prev_t ∙ e)
  unsplice_end x (y ∷ ys) a xn on =
      let yn = absent_head n y ys on in
      (left_next x y a.0 yn, left_prev x y a.1 xn, unsplice_end y ys a.2 yn (absent_rest n y ys on))

  -- all of the ring
  pub unsplice : (x : ℕ) (l r : List ℕ) (z : ℕ) → Ring nx pv x l n → Ring nx pv n r z → (x ≢ n) → occurs n l ≡ 0 → occurs n r ≡ 0 → (z ≢ n) → Ring nx' pv' x (l ++ r) z
  unsplice x l [] z a b xn ol or zn =
      let e : t ≡ z = sym s.from_n ∙ b.0 in
      rw append-nil (rw e at (unsplice_end x l a xn ol))
  unsplice x l (y ∷ ys) z a b xn ol or zn =
      let e : t ≡ y = sym s.from_n ∙ b.0 in
      let yn = absent_head n y ys or in
      ring_join nx' pv' x l y ys z (rw e at (unsplice_end x l a xn ol)) (unsplice_else y ys z b.2 yn (absent_rest n y ys or) zn)

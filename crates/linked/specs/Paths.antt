-- A singly linked list, by a function to the next node; 4096 ends it.
use Rattle.std.specs.Prelude.{◌≡◌, ℕ, ◌+◌, ◌<◌, ◌≤◌, Bool, true, false, cond, ltb, List, [], ◌∷◌, ◌==◌, ◌≢◌, nat_lt, refl}
use Rattle.std.proofs.Common.{sym, ap, ◌∙◌, subst, ⊎_elim, arith}
use Rattle.std.proofs.lemmas.Bool.{cases_eq, eq-eqb, ne_eqb, lt-ltb, le-ltb}
use Rattle.linked.specs.Rings.{occurs, occurs_here, absent_head, absent_rest}

-- the list follows the node x, and 4096 follows the list
abbrev pub Path : (ℕ → ℕ) → ℕ → List ℕ → Type 0
Path s x [] = s x ≡ 4096
Path s x (y ∷ ys) = (s x ≡ y) × Path s y ys

-- the list ascends from above k
abbrev pub Rising : ℕ → List ℕ → Type 0
Rising k [] = Unit {0}
Rising k (y ∷ ys) = (k < y) × Rising y ys

-- the list ascends
abbrev pub Climbs : List ℕ → Type 0
Climbs [] = Unit {0}
Climbs (y ∷ ys) = Rising y ys

pub climbs_rest : (k : ℕ) (ys : List ℕ) → Rising k ys → Climbs ys
climbs_rest k [] r = tt
climbs_rest k (y ∷ ys) r = r.1

-- the last node below x, of a rising list after the node h
abbrev pub low : ℕ → ℕ → List ℕ → ℕ
low x h [] = h
low x h (y ∷ ys) = cond (nat_lt y x) (low x y ys) h

-- x put into an ascending list
abbrev pub ins : ℕ → List ℕ → List ℕ
ins x [] = x ∷ []
ins x (y ∷ ys) = cond (nat_lt y x) (y ∷ ins x ys) (x ∷ (y ∷ ys))

-- x taken out of a list
abbrev pub del : ℕ → List ℕ → List ℕ
del x [] = []
del x (y ∷ ys) = cond (y == x) ys (y ∷ del x ys)

pub low_in : (x h : ℕ) (ys : List ℕ) → 0 < occurs (low x h ys) (h ∷ ys)
low_in x h [] = let e = occurs_here h [] in omega arith
low_in x h (y ∷ ys) =
    let below = low_in x y ys in
    let here = occurs_here h (y ∷ ys) in
    elim (nat_lt y x) as (λ b. 0 < occurs (cond b (low x y ys) h) (h ∷ (y ∷ ys))) [ true ↦ omega arith | false ↦ omega arith ]

-- no node twice
abbrev pub Single : List ℕ → Type 0
Single xs = (k : ℕ) → occurs k xs ≤ 1

pub single_rest : (h : ℕ) (ys : List ℕ) → Single (h ∷ ys) → Single ys
single_rest h ys one k = let o = one k in omega arith

pub single_head : (h : ℕ) (ys : List ℕ) → Single (h ∷ ys) → occurs h ys ≡ 0
single_head h ys one = let o = one h in let e = occurs_here h ys in omega arith

-- what stands in a list is not what does not
pub told : (k j : ℕ) (xs : List ℕ) → 0 < occurs k xs → occurs j xs ≡ 0 → k ≢ j
told k j xs i o e = let q = ap (λ n. occurs n xs) e in omega arith

module _ (s s' : ℕ → ℕ) where
  pub path_kept : (h : ℕ) (ys : List ℕ) → Path s h ys → ((k : ℕ) → 0 < occurs k (h ∷ ys) → s' k ≡ s k) → Path s' h ys
  path_kept h [] p same = same h (let e = occurs_here h [] in omega arith) ∙ p
  path_kept h (y ∷ ys) p same =
      (same h (let e = occurs_here h (y ∷ ys) in omega arith) ∙ p.0, path_kept y ys p.1 (λ k i. same k (omega arith)))

  -- from another node on
  pub path_moved : (h x : ℕ) (ys : List ℕ) → Path s x ys → s' h ≡ s x → ((k : ℕ) → 0 < occurs k ys → s' k ≡ s k) → Path s' h ys
  path_moved h x [] p e same = e ∙ p
  path_moved h x (y ∷ ys) p e same = (e ∙ p.0, path_kept y ys p.1 same)

  pub path_in : (x : ℕ) (h : ℕ) (ys : List ℕ) → Path s h ys → Single (h ∷ ys) → occurs x (h ∷ ys) ≡ 0
      → s' (low x h ys) ≡ x → s' x ≡ s (low x h ys)
      → ((k : ℕ) → (k ≢ low x h ys) → (k ≢ x) → s' k ≡ s k)
      → Path s' h (ins x ys)
  path_in x h [] p one out w n else = (w, n ∙ p)
  path_in x h (y ∷ ys) p one out w n else =
      let by_test : (b : Bool) → nat_lt y x ≡ b → s' (cond b (low x y ys) h) ≡ x → s' x ≡ s (cond b (low x y ys) h) → ((k : ℕ) → (k ≢ cond b (low x y ys) h) → (k ≢ x) → s' k ≡ s k) → Path s' h (cond b (y ∷ ins x ys) (x ∷ (y ∷ ys)))
      = elim [
        | true ↦ (λ e w n else.
            let low_here = low_in x y ys in
            let off = single_head h (y ∷ ys) one in (
              else h (λ q. told (low x y ys) h (y ∷ ys) low_here off (sym q)) (absent_head x h (y ∷ ys) out) ∙ p.0,
              path_in x y ys p.1 (single_rest h (y ∷ ys) one) (absent_rest x h (y ∷ ys) out) w n else,
            ))
        | false ↦ (λ e w n else.
            (w, (n ∙ p.0, path_kept y ys p.1 (λ k i. else k (told k h (y ∷ ys) i (single_head h (y ∷ ys) one)) (told k x (y ∷ ys) i (absent_rest x h (y ∷ ys) out))))))
      ]
      in by_test (nat_lt y x) refl w n else

pub rising_above : (k j : ℕ) (ys : List ℕ) → Rising k ys → 0 < occurs j ys → k < j
rising_above k j [] r i = absurd (omega arith)
rising_above k j (y ∷ ys) r i =
    ⊎_elim
    (λ e. let a = r.0 in omega arith)
    (λ ne. let z : cond (y == j) 1 0 ≡ ◌+◌ 0 0 = ap (λ b. cond b 1 0) (ne_eqb y j ne) in let b = rising_above y j ys r.1 (omega arith) in let a = r.0 in omega arith)
    (cases_eq y j)

module _ (s s' : ℕ → ℕ) where
  pub path_out : (x : ℕ) (h : ℕ) (ys : List ℕ) → Path s h ys → Climbs ys → Single (h ∷ ys) → 0 < occurs x ys
      → s' (low x h ys) ≡ s x
      → ((k : ℕ) → (k ≢ low x h ys) → s' k ≡ s k)
      → Path s' h (del x ys)
  path_out x h [] p r one has w else = absurd (omega arith)
  path_out x h (y ∷ ys) p r one has w else =
      let off = single_head h (y ∷ ys) one in
      ⊎_elim
      (λ e.
      let t : ltb y x ≡ false = le-ltb y x (omega arith) in
      let lo : low x h (y ∷ ys) ≡ h = ap (λ b. cond b (low x y ys) h) t in
      let d : del x (y ∷ ys) ≡ ys = ap (λ b. cond b ys (y ∷ del x ys)) (eq-eqb y x e) in
      subst (λ zs. Path s' h zs) (sym d)
      (path_moved s s' h y ys p.1 (ap s' (sym lo) ∙ w ∙ ap s (sym e)) (λ k i. else k (λ q. told k h (y ∷ ys) (omega arith) off (q ∙ lo)))))
      (λ ne.
      let z : cond (y == x) 1 0 ≡ ◌+◌ 0 0 = ap (λ b. cond b 1 0) (ne_eqb y x ne) in
      let later : 0 < occurs x ys = omega arith in
      let less = rising_above y x ys r later in
      let t : ltb y x ≡ true = lt-ltb y x less in
      let lo : low x h (y ∷ ys) ≡ low x y ys = ap (λ b. cond b (low x y ys) h) t in
      let d : del x (y ∷ ys) ≡ y ∷ del x ys = ap (λ b. cond b ys (y ∷ del x ys)) (ne_eqb y x ne) in
      let low_here = low_in x y ys in
      subst (λ zs. Path s' h zs) (sym d) (
        else h (λ q. told (low x y ys) h (y ∷ ys) low_here off (sym (q ∙ lo))) ∙ p.0,
        path_out x y ys p.1 (climbs_rest y ys r) (single_rest h (y ∷ ys) one) later (ap s' (sym lo) ∙ w) (λ k q. else k (λ u. q (u ∙ lo))),
      ))
      (cases_eq y x)

-- the list before x, as it stands after the last node below x
pub low_leads : (s : ℕ → ℕ) (x h : ℕ) (ys : List ℕ) → Path s h ys → Climbs ys → 0 < occurs x ys → s (low x h ys) ≡ x
low_leads s x h [] p r has = absurd (omega arith)
low_leads s x h (y ∷ ys) p r has =
    ⊎_elim
    (λ e. ap (λ b. s (cond b (low x y ys) h)) (le-ltb y x (omega arith)) ∙ p.0 ∙ e)
    (λ ne.
    let z : cond (y == x) 1 0 ≡ ◌+◌ 0 0 = ap (λ b. cond b 1 0) (ne_eqb y x ne) in
    let later : 0 < occurs x ys = omega arith in
    ap (λ b. s (cond b (low x y ys) h)) (lt-ltb y x (rising_above y x ys r later)) ∙ low_leads s x y ys p.1 (climbs_rest y ys r) later)
    (cases_eq y x)

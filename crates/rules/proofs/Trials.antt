-- A trial keeps a rule that lowers the price, or none; chains of such steps.
use Rattle.std.proofs.Common.{◌≡◌, ℕ, zero, suc, ◌+◌, ◌<◌, ◌≤◌, ltb, ◌⊎◌, List, [], ◌∷◌, sym, refl, ap, ◌∙◌, subst, inl, inr, ⊎_elim, add-zero, add-suc, arith}
use Rattle.std.proofs.lemmas.Bool.{ltb-true, ltb-false, cond_both}
use Rattle.program.specs.Programs.{Program, In}
use Rattle.runs.specs.Prices.{Costing, price}
use Rattle.rules.specs.Rules.{Change, nothing, vanish, drop_for, apply, rules}
use Rattle.rules.specs.Trials.{choose, choice, trial, tally}
use Rattle.rules.specs.Laws.{Sound, SameOutputs, Listed, Step, Chain, Better, Tried, TrialLaw, TrialFirst}
use Rattle.rules.proofs.Removals.{in_cut}
use Rattle.rules.proofs.Rules.{Numbered, rules_numbered, numbered_above, rules_keep_outputs}

-- ---- one trial

-- nothing chosen, or a rule that lowers the price
abbrev pub Chosen : Costing → Program → ℕ → ℕ × Change → Type 0
Chosen c p n r = (r ≡ (0, nothing)) ⊎ (Listed r (rules p n) × (0 < r.0) × (price c (apply p n r.1) < price c p))

choose_chosen :
    (c : Costing) (p : Program) (n : ℕ) (rs : List (ℕ × Change)) → ((r : ℕ × Change) → Listed r rs → Listed r (rules p n))
    → Chosen c p n (choose c p n rs)
choose_chosen c p n [] g = inl refl
choose_chosen c p n (r ∷ rs) g =
    let l : Listed r (rules p n) = g r (inl refl) in
    cond_both (ltb (price c (apply p n r.1)) (price c p)) r (choose c p n rs) (Chosen c p n)
    (λ t. inr (l, numbered_above 0 (rules p n) r (rules_numbered p n) l, ltb-true (price c (apply p n r.1)) (price c p) t))
    (λ t. choose_chosen c p n rs (λ x h. g x (inr h)))

pub choice_chosen : (c : Costing) (p : Program) (n : ℕ) → Chosen c p n (choice c p n)
unfolding choice
choice_chosen c p n = choose_chosen c p n (rules p n) (λ r l. l)

choose_first :
    (c : Costing) (p : Program) (n low : ℕ) (rs : List (ℕ × Change)) → Numbered low rs → (x : ℕ × Change) → Listed x rs
    → (x.0 < (choose c p n rs).0) ⊎ ((choose c p n rs).0 ≡ 0) → price c p ≤ price c (apply p n x.1)
choose_first c p n low [] a x l = absurd l
choose_first c p n low (r ∷ rs) a x l =
    let old : ℕ = price c p in
    let new : ℕ × Change → ℕ = λ y. price c (apply p n y.1) in
    let b : low < r.0 = a.0 in
    cond_both (ltb (new r) old) r (choose c p n rs) (λ y. (x.0 < y.0) ⊎ (y.0 ≡ 0) → old ≤ new x)
    (λ t h.
    let not_before : x.0 < r.0 → ⊥
    = λ k. ⊎_elim (λ q. let e : r.0 ≡ x.0 = ap (λ y. y.0) q in omega arith) (λ q. let g : r.0 < x.0 = numbered_above r.0 rs x a.1 q in omega arith) l in
    absurd (⊎_elim not_before (λ k. omega arith) h))
    (λ t h. ⊎_elim (λ q. subst (λ y. old ≤ new y) q (ltb-false (new r) old t)) (λ q. choose_first c p n r.0 rs a.1 x q h) l)

pub trial_first : TrialFirst
unfolding choice
trial_first c p n = choose_first c p n 0 (rules p n) (rules_numbered p n)

tried : (c : Costing) (p : Program) (n : ℕ) → Tried c p n (trial c p n)
tried c p n =
    ⊎_elim (λ q. inl (ap (λ r. r.0) q, ap (λ r. apply p n r.1) q))
    (λ q. inr (record { rule = choice c p n; listed = q.0; gives = refl; lower = q.2 }, refl, q.1)) (choice_chosen c p n)

pub trial_none : (c : Costing) (p : Program) (n : ℕ) → (trial c p n).1 ≡ 0 → trial c p n ≡ (p, 0)
trial_none c p n e =
    ⊎_elim (λ z. λ i. (z.1 i, z.0 i)) (λ z. let l : 0 < (trial c p n).1 = z.2 in absurd (omega arith)) (tried c p n)

-- ---- chains

step_better : (c : Costing) (p q : Program) (n : ℕ) → Sound p → In n p.order → Step c p n q → Sound q × SameOutputs p q
step_better c p q n s i t =
    subst (λ x. Sound x × SameOutputs p x) (sym t.gives) (rules_keep_outputs p n t.rule s i t.listed)

pub better_chain : (c : Costing) (p q : Program) (k : ℕ) → Sound p → Chain c p q k → Better c p q k
better_chain c p q zero s h =
    subst (λ x. Better c p x 0) (sym h) (record { sound = s; same = λ w a. refl; cheaper = omega arith })
better_chain c p q (suc k) s h =
    let m : Program = h.0 in
    let b : Better c p m k = better_chain c p m k s h.1 in
    let t : Step c m h.2.0 q = h.2.2 in
    let u = step_better c m q h.2.0 b.sound h.2.1 t in
    let l : price c q < price c m = t.lower in
    let d : price c m + k ≤ price c p = b.cheaper in
    record { sound = u.0; same = λ w a. u.1 w a ∙ b.same w a; cheaper = omega arith }

pub chain_append : (c : Costing) (p q s : Program) (j k : ℕ) → Chain c p q j → Chain c q s k → Chain c p s (j + k)
chain_append c p q s j zero f g = subst (Chain c p s) (sym (add-zero j)) (subst (λ x. Chain c p x j) (sym g) f)
chain_append c p q s j (suc k) f g =
    subst (Chain c p s) (sym (add-suc j k)) (g.0, chain_append c p q g.0 j k f g.1, g.2)

-- ---- a trial after others

pub tally_some : (r k : ℕ) → 0 < r → tally r k ≡ suc k
tally_some zero k h = absurd (omega arith)
tally_some (suc r) k h = refl

pub tally_zero : (r k : ℕ) → tally r k ≡ 0 → (r ≡ 0) × (k ≡ 0)
tally_zero zero k e = (refl, e)
tally_zero (suc r) k e = absurd (omega arith)

pub trial_chain :
    (c : Costing) (p q : Program) (n k : ℕ) → Chain c p q k → In n q.order
    → Chain c p (trial c q n).0 (tally (trial c q n).1 k)
trial_chain c p q n k h i =
    ⊎_elim
    (λ z. subst (λ r. Chain c p (trial c q n).0 (tally r k)) (sym z.0) (subst (λ x. Chain c p x k) (sym z.1) h))
    (λ z. subst (Chain c p (trial c q n).0) (sym (tally_some (trial c q n).1 k z.2)) (q, h, (n, i, z.0)))
    (tried c q n)

-- what stands elsewhere stays
pub stays : (p : Program) (n k : ℕ) (change : Change) → In k p.order → (k ≡ n → ⊥) → In k (apply p n change).order
stays p n k vanish i d = in_cut n k p.order i d
stays p n k (drop_for y) i d = in_cut n k p.order i d
stays p n k change i d = i

pub trial_law : TrialLaw
trial_law c p n s i =
    let q : Program = (trial c p n).0 in
    let b = better_chain c p q (tally (trial c p n).1 0) s (trial_chain c p p n 0 refl i) in
    let l : price c q + tally (trial c p n).1 0 ≤ price c p = b.cheaper in
    (tried c p n, record { sound = b.sound; same = b.same; cheaper = omega arith })

-- Rounds and passes of trials, with the journal records that are left.
use Rattle.std.proofs.Common.{◌≡◌, ℕ, zero, suc, ◌+◌, ◌-◌, ◌<◌, ◌≤◌, cond, eqb, ltb, List, [], ◌∷◌, sym, refl, ap, ◌∙◌, subst, inl, inr, ⊎_elim, arith}
use Rattle.std.proofs.lemmas.Bool.{ltb-true, ltb-false, le-ltb, eqb-true, eqb-false, cond_both, cond-false}
use Rattle.program.specs.Programs.{Program, In, Distinct}
use Rattle.runs.specs.Prices.{Costing, price}
use Rattle.rules.specs.Rules.{Change, nothing, apply, cost}
use Rattle.rules.specs.Trials.{choice, trial, Answer, did, short, need, spared_trial, onward, counted, tally, spared_round, rounds, spared_pass}
use Rattle.rules.specs.Laws.{Sound, Chain, Settled, Better, Refused, Room, Passed, SparedPassLaw, Again, SecondPassLaw}
use Rattle.rules.proofs.Making.{cost_need}
use Rattle.rules.proofs.Trials.{Chosen, choice_chosen, trial_none, better_chain, chain_append, tally_some, tally_zero, trial_chain, stays}

-- ---- records

-- a change that lowers the price costs a record
cost_some : (c : Costing) (p : Program) (n : ℕ) (change : Change) → price c (apply p n change) < price c p → 0 < cost p n change
cost_some c p n nothing l = absurd (omega arith)
cost_some c p n change l = omega arith

pub spent_for :
    (c : Costing) (p : Program) (n z k s : ℕ) (r : ℕ × Change) → Chosen c p n r → need p n ≤ z → z + k ≤ s
    → (z - cost p n r.1) + tally r.0 k ≤ s
spent_for c p n z k s r h l b =
    ⊎_elim (λ q. subst (λ x. (z - cost p n x.1) + tally x.0 k ≤ s) (sym q) (omega arith))
    (λ q.
    let t : tally r.0 k ≡ suc k = tally_some r.0 k q.1 in
    let a : 0 < cost p n r.1 = cost_some c p n r.1 q.2 in
    let d : cost p n r.1 ≤ need p n = cost_need p n r.1 in
    omega arith) h

-- nothing kept, nothing spent
idle : (c : Costing) (p : Program) (n z : ℕ) (r : ℕ × Change) → Chosen c p n r → r.0 ≡ 0 → z - cost p n r.1 ≡ z
idle c p n z r h x =
    ⊎_elim (λ q. subst (λ y. z - cost p n y.1 ≡ z) (sym q) (omega arith))
    (λ q. let l : 0 < r.0 = q.1 in absurd (omega arith)) h

-- ---- rounds

-- no trial at the numbers keeps a rule, and there are records for each
abbrev Quiet : Costing → Program → ℕ → List ℕ → Type 0
Quiet c p s ns = (n : ℕ) → In n ns → (need p n ≤ s) × (trial c p n ≡ (p, 0))

-- a round at the numbers keeps the rules that it counts, and takes a record for each; the other numbers stay; if it keeps none it changes nothing
abbrev Rounded : Costing → Program → ℕ → List ℕ → Answer → Type 0
Rounded c p s ns (did q z k) =
    Chain c p q k × ((j : ℕ) → In j p.order → (In j ns → ⊥) → In j q.order) × (z + k ≤ s)
    × (k ≡ 0 → (q ≡ p) × (z ≡ s) × Quiet c p s ns)
Rounded c p s ns (short m) = Refused c p s m

module _ (c : Costing) (p : Program) (s n : ℕ) (ns : List ℕ) (d : Distinct (n ∷ ns)) (f : (k : ℕ) → In k (n ∷ ns) → In k p.order) where
  round_more :
      (a : Answer) → Rounded c p s ns a → Rounded c p s (n ∷ ns) (onward a (λ q z k. counted (λ r. tally r k) (spared_trial c q z n)))
  round_more (short m) h = h
  round_more (did q z k) h =
      let i : In n q.order = h.1 n (f n (inl refl)) d.0 in
      cond_both (ltb z (need q n)) (short (need q n)) (did (trial c q n).0 (z - cost q n (choice c q n).1) (trial c q n).1)
      (λ a. Rounded c p s (n ∷ ns) (counted (λ r. tally r k) a))
      (λ e.
      record {
        reached = q;
        kept = k;
        rest = z;
        number = n;
        chain = h.0;
        placed = i;
        asks = refl;
        few = ltb-true z (need q n) e;
        spent = h.2;
      })
      (λ e.
      let l : need q n ≤ z = ltb-false z (need q n) e in (
        trial_chain c p q n k h.0 i,
        λ j y x. stays q n j (choice c q n).1 (h.1 j y (λ w. x (inr w))) (λ w. x (inl (sym w))),
        spent_for c q n z k s (choice c q n) (choice_chosen c q n) l h.2,
        λ t.
            let x = tally_zero (choice c q n).0 k t in
            let y = h.3 x.1 in
            let none : trial c q n ≡ (q, 0) = trial_none c q n x.0 in (
              ap (λ u. u.0) none ∙ y.0,
              idle c q n z (choice c q n) (choice_chosen c q n) x.0 ∙ y.1,
              λ j b. ⊎_elim
                  (λ w. subst (λ m. (need p m ≤ s) × (trial c p m ≡ (p, 0))) w
                  (subst (λ m. need p n ≤ m) y.1 (subst (λ m. need m n ≤ z) y.0 l), subst (λ m. trial c m n ≡ (m, 0)) y.0 none))
                  (λ w. y.2 j w) b,
            ),
      ))

rounded :
    (c : Costing) (p : Program) (s : ℕ) (ns : List ℕ) → Distinct ns → ((k : ℕ) → In k ns → In k p.order)
    → Rounded c p s ns (spared_round c p s ns)
rounded c p s [] d f = (refl, λ j i x. i, omega arith, λ t. (refl, refl, λ n i. absurd i))
rounded c p s (n ∷ ns) d f =
    round_more c p s n ns d f (spared_round c p s ns) (rounded c p s ns d.1 (λ k i. f k (inr i)))

-- ---- passes

-- what holds after a part and then the rest
passed_after :
    (c : Costing) (p q : Program) (s z k : ℕ) → Sound p → Chain c p q k → z + k ≤ s → (a : Answer) → Passed c q z a
    → Passed c p s (counted (λ j. k + j) a)
passed_after c p q s z k t h b (did x y j) v =
    let l : y + j ≤ z = v.3 in
    let g : Chain c p x (k + j) = chain_append c p q x k j h v.0 in
    (g, better_chain c p x (k + j) t g, v.2, omega arith, v.4)
passed_after c p q s z k t h b (short m) v =
    let l : v.rest + v.kept ≤ z = v.spent in
    record {
      reached = v.reached;
      kept = k + v.kept;
      rest = v.rest;
      number = v.number;
      chain = chain_append c p q v.reached k v.kept h v.chain;
      placed = v.placed;
      asks = v.asks;
      few = v.few;
      spent = omega arith;
    }

module _ (c : Costing) (most : ℕ) (ih : (p : Program) (s : ℕ) → Sound p → s < most → Passed c p s (rounds c most p s)) where
  pass_more :
      (p : Program) (s : ℕ) → Sound p → s < suc most → (a : Answer) → Rounded c p s p.order a
      → Passed c p s (onward a (λ q z k. cond (eqb k 0) (did q z k) (counted (λ j. k + j) (rounds c most q z))))
  pass_more p s t l (short m) h = h
  pass_more p s t l (did q z k) h =
      let b : Better c p q k = better_chain c p q k t h.0 in
      cond_both (eqb k 0) (did q z k) (counted (λ j. k + j) (rounds c most q z)) (Passed c p s)
      (λ e.
      let w = h.3 (eqb-true k 0 e) in (
        h.0,
        b,
        subst (Settled c) (sym w.0) (λ n i. (w.2 n i).1),
        h.2,
        subst (λ x. Room x z) (sym w.0) (subst (Room p) (sym w.1) (λ n i. (w.2 n i).0)),
      ))
      (λ e.
      let x : k ≡ 0 → ⊥ = eqb-false k 0 e in
      let y : z + k ≤ s = h.2 in
      passed_after c p q s z k t h.0 y (rounds c most q z) (ih q z b.sound (omega arith)))

rounds_passed : (c : Costing) (most : ℕ) (p : Program) (s : ℕ) → Sound p → s < most → Passed c p s (rounds c most p s)
rounds_passed c zero p s t l = absurd (omega arith)
rounds_passed c (suc most) p s t l =
    pass_more c most (rounds_passed c most) p s t l (spared_round c p s p.order)
    (rounded c p s p.order t.0.distinct (λ k i. i))

pub spared_pass_law : SparedPassLaw
unfolding spared_pass
spared_pass_law c p s t = rounds_passed c (suc s) p s t (omega arith)

-- ---- a second pass

trial_idle :
    (c : Costing) (p : Program) (s n : ℕ) → need p n ≤ s → trial c p n ≡ (p, 0) → spared_trial c p s n ≡ did p s 0
trial_idle c p s n r e =
    cond-false (ltb s (need p n)) (short (need p n)) (did (trial c p n).0 (s - cost p n (choice c p n).1) (trial c p n).1)
    (le-ltb s (need p n) r)
    ∙ (λ i. did (e i).0 (idle c p n s (choice c p n) (choice_chosen c p n) (ap (λ t. t.1) e) i) (e i).1)

round_idle : (c : Costing) (p : Program) (s : ℕ) (ns : List ℕ) → Quiet c p s ns → spared_round c p s ns ≡ did p s 0
round_idle c p s [] f = refl
round_idle c p s (n ∷ ns) f =
    ap (λ a. onward a (λ q z k. counted (λ r. tally r k) (spared_trial c q z n))) (round_idle c p s ns (λ k i. f k (inr i)))
    ∙ ap (counted (λ r. tally r 0)) (trial_idle c p s n (f n (inl refl)).0 (f n (inl refl)).1)

pass_idle : (c : Costing) (p : Program) (s : ℕ) → Settled c p → Room p s → spared_pass c p s ≡ did p s 0
unfolding spared_pass
pass_idle c p s f r =
    ap (λ a. onward a (λ q z k. cond (eqb k 0) (did q z k) (counted (λ j. k + j) (rounds c s q z))))
    (round_idle c p s p.order (λ n i. (r n i, f n i)))

again : (c : Costing) (p : Program) (s : ℕ) (a : Answer) → Passed c p s a → Again c a
again c p s (short m) h = tt
again c p s (did q z k) h =
    λ t l.
    let r : Room q t = λ n i. (let x : need q n ≤ z = h.4 n i in omega arith) in
    (pass_idle c q t h.2 r, λ n i. trial_idle c q t n (r n i) (h.2 n i))

pub second_pass_law : SecondPassLaw
second_pass_law c p s t = again c p s (spared_pass c p s) (spared_pass_law c p s t)

-- Rounds and passes take no more records than they have, and with more records to spare they do the same.
use Rattle.std.proofs.Common.{◌≡◌, ℕ, zero, suc, ◌+◌, ◌-◌, ◌<◌, ◌≤◌, Bool, true, false, cond, eqb, ltb, List, [], ◌∷◌, sym, refl, ap, ◌∙◌, arith}
use Rattle.std.proofs.lemmas.Bool.{ltb-false, le-ltb, eqb-false, cond_both, cond-false}
use Rattle.program.specs.Programs.{Program}
use Rattle.runs.specs.Prices.{Costing}
use Rattle.rules.specs.Rules.{cost}
use Rattle.rules.specs.Trials.{choice, trial, Answer, did, short, need, spared_trial, onward, counted, tally, spared_round, rounds, spared_pass}
use Rattle.rules.proofs.Making.{cost_need}
use Rattle.rules.proofs.Trials.{choice_chosen}
use Rattle.rules.proofs.Passes.{spent_for}

-- a record is taken for each rule that is kept
abbrev pub Spent : ℕ → Answer → Type 0
Spent left (did q z k) = z + k ≤ left
Spent left (short m) = Unit {0}

module _ (c : Costing) (p : Program) (left : ℕ) where
  spent_more : (n : ℕ) (a : Answer) → Spent left a → Spent left (onward a (λ q z k. counted (λ r. tally r k) (spared_trial c q z n)))
  spent_more n (short m) h = tt
  spent_more n (did q z k) h =
      cond_both (ltb z (need q n)) (short (need q n)) (did (trial c q n).0 (z - cost q n (choice c q n).1) (trial c q n).1)
      (λ a. Spent left (counted (λ r. tally r k) a)) (λ e. tt)
      (λ e. spent_for c q n z k left (choice c q n) (choice_chosen c q n) (ltb-false z (need q n) e) h)

  pub round_spent : (ns : List ℕ) → Spent left (spared_round c p left ns)
  round_spent [] = omega arith
  round_spent (n ∷ ns) = spent_more n (spared_round c p left ns) (round_spent ns)

-- ---- how many rounds are allowed makes no difference, if there are more than records

abbrev on : Costing → ℕ → Answer → Answer
on c most a = onward a (λ q z k. cond (eqb k 0) (did q z k) (counted (λ j. k + j) (rounds c most q z)))

module _ (c : Costing) (most other left : ℕ) (ih : (q : Program) (z : ℕ) → z < left → rounds c most q z ≡ rounds c other q z) where
  fuel_by : (a : Answer) → Spent left a → on c most a ≡ on c other a
  fuel_by (short m) s = refl
  fuel_by (did q z j) s =
      cond_both (eqb j 0) (did q z j) (counted (λ i. j + i) (rounds c most q z)) (λ x. x ≡ cond (eqb j 0) (did q z j) (counted (λ i. j + i) (rounds c other q z)))
      (λ e. sym (ap (λ b. cond b (did q z j) (counted (λ i. j + i) (rounds c other q z))) e))
      (λ e.
      let d : j ≡ 0 → ⊥ = eqb-false j 0 e in
      ap (counted (λ i. j + i)) (ih q z (omega arith)) ∙ sym (cond-false (eqb j 0) (did q z j) (counted (λ i. j + i) (rounds c other q z)) e))

pub rounds_fuel :
    (c : Costing) (most other : ℕ) (p : Program) (left : ℕ) → left < most → left < other → rounds c most p left ≡ rounds c other p left
rounds_fuel c zero other p left h k = absurd (omega arith)
rounds_fuel c (suc most) zero p left h k = absurd (omega arith)
rounds_fuel c (suc most) (suc other) p left h k =
    fuel_by c most other left (λ q z l. rounds_fuel c most other q z (omega arith) (omega arith)) (spared_round c p left p.order) (round_spent c p left p.order)

-- ---- more records

-- it was done
abbrev pub Did : Answer → Type 0
Did (did q z k) = Unit {0}
Did (short m) = ⊥

-- the same with so many records more left
abbrev pub richer : ℕ → Answer → Answer
richer d (did q z k) = did q (z + d) k
richer d (short m) = short m

pub richer_counted : (d : ℕ) (f : ℕ → ℕ) (a : Answer) → richer d (counted f a) ≡ counted f (richer d a)
richer_counted d f (did q z k) = refl
richer_counted d f (short m) = refl

did_counted : (f : ℕ → ℕ) (a : Answer) → Did (counted f a) → Did a
did_counted f (did q z k) h = tt
did_counted f (short m) h = h

pub trial_richer : (c : Costing) (q : Program) (z d n : ℕ) → Did (spared_trial c q z n) → spared_trial c q (z + d) n ≡ richer d (spared_trial c q z n)
trial_richer c q z d n =
    let m : ℕ = need q n in
    let x : ℕ = cost q n (choice c q n).1 in
    let l : x ≤ m = cost_need q n (choice c q n).1 in
    cond_both (ltb z m) (short m) (did (trial c q n).0 (z - x) (trial c q n).1) (λ a. Did a → spared_trial c q (z + d) n ≡ richer d a)
    (λ e h. absurd h)
    (λ e h.
    let b : m ≤ z = ltb-false z m e in
    let s : (z + d) - x ≡ (z - x) + d = omega arith in
    cond-false (ltb (z + d) m) (short m) (did (trial c q n).0 ((z + d) - x) (trial c q n).1) (le-ltb (z + d) m (omega arith))
    ∙ ap (λ y. did (trial c q n).0 y (trial c q n).1) s)

module _ (c : Costing) (p : Program) (left d : ℕ) where
  step_richer :
      (n : ℕ) (a b : Answer) → (Did a → b ≡ richer d a)
      → Did (onward a (λ q z k. counted (λ r. tally r k) (spared_trial c q z n)))
      → onward b (λ q z k. counted (λ r. tally r k) (spared_trial c q z n)) ≡ richer d (onward a (λ q z k. counted (λ r. tally r k) (spared_trial c q z n)))
  step_richer n (short m) b e h = absurd h
  step_richer n (did q z k) b e h =
      ap (λ x. onward x (λ q z k. counted (λ r. tally r k) (spared_trial c q z n))) (e tt)
      ∙ ap (counted (λ r. tally r k)) (trial_richer c q z d n (did_counted (λ r. tally r k) (spared_trial c q z n) h))
      ∙ sym (richer_counted d (λ r. tally r k) (spared_trial c q z n))

  pub round_richer : (ns : List ℕ) → Did (spared_round c p left ns) → spared_round c p (left + d) ns ≡ richer d (spared_round c p left ns)
  round_richer [] h = refl
  round_richer (n ∷ ns) h = step_richer n (spared_round c p left ns) (spared_round c p (left + d) ns) (round_richer ns) h

-- rounds with more records, and as many of them allowed
module _ (c : Costing) (most other d left : ℕ) (ih : (q : Program) (z : ℕ) → z < left → Did (rounds c most q z) → rounds c other q (z + d) ≡ richer d (rounds c most q z)) where
  richer_test :
      (q : Program) (z j : ℕ) (t : Bool) → eqb j 0 ≡ t → z + j ≤ left → Did (cond t (did q z j) (counted (λ i. j + i) (rounds c most q z)))
      → cond t (did q (z + d) j) (counted (λ i. j + i) (rounds c other q (z + d))) ≡ richer d (cond t (did q z j) (counted (λ i. j + i) (rounds c most q z)))
  richer_test q z j true e s f = refl
  richer_test q z j false e s f =
      let x : j ≡ 0 → ⊥ = eqb-false j 0 e in
      ap (counted (λ i. j + i)) (ih q z (omega arith) (did_counted (λ i. j + i) (rounds c most q z) f)) ∙ sym (richer_counted d (λ i. j + i) (rounds c most q z))

  richer_by : (a b : Answer) → Spent left a → (Did a → b ≡ richer d a) → Did (on c most a) → on c other b ≡ richer d (on c most a)
  richer_by (short m) b s e f = absurd f
  richer_by (did q z j) b s e f = ap (on c other) (e tt) ∙ richer_test q z j (eqb j 0) refl s f

pub rounds_richer :
    (c : Costing) (most other d : ℕ) (p : Program) (left : ℕ) → left < most → left + d < other → Did (rounds c most p left)
    → rounds c other p (left + d) ≡ richer d (rounds c most p left)
rounds_richer c zero other d p left h k g = absurd (omega arith)
rounds_richer c (suc most) zero d p left h k g = absurd (omega arith)
rounds_richer c (suc most) (suc other) d p left h k g =
    richer_by c most other d left (λ q z l. rounds_richer c most other d q z (omega arith) (omega arith)) (spared_round c p left p.order)
    (spared_round c p (left + d) p.order) (round_spent c p left p.order) (round_richer c p left d p.order) g

-- a pass with more records keeps the same rules
pub pass_richer : (c : Costing) (p : Program) (left d : ℕ) → Did (spared_pass c p left) → spared_pass c p (left + d) ≡ richer d (spared_pass c p left)
unfolding spared_pass
pass_richer c p left d = rounds_richer c (suc left) (suc (left + d)) d p left (omega arith) (omega arith)

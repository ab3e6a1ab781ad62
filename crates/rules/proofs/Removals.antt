-- The order of a list, and what stays of it where a number is taken out.
use Rattle.std.proofs.Common.{◌≡◌, ℕ, suc, false, eqb, List, [], ◌∷◌, ◌++◌, sym, refl, ap, ◌∙◌, subst, inl, inr, ⊎_elim}
use Rattle.std.specs.List.{remove}
use Rattle.std.proofs.lemmas.Bool.{eqb-true, cond_both, cond-false}
use Rattle.ir.specs.Instructions.{Instr}
use Rattle.program.specs.Programs.{index_of, In, Before, Distinct}
use Rattle.program.proofs.Orders.{before_right}
use Rattle.program.proofs.Keeping.{in_removed}
use Rattle.edits.proofs.Moves.{out_then}
use Rattle.runs.specs.Runs.{out?, sent, sends}

-- ---- before

pub before_trans : (i j k : ℕ) (xs : List ℕ) → Distinct xs → Before i j xs → Before j k xs → Before i k xs
before_trans i j k [] d f g = absurd f
before_trans i j k (x ∷ xs) d f g =
    ⊎_elim (λ p. inl (p.0, ⊎_elim (λ q. q.1) (λ q. before_right j k xs q) g))
    (λ p. ⊎_elim (λ q. absurd (d.0 (subst (λ y. In y xs) (sym q.0) (before_right i j xs p))))
    (λ q. inr (before_trans i j k xs d.1 p q)) g) f

pub before_self : (k : ℕ) (xs : List ℕ) → Distinct xs → Before k k xs → ⊥
before_self k [] d h = h
before_self k (x ∷ xs) d h =
    ⊎_elim (λ q. d.0 (subst (λ y. In y xs) (sym q.0) q.1)) (λ q. before_self k xs d.1 q) h

pub before_other : (j k : ℕ) (xs : List ℕ) → Distinct xs → Before j k xs → j ≡ k → ⊥
before_other j k xs d h e = before_self k xs d (subst (λ y. Before y k xs) e h)

-- ---- without one number

module _ (n : ℕ) where
  -- the list without n
  abbrev pub cut : List ℕ → List ℕ
  cut xs = remove xs (index_of n xs)

  -- n is the head of a list, or stands in the rest of it
  module _ (x : ℕ) (xs : List ℕ) (P : List ℕ → Type 0) where
    by_head : (x ≡ n → P xs) → P (x ∷ cut xs) → P (cut (x ∷ xs))
    by_head f g = cond_both (eqb x n) 0 (suc (index_of n xs)) (λ i. P (remove (x ∷ xs) i)) (λ e. f (eqb-true x n e)) (λ e. g)

  pub in_cut : (k : ℕ) (xs : List ℕ) → In k xs → (k ≡ n → ⊥) → In k (cut xs)
  in_cut k [] h d = absurd h
  in_cut k (x ∷ xs) h d =
      by_head x xs (In k) (λ e. ⊎_elim (λ q. absurd (d (sym q ∙ e))) (λ q. q) h) (⊎_elim (λ q. inl q) (λ q. inr (in_cut k xs q d)) h)

  pub before_cut : (j k : ℕ) (xs : List ℕ) → Before j k xs → (j ≡ n → ⊥) → (k ≡ n → ⊥) → Before j k (cut xs)
  before_cut j k [] h dj dk = absurd h
  before_cut j k (x ∷ xs) h dj dk =
      by_head x xs (Before j k) (λ e. ⊎_elim (λ q. absurd (dj (sym q.0 ∙ e))) (λ q. q) h)
      (⊎_elim (λ q. inl (q.0, in_cut k xs q.1 dk)) (λ q. inr (before_cut j k xs q dj dk)) h)

  pub from_cut : (k : ℕ) (xs : List ℕ) → Distinct xs → In k (cut xs) → In k xs × (k ≡ n → ⊥)
  from_cut k xs d h = (in_removed k (index_of n xs) xs h, λ e. out_then n xs d (subst (λ m. In m (cut xs)) e h))

-- ---- what is sent

pub sent_quiet : (i : Instr) (x : ℕ) → out? i.op ≡ false → sent i x ≡ []
sent_quiet i x e = cond-false (out? i.op) ((i.literal, x) ∷ []) [] e

-- a number that is no out sends nothing
pub sends_cut : (of : ℕ → Instr) (v : ℕ → ℕ) (n : ℕ) (ns : List ℕ) → out? (of n).op ≡ false → sends of v (cut n ns) ≡ sends of v ns
sends_cut of v n [] e = refl
sends_cut of v n (x ∷ xs) e =
    by_head n x xs (λ ns. sends of v ns ≡ sends of v (x ∷ xs))
    (λ q. sym (ap (λ z. z ++ sends of v xs) (sent_quiet (of x) (v x) (ap (λ z. out? (of z).op) q ∙ e))))
    (ap (λ z. sent (of x) (v x) ++ z) (sends_cut of v n xs e))

pub sends_alike :
    (of to : ℕ → Instr) (v : ℕ → ℕ) (ns : List ℕ) → ((k : ℕ) → In k ns → sent (of k) (v k) ≡ sent (to k) (v k)) → sends of v ns ≡ sends to v ns
sends_alike of to v [] f = refl
sends_alike of to v (n ∷ ns) f = λ i. f n (inl refl) i ++ sends_alike of to v ns (λ k q. f k (inr q)) i

-- Scratch words stand for the values and the stamps of the numbers.
use Rattle.std.proofs.Common.{◌≡◌, ℕ, ◌<◌, eqb, List, [], ◌∷◌, ◌++◌, length, set, sym, refl, ap, ◌∙◌, subst, inl, inr, ⊎_elim}
use mathlib.Core.Path.{fun_ext}
use Rattle.std.proofs.lemmas.List.{get_or-set_same, get_or-set_other, length-set}
use Rattle.std.proofs.lemmas.Bool.{cases_eq, cond-true, cond-false, eq-eqb, ne_eqb}
use Rattle.ir.specs.Instructions.{Instr}
use Rattle.program.specs.Programs.{In}
use Rattle.runs.specs.Runs.{upd, sent, value, run_from}
use Rattle.runs.specs.Prices.{Costing, stamp_of, price_from}
use Rattle.runs.specs.Scratch.{word_at, run_words, price_words}

-- the write to a scratch word is the update of the environment
written : (z : List ℕ) (n x : ℕ) → n < length z → word_at (set z n x) ≡ upd (word_at z) n x
written z n x l =
    fun_ext (λ k.
    ⊎_elim
    (λ e.
    subst (λ m. word_at (set z n x) m ≡ upd (word_at z) n x m) (sym e)
    (get_or-set_same z n x 0 l ∙ sym (cond-true (eqb n n) x (word_at z n) (eq-eqb n n refl))))
    (λ d. get_or-set_other z n k x 0 d ∙ sym (cond-false (eqb k n) x (word_at z k) (ne_eqb k n d))) (cases_eq k n))

room : (z ns : List ℕ) (n x : ℕ) → ((k : ℕ) → In k (n ∷ ns) → k < length z) → (k : ℕ) → In k ns → k < length (set z n x)
room z ns n x f k i = subst (λ m. k < m) (sym (length-set z n x)) (f k (inr i))

pub run_law :
    (r : ℕ → Instr) (w z ns : List ℕ) → ((k : ℕ) → In k ns → k < length z) → run_words r w z ns ≡ run_from r w (word_at z) ns
run_law r w z [] f = refl
run_law r w z (n ∷ ns) f =
    let x : ℕ = value (r n) (word_at z) w in
    ap (λ y. sent (r n) x ++ y)
    (run_law r w (set z n x) ns (room z ns n x f) ∙ ap (λ e. run_from r w e ns) (written z n x (f n (inl refl))))

pub price_law :
    (c : Costing) (r : ℕ → Instr) (t : ℕ) (z ns : List ℕ) → ((k : ℕ) → In k ns → k < length z)
    → price_words c r t z ns ≡ price_from c r t (word_at z) ns
price_law c r t z [] f = refl
price_law c r t z (n ∷ ns) f =
    let x : ℕ = stamp_of c (r n) (word_at z) in
    price_law c r (c.total t x) (set z n x) ns (room z ns n x f)
    ∙ ap (λ e. price_from c r (c.total t x) e ns) (written z n x (f n (inl refl)))

-- Prices and runs over zero scratch words are those of the program.
use Rattle.std.proofs.Common.{◌≡◌, ℕ, ◌≤◌, cond, eqb, ◌⊎◌, List, [], ◌∷◌, length, sym, refl, ap, ◌∙◌, inl, inr, ⊎_elim, arith}
use mathlib.Core.Path.{fun_ext}
use Rattle.std.proofs.lemmas.List.{length-replicate}
use Rattle.std.proofs.lemmas.Bool.{eq-eqb, cond-true}
use Rattle.ir.specs.Instructions.{Instr}
use Rattle.program.specs.Programs.{Program, at, size, takes, In, Before, Distinct, Operands, WellFormed}
use Rattle.program.specs.Proper.{Proper}
use Rattle.program.proofs.Accepting.{busy_inside}
use Rattle.program.proofs.Operands.{operands_map}
use Rattle.program.proofs.Orders.{before_head}
use Rattle.runs.specs.Runs.{upd, nothing}
use Rattle.runs.specs.Prices.{Costing, stamp_of, price_from, price}
use Rattle.runs.specs.Answers.{zeros}
use Rattle.runs.specs.Scratch.{word_at, price_words}
use Rattle.runs.proofs.Valuations.{arg_cong}
use Rattle.runs.proofs.Words.{price_law}
use Rattle.runs.proofs.Tests.{zero_word}

-- over zero words it is the price
pub price_whole : (c : Costing) (p : Program) → Proper p → (m : ℕ) → size p ≤ m → price_words c (at p) 0 (zeros m) p.order ≡ price c p
price_whole c p t m h =
    price_law c (at p) 0 (zeros m) p.order (λ k i. let l = busy_inside p k (t.placed k i) in let e : length (zeros m) ≡ m = length-replicate m 0 in omega arith)
    ∙ ap (λ v. price_from c (at p) 0 v p.order) (fun_ext (zero_word m))

-- ---- over any words

stamp_cong : (c : Costing) (s : Instr) (v u : ℕ → ℕ) → Operands s (λ j. v j ≡ u j) → stamp_of c s v ≡ stamp_of c s u
stamp_cong c s v u o =
    λ i. c.stamp s.op s.literal (arg_cong (takes 0 s.op) v u s.a o.0 i) (arg_cong (takes 1 s.op) v u s.b o.1 i)
    (arg_cong (takes 2 s.op) v u s.c o.2 i)

upd_here : (v : ℕ → ℕ) (n x : ℕ) → upd v n x n ≡ x
upd_here v n x = cond-true (eqb n n) x (v n) (eq-eqb n n refl)

-- where every operand comes earlier, or has the same stamp in both, the price is the same
price_same :
    (c : Costing) (r : ℕ → Instr) (t : ℕ) (v u : ℕ → ℕ) (ns : List ℕ) → Distinct ns
    → ((k : ℕ) → In k ns → Operands (r k) (λ j. (v j ≡ u j) ⊎ Before j k ns)) → price_from c r t v ns ≡ price_from c r t u ns
price_same c r t v u [] d f = refl
price_same c r t v u (n ∷ ns) d f =
    let x : ℕ = stamp_of c (r n) v in
    let e : x ≡ stamp_of c (r n) u
    = stamp_cong c (r n) v u (operands_map (r n) (λ j. (v j ≡ u j) ⊎ Before j n (n ∷ ns)) (λ j. v j ≡ u j)
    (λ j o. ⊎_elim (λ q. q) (λ q. absurd (before_head j n ns d q)) o) (f n (inl refl))) in
    price_same c r (c.total t x) (upd v n x) (upd u n x) ns d.1
    (λ k i.
    operands_map (r k) (λ j. (v j ≡ u j) ⊎ Before j k (n ∷ ns)) (λ j. (upd v n x j ≡ upd u n x j) ⊎ Before j k ns)
    (λ j o.
    ⊎_elim (λ q. inl (ap (cond (eqb j n) x) q))
    (λ q. ⊎_elim (λ z. inl (ap (λ m. upd v n x m) (sym z.0) ∙ (upd_here v n x ∙ sym (upd_here u n x)) ∙ ap (λ m. upd u n x m) z.0)) (λ z. inr z) q) o)
    (f k (inr i)))
    ∙ ap (λ y. price_from c r (c.total t y) (upd u n y) ns) e

pub price_any : (c : Costing) (p : Program) → Proper p → WellFormed p → (words : List ℕ) → size p ≤ length words → price_words c (at p) 0 words p.order ≡ price c p
price_any c p t f words h =
    price_law c (at p) 0 words p.order (λ k i. let l = busy_inside p k (t.placed k i) in omega arith)
    ∙ price_same c (at p) 0 (word_at words) nothing p.order t.distinct
    (λ k i. operands_map (at p k) (λ j. Before j k p.order) (λ j. (word_at words j ≡ nothing j) ⊎ Before j k p.order) (λ j q. inr q) (f k i))

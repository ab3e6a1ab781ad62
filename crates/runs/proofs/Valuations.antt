-- A well-formed program has one fitting valuation on its placed numbers, and a run sends what it says.
use Rattle.std.proofs.Common.{◌≡◌, ℕ, ◌+◌, Bool, true, false, cond, eqb, ◌⊎◌, List, [], ◌∷◌, ◌++◌, length, sym, refl, ap, ◌∙◌, subst, inl, inr, ⊎_elim, length-append}
use Rattle.std.proofs.lemmas.Bool.{eq-eqb, ne_eqb, cond-true, cond-false}
use Rattle.ir.specs.Instructions.{Instr}
use Rattle.ir.specs.Values.{value_of}
use Rattle.program.specs.Programs.{Program, at, takes, Operands, In, Before, Distinct, Formed}
use Rattle.program.proofs.Operands.{operands_map}
use Rattle.program.proofs.Orders.{before_head}
use Rattle.runs.specs.Runs.{out?, arg, value, upd, sent, run_from, nothing, count_outs, Fits, sends, RunLaw}

pub arg_cong : (h : Bool) (v u : ℕ → ℕ) (k : ℕ) → (h ≡ true → v k ≡ u k) → arg h v k ≡ arg h u k
arg_cong true v u k f = f refl
arg_cong false v u k f = refl

-- a value rests on the values of the operands alone
pub value_cong : (s : Instr) (v u : ℕ → ℕ) (w : List ℕ) → Operands s (λ j. v j ≡ u j) → value s v w ≡ value s u w
value_cong s v u w o =
    λ i. value_of s.op s.literal w (arg_cong (takes 0 s.op) v u s.a o.0 i) (arg_cong (takes 1 s.op) v u s.b o.1 i)
    (arg_cong (takes 2 s.op) v u s.c o.2 i)

-- induction along the order: what follows for an instruction from its operands holds of every placed one
induct :
    (r : ℕ → Instr) (P : ℕ → Type 0) (ns : List ℕ) → Distinct ns
    → ((k : ℕ) → In k ns → Operands (r k) (λ j. P j ⊎ Before j k ns)) → ((k : ℕ) → In k ns → Operands (r k) P → P k)
    → (k : ℕ) → In k ns → P k
induct r P [] d f g k h = absurd h
induct r P (n ∷ ns) d f g k h =
    let pn : P n =
    g n (inl refl) (operands_map (r n) (λ j. P j ⊎ Before j n (n ∷ ns)) P
    (λ j o. ⊎_elim (λ q. q) (λ q. absurd (before_head j n ns d q)) o) (f n (inl refl))) in
    ⊎_elim (λ q. subst P q pn)
    (λ q. induct r P ns d.1
    (λ m i. operands_map (r m) (λ j. P j ⊎ Before j m (n ∷ ns)) (λ j. P j ⊎ Before j m ns)
    (λ j o. ⊎_elim (λ z. inl z) (λ z. ⊎_elim (λ y. inl (subst P y.0 pn)) (λ y. inr y) z) o) (f m (inr i)))
    (λ m i. g m (inr i)) k q) h

pub along :
    (r : ℕ → Instr) (P : ℕ → Type 0) (ns : List ℕ) → Distinct ns → Formed r ns
    → ((k : ℕ) → In k ns → Operands (r k) P → P k) → (k : ℕ) → In k ns → P k
along r P ns d f g =
    induct r P ns d (λ k i. operands_map (r k) (λ j. Before j k ns) (λ j. P j ⊎ Before j k ns) (λ j q. inr q) (f k i)) g

-- two fitting valuations agree
pub one_valuation :
    (r : ℕ → Instr) (ns w : List ℕ) (v u : ℕ → ℕ) → Distinct ns → Formed r ns → Fits r ns w v → Fits r ns w u → (k : ℕ) → In k ns
    → v k ≡ u k
one_valuation r ns w v u d f fv fu =
    along r (λ k. v k ≡ u k) ns d f (λ k i o. fv k i ∙ (value_cong (r k) v u w o ∙ sym (fu k i)))

-- the environment that a run ends with
pub final : (ℕ → Instr) → List ℕ → (ℕ → ℕ) → List ℕ → ℕ → ℕ
final r w e [] = e
final r w e (n ∷ ns) = final r w (upd e n (value (r n) e w)) ns

upd_same : (e : ℕ → ℕ) (n x : ℕ) → upd e n x n ≡ x
upd_same e n x = cond-true (eqb n n) x (e n) (eq-eqb n n refl)

upd_other : (e : ℕ → ℕ) (n x k : ℕ) → (k ≡ n → ⊥) → upd e n x k ≡ e k
upd_other e n x k d = cond-false (eqb k n) x (e k) (ne_eqb k n d)

final_past : (r : ℕ → Instr) (w : List ℕ) (e : ℕ → ℕ) (ns : List ℕ) (k : ℕ) → (In k ns → ⊥) → final r w e ns k ≡ e k
unfolding final
final_past r w e [] k d = refl
final_past r w e (n ∷ ns) k d =
    final_past r w (upd e n (value (r n) e w)) ns k (λ q. d (inr q))
    ∙ upd_other e n (value (r n) e w) k (λ q. d (inl (sym q)))

final_head : (r : ℕ → Instr) (w : List ℕ) (e : ℕ → ℕ) (n : ℕ) (ns : List ℕ) → Distinct (n ∷ ns)
    → final r w e (n ∷ ns) n ≡ value (r n) e w
unfolding final
final_head r w e n ns d =
    final_past r w (upd e n (value (r n) e w)) ns n d.0 ∙ upd_same e n (value (r n) e w)

final_fits_from :
    (r : ℕ → Instr) (w : List ℕ) (e : ℕ → ℕ) (ns : List ℕ) → Distinct ns
    → ((k : ℕ) → In k ns → Operands (r k) (λ j. (In j ns → ⊥) ⊎ Before j k ns)) → Fits r ns w (final r w e ns)
unfolding final
final_fits_from r w e [] d f k h = absurd h
final_fits_from r w e (n ∷ ns) d f k h =
    let v : ℕ → ℕ = final r w e (n ∷ ns) in
    let here : v n ≡ value (r n) v w =
    final_head r w e n ns d
    ∙ value_cong (r n) e v w (operands_map (r n) (λ j. (In j (n ∷ ns) → ⊥) ⊎ Before j n (n ∷ ns)) (λ j. e j ≡ v j)
    (λ j o. ⊎_elim (λ q. sym (final_past r w e (n ∷ ns) j q)) (λ q. absurd (before_head j n ns d q)) o) (f n (inl refl))) in
    ⊎_elim (λ q. subst (λ m. v m ≡ value (r m) v w) q here)
    (λ q. final_fits_from r w (upd e n (value (r n) e w)) ns d.1
    (λ m i. operands_map (r m) (λ j. (In j (n ∷ ns) → ⊥) ⊎ Before j m (n ∷ ns)) (λ j. (In j ns → ⊥) ⊎ Before j m ns)
    (λ j o. ⊎_elim (λ z. inl (λ y. z (inr y)))
    (λ z. ⊎_elim (λ y. inl (λ x. d.0 (subst (λ u. In u ns) (sym y.0) x))) (λ y. inr y) z) o) (f m (inr i)))
    k q) h

pub final_fits :
    (r : ℕ → Instr) (w : List ℕ) (e : ℕ → ℕ) (ns : List ℕ) → Distinct ns → Formed r ns → Fits r ns w (final r w e ns)
final_fits r w e ns d f =
    final_fits_from r w e ns d
    (λ k i. operands_map (r k) (λ j. Before j k ns) (λ j. (In j ns → ⊥) ⊎ Before j k ns) (λ j q. inr q) (f k i))

run_sends : (r : ℕ → Instr) (w : List ℕ) (e : ℕ → ℕ) (ns : List ℕ) → Distinct ns → run_from r w e ns ≡ sends r (final r w e ns) ns
unfolding final
run_sends r w e [] d = refl
run_sends r w e (n ∷ ns) d =
    λ i. sent (r n) (sym (final_head r w e n ns d) i) ++ run_sends r w (upd e n (value (r n) e w)) ns d.1 i

pub sends_cong :
    (r : ℕ → Instr) (v u : ℕ → ℕ) (ns : List ℕ) → ((k : ℕ) → In k ns → v k ≡ u k) → sends r v ns ≡ sends r u ns
sends_cong r v u [] f = refl
sends_cong r v u (n ∷ ns) f = λ i. sent (r n) (f n (inl refl) i) ++ sends_cong r v u ns (λ k q. f k (inr q)) i

pub run_is : (r : ℕ → Instr) (ns w : List ℕ) (v : ℕ → ℕ) → Distinct ns → Formed r ns → Fits r ns w v
    → run_from r w nothing ns ≡ sends r v ns
run_is r ns w v d f fv =
    run_sends r w nothing ns d
    ∙ sends_cong r (final r w nothing ns) v ns (one_valuation r ns w (final r w nothing ns) v d f (final_fits r w nothing ns d f) fv)

-- ---- as many as there are outs

pub sent_length : (i : Instr) (x : ℕ) → length (sent i x) ≡ cond (out? i.op) 1 0
sent_length i x = by_test (out? i.op)
  where
    by_test : (b : Bool) → length (cond {A = List (ℕ × ℕ)} b ((i.literal, x) ∷ []) []) ≡ cond b 1 0
    by_test true = refl
    by_test false = refl

pub run_length : (r : ℕ → Instr) (w : List ℕ) (e : ℕ → ℕ) (ns : List ℕ) → length (run_from r w e ns) ≡ count_outs r ns
run_length r w e [] = refl
run_length r w e (n ∷ ns) =
    let x : ℕ = value (r n) e w in
    length-append (sent (r n) x) (run_from r w (upd e n x) ns)
    ∙ ap (λ m. m + length (run_from r w (upd e n x) ns)) (sent_length (r n) x)
    ∙ ap (λ m. cond (out? (r n).op) 1 0 + m) (run_length r w (upd e n x) ns)

pub run_law : (p : Program) → Distinct p.order → (w : List ℕ) → RunLaw p w
run_law p d w f = record {
  exists = (final (at p) w nothing p.order, final_fits (at p) w nothing p.order d f);
  agree = λ v u a b. one_valuation (at p) p.order w v u d f a b;
  sends_so = λ v a. run_is (at p) p.order w v d f a;
  as_many = run_length (at p) w nothing p.order;
}

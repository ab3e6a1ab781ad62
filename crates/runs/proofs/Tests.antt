-- The test finds the first placed instruction with an operand that is not placed before it.
use Rattle.std.proofs.Common.{◌≡◌, ℕ, zero, suc, ◌<◌, Bool, true, false, cond, not, ◌&&◌, ◌||◌, eqb, ◌⊎◌, List, [], ◌∷◌, length, set, Some, None, Option, sym, refl, ap, ◌∙◌, subst, inl, inr, ⊎_elim}
use mathlib.Core.Bool.{false≢true}
use Rattle.std.proofs.lemmas.List.{get_or-set_same, get_or-set_other, length-set, length-replicate}
use Rattle.std.proofs.lemmas.Bool.{cases_eq, eq-eqb, ne_eqb, eqb-true, cond_both, or_cases, or_right, or_left, and_parts, and_from}
use Rattle.ir.specs.Instructions.{Instr}
use Rattle.program.specs.Programs.{Program, at, takes, Operands, In, Before, Distinct}
use Rattle.program.proofs.Operands.{operands_map}
use Rattle.program.proofs.Orders.{before_head, before_left}
use Rattle.runs.specs.Form.{member, seen?, reads_seen, first_broken, broken, Found, FormLaw}
use Rattle.runs.specs.Answers.{zeros}
use Rattle.runs.specs.Scratch.{word_at, marked?, reads_marked, broken_words}

in_member : (k : ℕ) (xs : List ℕ) → member k xs ≡ true → In k xs
in_member k [] e = absurd (false≢true e)
in_member k (x ∷ xs) e =
    ⊎_elim (λ q. inl (eqb-true x k q)) (λ q. inr (in_member k xs q)) (or_cases (eqb x k) (member k xs) e)

member_in : (k : ℕ) (xs : List ℕ) → In k xs → member k xs ≡ true
member_in k [] i = absurd i
member_in k (x ∷ xs) i =
    ⊎_elim (λ q. or_left (eqb x k) (member k xs) (eq-eqb x k q)) (λ q. or_right (eqb x k) (member k xs) (member_in k xs q)) i

seen_in : (seen : List ℕ) (h : Bool) (k : ℕ) → seen? seen h k ≡ true → h ≡ true → In k seen
seen_in seen true k e t = in_member k seen e
seen_in seen false k e t = absurd (false≢true t)

in_seen : (seen : List ℕ) (h : Bool) (k : ℕ) → (h ≡ true → In k seen) → seen? seen h k ≡ true
in_seen seen true k f = member_in k seen (f refl)
in_seen seen false k f = refl

reads_true : (seen : List ℕ) (r : Instr) → reads_seen seen r ≡ true → Operands r (λ j. In j seen)
reads_true seen r e =
    let x : Bool = seen? seen (takes 0 r.op) r.a in
    let y : Bool = seen? seen (takes 1 r.op) r.b in
    let z : Bool = seen? seen (takes 2 r.op) r.c in
    let p = and_parts x (y && z) e in
    let q = and_parts y z p.1 in
    (seen_in seen (takes 0 r.op) r.a p.0, seen_in seen (takes 1 r.op) r.b q.0, seen_in seen (takes 2 r.op) r.c q.1)

true_reads : (seen : List ℕ) (r : Instr) → Operands r (λ j. In j seen) → reads_seen seen r ≡ true
true_reads seen r o =
    let x : Bool = seen? seen (takes 0 r.op) r.a in
    let y : Bool = seen? seen (takes 1 r.op) r.b in
    let z : Bool = seen? seen (takes 2 r.op) r.c in
    and_from x (y && z) (in_seen seen (takes 0 r.op) r.a o.0)
    (and_from y z (in_seen seen (takes 1 r.op) r.b o.1) (in_seen seen (takes 2 r.op) r.c o.2))

-- the operands of k stand among those seen, or before k in the rest
abbrev Good : (ℕ → Instr) → List ℕ → List ℕ → ℕ → Type 0
Good r seen ns k = Operands (r k) (λ j. In j seen ⊎ Before j k ns)

abbrev Finds : (ℕ → Instr) → List ℕ → List ℕ → Option ℕ → Type 0
Finds r seen ns None = (k : ℕ) → In k ns → Good r seen ns k
Finds r seen ns (Some n) = In n ns × (Good r seen ns n → ⊥) × ((k : ℕ) → Before k n ns → Good r seen ns k)

module _ (r : ℕ → Instr) (seen : List ℕ) (n : ℕ) (ns : List ℕ) (d : Distinct (n ∷ ns)) where
  wider : (k : ℕ) → In k ns → Good r (n ∷ seen) ns k → Good r seen (n ∷ ns) k
  wider k i o =
      operands_map (r k) (λ j. In j (n ∷ seen) ⊎ Before j k ns) (λ j. In j seen ⊎ Before j k (n ∷ ns))
      (λ j q. ⊎_elim (λ z. ⊎_elim (λ e. inr (inl (e, i))) (λ y. inl y) z) (λ z. inr (inr z)) q) o

  narrower : (k : ℕ) → Good r seen (n ∷ ns) k → Good r (n ∷ seen) ns k
  narrower k o =
      operands_map (r k) (λ j. In j seen ⊎ Before j k (n ∷ ns)) (λ j. In j (n ∷ seen) ⊎ Before j k ns)
      (λ j q. ⊎_elim (λ z. inl (inr z)) (λ z. ⊎_elim (λ y. inl (inl y.0)) (λ y. inr y) z) q) o

  head_good : reads_seen seen (r n) ≡ true → Good r seen (n ∷ ns) n
  head_good e = operands_map (r n) (λ j. In j seen) (λ j. In j seen ⊎ Before j n (n ∷ ns)) (λ j q. inl q) (reads_true seen (r n) e)

  good_head : Good r seen (n ∷ ns) n → reads_seen seen (r n) ≡ true
  good_head o =
      true_reads seen (r n)
      (operands_map (r n) (λ j. In j seen ⊎ Before j n (n ∷ ns)) (λ j. In j seen)
      (λ j q. ⊎_elim (λ z. z) (λ z. absurd (before_head j n ns d z)) q) o)

  found_more : (o : Option ℕ) → reads_seen seen (r n) ≡ true → Finds r (n ∷ seen) ns o → Finds r seen (n ∷ ns) o
  found_more None e f =
      λ k i. ⊎_elim (λ q. subst (λ m. Good r seen (n ∷ ns) m) q (head_good e)) (λ q. wider k q (f k q)) i
  found_more (Some m) e f = (
    inr f.0,
    λ o. f.1 (narrower m o),
    λ k b. ⊎_elim (λ q. subst (λ z. Good r seen (n ∷ ns) z) q.0 (head_good e))
        (λ q. wider k (before_left k m ns q) (f.2 k q)) b,
  )

found : (r : ℕ → Instr) (seen ns : List ℕ) → Distinct ns → Finds r seen ns (first_broken r seen ns)
found r seen [] d = λ k i. absurd i
found r seen (n ∷ ns) d =
    cond_both (reads_seen seen (r n)) (first_broken r (n ∷ seen) ns) (Some n) (Finds r seen (n ∷ ns))
    (λ e. found_more r seen n ns d (first_broken r (n ∷ seen) ns) e (found r (n ∷ seen) ns d.1))
    (λ e. (
      inl refl,
      λ o. false≢true (sym e ∙ good_head r seen n ns d o),
      λ k b. absurd (before_head k n ns d b),
    ))

verdict : (p : Program) (o : Option ℕ) → Finds (at p) [] p.order o → Found p o
verdict p None f =
    λ k i. operands_map (at p k) (λ j. In j [] ⊎ Before j k p.order) (λ j. Before j k p.order) (λ j q. ⊎_elim (λ z. absurd z) (λ z. z) q) (f k i)
verdict p (Some n) f = (
  f.0,
  λ o. f.1 (operands_map (at p n) (λ j. Before j n p.order) (λ j. In j [] ⊎ Before j n p.order) (λ j q. inr q) o),
  λ k b. operands_map (at p k) (λ j. In j [] ⊎ Before j k p.order) (λ j. Before j k p.order) (λ j q. ⊎_elim (λ z. absurd z) (λ z. z) q) (f.2 k b),
)

pub form_law : (p : Program) → Distinct p.order → FormLaw p
form_law p d = verdict p (broken p) (found (at p) [] p.order d)

-- ---- the same by marks

-- the words mark just the numbers seen
abbrev Marks : List ℕ → List ℕ → Type 0
Marks words seen = (k : ℕ) → not (eqb (word_at words k) 0) ≡ member k seen

marked_seen : (words seen : List ℕ) → Marks words seen → (i : Instr) → reads_marked words i ≡ reads_seen seen i
marked_seen words seen m i =
    let one : (h : Bool) (k : ℕ) → marked? words h k ≡ seen? seen h k = λ h k. ap (λ b. not h || b) (m k) in
    ap (λ b. b && (marked? words (takes 1 i.op) i.b && marked? words (takes 2 i.op) i.c)) (one (takes 0 i.op) i.a)
    ∙ ap (λ b. seen? seen (takes 0 i.op) i.a && (b && marked? words (takes 2 i.op) i.c)) (one (takes 1 i.op) i.b)
    ∙ ap (λ b. seen? seen (takes 0 i.op) i.a && (seen? seen (takes 1 i.op) i.b && b)) (one (takes 2 i.op) i.c)

marks_more : (words seen : List ℕ) (n : ℕ) → Marks words seen → n < length words → Marks (set words n 1) (n ∷ seen)
marks_more words seen n m l k =
    ⊎_elim
    (λ e.
    subst (λ j. not (eqb (word_at (set words n 1) j) 0) ≡ (eqb n j || member j seen)) (sym e)
    (ap (λ x. not (eqb x 0)) (get_or-set_same words n 1 0 l) ∙ sym (ap (λ b. b || member n seen) (eq-eqb n n refl))))
    (λ d.
    ap (λ x. not (eqb x 0)) (get_or-set_other words n k 1 0 d)
    ∙ m k
    ∙ sym (ap (λ b. b || member k seen) (ne_eqb n k (λ e. d (sym e)))))
    (cases_eq k n)

by_marks :
    (of : ℕ → Instr) (words seen ns : List ℕ) → Marks words seen → ((k : ℕ) → In k ns → k < length words)
    → broken_words of words ns ≡ first_broken of seen ns
by_marks of words seen [] m f = refl
by_marks of words seen (n ∷ ns) m f =
    let more : broken_words of (set words n 1) ns ≡ first_broken of (n ∷ seen) ns
    = by_marks of (set words n 1) (n ∷ seen) ns (marks_more words seen n m (f n (inl refl)))
    (λ k i. subst (λ l. k < l) (sym (length-set words n 1)) (f k (inr i))) in
    ap (λ b. cond b (broken_words of (set words n 1) ns) (Some n)) (marked_seen words seen m (of n))
    ∙ ap (λ o. cond (reads_seen seen (of n)) o (Some n)) more

pub zero_word : (m k : ℕ) → word_at (zeros m) k ≡ 0
zero_word zero k = refl
zero_word (suc m) zero = refl
zero_word (suc m) (suc k) = zero_word m k

-- from words that are zero, the marks find what the test does
pub broken_law : (p : Program) (m : ℕ) → ((k : ℕ) → In k p.order → k < m) → broken_words (at p) (zeros m) p.order ≡ broken p
broken_law p m f =
    by_marks (at p) (zeros m) [] p.order (λ k. ap (λ x. not (eqb x 0)) (zero_word m k))
    (λ k i. subst (λ l. k < l) (sym (length-replicate m 0)) (f k i))

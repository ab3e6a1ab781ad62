-- A valid change keeps a program well formed, and its outputs.
use Rattle.std.proofs.Common.{◌≡◌, ℕ, Bool, true, false, eqb, List, Some, None, sym, refl, ap, ◌∙◌, subst}
use mathlib.Core.Bool.{false≢true}
use lib.ListN.{get_or-map}
use Rattle.std.specs.List.{remove}
use Rattle.std.proofs.lemmas.Bool.{eqb-true, cond_both}
use Rattle.std.proofs.lemmas.List.{get_or-set_other}
use Rattle.ir.specs.Instructions.{Instr}
use Rattle.ir.specs.Values.{value_of}
use Rattle.program.specs.Programs.{Program, Cell, cell, held, at, takes, Operands, index_of, In, Before, WellFormed}
use Rattle.program.specs.Proper.{Proper}
use Rattle.program.proofs.Operands.{operands_both}
use Rattle.program.proofs.Accepting.{busy_inside}
use Rattle.program.proofs.Keeping.{set_case}
use Rattle.edits.specs.Replace.{swapped, rename, rename_cell, replace}
use Rattle.runs.specs.Runs.{out?, arg, value, sent, Fits, sends}
use Rattle.runs.proofs.Valuations.{run_law}
use Rattle.rules.specs.Rules.{Change, nothing, vanish, drop_for, become, take_out, apply}
use Rattle.rules.specs.Laws.{Sound, SameOutputs}
use Rattle.rules.proofs.Removals.{before_trans, before_cut, from_cut, sent_quiet, sends_cut, sends_alike}
use Rattle.rules.proofs.Valid.{Always, Unread, Valid}
use Rattle.rules.proofs.Making.{replaced, made, made_proper}

abbrev Keeps : Program → Program → Type 0
Keeps p q = Sound q × SameOutputs p q

-- values that fit the old program fit the new one, and say that it sends the same
keeps_from :
    (p q : Program) → Sound p → Sound q
    → Always p (λ v w. Fits (at q) q.order w v × (sends (at q) v q.order ≡ sends (at p) v p.order))
    → Keeps p q
keeps_from p q s t f = (
  t,
  λ w i.
      let old = run_law p s.0.distinct w s.1 in
      let new = run_law q t.0.distinct w t.1 in
      let v : ℕ → ℕ = old.exists.0 in
      let fits = old.exists.1 in
      let both = f w v i fits in
      new.sends_so v both.0 ∙ (both.1 ∙ sym (old.sends_so v fits)),
)

-- ---- n goes, and nothing reads it

module _ (p : Program) (n : ℕ) (s : Sound p) (t : Proper (take_out p n)) (quiet : out? (at p n).op ≡ false) (un : Unread p n) where
  abbrev rest : List ℕ
  rest = remove p.order (index_of n p.order)

  left : (k : ℕ) → In k rest → In k p.order × (k ≡ n → ⊥)
  left k = from_cut n k p.order s.0.distinct

  out_cell : (k : ℕ) → In k rest → cell (take_out p n) k ≡ cell p k
  out_cell k i = get_or-set_other p.cells n k None None (left k i).1

  out_formed : WellFormed (take_out p n)
  out_formed k i =
      subst (λ x. Operands (held x) (λ j. Before j k rest)) (sym (out_cell k i))
      (operands_both (at p k) (λ j. Before j k p.order) (λ j. j ≡ n → ⊥) (λ j. Before j k rest)
      (λ j b d. before_cut n j k p.order b d (left k i).1) (s.1 k (left k i).0) (un k))

  out_keeps : Keeps p (take_out p n)
  out_keeps =
      keeps_from p (take_out p n) s (t, out_formed)
      (λ w v a f. (
        λ k i. f k (left k i).0 ∙ sym (ap (λ x. value (held x) v w) (out_cell k i)),
        sends_alike (at (take_out p n)) (at p) v rest (λ k i. ap (λ x. sent (held x) (v k)) (out_cell k i))
            ∙ sends_cut (at p) v n p.order quiet,
      ))

-- ---- y for n

arg_swapped : (h : Bool) (v : ℕ → ℕ) (n y k : ℕ) → v n ≡ v y → arg h v (swapped h n y k) ≡ arg h v k
arg_swapped false v n y k e = refl
arg_swapped true v n y k e = cond_both (eqb k n) y k (λ z. v z ≡ v k) (λ q. sym (ap v (eqb-true k n q) ∙ e)) (λ q. refl)

value_rename : (i : Instr) (v : ℕ → ℕ) (w : List ℕ) (n y : ℕ) → v n ≡ v y → value (rename n y i) v w ≡ value i v w
value_rename i v w n y e =
    λ j. value_of i.op i.literal w (arg_swapped (takes 0 i.op) v n y i.a e j) (arg_swapped (takes 1 i.op) v n y i.b e j)
    (arg_swapped (takes 2 i.op) v n y i.c e j)

swapped_is : (P : ℕ → Type 0) (h : Bool) (n y k : ℕ) → (h ≡ true → P k) → (P n → P y) → h ≡ true → P (swapped h n y k)
swapped_is P false n y k f g e = absurd (false≢true e)
swapped_is P true n y k f g e = cond_both (eqb k n) y k P (λ q. g (subst P (eqb-true k n q) (f refl))) (λ q. f refl)

operands_rename : (i : Instr) (P : ℕ → Type 0) (n y : ℕ) → (P n → P y) → Operands i P → Operands (rename n y i) P
operands_rename i P n y g o = (
  swapped_is P (takes 0 i.op) n y i.a o.0 g,
  swapped_is P (takes 1 i.op) n y i.b o.1 g,
  swapped_is P (takes 2 i.op) n y i.c o.2 g,
)

held_rename : (n y : ℕ) (c : Cell) → held (rename_cell n y c) ≡ rename n y (held c)
held_rename n y None = refl
held_rename n y (Some i) = refl

module _ (p : Program) (n y : ℕ) (s : Sound p) (t : Proper (replace n y p)) (by : Before y n p.order) where
  replace_at : (k : ℕ) → at (replace n y p) k ≡ rename n y (at p k)
  replace_at k = ap held (get_or-map (rename_cell n y) p.cells k None) ∙ held_rename n y (cell p k)

  replace_formed : WellFormed (replace n y p)
  replace_formed k i =
      subst (λ x. Operands x (λ j. Before j k p.order)) (sym (replace_at k))
      (operands_rename (at p k) (λ j. Before j k p.order) n y (before_trans y n k p.order s.0.distinct by) (s.1 k i))

  replace_keeps : Always p (λ v w. v n ≡ v y) → Keeps p (replace n y p)
  replace_keeps e =
      keeps_from p (replace n y p) s (t, replace_formed)
      (λ w v a f. (
        λ k i. f k i ∙ sym (ap (λ x. value x v w) (replace_at k) ∙ value_rename (at p k) v w n y (e w v a f)),
        sends_alike (at (replace n y p)) (at p) v p.order (λ k i. ap (λ x. sent x (v k)) (replace_at k)),
      ))

-- ---- another record at n

module _ (p : Program) (n : ℕ) (s : Sound p) (i : In n p.order) (r : Instr) (t : Proper (apply p n (become r))) where
  changed : (P : ℕ → Cell → Type 0) → P n (Some r) → ((k : ℕ) → P k (cell p k)) → (k : ℕ) → P k (cell (apply p n (become r)) k)
  changed P here else = set_case p.cells n (Some r) P (busy_inside p n (s.0.placed n i)) here (λ k d. else k)

  become_keeps : Valid p n (become r) → Keeps p (apply p n (become r))
  become_keeps h =
      keeps_from p (apply p n (become r)) s
      (t, changed (λ k x. In k p.order → Operands (held x) (λ j. Before j k p.order)) (λ q. h.3) s.1)
      (λ w v a f. (
        changed (λ k x. In k p.order → v k ≡ value (held x) v w) (λ q. h.4 w v a f) f,
        sends_alike (at (apply p n (become r))) (at p) v p.order
            (changed (λ k x. In k p.order → sent (held x) (v k) ≡ sent (at p k) (v k))
            (λ q. sent_quiet r (v n) h.1 ∙ sym (sent_quiet (at p n) (v n) h.0)) (λ k q. refl)),
      ))

-- ---- changes

kept : (p : Program) (n : ℕ) (change : Change) → Sound p → In n p.order → Valid p n change → Proper (apply p n change) → Keeps p (apply p n change)
kept p n nothing s i v t = (s, λ w a. refl)
kept p n vanish s i v t = out_keeps p n s t v.0 v.1
kept p n (drop_for y) s i v t =
    let r = replaced p n y s i v.1 in
    let k = replace_keeps p n y s r.0 v.1 v.2 in
    let o = out_keeps (replace n y p) n k.0 t (ap (λ x. out? x.op) (replace_at p n y s r.0 v.1 n) ∙ v.0) r.1 in
    (o.0, λ w a. o.1 w a ∙ k.1 w a)
kept p n (become r) s i v t = become_keeps p n s i r t v

pub change_keeps : (p : Program) (n : ℕ) (change : Change) → Sound p → In n p.order → Valid p n change → Keeps p (apply p n change)
change_keeps p n change s i v = kept p n change s i v (made_proper p (apply p n change) _ s.0 (made p n change s i v))

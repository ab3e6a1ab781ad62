-- Rules 1, 2 and 5 are valid: dead instructions, operations on constants, and twins.
use Rattle.std.proofs.Common.{◌≡◌, ℕ, ◌<◌, Bool, true, false, cond, not, ◌&&◌, eqb, List, [], ◌∷◌, Some, sym, refl, ap, ◌∙◌, inl, inr, ⊎_elim, lit<}
use mathlib.Core.Bool.{false≢true}
use Rattle.std.proofs.lemmas.Option.{same_Some}
use Rattle.std.proofs.lemmas.Bool.{eqb-true, eqb-false, and_parts, not-true, cond_both}
use Rattle.ir.specs.declared.operation.Op.{Op}
use Rattle.ir.specs.declared.operation.Op.TheVariants.{Constant}
use Rattle.ir.specs.Operations.{operation_of}
use Rattle.ir.specs.Instructions.{Instr, constant_of}
use Rattle.ir.specs.Values.{word}
use Rattle.program.specs.Programs.{Program, at, takes, In, Before}
use Rattle.program.specs.Uses.{uses, unused}
use Rattle.program.proofs.Orders.{before_left}
use Rattle.program.proofs.Uses.{unused_none}
use Rattle.program.proofs.Keeping.{never_read}
use Rattle.runs.specs.Runs.{out?, arg, value}
use Rattle.runs.proofs.Valuations.{value_cong}
use Rattle.rules.specs.Rules.{nothing, vanish, drop_for, become, code_of, same_rec, constant?, known, all_known, dead, fold, twin_in, twin}
use Rattle.rules.specs.Laws.{Sound}
use Rattle.rules.proofs.Words.{instr_word, constant_word, value_closed}
use Rattle.rules.proofs.Valid.{Valid}
use Rattle.rules.proofs.Known.{constant_is, become_constant}

-- ---- equal records

code_is : (o : Op) → operation_of (code_of o) ≡ Some o
code_is Constant = refl
code_is o = refl

same_code : (o q : Op) → code_of o ≡ code_of q → o ≡ q
same_code o q e = same_Some o q (sym (code_is o) ∙ (ap operation_of e ∙ code_is q))

-- each of five tests that hold together holds
five_parts : (a b c d e : Bool) → (a && b && c && d && e) ≡ true → (a ≡ true) × (b ≡ true) × (c ≡ true) × (d ≡ true) × (e ≡ true)
five_parts a b c d e h =
    let p = and_parts (a && b && c && d) e h in
    let q = and_parts (a && b && c) d p.0 in
    let r = and_parts (a && b) c q.0 in
    let s = and_parts a b r.0 in
    (s.0, s.1, r.1, q.1, p.1)

same_record : (i j : Instr) → same_rec i j ≡ true → i ≡ j
same_record i j e =
    let t = five_parts (eqb (code_of i.op) (code_of j.op)) (eqb i.literal j.literal) (eqb i.a j.a) (eqb i.b j.b) (eqb i.c j.c) e in
    λ k. record {
      op = same_code i.op j.op (eqb-true (code_of i.op) (code_of j.op) t.0) k;
      literal = eqb-true i.literal j.literal t.1 k;
      a = eqb-true i.a j.a t.2 k;
      b = eqb-true i.b j.b t.3 k;
      c = eqb-true i.c j.c t.4 k;
    }

known_constant : (p : Program) (h : Bool) (k : ℕ) → known p h k ≡ true → h ≡ true → constant? (at p k).op ≡ true
known_constant p true k e t = e
known_constant p false k e t = absurd (false≢true t)

module _ (p : Program) (n : ℕ) (s : Sound p) (i : In n p.order) where
  pub dead_valid : Valid p n (dead p n)
  dead_valid =
      cond_both (not (out? (at p n).op) && unused (uses p n)) vanish nothing (Valid p n)
      (λ e.
      let h = and_parts (not (out? (at p n).op)) (unused (uses p n)) e in
      (not-true (out? (at p n).op) h.0, never_read p n (unused_none p n h.1)))
      (λ e. tt)

  pub fold_valid : Valid p n (fold p n)
  fold_valid =
      let r : Instr = at p n in
      let h0 : Bool = takes 0 r.op in
      let h1 : Bool = takes 1 r.op in
      let h2 : Bool = takes 2 r.op in
      let quiet : Bool = not (out? r.op) in
      let k0 : Bool = known p h0 r.a in
      let k1 : Bool = known p h1 r.b in
      let k2 : Bool = known p h2 r.c in
      let literals : ℕ → ℕ = λ m. (at p m).literal in
      cond_both (all_known p r) (become (constant_of (value r literals []))) nothing (Valid p n)
      (λ e.
      let t = five_parts h0 quiet k0 k1 k2 e in
      let b = s.1 n i in
      let c0 = λ (h : h0 ≡ true). known_constant p h0 r.a t.2 h in
      let c1 = λ (h : h1 ≡ true). known_constant p h1 r.b t.3 h in
      let c2 = λ (h : h2 ≡ true). known_constant p h2 r.c t.4 h in
      let small : (k : ℕ) → constant? (at p k).op ≡ true → literals k < word
      = λ k t. constant_word (at p k).op (at p k).literal t (s.0.shaped k).0 in
      become_constant p n (value r literals [])
      (instr_word r literals [] (s.0.shaped n).0 (λ k. lit< tt) (λ h. small r.a (c0 h), λ h. small r.b (c1 h), λ h. small r.c (c2 h)))
      (not-true (out? r.op) t.1)
      (λ w v a f.
      f n i
      ∙ (value_cong r v literals w (
        λ h. constant_is p n r.a (b.0 h) (c0 h) w v a f,
        λ h. constant_is p n r.b (b.1 h) (c1 h) w v a f,
        λ h. constant_is p n r.c (b.2 h) (c2 h) w v a f,
      )
      ∙ value_closed r.op r.literal w [] (arg h0 literals r.a) (arg h1 literals r.b) (arg h2 literals r.c) t.0)))
      (λ e. tt)

  twin_from :
      (ks : List ℕ) → out? (at p n).op ≡ false → In n ks → ((k : ℕ) → Before k n ks → Before k n p.order) → Valid p n (twin_in p n ks)
  twin_from [] q h g = tt
  twin_from (k ∷ ks) q h g =
      cond_both (eqb k n) nothing (cond (same_rec (at p k) (at p n)) (drop_for k) (twin_in p n ks)) (Valid p n) (λ t. tt)
      (λ t.
      let rest : In n ks = ⊎_elim (λ z. absurd (eqb-false k n t z)) (λ z. z) h in
      let first : Before k n p.order = g k (inl (refl, rest)) in
      cond_both (same_rec (at p k) (at p n)) (drop_for k) (twin_in p n ks) (Valid p n)
      (λ e. (
        q,
        first,
        λ w v u f.
            f n i
            ∙ (sym (ap (λ r. value r v w) (same_record (at p k) (at p n) e)) ∙ sym (f k (before_left k n p.order first))),
      ))
      (λ e. twin_from ks q rest (λ j b. g j (inr b))))

  pub twin_valid : Valid p n (twin p n)
  twin_valid =
      cond_both (out? (at p n).op) nothing (twin_in p n p.order) (Valid p n) (λ t. tt)
      (λ t. twin_from p.order t i (λ k b. b))

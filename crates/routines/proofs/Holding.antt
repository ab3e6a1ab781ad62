-- A held save, an edit under it, and the save taken back.
use Rattle.std.proofs.Common.{◌≡◌, ℕ, ◌+◌, Bool, true, false, cond, eqb, ltb, List, [], ◌∷◌, length, Some, None, Ok, Err, Option, refl, ap, ◌∙◌, arith}
use Rattle.std.proofs.lemmas.Bool.{eq-eqb}
use Rattle.std.proofs.lemmas.Bool.Decides.{nat_tests}
use Rattle.program.specs.declared.fault.StoreFault.{StoreFault}
use Rattle.program.specs.Programs.{Program}
use Rattle.edits.specs.Commands.{Edit, fault_of, after}
use Rattle.session.specs.declared.fault.SessionFault.TheVariants.{TooDeep, NotNewest}
use Rattle.session.specs.declared.token.Token.{Token}
use Rattle.session.specs.Copying.{Save, Copying, to, charged, edited, edit_step, open_step, closed, close_fault, accepted, accept_step, reverted, revert_step}
use Rattle.session.specs.Tokens.{with_token}

-- an edit leaves the saves
charged_saves : (s : Copying) (q : Program) (need : ℕ) (vs : List Save) → (charged s q need vs).after.saves ≡ s.saves
charged_saves s q need [] = refl
charged_saves s q need (v ∷ vs) = grind (arith, nat_tests)

edit_saves : (e : Edit) (s : Copying) → (edit_step e s).after.saves ≡ s.saves
edit_saves e s = by_fault (fault_of s.program e)
  where
    by_fault : (f : Option StoreFault) → (edited s f (after s.program e) 1).after.saves ≡ s.saves
    by_fault None = charged_saves s (after s.program e) 1 s.saves
    by_fault (Some f) = refl

module _ (s : Copying) where
  abbrev copy : Save
  copy = record { program = s.program; left = s.left; held = true }

  abbrev up : Copying
  up = record { program = s.program; saves = copy ∷ s.saves; left = s.left }

  by_room : (b : Bool) (token : Token) → Ok token ≡ with_token (cond b (to up (Ok (length s.saves + 1))) (to s (Err (TooDeep (length s.saves))))).answer
      → ((cond b (to up (Ok (length s.saves + 1))) (to s (Err (TooDeep (length s.saves))))).after ≡ up) × (token.depth ≡ length s.saves + 1)
  by_room true token e = (refl, (let q : token ≡ record { depth = length s.saves + 1 } = cc in ap (λ (t : Token). t.depth) q))
  by_room false token e = cc

  -- an accepted hold
  pub held : (token : Token) → Ok token ≡ with_token (open_step true s).answer → ((open_step true s).after ≡ up) × (token.depth ≡ length s.saves + 1)
  held token e = by_room (ltb (length s.saves) 8) token e

  -- an edit under the held save, which can then be closed
  module _ (e : Edit) (x y : Copying) (token : Token) (is : Ok token ≡ with_token (open_step true s).answer) (under : x ≡ (open_step true s).after) (done : y ≡ (edit_step e x).after) where
    saves : y.saves ≡ copy ∷ s.saves
    saves = ap (λ (z : Copying). z.saves) done ∙ edit_saves e x ∙ ap (λ (z : Copying). z.saves) (under ∙ (held token is).0)

    closes : (u : List Save → Copying) → closed (close_fault y.saves token.depth true) y (u y.saves) ≡ to (u (copy ∷ s.saves)) (Ok tt)
    closes u =
        let d = (held token is).1 in
        let newest : eqb token.depth (length (copy ∷ s.saves)) ≡ true = eq-eqb token.depth (length (copy ∷ s.saves)) (omega arith) in
        ap (λ (vs : List Save). closed (close_fault vs token.depth true) y (u vs)) saves
        ∙ ap (λ b. closed (cond b None (Some (NotNewest token.depth))) y (u (copy ∷ s.saves))) newest

    -- taken back: the session is as it was
    pub taken_back : revert_step token.depth true y ≡ to s (Ok tt)
    taken_back = closes (reverted y)

    -- kept: the saves are those from before
    pub kept : accept_step token.depth true y ≡ to (accepted y (copy ∷ s.saves)) (Ok tt)
    kept = closes (accepted y)

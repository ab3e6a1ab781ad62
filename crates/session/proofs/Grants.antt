-- Whether there are records for so many edits, and what a note leaves.
use Rattle.std.proofs.Common.{◌≡◌, ℕ, ◌-◌, ◌<◌, ◌≤◌, List, [], ◌∷◌, length, Ok, Err, sym, refl, ap, arith}
use Rattle.std.proofs.lemmas.Bool.Decides.{nat_tests}
use Rattle.edits.specs.Commands.{Edit}
use Rattle.session.specs.declared.mark.Mark.{Mark}
use Rattle.session.specs.declared.fault.SessionFault.{SessionFault}
use Rattle.session.specs.declared.fault.SessionFault.TheVariants.{TooFewRecords}
use Rattle.session.specs.Trail.{granted, noted}

module _ (t : List Edit) (need : ℕ) where
  pub granted_none : (ms : List Mark) → (length ms ≡ 0 → ⊥) → 512 - length t < need → Err (TooFewRecords need) ≡ granted ms t need
  granted_none [] d h = absurd (d refl)
  granted_none (m ∷ ms) d h = grind (arith, nat_tests)

  pub granted_free : (ms : List Mark) → ms ≡ [] → Ok tt ≡ granted ms t need
  granted_free ms e = rw e refl

  pub granted_some : (ms : List Mark) → need ≤ 512 - length t → Ok tt ≡ granted ms t need
  granted_some [] h = refl
  granted_some (m ∷ ms) h = grind (arith, nat_tests)

  -- what a grant says where there is a save
  pub granted_left : (m : Mark) (ms : List Mark) (u : Unit {0}) → Ok u ≡ granted (m ∷ ms) t need → need ≤ 512 - length t
  granted_left m ms u e = grind (arith, nat_tests)

-- room for one more
pub room_some : (t : List Edit) (ms : List Mark) (u : Unit {0}) → (length ms ≡ 0 → ⊥) → Ok u ≡ granted ms t 1 → length t < 512
room_some t [] u d r = absurd (d refl)
room_some t (m ∷ ms) u d r = grind (arith, nat_tests)

module _ (e : Edit) (t : List Edit) where
  pub noted_free : (ms : List Mark) → ms ≡ [] → t ≡ noted ms e t
  noted_free ms z = sym (ap (λ l. noted l e t) z)

  pub noted_some : (ms : List Mark) → (length ms ≡ 0 → ⊥) → length t < 512 → e ∷ t ≡ noted ms e t
  noted_some [] d h = absurd (d refl)
  noted_some (m ∷ ms) d h = grind (arith, nat_tests)

  pub noted_none : (ms : List Mark) (f : SessionFault) → Err f ≡ granted ms t 1 → t ≡ noted ms e t
  noted_none [] f r = refl
  noted_none (m ∷ ms) f r = grind (arith, nat_tests)

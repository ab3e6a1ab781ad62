-- The use lists as the readings give them.
use Rattle.std.proofs.Common.{◌≡◌, ℕ, List, [], ◌∷◌, length, Some, None, Ok, Option, ap, ◌∙◌, subst}
use Rattle.program.specs.Programs.{Program, Busy, held, Operands}
use Rattle.program.specs.Uses.{uses, least_beyond, Reading}
use Rattle.program.specs.Readings.{answered}
use Rattle.program.specs.Proper.{Proper}
use Rattle.program.proofs.Uses.{uses_law}
use Rattle.program.proofs.Accepting.{busy_accepted}
use Rattle.program.proofs.Positions.{operand_at}
use Rattle.history.specs.Law.{ReadOut, UseList, UsesRead}

module _ (p : Program) (v : ℕ) (b : Busy p v) where
  read_out : (after : Option (ℕ × ℕ)) (ys : List (ℕ × ℕ)) → Reading (λ x. least_beyond x (uses p v)) after ys → ReadOut p v after ys
  read_out after [] r = ap (λ f. answered f (least_beyond after (uses p v))) (busy_accepted p v b) ∙ ap Ok r
  read_out after (y ∷ ys) r =
      (ap (λ f. answered f (least_beyond after (uses p v))) (busy_accepted p v b) ∙ ap Ok r.0, read_out (Some y) ys r.1)

  use_list : UseList p v (uses p v)
  use_list =
      let u = uses_law p v in
      record {
        read = read_out None (uses p v) u.read;
        ascends = u.ascends;
        exactly = u.exactly;
        counted = ap (λ f. answered f (length (uses p v))) (busy_accepted p v b);
      }

pub uses_read : (p : Program) → Proper p → UsesRead p
uses_read p t = record {
  lists = λ v b. (uses p v, use_list p v b);
  all_named = λ u k v i c r.
      operand_at (λ m. Busy p m) i k v
      (Rattle.program.proofs.Operands.operands_map i (λ m. Busy p m × (m ≡ u → ⊥)) (λ m. Busy p m) (λ m h. h.0)
      (subst (λ x. Operands (held x) (λ m. Busy p m × (m ≡ u → ⊥))) c (t.tied u))) r;
}

-- A replace, use by use, in the copying session.
use Rattle.std.proofs.Common.{◌≡◌, ℕ, suc, ◌-◌, ◌<◌, ◌≤◌, List, [], ◌∷◌, length, Some, None, sym, refl, ap, ◌∙◌, subst, inl, arith}
use Rattle.std.proofs.lemmas.Bool.{ltb-true}
use Rattle.std.proofs.lemmas.Bool.Decides.{nat_tests}
use Rattle.ir.specs.Operations.{arity}
use Rattle.program.specs.Programs.{Program, at}
use Rattle.program.specs.Uses.{uses, least_beyond, position}
use Rattle.program.specs.Proper.{Proper}
use Rattle.program.proofs.Uses.{in_uses}
use Rattle.edits.specs.Commands.{Edit, after}
use Rattle.edits.specs.Replace.{replace, Replaceable, swap, OneSwap}
use Rattle.program.proofs.Positions.{by_position, use_reads}
use Rattle.edits.proofs.Renaming.{replace_end}
use Rattle.edits.proofs.Swaps.{replace_step}
use Rattle.session.specs.Copying.{Save, Copying, charged, edited, edit_step}
use Rattle.session.specs.Sweeping.{Enough, Ready, swept}
use Rattle.session.proofs.Steps.{paid, charged_enough}

-- the least use heads the list
pub head_use : (ys : List (ℕ × ℕ)) (y : ℕ × ℕ) → Some y ≡ least_beyond None ys → (zs : List (ℕ × ℕ)) × (ys ≡ y ∷ zs)
head_use [] y e = cc
head_use (x ∷ xs) y e = let q : x ≡ y = cc in (xs, ap (λ z. z ∷ xs) q)

pub no_use_left : (ys : List (ℕ × ℕ)) → None ≡ least_beyond None ys → ys ≡ []
no_use_left [] e = refl
no_use_left (x ∷ xs) e = cc

-- a use names an operand that is there
pub use_position : (p : Program) (n : ℕ) (y : ℕ × ℕ) (ys : List (ℕ × ℕ)) → uses p n ≡ y ∷ ys → (1 ≤ y.1) × (y.1 ≤ arity (at p y.0).op)
use_position p n y ys is =
    let i = at p y.0 in
    let within : (k : ℕ) → Type 0 = λ k. (1 ≤ k) × (k ≤ arity i.op) in
    by_position i n within
    (λ t e. let l = ltb-true 0 (arity i.op) t in (omega arith, omega arith))
    (λ t e. let l = ltb-true 1 (arity i.op) t in (omega arith, omega arith))
    (λ t e. let l = ltb-true 2 (arity i.op) t in (omega arith, omega arith))
    y.1
    (use_reads p n y (in_uses p n y (subst (λ l. Rattle.program.specs.Uses.Among y l) (sym is) (inl refl))))

enough_less : (vs : List Save) (left k n : ℕ) → k ≤ n → Enough vs left n → Enough vs left k
enough_less [] left k n h e = tt
enough_less (v ∷ vs) left k n h e = omega arith

-- one use more
module _ (s : Copying) (n m : ℕ) (y : ℕ × ℕ) (ys : List (ℕ × ℕ)) (t : Proper s.program) (r : Ready n m s) (is : uses s.program n ≡ y ∷ ys) where
  abbrev e : Edit
  e = swap s.program m y

  abbrev q : Program
  q = after s.program e

  abbrev next : Copying
  next = paid s q 1 s.saves

  one : OneSwap s.program n m y ys
  one = replace_step s.program n m y ys t r.can is

  need_is : length (uses s.program n) ≡ suc (length ys)
  need_is = ap length is

  pub one_edit : (edit_step e s).after ≡ next
  one_edit =
      ap (λ f. (edited s f q 1).after) one.accepted
      ∙ ap (λ x. x.after) (charged_enough s q 1 s.saves (enough_less s.saves s.left 1 (length (uses s.program n)) (let l = need_is in omega arith) r.enough))

  next_program : (vs : List Save) → (paid s q 1 vs).program ≡ q
  next_program [] = refl
  next_program (v ∷ vs) = refl

  next_saves : (vs : List Save) → (paid s q 1 vs).saves ≡ s.saves
  next_saves [] = refl
  next_saves (v ∷ vs) = refl

  enough_next : (vs : List Save) → Enough vs s.left (length (uses s.program n)) → Enough vs (paid s q 1 vs).left (length ys)
  enough_next [] h = tt
  enough_next (v ∷ vs) h = let l = need_is in omega arith

  pub one_ready : Ready n m next
  one_ready = record {
    can = subst (λ p. Replaceable p n m) (sym (next_program s.saves)) one.still;
    enough =
        subst (λ vs. Enough vs next.left (length (uses next.program n))) (sym (next_saves s.saves))
        (subst (λ k. Enough s.saves next.left k) (sym (ap (λ p. length (uses p n)) (next_program s.saves) ∙ ap length one.left)) (enough_next s.saves r.enough));
  }

  same_end : (vs : List Save) → paid (paid s q 1 vs) (replace n m q) (length ys) vs ≡ paid s (replace n m s.program) (suc (length ys)) vs
  same_end [] = ap (λ p. record { program = p; saves = s.saves; left = s.left }) one.same
  same_end (v ∷ vs) = let k : s.left - 1 - length ys ≡ s.left - suc (length ys) = omega arith in let z = one.same in cc

  pub one_swept : swept n m next ≡ swept n m s
  one_swept =
      ap (λ x. x.after) (charged_enough next (replace n m next.program) (length (uses next.program n)) next.saves one_ready.enough)
      ∙ ap (λ p. paid next (replace n m p) (length (uses p n)) next.saves) (next_program s.saves)
      ∙ ap (λ k. paid next (replace n m q) k next.saves) (ap length one.left)
      ∙ ap (paid next (replace n m q) (length ys)) (next_saves s.saves)
      ∙ same_end s.saves
      ∙ ap (λ k. paid s (replace n m s.program) k s.saves) (sym need_is)
      ∙ sym (ap (λ x. x.after) (charged_enough s (replace n m s.program) (length (uses s.program n)) s.saves r.enough))

  pub one_fewer : length (uses next.program n) < length (uses s.program n)
  one_fewer = let a = ap (λ p. length (uses p n)) (next_program s.saves) in let b = ap length one.left in let c = need_is in omega arith

-- no use left
pub none_swept : (s : Copying) (n m : ℕ) → uses s.program n ≡ [] → s ≡ swept n m s
none_swept s n m is =
    sym (ap (λ p. (charged s p (length (uses s.program n)) s.saves).after) (replace_end s.program n m is)
    ∙ ap (λ k. (charged s s.program k s.saves).after) (ap length is)
    ∙ by_saves s.saves)
  where
    by_saves : (vs : List Save) → (charged s s.program 0 vs).after ≡ s
    by_saves [] = refl
    by_saves (v ∷ vs) = grind (arith, nat_tests)

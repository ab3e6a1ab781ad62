-- Each rule's change is valid: it keeps the program sound and its outputs, and the store's commands make it.
use Rattle.std.proofs.Common.{ℕ, ◌<◌, List, [], ◌∷◌, subst, ⊎_elim, arith, lit<}
use Rattle.std.specs.List.{AllByRecursion}
use Rattle.program.specs.Programs.{Program, In}
use Rattle.rules.specs.Rules.{Change, rules}
use Rattle.rules.specs.Laws.{Sound, Listed, RulesKeepOutputs, RulesByCommands}
use Rattle.rules.proofs.Valid.{Valid}
use Rattle.rules.proofs.Making.{by_commands}
use Rattle.rules.proofs.Keeping.{change_keeps}
use Rattle.rules.proofs.Folding.{dead_valid, fold_valid, twin_valid}
use Rattle.rules.proofs.Replacements.{same_valid, fixed_valid, power_valid}

all_listed : (P : ℕ × Change → Type 0) (r : ℕ × Change) (rs : List (ℕ × Change)) → AllByRecursion P rs → Listed r rs → P r
all_listed P r [] a l = absurd l
all_listed P r (x ∷ xs) a l = ⊎_elim (λ q. subst P q a.0) (λ q. all_listed P r xs a.1 q) l

rules_valid : (p : Program) (n : ℕ) → Sound p → In n p.order → AllByRecursion (λ r. Valid p n r.1) (rules p n)
unfolding rules
rules_valid p n s i =
    (dead_valid p n s i, (fold_valid p n s i, (same_valid p n s i, (fixed_valid p n s i, (twin_valid p n s i, (power_valid p n s i, tt))))))

-- the numbers of the rules ascend from above 0
abbrev pub Numbered : ℕ → List (ℕ × Change) → Type 0
Numbered low [] = Unit {0}
Numbered low (r ∷ rs) = (low < r.0) × Numbered r.0 rs

pub rules_numbered : (p : Program) (n : ℕ) → Numbered 0 (rules p n)
unfolding rules
rules_numbered p n = (lit< tt, (lit< tt, (lit< tt, (lit< tt, (lit< tt, (lit< tt, tt))))))

pub numbered_above : (low : ℕ) (rs : List (ℕ × Change)) (r : ℕ × Change) → Numbered low rs → Listed r rs → low < r.0
numbered_above low [] r a l = absurd l
numbered_above low (x ∷ xs) r a l =
    let b : low < x.0 = a.0 in
    ⊎_elim (λ q. subst (λ y. low < y.0) q b) (λ q. let h : x.0 < r.0 = numbered_above x.0 xs r a.1 q in omega arith) l

pub listed_valid : (p : Program) (n : ℕ) (r : ℕ × Change) → Sound p → In n p.order → Listed r (rules p n) → Valid p n r.1
listed_valid p n r s i l = all_listed (λ x. Valid p n x.1) r (rules p n) (rules_valid p n s i) l

pub rules_keep_outputs : RulesKeepOutputs
rules_keep_outputs p n r s i l = change_keeps p n r.1 s i (listed_valid p n r s i l)

pub rules_by_commands : RulesByCommands
rules_by_commands p n r s i l = by_commands p n r.1 s i (listed_valid p n r s i l)

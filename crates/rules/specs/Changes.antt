-- The changes that the code answers, as the changes of the rules, and the rules by their numbers.
use Rattle.std.specs.Prelude.{◌≡◌, ℕ, zero, suc, ◌+◌, ◌≤◌, cond, List, [], ◌∷◌, Some, None, Ok, Err, Option, Result, slice_index_or}
use Rattle.ir.specs.Instructions.{plain}
use Rattle.program.specs.Programs.{Program, at}
use Rattle.rules.specs.declared.change.Change.{Change}
use Rattle.rules.specs.declared.change.Change.TheVariants.{Vanish, DropFor, Become}
use Rattle.rules.specs.declared.numbered.Rule.{Rule}
use Rattle.rules.specs.declared.numbered.Rule.TheVariants.{Dead, Fold, Same, Fixed, Twin, Power}
use Rattle.rules.specs.declared.numbered.UnknownRule.{UnknownRule}
use Rattle.rules.specs.Rules.{Change as Meant, nothing, vanish, drop_for, become, constant?, dead, fold, by_op, same_by, fixed_by, twin, power_by, rules}
use Rattle.rules.specs.Laws.{Listed}

-- the change that an answer means
abbrev pub change_of : Option Change → Meant
change_of None = nothing
change_of (Some Vanish) = vanish
change_of (Some (DropFor y)) = drop_for y
change_of (Some (Become what)) = become (plain what)

-- the word of a number that is a constant
abbrev pub constant_at : Program → ℕ → Option ℕ
constant_at p m = cond (constant? (at p m).op) (Some (at p m).literal) None

-- what is read of an operand that is absent or a constant
abbrev pub known_literal : Program → Option ℕ → Option ℕ
known_literal p None = Some 0
known_literal p (Some m) = constant_at p m

-- a number above 0, and none for 0
abbrev pub unless_zero : ℕ → Option ℕ
unless_zero zero = None
unless_zero (suc k) = Some (suc k)

-- the change of a rule at n
abbrev pub change_by : Rule → Program → ℕ → Meant
change_by Dead p n = dead p n
change_by Fold p n = fold p n
change_by Same p n = by_op same_by p n
change_by Fixed p n = by_op fixed_by p n
change_by Twin p n = twin p n
change_by Power p n = by_op power_by p n

-- the rule with a number, 1 to 6; no other number has one
abbrev pub rule_of : ℕ → Option Rule
rule_of number =
    slice_index_or (None ∷ Some Dead ∷ Some Fold ∷ Some Same ∷ Some Fixed ∷ Some Twin ∷ Some Power ∷ []) number None

-- the result is the rule with the number; one that no rule has is handed back
abbrev pub Names : ℕ → Result Rule UnknownRule → Type 0
Names number (Ok rule) = rule_of number ≡ Some rule
Names number (Err e) = (rule_of number ≡ None) × (e.number ≡ number)

-- the change at n of the rule with a number, and nothing where no rule has it
abbrev pub rule_at : Program → ℕ → ℕ → Meant
rule_at p zero n = nothing
rule_at p (suc zero) n = dead p n
rule_at p (suc (suc zero)) n = fold p n
rule_at p (suc (suc (suc zero))) n = by_op same_by p n
rule_at p (suc (suc (suc (suc zero)))) n = by_op fixed_by p n
rule_at p (suc (suc (suc (suc (suc zero))))) n = twin p n
rule_at p (suc (suc (suc (suc (suc (suc zero)))))) n = by_op power_by p n
rule_at p (suc (suc (suc (suc (suc (suc (suc k))))))) n = nothing

-- so many rules from a number on, each with its change at n
abbrev pub rules_from : Program → ℕ → ℕ → ℕ → List (ℕ × Meant)
rules_from p n rule zero = []
rules_from p n rule (suc left) = (rule, rule_at p rule n) ∷ rules_from p n (rule + 1) left

-- the rules are those with the numbers 1 to 6
abbrev pub RulesByNumber : Type 0
RulesByNumber = (p : Program) (n : ℕ) → rules p n ≡ rules_from p n 1 6

-- each of them is listed
abbrev pub RulesListed : Type 0
RulesListed = (p : Program) (n rule : ℕ) → 1 ≤ rule → rule ≤ 6 → Listed (rule, rule_at p rule n) (rules p n)

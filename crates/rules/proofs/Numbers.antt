-- The rules by their numbers.
use Rattle.std.proofs.Common.{zero, suc, refl, inl, inr, arith}
use Rattle.rules.specs.Rules.{rules}
use Rattle.rules.specs.Changes.{RulesByNumber, RulesListed}

pub rules_by_number : RulesByNumber
unfolding rules
rules_by_number p n = refl

pub rules_listed : RulesListed
unfolding rules
rules_listed p n zero l h = absurd (omega arith)
rules_listed p n (suc zero) l h = inl refl
rules_listed p n (suc (suc zero)) l h = inr (inl refl)
rules_listed p n (suc (suc (suc zero))) l h = inr (inr (inl refl))
rules_listed p n (suc (suc (suc (suc zero)))) l h = inr (inr (inr (inl refl)))
rules_listed p n (suc (suc (suc (suc (suc zero))))) l h = inr (inr (inr (inr (inl refl))))
rules_listed p n (suc (suc (suc (suc (suc (suc zero)))))) l h = inr (inr (inr (inr (inr (inl refl)))))
rules_listed p n (suc (suc (suc (suc (suc (suc (suc k))))))) l h = absurd (omega arith)

-- Trials of the rules by their price, rounds of trials, and passes of rounds.
use Rattle.std.specs.Prelude.{ℕ, zero, suc, ◌+◌, ◌-◌, cond, List, [], ◌∷◌, length, ◌==◌, nat_lt}
use Rattle.program.specs.Programs.{Program}
use Rattle.program.specs.Uses.{uses}
use Rattle.runs.specs.Prices.{Costing, price}
use Rattle.rules.specs.Rules.{Change, nothing, apply, cost, rules}

-- ---- one trial

-- the first of a list of rules that lowers the price, with its number; 0 and nothing if there is none
abbrev pub choose : Costing → Program → ℕ → List (ℕ × Change) → ℕ × Change
choose c p n [] = (0, nothing)
choose c p n (r ∷ rs) = cond (nat_lt (price c (apply p n r.1)) (price c p)) r (choose c p n rs)

-- the rule that a trial at n keeps
unfoldable pub choice : Costing → Program → ℕ → ℕ × Change
choice c p n = choose c p n (rules p n)

-- the program after a trial at n, and the number of the rule that it keeps, 0 for none
abbrev pub trial : Costing → Program → ℕ → Program × ℕ
trial c p n = (apply p n (choice c p n).1, (choice c p n).0)

-- ---- with so many journal records left

-- a program, the records left and the answer; or too few records, and how many were needed
pub data Answer : Type 0 where
  did : Program → ℕ → ℕ → Answer
  short : ℕ → Answer

-- a trial at n asks for two records more than n has uses
abbrev pub need : Program → ℕ → ℕ
need p n = length (uses p n) + 2

-- a trial takes the records of the change that it keeps
abbrev pub spared_trial : Costing → Program → ℕ → ℕ → Answer
spared_trial c p left n =
    cond (nat_lt left (need p n)) (short (need p n)) (did (trial c p n).0 (left - cost p n (choice c p n).1) (trial c p n).1)

-- what is done next, unless there were too few records
abbrev pub onward : Answer → (Program → ℕ → ℕ → Answer) → Answer
onward (did p left k) f = f p left k
onward (short m) f = short m

-- the answer changed
abbrev pub counted : (ℕ → ℕ) → Answer → Answer
counted f (did p left k) = did p left (f k)
counted f (short m) = short m

-- one more if a rule was kept
abbrev pub tally : ℕ → ℕ → ℕ
tally zero k = k
tally (suc r) k = suc k

-- a round: a trial at each of the numbers, the last first; it answers how many rules it kept
abbrev pub spared_round : Costing → Program → ℕ → List ℕ → Answer
spared_round c p left [] = did p left 0
spared_round c p left (n ∷ ns) = onward (spared_round c p left ns) (λ q z k. counted (λ r. tally r k) (spared_trial c q z n))

-- rounds until one keeps none, at most so many
abbrev pub rounds : Costing → ℕ → Program → ℕ → Answer
rounds c zero p left = did p left 0
rounds c (suc most) p left =
    onward (spared_round c p left p.order) (λ q z k. cond (k == 0) (did q z k) (counted (λ j. k + j) (rounds c most q z)))

-- a pass: rounds until one keeps none; each but the last takes a record, so that these many are enough
unfoldable pub spared_pass : Costing → Program → ℕ → Answer
spared_pass c p left = rounds c (suc left) p left

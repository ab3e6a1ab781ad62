-- What the rules, trials and passes obey.
use Rattle.std.specs.Prelude.{◌≡◌, ℕ, zero, suc, ◌+◌, ◌<◌, ◌≤◌, ◌⊎◌, List, [], ◌∷◌, length}
use Rattle.std.specs.List.{AllByRecursion}
use Rattle.program.specs.Programs.{Program, In, WellFormed}
use Rattle.program.specs.Proper.{Proper}
use Rattle.edits.specs.Commands.{Fair}
use Rattle.edits.specs.Journals.{play, Runs, journal}
use Rattle.runs.specs.Runs.{outputs}
use Rattle.runs.specs.Prices.{Costing, price}
use Rattle.rules.specs.Rules.{Inputs, Change, apply, commands, cost, rules}
use Rattle.rules.specs.Trials.{trial, Answer, did, short, need, spared_trial, spared_pass}

-- the program is proper and well formed
abbrev pub Sound : Program → Type 0
Sound p = Proper p × WellFormed p

-- on any sixteen input words both programs send the same
abbrev pub SameOutputs : Program → Program → Type 0
SameOutputs p q = (inputs : List ℕ) → Inputs inputs → outputs q inputs ≡ outputs p inputs

-- the rule stands in the list
abbrev pub Listed : ℕ × Change → List (ℕ × Change) → Type 0
Listed r [] = ⊥
Listed r (x ∷ xs) = (x ≡ r) ⊎ Listed r xs

-- ---- rules

-- each rule at each placed number leaves a sound program sound, and its outputs as they were
abbrev pub RulesKeepOutputs : Type 0
RulesKeepOutputs =
    (p : Program) (n : ℕ) (r : ℕ × Change) → Sound p → In n p.order → Listed r (rules p n)
    → Sound (apply p n r.1) × SameOutputs p (apply p n r.1)

-- the commands of a change are fair, accepted one after another, and make it
pub record ByCommands (p : Program) (n : ℕ) (change : Change) : Type 0 where
  pub fair : AllByRecursion Fair (commands p n change)
  pub accepted : Runs p (commands p n change)
  pub gives : play p (commands p n change) ≡ apply p n change
  -- their journal has as many records as the change costs, at most two more than n has uses
  pub records : length (journal p (commands p n change)) ≡ cost p n change
  pub few : cost p n change ≤ need p n
  -- the journal is accepted and brings the program back
  pub undoes : Runs (apply p n change) (journal p (commands p n change))
  pub back : play (apply p n change) (journal p (commands p n change)) ≡ p

-- each rule at each placed number is made by its commands
abbrev pub RulesByCommands : Type 0
RulesByCommands =
    (p : Program) (n : ℕ) (r : ℕ × Change) → Sound p → In n p.order → Listed r (rules p n) → ByCommands p n r.1

-- ---- trials

-- q is p after a rule at n that lowers the price
pub record Step (c : Costing) (p : Program) (n : ℕ) (q : Program) : Type 0 where
  pub rule : ℕ × Change
  pub listed : Listed rule (rules p n)
  pub gives : q ≡ apply p n rule.1
  pub lower : price c q < price c p

-- s is p after k such rules, each at a placed number
abbrev pub Chain : Costing → Program → Program → ℕ → Type 0
Chain c p s zero = s ≡ p
Chain c p s (suc k) = (q : Program) × Chain c p q k × ((n : ℕ) × In n q.order × Step c q n s)

-- no trial keeps a rule
abbrev pub Settled : Costing → Program → Type 0
Settled c p = (n : ℕ) → In n p.order → trial c p n ≡ (p, 0)

-- q is sound, sends what p sends, and is cheaper by at least k
pub record Better (c : Costing) (p q : Program) (k : ℕ) : Type 0 where
  pub sound : Sound q
  pub same : SameOutputs p q
  pub cheaper : price c q + k ≤ price c p

-- a trial keeps no rule, answers 0 and changes nothing; or it keeps one that lowers the price, and answers its number
abbrev pub Tried : Costing → Program → ℕ → Program × ℕ → Type 0
Tried c p n t = ((t.1 ≡ 0) × (t.0 ≡ p)) ⊎ ((s : Step c p n t.0) × (s.rule.0 ≡ t.1) × (0 < t.1))

-- a trial leaves a sound program no dearer and its outputs as they were
abbrev pub TrialLaw : Type 0
TrialLaw =
    (c : Costing) (p : Program) (n : ℕ) → Sound p → In n p.order
    → Tried c p n (trial c p n) × Better c p (trial c p n).0 0

-- a trial keeps the first rule that lowers the price: none before the one that it keeps does, and none at all where it keeps none
abbrev pub TrialFirst : Type 0
TrialFirst =
    (c : Costing) (p : Program) (n : ℕ) (r : ℕ × Change) → Listed r (rules p n) → (r.0 < (trial c p n).1) ⊎ ((trial c p n).1 ≡ 0)
    → price c p ≤ price c (apply p n r.1)

-- ---- passes

-- after some kept rules, at a placed number, so many records were needed, and fewer left
pub record Refused (c : Costing) (p : Program) (left needed : ℕ) : Type 0 where
  pub reached : Program
  pub kept : ℕ
  pub rest : ℕ
  pub number : ℕ
  pub chain : Chain c p reached kept
  pub placed : In number reached.order
  pub asks : needed ≡ need reached number
  pub few : rest < needed
  pub spent : rest + kept ≤ left

-- there are records for a trial at each placed number
abbrev pub Room : Program → ℕ → Type 0
Room p left = (n : ℕ) → In n p.order → need p n ≤ left

-- what a pass answers: as many rules are kept as it says, each lowers the price and takes a record, the outputs stay, and no trial keeps one more; or a trial had too few records
abbrev pub Passed : Costing → Program → ℕ → Answer → Type 0
Passed c p left (did q z k) = Chain c p q k × Better c p q k × Settled c q × (z + k ≤ left) × Room q z
Passed c p left (short m) = Refused c p left m

-- every pass over a sound program answers so
abbrev pub SparedPassLaw : Type 0
SparedPassLaw = (c : Costing) (p : Program) (left : ℕ) → Sound p → Passed c p left (spared_pass c p left)

-- with at least the records that a pass left, a second one and every trial are accepted, answer 0 and change nothing
abbrev pub Again : Costing → Answer → Type 0
Again c (did q z k) =
    (left : ℕ) → z ≤ left
    → (spared_pass c q left ≡ did q left 0) × ((n : ℕ) → In n q.order → spared_trial c q left n ≡ did q left 0)
Again c (short m) = Unit {0}

-- a second pass does nothing
abbrev pub SecondPassLaw : Type 0
SecondPassLaw = (c : Costing) (p : Program) (left : ℕ) → Sound p → Again c (spared_pass c p left)

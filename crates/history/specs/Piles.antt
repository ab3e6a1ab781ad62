-- The bundles as the code keeps them: end to end in one list of calls, with the places at which the higher ones begin.
use Rattle.std.specs.Prelude.{◌≡◌, ℕ, ◌<◌, ◌≤◌, ◌⊎◌, List, [], ◌∷◌, ◌++◌, map, length, take, drop, Ok, Err, Result, ◌≢◌}
use Rattle.program.specs.Programs.{Program}
use Rattle.session.specs.declared.call.Call.{Call}
use Rattle.session.specs.Copying.{fresh}
use Rattle.session.specs.Calls.{Act, work, begin, end, accepting, reverting, Answer, act_of, answers}
use Rattle.history.specs.declared.survivors.Kind.{Kind}
use Rattle.history.specs.declared.survivors.Kind.TheVariants.{Work, Begin, Accept, Revert}
use Rattle.history.specs.declared.survivors.Pile.{Pile}
use Rattle.history.specs.declared.survivors.HistoryFault.{HistoryFault}
use Rattle.history.specs.declared.survivors.HistoryFault.TheVariants.{Short, TooDeep}
use Rattle.history.specs.Striking.{Entry, Bundles, bundles, strike, strike_all, joined, history, acts_of}

-- what a call does to the bundles, if it is accepted
abbrev pub kind_of : Act → Kind
kind_of (work w) = Work
kind_of (begin held) = Begin
kind_of (end accepting held depth) = Accept
kind_of (end reverting held depth) = Revert

-- where each bundle above the lowest begins, the lowest first
abbrev pub starts_of : List (List Entry) → List ℕ
starts_of [] = []
starts_of (b ∷ bs) = starts_of bs ++ (length (joined b bs) ∷ [])

-- the calls at the front are those of the bundles end to end, and the pile has their number and the starts
pub record Piled (kept : List Call) (pile : Pile) (b : Bundles) : Type 0 where
  pub lies : map act_of (take pile.len kept) ≡ acts_of (joined b.top b.below)
  pub long : pile.len ≡ length (joined b.top b.below)
  pub begins : take pile.depth pile.starts ≡ starts_of b.below
  pub deep : pile.depth ≡ length b.below

-- whatever the pile p held, q holds with the call struck in, and no call past the end of p was written; or there would be more than 8 starts, and nothing was done
abbrev pub Followed : Call → Answer → List Call → List Call → Pile → Pile → Result (Unit {0}) HistoryFault → Type 0
Followed call reply before later p q (Ok u) =
    (q.depth ≤ 8)
    × ((n : ℕ) → p.len < n → drop n later ≡ drop n before)
    × ((b : Bundles) → Piled before p b → Piled later q (strike b (act_of call) reply))
Followed call reply before later p q (Err f) =
    (f ≡ TooDeep) × (later ≡ before) × ((b : Bundles) → Piled before p b → 8 < length (strike b (act_of call) reply).below)

-- the bundles after the first n calls
abbrev pub bundles_after : ℕ → List Call → List Answer → Bundles
bundles_after n calls replies = strike_all (bundles [] []) (map act_of (take n calls)) (take n replies)

-- no new session gives these answers to the calls
abbrev pub Unanswered : List Act → List Answer → Type 0
Unanswered acts rs = (p : Program) → rs ≢ answers acts (fresh p)

-- The surviving history stands at the front, n calls of it, and the memory past the number of calls is as it was; or the memory
-- or the replies were too few, and nothing was done; or after some of the calls more than 8 saves are open, as in no session.
abbrev pub Survived : List Call → List Answer → List Call → List Call → Result ℕ HistoryFault → Type 0
Survived calls replies before later (Ok n) =
    (map act_of (take n later) ≡ acts_of (history (map act_of calls) (take (length calls) replies)))
    × (n ≡ length (history (map act_of calls) (take (length calls) replies)))
    × (drop (length calls) later ≡ drop (length calls) before)
Survived calls replies before later (Err Short) = ((length replies < length calls) ⊎ (length before < length calls)) × (later ≡ before)
Survived calls replies before later (Err TooDeep) =
    ((n : ℕ) × (n ≤ length calls) × (8 < length (bundles_after n calls replies).below))
    × Unanswered (map act_of calls) (take (length calls) replies)
    × (drop (length calls) later ≡ drop (length calls) before)

-- The surviving history: what is left of a list of calls once the refused ones, and every call inside a reverted save, are struck.
-- It goes by the calls and by which of them were refused.
use Rattle.std.specs.Prelude.{List, [], ◌∷◌, ◌++◌, Ok, Err}
use Rattle.session.specs.Calls.{Act, work, begin, end, Ending, accepting, reverting, Answer}

-- a call and its answer
pub record Entry : Type 0 where
  pub act : Act
  pub answer : Answer

-- a call with its answer, as an entry
abbrev pub entry : Act → Answer → Entry
entry a r = record { act = a; answer = r }

-- a pile of bundles that is never empty: the top one, and those below it, the highest first
pub record Bundles : Type 0 where
  pub top : List Entry
  pub below : List (List Entry)

-- the pile with a top bundle over others
abbrev pub bundles : List Entry → List (List Entry) → Bundles
bundles t bs = record { top = t; below = bs }

-- an accept adds the top bundle to the end of the one below, a revert discards it
abbrev pub fold_down : Ending → List Entry → List (List Entry) → Bundles
fold_down e t [] = bundles t []
fold_down accepting t (b ∷ bs) = bundles (b ++ t) bs
fold_down reverting t (b ∷ bs) = bundles b bs

-- an accepted call: work joins the top bundle, a save or a hold lays an empty one on top
abbrev pub struck : Bundles → Act → Answer → Bundles
struck b (work w) r = bundles (b.top ++ (entry (work w) r ∷ [])) b.below
struck b (begin held) r = bundles [] (b.top ∷ b.below)
struck b (end e held depth) r = fold_down e b.top b.below

-- a refused call does nothing
abbrev pub strike : Bundles → Act → Answer → Bundles
strike b a (Ok x) = struck b a (Ok x)
strike b a (Err f) = b

-- the calls taken in one after another, each with its answer
abbrev pub strike_all : Bundles → List Act → List Answer → Bundles
strike_all b [] rs = b
strike_all b (a ∷ more) [] = b
strike_all b (a ∷ more) (r ∷ rs) = strike_all (strike b a r) more rs

-- the bundles end to end, the lowest first
abbrev pub joined : List Entry → List (List Entry) → List Entry
joined t [] = t
joined t (b ∷ bs) = joined b bs ++ t

-- what is left of the calls that got these answers
abbrev pub history : List Act → List Answer → List Entry
history acts rs = joined (strike_all (bundles [] []) acts rs).top (strike_all (bundles [] []) acts rs).below

-- the calls of the entries
abbrev pub acts_of : List Entry → List Act
acts_of [] = []
acts_of (e ∷ h) = e.act ∷ acts_of h

-- the answers of the entries
abbrev pub answers_of : List Entry → List Answer
answers_of [] = []
answers_of (e ∷ h) = e.answer ∷ answers_of h

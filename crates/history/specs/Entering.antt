-- What entering a list of calls promises.
use Rattle.std.specs.Prelude.{◌≡◌, ℕ, ◌<◌, ◌⊎◌, List, map, length, take, drop, Ok, Err, Result}
use Rattle.program.specs.Programs.{Program}
use Rattle.session.specs.declared.call.Call.{Call}
use Rattle.session.specs.declared.session.Session.{Session}
use Rattle.session.specs.Copying.{fresh}
use Rattle.session.specs.Calls.{Answer, act_of, answers, final}
use Rattle.session.specs.Meaning.{meaning}
use Rattle.history.specs.Law.{Repeats, Again, UsesRead}

module _ {S M : Type 0} (program : S → Program) where
  -- the first n of the calls, made in the session a, led to b, and their answers stand at the front of the memory
  pub record Made (n : ℕ) (calls : List Call) (a b : Session S M) (before later : List Answer) : Type 0 where
    pub answered : take n later ≡ answers (map act_of (take n calls)) (meaning program a)
    pub led : meaning program b ≡ final (map act_of (take n calls)) (meaning program a)
    pub behind : drop n later ≡ drop n before

  -- The calls were entered in a new session over the store, which answered them and is now as the copying session is; the memory
  -- behind the answers is as it was; the surviving history repeats; and the use lists are exact.
  abbrev pub EnteredIn : S → List Call → List Answer → List Answer → Session S M → Type 0
  EnteredIn store calls before later b =
      (take (length calls) later ≡ answers (map act_of calls) (fresh (program store)))
      × (meaning program b ≡ final (map act_of calls) (fresh (program store)))
      × (drop (length calls) later ≡ drop (length calls) before)
      × Repeats (program store) (map act_of calls) (take (length calls) later) (program b.store)
      × UsesRead (program b.store)

  -- the calls were entered; or with too little memory for the answers nothing was done
  abbrev pub Entered : S → M → List Call → List Answer → List Answer → Result (Session S M) (S × M) → Type 0
  Entered store cost calls before later (Ok b) = EnteredIn store calls before later b
  Entered store cost calls before later (Err x) = (length before < length calls) × (x ≡ (store, cost)) × (later ≡ before)

-- both lists were entered, each over its store, and the second goes as the law says where it is the history of the first; or with too little memory for the answers nothing was done
abbrev pub EnteredBoth :
    {S T M N : Type 0} → (S → Program) → (T → Program) → S × M → T × N → List Call → List Call → List Answer × List Answer → List Answer × List Answer
    → Result (Session S M × Session T N) ((S × M) × (T × N)) → Type 0
EnteredBoth f g x y calls more rs got (Ok w) =
    EnteredIn f x.0 calls rs.0 rs.1 w.0
    × EnteredIn g y.0 more got.0 got.1 w.1
    × Again (f x.0) (map act_of calls) (take (length calls) rs.1) (f w.0.store)
    (g y.0) (map act_of more) (take (length more) got.1) (g w.1.store)
EnteredBoth f g x y calls more rs got (Err z) =
    ((length rs.0 < length calls) ⊎ (length got.0 < length more)) × (z ≡ (x, y)) × (rs.1 ≡ rs.0) × (got.1 ≡ got.0)

-- A list of calls, one call longer.
use Rattle.std.proofs.Common.{◌≡◌, ℕ, ◌+◌, ◌<◌, List, [], ◌∷◌, ◌++◌, map, length, get_or, take, drop, set, sym, refl, ap, ◌∙◌, arith}
use Rattle.std.proofs.lemmas.List.{take_more, take_more_set, drop-drop, drop-set-lt, map-append}
use Rattle.program.specs.Programs.{Program}
use Rattle.session.specs.declared.call.Call.{Call}
use Rattle.session.specs.declared.session.Session.{Session}
use Rattle.session.specs.Copying.{Copying}
use Rattle.session.specs.Calls.{Act, Answer, act_of, act_step, answers, final}
use Rattle.session.specs.Meaning.{meaning, Called}
use Rattle.history.specs.Entering.{Made}

answers_more : (xs : List Act) (a : Act) (s : Copying) → answers (xs ++ (a ∷ [])) s ≡ answers xs s ++ ((act_step a (final xs s)).answer ∷ [])
answers_more [] a s = refl
answers_more (x ∷ xs) a s = ap (λ l. (act_step x s).answer ∷ l) (answers_more xs a (act_step x s).after)

final_more : (xs : List Act) (a : Act) (s : Copying) → final (xs ++ (a ∷ [])) s ≡ (act_step a (final xs s)).after
final_more [] a s = refl
final_more (x ∷ xs) a s = final_more xs a (act_step x s).after

module _ {S M : Type 0} (program : S → Program) (calls : List Call) where
  pub made_more :
      (i : ℕ) (a b c : Session S M) (before rs : List Answer) (call : Call) (r : Answer) → i < length calls → i < length rs → call ≡ get_or calls i call
      → Made program i calls a b before rs → Called program (act_step (act_of call)) b c r → Made program (i + 1) calls a c before (set rs i r)
  made_more i a b c before rs call r h k is m e =
      let s = meaning program a in
      let xs = map act_of (take i calls) in
      let front : map act_of (take (i + 1) calls) ≡ xs ++ (act_of call ∷ [])
      = ap (map act_of) (take_more calls i call h ∙ ap (λ x. take i calls ++ (x ∷ [])) (sym is)) ∙ map-append act_of (take i calls) (call ∷ []) in
      let here : r ≡ (act_step (act_of call) (final xs s)).answer = e.answer ∙ ap (λ x. (act_step (act_of call) x).answer) m.led in
      let one : drop (i + 1) rs ≡ drop (i + 1) before
      = sym (drop-drop 1 i rs) ∙ ap (drop 1) m.behind ∙ drop-drop 1 i before in
      record {
        answered =
            take_more_set rs i r k
            ∙ ap (λ l. l ++ (r ∷ [])) m.answered ∙ ap (λ x. answers xs s ++ (x ∷ [])) here ∙ sym (answers_more xs (act_of call) s)
            ∙ ap (λ l. answers l s) (sym front);
        led = e.after ∙ ap (λ x. (act_step (act_of call) x).after) m.led ∙ sym (final_more xs (act_of call) s) ∙ ap (λ l. final l s) (sym front);
        behind = drop-set-lt (i + 1) rs i r (omega arith) ∙ one;
      }

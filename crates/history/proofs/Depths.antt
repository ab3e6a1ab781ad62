-- No list of calls opens more than 8 saves at once in a session.
use Rattle.std.proofs.Common.{◌≡◌, ℕ, zero, suc, ◌<◌, ◌≤◌, Bool, List, [], ◌∷◌, map, length, take, Some, None, Option, sym, refl, ap, ◌∙◌, subst, ⊎_elim, arith}
use Rattle.std.proofs.lemmas.List.{take-take, take-map}
use Rattle.std.proofs.lemmas.Bool.Decides.{nat_tests}
use Rattle.program.specs.Programs.{Program}
use Rattle.session.specs.declared.call.Call.{Call}
use Rattle.session.specs.declared.fault.SessionFault.{SessionFault}
use Rattle.session.specs.Copying.{Save, Copying, fresh, Step, open_step, close_fault, accepted, reverted, closed}
use Rattle.session.specs.Calls.{Act, work, begin, end, accepting, reverting, Answer, act_of, act_step, answers, final, work_step}
use Rattle.history.specs.Striking.{Entry, Bundles, bundles, strike, strike_all}
use Rattle.history.specs.Piles.{bundles_after, Unanswered}
use Rattle.history.proofs.Works.{Refusal, Success, steady}
use Rattle.history.proofs.Histories.{Holds, Good, keeps, all_keep}

abbrev Shallow : Copying → Type 0
Shallow s = length s.saves ≤ 8

closed_shallow : (f : Option SessionFault) (s t : Copying) → Shallow s → Shallow t → Shallow (closed f s t).after
closed_shallow None s t h k = k
closed_shallow (Some f) s t h k = h

accepted_shallow : (s : Copying) (vs : List Save) → Shallow s → length vs ≤ 8 → Shallow (accepted s vs)
accepted_shallow s [] h k = h
accepted_shallow s (v ∷ vs) h k = omega arith

reverted_shallow : (s : Copying) (vs : List Save) → Shallow s → length vs ≤ 8 → Shallow (reverted s vs)
reverted_shallow s [] h k = h
reverted_shallow s (v ∷ vs) h k = omega arith

begin_shallow : (held : Bool) (s : Copying) → Shallow s → Shallow (open_step held s).after
begin_shallow held s h = grind (arith, nat_tests)

step_shallow : (a : Act) (s : Copying) → s.left ≤ 512 → Shallow s → Shallow (act_step a s).after
step_shallow (work w) s l h =
    ⊎_elim
    (λ (r : Refusal s (work_step w s)). subst (λ (t : Step Answer). Shallow t.after) (sym r.is) h)
    (λ (r : Success s (work_step w s) (work_step w (fresh s.program))). subst (λ (t : Step Answer). Shallow t.after) (sym r.is) h)
    (steady w s l)
step_shallow (begin held) s l h = begin_shallow held s h
step_shallow (end accepting held d) s l h = closed_shallow (close_fault s.saves d held) s (accepted s s.saves) h (accepted_shallow s s.saves h h)
step_shallow (end reverting held d) s l h = closed_shallow (close_fault s.saves d held) s (reverted s s.saves) h (reverted_shallow s s.saves h h)

answers_take : (n : ℕ) (acts : List Act) (s : Copying) → take n (answers acts s) ≡ answers (take n acts) s
answers_take zero acts s = refl
answers_take (suc n) [] s = refl
answers_take (suc n) (a ∷ acts) s = ap (λ l. (act_step a s).answer ∷ l) (answers_take n acts (act_step a s).after)

module _ (p : Program) where
  final_shallow : (acts : List Act) (b : Bundles) (s : Copying) → Good p b s → Shallow s → Shallow (final acts s)
  final_shallow [] b s g h = h
  final_shallow (a ∷ more) b s g h =
      final_shallow more (strike b a (act_step a s).answer) (act_step a s).after (keeps p a b s g) (step_shallow a s g.0 h)

  level : (t : List Entry) (bs : List (List Entry)) (q : Program) (vs : List Save) → Holds p t bs q vs → length bs ≡ length vs
  level t [] q [] h = refl
  level t [] q (v ∷ vs) h = absurd h
  level t (b ∷ bs) q [] h = absurd h
  level t (b ∷ bs) q (v ∷ vs) h = ap suc (level b bs v.program vs h.2)

  few_bundles : (acts : List Act) → length (strike_all (bundles [] []) acts (answers acts (fresh p))).below ≤ 8
  few_bundles acts =
      let s = final acts (fresh p) in
      let b = strike_all (bundles [] []) acts (answers acts (fresh p)) in
      let g = all_keep p acts (bundles [] []) (fresh p) (omega arith, refl) in
      let e = level b.top b.below s.program s.saves g.1 in
      let h : length s.saves ≤ 8 = final_shallow acts (bundles [] []) (fresh p) (omega arith, refl) (omega arith) in
      omega arith

-- more than 8 bundles above the lowest are no session's
pub unanswered :
    (n : ℕ) (calls : List Call) (replies : List Answer) → n ≤ length calls → 8 < length (bundles_after n calls replies).below
    → Unanswered (map act_of calls) (take (length calls) replies)
unanswered n calls replies h d p e =
    let acts = map act_of (take n calls) in
    let same : take n replies ≡ answers acts (fresh p)
    = sym (take-take n (length calls) replies h) ∙ ap (take n) e
    ∙ answers_take n (map act_of calls) (fresh p) ∙ ap (λ l. answers l (fresh p)) (take-map act_of n calls) in
    let k = ap (λ l. length (strike_all (bundles [] []) acts l).below) same in
    omega (arith, k, few_bundles p acts)

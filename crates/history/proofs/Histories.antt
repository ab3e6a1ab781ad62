-- The bundles and the saves go side by side: each bundle leads, with no save present, from the program that the save below it keeps to the program above.
use Rattle.std.proofs.Common.{◌≡◌, ℕ, ◌+◌, ◌≤◌, Bool, true, false, cond, eqb, ltb, List, [], ◌∷◌, ◌++◌, length, Some, None, Ok, Err, sym, refl, ap, ◌∙◌, subst, ⊎_elim, arith}
use Rattle.program.specs.Programs.{Program}
use Rattle.session.specs.declared.fault.SessionFault.TheVariants.{TooDeep, NotNewest, WrongKind}
use Rattle.session.specs.Copying.{Save, Copying, fresh, Step, to, open_step, same, close_fault, left_after, accepted, reverted, closed, answering}
use Rattle.session.specs.Calls.{Work, accepting, reverting, Act, work, begin, end, Answer, zeroed, work_step, act_step, answers, final}
use Rattle.history.specs.Striking.{Entry, entry, Bundles, bundles, strike, strike_all, joined, history, acts_of, answers_of}
use Rattle.history.specs.Law.{Accepted, AllAccepted, Repeats}
use Rattle.history.proofs.Works.{Refusal, Success, steady}

few_after : (vs : List Save) (n : ℕ) → n ≤ 512 → left_after vs n ≤ 512
few_after [] n h = omega arith
few_after (v ∷ vs) n h = h

-- with no save present, the entries of h lead from p to q
abbrev pub Replays : Program → List Entry → Program → Type 0
Replays p [] q = p ≡ q
Replays p (e ∷ h) q = (m : Program) × (act_step e.act (fresh p) ≡ to (fresh m) e.answer) × Accepted e.answer × Replays m h q

append : (p m q : Program) (g h : List Entry) → Replays p g m → Replays m h q → Replays p (g ++ h) q
append p m q [] h r s = subst (λ x. Replays x h q) (sym r) s
append p m q (e ∷ g) h r s = (r.0, r.1, r.2, append r.0 m q g h r.3 s)

replayed_answers : (p q : Program) (h : List Entry) → Replays p h q → answers (acts_of h) (fresh p) ≡ answers_of h
replayed_answers p q [] r = refl
replayed_answers p q (e ∷ h) r =
    ap (λ (t : Step Answer). t.answer ∷ answers (acts_of h) t.after) r.1 ∙ ap (λ l. e.answer ∷ l) (replayed_answers r.0 q h r.3)

replayed_final : (p q : Program) (h : List Entry) → Replays p h q → final (acts_of h) (fresh p) ≡ fresh q
replayed_final p q [] r = ap fresh r
replayed_final p q (e ∷ h) r = ap (λ (t : Step Answer). final (acts_of h) t.after) r.1 ∙ replayed_final r.0 q h r.3

replayed_accepted : (p q : Program) (h : List Entry) → Replays p h q → AllAccepted (answers_of h)
replayed_accepted p q [] r = tt
replayed_accepted p q (e ∷ h) r = (r.2, replayed_accepted r.0 q h r.3)

module _ (p₀ : Program) where
  -- the bundles, the program and the saves fit together
  abbrev pub Holds : List Entry → List (List Entry) → Program → List Save → Type 0
  Holds t [] p [] = Replays p₀ t p
  Holds t [] p (v ∷ vs) = ⊥
  Holds t (b ∷ bs) p [] = ⊥
  Holds t (b ∷ bs) p (v ∷ vs) = Replays v.program t p × (v.left ≤ 512) × Holds b bs v.program vs

  abbrev pub Good : Bundles → Copying → Type 0
  Good b s = (s.left ≤ 512) × Holds b.top b.below s.program s.saves

  abbrev pub Kept : Bundles → Act → Step Answer → Type 0
  Kept b a t = Good (strike b a t.answer) t.after

  extend : (t h : List Entry) (bs : List (List Entry)) (p q : Program) (vs : List Save) → Holds t bs p vs → Replays p h q → Holds (t ++ h) bs q vs
  extend t h [] p q [] r s = append p₀ p q t h r s
  extend t h [] p q (v ∷ vs) r s = absurd r
  extend t h (b ∷ bs) p q [] r s = absurd r
  extend t h (b ∷ bs) p q (v ∷ vs) r s = (append v.program p q t h r.0 s, r.1, r.2)

  whole : (t : List Entry) (bs : List (List Entry)) (p : Program) (vs : List Save) → Holds t bs p vs → Replays p₀ (joined t bs) p
  whole t [] p [] r = r
  whole t [] p (v ∷ vs) r = absurd r
  whole t (b ∷ bs) p [] r = absurd r
  whole t (b ∷ bs) p (v ∷ vs) r = append p₀ v.program p (joined b bs) t (whole b bs v.program vs r.2) r.0

  -- a close that is refused leaves all as it was
  closed_keeps :
      (b : Bundles) (s u : Copying) (a : Act) (d : ℕ) (x y : Bool) → Good b s → Kept b a (to u (Ok 0))
      → Kept b a (answering zeroed (closed (cond x (cond y None (Some (WrongKind d))) (Some (NotNewest d))) s) u)
  closed_keeps b s u a d true true g k = k
  closed_keeps b s u a d true false g k = g
  closed_keeps b s u a d false y g k = g

  accept_keeps :
      (s : Copying) (t : List Entry) (bs : List (List Entry)) (vs : List Save) (held : Bool) (d : ℕ) → Good (bundles t bs) s → Holds t bs s.program vs
      → Kept (bundles t bs) (end accepting held d) (answering zeroed (closed (close_fault vs d held) s) (accepted s vs))
  accept_keeps s t bs [] held d g h = g
  accept_keeps s t [] (v ∷ vs) held d g h = absurd h
  accept_keeps s t (b ∷ bs) (v ∷ vs) held d g h =
      closed_keeps (bundles t (b ∷ bs)) s (accepted s (v ∷ vs)) (end accepting held d) d (eqb d (length (v ∷ vs))) (same v.held held) g
      (few_after vs s.left g.0, extend b t bs v.program s.program vs h.2 h.0)

  revert_keeps :
      (s : Copying) (t : List Entry) (bs : List (List Entry)) (vs : List Save) (held : Bool) (d : ℕ) → Good (bundles t bs) s → Holds t bs s.program vs
      → Kept (bundles t bs) (end reverting held d) (answering zeroed (closed (close_fault vs d held) s) (reverted s vs))
  revert_keeps s t bs [] held d g h = g
  revert_keeps s t [] (v ∷ vs) held d g h = absurd h
  revert_keeps s t (b ∷ bs) (v ∷ vs) held d g h =
      closed_keeps (bundles t (b ∷ bs)) s (reverted s (v ∷ vs)) (end reverting held d) d (eqb d (length (v ∷ vs))) (same v.held held) g (h.1, h.2)

  begin_keeps : (b : Bundles) (s : Copying) (held : Bool) → Good b s → Kept b (begin held) (open_step held s)
  begin_keeps b s held g = by_test (ltb (length s.saves) 8)
    where
      by_test : (x : Bool) → Kept b (begin held) (cond x (to (record { program = s.program; saves = record { program = s.program; left = s.left; held = held } ∷ s.saves; left = s.left }) (Ok (length s.saves + 1))) (to s (Err (TooDeep (length s.saves)))))
      by_test true = (g.0, (refl, g.0, g.1))
      by_test false = g

  work_keeps : (b : Bundles) (s : Copying) (w : Work) → Good b s → Kept b (work w) (work_step w s)
  work_keeps b s w g =
      ⊎_elim
      (λ (r : Refusal s (work_step w s)). subst (Kept b (work w)) (sym r.is) g)
      (λ (r : Success s (work_step w s) (work_step w (fresh s.program))).
      subst (Kept b (work w)) (sym r.is)
      (r.few, extend b.top (entry (work w) (Ok r.value) ∷ []) b.below s.program r.program s.saves g.1 (r.program, r.again, tt, refl)))
      (steady w s g.0)

  pub keeps : (a : Act) (b : Bundles) (s : Copying) → Good b s → Kept b a (act_step a s)
  keeps (work w) b s g = work_keeps b s w g
  keeps (begin held) b s g = begin_keeps b s held g
  keeps (end accepting held d) b s g = accept_keeps s b.top b.below s.saves held d g g.1
  keeps (end reverting held d) b s g = revert_keeps s b.top b.below s.saves held d g g.1

  pub all_keep : (acts : List Act) (b : Bundles) (s : Copying) → Good b s → Good (strike_all b acts (answers acts s)) (final acts s)
  all_keep [] b s g = g
  all_keep (a ∷ more) b s g = all_keep more (strike b a (act_step a s).answer) (act_step a s).after (keeps a b s g)

  pub repeats : (acts : List Act) → Repeats p₀ acts (answers acts (fresh p₀)) (final acts (fresh p₀)).program
  repeats acts =
      let g = all_keep acts (bundles [] []) (fresh p₀) (omega arith, refl) in
      let s = final acts (fresh p₀) in
      let h = history acts (answers acts (fresh p₀)) in
      let b = strike_all (bundles [] []) acts (answers acts (fresh p₀)) in
      let r = whole b.top b.below s.program s.saves g.1 in
      record {
        accepted = replayed_accepted p₀ s.program h r;
        same_answers = replayed_answers p₀ s.program h r;
        same_program = ap (λ (x : Copying). x.program) (replayed_final p₀ s.program h r);
      }

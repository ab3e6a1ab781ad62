-- The pile after the first calls of a list.
use Rattle.std.proofs.Common.{◌≡◌, ℕ, ◌+◌, ◌<◌, ◌≤◌, List, [], ◌∷◌, ◌++◌, map, length, get_or, take, drop, Ok, Err, sym, refl, ap, ◌∙◌, subst, arith}
use Rattle.std.proofs.lemmas.List.{length-append, length-map, length-take-le, map_push, take_more}
use Rattle.session.specs.declared.call.Call.{Call}
use Rattle.session.specs.Calls.{Act, work, begin, end, Ending, accepting, reverting, Answer, act_of}
use Rattle.history.specs.declared.survivors.Pile.{Pile}
use Rattle.history.specs.declared.survivors.HistoryFault.{HistoryFault}
use Rattle.history.specs.Striking.{Entry, entry, Bundles, bundles, fold_down, strike, strike_all, joined}
use Rattle.history.specs.Piles.{Piled, Followed, Survived, bundles_after}
use Rattle.history.proofs.Piles.{joined_append}
use Rattle.history.proofs.Depths.{unanswered}

strike_all_more :
    (xs : List Act) (rs : List Answer) (a : Act) (r : Answer) (b : Bundles) → length xs ≡ length rs
    → strike_all b (xs ++ (a ∷ [])) (rs ++ (r ∷ [])) ≡ strike (strike_all b xs rs) a r
strike_all_more [] [] a r b e = refl
strike_all_more [] (s ∷ rs) a r b e = absurd (omega arith)
strike_all_more (x ∷ xs) [] a r b e = absurd (omega arith)
strike_all_more (x ∷ xs) (s ∷ rs) a r b e = strike_all_more xs rs a r (strike b x s) (omega arith)

abbrev size : Bundles → ℕ
size b = length (joined b.top b.below)

-- a call adds at most one to what is joined
folded_size : (e : Ending) (t : List Entry) (bs : List (List Entry)) → size (fold_down e t bs) ≤ length (joined t bs) + 1
folded_size accepting t [] = omega arith
folded_size reverting t [] = omega arith
folded_size accepting t (b ∷ bs) = rw (joined_append b t bs) (omega arith)
folded_size reverting t (b ∷ bs) = omega (arith, length-append (joined b bs) t)

size_strike : (b : Bundles) (a : Act) (r : Answer) → size (strike b a r) ≤ size b + 1
size_strike b (work w) (Ok x) =
    omega (arith, ap length (joined_append b.top (entry (work w) (Ok x) ∷ []) b.below), length-append (joined b.top b.below) (entry (work w) (Ok x) ∷ []))
size_strike b (begin held) (Ok x) = omega (arith, length-append (joined b.top b.below) [])
size_strike b (end e held d) (Ok x) = folded_size e b.top b.below
size_strike b (work w) (Err f) = omega arith
size_strike b (begin held) (Err f) = omega arith
size_strike b (end e held d) (Err f) = omega arith

module _ (calls : List Call) (replies : List Answer) (before : List Call) where
  -- the pile holds the bundles after the first i calls
  pub record Sofar (i : ℕ) (later : List Call) (p : Pile) : Type 0 where
    pub piled : Piled later p (bundles_after i calls replies)
    pub few : p.len ≤ i
    pub shallow : p.depth ≤ 8
    pub behind : drop (length calls) later ≡ drop (length calls) before

  pub after_more :
      (i : ℕ) (call : Call) (reply : Answer) → i < length calls → i < length replies → call ≡ get_or calls i call → reply ≡ get_or replies i reply
      → bundles_after (i + 1) calls replies ≡ strike (bundles_after i calls replies) (act_of call) reply
  after_more i call reply h k is was =
      let xs = map act_of (take i calls) in
      let rs = take i replies in
      let one : map act_of (take (i + 1) calls) ≡ xs ++ (act_of call ∷ [])
      = ap (map act_of) (take_more calls i call h ∙ ap (λ x. take i calls ++ (x ∷ [])) (sym is)) ∙ map_push act_of (take i calls) call in
      let two : take (i + 1) replies ≡ rs ++ (reply ∷ []) = take_more replies i reply k ∙ ap (λ x. rs ++ (x ∷ [])) (sym was) in
      let even : length xs ≡ length rs
      = length-map (take i calls) act_of ∙ length-take-le i calls (omega arith) ∙ sym (length-take-le i replies (omega arith)) in
      ap (λ l. strike_all (bundles [] []) l (take (i + 1) replies)) one
      ∙ ap (strike_all (bundles [] []) (xs ++ (act_of call ∷ []))) two
      ∙ strike_all_more xs rs (act_of call) reply (bundles [] []) even

  pub sofar_more :
      (i : ℕ) (call : Call) (reply : Answer) (a b : List Call) (p q : Pile) → i < length calls → i < length replies → call ≡ get_or calls i call → reply ≡ get_or replies i reply
      → Sofar i a p → Followed call reply a b p q (Ok tt) → Sofar (i + 1) b q
  sofar_more i call reply a b p q h k is was s f =
      let old = bundles_after i calls replies in
      let e = after_more i call reply h k is was in
      let new : Piled b q (bundles_after (i + 1) calls replies) = subst (Piled b q) (sym e) (f.2 old s.piled) in
      record {
        piled = new;
        few = omega (arith, new.long, ap size e, size_strike old (act_of call) reply, s.piled.long, s.few);
        shallow = f.0;
        behind = f.1 (length calls) (omega (arith, s.few)) ∙ s.behind;
      }

  pub too_deep :
      (i : ℕ) (call : Call) (reply : Answer) (a b : List Call) (p q : Pile) (f : HistoryFault) → i < length calls → i < length replies → call ≡ get_or calls i call → reply ≡ get_or replies i reply
      → Sofar i a p → Followed call reply a b p q (Err f) → Survived calls replies before b (Err f)
  too_deep i call reply a b p q f h k is was s d =
      let e = after_more i call reply h k is was in
      let nine = subst (λ (c : Bundles). 8 < length c.below) (sym e) (d.2 (bundles_after i calls replies) s.piled) in
      subst (λ g. Survived calls replies before b (Err g)) (sym d.0)
      ((i + 1, omega arith, nine), unanswered (i + 1) calls replies (omega arith) nine, ap (drop (length calls)) d.1 ∙ s.behind)

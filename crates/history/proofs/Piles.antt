-- A pile follows the bundles, call by call.
use Rattle.std.proofs.Common.{◌≡◌, ℕ, suc, ◌+◌, ◌-◌, ◌<◌, ◌≤◌, List, [], ◌∷◌, ◌++◌, map, length, get_or, take, set, false, Ok, Err, sym, refl, ap, ◌∙◌, subst, arith}
use Rattle.std.proofs.lemmas.List.{append_assoc, length-append, take_more, take_more_set, take-take, take_at, take-map, map-append, same_from_push}
use Rattle.std.specs.Result.{is_err}
use Rattle.session.specs.declared.call.Call.{Call}
use Rattle.session.specs.Calls.{Act, work, begin, end, accepting, reverting, Answer, act_of}
use Rattle.history.specs.declared.survivors.Kind.TheVariants.{Work, Accept, Revert}
use Rattle.history.specs.declared.survivors.Pile.{Pile}
use Rattle.history.specs.Striking.{Entry, entry, Bundles, bundles, fold_down, struck, strike, joined, acts_of}
use Rattle.history.specs.Piles.{kind_of, starts_of, Piled}

abbrev pile : List ℕ → ℕ → ℕ → Pile
pile starts depth n = record { starts = starts; depth = depth; len = n }

acts_append : (g h : List Entry) → acts_of (g ++ h) ≡ acts_of g ++ acts_of h
acts_append [] h = refl
acts_append (e ∷ g) h = ap (λ l. e.act ∷ l) (acts_append g h)

length_acts : (g : List Entry) → length (acts_of g) ≡ length g
length_acts [] = refl
length_acts (e ∷ g) = ap suc (length_acts g)

pub joined_append : (t h : List Entry) (bs : List (List Entry)) → joined (t ++ h) bs ≡ joined t bs ++ h
joined_append t h [] = refl
joined_append t h (b ∷ bs) = sym (append_assoc (joined b bs) t h)

accepted : (b : Bundles) (a : Act) (r : Answer) → is_err r ≡ false → strike b a r ≡ struck b a r
accepted b a (Ok x) ok = refl
accepted b a (Err f) ok = cc

-- what an accepted call does, by its kind
struck_work : (a : Act) (r : Answer) (b : Bundles) → Work ≡ kind_of a → struck b a r ≡ bundles (b.top ++ (entry a r ∷ [])) b.below
struck_work (work w) r b e = refl
struck_work (begin held) r b e = cc
struck_work (end accepting held d) r b e = cc
struck_work (end reverting held d) r b e = cc

struck_accept : (a : Act) (r : Answer) (b : Bundles) → Accept ≡ kind_of a → struck b a r ≡ fold_down accepting b.top b.below
struck_accept (work w) r b e = cc
struck_accept (begin held) r b e = cc
struck_accept (end accepting held d) r b e = refl
struck_accept (end reverting held d) r b e = cc

struck_revert : (a : Act) (r : Answer) (b : Bundles) → Revert ≡ kind_of a → struck b a r ≡ fold_down reverting b.top b.below
struck_revert (work w) r b e = cc
struck_revert (begin held) r b e = cc
struck_revert (end accepting held d) r b e = cc
struck_revert (end reverting held d) r b e = refl

module _ (kept : List Call) (starts : List ℕ) (depth n : ℕ) where
  -- the newest start is where the bundles below end
  popped :
      (t b : List Entry) (bs : List (List Entry)) → depth ≤ length starts → Piled kept (pile starts depth n) (bundles t (b ∷ bs))
      → (take (depth - 1) starts ≡ starts_of bs) × (get_or starts (depth - 1) 0 ≡ length (joined b bs))
  popped t b bs h p =
      let m = depth - 1 in
      let e : depth ≡ m + 1 = omega (arith, p.deep) in
      same_from_push (take m starts) (starts_of bs) (get_or starts m 0) (length (joined b bs))
      (sym (take_more starts m 0 (omega (arith, p.deep))) ∙ ap (λ k. take k starts) (sym e) ∙ p.begins)

  folded_accept :
      (t : List Entry) (bs : List (List Entry)) → depth ≤ length starts → Piled kept (pile starts depth n) (bundles t bs)
      → Piled kept (pile starts (depth - 1) n) (fold_down accepting t bs)
  folded_accept t [] h p =
      let still : depth ≡ depth - 1 = omega (arith, p.deep) in
      subst (λ d. Piled kept (pile starts d n) (bundles t [])) still p
  folded_accept t (b ∷ bs) h p =
      let grown = joined_append b t bs in
      record {
        lies = p.lies ∙ ap acts_of (sym grown);
        long = p.long ∙ ap length (sym grown);
        begins = (popped t b bs h p).0;
        deep = omega (arith, p.deep);
      }

  folded_revert :
      (t : List Entry) (bs : List (List Entry)) → 0 < depth → depth ≤ length starts → Piled kept (pile starts depth n) (bundles t bs)
      → Piled kept (pile starts (depth - 1) (get_or starts (depth - 1) 0)) (fold_down reverting t bs)
  folded_revert t [] z h p = absurd (omega (arith, p.deep))
  folded_revert t (b ∷ bs) z h p =
      let q = popped t b bs h p in
      let low = joined b bs in
      let m = get_or starts (depth - 1) 0 in
      let short : m ≤ n = omega (arith, q.1, p.long, length-append low t) in
      record {
        lies =
            ap (map act_of) (sym (take-take m n kept short)) ∙ sym (take-map act_of m (take n kept)) ∙ ap (take m) (p.lies ∙ acts_append low t)
            ∙ take_at (acts_of low) (acts_of t) m (length_acts low ∙ sym q.1);
        long = q.1;
        begins = q.0;
        deep = omega (arith, p.deep);
      }

-- the pile of a list of calls, and an accepted call
module _ (kept : List Call) (starts : List ℕ) (depth n : ℕ) (call : Call) (reply : Answer) (b : Bundles) (ok : is_err reply ≡ false) where
  abbrev here : Type 0
  here = Piled kept (pile starts depth n) b

  -- what the pile is to hold, from what the accepted call does
  by_kind : (later : List Call) (q : Pile) (c : Bundles) → struck b (act_of call) reply ≡ c → Piled later q c → Piled later q (strike b (act_of call) reply)
  by_kind later q c e p = subst (Piled later q) (sym (accepted b (act_of call) reply ok ∙ e)) p

  pub piled_work : Work ≡ kind_of (act_of call) → n < length kept → here → Piled (set kept n call) (pile starts depth (n + 1)) (strike b (act_of call) reply)
  piled_work k h p =
      let one = entry (act_of call) reply ∷ [] in
      let old = joined b.top b.below in
      let grown = joined_append b.top one b.below in
      by_kind (set kept n call) (pile starts depth (n + 1)) (bundles (b.top ++ one) b.below) (struck_work (act_of call) reply b k)
      (record {
        lies =
            ap (map act_of) (take_more_set kept n call h) ∙ map-append act_of (take n kept) (call ∷ [])
            ∙ ap (λ l. l ++ (act_of call ∷ [])) p.lies ∙ sym (acts_append old one) ∙ ap acts_of (sym grown);
        long = ap (λ m. m + 1) p.long ∙ sym (length-append old one) ∙ ap length (sym grown);
        begins = p.begins;
        deep = p.deep;
      })

  pub piled_accept : Accept ≡ kind_of (act_of call) → depth ≤ length starts → here → Piled kept (pile starts (depth - 1) n) (strike b (act_of call) reply)
  piled_accept k h p =
      by_kind kept (pile starts (depth - 1) n) (fold_down accepting b.top b.below) (struck_accept (act_of call) reply b k)
      (folded_accept kept starts depth n b.top b.below h p)

  pub piled_revert :
      Revert ≡ kind_of (act_of call) → 0 < depth → depth ≤ length starts → here
      → Piled kept (pile starts (depth - 1) (get_or starts (depth - 1) 0)) (strike b (act_of call) reply)
  piled_revert k z h p =
      by_kind kept (pile starts (depth - 1) (get_or starts (depth - 1) 0)) (fold_down reverting b.top b.below) (struck_revert (act_of call) reply b k)
      (folded_revert kept starts depth n b.top b.below z h p)

-- A link and an unlink, by the writes to the two lists of links.
use Rattle.std.proofs.Common.{◌≡◌, ℕ, suc, ◌+◌, ◌<◌, ◌≤◌, ◌⊎◌, List, [], ◌∷◌, ◌++◌, length, get_or, take, drop, set, sym, refl, ap, ◌∙◌, subst, inl, inr, ⊎_elim, append_assoc, append-nil, arith}
use Rattle.std.specs.List.{insert}
use Rattle.std.proofs.lemmas.List.{get_or-set_same, get_or-set_other, length-set, take_all, drop_all}
use Rattle.program.specs.Programs.{index_of}
use Rattle.linked.specs.declared.cells.Body.{Body}
use Rattle.linked.specs.declared.cells.Body.TheVariants.{Vacant}
use Rattle.linked.specs.Rings.{occurs, Ring, occurs_append, occurs_here, ring_join, ring_left, ring_right, ring_before, ring_after, Spliced, splice_else, splice_end, Unspliced, unsplice}
use Rattle.linked.specs.LinkedModel.{mark, at, Chained, next_in, prev_in, next_out, prev_out}
use Rattle.linked.specs.States.{index_out}
use Rattle.linked.proofs.Orders.{cut, cut_whole, in_order, end_absent, once, chained_linked, chained_unlinked}

spliced : (ns ps : List ℕ) (n t : ℕ) → at ns (at ps t) ≡ t → at ps t < length ns → n < length ns → n < length ps → t < length ps → (at ps t ≡ n → ⊥) → (n ≡ t → ⊥) → Spliced (at ns) (at ps) (at (next_in ns ps n t)) (at (prev_in ps n t)) (at ps t) n t
spliced ns ps n t back hm hn hp ht mn nt =
    let m = at ps t in
    let l = length-set ns m n in
    let q = length-set ps n m in
    record {
      to_t = back;
      to_m = refl;
      next_m = get_or-set_other (set ns m n) n m t 0 mn ∙ get_or-set_same ns m n 0 hm;
      next_n = get_or-set_same (set ns m n) n t 0 (omega arith);
      next_else = λ k km kn. get_or-set_other (set ns m n) n k t 0 kn ∙ get_or-set_other ns m k n 0 km;
      prev_t = get_or-set_same (set ps n m) t n 0 (omega arith);
      prev_n = get_or-set_other (set ps n m) t n n 0 nt ∙ get_or-set_same ps n m 0 hp;
      prev_else = λ k kt kn. get_or-set_other (set ps n m) t k n 0 kt ∙ get_or-set_other ps n k m 0 kn;
    }

unspliced : (ns ps : List ℕ) (n : ℕ) → at ns (at ps n) ≡ n → at ps (at ns n) ≡ n → at ps n < length ns → at ns n < length ps → Unspliced (at ns) (at ps) (at (next_out ns ps n)) (at (prev_out ns ps n)) (at ps n) n (at ns n)
unspliced ns ps n back on hm ht = record {
  to_n = back;
  to_m = refl;
  from_n = refl;
  from_t = on;
  next_m = get_or-set_same ns (at ps n) (at ns n) 0 hm;
  next_else = λ k km. get_or-set_other ns (at ps n) k (at ns n) 0 km;
  prev_t = get_or-set_same ps (at ns n) (at ps n) 0 ht;
  prev_else = λ k kt. get_or-set_other ps (at ns n) k (at ps n) 0 kt;
}

module _ (bs : List Body) (ns ps o : List ℕ) (is : Chained bs ns ps o) where
  -- the node before one that the ring ends at
  before_near : (l : List ℕ) (t : ℕ) → Ring (at ns) (at ps) (length bs) l t → ((k : ℕ) → occurs k l ≤ occurs k o) → (at ps t ≡ length bs) ⊎ (0 < occurs (at ps t) o)
  before_near l t r sub = ⊎_elim (λ e. inl e) (λ h. inr (let s = sub (at ps t) in omega arith)) (ring_before (at ns) (at ps) (length bs) l t r).1

  near_low : (k : ℕ) → (k ≡ length bs) ⊎ (0 < occurs k o) → k ≤ length bs
  near_low k = ⊎_elim (λ e. omega arith) (λ h. let l = in_order bs ns ps o is k h in omega arith)

  -- the order, cut at a number that stands in it
  module _ (t : ℕ) (placed : 0 < occurs t o) where
    abbrev l : List ℕ
    l = take (index_of t o) o

    abbrev r : List ℕ
    r = drop (suc (index_of t o)) o

    pub parts : (k : ℕ) → occurs k l + occurs k (t ∷ r) ≡ occurs k o
    parts k = sym (occurs_append k l (t ∷ r)) ∙ ap (occurs k) (sym (cut_whole t o placed))

    sub : (k : ℕ) → occurs k l ≤ occurs k o
    sub k = let p = parts k in omega arith

    whole_ring : Ring (at ns) (at ps) (length bs) (l ++ (t ∷ r)) (length bs)
    whole_ring = subst (λ os. Ring (at ns) (at ps) (length bs) os (length bs)) (cut_whole t o placed) is.ring

    pub left_ring : Ring (at ns) (at ps) (length bs) l t
    left_ring = ring_left (at ns) (at ps) (length bs) l t r (length bs) whole_ring

    pub right_ring : Ring (at ns) (at ps) t r (length bs)
    right_ring = ring_right (at ns) (at ps) (length bs) l t r (length bs) whole_ring

  module _ (n : ℕ) (b : Body) (h : n < length bs) (was : mark (get_or bs n Vacant) ≡ 0) (now : mark b ≡ 1) where
    n_absent : occurs n o ≡ 0
    n_absent = sym (is.marks n) ∙ was

    apart : (k : ℕ) → (k ≡ length bs) ⊎ (0 < occurs k o) → k ≡ n → ⊥
    apart k near e = ⊎_elim (λ s. omega arith) (λ p. let a = n_absent in let q = ap (λ j. occurs j o) e in omega arith) near

    module _ (l : List ℕ) (t : ℕ) (ring : Ring (at ns) (at ps) (length bs) l t) (sub : (k : ℕ) → occurs k l ≤ occurs k o) (t-near : (t ≡ length bs) ⊎ (0 < occurs t o)) where
      pub link_splice : Spliced (at ns) (at ps) (at (next_in ns ps n t)) (at (prev_in ps n t)) (at ps t) n t
      link_splice =
          let near = before_near l t ring sub in
          let low = near_low (at ps t) near in
          let t_low = near_low t t-near in
          let w = is.wide in
          let v = is.wide_back in
          spliced ns ps n t (ring_before (at ns) (at ps) (length bs) l t ring).0 (omega arith) (omega arith) (omega arith) (omega arith) (apart (at ps t) near) (λ e. apart t t-near (sym e))

      pub wide_next : length (next_in ns ps n t) ≡ length bs + 1
      wide_next = length-set (set ns (at ps t) n) n t ∙ length-set ns (at ps t) n ∙ is.wide

      pub wide_prev : length (prev_in ps n t) ≡ length bs + 1
      wide_prev = length-set (set ps n (at ps t)) t n ∙ length-set ps n (at ps t) ∙ is.wide_back

    -- at the end
    pub chained_last : Chained (set bs n b) (next_in ns ps n (length bs)) (prev_in ps n (length bs)) (o ++ (n ∷ []))
    chained_last =
        let s = link_splice o (length bs) is.ring (λ k. omega arith) (inl refl) in
        chained_linked bs ns ps o is n b (next_in ns ps n (length bs)) (prev_in ps n (length bs)) o [] h was now (sym (append-nil o))
        (wide_next o (length bs) is.ring (λ k. omega arith) (inl refl))
        (wide_prev o (length bs) is.ring (λ k. omega arith) (inl refl))
        (splice_end (at ns) (at ps) (at (next_in ns ps n (length bs))) (at (prev_in ps n (length bs))) (at ps (length bs)) n (length bs) s (length bs) o is.ring (λ e. omega arith) n_absent (end_absent bs ns ps o is))

    -- before a placed number
    module _ (t : ℕ) (placed : 0 < occurs t o) where
      pub chained_before : Chained (set bs n b) (next_in ns ps n t) (prev_in ps n t) (l t placed ++ (n ∷ (t ∷ r t placed)))
      chained_before =
          let nx = at (next_in ns ps n t) in
          let pv = at (prev_in ps n t) in
          let s = link_splice (l t placed) t (left_ring t placed) (sub t placed) (inr placed) in
          let pt = parts t placed t in
          let here = occurs_here t (r t placed) in
          let pn = parts t placed n in
          let one = once bs ns ps o is t in
          let a = n_absent in
          let low = in_order bs ns ps o is t placed in
          let tn : t ≡ n → ⊥ = apart t (inr placed) in
          let ln : occurs n (l t placed) ≡ 0 = omega arith in
          let rn : occurs n (r t placed) ≡ 0 = omega arith in
          let lt : occurs t (l t placed) ≡ 0 = omega arith in
          let rt : occurs t (r t placed) ≡ 0 = omega arith in
          let front = splice_end (at ns) (at ps) nx pv (at ps t) n t s (length bs) (l t placed) (left_ring t placed) (λ e. omega arith) ln lt in
          let back = splice_else (at ns) (at ps) nx pv (at ps t) n t s t (r t placed) (length bs) (right_ring t placed) tn rn (λ e. omega arith) rt (λ e. omega arith) in
          chained_linked bs ns ps o is n b (next_in ns ps n t) (prev_in ps n t) (l t placed) (t ∷ r t placed) h was now (cut_whole t o placed)
          (wide_next (l t placed) t (left_ring t placed) (sub t placed) (inr placed))
          (wide_prev (l t placed) t (left_ring t placed) (sub t placed) (inr placed))
          (subst (λ os. Ring nx pv (length bs) os (length bs)) (append_assoc (l t placed) (n ∷ []) (t ∷ r t placed)) (ring_join nx pv (length bs) (l t placed ++ (n ∷ [])) t (r t placed) (length bs) front back))

    -- either way
    pub chained_in : (t : ℕ) → (t ≡ length bs) ⊎ (0 < occurs t o) → Chained (set bs n b) (next_in ns ps n t) (prev_in ps n t) (insert o (index_of t o) n)
    chained_in t =
        ⊎_elim
        (λ e.
        let i : index_of t o ≡ length o = index_out t o (ap (λ k. occurs k o) e ∙ end_absent bs ns ps o is) in
        let le : length o ≤ index_of t o = omega arith in
        let same : o ++ (n ∷ []) ≡ insert o (index_of t o) n =
        sym (ap (λ a. a ++ (n ∷ drop (index_of t o) o)) (take_all (index_of t o) o le) ∙ ap (λ a. o ++ (n ∷ a)) (drop_all (index_of t o) o le)) in
        subst (λ os. Chained (set bs n b) (next_in ns ps n t) (prev_in ps n t) os) same
        (subst (λ s. Chained (set bs n b) (next_in ns ps n s) (prev_in ps n s) (o ++ (n ∷ []))) (sym e) chained_last))
        (λ p.
        subst (λ d. Chained (set bs n b) (next_in ns ps n t) (prev_in ps n t) (take (index_of t o) o ++ (n ∷ d))) (sym (cut t o p)) (chained_before t p))

    pub before_low : (t : ℕ) → (t ≡ length bs) ⊎ (0 < occurs t o) → at ps t ≤ length bs
    before_low t =
        ⊎_elim
        (λ e. near_low (at ps t) (subst (λ s. (at ps s ≡ length bs) ⊎ (0 < occurs (at ps s) o)) (sym e) (before_near o (length bs) is.ring (λ k. omega arith))))
        (λ p. near_low (at ps t) (before_near (take (index_of t o) o) t (left_ring t p) (sub t p)))

  -- an unlink
  module _ (n : ℕ) (b : Body) (was : mark (get_or bs n Vacant) ≡ 1) (now : mark b ≡ 0) where
    n_placed : 0 < occurs n o
    n_placed = let e = is.marks n in omega arith

    pub prev_low : at ps n ≤ length bs
    prev_low = near_low (at ps n) (before_near (l n n_placed) n (left_ring n n_placed) (sub n n_placed))

    pub next_low : at ns n ≤ length bs
    next_low = near_low (at ns n) (⊎_elim (λ e. inl e) (λ p. inr (let q = parts n n_placed (at ns n) in omega arith)) (ring_after (at ns) (at ps) n (r n n_placed) (length bs) (right_ring n n_placed)).1)

    pub chained_out : Chained (set bs n b) (next_out ns ps n) (prev_out ns ps n) (take (index_of n o) o ++ drop (suc (index_of n o)) o)
    chained_out =
        let w = is.wide in
        let v = is.wide_back in
        let pl = prev_low in
        let nl = next_low in
        let s = unspliced ns ps n (ring_before (at ns) (at ps) (length bs) (l n n_placed) n (left_ring n n_placed)).0 (ring_after (at ns) (at ps) n (r n n_placed) (length bs) (right_ring n n_placed)).0 (omega arith) (omega arith) in
        let low = in_order bs ns ps o is n n_placed in
        let pt = parts n n_placed n in
        let here = occurs_here n (r n n_placed) in
        let one = once bs ns ps o is n in
        chained_unlinked bs ns ps o is n b (next_out ns ps n) (prev_out ns ps n) (l n n_placed) (r n n_placed) low was now (cut_whole n o n_placed)
        (length-set ns (at ps n) (at ns n) ∙ w)
        (length-set ps (at ns n) (at ps n) ∙ v)
        (unsplice (at ns) (at ps) (at (next_out ns ps n)) (at (prev_out ns ps n)) (at ps n) n (at ns n) s (length bs) (l n n_placed) (r n n_placed) (length bs) (left_ring n n_placed) (right_ring n n_placed) (λ e. omega arith) (omega arith) (omega arith) (λ e. omega arith))

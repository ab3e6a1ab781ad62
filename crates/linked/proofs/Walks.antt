-- A walk along a use list.
use Rattle.std.proofs.Common.{◌≡◌, ℕ, ◌*◌, ◌<◌, ◌≤◌, true, cond, ltb, List, [], ◌∷◌, get_or, sym, refl, ap, ◌∙◌, subst, arith}
use Rattle.std.proofs.lemmas.Bool.{lt-ltb}
use Rattle.linked.specs.Paths.{Path, Rising, Climbs, climbs_rest, low}
use Rattle.linked.specs.Uses.{spots, spots_climbs, Threaded}

-- from w on the list zs is left, and what lies below x there is what lies below x in all of ys
pub record Walk (ls : List ℕ) (h : ℕ) (ys : List ℕ) (x w next : ℕ) : Type 0 where
  pub zs : List ℕ
  pub path : Path (λ k. get_or ls k 0) w zs
  pub climbs : Climbs zs
  pub same : low x w zs ≡ low x h ys
  pub link : next ≡ get_or ls w 0

pub walk_start : (size : ℕ) (qs ls : List ℕ) → Threaded size qs ls → (v x next : ℕ) → v < size → next ≡ get_or ls (4 * v) 0 → Walk ls (4 * v) (spots v 0 qs) x (4 * v) next
walk_start size qs ls is v x next h e = record {
  zs = spots v 0 qs;
  path = is.paths v h;
  climbs = spots_climbs v 0 qs;
  same = refl;
  link = e;
}

-- one step along a list: the next node is its first, and what follows it is further on
onward : (ls : List ℕ) (w next then z : ℕ) (zs : List ℕ) → Path (λ k. get_or ls k 0) w (z ∷ zs) → Climbs (z ∷ zs) → next ≡ get_or ls w 0 → next < 4096 → then ≡ get_or ls next 0 → (next ≡ z) × Path (λ k. get_or ls k 0) next zs × (next < then)
onward ls w next then z zs p c l less e =
    let is : next ≡ z = l ∙ p.0 in
    let on : Path (λ k. get_or ls k 0) next zs = subst (λ n. Path (λ k. get_or ls k 0) n zs) (sym is) p.1 in
    let up : (rest : List ℕ) → Path (λ k. get_or ls k 0) next rest → Rising z rest → next < then
    = elim [ [] ↦ (λ q r. omega arith) | a ∷ rest ↦ (λ q r. let f = q.0 in let g = r.0 in omega arith) ]
    in (is, on, up zs on c)

module _ (ls : List ℕ) (h : ℕ) (ys : List ℕ) (x : ℕ) (fits : x ≤ 4096) where
  step : (zs : List ℕ) (w next then : ℕ) → Path (λ k. get_or ls k 0) w zs → Climbs zs → low x w zs ≡ low x h ys → next ≡ get_or ls w 0 → next < x → then ≡ get_or ls next 0 → Walk ls h ys x next then × (next < then)
  step [] w next then p c s l less e = absurd (omega arith)
  step (z ∷ zs) w next then p c s l less e =
      let on = onward ls w next then z zs p c l (omega arith) e in
      let t : ltb z x ≡ true = let is = on.0 in lt-ltb z x (omega arith) in (
        record {
          zs = zs;
          path = on.1;
          climbs = climbs_rest z zs c;
          same = ap (λ n. low x n zs) on.0 ∙ sym (ap (λ b. cond b (low x z zs) w) t) ∙ s;
          link = e;
        },
        on.2,
      )

  pub walk_more : (w next then : ℕ) → Walk ls h ys x w next → next < x → then ≡ get_or ls next 0 → Walk ls h ys x next then × (next < then)
  walk_more w next then k less e = step k.zs w next then k.path k.climbs k.same k.link less e

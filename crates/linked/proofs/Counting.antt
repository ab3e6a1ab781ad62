-- A count of the nodes of a use list.
use Rattle.std.proofs.Common.{◌≡◌, ℕ, suc, ◌+◌, ◌*◌, ◌<◌, ◌≤◌, true, false, cond, eqb, List, [], ◌∷◌, length, get_or, sym, ◌∙◌, subst, arith}
use Rattle.linked.specs.Rings.{occurs, occurs_here}
use Rattle.linked.specs.Paths.{Path}
use Rattle.linked.specs.Uses.{spots, Threaded, node_low}

-- so many nodes are counted, and the list zs is left behind the node
pub record Rest (size : ℕ) (ls : List ℕ) (total count node : ℕ) : Type 0 where
  pub zs : List ℕ
  pub path : Path (λ k. get_or ls k 0) node zs
  pub within : node < 4 * size
  pub low : (k : ℕ) → 0 < occurs k zs → k < 4 * size
  pub sum : count + length zs ≡ total

pub rest_start : (size : ℕ) (qs ls : List ℕ) → Threaded size qs ls → (v : ℕ) → v < size → Rest size ls (length (spots v 0 qs)) 0 (4 * v)
rest_start size qs ls is v h = record {
  zs = spots v 0 qs;
  path = is.paths v h;
  within = omega arith;
  low = λ k i. node_low size qs ls is v k h (omega arith);
  sum = omega arith;
}

-- a list of places is no longer than what they are places of
pub spots_few : (v k : ℕ) (qs : List ℕ) → length (spots v k qs) ≤ length qs
spots_few v k [] = omega arith
spots_few v k (q ∷ qs) =
    let below = spots_few v (suc k) qs in
    elim (eqb q v) as (λ b. length (cond b (k ∷ spots v (suc k) qs) (spots v (suc k) qs)) ≤ suc (length qs)) [ true ↦ omega arith | false ↦ omega arith ]

module _ (size : ℕ) (ls : List ℕ) (total count node : ℕ) where
  step : (next : ℕ) → next ≡ get_or ls node 0 → next < 4096 → (zs : List ℕ) → Path (λ k. get_or ls k 0) node zs → ((k : ℕ) → 0 < occurs k zs → k < 4 * size) → count + length zs ≡ total → Rest size ls total (count + 1) next × (count < total)
  step next e less [] p low s = absurd (omega arith)
  step next e less (z ∷ zs) p low s =
      let is : next ≡ z = e ∙ p.0 in
      let here = occurs_here z zs in
      let h = low z (omega arith) in
      let on : Path (λ k. get_or ls k 0) next zs = subst (λ k. Path (λ j. get_or ls j 0) k zs) (sym is) p.1 in
      (record { zs = zs; path = on; within = omega arith; low = λ k i. low k (omega arith); sum = omega arith }, omega arith)

  pub rest_more : (next : ℕ) → Rest size ls total count node → next ≡ get_or ls node 0 → next < 4096 → Rest size ls total (count + 1) next × (count < total)
  rest_more next r e less = step next e less r.zs r.path r.low r.sum

  end : size ≤ 1024 → 4096 ≤ get_or ls node 0 → (zs : List ℕ) → Path (λ k. get_or ls k 0) node zs → ((k : ℕ) → 0 < occurs k zs → k < 4 * size) → count + length zs ≡ total → count ≡ total
  end few more [] p low s = omega arith
  end few more (z ∷ zs) p low s =
      let is : get_or ls node 0 ≡ z = p.0 in
      let here = occurs_here z zs in
      let h = low z (omega arith) in
      absurd (omega arith)

  pub rest_end : size ≤ 1024 → Rest size ls total count node → 4096 ≤ get_or ls node 0 → count ≡ total
  rest_end few r more = end few more r.zs r.path r.low r.sum

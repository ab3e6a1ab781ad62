-- A link and an unlink of cells.
use Rattle.std.proofs.Common.{◌≡◌, ℕ, ◌<◌, ◌≤◌, ◌⊎◌, List, map, length, get_or, set, sym, refl, ap, ◌∙◌, subst, inl, inr, ⊎_elim, arith}
use Rattle.std.specs.List.{insert, remove}
use Rattle.std.proofs.lemmas.List.{get_or_past, length-map, get_or-map}
use Rattle.std.proofs.Math.Seq.{map-set_same}
use Rattle.std.proofs.lemmas.Bool.{cases_lt}
use Rattle.program.specs.declared.state.State.{State}
use Rattle.program.specs.declared.state.State.TheVariants.{Free, Loose, Placed as IsPlaced}
use Rattle.program.specs.Programs.{Program, program_of, index_of}
use Rattle.program.specs.Commands.{reorder}
use Rattle.linked.specs.declared.cells.Body.{Body}
use Rattle.linked.specs.declared.cells.Body.TheVariants.{Vacant, Idle, Placed}
use Rattle.linked.specs.declared.cells.LinkedCell.{LinkedCell}
use Rattle.linked.specs.Rings.{occurs}
use Rattle.linked.specs.LinkedModel.{content, mark, tag, bodies, nexts, prevs, at, order_of, linked_program, Chained, Linked, Anchor, place_body, loosen_body, next_in, prev_in, next_out, prev_out}
use Rattle.linked.proofs.Orders.{order_unique}
use Rattle.linked.proofs.Splicing.{chained_in, before_low, chained_out, prev_low, next_low}

pub body_read : (xs : List LinkedCell) (n : ℕ) (d : LinkedCell) → n < length xs → (get_or xs n d).body ≡ get_or (bodies xs) n Vacant
body_read xs n d h = sym (get_or-map (λ c. c.body) xs n d Vacant h)

pub not_free_low : (bs : List Body) (n : ℕ) → (tag (get_or bs n Vacant) ≡ Free → ⊥) → n < length bs
not_free_low bs n ne = ⊎_elim (λ h. h) (λ past. absurd (ne (ap tag (get_or_past bs n Vacant past)))) (cases_lt n (length bs))

loose_free : (s : State) → s ≡ Loose → s ≡ Free → ⊥
loose_free s e f = let z : ◌≡◌ {A = ℕ} 0 1 = cc in omega arith

placed_free : (s : State) → s ≡ IsPlaced → s ≡ Free → ⊥
placed_free s e f = let z : ◌≡◌ {A = ℕ} 0 1 = cc in omega arith

pub loose_mark : (b : Body) → tag b ≡ Loose → (mark b ≡ 0) × (mark (place_body b) ≡ 1)
loose_mark Vacant e = let z : ◌≡◌ {A = ℕ} 0 1 = cc in absurd (omega arith)
loose_mark (Idle r) e = (refl, refl)
loose_mark (Placed r) e = let z : ◌≡◌ {A = ℕ} 0 1 = cc in absurd (omega arith)

pub placed_mark : (b : Body) → tag b ≡ IsPlaced → (mark b ≡ 1) × (mark (loosen_body b) ≡ 0)
placed_mark Vacant e = let z : ◌≡◌ {A = ℕ} 0 1 = cc in absurd (omega arith)
placed_mark (Idle r) e = let z : ◌≡◌ {A = ℕ} 0 1 = cc in absurd (omega arith)
placed_mark (Placed r) e = (refl, refl)

content_kept : (g : Body → Body) → ((b : Body) → content (g b) ≡ content b) → (bs : List Body) (n : ℕ) → map content (set bs n (g (get_or bs n Vacant))) ≡ map content bs
content_kept g k bs n = map-set_same content bs n (g (get_or bs n Vacant)) Vacant (k (get_or bs n Vacant))

pub place_content : (b : Body) → content (place_body b) ≡ content b
place_content Vacant = refl
place_content (Idle r) = refl
place_content (Placed r) = refl

pub loosen_content : (b : Body) → content (loosen_body b) ≡ content b
loosen_content Vacant = refl
loosen_content (Idle r) = refl
loosen_content (Placed r) = refl

-- cells whose three lists are chained by an order
module _ (ys : List LinkedCell) (f l : ℕ) (bs : List Body) (ns ps o : List ℕ) (eb : bodies ys ≡ bs) (en : nexts ys f ≡ ns) (ep : prevs ys l ≡ ps) (is : Chained bs ns ps o) where
  here : Chained (bodies ys) (nexts ys f) (prevs ys l) o
  here =
      subst (λ b. Chained b (nexts ys f) (prevs ys l) o) (sym eb)
      (subst (λ n. Chained bs n (prevs ys l) o) (sym en)
      (subst (λ p. Chained bs ns p o) (sym ep) is))

  pub linked_by : Linked ys f l
  linked_by = subst (λ os. Chained (bodies ys) (nexts ys f) (prevs ys l) os) (sym (order_unique (bodies ys) (nexts ys f) (prevs ys l) o here)) here

  program_is : (cs : Program) → map content bs ≡ cs.cells → linked_program ys f ≡ reorder cs o
  program_is cs e =
      ap (λ os. program_of (map content (bodies ys)) os) (order_unique (bodies ys) (nexts ys f) (prevs ys l) o here)
      ∙ ap (λ b. program_of (map content b) o) eb
      ∙ ap (λ c. program_of c o) e

-- cells after a body that keeps its content and a change of the order
pub moved : (xs ys : List LinkedCell) (f f' l' n : ℕ) (g : Body → Body) → ((b : Body) → content (g b) ≡ content b) → (b : Body) → b ≡ g (get_or (bodies xs) n Vacant) → bodies ys ≡ set (bodies xs) n b → (ns ps o : List ℕ) → nexts ys f' ≡ ns → prevs ys l' ≡ ps → Chained (set (bodies xs) n (g (get_or (bodies xs) n Vacant))) ns ps o → Linked ys f' l' × (linked_program ys f' ≡ reorder (linked_program xs f) o)
moved xs ys f f' l' n g keeps b is_b eb ns ps o en ep is =
    let bs = set (bodies xs) n (g (get_or (bodies xs) n Vacant)) in
    let e : bodies ys ≡ bs = eb ∙ ap (set (bodies xs) n) is_b in (
      linked_by ys f' l' bs ns ps o e en ep is,
      program_is ys f' l' bs ns ps o e en ep is (linked_program xs f) (content_kept g keeps (bodies xs) n),
    )

module _ (xs : List LinkedCell) (f l : ℕ) (is : Linked xs f l) where
  abbrev bs : List Body
  bs = bodies xs

  abbrev ns : List ℕ
  ns = nexts xs f

  abbrev ps : List ℕ
  ps = prevs xs l

  abbrev o : List ℕ
  o = order_of bs ns

  many : length bs ≡ length xs
  many = length-map xs (λ c. c.body)

  pub anchor_near : (t : ℕ) → Anchor xs t → (t ≡ length bs) ⊎ (0 < occurs t o)
  anchor_near t =
      ⊎_elim (λ e. inl (e ∙ sym many)) (λ p. inr (let m = (placed_mark (get_or bs t Vacant) p).0 in let k = is.marks t in omega arith))

  module _ (n : ℕ) (loose : tag (get_or bs n Vacant) ≡ Loose) where
    pub loose_low : n < length xs
    loose_low = let h = not_free_low bs n (loose_free (tag (get_or bs n Vacant)) loose) in let m = many in omega arith

    loose_within : n < length bs
    loose_within = let h = loose_low in let m = many in omega arith

    pub link_before_low : (t : ℕ) → Anchor xs t → at ps t ≤ length xs
    link_before_low t a =
        let m = loose_mark (get_or bs n Vacant) loose in
        let q = before_low bs ns ps o is n (place_body (get_or bs n Vacant)) loose_within m.0 m.1 t (anchor_near t a) in
        let k = many in
        omega arith

    pub link_chained : (t : ℕ) → Anchor xs t → Chained (set bs n (place_body (get_or bs n Vacant))) (next_in ns ps n t) (prev_in ps n t) (insert o (index_of t o) n)
    link_chained t a =
        let m = loose_mark (get_or bs n Vacant) loose in
        chained_in bs ns ps o is n (place_body (get_or bs n Vacant)) loose_within m.0 m.1 t (anchor_near t a)

  module _ (n : ℕ) (placed : tag (get_or bs n Vacant) ≡ IsPlaced) where
    pub placed_low : n < length xs
    placed_low = let h = not_free_low bs n (placed_free (tag (get_or bs n Vacant)) placed) in let m = many in omega arith

    -- both neighbours are nodes
    pub unlink_near : (at ps n ≤ length xs) × (at ns n ≤ length xs)
    unlink_near =
        let m = placed_mark (get_or bs n Vacant) placed in
        let b = prev_low bs ns ps o is n (loosen_body (get_or bs n Vacant)) m.0 m.1 in
        let a = next_low bs ns ps o is n (loosen_body (get_or bs n Vacant)) m.0 m.1 in
        let k = many in
        (omega arith, omega arith)

    pub unlink_chained : Chained (set bs n (loosen_body (get_or bs n Vacant))) (next_out ns ps n) (prev_out ns ps n) (remove o (index_of n o))
    unlink_chained =
        let m = placed_mark (get_or bs n Vacant) placed in
        chained_out bs ns ps o is n (loosen_body (get_or bs n Vacant)) m.0 m.1

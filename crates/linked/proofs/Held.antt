-- What the type of a linked store says of its cells, and what its ghost fields ask of the cells after a command.
use Rattle.std.proofs.Common.{◌≡◌, ℕ, ◌<◌, ◌≤◌, List, map, length, get_or, set, Some, None, Option, sym, ap, ◌∙◌, subst, arith}
use Rattle.std.specs.Option.{unwrap_or}
use Rattle.std.specs.List.{insert, remove}
use Rattle.std.proofs.lemmas.List.{length-map}
use Rattle.program.specs.Programs.{Program, index_of, Busy, held, Operands}
use Rattle.program.specs.Commands.{put, reorder, anchor_place, after_make, after_link, after_unlink, after_unmake, after_rewrite}
use Rattle.program.specs.Proper.{Proper, Tied}
use Rattle.program.specs.Laws.{Kept}
use Rattle.program.proofs.Faults.{settles}
use Rattle.program.proofs.Accepting.{busy_inside}
use Rattle.program.proofs.Keeping.{commands_keep_proper, tied_from, tied_test}
use Rattle.ir.specs.declared.instruction.Record.{Record}
use Rattle.ir.specs.Instructions.{plain}
use Rattle.program.specs.declared.state.State.TheVariants.{Loose}
use Rattle.program.specs.Faults.{make_fault, link_fault, placed_fault, unmake_fault, rewrite_fault}
use Rattle.linked.specs.declared.cells.Body.{Body}
use Rattle.linked.specs.declared.cells.Body.TheVariants.{Vacant, Idle}
use Rattle.linked.specs.Making.{Inside, body_with}
use Rattle.linked.specs.declared.cells.LinkedCell.{LinkedCell}
use Rattle.linked.specs.declared.linked.Linked.{Linked}
use Rattle.linked.specs.LinkedModel.{content, tag, bodies, threads_of, SameOrder, Anchor, linked_program, Linked as LinkedUp}
use Rattle.linked.specs.Facts.{Forward, Backward, Marked, Strung, Listed, Ranged, linked_from, threaded_from, forward_of, backward_of, strung_of}
use Rattle.linked.specs.States.{proper_linked}
use Rattle.linked.proofs.Ordering.{Sound}
use Rattle.linked.proofs.Ordering.{Allowed, put_sound, put_program, make_allowed, rewrite_content, rewrite_allowed, unmake_allowed, link_loose, link_anchor, link_place, listed_kept, ranged_kept}

-- ---- the store

-- what the type asks of its fields
abbrev Fields : List LinkedCell → ℕ → ℕ → Type 0
Fields xs f l = record { few : length xs ≤ 1024; forward : Forward xs f; backward : Backward xs f l; marked : Marked xs f; strung : Strung xs; tied : Tied (linked_program xs f) }

pub fields : (xs : List LinkedCell) (f l : ℕ) → Sound xs f l → (p : Program) → linked_program xs f ≡ p → Proper p → Fields xs f l
fields xs f l s p e t =
    record {
      few = s.listed.few;
      forward = forward_of xs f l s.linked;
      backward = backward_of xs f l s.linked;
      marked = s.linked.marks;
      strung = strung_of xs s.listed;
      tied = tied_test (linked_program xs f) (subst Proper (sym e) t);
    }

-- cells that mean the program p, as the type asks
abbrev Left : List LinkedCell → ℕ → ℕ → Program → Type 0
Left xs f l p = (linked_program xs f ≡ p) × Fields xs f l

left : (xs : List LinkedCell) (f l : ℕ) → Sound xs f l → (p : Program) → linked_program xs f ≡ p → Proper p → Left xs f l p
left xs f l s p e t = (e, fields xs f l s p e t)

-- operands that are not free are numbers of the store
tied_inside : (xs : List LinkedCell) (f : ℕ) → Tied (linked_program xs f) → Ranged xs
tied_inside xs f tied n i e =
    let p = linked_program xs f in
    let low : (m : ℕ) → Busy p m → m < length xs = λ m b. let i = busy_inside p m b in let k = length-map (bodies xs) content in let j = length-map xs (λ c. c.body) in omega arith in
    let t : Operands i (λ m. Busy p m × (m ≡ n → ⊥)) = subst (λ c. Operands (held c) (λ m. Busy p m × (m ≡ n → ⊥))) e (tied_from p tied n) in
    record { a = λ h. low i.a (t.0 h).0; b = λ h. low i.b (t.1 h).0; c = λ h. low i.c (t.2 h).0 }

module _ (s : Linked) where
  abbrev xs : List LinkedCell
  xs = s.cells.now

  abbrev f : ℕ
  f = s.ends.next

  abbrev l : ℕ
  l = s.ends.prev

  pub store_sound : Sound xs f l
  store_sound = record {
    linked = linked_from xs f l s.forward s.backward s.marked;
    listed = threaded_from xs s.few s.strung;
    ranged = tied_inside xs f s.tied;
  }

  pub store_proper : Proper (linked_program xs f)
  store_proper = proper_linked xs f l s.few s.forward s.backward s.marked s.tied

  pub store_kept : Kept (linked_program xs f)
  store_kept = commands_keep_proper (linked_program xs f) store_proper

  pub store_size : length (map content (bodies xs)) ≡ length xs
  store_size = length-map (bodies xs) content ∙ length-map xs (λ c. c.body)

  abbrev P : Program
  P = linked_program xs f

  -- what a write of a body asks, and what it leaves
  pub put_ready : (n : ℕ) (b : Body) → Allowed xs n b → record { listed : Listed xs; ranged : Ranged xs; within : n < length xs; inside : Inside (length xs) (content b) }
  put_ready n b a = let is = store_sound in record { listed = is.listed; ranged = is.ranged; within = a.within; inside = a.inside }

  put_leaves : (n : ℕ) (b : Body) (ys : List LinkedCell) → Allowed xs n b → Listed ys → SameOrder xs ys → bodies ys ≡ set (bodies xs) n b → (p : Program) → put P n (content b) ≡ p → Proper p → Left ys f l p
  put_leaves n b ys a listed order eb p e t =
      left ys f l (put_sound xs ys f l store_sound n b a listed order eb) p (put_program xs ys f l store_sound n b a listed order eb ∙ e) t

  -- what a change of the order leaves
  order_leaves : (ys : List LinkedCell) (f' l' : ℕ) (o : List ℕ) → LinkedUp ys f' l' → linked_program ys f' ≡ reorder P o → threads_of ys ≡ threads_of xs → (p : Program) → reorder P o ≡ p → Proper p → Left ys f' l' p
  order_leaves ys f' l' o up e threads p same t =
      let cells = ap (λ q. q.cells) e in
      left ys f' l' (record { linked = up; listed = listed_kept xs ys cells threads store_sound.listed; ranged = ranged_kept xs ys cells store_sound.ranged }) p (e ∙ same) t

  -- ---- the commands

  module _ (n : ℕ) (what : Record) (e : make_fault P n (plain what) ≡ None) where
    pub make_may : Allowed xs n (Idle what)
    make_may = make_allowed xs f l store_sound.linked n what e

    pub make_leaves : (ys : List LinkedCell) → Listed ys → SameOrder xs ys → bodies ys ≡ set (bodies xs) n (Idle what) → Left ys f l (after_make P n (plain what))
    make_leaves ys listed order eb =
        put_leaves n (Idle what) ys make_may listed order eb (after_make P n (plain what)) (sym (settles (make_fault P n (plain what)) (put P n (Some (plain what))) P e)) (store_kept.by_make n (plain what) what.shaped)

  module _ (n : ℕ) (what : Record) (b : Body) (is_b : b ≡ body_with (get_or (bodies xs) n Vacant) what) (e : rewrite_fault P n (plain what) ≡ None) where
    pub rewrite_may : Allowed xs n b
    rewrite_may = rewrite_allowed xs f l store_sound.linked n what b is_b e

    pub rewrite_leaves : (ys : List LinkedCell) → Listed ys → SameOrder xs ys → bodies ys ≡ set (bodies xs) n b → Left ys f l (after_rewrite P n (plain what))
    rewrite_leaves ys listed order eb =
        put_leaves n b ys rewrite_may listed order eb (after_rewrite P n (plain what))
        (ap (put P n) (rewrite_content xs f l store_sound.linked n what b is_b e) ∙ sym (settles (rewrite_fault P n (plain what)) (put P n (Some (plain what))) P e))
        (store_kept.by_rewrite n (plain what) what.shaped)

  module _ (n : ℕ) (e : unmake_fault P n ≡ None) where
    pub unmake_may : Allowed xs n Vacant
    unmake_may = unmake_allowed xs f l store_sound.linked n e

    pub unmake_leaves : (ys : List LinkedCell) → Listed ys → SameOrder xs ys → bodies ys ≡ set (bodies xs) n Vacant → Left ys f l (after_unmake P n)
    unmake_leaves ys listed order eb =
        put_leaves n Vacant ys unmake_may listed order eb (after_unmake P n) (sym (settles (unmake_fault P n) (put P n None) P e)) (store_kept.by_unmake n)

  pub unlink_leaves : (n : ℕ) → placed_fault P n ≡ None → (ys : List LinkedCell) (f' l' : ℕ) → LinkedUp ys f' l' → linked_program ys f' ≡ reorder P (remove P.order (index_of n P.order)) → threads_of ys ≡ threads_of xs → Left ys f' l' (after_unlink P n)
  unlink_leaves n e ys f' l' up after threads =
      let o : List ℕ = remove P.order (index_of n P.order) in
      order_leaves ys f' l' o up after threads (after_unlink P n) (sym (settles (placed_fault P n) (reorder P o) P e)) (store_kept.by_unlink n)

  -- t is the node that a link goes before
  module _ (n : ℕ) (anchor : Option ℕ) (t : ℕ) (is_t : t ≡ unwrap_or anchor (length (map content (bodies xs)))) (e : link_fault P n anchor ≡ None) where
    node : t ≡ unwrap_or anchor (length xs)
    node = is_t ∙ ap (unwrap_or anchor) store_size

    pub link_ready : record { linked : LinkedUp xs f l; loose : tag (get_or (bodies xs) n Vacant) ≡ Loose; anchor : Anchor xs t }
    link_ready = let is = store_sound in record { linked = is.linked; loose = link_loose xs f l is.linked n anchor e; anchor = subst (Anchor xs) (sym node) (link_anchor xs f l is.linked n anchor e) }

    pub link_leaves : (ys : List LinkedCell) (f' l' : ℕ) → LinkedUp ys f' l' → linked_program ys f' ≡ reorder P (insert P.order (index_of t P.order) n) → threads_of ys ≡ threads_of xs → Left ys f' l' (after_link P n anchor)
    link_leaves ys f' l' up after threads =
        let place : index_of t P.order ≡ anchor_place P anchor = ap (λ k. index_of k P.order) node ∙ link_place xs f l store_sound.linked anchor in
        order_leaves ys f' l' (insert P.order (index_of t P.order) n) up after threads (after_link P n anchor)
        (ap (λ k. reorder P (insert P.order k n)) place ∙ sym (settles (link_fault P n anchor) (reorder P (insert P.order (anchor_place P anchor) n)) P e))
        (store_kept.by_link n anchor)

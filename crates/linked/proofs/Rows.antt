-- One body written, with its three operands threaded one after another.
use Rattle.std.proofs.Common.{◌≡◌, ℕ, zero, suc, ◌+◌, ◌*◌, ◌<◌, Bool, true, false, cond, ltb, List, [], ◌∷◌, map, length, get_or, set, Some, None, Option, sym, refl, ap, ◌∙◌, subst, arith}
use Rattle.std.proofs.lemmas.List.{get_or-set_other, length-map, length-set, map-set}
use Rattle.ir.specs.Operations.{arity}
use Rattle.ir.specs.Instructions.{Instr, slot}
use Rattle.linked.specs.declared.cells.Body.{Body}
use Rattle.linked.specs.declared.cells.Body.TheVariants.{Vacant}
use Rattle.linked.specs.declared.cells.LinkedCell.{LinkedCell}
use Rattle.linked.specs.LinkedModel.{content, bodies, threads_of}
use Rattle.linked.specs.Uses.{Threaded}
use Rattle.linked.specs.Slots.{flat, links, entry, Lists, OnlyThreads, Changing}
use Rattle.linked.specs.Table.{table, table_set, operand_a, operand_b, operand_c}
use Rattle.linked.specs.Facts.{table_in, Listed, Ranged}
use Rattle.linked.specs.Making.{Inside}
use Rattle.linked.specs.Reading.{slots_of}
use Rattle.linked.specs.States.{content_at}
use Rattle.linked.proofs.Columns.{rest_none, rest_then, rest_length}

-- ---- the operands of a cell, as the table has them

slot_some : (t : Bool) (n v : ℕ) → slot t n ≡ Some v → (t ≡ true) × (n ≡ v)
slot_some true n v e = (refl, cc)
slot_some false n v e = let z : ◌≡◌ {A = ℕ} 0 1 = cc in absurd (omega arith)

none_at : (k : ℕ) → get_or (slots_of None) k None ≡ None
none_at zero = refl
none_at (suc zero) = refl
none_at (suc (suc zero)) = refl
none_at (suc (suc (suc k))) = refl

slots_in : (size : ℕ) (c : Option Instr) → Inside size c → (k v : ℕ) → get_or (slots_of c) k None ≡ Some v → v < size
slots_in size None h k v e = let q = none_at k in let z : ◌≡◌ {A = ℕ} 0 1 = cc in absurd (omega arith)
slots_in size (Some i) h zero v e = let s = slot_some (ltb 0 (arity i.op)) i.a v e in subst (λ m. m < size) s.1 ((h i refl).a s.0)
slots_in size (Some i) h (suc zero) v e = let s = slot_some (ltb 1 (arity i.op)) i.b v e in subst (λ m. m < size) s.1 ((h i refl).b s.0)
slots_in size (Some i) h (suc (suc zero)) v e = let s = slot_some (ltb 2 (arity i.op)) i.c v e in subst (λ m. m < size) s.1 ((h i refl).c s.0)
slots_in size (Some i) h (suc (suc (suc k))) v e = let z : ◌≡◌ {A = ℕ} 0 1 = cc in absurd (omega arith)

entry_slot : (t : Bool) (n : ℕ) → cond t n 4096 ≡ entry (slot t n)
entry_slot true n = refl
entry_slot false n = refl

entry_a : (c : Option Instr) → operand_a c ≡ entry (get_or (slots_of c) 0 None)
entry_a None = refl
entry_a (Some i) = entry_slot (ltb 0 (arity i.op)) i.a

entry_b : (c : Option Instr) → operand_b c ≡ entry (get_or (slots_of c) 1 None)
entry_b None = refl
entry_b (Some i) = entry_slot (ltb 1 (arity i.op)) i.b

entry_c : (c : Option Instr) → operand_c c ≡ entry (get_or (slots_of c) 2 None)
entry_c None = refl
entry_c (Some i) = entry_slot (ltb 2 (arity i.op)) i.c

pub row_entry : (cs : List (Option Instr)) (n k : ℕ) → k < 3 → get_or (table cs) (4 * n + suc k) 4096 ≡ entry (get_or (slots_of (get_or cs n None)) k None)
row_entry [] n k h = sym (ap entry (none_at k))
row_entry (c ∷ cs) zero zero h = entry_a c
row_entry (c ∷ cs) zero (suc zero) h = entry_b c
row_entry (c ∷ cs) zero (suc (suc zero)) h = entry_c c
row_entry (c ∷ cs) zero (suc (suc (suc k))) h = absurd (omega arith)
row_entry (c ∷ cs) (suc n) k h =
    let z : 4 * suc n + suc k ≡ suc (suc (suc (suc (4 * n + suc k)))) = omega arith in
    ap (λ j. get_or (table (c ∷ cs)) j 4096) z ∙ row_entry cs n k h

-- ---- n gets the body b

-- the table with the new operands of n in the first, the first two, and all three of its places
abbrev pub with_a : List LinkedCell → ℕ → List (Option ℕ) → List ℕ
with_a xs n news = set (table_in xs) (4 * n + 1) (entry (get_or news 0 None))

abbrev pub with_b : List LinkedCell → ℕ → List (Option ℕ) → List ℕ
with_b xs n news = set (with_a xs n news) (4 * n + 2) (entry (get_or news 1 None))

abbrev pub with_c : List LinkedCell → ℕ → List (Option ℕ) → List ℕ
with_c xs n news = set (with_b xs n news) (4 * n + 3) (entry (get_or news 2 None))

-- the operand of n at position k may change from what `olds` has there to what `news` has
abbrev ChangingAt : List LinkedCell → List ℕ → ℕ → ℕ → List (Option ℕ) → List (Option ℕ) → Type 0
ChangingAt ys qs n k olds news = Changing ys qs (4 * n + suc k) (get_or olds k None) (get_or news k None)

-- the change of the operand at position k, as `rethread` promises it
abbrev Changes : List LinkedCell → List LinkedCell → ℕ → ℕ → List (Option ℕ) → List (Option ℕ) → Type 0
Changes xs ys n k olds news = (qs : List ℕ) → ChangingAt xs qs n k olds news → Lists ys (set qs (4 * n + suc k) (entry (get_or news k None)))

-- what `olds` and `news` are, and what a write asks
pub record Writes (xs : List LinkedCell) (n : ℕ) (b : Body) (olds news : List (Option ℕ)) : Type 0 where
  pub olds_are : olds ≡ slots_of (content (get_or (bodies xs) n Vacant))
  pub news_are : news ≡ slots_of (content b)
  pub listed : Listed xs
  pub ranged : Ranged xs
  pub within : n < length xs
  pub inside : Inside (length xs) (content b)

module _ (xs : List LinkedCell) (n : ℕ) (body : Body) (olds news : List (Option ℕ)) (is : Writes xs n body olds news) where
  stands : (k : ℕ) → k < 3 → get_or (table_in xs) (4 * n + suc k) 4096 ≡ entry (get_or olds k None)
  stands k h =
      row_entry (map content (bodies xs)) n k h
      ∙ ap (λ c. entry (get_or (slots_of c) k None)) (content_at (bodies xs) n)
      ∙ ap (λ os. entry (get_or os k None)) (sym is.olds_are)

  change : (ys : List LinkedCell) (qs : List ℕ) (k : ℕ) → k < 3 → OnlyThreads xs ys → Lists ys qs → get_or qs (4 * n + suc k) 4096 ≡ entry (get_or olds k None) → ChangingAt ys qs n k olds news
  change ys qs k h rest t e =
      let len = rest_length xs ys rest in
      let low = is.within in
      let old_in : Inside (length xs) (content (get_or (bodies xs) n Vacant)) = subst (Inside (length xs)) (content_at (bodies xs) n) (is.ranged n) in
      record {
        lists = t;
        within = omega arith;
        plain = λ u z. omega arith;
        used = e;
        was = λ v z. subst (λ s. v < s) len (slots_in (length xs) (content (get_or (bodies xs) n Vacant)) old_in k v (ap (λ os. get_or os k None) (sym is.olds_are) ∙ z));
        value = λ v z. subst (λ s. v < s) len (slots_in (length xs) (content body) is.inside k v (ap (λ os. get_or os k None) (sym is.news_are) ∙ z));
      }

  new_table : with_c xs n news ≡ table (set (map content (bodies xs)) n (content body))
  new_table =
      let row : ℕ → ℕ → ℕ → List ℕ = λ a b c. set (set (set (table_in xs) (4 * n + 1) a) (4 * n + 2) b) (4 * n + 3) c in
      let c = content body in
      ap (λ os. row (entry (get_or os 0 None)) (entry (get_or os 1 None)) (entry (get_or os 2 None))) is.news_are
      ∙ ap (λ e. row e (entry (get_or (slots_of c) 1 None)) (entry (get_or (slots_of c) 2 None))) (sym (entry_a c))
      ∙ ap (λ e. row (operand_a c) e (entry (get_or (slots_of c) 2 None))) (sym (entry_b c))
      ∙ ap (row (operand_a c) (operand_b c)) (sym (entry_c c))
      ∙ sym (table_set (map content (bodies xs)) n c)

  pub change_a : ChangingAt xs (table_in xs) n 0 olds news
  change_a = change xs (table_in xs) 0 (omega arith) (rest_none xs) is.listed (stands 0 (omega arith))

  module _ (xa : List LinkedCell) (rest_a : OnlyThreads xs xa) (a : Changes xs xa n 0 olds news) where
    pub change_b : ChangingAt xa (with_a xs n news) n 1 olds news
    change_b =
        change xa (with_a xs n news) 1 (omega arith) rest_a (a (table_in xs) change_a)
        (get_or-set_other (table_in xs) (4 * n + 1) (4 * n + 2) (entry (get_or news 0 None)) 4096 (λ e. omega arith) ∙ stands 1 (omega arith))

    module _ (xb : List LinkedCell) (rest_b : OnlyThreads xa xb) (b : Changes xa xb n 1 olds news) where
      pub change_c : ChangingAt xb (with_b xs n news) n 2 olds news
      change_c =
          change xb (with_b xs n news) 2 (omega arith) (rest_then xs xa xb rest_a rest_b) (b (with_a xs n news) change_b)
          (get_or-set_other (with_a xs n news) (4 * n + 2) (4 * n + 3) (entry (get_or news 1 None)) 4096 (λ e. omega arith)
          ∙ get_or-set_other (table_in xs) (4 * n + 1) (4 * n + 3) (entry (get_or news 0 None)) 4096 (λ e. omega arith)
          ∙ stands 2 (omega arith))

      -- the body itself is written last
      pub put_listed : (xc ys : List LinkedCell) → OnlyThreads xb xc → Changes xb xc n 2 olds news → bodies ys ≡ set (bodies xc) n body → threads_of ys ≡ threads_of xc → Listed ys
      put_listed xc ys rest_c c e g =
          let same = (rest_then xs xa xc rest_a (rest_then xa xb xc rest_b rest_c)).bodies in
          let now : bodies ys ≡ set (bodies xs) n body = e ∙ ap (λ d. set d n body) same in
          let q : with_c xs n news ≡ table_in ys = new_table ∙ ap table (sym (map-set content (bodies xs) n body)) ∙ ap (λ d. table (map content d)) (sym now) in
          let len : length xc ≡ length ys = sym (sym (length-map ys (λ d. d.body)) ∙ ap length e ∙ length-set (bodies xc) n body ∙ length-map xc (λ d. d.body)) in
          subst (λ s. Threaded s (table_in ys) (links ys)) len
          (subst (λ ls. Threaded (length xc) (table_in ys) ls) (ap flat (sym g))
          (subst (λ k. Threaded (length xc) k (links xc)) q (c (with_b xs n news) change_c)))

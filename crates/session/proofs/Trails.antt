-- A journal with marks does what copies do.
use Rattle.std.proofs.Common.{◌≡◌, ℕ, zero, suc, ◌+◌, ◌-◌, ◌≤◌, Bool, true, List, [], ◌∷◌, ◌++◌, length, take, drop, sym, refl, ap, ◌∙◌, suc-add, zero-add, arith}
use Rattle.std.proofs.lemmas.List.{drop-drop, length-drop}
use Rattle.program.specs.Programs.{Program}
use Rattle.edits.specs.Commands.{Edit, after}
use Rattle.edits.specs.Journals.{play}
use Rattle.session.specs.declared.mark.Mark.{Mark}
use Rattle.session.specs.Copying.{Save}
use Rattle.session.specs.Trail.{above, below, copies, kept, marked?, undone, lowered, Low, High}
use Rattle.session.proofs.Stacks.{marked_head, marked_tail}

pub above_push : (e : Edit) (t : List Edit) (a : ℕ) → a ≤ length t → above (e ∷ t) a ≡ e ∷ above t a
above_push e t a h = let q : length (e ∷ t) - a ≡ suc (length t - a) = omega arith in ap (λ k. take k (e ∷ t)) q

pub below_push : (e : Edit) (t : List Edit) (a : ℕ) → a ≤ length t → below (e ∷ t) a ≡ below t a
below_push e t a h = let q : length (e ∷ t) - a ≡ suc (length t - a) = omega arith in ap (λ k. drop k (e ∷ t)) q

-- one save over what lies below it
abbrev layer : Mark → List Mark → Program → List Edit → List Edit → List Save
layer m ms p high low = record { program = play p high; left = 512 - m.at; held = m.held } ∷ copies (play p high) low ms

-- a record that takes the newest edit back leaves each copy as it was
pub copies_push :
    (p q : Program) (e : Edit) (t : List Edit) (m : Mark) (ms : List Mark) → after q e ≡ p → m.at ≤ length t
    → copies q (e ∷ t) (m ∷ ms) ≡ copies p t (m ∷ ms)
copies_push p q e t m ms back h =
    ap (λ x. layer m ms q x (below (e ∷ t) m.at)) (above_push e t m.at h)
    ∙ ap (λ x. layer m ms q (e ∷ above t m.at) x) (below_push e t m.at h)
    ∙ ap (λ x. layer m ms x (above t m.at) (below t m.at)) back

pub length_copies : (p : Program) (t : List Edit) (ms : List Mark) → length (copies p t ms) ≡ length ms
length_copies p t [] = refl
length_copies p t (m ∷ ms) = ap suc (length_copies (play p (above t m.at)) (below t m.at) ms)

-- a mark at the end stands for a copy of the program
pub copies_open :
    (p : Program) (t : List Edit) (ms : List Mark) (held : Bool)
    → copies p t (record { at = length t; held = held } ∷ ms) ≡ record { program = p; left = 512 - length t; held = held } ∷ copies p t ms
copies_open p t ms held =
    let z : length t - length t ≡ 0 = omega arith in
    ap (λ k. record { program = play p (take k t); left = 512 - length t; held = held } ∷ copies (play p (take k t)) (drop k t) ms) z

-- ---- a save between two others makes no difference to the lower one

take_nil : {A : Type 0} (i : ℕ) → take {A = A} i [] ≡ []
take_nil zero = refl
take_nil (suc i) = refl

take_sum : {A : Type 0} (i j : ℕ) (xs : List A) → take (i + j) xs ≡ take i xs ++ take j (drop i xs)
take_sum zero j xs = ap (λ k. take k xs) (zero-add j)
take_sum (suc i) j [] = take_nil (suc i + j) ∙ sym (take_nil j)
take_sum {A = A} (suc i) j (x ∷ xs) = ap (λ k. take k (x ∷ xs)) (suc-add i j) ∙ ap (λ (z : List A). x ∷ z) (take_sum i j xs)

play_append : (s t : List Edit) (p : Program) → play p (s ++ t) ≡ play (play p s) t
play_append [] t p = refl
play_append (e ∷ s) t p = play_append s t (after p e)

pub length_below : (t : List Edit) (a : ℕ) → a ≤ length t → length (below t a) ≡ a
length_below t a h = simp length-drop (omega arith)

module _ (p : Program) (t : List Edit) (a b : ℕ) (h : a ≤ length t) (k : b ≤ a) where
  sum : length t - b ≡ (length t - a) + (length (below t a) - b)
  sum = rw (length_below t a h) (omega arith)

  above_above : play p (above t b) ≡ play (play p (above t a)) (above (below t a) b)
  above_above =
      ap (λ n. play p (take n t)) sum
      ∙ ap (play p) (take_sum (length t - a) (length (below t a) - b) t)
      ∙ play_append (above t a) (above (below t a) b) p

  below_below : below t b ≡ below (below t a) b
  below_below = ap (λ n. drop n t) sum ∙ sym (drop-drop (length (below t a) - b) (length t - a) t)

copies_merge :
    (p : Program) (t : List Edit) (a : ℕ) (m : Mark) (ms : List Mark) → a ≤ length t → m.at ≤ a
    → copies p t (m ∷ ms) ≡ copies (play p (above t a)) (below t a) (m ∷ ms)
copies_merge p t a m ms h k =
    let f : Program → List Edit → List Save = λ q low. record { program = q; left = 512 - m.at; held = m.held } ∷ copies q low ms in
    ap (λ q. f q (below t m.at)) (above_above p t a m.at h k) ∙ ap (f (play (play p (above t a)) (above (below t a) m.at))) (below_below p t a m.at h k)

-- ---- the newest save gone

-- the older saves stand for what they did
pub copies_kept :
    (p : Program) (t : List Edit) (m : Mark) (ms : List Mark) → marked? (length t) (m ∷ ms) ≡ true
    → copies p (kept ms t) ms ≡ copies (play p (above t m.at)) (below t m.at) ms
copies_kept p t m [] e = refl
copies_kept p t m (l ∷ ms) e =
    copies_merge p t m.at l ms (marked_head (length t) m (l ∷ ms) e) (marked_head m.at l ms (marked_tail (length t) m (l ∷ ms) e))

-- ---- undoing, record by record

pub undone_more : (p : Program) (e : Edit) (t : List Edit) (ms : List Mark) → High ms t → undone ms (e ∷ t) p ≡ undone ms t (after p e)
undone_more p e t [] h = absurd h
undone_more p e t (m ∷ ms) h = ap (play p) (above_push e t m.at h)

pub lowered_more : (e : Edit) (t : List Edit) (ms : List Mark) → High ms t → lowered ms (e ∷ t) ≡ lowered ms t
lowered_more e t [] h = absurd h
lowered_more e t (m ∷ ms) h = below_push e t m.at h

pub undone_end : (p : Program) (t : List Edit) (ms : List Mark) → Low ms t → p ≡ undone ms t p
undone_end p t [] h = refl
undone_end p t (m ∷ ms) h = let z : 0 ≡ length t - m.at = omega arith in ap (λ k. play p (take k t)) z

pub lowered_end : (t : List Edit) (ms : List Mark) → Low ms t → t ≡ lowered ms t
lowered_end t [] h = refl
lowered_end t (m ∷ ms) h = let z : 0 ≡ length t - m.at = omega arith in ap (λ k. drop k t) z

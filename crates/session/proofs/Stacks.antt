-- A row of which the first n are a stack.
use Rattle.std.proofs.Common.{◌≡◌, ℕ, ◌+◌, ◌-◌, ◌<◌, ◌≤◌, true, leb, List, [], ◌∷◌, reverse, length, get_or, take, set, Some, None, sym, refl, ap, ◌∙◌, arith}
use Rattle.std.proofs.lemmas.List.{take_all, take_more, take_more_set, reverse-append, length-reverse, length-take}
use Rattle.std.proofs.lemmas.Bool.{and_parts, and_from, leb-true, le-leb, eqb-true}
use Rattle.std.specs.List.{slice_get}
use Rattle.std.proofs.lemmas.Option.{slice_get-get_or}
use Rattle.session.specs.declared.mark.Mark.{Mark}
use Rattle.session.specs.Trail.{marked?}
use Rattle.session.specs.Stack.{stack, top, rest}

module _ {A : Type 0} where
  pub stack_none : (xs : List A) → stack xs 0 ≡ []
  unfolding stack
  stack_none xs = refl

  pub stack_push : (xs : List A) (n : ℕ) (e : A) → n < length xs → stack (set xs n e) (n + 1) ≡ e ∷ stack xs n
  unfolding stack
  stack_push xs n e h = ap reverse (take_more_set xs n e h) ∙ reverse-append (take n xs) (e ∷ [])

  pub last_of : (xs : List A) (n : ℕ) → n ≤ length xs → 0 < n → A
  last_of [] n h k = absurd (omega arith)
  last_of (x ∷ xs) n h k = x

  pub stack_pop : (xs : List A) (n : ℕ) (d : A) → 0 < n → n ≤ length xs → stack xs n ≡ get_or xs (n - 1) d ∷ stack xs (n - 1)
  unfolding stack
  stack_pop xs n d h k =
      let s : n ≡ (n - 1) + 1 = omega arith in
      let l : n - 1 < length xs = omega arith in
      ap (λ (m : ℕ). reverse (take m xs)) s ∙ ap reverse (take_more xs (n - 1) d l) ∙ reverse-append (take (n - 1) xs) (get_or xs (n - 1) d ∷ [])

  pub length_stack : (xs : List A) (n : ℕ) → n ≤ length xs → length (stack xs n) ≡ n
  unfolding stack
  length_stack xs n h = simp (length-reverse, length-take) (omega arith)

  pub stack_top : (xs : List A) (n : ℕ) (d : A) → 0 < n → n ≤ length xs → Some (get_or xs (n - 1) d) ≡ top (stack xs n)
  stack_top xs n d h k = ap top (sym (stack_pop xs n d h k))

  -- the last of a row is its top
  pub last_top : (xs : List A) → slice_get xs (length xs - 1) ≡ top (reverse xs)
  unfolding stack
  last_top [] = refl
  last_top (x ∷ xs) =
      let ys = x ∷ xs in
      slice_get-get_or ys (length ys - 1) x (omega arith) ∙ stack_top ys (length ys) x (omega arith) (omega arith)
      ∙ ap (λ l. top (reverse l)) (take_all (length ys) ys (omega arith))

  pub stack_rest : (xs : List A) (n : ℕ) → 0 < n → n ≤ length xs → stack xs (n - 1) ≡ rest (stack xs n)
  stack_rest xs n h k = ap rest (sym (stack_pop xs n (last_of xs n k h) h k))

  pub rest_none : (xs : List A) (n : ℕ) → n ≡ 0 → stack xs n ≡ rest (stack xs n)
  rest_none xs n e = let z : stack xs n ≡ [] = ap (stack xs) e ∙ stack_none xs in z ∙ ap rest (sym z)

-- the marks within so many records, one read off and one put on
marked_parts : (n : ℕ) (m : Mark) (ms : List Mark) → marked? n (m ∷ ms) ≡ true → (m.at ≤ n) × (marked? m.at ms ≡ true)
marked_parts n m ms e = let h = and_parts (leb m.at n) (marked? m.at ms) e in (leb-true m.at n h.0, h.1)

pub marked_head : (n : ℕ) (m : Mark) (ms : List Mark) → marked? n (m ∷ ms) ≡ true → m.at ≤ n
marked_head n m ms e = (marked_parts n m ms e).0

pub marked_tail : (n : ℕ) (m : Mark) (ms : List Mark) → marked? n (m ∷ ms) ≡ true → marked? m.at ms ≡ true
marked_tail n m ms e = (marked_parts n m ms e).1

pub marked_on : (n : ℕ) (m : Mark) (ms : List Mark) → m.at ≤ n → marked? m.at ms ≡ true → marked? n (m ∷ ms) ≡ true
marked_on n m ms h e = and_from (leb m.at n) (marked? m.at ms) (le-leb m.at n h) e

-- more records do no harm
pub marked_more : (n k : ℕ) (m : Mark) (ms : List Mark) → n ≤ k → marked? n (m ∷ ms) ≡ true → marked? k (m ∷ ms) ≡ true
marked_more n k m ms h e = let l = marked_head n m ms e in marked_on k m ms (omega arith) (marked_tail n m ms e)

-- nor does a save fewer, if one is left
pub marked_rest : (n : ℕ) (m l : Mark) (ms : List Mark) → marked? n (m ∷ (l ∷ ms)) ≡ true → marked? n (l ∷ ms) ≡ true
marked_rest n m l ms e = marked_more m.at n l ms (marked_head n m (l ∷ ms) e) (marked_tail n m (l ∷ ms) e)

-- the oldest mark lies under all records
pub marked_oldest : (n : ℕ) (m : Mark) → marked? n (m ∷ []) ≡ true → m.at ≡ 0
marked_oldest n m e = eqb-true m.at 0 (marked_tail n m [] e)

-- a top, and what lies under it
pub top_cons : {A : Type 0} (xs : List A) (x : A) → Some x ≡ top xs → xs ≡ x ∷ rest xs
top_cons [] x e = cc
top_cons {A = A} (y ∷ ys) x e = let q : y ≡ x = cc in ap (λ (z : A). z ∷ ys) q

pub top_nil : {A : Type 0} (xs : List A) → None ≡ top xs → xs ≡ []
top_nil [] e = refl
top_nil (y ∷ ys) e = cc

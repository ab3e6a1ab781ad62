-- Outputs: how many they are, and the words that they are written to.
use Rattle.std.proofs.Common.{◌≡◌, ℕ, suc, ◌+◌, ◌*◌, ◌<◌, ◌≤◌, Bool, true, false, cond, List, [], ◌∷◌, ◌++◌, length, map, take, drop, set, sym, refl, ap, ◌∙◌, arith}
use mathlib.Core.Path.{fun_ext}
use Rattle.std.specs.List.{filter}
use Rattle.std.proofs.lemmas.List.{length-replicate, length-set, take-append-drop, take_more_set, drop-set-lt, append_assoc}
use Rattle.ir.specs.Instructions.{Instr}
use Rattle.program.specs.Programs.{Program, at, size}
use Rattle.program.specs.Proper.{Proper}
use Rattle.program.proofs.Accepting.{busy_inside}
use Rattle.program.proofs.Orders.{few_placed}
use Rattle.runs.specs.Runs.{out?, count_outs, outs, outputs, run_from}
use Rattle.runs.specs.Answers.{zeros, in_words}
use Rattle.runs.specs.Scratch.{run_words, put_pairs}
use Rattle.runs.proofs.Words.{run_law}
use Rattle.runs.proofs.Tests.{zero_word}

-- the outs are those that pass the test
one_more : (b : Bool) (x : Instr) (xs : List Instr) → cond b 1 0 + length xs ≡ length (cond b (x ∷ xs) xs)
one_more true x xs = omega arith
one_more false x xs = omega arith

pub passing_outs : (of : ℕ → Instr) (ns : List ℕ) → length (filter (λ i. out? i.op) (map of ns)) ≡ count_outs of ns
passing_outs of [] = refl
passing_outs of (n ∷ ns) =
    sym (one_more (out? (of n).op) (of n) (filter (λ i. out? i.op) (map of ns))) ∙ ap (λ k. cond (out? (of n).op) 1 0 + k) (passing_outs of ns)

one_or_none : (b : Bool) → cond b 1 0 ≤ 1
one_or_none true = omega arith
one_or_none false = omega arith

count_bound : (of : ℕ → Instr) (ns : List ℕ) → count_outs of ns ≤ length ns
count_bound of [] = omega arith
count_bound of (n ∷ ns) = let a = one_or_none (out? (of n).op) in let b = count_bound of ns in omega arith

pub few_outs : (p : Program) → Proper p → outs p ≤ 1024
few_outs p t = let a = count_bound (at p) p.order in let b = few_placed p t in let c = t.few in omega arith

-- over zero words the run is the program's
pub run_whole :
    (p : Program) → Proper p → (w words : List ℕ) (m : ℕ) → size p ≤ m → words ≡ zeros m
    → run_words (at p) w words p.order ≡ outputs p w
run_whole p t w words m h z =
    ap (λ l. run_words (at p) w l p.order) z
    ∙ run_law (at p) w (zeros m) p.order (λ k i. let l = busy_inside p k (t.placed k i) in let e : length (zeros m) ≡ m = length-replicate m 0 in omega arith)
    ∙ ap (λ v. run_from (at p) w v p.order) (fun_ext (zero_word m))

-- ---- the words written

pub in_words_length : (ys : List (ℕ × ℕ)) → length (in_words ys) ≡ 2 * length ys
in_words_length [] = refl
in_words_length (y ∷ ys) = let e = in_words_length ys in omega arith

-- one pair more
module _ (out : List ℕ) (k : ℕ) (x y : ℕ) (room : 2 * k + 1 < length out) where
  abbrev once : List ℕ
  once = set out (2 * k) x

  pair_front : take (2 * (k + 1)) (set once (2 * k + 1) y) ≡ take (2 * k) out ++ (x ∷ (y ∷ []))
  pair_front =
      let e : 2 * (k + 1) ≡ 2 * k + 1 + 1 = omega arith in
      let h : 2 * k + 1 < length once = let l = length-set out (2 * k) x in omega arith in
      let f : 2 * k < length out = omega arith in
      ap (λ i. take i (set once (2 * k + 1) y)) e
      ∙ take_more_set once (2 * k + 1) y h
      ∙ ap (λ l. l ++ (y ∷ [])) (take_more_set out (2 * k) x f)
      ∙ append_assoc (take (2 * k) out) (x ∷ []) (y ∷ [])

  pair_back : (i : ℕ) → 2 * (k + 1) ≤ i → drop i (set once (2 * k + 1) y) ≡ drop i out
  pair_back i h = drop-set-lt i once (2 * k + 1) y (omega arith) ∙ drop-set-lt i out (2 * k) x (omega arith)

put_from :
    (ys : List (ℕ × ℕ)) (k : ℕ) (out : List ℕ) → 2 * (k + length ys) ≤ length out
    → put_pairs out k ys ≡ take (2 * k) out ++ (in_words ys ++ drop (2 * (k + length ys)) out)
put_from [] k out h =
    let e : 2 * (k + 0) ≡ 2 * k = omega arith in
    sym (ap (λ i. take (2 * k) out ++ drop i out) e ∙ take-append-drop (2 * k) out)
put_from (y ∷ ys) k out h =
    let x : ℕ = y.0 in
    let z : ℕ = y.1 in
    let next : List ℕ = set (set out (2 * k) x) (2 * k + 1) z in
    let long : length next ≡ length out = length-set (set out (2 * k) x) (2 * k + 1) z ∙ length-set out (2 * k) x in
    let e : 2 * (k + 1 + length ys) ≡ 2 * (k + suc (length ys)) = omega arith in
    let room : 2 * k + 1 < length out = omega arith in
    put_from ys (k + 1) next (omega arith)
    ∙ ap (λ l. l ++ (in_words ys ++ drop (2 * (k + 1 + length ys)) next)) (pair_front out k x z room)
    ∙ ap (λ l. (take (2 * k) out ++ (x ∷ (z ∷ []))) ++ (in_words ys ++ l)) (pair_back out k x z room (2 * (k + 1 + length ys)) (omega arith))
    ∙ ap (λ i. (take (2 * k) out ++ (x ∷ (z ∷ []))) ++ (in_words ys ++ drop i out)) e
    ∙ append_assoc (take (2 * k) out) (x ∷ (z ∷ [])) (in_words ys ++ drop (2 * (k + suc (length ys))) out)

-- pairs written from the start, and the words behind them
pub put_whole : (ys : List (ℕ × ℕ)) (out : List ℕ) → 2 * length ys ≤ length out → put_pairs out 0 ys ≡ in_words ys ++ drop (length (in_words ys)) out
put_whole ys out h =
    let e : 2 * (0 + length ys) ≡ length (in_words ys) = let l = in_words_length ys in omega arith in
    put_from ys 0 out (omega arith) ∙ ap (λ i. in_words ys ++ drop i out) e

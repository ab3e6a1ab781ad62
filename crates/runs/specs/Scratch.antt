-- Runs, prices and the test for well-formedness over a list of scratch words, one for each number.
use Rattle.std.specs.Prelude.{ℕ, ◌+◌, ◌*◌, Bool, true, cond, not, ◌&&◌, ◌||◌, List, [], ◌∷◌, ◌++◌, Some, None, Option, ◌==◌, slice_index, slice_set}
use Rattle.ir.specs.Instructions.{Instr}
use Rattle.program.specs.Programs.{takes}
use Rattle.runs.specs.Runs.{sent, value}
use Rattle.runs.specs.Prices.{Costing, stamp_of}

-- the scratch word of a number
abbrev pub word_at : List ℕ → ℕ → ℕ
word_at words n = slice_index words n

-- what is read of an operand: 0 for an absent one
abbrev pub word_in : List ℕ → Option ℕ → ℕ
word_in words None = 0
word_in words (Some n) = word_at words n

abbrev pub run_words : (ℕ → Instr) → List ℕ → List ℕ → List ℕ → List (ℕ × ℕ)
run_words of inputs words [] = []
run_words of inputs words (n ∷ ns) =
    sent (of n) (value (of n) (word_at words) inputs) ++ run_words of inputs (slice_set words n (value (of n) (word_at words) inputs)) ns

abbrev pub price_words : Costing → (ℕ → Instr) → ℕ → List ℕ → List ℕ → ℕ
price_words c of total words [] = total
price_words c of total words (n ∷ ns) =
    price_words c of (c.total total (stamp_of c (of n) (word_at words))) (slice_set words n (stamp_of c (of n) (word_at words))) ns

-- the words once each instruction's stamp is in its word
abbrev pub stamps_left : Costing → (ℕ → Instr) → List ℕ → List ℕ → List ℕ
stamps_left c of words [] = words
stamps_left c of words (n ∷ ns) = stamps_left c of (slice_set words n (stamp_of c (of n) (word_at words))) ns

-- the operand is absent, or its word is a mark
abbrev pub marked? : List ℕ → Bool → ℕ → Bool
marked? words present n = not present || not (word_at words n == 0)

-- the same of an operand where there is one
abbrev pub mark_in : List ℕ → Option ℕ → Bool
mark_in words None = true
mark_in words (Some n) = not (word_at words n == 0)

abbrev pub reads_marked : List ℕ → Instr → Bool
reads_marked words i =
    marked? words (takes 0 i.op) i.a && (marked? words (takes 1 i.op) i.b && marked? words (takes 2 i.op) i.c)

-- the first that reads one without a mark; each that passes is marked
abbrev pub broken_words : (ℕ → Instr) → List ℕ → List ℕ → Option ℕ
broken_words of words [] = None
broken_words of words (n ∷ ns) = cond (reads_marked words (of n)) (broken_words of (slice_set words n 1) ns) (Some n)

-- pairs written over a list of words, two words each, from the k-th pair on
abbrev pub put_pairs : List ℕ → ℕ → List (ℕ × ℕ) → List ℕ
put_pairs out k [] = out
put_pairs out k (y ∷ ys) = put_pairs (slice_set (slice_set out (2 * k) y.0) (2 * k + 1) y.1) (k + 1) ys

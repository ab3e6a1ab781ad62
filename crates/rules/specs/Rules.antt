-- The six rules that rewrite a program at a number, and the changes that they make.
use Rattle.std.specs.Prelude.{◌≡◌, ℕ, zero, suc, ◌+◌, ◌^◌, ◌<◌, Bool, true, cond, not, ◌&&◌, ◌||◌, List, [], ◌∷◌, ◌++◌, length, Some, None, ◌==◌}
use Rattle.std.specs.List.{remove, AllByRecursion}
use Rattle.ir.specs.declared.operation.Op.{Op}
use Rattle.ir.specs.declared.operation.Op.TheVariants.{Constant, Input, Add, Subtract, Multiply, And, Or, Xor, Less, Equal, Pick, Shift, Out}
use Rattle.ir.specs.Instructions.{Instr, constant_of}
use Rattle.ir.specs.Values.{word}
use Rattle.program.specs.Programs.{Program, at, takes, index_of}
use Rattle.program.specs.Uses.{uses, unused}
use Rattle.program.specs.Commands.{put, reorder}
use Rattle.edits.specs.Commands.{Edit, unlink, unmake, rewrite, after}
use Rattle.edits.specs.Replace.{replace, swap}
use Rattle.runs.specs.Runs.{out?, value}

-- sixteen words
abbrev pub Inputs : List ℕ → Type 0
Inputs inputs = (length inputs ≡ 16) × AllByRecursion (λ x. x < word) inputs

-- ---- changes

-- what a rule does at a number: nothing; take it out of the program; put another in its place at every use and then take it out; or give it another record
pub data Change : Type 0 where
  nothing vanish : Change
  drop_for : ℕ → Change
  become : Instr → Change

-- the number leaves the order and is free
abbrev pub take_out : Program → ℕ → Program
take_out p n = put (reorder p (remove p.order (index_of n p.order))) n None

-- the program after a change at n
abbrev pub apply : Program → ℕ → Change → Program
apply p n nothing = p
apply p n vanish = take_out p n
apply p n (drop_for y) = take_out (replace n y p) n
apply p n (become i) = put p n (Some i)

-- the rewrites that put y at each of a list of uses, one after another
abbrev pub rewrites : Program → ℕ → List (ℕ × ℕ) → List Edit
rewrites p y [] = []
rewrites p y (u ∷ us) = swap p y u ∷ rewrites (after p (swap p y u)) y us

-- the store's edits that make a change at n
abbrev pub commands : Program → ℕ → Change → List Edit
commands p n nothing = []
commands p n vanish = unlink n ∷ (unmake n ∷ [])
commands p n (drop_for y) = rewrites p y (uses p n) ++ (unlink n ∷ (unmake n ∷ []))
commands p n (become i) = rewrite n i ∷ []

-- how many journal records a change costs
abbrev pub cost : Program → ℕ → Change → ℕ
cost p n nothing = 0
cost p n vanish = 2
cost p n (drop_for y) = length (uses p n) + 2
cost p n (become i) = 1

-- ---- tests

-- a number for each operation
abbrev pub code_of : Op → ℕ
code_of Constant = 0
code_of Input = 1
code_of Add = 2
code_of Subtract = 3
code_of Multiply = 4
code_of And = 5
code_of Or = 6
code_of Xor = 7
code_of Less = 8
code_of Equal = 9
code_of Pick = 10
code_of Shift = 11
code_of Out = 12

-- two records are equal
abbrev pub same_rec : Instr → Instr → Bool
same_rec i j =
    (code_of i.op == code_of j.op) && i.literal == j.literal && i.a == j.a && i.b == j.b && i.c == j.c

-- the operation is the constant
abbrev pub constant? : Op → Bool
constant? op = code_of op == 0

-- the number m is the constant x
abbrev pub is : Program → ℕ → ℕ → Bool
is p m x = constant? (at p m).op && (at p m).literal == x

-- the operand is absent or a constant
abbrev pub known : Program → Bool → ℕ → Bool
known p present m = cond present (constant? (at p m).op) true

-- the instruction has operands, all of them constants, and is not an out
abbrev pub all_known : Program → Instr → Bool
all_known p i =
    takes 0 i.op && not (out? i.op) && known p (takes 0 i.op) i.a && known p (takes 1 i.op) i.b
    && known p (takes 2 i.op) i.c

-- ---- the six rules

-- 1: what is no out and has no uses goes
abbrev pub dead : Program → ℕ → Change
dead p n = cond (not (out? (at p n).op) && unused (uses p n)) vanish nothing

-- 2: an operation on constants becomes the constant of its value
abbrev pub fold : Program → ℕ → Change
fold p n = cond (all_known p (at p n)) (become (constant_of (value (at p n) (λ m. (at p m).literal) []))) nothing

-- the other operand, where one of two is the constant x; b is looked at first
abbrev pub neutral : Program → ℕ → ℕ → ℕ → Change
neutral p x a b = cond (is p b x) (drop_for a) (cond (is p a x) (drop_for b) nothing)

-- 3, by operation: what has the value of an operand gives way to it
abbrev pub same_by : Program → Instr → Op → Change
same_by p i Add = neutral p 0 i.a i.b
same_by p i Subtract = cond (is p i.b 0) (drop_for i.a) nothing
same_by p i Multiply = neutral p 1 i.a i.b
same_by p i Or = neutral p 0 i.a i.b
same_by p i Xor = neutral p 0 i.a i.b
same_by p i Pick = cond (constant? (at p i.a).op) (drop_for (cond ((at p i.a).literal == 0) i.c i.b)) nothing
same_by p i Shift = cond (i.literal == 0) (drop_for i.a) nothing
same_by p i op = nothing

-- the constant 0 where a test holds
abbrev pub zero_if : Bool → Change
zero_if t = cond t (become (constant_of 0)) nothing

-- 4, by operation: what is always 0 becomes the constant 0
abbrev pub fixed_by : Program → Instr → Op → Change
fixed_by p i Subtract = zero_if (i.a == i.b)
fixed_by p i Multiply = zero_if (is p i.b 0 || is p i.a 0)
fixed_by p i And = zero_if (is p i.b 0 || is p i.a 0)
fixed_by p i Xor = zero_if (i.a == i.b)
fixed_by p i op = nothing

-- the first number before n in a list that has the record of n
abbrev pub twin_in : Program → ℕ → List ℕ → Change
twin_in p n [] = nothing
twin_in p n (m ∷ ms) = cond (m == n) nothing (cond (same_rec (at p m) (at p n)) (drop_for m) (twin_in p n ms))

-- 5: what is no out gives way to the first instruction before it with an equal record
abbrev pub twin : Program → ℕ → Change
twin p n = cond (out? (at p n).op) nothing (twin_in p n p.order)

-- the k from 1 to a limit with 2 ^ k equal to x, and 0 if there is none
abbrev pub log_to : ℕ → ℕ → ℕ
log_to x zero = 0
log_to x (suc k) = cond (x == 2 ^ (suc k)) (suc k) (log_to x k)

-- the k from 1 to 31 where the number m is the constant 2 ^ k, and else 0
abbrev pub log : Program → ℕ → ℕ
log p m = cond (constant? (at p m).op) (log_to (at p m).literal 31) 0

-- a shift of a by k
abbrev pub shift_of : ℕ → ℕ → Instr
shift_of a k = record { op = Shift; literal = k; a = a; b = 0; c = 0 }

-- a shift by the power that b is, else by the power that a is
abbrev pub shift_by : ℕ → ℕ → ℕ → ℕ → Change
shift_by a b zero zero = nothing
shift_by a b zero (suc k) = become (shift_of b (suc k))
shift_by a b (suc k) j = become (shift_of a (suc k))

-- 6, by operation: a product with a power of 2 becomes a shift
abbrev pub power_by : Program → Instr → Op → Change
power_by p i Multiply = shift_by i.a i.b (log p i.b) (log p i.a)
power_by p i op = nothing

-- a rule by operation, at a number
abbrev pub by_op : (Program → Instr → Op → Change) → Program → ℕ → Change
by_op rule p n = rule p (at p n) (at p n).op

-- the rules in the order in which they are tried, each with its number
unfoldable pub rules : Program → ℕ → List (ℕ × Change)
rules p n =
    (1, dead p n) ∷ ((2, fold p n) ∷ ((3, by_op same_by p n) ∷ ((4, by_op fixed_by p n) ∷ ((5, twin p n) ∷ ((6, by_op power_by p n) ∷ [])))))

-- The readings. None of them changes the program.
use Rattle.std.specs.Prelude.{ℕ, zero, suc, ◌+◌, cond, List, length, Some, None, Ok, Err, Option, Result}
use Rattle.std.specs.List.{slice_get}
use Rattle.ir.specs.Instructions.{Instr}
use Rattle.program.specs.declared.fault.StoreFault.{StoreFault}
use Rattle.program.specs.declared.state.State.{State}
use Rattle.program.specs.Programs.{Program, within, state_of, at, index_of}
use Rattle.program.specs.Uses.{uses, least_beyond}
use Rattle.program.specs.Faults.{range_fault, placed_fault, busy_fault}

-- the fault if there is one, else the value read
abbrev pub answered : {A : Type 0} → Option StoreFault → A → Result A StoreFault
answered None x = Ok x
answered (Some f) x = Err f

-- the state of a number, where the program has it
abbrev pub found : Program → ℕ → Option State
found p n = cond (within p n) (Some (state_of p n)) None

abbrev pub state_answer : Program → ℕ → Result State StoreFault
state_answer p n = answered (range_fault p n) (state_of p n)

abbrev pub read_answer : Program → ℕ → Result Instr StoreFault
read_answer p n = answered (busy_fault p n) (at p n)

-- the number before a place of the order
abbrev pub prior : List ℕ → ℕ → Option ℕ
prior ns zero = None
prior ns (suc k) = slice_get ns k

abbrev pub first_of : Program → Option ℕ
first_of p = slice_get p.order 0

abbrev pub last_of : Program → Option ℕ
last_of p = prior p.order (length p.order)

abbrev pub next_of : Program → ℕ → Option ℕ
next_of p n = slice_get p.order (index_of n p.order + 1)

abbrev pub previous_of : Program → ℕ → Option ℕ
previous_of p n = prior p.order (index_of n p.order)

abbrev pub next_answer : Program → ℕ → Result (Option ℕ) StoreFault
next_answer p n = answered (placed_fault p n) (next_of p n)

abbrev pub previous_answer : Program → ℕ → Result (Option ℕ) StoreFault
previous_answer p n = answered (placed_fault p n) (previous_of p n)

-- how many uses the number has
abbrev pub count_answer : Program → ℕ → Result ℕ StoreFault
count_answer p n = answered (busy_fault p n) (length (uses p n))

-- the least use of the number that is greater than a given pair, or the least of all
abbrev pub use_answer : Program → ℕ → Option (ℕ × ℕ) → Result (Option (ℕ × ℕ)) StoreFault
use_answer p n after = answered (busy_fault p n) (least_beyond after (uses p n))

-- When a store refuses: the faults of its commands and readings, each the first that applies.
use Rattle.std.specs.Prelude.{ℕ, Bool, true, false, not, ◌&&◌, List, [], ◌∷◌, Some, None, Option, ◌==◌}
use Rattle.std.specs.Option.{option_or}
use Rattle.ir.specs.declared.fault.Layer.{Layer}
use Rattle.ir.specs.declared.fault.Report.{Report}
use Rattle.ir.specs.Instructions.{Instr}
use Rattle.program.specs.declared.fault.StoreFault.{StoreFault}
use Rattle.program.specs.declared.fault.StoreFault.TheVariants.{OutOfRange, WrongState, BadOperand, StillUsed, BadAnchor}
use Rattle.program.specs.Programs.{Program, within, state_of, is_free, is_loose, is_placed, operands}
use Rattle.program.specs.Uses.{uses, unused}

-- number, layer S, and the number of the program that is at fault
abbrev pub store_report : StoreFault → Report
store_report (OutOfRange n) = record { number = 4; layer = Layer.Store; place = n }
store_report (WrongState n) = record { number = 6; layer = Layer.Store; place = n }
store_report (BadOperand n) = record { number = 7; layer = Layer.Store; place = n }
store_report (StillUsed n) = record { number = 8; layer = Layer.Store; place = n }
store_report (BadAnchor n) = record { number = 9; layer = Layer.Store; place = n }

-- ---- one check

abbrev pub unless : Bool → StoreFault → Option StoreFault
unless true f = None
unless false f = Some f

abbrev pub when : Bool → Option StoreFault → Option StoreFault
when true o = o
when false o = None

-- the first fault that a check finds along a list
abbrev pub first_fault : (ℕ → Option StoreFault) → List ℕ → Option StoreFault
first_fault f [] = None
first_fault f (x ∷ xs) = option_or (f x) (first_fault f xs)

-- the fault of a number, where there is a number
abbrev pub slot_fault : (ℕ → Option StoreFault) → Option ℕ → Option StoreFault
slot_fault f None = None
slot_fault f (Some x) = f x

-- 4: the number is the size or more
abbrev pub range_fault : Program → ℕ → Option StoreFault
range_fault p n = unless (within p n) (OutOfRange n)

-- 7: the operand is free, or the instruction itself
abbrev pub operand_fault : Program → ℕ → ℕ → Option StoreFault
operand_fault p n x = unless (not (is_free (state_of p x)) && not (x == n)) (BadOperand x)

-- 4 at the number, then at its operands
abbrev pub ranges_fault : Program → ℕ → Instr → Option StoreFault
ranges_fault p n i = option_or (range_fault p n) (first_fault (range_fault p) (operands i))

-- ---- commands: 4, 6, 7, 8, 9 in this order

-- the number is free, and its operands are other numbers that are not
abbrev pub make_fault : Program → ℕ → Instr → Option StoreFault
make_fault p n i =
    option_or (ranges_fault p n i)
    (option_or (unless (is_free (state_of p n)) (WrongState n)) (first_fault (operand_fault p n) (operands i)))

-- the number is not free, nor are its operands, which are other numbers
abbrev pub rewrite_fault : Program → ℕ → Instr → Option StoreFault
rewrite_fault p n i =
    option_or (ranges_fault p n i)
    (option_or (unless (not (is_free (state_of p n))) (WrongState n)) (first_fault (operand_fault p n) (operands i)))

-- no anchor stands for the end
abbrev pub anchor_range : Program → Option ℕ → Option StoreFault
anchor_range p = slot_fault (range_fault p)

abbrev pub anchor_fault : Program → Option ℕ → Option StoreFault
anchor_fault p None = None
anchor_fault p (Some a) = unless (is_placed (state_of p a)) (BadAnchor a)

-- the number is loose and the anchor placed
abbrev pub link_fault : Program → ℕ → Option ℕ → Option StoreFault
link_fault p n anchor =
    option_or (range_fault p n)
    (option_or (anchor_range p anchor) (option_or (unless (is_loose (state_of p n)) (WrongState n)) (anchor_fault p anchor)))

-- the number is placed
abbrev pub placed_fault : Program → ℕ → Option StoreFault
placed_fault p n = option_or (range_fault p n) (unless (is_placed (state_of p n)) (WrongState n))

-- the number is loose, and nothing reads it
abbrev pub unmake_fault : Program → ℕ → Option StoreFault
unmake_fault p n =
    option_or (range_fault p n)
    (option_or (unless (is_loose (state_of p n)) (WrongState n)) (unless (unused (uses p n)) (StillUsed n)))

-- the number is not free
abbrev pub busy_fault : Program → ℕ → Option StoreFault
busy_fault p n = option_or (range_fault p n) (unless (not (is_free (state_of p n))) (WrongState n))

-- The five commands. A refused one leaves the program as it was.
use Rattle.std.specs.Prelude.{ℕ, List, length, Some, None, Ok, Err, Option, Result, slice_set}
use Rattle.std.specs.List.{insert, remove}
use Rattle.ir.specs.Instructions.{Instr}
use Rattle.program.specs.declared.fault.StoreFault.{StoreFault}
use Rattle.program.specs.Programs.{Program, Cell, index_of}
use Rattle.program.specs.Faults.{make_fault, rewrite_fault, link_fault, placed_fault, unmake_fault}

-- what a command answers
abbrev pub verdict : Option StoreFault → Result (Unit {0}) StoreFault
verdict None = Ok tt
verdict (Some f) = Err f

-- the new program if there is no fault, else the old one
abbrev pub settled : Option StoreFault → Program → Program → Program
settled None new old = new
settled (Some f) new old = old

abbrev pub put : Program → ℕ → Cell → Program
put p n c = record { cells = slice_set p.cells n c; order = p.order }

abbrev pub reorder : Program → List ℕ → Program
reorder p order = record { cells = p.cells; order = order }

-- make: the number gets the instruction, and is loose
abbrev pub after_make : Program → ℕ → Instr → Program
after_make p n i = settled (make_fault p n i) (put p n (Some i)) p

-- where a link puts a number: at its anchor's place, or at the end
abbrev pub anchor_place : Program → Option ℕ → ℕ
anchor_place p None = length p.order
anchor_place p (Some a) = index_of a p.order

-- link: the number stands right before the anchor
abbrev pub after_link : Program → ℕ → Option ℕ → Program
after_link p n anchor = settled (link_fault p n anchor) (reorder p (insert p.order (anchor_place p anchor) n)) p

-- unlink: the number leaves the order, and is loose
abbrev pub after_unlink : Program → ℕ → Program
after_unlink p n = settled (placed_fault p n) (reorder p (remove p.order (index_of n p.order))) p

-- unmake: the number is free
abbrev pub after_unmake : Program → ℕ → Program
after_unmake p n = settled (unmake_fault p n) (put p n None) p

-- rewrite: the number gets another instruction, and keeps its state and place
abbrev pub after_rewrite : Program → ℕ → Instr → Program
after_rewrite p n i = settled (rewrite_fault p n i) (put p n (Some i)) p

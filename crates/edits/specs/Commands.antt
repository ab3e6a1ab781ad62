-- The store's five commands as values, and the command that takes each back.
use Rattle.std.specs.Prelude.{◌≡◌, ℕ, None, Option}
use Rattle.ir.specs.Instructions.{Instr, Shapely, plain}
use Rattle.program.specs.declared.fault.StoreFault.{StoreFault}
use Rattle.program.specs.Programs.{Program, at}
use Rattle.program.specs.Faults.{make_fault, link_fault, placed_fault, unmake_fault, rewrite_fault}
use Rattle.program.specs.Commands.{after_make, after_link, after_unlink, after_unmake, after_rewrite}
use Rattle.program.specs.Readings.{next_of}
use Rattle.program.specs.Proper.{Proper}
use Rattle.edits.specs.declared.command.Command.{Command}
use Rattle.edits.specs.declared.command.Command.TheVariants.{Make, Link, Unlink, Unmake, Rewrite}

pub data Edit : Type 0 where
  make : ℕ → Instr → Edit
  link : ℕ → Option ℕ → Edit
  unlink : ℕ → Edit
  unmake : ℕ → Edit
  rewrite : ℕ → Instr → Edit

-- what a command of the code says
abbrev pub edit_of : Command → Edit
edit_of (Make n what) = make n (plain what)
edit_of (Link n anchor) = link n anchor
edit_of (Unlink n) = unlink n
edit_of (Unmake n) = unmake n
edit_of (Rewrite n what) = rewrite n (plain what)

abbrev pub fault_of : Program → Edit → Option StoreFault
fault_of p (make n i) = make_fault p n i
fault_of p (link n anchor) = link_fault p n anchor
fault_of p (unlink n) = placed_fault p n
fault_of p (unmake n) = unmake_fault p n
fault_of p (rewrite n i) = rewrite_fault p n i

-- the program after an edit, accepted or refused
abbrev pub after : Program → Edit → Program
after p (make n i) = after_make p n i
after p (link n anchor) = after_link p n anchor
after p (unlink n) = after_unlink p n
after p (unmake n) = after_unmake p n
after p (rewrite n i) = after_rewrite p n i

-- what takes an edit back, told from the program before it: a detached number goes back before the one that stood behind it, an erased or rewritten one gets its old record
abbrev pub opposite : Program → Edit → Edit
opposite p (make n i) = unmake n
opposite p (link n anchor) = unlink n
opposite p (unlink n) = link n (next_of p n)
opposite p (unmake n) = make n (at p n)
opposite p (rewrite n i) = rewrite n (at p n)

-- its record, if it has one, keeps its operation's shape
abbrev pub Fair : Edit → Type 0
Fair (make n i) = Shapely i
Fair (link n anchor) = Unit {0}
Fair (unlink n) = Unit {0}
Fair (unmake n) = Unit {0}
Fair (rewrite n i) = Shapely i

-- an accepted edit is followed by its opposite, which is accepted and brings the program back
pub record Undone (p : Program) (e : Edit) : Type 0 where
  pub fair : Fair (opposite p e)
  pub accepted : fault_of (after p e) (opposite p e) ≡ None
  pub back : after (after p e) (opposite p e) ≡ p

abbrev pub EditsUndone : Type 0
EditsUndone = (p : Program) (e : Edit) → Proper p → Fair e → fault_of p e ≡ None → Undone p e

abbrev pub EditsKeepProper : Type 0
EditsKeepProper = (p : Program) (e : Edit) → Proper p → Fair e → Proper (after p e)

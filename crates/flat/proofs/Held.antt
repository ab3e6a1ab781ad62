-- What the type of a flat store says of its cells, and what its ghost fields ask of the cells after a command.
use Rattle.std.proofs.Common.{◌≡◌, ℕ, ◌≤◌, List, length, replicate, sym, subst}
use Rattle.program.specs.Programs.{Program, new_program}
use Rattle.program.specs.Proper.{Proper, Tied}
use Rattle.program.specs.Laws.{Kept}
use Rattle.program.proofs.Keeping.{commands_keep_proper, tied_test, new_is_proper}
use Rattle.flat.specs.declared.cells.FlatCell.{FlatCell}
use Rattle.flat.specs.declared.cells.FlatCell.TheVariants.{Vacant}
use Rattle.flat.specs.declared.flat.Flat.{Flat}
use Rattle.flat.specs.FlatModel.{Filled, Low, Apart, Sound, flat_program}
use Rattle.flat.specs.Keeping.{proper_flat}
use Rattle.flat.proofs.Fresh.{sound_fresh, program_fresh}

-- what the type keeps of its fields
abbrev Fields : List FlatCell → Type 0
Fields xs = record { few : length xs ≤ 1024; filled : Filled xs; low : Low xs; apart : Apart xs; tied : Tied (flat_program xs) }

pub fields : (xs : List FlatCell) → Sound xs → (p : Program) → flat_program xs ≡ p → Proper p → Fields xs
fields xs s p e t = record { few = s.few; filled = s.filled; low = s.low; apart = s.apart; tied = tied_test (flat_program xs) (subst Proper (sym e) t) }

-- of a new store
pub fresh_fields : (ys : List FlatCell) (m : ℕ) → m ≤ 1024 → ys ≡ replicate m Vacant → Fields ys
fresh_fields ys m h e = subst Fields (sym e) (fields (replicate m Vacant) (sound_fresh m h) (new_program m) (program_fresh m) (new_is_proper m h))

pub sound : (f : Flat) → Sound f.cells.now
sound f = record { few = f.few; filled = f.filled; low = f.low; apart = f.apart }

-- each command leaves a proper program
pub kept : (f : Flat) → Kept (flat_program f.cells.now)
kept f = commands_keep_proper (flat_program f.cells.now) (proper_flat f.cells.now f.few f.filled f.tied)

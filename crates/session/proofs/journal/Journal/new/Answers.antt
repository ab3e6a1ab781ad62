use Rattle.std.proofs.Common.{refl, ap, arith}
use Rattle.session.specs.Trail.{marked?}
use Rattle.session.proofs.Stacks.{stack_none}
use Rattle.session.proofs.Rows.{none_noted}
use Rattle.session.proofs.journal.Journal.new.Goals as goal

pub invariant_of-result : goal.invariant_of-result
invariant_of-result c = record { sized = refl; few = omega arith; wide = refl; shallow = omega arith; marked = ap (marked? 0) (stack_none _) }

pub returns : goal.returns
returns c = record { records = none_noted _; saves = stack_none _ }

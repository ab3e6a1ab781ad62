use Rattle.std.proofs.Common.{length}
use Rattle.history.proofs.Fronts.{Sofar}
use Rattle.history.proofs.survivors.survivors.Given as goal

abbrev pub invariant-loop-call : goal.invariant-loop-call
invariant-loop-call l = Sofar l.calls l.replies l.initial.kept (length l.yielded) l.kept l.pile

use Rattle.history.specs.Entering.{Made}
use Rattle.history.proofs.answer_all.Given as goal

abbrev pub invariant-loop-i : goal.invariant-loop-i
invariant-loop-i g l = Made g.S.Store.program l.i l.calls l.initial.session l.session l.initial.replies l.replies

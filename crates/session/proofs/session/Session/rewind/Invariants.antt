use Rattle.std.proofs.Common.{◌≡◌, length}
use Rattle.session.specs.Trail.{undone, lowered}
use Rattle.session.specs.Meaning.{trail, marks}
use Rattle.session.proofs.session.Session.rewind.Given as goal

abbrev pub invariant-loop-record : goal.invariant-loop-record
invariant-loop-record g l =
    let p = g.S.Store.program in
    let ms = marks l.initial.self.journal in
    (marks l.self.journal ≡ ms)
    × (undone ms (trail l.self.journal) (p l.self.store) ≡ undone ms (trail l.initial.self.journal) (p l.initial.self.store))
    × (lowered ms (trail l.self.journal) ≡ lowered ms (trail l.initial.self.journal))

abbrev pub decreases-loop-record : goal.decreases-loop-record
decreases-loop-record g l = length (trail l.self.journal)

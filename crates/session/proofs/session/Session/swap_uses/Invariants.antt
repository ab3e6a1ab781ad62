use Rattle.std.proofs.Common.{◌≡◌, length}
use Rattle.program.specs.Uses.{uses}
use Rattle.session.specs.Sweeping.{Ready, swept}
use Rattle.session.specs.Meaning.{meaning}
use Rattle.session.proofs.session.Session.swap_uses.Given as goal

abbrev pub invariant-loop-user : goal.invariant-loop-user
invariant-loop-user g l =
    let p = g.S.Store.program in
    Ready l.n l.m (meaning p l.self) × (swept l.n l.m (meaning p l.self) ≡ swept l.n l.m (meaning p l.initial.self))

abbrev pub decreases-loop-user : goal.decreases-loop-user
decreases-loop-user g l = length (uses (g.S.Store.program l.self.store) l.n)

use Rattle.std.proofs.Common.{arith}
use Rattle.session.specs.Meaning.{trail, marks}
use Rattle.session.proofs.Rows.{trail_length, marks_length, no_mark}
use Rattle.session.proofs.Grants.{granted_none, granted_free, granted_some}
use Rattle.session.proofs.journal.Journal.check_room.Goals as goal
use Rattle.session.proofs.journal.Journal.check_room.Goals.{else-self-gt0-via-then-self-gt0+else-self-need, else-self-gt0-via-else-self-gt0}

pub returns-then-self-need : goal.returns-then-self-need
returns-then-self-need c =
    let j = c.args.self.now in
    let l = trail_length j in
    let d = marks_length j in
    granted_none (trail j) c.args.need (marks j) (λ z. omega (arith, c.if-self-gt0.true)) (omega (arith, c.if-self-need.true))

pub returns : goal.returns
returns c =
    let j = c.args.self.now in
    let l = trail_length j in
    elim c.else-self-gt0.branch [
      | else-self-gt0-via-then-self-gt0+else-self-need w ↦ granted_some (trail j) c.args.need (marks j) (omega (arith, w.if-self-need.false))
      | else-self-gt0-via-else-self-gt0 w ↦ granted_free (trail j) c.args.need (marks j) (no_mark j (omega (arith, w.if-self-gt0.false)))
    ]

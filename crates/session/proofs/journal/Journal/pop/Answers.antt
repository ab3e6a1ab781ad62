use Rattle.std.proofs.Common.{refl}
use Rattle.session.specs.Stack.{rest}
use Rattle.session.specs.Meaning.{trail, marks}
use Rattle.session.proofs.Stacks.{top_cons}
use Rattle.session.proofs.Rows.{trail_length, pop_trail, pop_high, stays_low, stays_high}
use Rattle.session.proofs.journal.Journal.pop.Goals as goal

pub returns-then-self-mark-clause-records : goal.returns-then-self-mark-clause-records
returns-then-self-mark-clause-records c =
    let j = c.args.self.now in
    let m = c.in_ok-mark.mark in
    (refl, stays_low (marks j) (trail j) m j.len (top_cons (marks j) m c.in_ok-mark.ensures) (trail_length j) c.if-self-mark.true)

pub returns-clause-records : goal.returns-clause-records
returns-clause-records c =
    let j = c.args.self.now in
    let m = c.in_ok-mark.mark in
    let is = top_cons (marks j) m c.in_ok-mark.ensures in (
      pop_trail j m (rest (marks j)) is c.if-self-mark.false c.index-self-self.result,
      stays_high (marks j) _ m is (pop_high j m (rest (marks j)) is c.if-self-mark.false),
    )

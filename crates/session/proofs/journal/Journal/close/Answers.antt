use Rattle.session.proofs.Rows.{close_marks, last_fields, last_trail, close_fields, close_trail}
use Rattle.session.proofs.journal.Journal.close.Goals as goal

pub invariant_of-self : goal.invariant_of-self
invariant_of-self c = last_fields c.args.self.now c.saturating_sub-self.result c.saturating_sub-self.ensures c.if-self-eq0.true

pub returns-then-self-eq0 : goal.returns-then-self-eq0
returns-then-self-eq0 c =
    let j = c.args.self.now in
    let d = c.saturating_sub-self.result in
    let e = c.saturating_sub-self.ensures in
    record { saves = close_marks j d e; records = last_trail j d e c.if-self-eq0.true }

pub invariant_of-self-else-self-eq0 : goal.invariant_of-self-else-self-eq0
invariant_of-self-else-self-eq0 c = close_fields c.args.self.now c.saturating_sub-self.result c.saturating_sub-self.ensures c.if-self-eq0.false

pub returns-else-self-eq0 : goal.returns-else-self-eq0
returns-else-self-eq0 c =
    let j = c.args.self.now in
    let d = c.saturating_sub-self.result in
    let e = c.saturating_sub-self.ensures in
    record { saves = close_marks j d e; records = close_trail j d e c.if-self-eq0.false }

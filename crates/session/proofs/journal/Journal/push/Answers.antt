use Rattle.std.proofs.Common.{sym, ◌∙◌, arith}
use Rattle.edits.specs.Commands.{edit_of}
use Rattle.session.specs.Meaning.{trail, marks}
use Rattle.session.proofs.Rows.{trail_length, marks_length, no_mark, room_left, push_fields, push_trail}
use Rattle.session.proofs.Grants.{noted_free, noted_some}
use Rattle.session.proofs.journal.Journal.push.Goals as goal

pub returns-then-self-eq0-clause-records : goal.returns-then-self-eq0-clause-records
returns-then-self-eq0-clause-records c =
    let j = c.args.self.now in
    noted_free (edit_of c.args.back) (trail j) (marks j) (no_mark j c.if-self-eq0.true)

pub bounds-self-self : goal.bounds-self-self
bounds-self-self c = room_left c.args.self.now c.in_ok-check_room.field-0 c.if-self-eq0.false c.in_ok-check_room.ensures

pub listed : goal.listed
listed c =
    let j = c.args.self.now in
    let h = room_left j c.in_ok-check_room.field-0 c.if-self-eq0.false c.in_ok-check_room.ensures in
    omega arith

pub invariant_of-self : goal.invariant_of-self
invariant_of-self c = let j = c.args.self.now in push_fields j c.args.back c.if-self-eq0.false (room_left j c.in_ok-check_room.field-0 c.if-self-eq0.false c.in_ok-check_room.ensures)

pub returns-clause-records : goal.returns-clause-records
returns-clause-records c =
    let j = c.args.self.now in
    let l = trail_length j in
    let left = room_left j c.in_ok-check_room.field-0 c.if-self-eq0.false c.in_ok-check_room.ensures in
    push_trail j c.args.back left ∙ noted_some (edit_of c.args.back) (trail j) (marks j) (λ z. c.if-self-eq0.false (sym (marks_length j) ∙ z)) (omega arith)

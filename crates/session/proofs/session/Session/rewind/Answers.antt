use Rattle.std.proofs.Common.{sym, ap, ◌∙◌, subst}
use Rattle.edits.specs.Commands.{edit_of}
use Rattle.session.specs.Trail.{undone, lowered, High}
use Rattle.session.specs.Meaning.{trail, marks}
use Rattle.session.proofs.Trails.{undone_more, lowered_more}
use Rattle.session.proofs.session.Session.rewind.Goals as goal

pub loop-record-preserved : goal.loop-record-preserved
loop-record-preserved g c =
    let ms = marks c.args.self.now.journal in
    let p = g.S.Store.program c.loop-record.self.store in
    let e = edit_of c.in-Some.«record» in
    let t = trail c.pop.new.self in
    let popped = c.in-Some.ensures.records.0 in
    let high : High ms t = subst (λ l. High l t) c.loop-record.invariant.0 c.in-Some.ensures.records.1 in (
      c.pop.ensures.saves ∙ c.loop-record.invariant.0,
      ap (undone ms t) c.apply.ensures.after ∙ sym (undone_more p e t ms high) ∙ ap (λ x. undone ms x p) (sym popped) ∙ c.loop-record.invariant.1,
      sym (lowered_more e t ms high) ∙ ap (lowered ms) (sym popped) ∙ c.loop-record.invariant.2,
    )

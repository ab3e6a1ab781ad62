use Rattle.std.proofs.Common.{length, ap, ◌∙◌}
use Rattle.program.specs.Uses.{uses}
use Rattle.edits.specs.Replace.{replace_fault}
use Rattle.edits.proofs.Swaps.{replace_accepted}
use Rattle.session.specs.Trail.{granted}
use Rattle.session.specs.Meaning.{trail, marks}
use Rattle.session.proofs.Steps.{fine_from_ok, enough}
use Rattle.session.proofs.session.Session.replace.Goals as goal

pub swap_uses-requires : goal.swap_uses-requires
swap_uses-requires g c =
    let a = c.args.self.now in
    let p = g.S.Store.program a.store in
    let n = c.args.n in
    let t = trail a.journal in
    let ms = marks a.journal in
    record {
      can = (replace_accepted p n c.args.m).0 (fine_from_ok (replace_fault p n c.args.m) c.in_ok-check_replace.field-0 c.in_ok-check_replace.ensures);
      enough = enough p t (length (uses p n)) ms c.in_ok-check_room.field-0 (c.in_ok-check_room.ensures ∙ ap (granted ms t) c.use_count.ensures);
    }

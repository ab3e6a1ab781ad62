use Rattle.std.proofs.Common.{arith}
use Rattle.program.proofs.Accepting.{commands_accepted}
use Rattle.program.proofs.Faults.{allowed}
use Rattle.flat.specs.FlatModel.{flat_program}
use Rattle.flat.proofs.Held.{kept, fields}
use Rattle.flat.proofs.Linking.{anchor_bound, linked_after}
use Rattle.flat.proofs.flat.FlatStore.link.Goals as goal

pub link-requires-2-clause-loose : goal.link-requires-2-clause-loose
link-requires-2-clause-loose c =
    (((commands_accepted (flat_program c.args.self.now.cells.now)).link c.args.n c.args.anchor).0 (allowed _ _ c.in_ok-link.ensures)).loose

pub link-requires-2-clause-place : goal.link-requires-2-clause-place
link-requires-2-clause-place c = let b = anchor_bound (flat_program c.args.self.now.cells.now) c.args.anchor in omega arith

pub invariant_of-self : goal.invariant_of-self
invariant_of-self c =
    let e = c.link-2.ensures in
    let p = flat_program c.args.self.now.cells.now in
    let after = linked_after p c.args.n c.place_for-at.result c.args.anchor (flat_program c.link-2.new.cells) (allowed _ _ c.in_ok-link.ensures) c.place_for-at.ensures e.after in
    fields c.link-2.new.cells e.sound _ after ((kept c.args.self.now).by_link c.args.n c.args.anchor)

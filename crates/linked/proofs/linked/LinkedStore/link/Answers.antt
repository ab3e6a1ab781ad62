use Rattle.std.proofs.Common.{ap, ◌∙◌}
use Rattle.std.specs.Option.{unwrap_or}
use Rattle.program.proofs.Faults.{allowed}
use Rattle.linked.proofs.Held.{link_ready, link_leaves}
use Rattle.linked.proofs.linked.LinkedStore.link.Goals as goal

pub link_at-self-requires : goal.link_at-self-requires
link_at-self-requires c = link_ready c.args.self.now c.args.n c.args.anchor c.unwrap_or-t.result (c.unwrap_or-t.ensures ∙ ap (unwrap_or c.args.anchor) c.size.ensures) (allowed _ _ c.in_ok-link.ensures)

pub invariant_of-self : goal.invariant_of-self
invariant_of-self c =
    let w = c.link_at-self.ensures in
    (link_leaves c.args.self.now c.args.n c.args.anchor c.unwrap_or-t.result (c.unwrap_or-t.ensures ∙ ap (unwrap_or c.args.anchor) c.size.ensures) (allowed _ _ c.in_ok-link.ensures) c.link_at-self.new.cells c.link_at-self.result.next c.link_at-self.result.prev w.linked w.after w.threads).1

pub returns-clause-after : goal.returns-clause-after
returns-clause-after c =
    let w = c.link_at-self.ensures in
    (link_leaves c.args.self.now c.args.n c.args.anchor c.unwrap_or-t.result (c.unwrap_or-t.ensures ∙ ap (unwrap_or c.args.anchor) c.size.ensures) (allowed _ _ c.in_ok-link.ensures) c.link_at-self.new.cells c.link_at-self.result.next c.link_at-self.result.prev w.linked w.after w.threads).0

use Rattle.std.proofs.Common.{ap, ◌∙◌}
use Rattle.linked.specs.Making.{body_with}
use Rattle.program.proofs.Faults.{allowed, refused}
use Rattle.linked.proofs.Held.{put_ready, rewrite_may, rewrite_leaves}
use Rattle.linked.proofs.linked.LinkedStore.rewrite.Goals as goal

pub returns-in_err-rewrite-clause-after : goal.returns-in_err-rewrite-clause-after
returns-in_err-rewrite-clause-after c = refused _ _ _ _ c.in_err-rewrite.ensures

pub put-requires : goal.put-requires
put-requires c =
    let s = c.args.self.now in
    put_ready s c.args.n c.rewritten-body.result (rewrite_may s c.args.n c.args.what c.rewritten-body.result (c.rewritten-body.ensures ∙ ap (λ b. body_with b c.args.what) c.body.ensures) (allowed _ _ c.in_ok-rewrite.ensures))

pub invariant_of-self : goal.invariant_of-self
invariant_of-self c =
    let w = c.put.ensures in
    (rewrite_leaves c.args.self.now c.args.n c.args.what c.rewritten-body.result (c.rewritten-body.ensures ∙ ap (λ b. body_with b c.args.what) c.body.ensures) (allowed _ _ c.in_ok-rewrite.ensures) c.put.new.cells w.listed w.order w.bodies).1

pub returns-clause-after : goal.returns-clause-after
returns-clause-after c =
    let w = c.put.ensures in
    (rewrite_leaves c.args.self.now c.args.n c.args.what c.rewritten-body.result (c.rewritten-body.ensures ∙ ap (λ b. body_with b c.args.what) c.body.ensures) (allowed _ _ c.in_ok-rewrite.ensures) c.put.new.cells w.listed w.order w.bodies).0

use Rattle.std.proofs.Common.{◌≤◌, length, refl, sym, ◌∙◌, arith}
use Rattle.std.proofs.lemmas.List.{drop-set-lt}
use Rattle.history.proofs.Piles.{piled_work, piled_accept, piled_revert}
use Rattle.history.proofs.survivors.follow.Goals as goal

pub returns-in-Work : goal.returns-in-Work
returns-in-Work c =
    let p = c.args.pile.now in
    let kept = c.args.kept.now in (
      c.requires.0,
      λ n h. drop-set-lt n kept p.len c.args.call h,
      λ b h. piled_work kept p.starts p.depth p.len c.args.call c.args.reply b (sym c.is_err.ensures.value ∙ c.if-is_err.false) c.in-Work.ensures c.requires.1 h,
    )

pub returns-in-Accept : goal.returns-in-Accept
returns-in-Accept c =
    let p = c.args.pile.now in
    let room : p.depth ≤ length p.starts = omega arith in (
      omega arith,
      λ n h. refl,
      λ b h. rw c.saturating_sub-pile.ensures
          (piled_accept c.args.kept.now p.starts p.depth p.len c.args.call c.args.reply b (sym c.is_err.ensures.value ∙ c.if-is_err.false) c.in-Accept.ensures room h),
    )

pub returns-then-pile-gt0 : goal.returns-then-pile-gt0
returns-then-pile-gt0 c =
    let p = c.args.pile.now in
    let room : p.depth ≤ length p.starts = omega arith in (
      omega arith,
      λ n h. refl,
      λ b h. piled_revert c.args.kept.now p.starts p.depth p.len c.args.call c.args.reply b (sym c.is_err.ensures.value ∙ c.if-is_err.false) c.in-Revert.ensures c.if-pile-gt0.true room h,
    )

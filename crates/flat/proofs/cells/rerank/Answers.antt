use Rattle.std.proofs.Common.{◌<◌, length, set, sym, refl, ap, ◌∙◌, arith}
use Rattle.std.proofs.lemmas.List.{get_or-set_other}
use Rattle.std.proofs.lemmas.List.Edits.{map_over_more}
use Rattle.std.proofs.lemmas.Grind.{common_steps}
use Rattle.flat.specs.declared.cells.FlatCell.TheVariants.{Vacant}
use Rattle.flat.specs.FlatModel.{rank_of, rerank}
use Rattle.flat.proofs.Counting.{rank_small}
use Rattle.flat.proofs.cells.rerank.Goals as goal

pub loop-cell-init : goal.loop-cell-init
loop-cell-init g c = record { ahead = λ n k h. rank_small c.args.cells.now c.requires.sound n k; behind = λ h f. refl }

pub loop-cell-preserved : goal.loop-cell-preserved
loop-cell-preserved g c =
    let ys = c.loop-cell.cells in
    let i = c.loop-cell.cell-index in
    let x = c.reranked.result in
    let here : i < length c.args.cells.now = omega arith in
    record {
      ahead = λ n k h e. c.loop-cell.invariant.ahead n k (omega arith) (sym (ap rank_of (get_or-set_other ys i n x Vacant (λ q. omega arith))) ∙ e);
      behind = λ h f.
          ap (set ys i) (c.reranked.ensures h f ∙ ap (rerank h) (sym c.cell-item.is))
          ∙ map_over_more (rerank h) c.args.cells.now ys i c.cell-item.result here (c.loop-cell.invariant.behind h f) c.cell-item.is;
    }

pub returns : goal.returns
returns g c h f = let e = c.loop-cell.invariant.behind h f in grind (arith, common_steps, e)

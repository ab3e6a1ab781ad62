use Rattle.std.proofs.Common.{refl}
use Rattle.std.proofs.lemmas.List.{map-set}
use Rattle.std.proofs.Math.Seq.{map-set_same}
use Rattle.linked.proofs.Columns.{order_kept}
use Rattle.linked.proofs.order.set_body.Goals as goal

pub returns : goal.returns
returns c =
    let xs = c.args.cells.now in
    let n = c.args.n in
    let x = c.index-cells-n.result in
    record {
      order = order_kept xs n _ x refl;
      bodies = map-set (λ z. z.body) xs n _;
      threads = map-set_same (λ z. z.threads) xs n _ x refl;
    }

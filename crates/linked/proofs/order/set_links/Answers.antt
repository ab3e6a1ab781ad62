use Rattle.std.proofs.Common.{refl, arith}
use Rattle.std.proofs.Math.Seq.{map-set_same}
use Rattle.linked.proofs.Columns.{col_set}
use Rattle.linked.proofs.order.set_links.Goals as goal

pub returns-then-k-cells : goal.returns-then-k-cells
returns-then-k-cells c =
    let xs = c.args.cells.now in
    let k = c.args.k in
    let x = c.index-cells-k.result in
    record {
      nexts = col_set (λ z. z.links.next) xs k c.args.ends.next _ (omega arith);
      prevs = col_set (λ z. z.links.prev) xs k c.args.ends.prev _ (omega arith);
      rest = record { bodies = map-set_same (λ z. z.body) xs k _ x refl; threads = map-set_same (λ z. z.threads) xs k _ x refl };
    }

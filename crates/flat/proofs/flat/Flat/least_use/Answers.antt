use Rattle.std.proofs.Common.{rules}
use Rattle.flat.proofs.Usage.{least_first}
use Rattle.flat.proofs.flat.Flat.least_use.Goals as goal

pub returns : goal.returns
returns c =
    let xs = c.args.self.now.cells.now in
    least_first c.args.n xs c.args.after c.find_map.result (λ e k h. search rules) (λ y e. search rules)

use Rattle.std.proofs.Common.{◌≡◌, ℕ, ◌<◌, List, length, get_or, Option, ap, ◌∙◌}
use Rattle.linked.specs.declared.cells.Body.{Body}
use Rattle.linked.specs.declared.cells.Body.TheVariants.{Vacant}
use Rattle.linked.specs.declared.cells.LinkedCell.{LinkedCell}
use Rattle.linked.specs.LinkedModel.{content, bodies}
use Rattle.linked.specs.Facts.{table_in, Listed, Ranged}
use Rattle.linked.specs.Making.{Inside}
use Rattle.linked.specs.Reading.{slots_of}
use Rattle.linked.proofs.Rows.{Writes, with_a, with_b, change_a, change_b, change_c, put_listed}
use Rattle.linked.proofs.records.put.Goals as goal

writes : (xs : List LinkedCell) (n : ℕ) (b : Body) (olds news : List (Option ℕ)) {old : Body} → olds ≡ slots_of (content old) → old ≡ get_or (bodies xs) n Vacant → news ≡ slots_of (content b)
    → record { listed : Listed xs; ranged : Ranged xs; within : n < length xs; inside : Inside (length xs) (content b) } → Writes xs n b olds news
writes xs n b olds news o e w is = record { olds_are = o ∙ ap (λ x. slots_of (content x)) e; news_are = w; listed = is.listed; ranged = is.ranged; within = is.within; inside = is.inside }

pub rethread-requires : goal.rethread-requires
rethread-requires c =
    let xs = c.args.cells.now in
    let olds = c.operands.result in
    let news = c.operands-2.result in
    let r = writes xs c.args.n c.args.body olds news c.operands.ensures c.body_at.ensures c.operands-2.ensures c.requires in
    (table_in xs, change_a xs c.args.n c.args.body olds news r)

pub rethread-requires-2 : goal.rethread-requires-2
rethread-requires-2 c =
    let xs = c.args.cells.now in
    let olds = c.operands.result in
    let news = c.operands-2.result in
    let r = writes xs c.args.n c.args.body olds news c.operands.ensures c.body_at.ensures c.operands-2.ensures c.requires in
    (with_a xs c.args.n news, change_b xs c.args.n c.args.body olds news r c.rethread.new.cells c.rethread.ensures.rest c.rethread.ensures.lists)

pub rethread-requires-3 : goal.rethread-requires-3
rethread-requires-3 c =
    let xs = c.args.cells.now in
    let olds = c.operands.result in
    let news = c.operands-2.result in
    let r = writes xs c.args.n c.args.body olds news c.operands.ensures c.body_at.ensures c.operands-2.ensures c.requires in
    (with_b xs c.args.n news, change_c xs c.args.n c.args.body olds news r c.rethread.new.cells c.rethread.ensures.rest c.rethread.ensures.lists c.rethread-2.new.cells c.rethread-2.ensures.rest c.rethread-2.ensures.lists)

pub returns-clause-listed : goal.returns-clause-listed
returns-clause-listed c =
    let xs = c.args.cells.now in
    let olds = c.operands.result in
    let news = c.operands-2.result in
    let r = writes xs c.args.n c.args.body olds news c.operands.ensures c.body_at.ensures c.operands-2.ensures c.requires in
    put_listed xs c.args.n c.args.body olds news r c.rethread.new.cells c.rethread.ensures.rest c.rethread.ensures.lists c.rethread-2.new.cells c.rethread-2.ensures.rest c.rethread-2.ensures.lists c.rethread-3.new.cells c.set_body.new.cells c.rethread-3.ensures.rest c.rethread-3.ensures.lists c.set_body.ensures.bodies c.set_body.ensures.threads

use Rattle.std.proofs.Common.{◌≤◌, length, ◌∙◌, rules}
use Rattle.program.specs.Programs.{size}
use Rattle.runs.proofs.Checks.{form_found}
use Rattle.runs.proofs.form.check_form.Goals as goal

pub returns-clause-answer : goal.returns-clause-answer
returns-clause-answer g c =
    let p = g.S.Store.program c.args.store.now in
    let fits : size p ≤ length c.args.words.now = search rules in
    c.check_reads-answer.ensures ∙ form_found p (g.met.S.Store.proper c.args.store.now) (length c.args.words.now) fits c.clear.new.words c.clear.ensures

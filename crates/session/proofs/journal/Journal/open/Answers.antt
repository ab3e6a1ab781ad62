use Rattle.std.proofs.Common.{◌≡◌, ◌∷◌, length, sym, refl, ap, ◌∙◌, arith}
use Rattle.std.proofs.lemmas.Bool.Decides.{nat_tests}
use Rattle.session.specs.declared.mark.Mark.{Mark}
use Rattle.session.specs.Meaning.{marks}
use Rattle.session.proofs.Rows.{trail_length, marks_length, open_marks, open_fields}
use Rattle.session.proofs.journal.Journal.open.Goals as goal

pub returns-then-self-ge8-clause-depth : goal.returns-then-self-ge8-clause-depth
returns-then-self-ge8-clause-depth c =
    let d = marks_length c.args.self.now in
    grind (arith, nat_tests)

pub invariant_of-self : goal.invariant_of-self
invariant_of-self c = open_fields c.args.self.now (record { at = c.args.self.now.len; held = c.args.held }) refl c.if-self-ge8.false

pub returns-clause-depth : goal.returns-clause-depth
returns-clause-depth c =
    let j = c.args.self.now in
    let m : Mark = record { at = j.len; held = c.args.held } in
    let d = marks_length j in
    let n : c.depth-2.result ≡ length (m ∷ marks j) = c.depth-2.ensures ∙ ap length (open_marks j m c.if-self-ge8.false) in
    grind (arith, nat_tests)

pub returns-clause-saves : goal.returns-clause-saves
returns-clause-saves c =
    let j = c.args.self.now in
    open_marks j (record { at = j.len; held = c.args.held }) c.if-self-ge8.false ∙ ap (λ k. record { at = k; held = c.args.held } ∷ marks j) (sym (trail_length j))

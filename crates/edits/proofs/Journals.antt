-- A journal of opposites takes back a list of edits.
use Rattle.std.proofs.Common.{◌≡◌, List, [], ◌∷◌, ◌++◌, None, refl, ap, ◌∙◌}
use Rattle.std.proofs.ByRecursion.{All-push}
use Rattle.program.specs.Programs.{Program}
use Rattle.edits.specs.Commands.{Edit, fault_of, after, opposite, Fair}
use Rattle.edits.specs.Journals.{play, Runs, journal, JournalLaw}
use Rattle.edits.proofs.Undoing.{edits_undone, edits_keep_proper}

play_push : (p : Program) (es : List Edit) (e : Edit) → play p (es ++ (e ∷ [])) ≡ after (play p es) e
play_push p [] e = refl
play_push p (d ∷ es) e = play_push (after p d) es e

runs_push : (p : Program) (es : List Edit) (e : Edit) → Runs p es → fault_of (play p es) e ≡ None → Runs p (es ++ (e ∷ []))
runs_push p [] e r a = (a, tt)
runs_push p (d ∷ es) e r a = (r.0, runs_push (after p d) es e r.1 a)

pub journal_law : JournalLaw
journal_law p [] t f r = record { proper = t; fair = tt; undoes = tt; back = refl }
journal_law p (e ∷ es) t f r =
    let q : Program = after p e in
    let back : Edit = opposite p e in
    let u = edits_undone p e t f.0 r.0 in
    let j = journal_law q es (edits_keep_proper p e t f.0) f.1 r.1 in
    record {
      proper = j.proper;
      fair = All-push Fair (journal q es) back j.fair u.fair;
      undoes = runs_push (play q es) (journal q es) back j.undoes (ap (λ x. fault_of x back) j.back ∙ u.accepted);
      back = play_push (play q es) (journal q es) back ∙ (ap (λ x. after x back) j.back ∙ u.back);
    }

use Rattle.std.proofs.Common.{◌≡◌}
use Rattle.program.specs.Programs.{at}
use Rattle.runs.specs.Walks.{from}
use Rattle.runs.specs.Scratch.{broken_words}
use Rattle.runs.proofs.form.check_reads.Given as goal

abbrev pub invariant-loop-n : goal.invariant-loop-n
invariant-loop-n g l =
    let walk = l.n-iterator in
    let p = g.S.Store.program l.store in
    (walk.store.now ≡ l.store)
    × (broken_words (at p) l.words (from walk.at p.order) ≡ broken_words (at p) l.initial.words p.order)

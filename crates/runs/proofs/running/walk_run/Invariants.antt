use Rattle.std.proofs.Common.{◌≡◌, ◌+◌, ◌*◌, ◌≤◌, length}
use Rattle.program.specs.Programs.{at}
use Rattle.runs.specs.Scratch.{run_words, put_pairs}
use Rattle.runs.specs.Walks.{from}
use Rattle.runs.proofs.running.walk_run.Given as goal

abbrev pub invariant-loop-n : goal.invariant-loop-n
invariant-loop-n g l =
    let walk = l.n-iterator in
    let p = g.S.Store.program l.store in
    let left = run_words (at p) l.inputs l.words (from walk.at p.order) in
    (walk.store.now ≡ l.store) × (2 * (l.pairs + length left) ≤ length l.output)
    × (put_pairs l.output l.pairs left ≡ put_pairs l.initial.output 0 (run_words (at p) l.inputs l.initial.words p.order))

use Rattle.std.proofs.Common.{length, Err, sym, refl, ap, ◌∙◌, arith, rules}
use Rattle.std.proofs.lemmas.Result.{err_from_is_err_and}
use Rattle.program.proofs.Faults.{or_left_none}
use Rattle.program.specs.Programs.{at}
use Rattle.runs.specs.Runs.{outs, outputs, nothing}
use Rattle.runs.specs.Answers.{price_fault, run_fault, written, in_words}
use Rattle.runs.specs.Scratch.{put_pairs}
use Rattle.runs.proofs.Checks.{counted_some, counted_none, none_fits, none_room, refused_answer, refused_output}
use Rattle.runs.proofs.Tests.{form_law}
use Rattle.runs.proofs.Valuations.{run_law, run_length}
use Rattle.runs.proofs.Sends.{run_whole, put_whole}
use Rattle.runs.proofs.running.run.Goals as goal

pub returns-in_err-outs : goal.returns-in_err-outs
returns-in_err-outs g c =
    let p = g.S.Store.program c.args.store.now in
    let m = length c.args.scratch.now in
    let w = c.args.inputs.now in
    let out = c.args.output.now in
    let d = (g.met.S.Store.proper c.args.store.now).distinct in
    let f = c.in_err-outs.field-0.0 in
    let r = err_from_is_err_and c.from_residual.result c.from_residual.ensures.1 in
    let e = counted_some (run_fault p m w (length out)) (outs p) f c.in_err-outs.ensures.answer in
    record {
      answer = r.1 ∙ ap Err r.2 ∙ refused_answer p m w (length out) f e;
      output = refused_output p m w out f e;
      scratch = search rules;
      form = form_law p d;
      meaning = run_law p d w;
    }

pub walk_run-requires : goal.walk_run-requires
walk_run-requires g c =
    let p = g.S.Store.program c.args.store.now in
    let m = length c.args.scratch.now in
    let w = c.args.inputs.now in
    let out = c.args.output.now in
    let none = (counted_none (run_fault p m w (length out)) (outs p) c.in_ok-outs.outs c.in_ok-outs.ensures.answer).0 in
    let fits = none_fits p m (or_left_none (price_fault p m) _ none) in
    let many = ap length (run_whole p (g.met.S.Store.proper c.args.store.now) w c.check_run.new.words m fits (c.in_ok-outs.ensures.cleared refl)) in
    let as_many = run_length (at p) w nothing p.order in
    let room = none_room p m w (length out) none in
    record { words = omega arith; output = omega arith }

pub returns : goal.returns
returns g c =
    let p = g.S.Store.program c.args.store.now in
    let t = g.met.S.Store.proper c.args.store.now in
    let m = length c.args.scratch.now in
    let w = c.args.inputs.now in
    let out = c.args.output.now in
    let none = (counted_none (run_fault p m w (length out)) (outs p) c.in_ok-outs.outs c.in_ok-outs.ensures.answer).0 in
    let fits = none_fits p m (or_left_none (price_fault p m) _ none) in
    let sent = run_whole p t w c.check_run.new.words m fits (c.in_ok-outs.ensures.cleared refl) in
    let as_many = run_length (at p) w nothing p.order in
    let room = none_room p m w (length out) none in
    record {
      answer = c.in_ok-outs.ensures.answer;
      output = c.walk_run.ensures ∙ ap (put_pairs out 0) sent ∙ put_whole (outputs p w) out (omega arith) ∙ sym (ap (λ x. written x (in_words (outputs p w)) out) none);
      scratch = search rules;
      form = form_law p t.distinct;
      meaning = run_law p t.distinct w;
    }

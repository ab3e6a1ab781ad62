use Rattle.std.proofs.Common.{◌*◌, ◌≤◌, length, Ok, Err, sym, refl, ap, ◌∙◌, arith}
use Rattle.std.specs.Result.{is_ok}
use Rattle.std.proofs.lemmas.Result.{err_from_is_err_and}
use mathlib.Core.Bool.{false≢true}
use Rattle.runs.specs.declared.fault.RunFault.TheVariants.{InputCount, OutputTooShort}
use Rattle.runs.specs.Runs.{outs}
use Rattle.runs.specs.Answers.{price_fault, counted}
use Rattle.runs.proofs.Checks.{ok_none, err_some, refused_by_form, refused_by_inputs, refused_by_output, accepted, refused_answer}
use Rattle.runs.proofs.Sends.{few_outs}
use Rattle.runs.proofs.running.check_run.Goals as goal

pub overflow_mul-result : goal.overflow_mul-result
overflow_mul-result g c =
    let most = few_outs (g.S.Store.program c.args.store.now) (g.met.S.Store.proper c.args.store.now) in
    omega (arith, c.count_outs-outs.ensures)

pub returns-in_err-check_form : goal.returns-in_err-check_form
returns-in_err-check_form g c =
    let p = g.S.Store.program c.args.store.now in
    let m = length c.args.words.now in
    let f = c.in_err-check_form.field-0.0 in
    let r = err_from_is_err_and c.from_residual.result c.from_residual.ensures.1 in
    let e = refused_by_form p m c.args.inputs.now c.args.room f (err_some (price_fault p m) f c.in_err-check_form.ensures.answer) in
    record {
      answer = r.1 ∙ ap Err r.2 ∙ refused_answer p m c.args.inputs.now c.args.room f e;
      cleared = λ e. absurd (false≢true (sym (ap is_ok r.1) ∙ e));
    }

pub returns-then-inputs-ne16 : goal.returns-then-inputs-ne16
returns-then-inputs-ne16 g c =
    let p = g.S.Store.program c.args.store.now in
    let m = length c.args.words.now in
    let n = ok_none (price_fault p m) c.in_ok-check_form.field-0 c.in_ok-check_form.ensures.answer in
    let f = InputCount (length c.args.inputs.now) in
    record {
      answer = refused_answer p m c.args.inputs.now c.args.room f (refused_by_inputs p m c.args.inputs.now c.args.room n c.if-inputs-ne16.true);
      cleared = λ e. absurd (false≢true e);
    }

pub returns-then-room-outs : goal.returns-then-room-outs
returns-then-room-outs g c =
    let p = g.S.Store.program c.args.store.now in
    let m = length c.args.words.now in
    let n = ok_none (price_fault p m) c.in_ok-check_form.field-0 c.in_ok-check_form.ensures.answer in
    let o = c.count_outs-outs.ensures in
    let f = OutputTooShort (2 * c.count_outs-outs.result) in
    record {
      answer = refused_answer p m c.args.inputs.now c.args.room f
          (refused_by_output p m c.args.inputs.now c.args.room n c.if-inputs-ne16.false c.count_outs-outs.result o c.if-room-outs.true);
      cleared = λ e. absurd (false≢true e);
    }

pub returns : goal.returns
returns g c =
    let p = g.S.Store.program c.args.store.now in
    let m = length c.args.words.now in
    let n = ok_none (price_fault p m) c.in_ok-check_form.field-0 c.in_ok-check_form.ensures.answer in
    let o = c.count_outs-outs.ensures in
    let room : 2 * outs p ≤ c.args.room = omega (arith, c.if-room-outs.false) in
    record {
      answer = ap Ok o ∙ sym (ap (λ x. counted x (outs p)) (accepted p m c.args.inputs.now c.args.room n c.if-inputs-ne16.false room));
      cleared = λ e. c.in_ok-check_form.ensures.cleared refl;
    }

use Rattle.std.proofs.Common.{◌∷◌, [], length, sym, ap, ◌∙◌, subst, length-append, Bor}
use Rattle.std.specs.Slice.Iter.{iter_rest}
use Rattle.std.proofs.lemmas.Slice.Zip.{zip_turn}
use Rattle.std.proofs.lemmas.Result.{err_from_is_err_and}
use Rattle.session.specs.declared.call.Call.{Call}
use Rattle.session.specs.Calls.{Answer}
use Rattle.history.proofs.Fronts.{Sofar, sofar_more, too_deep}
use Rattle.history.proofs.survivors.survivors.Goals as goal

pub returns-in_err-follow : goal.returns-in_err-follow
returns-in_err-follow c =
    let calls = c.args.calls.now in
    let replies = c.args.replies.now in
    let xs = c.loop-call.yielded in
    let p : Bor Call × Bor Answer = (c.in-Some.call, c.in-Some.reply) in
    let t =
    zip_turn calls replies xs c.into_iter-call-iterator.result c.loop-call.call-iterator c.next.new.self c.next.result
    (ap (λ z. iter_rest z.a) c.into_iter-call-iterator.ensures.into_iter_gives ∙ ap iter_rest c.zip-call-items.ensures.first ∙ c.iter.ensures.rest)
    (ap (λ z. iter_rest z.b) c.into_iter-call-iterator.ensures.into_iter_gives ∙ c.zip-call-items.ensures.second.0)
    c.loop-call.yielded_by p c.in-Some.is c.next.ensures.steps in
    let e = err_from_is_err_and c.from_residual.result c.from_residual.ensures.1 in
    rw (e.1, e.2)
    (too_deep calls replies c.args.kept.now (length xs) c.in-Some.call.now c.in-Some.reply.now c.loop-call.kept c.follow.new.kept c.loop-call.pile c.follow.new.pile
    c.in_err-follow.field-0.0 t.0 t.1 (t.2 _) (t.3 _) c.loop-call.invariant c.in_err-follow.ensures)

pub loop-call-preserved : goal.loop-call-preserved
loop-call-preserved c =
    let calls = c.args.calls.now in
    let replies = c.args.replies.now in
    let xs = c.loop-call.yielded in
    let p : Bor Call × Bor Answer = (c.in-Some.call, c.in-Some.reply) in
    let t =
    zip_turn calls replies xs c.into_iter-call-iterator.result c.loop-call.call-iterator c.next.new.self c.next.result
    (ap (λ z. iter_rest z.a) c.into_iter-call-iterator.ensures.into_iter_gives ∙ ap iter_rest c.zip-call-items.ensures.first ∙ c.iter.ensures.rest)
    (ap (λ z. iter_rest z.b) c.into_iter-call-iterator.ensures.into_iter_gives ∙ c.zip-call-items.ensures.second.0)
    c.loop-call.yielded_by p c.in-Some.is c.next.ensures.steps in
    subst (λ n. Sofar calls replies c.args.kept.now n c.follow.new.kept c.follow.new.pile) (sym (length-append xs (p ∷ [])))
    (sofar_more calls replies c.args.kept.now (length xs) c.in-Some.call.now c.in-Some.reply.now c.loop-call.kept c.follow.new.kept c.loop-call.pile c.follow.new.pile
    t.0 t.1 (t.2 _) (t.3 _) c.loop-call.invariant c.in_ok-follow.ensures)

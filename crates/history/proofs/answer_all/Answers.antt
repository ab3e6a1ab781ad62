use Rattle.std.proofs.Common.{◌<◌, length, arith}
use Rattle.history.proofs.Lists.{made_more}
use Rattle.history.proofs.answer_all.Goals as goal

pub loop-i-preserved : goal.loop-i-preserved
loop-i-preserved g c =
    let room : c.loop-i.i < length c.loop-i.replies = omega (arith, c.loop-i-test.true, c.loop-i.auto.replies, c.requires) in
    made_more g.S.Store.program c.args.calls.now c.loop-i.i c.args.session.now c.loop-i.session c.call.new.self c.args.replies.now c.loop-i.replies
    c.index-calls-i.result c.call.result c.loop-i-test.true room c.index-calls-i.is c.loop-i.invariant c.call.ensures

use Rattle.std.proofs.Common.{◌≡◌, List, map, length, take, sym, ap, ◌∙◌, subst, arith}
use Rattle.std.proofs.lemmas.List.{take_all}
use Rattle.session.specs.declared.call.Call.{Call}
use Rattle.session.specs.Copying.{Copying, fresh}
use Rattle.session.specs.Calls.{Answer, act_of, answers, final}
use Rattle.session.specs.Meaning.{meaning}
use Rattle.history.specs.Law.{Repeats}
use Rattle.history.proofs.Histories.{repeats}
use Rattle.history.proofs.UseLists.{uses_read}
use Rattle.history.proofs.enter_all.Goals as goal

pub returns : goal.returns
returns g c =
    let program = g.S.Store.program in
    let p = program c.args.store in
    let calls = c.args.calls.now in
    let acts = map act_of calls in
    let all : take (length calls) calls ≡ calls = take_all (length calls) calls (omega arith) in
    let start = c.new-session.ensures in
    let got = c.answer_all.ensures.answered ∙ ap (λ (l : List Call). answers (map act_of l) (meaning program c.new-session.result)) all ∙ ap (answers acts) start in
    let led = c.answer_all.ensures.led ∙ ap (λ (l : List Call). final (map act_of l) (meaning program c.new-session.result)) all ∙ ap (final acts) start in
    let built = ap (λ (s : Copying). s.program) led in (
      got,
      led,
      c.answer_all.ensures.behind,
      subst (λ (rs : List Answer). Repeats p acts rs (program c.answer_all.new.session.store)) (sym got)
          (subst (λ q. Repeats p acts (answers acts (fresh p)) q) (sym built) (repeats p acts)),
      uses_read (program c.answer_all.new.session.store) (g.met.S.Store.proper c.answer_all.new.session.store),
    )

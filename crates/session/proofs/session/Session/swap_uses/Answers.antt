use Rattle.std.proofs.Common.{◌≡◌, ℕ, ◌<◌, ◌≤◌, length, sym, ap, ◌∙◌, subst}
use Rattle.ir.specs.Operations.{arity}
use Rattle.ir.specs.Instructions.{plain}
use Rattle.program.specs.Programs.{at}
use Rattle.program.specs.Uses.{uses}
use Rattle.edits.specs.Commands.{rewrite}
use Rattle.edits.specs.Replace.{swap_at}
use Rattle.session.specs.Copying.{Copying, edit_step}
use Rattle.session.specs.Sweeping.{Ready, swept}
use Rattle.session.specs.Meaning.{meaning}
use Rattle.session.proofs.Sweeps.{head_use, no_use_left, use_position, one_edit, one_ready, one_swept, one_fewer, none_swept}
use Rattle.session.proofs.session.Session.swap_uses.Given as given
use Rattle.session.proofs.session.Session.swap_uses.Goals as goal

-- the session after one rewrite, and what it is ready for
pub record Swapped (s b : Copying) (n m : ℕ) : Type 0 where
  pub ready : Ready n m b
  pub same : swept n m b ≡ swept n m s
  pub fewer : length (uses b.program n) < length (uses s.program n)

turn : (g : given.Over) (c : goal.After-edit g) → Swapped (meaning g.S.Store.program c.loop-user.self) (meaning g.S.Store.program c.edit.new.self) c.args.n c.args.m
turn g c =
    let a = c.loop-user.self in
    let p = g.S.Store.program a.store in
    let t = g.met.S.Store.proper a.store in
    let n = c.args.n in
    let m = c.args.m in
    let s = meaning g.S.Store.program a in
    let u = c.in-Some.user in
    let y : ℕ × ℕ = (u, c.in-Some.position) in
    let r = c.loop-user.invariant.0 in
    let h = head_use (uses p n) y c.in-Some.ensures in
    let pos = use_position p n y h.0 h.1 in
    let what = plain c.swapped-what.result in
    let room : y.1 ≤ arity c.record_at.result.op = subst (λ i. y.1 ≤ arity i.op) (sym c.record_at.ensures) pos.1 in
    let what_is : what ≡ swap_at y.1 m (at p u) = c.swapped-what.ensures pos.0 room ∙ ap (swap_at y.1 m) c.record_at.ensures in
    let moved = c.edit.ensures.after ∙ ap (λ i. (edit_step (rewrite u i) s).after) what_is ∙ one_edit s n m y h.0 t r h.1 in
    record {
      ready = subst (Ready n m) (sym moved) (one_ready s n m y h.0 t r h.1);
      same = ap (swept n m) moved ∙ one_swept s n m y h.0 t r h.1;
      fewer = subst (λ x. length (uses x.program n) < length (uses p n)) (sym moved) (one_fewer s n m y h.0 t r h.1);
    }

pub loop-user-preserved : goal.loop-user-preserved
loop-user-preserved g c = ((turn g c).ready, (turn g c).same ∙ c.loop-user.invariant.1)

pub loop-user-smaller : goal.loop-user-smaller
loop-user-smaller g c = (turn g c).fewer

pub returns : goal.returns
returns g c =
    let s = meaning g.S.Store.program c.loop-user.self in
    none_swept s c.args.n c.args.m (no_use_left (uses s.program c.args.n) c.in_default.ensures) ∙ c.loop-user.invariant.1

-- The store's commands make a valid change, and their journal takes it back.
use Rattle.std.proofs.Common.{◌≡◌, ℕ, suc, ◌≤◌, List, [], ◌∷◌, ◌++◌, length, Some, None, sym, refl, ap, ◌∙◌, subst, arith}
use Rattle.std.specs.List.{remove, AllByRecursion}
use Rattle.std.proofs.lemmas.List.{length-append}
use Rattle.std.proofs.ByRecursion.{All-append}
use Rattle.ir.specs.Instructions.{Instr}
use Rattle.program.specs.Programs.{Program, Busy, at, index_of, In, Before, Operands}
use Rattle.program.specs.Uses.{uses, unused}
use Rattle.program.specs.Faults.{placed_fault, unmake_fault, rewrite_fault}
use Rattle.program.specs.Commands.{put, reorder}
use Rattle.program.specs.Proper.{Proper}
use Rattle.program.proofs.Faults.{settles}
use Rattle.program.proofs.Operands.{operands_map}
use Rattle.program.proofs.Orders.{before_left}
use Rattle.program.proofs.Uses.{unused_none}
use Rattle.program.proofs.Accepting.{commands_accepted}
use Rattle.program.proofs.Keeping.{never_read}
use Rattle.edits.specs.Commands.{Edit, unlink, unmake, after, opposite, Fair}
use Rattle.edits.specs.Journals.{play, Runs, journal}
use Rattle.edits.specs.Replace.{replace, Replaceable, swap}
use Rattle.edits.proofs.Moves.{out_then}
use Rattle.program.proofs.Positions.{no_use}
use Rattle.edits.proofs.Undoing.{edits_keep_proper}
use Rattle.edits.proofs.Journals.{journal_law}
use Rattle.edits.proofs.Renaming.{replace_end}
use Rattle.edits.proofs.Swaps.{replace_accepted, replace_step, replace_law}
use Rattle.rules.specs.Rules.{Change, nothing, vanish, drop_for, become, take_out, apply, rewrites, commands, cost}
use Rattle.rules.specs.Trials.{need}
use Rattle.rules.specs.Laws.{Sound, ByCommands}
use Rattle.rules.proofs.Removals.{before_trans, before_self, before_other}
use Rattle.rules.proofs.Valid.{Unread, Valid}

-- fair edits lead from p to q
pub record Made (p : Program) (es : List Edit) (q : Program) : Type 0 where
  pub fair : AllByRecursion Fair es
  pub accepted : Runs p es
  pub gives : play p es ≡ q

runs_append : (p : Program) (es ds : List Edit) → Runs p es → Runs (play p es) ds → Runs p (es ++ ds)
runs_append p [] ds r s = s
runs_append p (e ∷ es) ds r s = (r.0, runs_append (after p e) es ds r.1 s)

play_append : (p : Program) (es ds : List Edit) → play p (es ++ ds) ≡ play (play p es) ds
play_append p [] ds = refl
play_append p (e ∷ es) ds = play_append (after p e) es ds

made_append : (p q r : Program) (es ds : List Edit) → Made p es q → Made q ds r → Made p (es ++ ds) r
made_append p q r es ds m l =
    record {
      fair = All-append Fair es ds m.fair l.fair;
      accepted = runs_append p es ds m.accepted (subst (λ x. Runs x ds) (sym m.gives) l.accepted);
      gives = play_append p es ds ∙ (ap (λ x. play x ds) m.gives ∙ l.gives);
    }

-- ---- taken out

module _ (p : Program) (n : ℕ) (t : Proper p) (i : In n p.order) (un : Unread p n) where
  abbrev q : Program
  q = reorder p (remove p.order (index_of n p.order))

  pub unlinks : placed_fault p n ≡ None
  unlinks = ((commands_accepted p).unlink n).1 (record { was_busy = t.placed n i; placed = i })

  pub unmakes : unmake_fault q n ≡ None
  unmakes =
      ((commands_accepted q).unmake n).1
      (record { was_busy = t.placed n i; loose = out_then n p.order t.distinct; unread = no_use q n un })

  pub taken_out : Made p (unlink n ∷ (unmake n ∷ [])) (take_out p n)
  taken_out =
      let is : after p (unlink n) ≡ q = settles (placed_fault p n) q p unlinks in
      record {
        fair = (tt, (tt, tt));
        accepted = (unlinks, (ap (λ x. unmake_fault x n) is ∙ unmakes, tt));
        gives = ap (λ x. after x (unmake n)) is ∙ settles (unmake_fault q n) (put q n None) q unmakes;
      }

-- ---- replaced use by use

all_rewritten :
    (p : Program) (n y : ℕ) (us : List (ℕ × ℕ)) → Proper p → Replaceable p n y → uses p n ≡ us → Made p (rewrites p y us) (replace n y p)
all_rewritten p n y [] t c e = record { fair = tt; accepted = tt; gives = sym (replace_end p n y e) }
all_rewritten p n y (u ∷ us) t c e =
    let s = replace_step p n y u us t c e in
    let m = all_rewritten (after p (swap p y u)) n y us (edits_keep_proper p (swap p y u) t s.fair) s.still s.left in
    record { fair = (s.fair, m.fair); accepted = (s.accepted, m.accepted); gives = m.gives ∙ s.same }

module _ (p : Program) (n y : ℕ) (s : Sound p) (i : In n p.order) (by : Before y n p.order) where
  -- an earlier instruction can take the place of n
  pub replaceable : Replaceable p n y
  replaceable =
      record {
        busy_n = s.0.placed n i;
        busy_m = s.0.placed y (before_left y n p.order by);
        other = before_other y n p.order s.0.distinct by;
        reads_not = operands_map (at p y) (λ m. Before m y p.order) (λ m. m ≡ n → ⊥)
            (λ m b e.
            before_self n p.order s.0.distinct
            (before_trans n y n p.order s.0.distinct (subst (λ k. Before k y p.order) e b) by))
            (s.1 y (before_left y n p.order by));
      }

  pub replaced : Proper (replace n y p) × Unread (replace n y p) n
  replaced =
      let l = replace_law p n y s.0 ((replace_accepted p n y).1 replaceable) in
      (l.0, never_read (replace n y p) n (unused_none (replace n y p) n (ap unused l.1)))

-- ---- changes

-- a number can get a record whose operands stand before it
pub rewritable : (p : Program) (n : ℕ) (r : Instr) → Sound p → In n p.order → Operands r (λ m. Before m n p.order) → rewrite_fault p n r ≡ None
rewritable p n r s i o =
    ((commands_accepted p).rewrite n r).1
    (record {
      was_busy = s.0.placed n i;
      apart = operands_map r (λ m. Before m n p.order) (λ m. Busy p m × (m ≡ n → ⊥))
          (λ m b. (s.0.placed m (before_left m n p.order b), before_other m n p.order s.0.distinct b)) o;
    })

pub made : (p : Program) (n : ℕ) (change : Change) → Sound p → In n p.order → Valid p n change → Made p (commands p n change) (apply p n change)
made p n nothing s i v = record { fair = tt; accepted = tt; gives = refl }
made p n vanish s i v = taken_out p n s.0 i v.1
made p n (drop_for y) s i v =
    let q : Program = replace n y p in
    let r = replaced p n y s i v.1 in
    made_append p q (take_out q n) (rewrites p y (uses p n)) (unlink n ∷ (unmake n ∷ []))
    (all_rewritten p n y (uses p n) s.0 (replaceable p n y s i v.1) refl) (taken_out q n r.0 i r.1)
made p n (become r) s i v =
    let a = rewritable p n r s i v.3 in
    record { fair = (v.2, tt); accepted = (a, tt); gives = settles (rewrite_fault p n r) (put p n (Some r)) p a }

pub made_proper : (p q : Program) (es : List Edit) → Proper p → Made p es q → Proper q
made_proper p q es t m = subst Proper m.gives (journal_law p es t m.fair m.accepted).proper

-- ---- records

journal_length : (p : Program) (es : List Edit) → length (journal p es) ≡ length es
journal_length p [] = refl
journal_length p (e ∷ es) =
    let h = journal_length (after p e) es in
    let l = length-append (journal (after p e) es) (opposite p e ∷ []) in
    omega arith

length_rewrites : (p : Program) (y : ℕ) (us : List (ℕ × ℕ)) → length (rewrites p y us) ≡ length us
length_rewrites p y [] = refl
length_rewrites p y (u ∷ us) = ap suc (length_rewrites (after p (swap p y u)) y us)

length_commands : (p : Program) (n : ℕ) (change : Change) → length (commands p n change) ≡ cost p n change
length_commands p n nothing = refl
length_commands p n vanish = refl
length_commands p n (drop_for y) =
    let h = length_rewrites p y (uses p n) in
    let l = length-append (rewrites p y (uses p n)) (unlink n ∷ (unmake n ∷ [])) in
    omega arith
length_commands p n (become i) = refl

pub cost_need : (p : Program) (n : ℕ) (change : Change) → cost p n change ≤ need p n
cost_need p n nothing = omega arith
cost_need p n change = omega arith

pub by_commands : (p : Program) (n : ℕ) (change : Change) → Sound p → In n p.order → Valid p n change → ByCommands p n change
by_commands p n change s i v =
    let es : List Edit = commands p n change in
    let m = made p n change s i v in
    let j = journal_law p es s.0 m.fair m.accepted in
    record {
      fair = m.fair;
      accepted = m.accepted;
      gives = m.gives;
      records = journal_length p es ∙ length_commands p n change;
      few = cost_need p n change;
      undoes = subst (λ x. Runs x (journal p es)) m.gives j.undoes;
      back = subst (λ x. play x (journal p es) ≡ p) m.gives j.back;
    }

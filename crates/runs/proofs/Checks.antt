-- The checks before a price or a run.
use Rattle.std.proofs.Common.{◌≡◌, ℕ, ◌*◌, ◌<◌, ◌≤◌, Bool, true, false, cond, eqb, ltb, List, length, Some, None, Ok, Err, Option, sym, refl, ap, ◌∙◌, arith}
use Rattle.std.specs.Option.{option_or}
use Rattle.std.proofs.lemmas.Bool.{cond-true, cond-false, lt-ltb, le-ltb, ltb-false, eq-eqb, ne_eqb}
use Rattle.program.specs.Programs.{Program, at, size}
use Rattle.program.specs.Proper.{Proper}
use Rattle.program.proofs.Faults.{or_right_none}
use Rattle.program.proofs.Accepting.{busy_inside}
use Rattle.runs.specs.declared.fault.RunFault.{RunFault}
use Rattle.runs.specs.declared.fault.RunFault.TheVariants.{ScratchTooShort, InputCount, OutputTooShort}
use Rattle.runs.specs.Runs.{outs, outputs}
use Rattle.runs.specs.Form.{broken}
use Rattle.runs.specs.Answers.{zeros, scratch_fault, ill_formed, price_fault, input_fault, output_fault, run_fault, checked, counted, run_answer, in_words, written, after_run}
use Rattle.runs.specs.Scratch.{broken_words}
use Rattle.runs.proofs.Tests.{broken_law}

-- what the marks find
pub form_found :
    (p : Program) → Proper p → (m : ℕ) → size p ≤ m → (words : List ℕ) → words ≡ zeros m
    → checked (ill_formed (broken_words (at p) words p.order)) ≡ checked (price_fault p m)
form_found p t m l words z =
    let found : broken_words (at p) words p.order ≡ broken p
    = ap (λ w. broken_words (at p) w p.order) z
    ∙ broken_law p m (λ k i. let h = busy_inside p k (t.placed k i) in omega arith) in
    let f : scratch_fault p m ≡ None = cond-false (ltb m (size p)) (Some (ScratchTooShort (size p))) None (le-ltb m (size p) l) in
    ap (λ x. checked (ill_formed x)) found ∙ sym (ap (λ x. checked (option_or x (ill_formed (broken p)))) f)

-- what the answer of a check says of the fault
pub ok_none : (o : Option RunFault) (u : Unit {0}) → Ok u ≡ checked o → o ≡ None
ok_none None u e = refl
ok_none (Some f) u e = let z : ◌≡◌ {A = ℕ} 0 1 = cc in absurd (omega arith)

pub err_some : (o : Option RunFault) (f : RunFault) → Err f ≡ checked o → o ≡ Some f
err_some None f e = let z : ◌≡◌ {A = ℕ} 0 1 = cc in absurd (omega arith)
err_some (Some g) f e = cc

pub none_fits : (p : Program) (m : ℕ) → price_fault p m ≡ None → size p ≤ m
none_fits p m e = by_test (ltb m (size p)) refl e
  where
    by_test : (b : Bool) → ltb m (size p) ≡ b → option_or (cond b (Some (ScratchTooShort (size p))) None) (ill_formed (broken p)) ≡ None → size p ≤ m
    by_test true t f = let z : ◌≡◌ {A = ℕ} 0 1 = cc in absurd (omega arith)
    by_test false t f = ltb-false m (size p) t

-- ---- the faults of a run, one after another

module _ (p : Program) (words : ℕ) (inputs : List ℕ) (room : ℕ) where
  abbrev fault : Option RunFault
  fault = run_fault p words inputs room

  pub refused_by_form : (f : RunFault) → price_fault p words ≡ Some f → fault ≡ Some f
  refused_by_form f e = ap (λ o. option_or o (option_or (input_fault inputs) (output_fault p room))) e

  module _ (formed : price_fault p words ≡ None) where
    past_form : fault ≡ option_or (input_fault inputs) (output_fault p room)
    past_form = ap (λ o. option_or o (option_or (input_fault inputs) (output_fault p room))) formed

    pub refused_by_inputs : (length inputs ≡ 16 → ⊥) → fault ≡ Some (InputCount (length inputs))
    refused_by_inputs d =
        past_form
        ∙ ap (λ o. option_or o (output_fault p room))
        (cond-false (eqb (length inputs) 16) None (Some (InputCount (length inputs))) (ne_eqb (length inputs) 16 d))

    module _ (sixteen : length inputs ≡ 16) where
      past_inputs : fault ≡ output_fault p room
      past_inputs =
          past_form
          ∙ ap (λ o. option_or o (output_fault p room))
          (cond-true (eqb (length inputs) 16) None (Some (InputCount (length inputs))) (eq-eqb (length inputs) 16 sixteen))

      pub refused_by_output : (n : ℕ) → n ≡ outs p → room < 2 * n → fault ≡ Some (OutputTooShort (2 * n))
      refused_by_output n e l =
          past_inputs
          ∙ cond-true (ltb room (2 * outs p)) (Some (OutputTooShort (2 * outs p))) None (lt-ltb room (2 * outs p) (omega arith))
          ∙ ap (λ k. Some (OutputTooShort (2 * k))) (sym e)

      pub accepted : 2 * outs p ≤ room → fault ≡ None
      accepted l = past_inputs ∙ cond-false (ltb room (2 * outs p)) (Some (OutputTooShort (2 * outs p))) None (le-ltb room (2 * outs p) l)

  -- a fault decides the answer
  pub refused_answer : (f : RunFault) → fault ≡ Some f → Err f ≡ run_answer p words inputs room
  refused_answer f e = sym (ap (λ o. counted o (outs p)) e)

-- ---- what the answer of a run says of its fault

pub counted_some : (o : Option RunFault) (x : ℕ) (f : RunFault) → Err f ≡ counted o x → o ≡ Some f
counted_some None x f e = let z : ◌≡◌ {A = ℕ} 0 1 = cc in absurd (omega arith)
counted_some (Some g) x f e = cc

pub counted_none : (o : Option RunFault) (x y : ℕ) → Ok y ≡ counted o x → (o ≡ None) × (y ≡ x)
counted_none None x y e = (refl, cc)
counted_none (Some g) x y e = let z : ◌≡◌ {A = ℕ} 0 1 = cc in absurd (omega arith)

-- a fault leaves the output memory
pub refused_output : (p : Program) (words : ℕ) (inputs old : List ℕ) (f : RunFault) → run_fault p words inputs (length old) ≡ Some f → old ≡ after_run p words inputs old
refused_output p words inputs old f e = sym (ap (λ o. written o (in_words (outputs p inputs)) old) e)

-- with no fault there is room for every out
pub none_room : (p : Program) (words : ℕ) (inputs : List ℕ) (room : ℕ) → run_fault p words inputs room ≡ None → 2 * outs p ≤ room
none_room p words inputs room e =
    by_test (ltb room (2 * outs p)) refl
    (or_right_none (input_fault inputs) (output_fault p room) (or_right_none (price_fault p words) _ e))
  where
    by_test : (b : Bool) → ltb room (2 * outs p) ≡ b → cond b (Some (OutputTooShort (2 * outs p))) None ≡ None → 2 * outs p ≤ room
    by_test true t f = let z : ◌≡◌ {A = ℕ} 0 1 = cc in absurd (omega arith)
    by_test false t f = ltb-false room (2 * outs p) t

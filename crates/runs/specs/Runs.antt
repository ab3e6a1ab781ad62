-- Runs: what a program sends on sixteen input words.
use Rattle.std.specs.Prelude.{◌≡◌, ℕ, ◌+◌, Bool, true, false, cond, List, [], ◌∷◌, ◌++◌, length, ◌==◌}
use Rattle.ir.specs.declared.operation.Op.{Op}
use Rattle.ir.specs.declared.operation.Op.TheVariants.{Constant, Input, Add, Subtract, Multiply, And, Or, Xor, Less, Equal, Pick, Shift, Out}
use Rattle.ir.specs.Instructions.{Instr}
use Rattle.ir.specs.Values.{value_of}
use Rattle.program.specs.Programs.{Program, at, In, takes, WellFormed}

abbrev pub out? : Op → Bool
out? Constant = false
out? Input = false
out? Add = false
out? Subtract = false
out? Multiply = false
out? And = false
out? Or = false
out? Xor = false
out? Less = false
out? Equal = false
out? Pick = false
out? Shift = false
out? Out = true

-- ---- the run, instruction by instruction

-- what is read of an operand: 0 for an absent one
abbrev pub arg : Bool → (ℕ → ℕ) → ℕ → ℕ
arg present v n = cond present (v n) 0

-- the value of an instruction where v gives the values of the others
abbrev pub value : Instr → (ℕ → ℕ) → List ℕ → ℕ
value i v inputs =
    value_of i.op i.literal inputs (arg (takes 0 i.op) v i.a) (arg (takes 1 i.op) v i.b) (arg (takes 2 i.op) v i.c)

-- v with x at n
abbrev pub upd : (ℕ → ℕ) → ℕ → ℕ → ℕ → ℕ
upd v n x k = cond (k == n) x (v k)

-- an out sends its channel and its value, any other instruction nothing
abbrev pub sent : Instr → ℕ → List (ℕ × ℕ)
sent i x = cond (out? i.op) ((i.literal, x) ∷ []) []

-- the instructions in order, each on the values before it
abbrev pub run_from : (ℕ → Instr) → List ℕ → (ℕ → ℕ) → List ℕ → List (ℕ × ℕ)
run_from of inputs v [] = []
run_from of inputs v (n ∷ ns) =
    sent (of n) (value (of n) v inputs) ++ run_from of inputs (upd v n (value (of n) v inputs)) ns

abbrev pub nothing : ℕ → ℕ
nothing n = 0

-- the outputs of a run: for each out of the order, channel and value
abbrev pub outputs : Program → List ℕ → List (ℕ × ℕ)
outputs p inputs = run_from (at p) inputs nothing p.order

abbrev pub count_outs : (ℕ → Instr) → List ℕ → ℕ
count_outs of [] = 0
count_outs of (n ∷ ns) = cond (out? (of n).op) 1 0 + count_outs of ns

-- how many outs are placed
abbrev pub outs : Program → ℕ
outs p = count_outs (at p) p.order

-- ---- what a run means, said without steps

-- v gives each placed instruction the value of its operation on its operands' values
abbrev pub Fits : (ℕ → Instr) → List ℕ → List ℕ → (ℕ → ℕ) → Type 0
Fits of ns inputs v = (n : ℕ) → In n ns → v n ≡ value (of n) v inputs

-- what v says is sent, in order
abbrev pub sends : (ℕ → Instr) → (ℕ → ℕ) → List ℕ → List (ℕ × ℕ)
sends of v [] = []
sends of v (n ∷ ns) = sent (of n) (v n) ++ sends of v ns

-- a well-formed program has values that fit its instructions; any two such agree on what is placed; its run sends what they say; and it sends once for each out
pub record Meant (p : Program) (inputs : List ℕ) : Type 0 where
  pub exists : (v : ℕ → ℕ) × Fits (at p) p.order inputs v
  pub agree : (v u : ℕ → ℕ) → Fits (at p) p.order inputs v → Fits (at p) p.order inputs u → (n : ℕ) → In n p.order → v n ≡ u n
  pub sends_so : (v : ℕ → ℕ) → Fits (at p) p.order inputs v → outputs p inputs ≡ sends (at p) v p.order
  pub as_many : length (outputs p inputs) ≡ outs p

abbrev pub RunLaw : Program → List ℕ → Type 0
RunLaw p inputs = WellFormed p → Meant p inputs

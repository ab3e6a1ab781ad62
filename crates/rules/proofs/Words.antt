-- Every value of a sound program is a word.
use Rattle.std.proofs.Common.{◌≡◌, ℕ, ◌+◌, ◌-◌, ◌*◌, ◌^◌, ◌<◌, Bool, true, false, eqb, ltb, List, length, get_or, sym, refl, subst, ⊎_elim, mod-lt, lit<}
use mathlib.Core.Bool.{false≢true}
use lib.Bits.{and_lt, or_lt, xor_lt}
use Rattle.std.proofs.lemmas.Bool.{cases_lt, cond_both}
use Rattle.std.proofs.lemmas.List.{get_or_past}
use Rattle.std.proofs.ByRecursion.{All-get_or}
use Rattle.ir.specs.declared.operation.Op.{Op}
use Rattle.ir.specs.declared.operation.Op.TheVariants.{Constant, Input, Add, Subtract, Multiply, And, Or, Xor, Less, Equal, Pick, Shift, Out}
use Rattle.ir.specs.Operations.{limit}
use Rattle.ir.specs.Instructions.{Instr}
use Rattle.ir.specs.Values.{word, value_of}
use Rattle.program.specs.Programs.{Program, at, takes, Operands, In}
use Rattle.runs.specs.Runs.{arg, value, Fits}
use Rattle.runs.proofs.Valuations.{along}
use Rattle.rules.specs.Rules.{Inputs, constant?}
use Rattle.rules.specs.Laws.{Sound}

input_word : (w : List ℕ) → Inputs w → (k : ℕ) → get_or w k 0 < word
input_word w i k =
    ⊎_elim (λ l. All-get_or (λ x. x < word) w k 0 l i.1) (λ l. subst (λ x. x < word) (sym (get_or_past w k 0 l)) (lit< tt))
    (cases_lt k (length w))

value_word :
    (o : Op) (l : ℕ) (w : List ℕ) (x y z : ℕ) → l < limit o → ((k : ℕ) → get_or w k 0 < word) → x < word → y < word → z < word
    → value_of o l w x y z < word
value_word Constant l w x y z h i a b c = h
value_word Input l w x y z h i a b c = i l
value_word Add l w x y z h i a b c = mod-lt (x + y) (lit< tt)
value_word Subtract l w x y z h i a b c = mod-lt (x + word - y) (lit< tt)
value_word Multiply l w x y z h i a b c = mod-lt (x * y) (lit< tt)
value_word And l w x y z h i a b c = and_lt 32 x y a b
value_word Or l w x y z h i a b c = or_lt 32 x y a b
value_word Xor l w x y z h i a b c = xor_lt 32 x y a b
value_word Less l w x y z h i a b c = cond_both (ltb x y) 1 0 (λ r. r < word) (λ e. lit< tt) (λ e. lit< tt)
value_word Equal l w x y z h i a b c = cond_both (eqb x y) 1 0 (λ r. r < word) (λ e. lit< tt) (λ e. lit< tt)
value_word Pick l w x y z h i a b c = cond_both (eqb x 0) z y (λ r. r < word) (λ e. c) (λ e. b)
value_word Shift l w x y z h i a b c = mod-lt (x * 2 ^ l) (lit< tt)
value_word Out l w x y z h i a b c = a

arg_word : (h : Bool) (v : ℕ → ℕ) (k : ℕ) → (h ≡ true → v k < word) → arg h v k < word
arg_word true v k f = f refl
arg_word false v k f = lit< tt

-- an instruction on words gives a word
pub instr_word :
    (r : Instr) (v : ℕ → ℕ) (w : List ℕ) → r.literal < limit r.op → ((k : ℕ) → get_or w k 0 < word) → Operands r (λ j. v j < word)
    → value r v w < word
instr_word r v w l i o =
    value_word r.op r.literal w (arg (takes 0 r.op) v r.a) (arg (takes 1 r.op) v r.b) (arg (takes 2 r.op) v r.c) l i
    (arg_word (takes 0 r.op) v r.a o.0) (arg_word (takes 1 r.op) v r.b o.1) (arg_word (takes 2 r.op) v r.c o.2)

pub words :
    (p : Program) → Sound p → (w : List ℕ) (v : ℕ → ℕ) → Inputs w → Fits (at p) p.order w v → (k : ℕ) → In k p.order
    → v k < word
words p s w v i f =
    along (at p) (λ k. v k < word) p.order s.0.distinct s.1
    (λ k j o. subst (λ x. x < word) (sym (f k j)) (instr_word (at p k) v w (s.0.shaped k).0 (input_word w i) o))

-- ---- constants

-- no other operation is a constant
only_constant : (o : Op) → constant? o ≡ true → o ≡ Constant
only_constant Constant e = refl
only_constant o e = absurd (false≢true e)

-- a constant's value is its literal
pub constant_value : (o : Op) (l : ℕ) (w : List ℕ) (x y z : ℕ) → constant? o ≡ true → value_of o l w x y z ≡ l
constant_value o l w x y z e = let P : Op → Type 0 = λ q. value_of q l w x y z ≡ l in subst P (sym (only_constant o e)) refl

pub constant_word : (o : Op) (l : ℕ) → constant? o ≡ true → l < limit o → l < word
constant_word o l e h = subst (λ q. l < limit q) (only_constant o e) h

-- an operation with operands reads no input
pub value_closed :
    (o : Op) (l : ℕ) (w u : List ℕ) (x y z : ℕ) → takes 0 o ≡ true → value_of o l w x y z ≡ value_of o l u x y z
value_closed Input l w u x y z e = absurd (false≢true e)
value_closed o l w u x y z e = refl

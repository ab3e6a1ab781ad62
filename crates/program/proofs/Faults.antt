-- The checks of the commands, as the code makes them one by one.
use Rattle.std.proofs.Common.{◌≡◌, ℕ, Bool, true, false, ltb, [], ◌∷◌, take, Some, None, Ok, Err, Option, refl, ap, ◌∙◌, arith}
use Rattle.std.specs.Option.{option_or}
use Rattle.ir.specs.Operations.{arity}
use Rattle.ir.specs.Instructions.{Instr}
use Rattle.ir.specs.declared.operation.Op.{Op}
use Rattle.ir.specs.declared.operation.Op.TheVariants.{Constant, Input, Add, Subtract, Multiply, And, Or, Xor, Less, Equal, Pick, Shift, Out}
use Rattle.program.specs.declared.fault.StoreFault.{StoreFault}
use Rattle.program.specs.Programs.{Program, operands}
use Rattle.program.specs.Faults.{first_fault, when, unless}
use Rattle.program.specs.Commands.{verdict, settled}
use Rattle.program.specs.Readings.{answered}

pub or_none : (o : Option StoreFault) → option_or o None ≡ o
or_none None = refl
or_none (Some f) = refl

-- the operands one after another
by_arity : (op : Op) (f : ℕ → Option StoreFault) (a b c : ℕ) → first_fault f (take (arity op) (a ∷ (b ∷ (c ∷ [])))) ≡ option_or (when (ltb 0 (arity op)) (f a)) (option_or (when (ltb 1 (arity op)) (f b)) (when (ltb 2 (arity op)) (f c)))
by_arity Constant f a b c = refl
by_arity Input f a b c = refl
by_arity Add f a b c = refl
by_arity Subtract f a b c = refl
by_arity Multiply f a b c = refl
by_arity And f a b c = refl
by_arity Or f a b c = refl
by_arity Xor f a b c = refl
by_arity Less f a b c = refl
by_arity Equal f a b c = refl
by_arity Pick f a b c = ap (λ o. option_or (f a) (option_or (f b) o)) (or_none (f c))
by_arity Shift f a b c = refl
by_arity Out f a b c = refl

pub in_turn : (f : ℕ → Option StoreFault) (i : Instr) → first_fault f (operands i) ≡ option_or (when (ltb 0 (arity i.op)) (f i.a)) (option_or (when (ltb 1 (arity i.op)) (f i.b)) (when (ltb 2 (arity i.op)) (f i.c)))
in_turn f i = by_arity i.op f i.a i.b i.c

-- ---- what no fault says

pub or_left_none : {A : Type 0} (o p : Option A) → option_or o p ≡ None → o ≡ None
or_left_none None p e = refl
or_left_none (Some f) p e = e

pub or_right_none : {A : Type 0} (o p : Option A) → option_or o p ≡ None → p ≡ None
or_right_none None p e = e
or_right_none (Some f) p e = let z : ◌≡◌ {A = ℕ} 0 1 = cc in absurd (omega arith)

pub unless_none : (b : Bool) (f : StoreFault) → unless b f ≡ None → b ≡ true
unless_none true f e = refl
unless_none false f e = let z : ◌≡◌ {A = ℕ} 0 1 = cc in absurd (omega arith)

pub answered_none : {A : Type 0} (f : Option StoreFault) (x y : A) → None ≡ f → x ≡ y → Ok x ≡ answered f y
answered_none f x y e q = ap Ok q ∙ ap (λ g. answered g y) e

-- ---- what the answer of a check says

pub allowed : (f : Option StoreFault) (u : Unit {0}) → Ok u ≡ verdict f → f ≡ None
allowed None u e = refl
allowed (Some g) u e = let z : ◌≡◌ {A = ℕ} 0 1 = cc in absurd (omega arith)

-- an accepted command leaves the new one
pub settles : (o : Option StoreFault) (new old : Program) → o ≡ None → settled o new old ≡ new
settles o new old e = ap (λ z. settled z new old) e

-- a refused command leaves the program
pub refused : (f : Option StoreFault) (g : StoreFault) (new old : Program) → Err g ≡ verdict f → old ≡ settled f new old
refused None g new old e = let z : ◌≡◌ {A = ℕ} 0 1 = cc in absurd (omega arith)
refused (Some h) g new old e = refl

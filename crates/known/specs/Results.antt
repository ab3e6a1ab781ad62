-- Results that anyone can work out by hand.
use Rattle.std.specs.Prelude.{◌≡◌, ℕ, List, [], ◌∷◌, Some, None}
use Rattle.std.specs.List.{AllByRecursion}
use Rattle.ir.specs.declared.operation.Op.TheVariants.{Input, Add, Subtract, Multiply, Shift, Out}
use Rattle.ir.specs.Instructions.{Instr, constant_of}
use Rattle.ir.specs.Values.{value_of}
use Rattle.program.specs.Programs.{Program, new_program}
use Rattle.runs.specs.Prices.{Costing, price, by_size, by_delay}
use Rattle.rules.specs.Trials.{trial, did, spared_pass}

-- input 3, the constant 8, some instruction, and an out of it to channel 5, numbered and placed 1 to 4
abbrev pub script : Instr → Program
script third =
    record {
      cells = None ∷ Some (record { op = Input; literal = 3; a = 0; b = 0; c = 0 }) ∷ Some (constant_of 8) ∷ Some third
          ∷ Some (record { op = Out; literal = 5; a = 3; b = 0; c = 0 }) ∷ [];
      order = 1 ∷ 2 ∷ 3 ∷ 4 ∷ [];
    }

-- the third is the product of the first two
abbrev pub product : Program
product = script (record { op = Multiply; literal = 0; a = 1; b = 2; c = 0 })

-- the third is the first shifted by 3
abbrev pub shifted : Program
shifted = script (record { op = Shift; literal = 3; a = 1; b = 0; c = 0 })

-- each result with what it is known to be
abbrev pub results : List (ℕ × ℕ)
results =
    (value_of Add 0 [] 4294967295 1 0, 0) ∷ (value_of Subtract 0 [] 0 1 0, 4294967295) ∷ (price by_size product, 10)
    ∷ (price by_delay product, 7) ∷ (price by_size shifted, 11) ∷ (price by_delay shifted, 3)
    ∷ ((trial by_size product 3).1, 0) ∷ ((trial by_delay product 3).1, 6) ∷ (price by_size (new_program 16), 0)
    ∷ (price by_delay (new_program 16), 0) ∷ []

-- the table holds; the trial that answers 6 makes the product a shift; and a pass over an empty program answers 0, under any cost model and with any number of records left
pub record KnownResults : Type 0 where
  pub table : AllByRecursion (λ r. r.0 ≡ r.1) results
  pub becomes : (trial by_delay product 3).0 ≡ shifted
  pub empty : (c : Costing) (size left : ℕ) → spared_pass c (new_program size) left ≡ did (new_program size) left 0

-- What price and run answer, and what they leave in the memory that they are lent.
use Rattle.std.specs.Prelude.{ℕ, ◌*◌, cond, List, [], ◌∷◌, ◌++◌, length, drop, replicate, Some, None, Ok, Err, Option, Result, ◌==◌, nat_lt}
use Rattle.std.specs.Option.{option_or}
use Rattle.ir.specs.declared.fault.Layer.{Layer}
use Rattle.ir.specs.declared.fault.Report.{Report}
use Rattle.program.specs.Programs.{Program, size}
use Rattle.runs.specs.declared.fault.RunFault.{RunFault}
use Rattle.runs.specs.declared.fault.RunFault.TheVariants.{ScratchTooShort, IllFormed, InputCount, OutputTooShort}
use Rattle.runs.specs.Runs.{outputs, outs}
use Rattle.runs.specs.Prices.{Costing, price}
use Rattle.runs.specs.Form.{broken}

-- number, layer P, and the place: the words needed, the instruction, the count of inputs, the words needed
abbrev pub run_report : RunFault → Report
run_report (ScratchTooShort words) = record { number = 14; layer = Layer.Program; place = words }
run_report (IllFormed n) = record { number = 15; layer = Layer.Program; place = n }
run_report (InputCount count) = record { number = 16; layer = Layer.Program; place = count }
run_report (OutputTooShort words) = record { number = 17; layer = Layer.Program; place = words }

-- scratch words come back zero, accepted or refused
abbrev pub zeros : ℕ → List ℕ
zeros words = replicate words 0

-- 14: fewer scratch words than the program has numbers
abbrev pub scratch_fault : Program → ℕ → Option RunFault
scratch_fault p words = cond (nat_lt words (size p)) (Some (ScratchTooShort (size p))) None

abbrev pub ill_formed : Option ℕ → Option RunFault
ill_formed None = None
ill_formed (Some n) = Some (IllFormed n)

-- 14, then 15: the program is not well formed
abbrev pub price_fault : Program → ℕ → Option RunFault
price_fault p words = option_or (scratch_fault p words) (ill_formed (broken p))

-- 16: there are not sixteen inputs
abbrev pub input_fault : List ℕ → Option RunFault
input_fault inputs = cond (length inputs == 16) None (Some (InputCount (length inputs)))

-- 17: the output memory has not two words for each out
abbrev pub output_fault : Program → ℕ → Option RunFault
output_fault p room = cond (nat_lt room (2 * outs p)) (Some (OutputTooShort (2 * outs p))) None

-- 14, 15, 16, 17 in this order
abbrev pub run_fault : Program → ℕ → List ℕ → ℕ → Option RunFault
run_fault p words inputs room = option_or (price_fault p words) (option_or (input_fault inputs) (output_fault p room))

-- whether there is a fault
abbrev pub checked : Option RunFault → Result (Unit {0}) RunFault
checked None = Ok tt
checked (Some f) = Err f

-- the fault if there is one, else the number
abbrev pub counted : Option RunFault → ℕ → Result ℕ RunFault
counted None x = Ok x
counted (Some f) x = Err f

-- a memory: the new one without a fault, the old one with it
abbrev pub either : Option RunFault → List ℕ → List ℕ → List ℕ
either None new old = new
either (Some f) new old = old

abbrev pub price_answer : Costing → Program → ℕ → Result ℕ RunFault
price_answer c p words = counted (price_fault p words) (price c p)

-- a run answers how many outs there are
abbrev pub run_answer : Program → ℕ → List ℕ → ℕ → Result ℕ RunFault
run_answer p words inputs room = counted (run_fault p words inputs room) (outs p)

-- channel and value of each output, two words
abbrev pub in_words : List (ℕ × ℕ) → List ℕ
in_words [] = []
in_words (y ∷ ys) = y.0 ∷ (y.1 ∷ in_words ys)

abbrev pub written : Option RunFault → List ℕ → List ℕ → List ℕ
written None words old = words ++ drop (length words) old
written (Some f) words old = old

-- the output memory after a run: the outputs, and the words behind them as they were; all as it was if the run is refused
abbrev pub after_run : Program → ℕ → List ℕ → List ℕ → List ℕ
after_run p words inputs old = written (run_fault p words inputs (length old)) (in_words (outputs p inputs)) old

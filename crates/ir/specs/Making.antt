-- Which five numbers are a record.
use Rattle.std.specs.Prelude.{◌≡◌, ℕ, Bool, cond, not, ◌&&◌, Some, None, Ok, Err, Option, Result, ◌==◌, nat_lt}
use Rattle.ir.specs.declared.operation.Op.{Op}
use Rattle.ir.specs.declared.instruction.Record.{Record}
use Rattle.ir.specs.declared.fault.Layer.{Layer}
use Rattle.ir.specs.declared.fault.Report.{Report}
use Rattle.ir.specs.declared.maker.RecordFault.{RecordFault}
use Rattle.ir.specs.declared.maker.UnknownCode.{UnknownCode}
use Rattle.ir.specs.declared.maker.RecordFault.TheVariants.{Malformed}
use Rattle.ir.specs.Operations.{arity, limit, operation_of}

-- every fault of a record has number 5 and layer R
abbrev pub record_report : RecordFault → Report
record_report (Malformed place) = record { number = 5; layer = Layer.Record; place = place }

-- the result is the operation of the code; one that no operation has is handed back
abbrev pub Decodes : ℕ → Result Op UnknownCode → Type 0
Decodes code (Ok op) = operation_of code ≡ Some op
Decodes code (Err e) = (operation_of code ≡ None) × (e.code ≡ code)

-- an operand that is absent and not 0
abbrev pub stray : Op → ℕ → ℕ → Bool
stray op position x = nat_lt (arity op) position && not (x == 0)

-- the place of the first fault of an operation's literal and operands
abbrev pub misshape : Op → ℕ → ℕ → ℕ → ℕ → Option ℕ
misshape op literal a b c =
    cond (nat_lt literal (limit op))
    (cond (stray op 1 a) (Some 1) (cond (stray op 2 b) (Some 2) (cond (stray op 3 c) (Some 3) None)))
    (Some 0)

abbrev pub fault_in : Option Op → ℕ → ℕ → ℕ → ℕ → Option ℕ
fault_in None literal a b c = Some 0
fault_in (Some op) literal a b c = misshape op literal a b c

-- the place of the first fault of five numbers: 0 for the code or the literal, else the operand's position
abbrev pub fault_place : ℕ → ℕ → ℕ → ℕ → ℕ → Option ℕ
fault_place code literal a b c = fault_in (operation_of code) literal a b c

-- a record of just these five numbers if they have no fault, and else the place of the first
abbrev pub Made : ℕ → ℕ → ℕ → ℕ → ℕ → Result Record RecordFault → Type 0
Made code literal a b c (Ok r) =
    (fault_place code literal a b c ≡ None)
    × (operation_of code ≡ Some r.op)
    × (r.literal ≡ literal)
    × (r.a ≡ a)
    × (r.b ≡ b)
    × (r.c ≡ c)
Made code literal a b c (Err (Malformed place)) = fault_place code literal a b c ≡ Some place

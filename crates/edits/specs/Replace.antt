-- Replace: m for n at every use of n, as one rewrite for each use.
use Rattle.std.specs.Prelude.{◌≡◌, ℕ, zero, suc, Bool, cond, not, ◌&&◌, List, [], ◌∷◌, map, Some, None, Option, ◌==◌, ◌≢◌}
use Rattle.std.specs.Option.{option_or}
use Rattle.ir.specs.Instructions.{Instr}
use Rattle.program.specs.declared.fault.StoreFault.{StoreFault}
use Rattle.program.specs.declared.fault.StoreFault.TheVariants.{WrongState, BadOperand}
use Rattle.program.specs.Programs.{Program, Cell, at, Busy, has, operands, Operands, takes, state_of, is_free}
use Rattle.program.specs.Uses.{uses}
use Rattle.program.specs.Faults.{unless, range_fault}
use Rattle.program.specs.Proper.{Proper}
use Rattle.edits.specs.Commands.{Edit, rewrite, fault_of, after, Fair}

-- m in the place of n at an operand that is there
abbrev pub swapped : Bool → ℕ → ℕ → ℕ → ℕ
swapped present n m x = cond (present && x == n) m x

abbrev pub rename : ℕ → ℕ → Instr → Instr
rename n m i =
    record {
      op = i.op;
      literal = i.literal;
      a = swapped (takes 0 i.op) n m i.a;
      b = swapped (takes 1 i.op) n m i.b;
      c = swapped (takes 2 i.op) n m i.c;
    }

abbrev pub rename_cell : ℕ → ℕ → Cell → Cell
rename_cell n m None = None
rename_cell n m (Some i) = Some (rename n m i)

-- m for n at every operand of every instruction, loose ones too
abbrev pub replace : ℕ → ℕ → Program → Program
replace n m p = record { cells = map (rename_cell n m) p.cells; order = p.order }

-- 4 at n, 4 at m, 6 at n, 6 at m, then 7 at m where it is n or reads n
abbrev pub replace_fault : Program → ℕ → ℕ → Option StoreFault
replace_fault p n m =
    option_or (range_fault p n)
    (option_or (range_fault p m)
    (option_or (unless (not (is_free (state_of p n))) (WrongState n))
    (option_or (unless (not (is_free (state_of p m))) (WrongState m))
    (unless (not (m == n) && not (has n (operands (at p m)))) (BadOperand m)))))

-- n and m are not free, m is another number and does not read n
pub record Replaceable (p : Program) (n m : ℕ) : Type 0 where
  pub busy_n : Busy p n
  pub busy_m : Busy p m
  pub other : m ≡ n → ⊥
  pub reads_not : Operands (at p m) (λ k. k ≢ n)

-- no fault, exactly if
abbrev pub ReplaceAccepted : Type 0
ReplaceAccepted =
    (p : Program) (n m : ℕ) → (replace_fault p n m ≡ None → Replaceable p n m) × (Replaceable p n m → replace_fault p n m ≡ None)

-- ---- use by use

-- m as the operand at a position, from 1
abbrev pub swap_at : ℕ → ℕ → Instr → Instr
swap_at zero m i = i
swap_at (suc zero) m i = record { op = i.op; literal = i.literal; a = m; b = i.b; c = i.c }
swap_at (suc (suc zero)) m i = record { op = i.op; literal = i.literal; a = i.a; b = m; c = i.c }
swap_at (suc (suc (suc zero))) m i = record { op = i.op; literal = i.literal; a = i.a; b = i.b; c = m }
swap_at (suc (suc (suc (suc k)))) m i = i

-- the rewrite at one use
abbrev pub swap : Program → ℕ → ℕ × ℕ → Edit
swap p m y = rewrite y.0 (swap_at y.1 m (at p y.0))

-- the rewrite at the least use is accepted, leaves the other uses, and brings the whole no nearer or further
pub record OneSwap (p : Program) (n m : ℕ) (y : ℕ × ℕ) (ys : List (ℕ × ℕ)) : Type 0 where
  pub fair : Fair (swap p m y)
  pub accepted : fault_of p (swap p m y) ≡ None
  pub left : uses (after p (swap p m y)) n ≡ ys
  pub same : replace n m (after p (swap p m y)) ≡ replace n m p
  pub still : Replaceable (after p (swap p m y)) n m

abbrev pub ReplaceStep : Type 0
ReplaceStep =
    (p : Program) (n m : ℕ) (y : ℕ × ℕ) (ys : List (ℕ × ℕ)) → Proper p → Replaceable p n m → uses p n ≡ y ∷ ys → OneSwap p n m y ys

-- with no use left, replacing changes nothing
abbrev pub ReplaceEnd : Type 0
ReplaceEnd = (p : Program) (n m : ℕ) → uses p n ≡ [] → replace n m p ≡ p

-- afterwards n has no use
abbrev pub ReplaceLaw : Type 0
ReplaceLaw = (p : Program) (n m : ℕ) → Proper p → replace_fault p n m ≡ None → Proper (replace n m p) × (uses (replace n m p) n ≡ [])

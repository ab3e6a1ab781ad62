-- The links of the use lists as one list of numbers: at 4 * n the head of n's list, at 4 * n + p what follows n's use at position p.
use Rattle.std.specs.Prelude.{◌≡◌, ℕ, ◌+◌, ◌*◌, ◌<◌, List, [], ◌∷◌, length, Some, None, Option, ◌≢◌, slice_index_or}
use Rattle.linked.specs.declared.cells.LinkedCell.{LinkedCell}
use Rattle.linked.specs.declared.cells.Body.TheVariants.{Vacant}
use Rattle.linked.specs.declared.cells.Node.{Node}
use Rattle.linked.specs.declared.cells.Seat.{Seat}
use Rattle.linked.specs.declared.cells.Seat.TheVariants.{Head, A as AtA, B as AtB, C as AtC}
use Rattle.linked.specs.declared.cells.Threads.{Threads}
use Rattle.linked.specs.LinkedModel.{threads_of, bodies, SameOrder}
use Rattle.linked.specs.Uses.{Threaded}

-- 0 for the head, and the operand's position from 1
abbrev pub seat_of : Seat → ℕ
seat_of Head = 0
seat_of AtA = 1
seat_of AtB = 2
seat_of AtC = 3

-- a node as its number and position
abbrev pub pair : Node → ℕ × ℕ
pair x = (x.number, seat_of x.seat)

-- where a node stands among all nodes
abbrev pub place : Node → ℕ
place x = 4 * x.number + seat_of x.seat

-- what follows the last use of a list
abbrev pub no_use : Node
no_use = record { number = 1024; seat = Head }

-- a cell of a new store
abbrev pub blank_cell : LinkedCell
blank_cell = record { body = Vacant; links = record { next = 0; prev = 0 }; threads = record { head = no_use; a = no_use; b = no_use; c = no_use } }

-- the link at a seat
abbrev pub slot_of : Threads → Seat → Node
slot_of t Head = t.head
slot_of t AtA = t.a
slot_of t AtB = t.b
slot_of t AtC = t.c

-- the links with another one at a seat
abbrev pub with_slot : Threads → Seat → Node → Threads
with_slot t Head v = record { head = v; a = t.a; b = t.b; c = t.c }
with_slot t AtA v = record { head = t.head; a = v; b = t.b; c = t.c }
with_slot t AtB v = record { head = t.head; a = t.a; b = v; c = t.c }
with_slot t AtC v = record { head = t.head; a = t.a; b = t.b; c = v }

-- the links of many cells, one after another
abbrev pub flat : List Threads → List ℕ
flat [] = []
flat (t ∷ ts) = place t.head ∷ (place t.a ∷ (place t.b ∷ (place t.c ∷ flat ts)))

-- the links of the cells
abbrev pub links : List LinkedCell → List ℕ
links cells = flat (threads_of cells)

-- the operand of a place in a table of operands, 4096 for none
abbrev pub entry : Option ℕ → ℕ
entry None = 4096
entry (Some v) = v

-- the use lists of the cells thread the uses of a table
abbrev pub Lists : List LinkedCell → List ℕ → Type 0
Lists cells qs = Threaded (length cells) qs (links cells)

-- the links thread the uses of some table
abbrev pub Woven : List LinkedCell → Type 0
Woven cells = (qs : List ℕ) × Lists cells qs

-- nothing but the links of the use lists has changed
pub record OnlyThreads (old new : List LinkedCell) : Type 0 where
  pub order : SameOrder old new
  pub bodies : bodies new ≡ bodies old

-- the use of v at x is in no list yet
pub record Open (cells : List LinkedCell) (qs : List ℕ) (v x : ℕ) : Type 0 where
  pub lists : Lists cells qs
  pub value : v < length cells
  pub within : x < 4 * length cells
  pub plain : (u : ℕ) → x ≢ 4 * u
  pub free : slice_index_or qs x 4096 ≡ 4096

-- the use of v at x is in v's list
pub record Held (cells : List LinkedCell) (qs : List ℕ) (v x : ℕ) : Type 0 where
  pub lists : Lists cells qs
  pub value : v < length cells
  pub used : slice_index_or qs x 4096 ≡ v

-- the operand at x is `old`, and `new` may stand there
pub record Changing (cells : List LinkedCell) (qs : List ℕ) (x : ℕ) (old new : Option ℕ) : Type 0 where
  pub lists : Lists cells qs
  pub within : x < 4 * length cells
  pub plain : (u : ℕ) → x ≢ 4 * u
  pub used : slice_index_or qs x 4096 ≡ entry old
  pub was : (v : ℕ) → old ≡ Some v → v < length cells
  pub value : (v : ℕ) → new ≡ Some v → v < length cells

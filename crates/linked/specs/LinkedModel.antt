-- What the cells of the linked store stand for.
use Rattle.std.specs.Prelude.{◌≡◌, ℕ, ◌+◌, ◌⊎◌, List, [], ◌∷◌, ◌++◌, map, length, Some, None, Option, slice_index, slice_index_or, slice_set}
use Rattle.ir.specs.declared.instruction.Record.{Record}
use Rattle.ir.specs.Instructions.{Instr, plain}
use Rattle.program.specs.declared.state.State.{State}
use Rattle.program.specs.declared.state.State.TheVariants.{Free, Loose, Placed as IsPlaced}
use Rattle.program.specs.Programs.{Program}
use Rattle.linked.specs.declared.cells.Body.{Body}
use Rattle.linked.specs.declared.cells.Body.TheVariants.{Vacant, Idle, Placed}
use Rattle.linked.specs.declared.cells.LinkedCell.{LinkedCell}
use Rattle.linked.specs.declared.cells.Threads.{Threads}
use Rattle.linked.specs.Rings.{occurs, trail, Ring}

-- the instruction of a body
abbrev pub content : Body → Option Instr
content Vacant = None
content (Idle r) = Some (plain r)
content (Placed r) = Some (plain r)

-- the record of a body
abbrev pub record_of : Body → Option Record
record_of Vacant = None
record_of (Idle r) = Some r
record_of (Placed r) = Some r

-- 1 for a placed body, 0 for any other
abbrev pub mark : Body → ℕ
mark Vacant = 0
mark (Idle r) = 0
mark (Placed r) = 1

-- the state of a body's number
abbrev pub tag : Body → State
tag Vacant = Free
tag (Idle r) = Loose
tag (Placed r) = IsPlaced

-- the bodies of the cells
abbrev pub bodies : List LinkedCell → List Body
bodies cells = map (λ c. c.body) cells

-- the links of the use lists, cell by cell
abbrev pub threads_of : List LinkedCell → List Threads
threads_of cells = map (λ c. c.threads) cells

-- for each number the next of the order; last stands the store's size, whose next is the first
abbrev pub nexts : List LinkedCell → ℕ → List ℕ
nexts cells first = map (λ c. c.links.next) cells ++ (first ∷ [])

-- for each number the one before it in the order; before the store's size is the last
abbrev pub prevs : List LinkedCell → ℕ → List ℕ
prevs cells last = map (λ c. c.links.prev) cells ++ (last ∷ [])

-- the link of a node
abbrev pub at : List ℕ → ℕ → ℕ
at links k = slice_index links k

-- how many bodies are placed
abbrev pub placed_count : List Body → ℕ
placed_count [] = 0
placed_count (b ∷ bs) = mark b + placed_count bs

-- the placed numbers, as the links go from the store's size on
abbrev pub order_of : List Body → List ℕ → List ℕ
order_of bs ns = trail (at ns) (placed_count bs) (at ns (length bs))

-- the program of bodies and links
abbrev pub program_by : List Body → List ℕ → Program
program_by bs ns = record { cells = map content bs; order = order_of bs ns }

-- the program that the cells stand for
abbrev pub linked_program : List LinkedCell → ℕ → Program
linked_program cells first = program_by (bodies cells) (nexts cells first)

-- the links of the order are as they were
pub record SameOrder (old new : List LinkedCell) : Type 0 where
  pub nexts : (first : ℕ) → nexts new first ≡ nexts old first
  pub prevs : (last : ℕ) → prevs new last ≡ prevs old last

-- nothing but the links of the order has changed
pub record OnlyLinks (old new : List LinkedCell) : Type 0 where
  pub bodies : bodies new ≡ bodies old
  pub threads : threads_of new ≡ threads_of old

-- the next links after n went between t and the node before t
abbrev pub next_in : List ℕ → List ℕ → ℕ → ℕ → List ℕ
next_in ns ps n t = slice_set (slice_set ns (at ps t) n) n t

-- the links to the one before, after n went between t and the node before t
abbrev pub prev_in : List ℕ → ℕ → ℕ → List ℕ
prev_in ps n t = slice_set (slice_set ps n (at ps t)) t n

-- the next links after n went out from between the nodes beside it
abbrev pub next_out : List ℕ → List ℕ → ℕ → List ℕ
next_out ns ps n = slice_set ns (at ps n) (at ns n)

-- the links to the one before, after n went out from between the nodes beside it
abbrev pub prev_out : List ℕ → List ℕ → ℕ → List ℕ
prev_out ns ps n = slice_set ps (at ns n) (at ps n)

-- an order that the links go through both ways
pub record Chained (bs : List Body) (ns ps : List ℕ) (o : List ℕ) : Type 0 where
  pub wide : length ns ≡ length bs + 1
  pub wide_back : length ps ≡ length bs + 1
  pub ring : Ring (at ns) (at ps) (length bs) o (length bs)
  pub marks : (n : ℕ) → mark (slice_index_or bs n Vacant) ≡ occurs n o
  pub count : placed_count bs ≡ length o

-- the links of the cells and both ends go through the order
abbrev pub Linked : List LinkedCell → ℕ → ℕ → Type 0
Linked cells first last = Chained (bodies cells) (nexts cells first) (prevs cells last) (order_of (bodies cells) (nexts cells first))

-- a body as a link leaves it
abbrev pub place_body : Body → Body
place_body Vacant = Vacant
place_body (Idle r) = Placed r
place_body (Placed r) = Placed r

-- a body as an unlink leaves it
abbrev pub loosen_body : Body → Body
loosen_body Vacant = Vacant
loosen_body (Idle r) = Idle r
loosen_body (Placed r) = Idle r

-- where a link may go: before a placed number or at the end
abbrev pub Anchor : List LinkedCell → ℕ → Type 0
Anchor cells t = (t ≡ length cells) ⊎ (tag (slice_index_or (bodies cells) t Vacant) ≡ IsPlaced)

-- The links of the use lists, read and written through the cells.
use Rattle.std.proofs.Common.{◌≡◌, ℕ, zero, suc, ◌+◌, ◌*◌, ◌<◌, ◌≤◌, Bool, true, false, cond, ◌&&◌, ◌||◌, eqb, ltb, List, [], ◌∷◌, length, get_or, set, Some, None, Option, sym, refl, ap, ◌∙◌, subst, ⊎_elim, arith}
use Rattle.std.proofs.lemmas.Bool.{cases_lt, cases_order, eq-eqb, ne_eqb, lt-ltb, le-ltb}
use Rattle.std.specs.declared.cmp.Ordering.{Ordering}
use Rattle.std.specs.declared.cmp.Ordering.TheVariants.{Less, Equal, Greater}
use Rattle.std.specs.Ordering.{is_lt, is_some_and, nat_cmp, partial_lt, partial_ordering_then}
use Rattle.program.specs.Uses.{before}
use Rattle.linked.specs.contracts.cells.SeatPartialOrd.TheImpl.{partial_cmp-value as seat_order}
use Rattle.linked.specs.contracts.cells.NodePartialOrd.TheImpl.{partial_cmp-value}
use Rattle.linked.specs.declared.cells.LinkedCell.{LinkedCell}
use Rattle.linked.specs.declared.cells.Node.{Node}
use Rattle.linked.specs.declared.cells.Seat.{Seat}
use Rattle.linked.specs.declared.cells.Seat.TheVariants.{Head, A, B, C}
use Rattle.linked.specs.declared.cells.Threads.{Threads}
use Rattle.linked.specs.Slots.{seat_of, pair, place, slot_of, with_slot, links}

pub seat_low : (s : Seat) → seat_of s < 4
seat_low Head = omega arith
seat_low A = omega arith
seat_low B = omega arith
seat_low C = omega arith

-- a node that stands in a list, and what follows the last use
pub node_found : (x y : Node) → cond (ltb x.number 1024) (Some x) None ≡ Some y → (place y ≡ place x) × (place y < 4096)
node_found x y e =
    ⊎_elim
    (λ l.
    let a : Some x ≡ Some y = sym (ap (λ b. cond b (Some x) None) (lt-ltb x.number 1024 l)) ∙ e in
    let is : x ≡ y = cc in
    let s = seat_low x.seat in
    (ap place (sym is), subst (λ z. place z < 4096) is (omega arith)))
    (λ m.
    let a : ◌≡◌ {A = Option Node} None (Some y) = sym (ap (λ b. cond b (Some x) None) (le-ltb x.number 1024 m)) ∙ e in
    absurd (cc))
    (cases_lt x.number 1024)

pub node_lost : (x : Node) → cond (ltb x.number 1024) (Some x) None ≡ None → 4096 ≤ place x
node_lost x e =
    ⊎_elim
    (λ l.
    let a : Some x ≡ None = sym (ap (λ b. cond b (Some x) None) (lt-ltb x.number 1024 l)) ∙ e in
    absurd (cc))
    (λ m. omega arith)
    (cases_lt x.number 1024)

-- nodes go by number, then by seat
less_then : (m n : ℕ) (o : Option Ordering) → is_some_and is_lt (partial_ordering_then (Some (nat_cmp m n)) o) ≡ (ltb m n || (eqb m n && is_some_and is_lt o))
less_then m n o =
    elim (ltb m n) as (λ b. is_some_and is_lt (partial_ordering_then (Some (cond b Less (cond (eqb m n) Equal Greater))) o) ≡ (b || (eqb m n && is_some_and is_lt o))) [
      | true ↦ refl
      | false ↦ elim (eqb m n) as (λ e. is_some_and is_lt (partial_ordering_then (Some (cond e Equal Greater)) o) ≡ (e && is_some_and is_lt o)) [ true ↦ refl | false ↦ refl ]
    ]

less_seat : (s t : Seat) → is_some_and is_lt (seat_order.it s t) ≡ ltb (seat_of s) (seat_of t)
less_seat Head Head = refl
less_seat Head A = refl
less_seat Head B = refl
less_seat Head C = refl
less_seat A Head = refl
less_seat A A = refl
less_seat A B = refl
less_seat A C = refl
less_seat B Head = refl
less_seat B A = refl
less_seat B B = refl
less_seat B C = refl
less_seat C Head = refl
less_seat C A = refl
less_seat C B = refl
less_seat C C = refl

before_place : (x y : Node) → before (pair x) (pair y) ≡ ltb (place x) (place y)
before_place x y =
    let s = seat_low x.seat in
    let t = seat_low y.seat in
    let inner : Bool = eqb x.number y.number && ltb (seat_of x.seat) (seat_of y.seat) in
    ⊎_elim
    (λ e.
    ap (λ b. b || inner) (le-ltb x.number y.number (omega arith))
    ∙ ap (λ b. b && ltb (seat_of x.seat) (seat_of y.seat)) (eq-eqb x.number y.number e)
    ∙ ⊎_elim
    (λ l. lt-ltb (seat_of x.seat) (seat_of y.seat) l ∙ sym (lt-ltb (place x) (place y) (omega arith)))
    (λ l. le-ltb (seat_of x.seat) (seat_of y.seat) l ∙ sym (le-ltb (place x) (place y) (omega arith)))
    (cases_lt (seat_of x.seat) (seat_of y.seat)))
    (λ ne.
    ⊎_elim
    (λ l. ap (λ b. b || inner) (lt-ltb x.number y.number l) ∙ sym (lt-ltb (place x) (place y) (omega arith)))
    (λ l.
    ap (λ b. b || inner) (le-ltb x.number y.number (omega arith))
    ∙ ap (λ b. b && ltb (seat_of x.seat) (seat_of y.seat)) (ne_eqb x.number y.number (λ e. omega arith))
    ∙ sym (le-ltb (place x) (place y) (omega arith)))
    ne)
    (cases_order x.number y.number)

pub less_place : (x y : Node) → partial_lt partial_cmp-value.it x y ≡ ltb (place x) (place y)
less_place x y =
    less_then x.number y.number (seat_order.it x.seat y.seat)
    ∙ ap (λ b. ltb x.number y.number || (eqb x.number y.number && b)) (less_seat x.seat y.seat)
    ∙ before_place x y

four_at : (t : Threads) (ls : List ℕ) (s : Seat) → get_or (place t.head ∷ (place t.a ∷ (place t.b ∷ (place t.c ∷ ls)))) (seat_of s) 0 ≡ place (slot_of t s)
four_at t ls Head = refl
four_at t ls A = refl
four_at t ls B = refl
four_at t ls C = refl

four_set : (t : Threads) (ls : List ℕ) (s : Seat) (v : Node) → place (with_slot t s v).head ∷ (place (with_slot t s v).a ∷ (place (with_slot t s v).b ∷ (place (with_slot t s v).c ∷ ls))) ≡ set (place t.head ∷ (place t.a ∷ (place t.b ∷ (place t.c ∷ ls)))) (seat_of s) (place v)
four_set t ls Head v = refl
four_set t ls A v = refl
four_set t ls B v = refl
four_set t ls C v = refl

flat_at : (xs : List LinkedCell) (u : ℕ) (s : Seat) (d : LinkedCell) → u < length xs → get_or (links xs) (4 * u + seat_of s) 0 ≡ place (slot_of (get_or xs u d).threads s)
flat_at [] u s d h = absurd (omega arith)
flat_at (y ∷ ys) zero s d h =
    let z : 4 * 0 + seat_of s ≡ seat_of s = omega arith in
    ap (λ k. get_or (links (y ∷ ys)) k 0) z ∙ four_at y.threads (links ys) s
flat_at (y ∷ ys) (suc u) s d h =
    let z : 4 * suc u + seat_of s ≡ suc (suc (suc (suc (4 * u + seat_of s)))) = omega arith in
    ap (λ k. get_or (links (y ∷ ys)) k 0) z ∙ flat_at ys u s d (omega arith)

flat_set : (xs : List LinkedCell) (u : ℕ) (s : Seat) (v : Node) (y d : LinkedCell) → u < length xs → y.threads ≡ with_slot (get_or xs u d).threads s v → links (set xs u y) ≡ set (links xs) (4 * u + seat_of s) (place v)
flat_set [] u s v y d h q = absurd (omega arith)
flat_set (z ∷ zs) zero s v y d h q =
    let same : seat_of s ≡ 4 * 0 + seat_of s = omega arith in
    ap (λ c. place c.head ∷ (place c.a ∷ (place c.b ∷ (place c.c ∷ links zs)))) q ∙ four_set z.threads (links zs) s v ∙ ap (λ k. set (links (z ∷ zs)) k (place v)) same
flat_set (z ∷ zs) (suc u) s v y d h q =
    let same : suc (suc (suc (suc (4 * u + seat_of s)))) ≡ 4 * suc u + seat_of s = omega arith in
    ap (λ ls. place z.threads.head ∷ (place z.threads.a ∷ (place z.threads.b ∷ (place z.threads.c ∷ ls)))) (flat_set zs u s v y d (omega arith) q)
    ∙ ap (λ k. set (links (z ∷ zs)) k (place v)) same

pub slot_read : (xs : List LinkedCell) (k : Node) (d : LinkedCell) → k.number < length xs → place (slot_of (get_or xs k.number d).threads k.seat) ≡ get_or (links xs) (place k) 0
slot_read xs k d h = sym (flat_at xs k.number k.seat d h)

pub slot_write : (xs : List LinkedCell) (k v : Node) (y d : LinkedCell) → k.number < length xs → y.threads ≡ with_slot (get_or xs k.number d).threads k.seat v → links (set xs k.number y) ≡ set (links xs) (place k) (place v)
slot_write xs k v y d h q = flat_set xs k.number k.seat v y d h q

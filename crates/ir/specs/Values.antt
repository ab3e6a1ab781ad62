-- What an operation computes, over whole numbers. A word is a number below 2 ^ 32.
use Rattle.std.specs.Prelude.{ℕ, ◌+◌, ◌-◌, ◌*◌, ◌%◌, ◌^◌, cond, List, ◌==◌, bit_and, bit_or, bit_xor, nat_lt, slice_index}
use Rattle.ir.specs.declared.operation.Op.{Op}
use Rattle.ir.specs.declared.operation.Op.TheVariants.{Constant, Input, Add, Subtract, Multiply, And, Or, Xor, Less, Equal, Pick, Shift, Out}

-- how many words there are
abbrev pub word : ℕ
word = 4294967296

-- the value from the literal, the input words and the values x, y, z of the operands; a difference is taken modulo the number of words, so that 0 - 1 is the greatest word
abbrev pub value_of : Op → ℕ → List ℕ → ℕ → ℕ → ℕ → ℕ
value_of Constant literal inputs x y z = literal
value_of Input literal inputs x y z = slice_index inputs literal
value_of Add literal inputs x y z = (x + y) % word
value_of Subtract literal inputs x y z = (x + word - y) % word
value_of Multiply literal inputs x y z = (x * y) % word
value_of And literal inputs x y z = bit_and x y
value_of Or literal inputs x y z = bit_or x y
value_of Xor literal inputs x y z = bit_xor x y
value_of Less literal inputs x y z = cond (nat_lt x y) 1 0
value_of Equal literal inputs x y z = cond (x == y) 1 0
value_of Pick literal inputs x y z = cond (x == 0) z y
value_of Shift literal inputs x y z = (x * 2 ^ literal) % word
value_of Out literal inputs x y z = x

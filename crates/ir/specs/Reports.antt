-- The letters by which a refusal names the layer that found the fault: L R S T P.
use Rattle.std.specs.Prelude.{ℕ}
use Rattle.ir.specs.declared.fault.Layer.{Layer}
use Rattle.ir.specs.declared.fault.Layer.TheVariants.{Line, Record, Store, Saves, Program}

abbrev pub letter_of_layer : Layer → ℕ
letter_of_layer Line = 76
letter_of_layer Record = 82
letter_of_layer Store = 83
letter_of_layer Saves = 84
letter_of_layer Program = 80

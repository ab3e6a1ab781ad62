-- The table by computing it.
use Rattle.std.proofs.Common.{refl}
use Rattle.rules.specs.Rules.{rules}
use Rattle.rules.specs.Trials.{choice, spared_pass}
use Rattle.known.specs.Results.{KnownResults}

pub known_results : KnownResults
unfolding choice rules spared_pass
known_results =
    record {
      table = (refl, (refl, (refl, (refl, (refl, (refl, (refl, (refl, (refl, (refl, tt))))))))));
      becomes = refl;
      empty = λ c size left. refl;
    }

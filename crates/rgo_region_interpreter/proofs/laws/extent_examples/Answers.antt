use Rattle.std.proofs.Common.{refl}
use Rattle.rgo_region_interpreter.proofs.laws.extent_examples.Goals as goal

pub returns : goal.returns
returns c = record {
  within = refl;
  one_more = refl;
  two_more = refl;
  largest = refl;
  too_large = refl;
  none_reserved = refl;
  some_reserved = refl;
  all_reserved = refl;
  fits_own = refl;
  needs_own = refl;
}

use Rattle.std.proofs.Common.{refl}
use Rattle.rgo_region_machine.proofs.laws.examples.Goals as goal

pub returns : goal.returns
returns c = record {
  one = refl;
  twice = refl;
  meets = refl;
  meets_otherwise = refl;
  before_base = refl;
  after_base = refl;
  no_region = refl;
  no_page = refl;
  too_large = refl;
  unprotected = refl;
  no_offer = refl;
  no_acknowledgement = refl;
  trap = refl;
}

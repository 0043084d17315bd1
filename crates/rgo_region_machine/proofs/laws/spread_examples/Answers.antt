use Rattle.std.proofs.Common.{refl}
use Rattle.rgo_region_machine.proofs.laws.spread_examples.Goals as goal

pub returns : goal.returns
returns c = record {
  slice = refl;
  channel = refl;
  within_a_page = refl;
  one_data_page = refl;
  too_few = refl;
  too_many = refl;
  most = refl;
  over_most = refl;
  longest = refl;
  over_longest = refl;
  longest_pages = refl;
  over_longest_pages = refl;
  reserved = refl;
  own_page_filled = refl;
  own_page = refl;
  left = refl;
}

use Rattle.std.proofs.Common.{refl}
use Rattle.rgo_meaning.proofs.laws.examples.Goals as goal

pub returns : goal.returns
returns c = record {
  sum_prints = refl;
  division_traps = refl;
  both_meet = refl;
  waiting_sender_traps = refl;
  right_side_first = refl;
}

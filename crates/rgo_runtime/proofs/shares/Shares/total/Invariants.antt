use Rattle.rgo_runtime.proofs.lists.Summing.{SumsTo, Within}
use Rattle.rgo_sound.specs.RegionMachine.Tallies.{counts_in}
use Rattle.rgo_runtime.proofs.shares.Shares.total.Given as goal

-- what has been summed, and that it fits
abbrev pub invariant-loop-share : goal.invariant-loop-share
invariant-loop-share l = record {
  sum : SumsTo l.self l.share-index (counts_in l.total);
  within : Within l.share-index (counts_in l.total);
}

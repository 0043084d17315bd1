use Rattle.std.proofs.Common.{◌≡◌, length}
use Rattle.rgo_insert.proofs.Growing.{HaveClasses}
use Rattle.rgo_insert.proofs.bare.bare_regions.Given as goal

abbrev pub invariant-loop-function : goal.invariant-loop-function
invariant-loop-function l = record {
  len : length l.regions.items ≡ l.function-index;
  classes : HaveClasses l.summaries.functions l.functions l.regions.items;
}

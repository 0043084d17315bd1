use Rattle.std.proofs.Common.{◌≡◌, length}
use Rattle.rgo_code.specs.Views.{code_fns}
use Rattle.rgo_insert.proofs.Growing.{AllFilled}
use Rattle.rgo_insert.proofs.filling.all_filled.Given as goal

abbrev pub invariant-loop-n : goal.invariant-loop-n
invariant-loop-n l = record {
  len : length l.regions.items ≡ l.n;
  each : AllFilled (code_fns l.functions l.bare) l.functions l.bare l.regions.items;
}

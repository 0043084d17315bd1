use Rattle.std.proofs.Common.{◌≡◌, map, take}
use Rattle.rgo_insert.specs.Passing.{passed_by}
use Rattle.rgo_insert.proofs.passing.passes_for.Given as goal

abbrev pub invariant-loop-region : goal.invariant-loop-region
invariant-loop-region l = l.passes.items ≡ map (passed_by l.found) (take l.region-index l.regions)

use Rattle.std.proofs.Common.{◌≡◌, ◌≤◌, ℕ, length, drop, map, reverse, nat_eq}
use Rattle.std.specs.HashMap.{get}
use Rattle.rgo_region_machine.specs.declared.regions.Region.TheVariants.{Numbered}
use Rattle.rgo_region_machine.specs.Owed.{twice}
use Rattle.rgo_region_interpreter.proofs.passing.Lists.{seen_in}
use Rattle.rgo_region_interpreter.proofs.calls.twice.Given as goal

abbrev pub invariant-loop-i : goal.invariant-loop-i
invariant-loop-i l =
    (l.i ≤ length l.regions)
    × (map Numbered (reverse l.found.items) ≡ twice (drop l.i l.regions))
    × ((r : ℕ) → get nat_eq l.seen r ≡ seen_in r (drop l.i l.regions))

abbrev pub decreases-loop-i : goal.decreases-loop-i
decreases-loop-i l = l.i

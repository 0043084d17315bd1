use Rattle.std.proofs.Common.{◌≡◌, ◌++◌, [], take, drop}
use Rattle.rgo_code.specs.Names.{distinct_names}
use Rattle.rgo_region_sets.specs.Seen.{IsSeen}
use Rattle.rgo_region_sets.proofs.regions.distinct_names.Given as goal

abbrev pub invariant-loop-class : goal.invariant-loop-class
invariant-loop-class l =
    record {
      names : l.distinct.items ++ distinct_names (take l.class-index l.classes) (drop l.class-index l.classes)
          ≡ distinct_names [] l.classes;
      sees : IsSeen l.seen (take l.class-index l.classes);
    }

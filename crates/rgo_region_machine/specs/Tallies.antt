-- A tally as contracts read it: the same numbers without their bound.
use Rattle.rgo_region_machine.specs.Counts.{Counts}
use Rattle.rgo_region_machine.specs.declared.tallies.Tally.{Tally}

-- the counts of a tally, to be compared with `counts_of` a state
abbrev pub counts_in : Tally → Counts
counts_in t = record {
  made = t.made;
  removed = t.removed;
  taken = t.taken;
  returned = t.returned;
  steps = t.steps;
  objects = t.objects;
  goroutines = t.goroutines;
}

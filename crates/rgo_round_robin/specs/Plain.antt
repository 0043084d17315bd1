-- Runs whose state is held in full.
use Rattle.rgo_interpreter.specs.declared.turns.TurnEnd.{TurnEnd}
use Rattle.rgo_interpreter.specs.declared.turns.TurnEnd.TheVariants as stop

-- why a turn was over, for a machine whose objects are not in regions: it has no pages to run out of, so what it lacks is memory
abbrev pub without_regions : TurnEnd → TurnEnd
without_regions (stop.NoRoom shortage) = stop.NoMemory
without_regions other = other

use Rattle.std.proofs.Common.{◌≡◌, drop}
use Rattle.rgo_interpreter.specs.Views.{memory_view}
use Rattle.rgo_region_interpreter.specs.Tables.{without_objects}
use Rattle.rgo_region_interpreter.proofs.tables.take_away_all.Given as goal

abbrev pub invariant-loop-object : goal.invariant-loop-object
invariant-loop-object l =
    without_objects (drop l.object-index l.objects) (memory_view l.memory)
    ≡ without_objects l.objects (memory_view l.fn.memory)

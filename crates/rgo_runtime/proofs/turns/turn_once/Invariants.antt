use Rattle.rgo_runtime.proofs.turns.turn_once.Given as goal

abbrev pub ghosts-turn_counted : goal.ghosts-turn_counted
ghosts-turn_counted a = record { name = a.blank.name; parts = a.blank.parts }

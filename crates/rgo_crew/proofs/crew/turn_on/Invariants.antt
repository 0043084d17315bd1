-- The ledger is that of the blank that the thread has made: no other thread counts by it.
use Rattle.rgo_crew.proofs.crew.turn_on.Given as goal

abbrev pub ghosts-turn_counted : goal.ghosts-turn_counted
ghosts-turn_counted a = record { name = a.blank.name; parts = a.blank.parts }

-- The ledger of the driver is that of the blank it was made with, which no other thread has.
use Rattle.rgo_crew.proofs.driving.drive.Given as goal

abbrev pub ghosts-play_out : goal.ghosts-play_out
ghosts-play_out g a = record { name = a.blank.name; parts = a.blank.parts }

use Rattle.rgo_acts.proofs.objects.new_at_hand.Given as goal

abbrev pub ghosts-make_uncounted : goal.ghosts-make_uncounted
ghosts-make_uncounted a = record { name = a.blank.name; parts = a.blank.parts }

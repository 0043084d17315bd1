use Rattle.rgo_acts.proofs.objects.store_apart.Goals as goal

pub set_index-requires-clause-new : goal.set_index-requires-clause-new
set_index-requires-clause-new g c = (c.requires.new.0, c.requires.new.1 c.if-i-new.false)

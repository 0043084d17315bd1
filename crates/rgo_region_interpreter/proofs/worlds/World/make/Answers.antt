use Rattle.rgo_region_interpreter.proofs.worlds.World.make.Goals as goal

pub returns-then-make_at_once : goal.returns-then-make_at_once
returns-then-make_at_once c = c.if-make_at_once.ensures c.args.limits c.requires.running c.requires.within

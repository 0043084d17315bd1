use Rattle.rgo_region_interpreter.proofs.worlds.World.transfer.Goals as goal

pub returns-then-transfer_at_once : goal.returns-then-transfer_at_once
returns-then-transfer_at_once c = c.if-transfer_at_once.ensures c.args.limits c.requires.running c.requires.within

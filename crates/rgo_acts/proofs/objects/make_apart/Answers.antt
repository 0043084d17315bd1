use Rattle.std.proofs.Common.{[]}
use Rattle.rgo_acts.proofs.Standing.{acted_then}
use Rattle.rgo_acts.proofs.objects.make_apart.Goals as goal

pub returns-in-Ok-clause-made : goal.returns-in-Ok-clause-made
returns-in-Ok-clause-made g c =
    acted_then c.args.run.now c.args.actor.now c.reserve.new.actor c.make_in_reserved.new.actor 0 1 [] [] [] [] c.in-Ok.ensures.made.acted
    c.make_in_reserved.ensures.acted

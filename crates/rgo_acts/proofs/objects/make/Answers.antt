use Rattle.std.proofs.Common.{[]}
use Rattle.rgo_acts.proofs.Standing.{acted_then}
use Rattle.rgo_acts.proofs.objects.make.Goals as goal

pub returns-in-Some-clause-made : goal.returns-in-Some-clause-made
returns-in-Some-clause-made g c =
    acted_then c.args.run.now c.args.actor.now c.page_for.new.actor c.make_on.new.actor 0 1 [] [] [] [] c.in-Some.ensures.page.acted
    c.make_on.ensures.acted

use Rattle.std.proofs.Common.{ap}
use Rattle.rgo_sound.specs.Tac.Ops.{numbers_of, operation_of}
use Rattle.rgo_acts.proofs.channels.talks.Goals as goal

pub returns-in-Do-clause-yes : goal.returns-in-Do-clause-yes
returns-in-Do-clause-yes c e =
    (c.in-Do.to, c.in-Do.action, numbers_of c.in-Do.from, c.is_of_channel.ensures.yes e, ap operation_of c.in-Do.is)

use Rattle.std.proofs.Common.{refl}
use Rattle.rgo_acts.proofs.before.Resting.{rested}
use Rattle.rgo_acts.proofs.Standing.{acted_none}
use Rattle.rgo_acts.proofs.channels.tries_again.Goals as goal

pub returns-then-eq-clause-acted : goal.returns-then-eq-clause-acted
returns-then-eq-clause-acted c =
    acted_none c.args.run.now c.args.actor.now c.args.actor.now c.requires.stands refl refl c.requires.stands.shows

pub returns-then-is_at_channel-clause-acted : goal.returns-then-is_at_channel-clause-acted
returns-then-is_at_channel-clause-acted c =
    acted_none c.args.run.now c.args.actor.now c.args.actor.now c.requires.stands refl refl c.requires.stands.shows

pub returns-clause-acted : goal.returns-clause-acted
returns-clause-acted c =
    rested _ c.args.run.now c.run.view_is c.args.actor.now (record c.args.actor.now { body = c.rest.new.self }) c.requires.stands c.requires.none
    (c.is_at_channel.ensures.no c.if-is_at_channel.false) refl refl c.rest.ensures.rests

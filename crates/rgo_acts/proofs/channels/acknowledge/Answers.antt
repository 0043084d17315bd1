use Rattle.std.proofs.Common.{◌≡◌, ◌+◌, ◌≤◌, Some, refl, sym, subst}
use Rattle.rgo_acts.specs.declared.channels.Talked.TheVariants as talked
use Rattle.rgo_chan.specs.declared.answers.Tried.TheVariants as tried
use Rattle.rgo_sound.specs.Memory.declared.traps.Trap.TheVariants.{SendClosed}
use Rattle.rgo_core.specs.Channels.Records as sides
use Rattle.rgo_core.specs.Memory.Words.{all_words}
use Rattle.rgo_core.specs.moves.Commits.{IsAtSend}
use Rattle.rgo_core.specs.Core.{layout}
use Rattle.rgo_core_steps.specs.Seats.{mine}
use Rattle.rgo_acts.specs.Runs.{Run}
use Rattle.rgo_acts.proofs.before.AtChannels.{mine_at_send, mine_free, mine_posted, offer_inside, offers_at_do}
use Rattle.rgo_acts.proofs.talking.Tries.{acknowledges_there, not_ready_there}
use Rattle.rgo_acts.proofs.channels.acknowledge.Goals as goal

pub acknowledge-tried-requires-clause-lies : goal.acknowledge-tried-requires-clause-lies
acknowledge-tried-requires-clause-lies g c =
    subst (λ (x : Run). c.args.at + 3 ≤ all_words (layout x.setup)) (sym c.run.view_is)
    (offer_inside c.args.run.now c.args.actor.now c.requires.before.stands c.args.at c.requires.before.offers)

pub acknowledge-tried-requires-clause-free : goal.acknowledge-tried-requires-clause-free
acknowledge-tried-requires-clause-free g c =
    subst (λ (x : Run). (mine x.setup c.args.actor.now.seat.me).side.hold ≡ sides.Free) (sym c.run.view_is)
    (mine_free c.args.run.now c.args.actor.now c.requires.before.stands c.args.at c.requires.before.offers)

pub acknowledge-tried-requires-clause-offering : goal.acknowledge-tried-requires-clause-offering
acknowledge-tried-requires-clause-offering g c =
    subst (λ (x : Run). (mine x.setup c.args.actor.now.seat.me).side.post ≡ sides.Offering c.args.at) (sym c.run.view_is)
    (mine_posted c.args.run.now c.args.actor.now c.requires.before.stands c.args.at c.requires.before.offers)

pub acknowledge-tried-requires-clause-here : goal.acknowledge-tried-requires-clause-here
acknowledge-tried-requires-clause-here g c =
    subst (λ (x : Run). IsAtSend x.setup (mine x.setup c.args.actor.now.seat.me)) (sym c.run.view_is)
    (mine_at_send c.args.run.now c.args.actor.now c.requires.before.stands c.args.at c.requires.before.offers)

pub acknowledged-requires-clause-does : goal.acknowledged-requires-clause-does
acknowledged-requires-clause-does g c =
    offers_at_do c.args.run.now c.args.actor.now c.requires.before.stands c.args.at c.requires.before.offers c.args.next.now
    c.requires.before.ready.is_next

pub returns-in-Done-clause-talks : goal.returns-in-Done-clause-talks
returns-in-Done-clause-talks g c =
    let a = c.args.actor.now in
    let b = record a { seat = c.acknowledge-tried.new.seat; behind = 0; body = c.acknowledged.new.self } in
    (acknowledges_there _ c.args.run.now c.run.view_is a b c.requires.before.stands c.acknowledge-tried.ensures.own.0 refl
    c.acknowledge-tried.ensures.possible c.args.steps.now c.acknowledge-tried.new.steps c.args.at c.requires.before.offers (tried.Done c.in-Done.field-0)
    (talked.Done c.args.at) c.in-Done.ensures.answers (refl, c.acknowledged.ensures)).0

pub returns-in-Busy-clause-talks : goal.returns-in-Busy-clause-talks
returns-in-Busy-clause-talks g c =
    let a = c.args.actor.now in
    let b = record a { seat = c.acknowledge-tried.new.seat; behind = 0; body = a.body } in
    (acknowledges_there _ c.args.run.now c.run.view_is a b c.requires.before.stands c.acknowledge-tried.ensures.own.0 refl
    c.acknowledge-tried.ensures.possible c.args.steps.now c.acknowledge-tried.new.steps c.args.at c.requires.before.offers (tried.Busy c.in-Busy.found)
    (talked.Lost c.args.at) c.in-Busy.ensures.answers (refl, refl)).0

pub returns-in-Trap-clause-talks : goal.returns-in-Trap-clause-talks
returns-in-Trap-clause-talks g c =
    let a = c.args.actor.now in
    let b = record a { seat = c.acknowledge-tried.new.seat; behind = 0; body = a.body } in
    (acknowledges_there _ c.args.run.now c.run.view_is a b c.requires.before.stands c.acknowledge-tried.ensures.own.0 refl
    c.acknowledge-tried.ensures.possible c.args.steps.now c.acknowledge-tried.new.steps c.args.at c.requires.before.offers (tried.Trap c.in-Trap.field-0)
    (talked.Trap SendClosed) c.in-Trap.ensures.answers (refl, refl)).0

pub returns-in-NotReady-clause-talks : goal.returns-in-NotReady-clause-talks
returns-in-NotReady-clause-talks g c =
    let a = c.args.actor.now in
    let b = record a { seat = c.acknowledge-tried.new.seat; behind = 0; body = a.body } in
    (acknowledges_there _ c.args.run.now c.run.view_is a b c.requires.before.stands c.acknowledge-tried.ensures.own.0 refl
    c.acknowledge-tried.ensures.possible c.args.steps.now c.acknowledge-tried.new.steps c.args.at c.requires.before.offers tried.NotReady
    (talked.Waits (Some c.args.at))
    (not_ready_there _ c.args.run.now c.run.view_is a b c.requires.before.stands c.acknowledge-tried.ensures.own.0 refl
    c.acknowledge-tried.ensures.possible c.args.steps.now c.acknowledge-tried.new.steps c.args.at c.requires.before.offers
    c.acknowledge-tried.result c.in-NotReady.is c.acknowledge-tried.ensures.answers) (refl, refl)).0

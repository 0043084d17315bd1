use Rattle.std.proofs.Common.{◌∷◌, [], refl, sym, subst, inr, arith}
use Rattle.rgo_core_steps.specs.Seats.{HasPossible}
use Rattle.rgo_chan.specs.Answers.{Closes}
use Rattle.rgo_chan.specs.Before.{IsBeforeClose, LiesIn, control_of_channel}
use Rattle.rgo_chan.proofs.Carrying.{closes_at}
use Rattle.rgo_sound.proofs.Places.{contains_here}
use Rattle.rgo_sound.specs.Typed.declared.actions.Action.TheVariants.{Close}
use Rattle.rgo_acts.specs.Actors.{now}
use Rattle.rgo_acts.specs.Runs.{Run}
use Rattle.rgo_acts.specs.Talks.{TryConcludes}
use Rattle.rgo_acts.proofs.before.AtChannels.{before_close, has_operand, lies, place_fits}
use Rattle.rgo_acts.proofs.talking.Tries.{close_on_nil, closes_talk}
use Rattle.rgo_acts.proofs.channels.close.Goals as goal

pub word-pointer-requires : goal.word-pointer-requires
word-pointer-requires g c =
    has_operand c.args.run.now c.args.actor.now c.args.next.now c.requires.before c.requires.is.0 Close (c.args.channel ∷ [])
    c.args.channel c.requires.is.1 (contains_here c.args.channel ([]))

pub close_channel-tried-requires-clause-lies : goal.close_channel-tried-requires-clause-lies
close_channel-tried-requires-clause-lies g c =
    subst (λ (x : Run). LiesIn x.setup c.base-base.result c.word-pointer.result) (sym c.run.view_is)
    (lies c.args.run.now c.args.actor.now c.args.next.now c.requires.before c.requires.is.0 Close c.args.channel ([]) c.requires.is.1 (inr (inr refl))
    c.base-base.result c.word-pointer.result c.base-base.ensures.at
    (sym (c.word-pointer.ensures c.requires.before.ready.is_next.w c.requires.before.ready.is_next.ws c.requires.before.ready.is_next.are)))

pub close_channel-tried-requires-clause-here : goal.close_channel-tried-requires-clause-here
close_channel-tried-requires-clause-here g c =
    subst (λ (x : Run). IsBeforeClose x.setup (now x.setup c.args.actor.now) c.word-pointer.result) (sym c.run.view_is)
    (before_close c.args.run.now c.args.actor.now c.args.next.now c.requires.before c.requires.is.0 c.args.channel c.word-pointer.result c.requires.is.1
    (sym (c.word-pointer.ensures c.requires.before.ready.is_next.w c.requires.before.ready.is_next.ws c.requires.before.ready.is_next.are)))

pub returns-then-pointer-eq0-clause-talks : goal.returns-then-pointer-eq0-clause-talks
returns-then-pointer-eq0-clause-talks g c =
    close_on_nil c.args.run.now c.args.actor.now (record c.args.actor.now { seat = c.close_channel-tried.new.seat; behind = c.args.actor.now.behind; body = c.args.actor.now.body }) c.requires.before.stands c.close_channel-tried.ensures.own.0
    (c.close_channel-tried.ensures.nil c.if-pointer-eq0.true).1 refl refl
    (subst (λ n. IsBeforeClose c.args.run.now.setup (now c.args.run.now.setup c.args.actor.now) n) c.if-pointer-eq0.true
    (before_close c.args.run.now c.args.actor.now c.args.next.now c.requires.before c.requires.is.0 c.args.channel c.word-pointer.result c.requires.is.1
    (sym (c.word-pointer.ensures c.requires.before.ready.is_next.w c.requires.before.ready.is_next.ws c.requires.before.ready.is_next.are))))

pub overflow_add-base : goal.overflow_add-base
overflow_add-base g c =
    let fits = place_fits _ _ _ c.run.invariant.layout c.base-base.result c.word-pointer.result c.if-pointer-eq0.false
    (subst (λ (x : Run). LiesIn x.setup c.base-base.result c.word-pointer.result) (sym c.run.view_is)
    (lies c.args.run.now c.args.actor.now c.args.next.now c.requires.before c.requires.is.0 Close c.args.channel ([]) c.requires.is.1 (inr (inr refl))
    c.base-base.result c.word-pointer.result c.base-base.ensures.at
    (sym (c.word-pointer.ensures c.requires.before.ready.is_next.w c.requires.before.ready.is_next.ws c.requires.before.ready.is_next.are)))) in
    omega (arith, fits)

pub returns-clause-talks : goal.returns-clause-talks
returns-clause-talks g c =
    let a = c.args.actor.now in
    let b = record a { seat = c.close_channel-tried.new.seat; behind = 0; body = c.conclude.new.body } in
    (closes_talk c.args.run.now a b c.args.next.now c.requires.before c.close_channel-tried.ensures.own.0 refl
    (subst (λ (x : Run). HasPossible x.setup c.close_channel-tried.new.seat.me) c.run.view_is (c.close_channel-tried.ensures.possible c.if-pointer-eq0.false))
    c.args.steps.now c.close_channel-tried.new.steps (control_of_channel c.base-base.result c.word-pointer.result)
    (closes_at c.base-base.ensures.at c.if-pointer-eq0.false (before_close c.args.run.now c.args.actor.now c.args.next.now c.requires.before c.requires.is.0 c.args.channel c.word-pointer.result c.requires.is.1
    (sym (c.word-pointer.ensures c.requires.before.ready.is_next.w c.requires.before.ready.is_next.ws c.requires.before.ready.is_next.are))))
    c.close_channel-tried.result c.conclude.result
    (subst (λ (x : Run). Closes x.setup (control_of_channel c.base-base.result c.word-pointer.result) (now x.setup a) c.close_channel-tried.result a.seat.me c.args.steps.now
    c.close_channel-tried.new.seat.me c.close_channel-tried.new.steps) c.run.view_is
    (c.close_channel-tried.ensures.answers c.if-pointer-eq0.false))
    (subst (λ (x : Run). TryConcludes x.program a.body c.conclude.new.body (control_of_channel c.base-base.result c.word-pointer.result) c.close_channel-tried.result) c.run.view_is
    c.conclude.ensures.body)
    c.conclude.ensures.says).0

pub returns-clause-only : goal.returns-clause-only
returns-clause-only g c =
    let a = c.args.actor.now in
    let b = record a { seat = c.close_channel-tried.new.seat; behind = 0; body = c.conclude.new.body } in
    (closes_talk c.args.run.now a b c.args.next.now c.requires.before c.close_channel-tried.ensures.own.0 refl
    (subst (λ (x : Run). HasPossible x.setup c.close_channel-tried.new.seat.me) c.run.view_is (c.close_channel-tried.ensures.possible c.if-pointer-eq0.false))
    c.args.steps.now c.close_channel-tried.new.steps (control_of_channel c.base-base.result c.word-pointer.result)
    (closes_at c.base-base.ensures.at c.if-pointer-eq0.false (before_close c.args.run.now c.args.actor.now c.args.next.now c.requires.before c.requires.is.0 c.args.channel c.word-pointer.result c.requires.is.1
    (sym (c.word-pointer.ensures c.requires.before.ready.is_next.w c.requires.before.ready.is_next.ws c.requires.before.ready.is_next.are))))
    c.close_channel-tried.result c.conclude.result
    (subst (λ (x : Run). Closes x.setup (control_of_channel c.base-base.result c.word-pointer.result) (now x.setup a) c.close_channel-tried.result a.seat.me c.args.steps.now
    c.close_channel-tried.new.seat.me c.close_channel-tried.new.steps) c.run.view_is
    (c.close_channel-tried.ensures.answers c.if-pointer-eq0.false))
    (subst (λ (x : Run). TryConcludes x.program a.body c.conclude.new.body (control_of_channel c.base-base.result c.word-pointer.result) c.close_channel-tried.result) c.run.view_is
    c.conclude.ensures.body)
    c.conclude.ensures.says).1

use Rattle.std.proofs.Common.{◌∷◌, ◌∙◌, [], ap, refl, sym, subst, inl, arith}
use Rattle.rgo_core_steps.specs.Seats.{HasPossible}
use Rattle.rgo_chan.specs.Answers.{Receives}
use Rattle.rgo_chan.specs.Before.{IsBeforeReceive, LiesIn, control_of_channel}
use Rattle.rgo_chan.proofs.Carrying.{receives_at}
use Rattle.rgo_sound.proofs.Places.{contains_here}
use Rattle.rgo_sound.specs.Typed.declared.actions.Action.TheVariants.{Recv}
use Rattle.rgo_acts.specs.Actors.{now}
use Rattle.rgo_acts.specs.Runs.{Run}
use Rattle.rgo_acts.specs.Talks.{TryConcludes}
use Rattle.rgo_acts.proofs.before.AtChannels.{before_receive, has_operand, has_words, lies, place_fits}
use Rattle.rgo_acts.proofs.talking.Tries.{receive_on_nil, receives_talk}
use Rattle.rgo_acts.proofs.channels.receive.Goals as goal

pub word-pointer-requires : goal.word-pointer-requires
word-pointer-requires g c =
    has_operand c.args.run.now c.args.actor.now c.args.next.now c.requires.before c.requires.is.0 Recv (c.args.channel ∷ [])
    c.args.channel c.requires.is.1 (contains_here c.args.channel ([]))

pub receive-tried-requires-clause-lies : goal.receive-tried-requires-clause-lies
receive-tried-requires-clause-lies g c =
    subst (λ (x : Run). LiesIn x.setup c.base-base.result c.word-pointer.result) (sym c.run.view_is)
    (lies c.args.run.now c.args.actor.now c.args.next.now c.requires.before c.requires.is.0 Recv c.args.channel ([]) c.requires.is.1 (inl refl)
    c.base-base.result c.word-pointer.result c.base-base.ensures.at
    (sym (c.word-pointer.ensures c.requires.before.ready.is_next.w c.requires.before.ready.is_next.ws c.requires.before.ready.is_next.are)))

pub receive-tried-requires-clause-words : goal.receive-tried-requires-clause-words
receive-tried-requires-clause-words g c =
    c.page_words-page_words.ensures ∙ ap (λ (x : Run). x.setup.sizes.page_words) (sym c.run.view_is)

pub receive-tried-requires-clause-some : goal.receive-tried-requires-clause-some
receive-tried-requires-clause-some g c =
    λ some.
    let words = has_words c.args.run.now c.args.actor.now c.args.next.now c.requires.before c.requires.is.0 Recv c.args.channel ([]) c.requires.is.1 (inl refl)
    c.word-pointer.result
    (sym (c.word-pointer.ensures c.requires.before.ready.is_next.w c.requires.before.ready.is_next.ws c.requires.before.ready.is_next.are)) some in
    let same = c.page_words-page_words.ensures in
    omega (arith, words, same)

pub receive-tried-requires-clause-here : goal.receive-tried-requires-clause-here
receive-tried-requires-clause-here g c =
    subst (λ (x : Run). IsBeforeReceive x.setup (now x.setup c.args.actor.now) c.word-pointer.result) (sym c.run.view_is)
    (before_receive c.args.run.now c.args.actor.now c.args.next.now c.requires.before c.requires.is.0 c.args.channel c.word-pointer.result c.requires.is.1
    (sym (c.word-pointer.ensures c.requires.before.ready.is_next.w c.requires.before.ready.is_next.ws c.requires.before.ready.is_next.are)))

pub returns-then-pointer-eq0-clause-talks : goal.returns-then-pointer-eq0-clause-talks
returns-then-pointer-eq0-clause-talks g c =
    receive_on_nil c.args.run.now c.args.actor.now (record c.args.actor.now { seat = c.receive-tried.new.seat; behind = c.args.actor.now.behind; body = c.args.actor.now.body }) c.requires.before.stands c.receive-tried.ensures.own.0
    (c.receive-tried.ensures.nil c.if-pointer-eq0.true).1 refl refl
    (subst (λ n. IsBeforeReceive c.args.run.now.setup (now c.args.run.now.setup c.args.actor.now) n) c.if-pointer-eq0.true
    (before_receive c.args.run.now c.args.actor.now c.args.next.now c.requires.before c.requires.is.0 c.args.channel c.word-pointer.result c.requires.is.1
    (sym (c.word-pointer.ensures c.requires.before.ready.is_next.w c.requires.before.ready.is_next.ws c.requires.before.ready.is_next.are))))

pub overflow_add-base : goal.overflow_add-base
overflow_add-base g c =
    let fits = place_fits _ _ _ c.run.invariant.layout c.base-base.result c.word-pointer.result c.if-pointer-eq0.false
    (subst (λ (x : Run). LiesIn x.setup c.base-base.result c.word-pointer.result) (sym c.run.view_is)
    (lies c.args.run.now c.args.actor.now c.args.next.now c.requires.before c.requires.is.0 Recv c.args.channel ([]) c.requires.is.1 (inl refl)
    c.base-base.result c.word-pointer.result c.base-base.ensures.at
    (sym (c.word-pointer.ensures c.requires.before.ready.is_next.w c.requires.before.ready.is_next.ws c.requires.before.ready.is_next.are)))) in
    omega (arith, fits)

pub returns-clause-talks : goal.returns-clause-talks
returns-clause-talks g c =
    let a = c.args.actor.now in
    let b = record a { seat = c.receive-tried.new.seat; behind = 0; body = c.conclude.new.body } in
    (receives_talk c.args.run.now a b c.args.next.now c.requires.before c.receive-tried.ensures.own.0 refl
    (subst (λ (x : Run). HasPossible x.setup c.receive-tried.new.seat.me) c.run.view_is (c.receive-tried.ensures.possible c.if-pointer-eq0.false))
    c.args.steps.now c.receive-tried.new.steps (control_of_channel c.base-base.result c.word-pointer.result)
    (receives_at c.base-base.ensures.at c.if-pointer-eq0.false (before_receive c.args.run.now c.args.actor.now c.args.next.now c.requires.before c.requires.is.0 c.args.channel c.word-pointer.result c.requires.is.1
    (sym (c.word-pointer.ensures c.requires.before.ready.is_next.w c.requires.before.ready.is_next.ws c.requires.before.ready.is_next.are))))
    c.receive-tried.result c.conclude.result
    (subst (λ (x : Run). Receives x.setup (control_of_channel c.base-base.result c.word-pointer.result) (now x.setup a) c.receive-tried.result a.seat.me c.args.steps.now
    c.receive-tried.new.seat.me c.receive-tried.new.steps) c.run.view_is
    (c.receive-tried.ensures.answers c.if-pointer-eq0.false))
    (subst (λ (x : Run). TryConcludes x.program a.body c.conclude.new.body (control_of_channel c.base-base.result c.word-pointer.result) c.receive-tried.result) c.run.view_is
    c.conclude.ensures.body)
    c.conclude.ensures.says).0

pub returns-clause-only : goal.returns-clause-only
returns-clause-only g c =
    let a = c.args.actor.now in
    let b = record a { seat = c.receive-tried.new.seat; behind = 0; body = c.conclude.new.body } in
    (receives_talk c.args.run.now a b c.args.next.now c.requires.before c.receive-tried.ensures.own.0 refl
    (subst (λ (x : Run). HasPossible x.setup c.receive-tried.new.seat.me) c.run.view_is (c.receive-tried.ensures.possible c.if-pointer-eq0.false))
    c.args.steps.now c.receive-tried.new.steps (control_of_channel c.base-base.result c.word-pointer.result)
    (receives_at c.base-base.ensures.at c.if-pointer-eq0.false (before_receive c.args.run.now c.args.actor.now c.args.next.now c.requires.before c.requires.is.0 c.args.channel c.word-pointer.result c.requires.is.1
    (sym (c.word-pointer.ensures c.requires.before.ready.is_next.w c.requires.before.ready.is_next.ws c.requires.before.ready.is_next.are))))
    c.receive-tried.result c.conclude.result
    (subst (λ (x : Run). Receives x.setup (control_of_channel c.base-base.result c.word-pointer.result) (now x.setup a) c.receive-tried.result a.seat.me c.args.steps.now
    c.receive-tried.new.seat.me c.receive-tried.new.steps) c.run.view_is
    (c.receive-tried.ensures.answers c.if-pointer-eq0.false))
    (subst (λ (x : Run). TryConcludes x.program a.body c.conclude.new.body (control_of_channel c.base-base.result c.word-pointer.result) c.receive-tried.result) c.run.view_is
    c.conclude.ensures.body)
    c.conclude.ensures.says).1

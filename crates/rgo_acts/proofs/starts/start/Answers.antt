use Rattle.std.proofs.Common.{◌∙◌, refl, subst, sym}
use Rattle.rgo_acts.specs.Limits.{IsAtLimit}
use Rattle.rgo_acts.specs.Ready.{ActorIsBefore}
use Rattle.rgo_acts.specs.Runs.{Run}
use Rattle.rgo_acts.specs.Starts.{HasStarted}
use Rattle.rgo_sound.specs.RegionMachine.declared.limits.Limit.TheVariants.{Goroutines}
use Rattle.rgo_acts.proofs.computing.LocalActs.{unchanged}
use Rattle.rgo_acts.proofs.Standing.{its_body}
use Rattle.rgo_acts.proofs.clock.Starts.{at_start, has_started, is_refused}
use Rattle.rgo_acts.proofs.starts.start.Goals as goal

pub returns-in-Err : goal.returns-in-Err
returns-in-Err c = unchanged c.args.run.now c.args.actor.now c.requires.before.stands

pub number-requires-clause-start : goal.number-requires-clause-start
number-requires-clause-start c =
    let before = subst (λ (r : Run). ActorIsBefore r c.args.actor.now c.args.next.now) (sym c.run.view_is) c.requires.before in
    at_start _ c.args.actor.now c.args.next.now before c.args.function c.args.from.now c.requires.is c.requires.never

pub started-requires-clause-possible : goal.started-requires-clause-possible
started-requires-clause-possible c =
    let before = subst (λ (r : Run). ActorIsBefore r c.args.actor.now c.args.next.now) (sym c.run.view_is) c.requires.before in
    its_body _ c.args.actor.now before.stands

pub returns-in-Some : goal.returns-in-Some
returns-in-Some c =
    let a = c.args.actor.now in
    let before = subst (λ (r : Run). ActorIsBefore r a c.args.next.now) (sym c.run.view_is) c.requires.before in
    let split = c.split-seat in
    let b = record a { seat = split.new.seat; behind = 0; body = c.started.new.self } in
    let child = record a { seat = split.result; behind = 0; searches = c.new-searches.result; body = c.in-Ok.body } in
    subst (λ (r : Run). HasStarted r a b c.in-Some.number child) c.run.view_is
    (has_started _ a c.args.next.now before c.args.function c.args.from.now c.requires.is c.requires.never c.number.new.seat.me
    c.in-Some.number c.in-Some.ensures.drawn c.number.ensures.possible c.in-Some.ensures.child b child
    (split.ensures.own.0 ∙ c.number.ensures.own.0) refl split.ensures.old (c.started.ensures c.in-Some.number)
    (split.ensures.table ∙ (c.number.ensures.own.0 ∙ before.stands.own)) refl split.ensures.new
    (c.in-Ok.ensures _ _ _ before.stands.possible before.stands.shows))

pub returns-in-None : goal.returns-in-None
returns-in-None c =
    let a = c.args.actor.now in
    let before = subst (λ (r : Run). ActorIsBefore r a c.args.next.now) (sym c.run.view_is) c.requires.before in
    let b = record a { seat = c.number.new.seat; behind = 0; body = c.refuse.new.self } in
    subst (λ (r : Run). IsAtLimit r a b Goroutines) c.run.view_is
    (is_refused _ a c.args.next.now before c.args.function c.args.from.now c.requires.is c.requires.never b c.number.ensures.own.0 refl
    c.in-None.ensures.drawn c.number.ensures.possible c.refuse.ensures)

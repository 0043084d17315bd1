use Rattle.std.proofs.Common.{◌≡◌, ◌∷◌, ◌++◌, [], ap, arith, inl, length, map, refl, reverse, subst, sym}
use Rattle.atomic_table.specs.Seated.{TableId}
use Rattle.rgo_core.specs.Memory.Words.{clock_at}
use Rattle.rgo_core_steps.specs.Seats.{IsSeatOf}
use Rattle.rgo_table_runs.specs.Goroutine.Acts.Runs.{Run}
use Rattle.rgo_table_runs.specs.Goroutine.Goroutines.{IsOf, IsTidy, record_of_goroutine}
use Rattle.rgo_table_runs.specs.Goroutine.declared.goroutine.Goroutine.{Goroutine}
use Rattle.rgo_runtime.specs.Crews.{IsOfCrew, its_goroutine}
use Rattle.rgo_runtime.proofs.leaving.All.{both_left, but_last, last_one, last_turn_gone, nobody_leaves, none_left}
use Rattle.rgo_runtime.proofs.lists.Queues.{nothing_in}
use Rattle.rgo_runtime.proofs.retiring.retire_turns.Goals as goal

pub loop-turn-init : goal.loop-turn-init
loop-turn-init c = record { gone = []; is = refl; all = c.requires.all; left = nobody_leaves c.args.run.now.setup c.args.left.now }

pub retire_or_give_up-requires-clause-of : goal.retire_or_give_up-requires-clause-of
retire_or_give_up-requires-clause-of c =
    let P = IsOfCrew c.args.run.now (length c.args.left.now.shares) in
    let crew = last_one P c.loop-turn.turns.items c.pop.new.self.items c.in-Some.turn c.in-Some.ensures.items c.loop-turn.invariant.all in
    subst (λ (r : Run). IsOf r c.into_goroutine.result) crew.run c.into_goroutine.ensures.of

pub retire_or_give_up-requires-clause-tidy : goal.retire_or_give_up-requires-clause-tidy
retire_or_give_up-requires-clause-tidy c =
    let P = IsOfCrew c.args.run.now (length c.args.left.now.shares) in
    let crew = last_one P c.loop-turn.turns.items c.pop.new.self.items c.in-Some.turn c.in-Some.ensures.items c.loop-turn.invariant.all in
    subst (λ (r : Run). IsTidy (record_of_goroutine r.setup c.into_goroutine.result)) crew.run c.into_goroutine.ensures.tidy

pub retire_or_give_up-requires-clause-place : goal.retire_or_give_up-requires-clause-place
retire_or_give_up-requires-clause-place c =
    let P = IsOfCrew c.args.run.now (length c.args.left.now.shares) in
    let crew = last_one P c.loop-turn.turns.items c.pop.new.self.items c.in-Some.turn c.in-Some.ensures.items c.loop-turn.invariant.all in
    let number = ap (λ (go : Goroutine). go.number) c.into_goroutine.ensures.same in
    let place = crew.place in
    let places = c.loop-turn.invariant.left.places in
    inl (omega (arith, number, place, places))

pub retire_or_give_up-requires-clause-own : goal.retire_or_give_up-requires-clause-own
retire_or_give_up-requires-clause-own c =
    subst (λ (id : TableId). IsSeatOf id c.args.run.now.table clock_at) (sym c.loop-turn.invariant.left.own) c.requires.own

pub loop-turn-preserved : goal.loop-turn-preserved
loop-turn-preserved c =
    let before = c.loop-turn.turns.items in
    let rest = c.pop.new.self.items in
    let go = c.into_goroutine.result in
    let gone = c.loop-turn.invariant.gone in
    record {
      gone = gone ++ go ∷ [];
      is = last_turn_gone c.args.turns.items gone before rest c.in-Some.turn go c.loop-turn.invariant.is c.in-Some.ensures.items
          c.into_goroutine.ensures.same;
      all = but_last (IsOfCrew c.args.run.now (length c.args.left.now.shares)) before rest (c.in-Some.turn ∷ []) c.in-Some.ensures.items
          c.loop-turn.invariant.all;
      left = both_left c.args.run.now.setup gone (go ∷ []) c.args.left.now c.loop-turn.left c.retire_or_give_up.new.left c.loop-turn.invariant.left
          c.retire_or_give_up.ensures;
    }

pub returns : goal.returns
returns c =
    let left = c.loop-turn.turns in
    let is = c.loop-turn.invariant in
    let none : length left.items ≡ 0 = omega (arith, c.in_default.ensures.cases.0, left.ok.0) in
    none_left c.args.run.now.setup (reverse (map its_goroutine c.args.turns.items)) is.gone (map its_goroutine left.items) c.args.left.now
    c.loop-turn.left is.is (ap (map its_goroutine) (nothing_in left.items none)) is.left

use Rattle.std.proofs.Common.{◌++◌, ◌<◌, [], All, ap, arith, length, map, reverse, subst, sym, ◌∙◌}
use Rattle.std.proofs.lemmas.List.{length-append, length-map, map-append}
use Rattle.std.proofs.lemmas.List.Sorted.{IsPermutation-refl}
use Rattle.atomic_table.specs.Seated.{TableId}
use Rattle.rgo_core.specs.Memory.Words.{clock_at}
use Rattle.rgo_core_steps.specs.Seats.{IsSeatOf}
use Rattle.rgo_runtime.specs.Crews.{IsOfCrew, its_goroutine}
use Rattle.rgo_runtime.specs.Parking.{parked_values}
use Rattle.rgo_runtime.proofs.leaving.All.{both_left, but_last, group_gone, last_ones, nobody_leaves, none_parked}
use Rattle.rgo_runtime.proofs.retiring.retire_queues.Goals as goal

pub loop-group-init : goal.loop-group-init
loop-group-init c = record {
  gone = [];
  are = IsPermutation-refl (map its_goroutine (parked_values c.args.queues));
  all = c.requires.all;
  left = nobody_leaves c.args.run.now.setup c.args.left.now;
}

pub retire_turns-requires-clause-all : goal.retire_turns-requires-clause-all
retire_turns-requires-clause-all c =
    let n = length c.args.left.now.shares in
    subst (λ k. All (IsOfCrew c.args.run.now k) c.in-Some.group.items) (sym c.loop-group.invariant.left.places)
    (last_ones (IsOfCrew c.args.run.now n) (parked_values c.loop-group.queues) (parked_values c.pop.new.self) c.in-Some.group.items c.in-Some.ensures.rest
    c.loop-group.invariant.all)

pub retire_turns-requires-clause-own : goal.retire_turns-requires-clause-own
retire_turns-requires-clause-own c =
    subst (λ (id : TableId). IsSeatOf id c.args.run.now.table clock_at) (sym c.loop-group.invariant.left.own) c.requires.own

pub loop-group-preserved : goal.loop-group-preserved
loop-group-preserved c =
    let before = parked_values c.loop-group.queues in
    let rest = parked_values c.pop.new.self in
    let group = c.in-Some.group.items in
    let gone = c.loop-group.invariant.gone in
    let gos = map its_goroutine group in
    record {
      gone = gone ++ reverse gos;
      are = group_gone (map its_goroutine (parked_values c.args.queues)) gone (map its_goroutine before) (map its_goroutine rest) gos
          c.loop-group.invariant.are (ap (map its_goroutine) c.in-Some.ensures.rest ∙ map-append its_goroutine rest group);
      all = but_last (IsOfCrew c.args.run.now (length c.args.left.now.shares)) before rest group c.in-Some.ensures.rest
          c.loop-group.invariant.all;
      left = both_left c.args.run.now.setup gone (reverse gos) c.args.left.now c.loop-group.left c.retire_turns.new.left
          c.loop-group.invariant.left c.retire_turns.ensures;
    }

pub loop-group-smaller : goal.loop-group-smaller
loop-group-smaller c =
    let before = c.loop-group.queues in
    let rest = c.pop.new.self in
    let group = c.in-Some.group.items in
    let fewer : length rest < length before =
    omega (
      arith,
      c.in-Some.ensures.some,
      ap length c.in-Some.ensures.rest,
      length-append (parked_values rest) group,
      length-map before (λ p. p.1),
      length-map rest (λ p. p.1),
    ) in
    fewer

pub returns : goal.returns
returns c =
    let is = c.loop-group.invariant in (
      is.gone,
      none_parked (map its_goroutine (parked_values c.args.queues)) is.gone (map its_goroutine (parked_values c.loop-group.queues)) is.are
          (ap (λ ps. map its_goroutine (parked_values ps)) c.in_default.ensures.some),
      is.left,
    )

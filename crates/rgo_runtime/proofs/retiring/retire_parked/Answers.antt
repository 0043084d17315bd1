-- Those that wait for one operation leave after those that wait for another.
use Rattle.std.proofs.Common.{◌++◌, ◌∙◌, All, IsPermutation, length, map, subst, sym}
use Rattle.atomic_table.specs.Seated.{TableId}
use Rattle.rgo_core.specs.Memory.Words.{clock_at}
use Rattle.rgo_core_steps.specs.Seats.{IsSeatOf}
use Rattle.rgo_runtime.specs.Crews.{IsOfCrew, its_goroutine}
use Rattle.rgo_runtime.specs.Parking.{parked_values}
use Rattle.rgo_runtime.proofs.leaving.All.{both_left, three_gone, three_parts}
use Rattle.rgo_runtime.proofs.retiring.retire_parked.Goals as goal

pub retire_queues-requires-clause-all : goal.retire_queues-requires-clause-all
retire_queues-requires-clause-all c =
    let P = IsOfCrew c.args.run.now (length c.args.left.now.shares) in
    subst (λ q. All P (parked_values q)) (sym c.into_queues-senders.ensures.0) (three_parts P c.args.parked c.requires.all).0

pub retire_queues-requires-2-clause-all : goal.retire_queues-requires-2-clause-all
retire_queues-requires-2-clause-all c =
    let P = IsOfCrew c.args.run.now (length c.args.left.now.shares) in
    subst (λ n. All (IsOfCrew c.args.run.now n) (parked_values c.into_queues-senders.result.1)) (sym c.retire_queues.ensures.2.places)
    (subst (λ q. All P (parked_values q)) (sym c.into_queues-senders.ensures.1) (three_parts P c.args.parked c.requires.all).1)

pub retire_queues-requires-3-clause-all : goal.retire_queues-requires-3-clause-all
retire_queues-requires-3-clause-all c =
    let P = IsOfCrew c.args.run.now (length c.args.left.now.shares) in
    subst (λ n. All (IsOfCrew c.args.run.now n) (parked_values c.into_queues-senders.result.2))
    (sym (c.retire_queues-2.ensures.2.places ∙ c.retire_queues.ensures.2.places))
    (subst (λ q. All P (parked_values q)) (sym c.into_queues-senders.ensures.2) (three_parts P c.args.parked c.requires.all).2)

pub returns : goal.returns
returns c =
    let T = c.args.run.now.setup in
    let first = c.retire_queues.ensures in
    let second = c.retire_queues-2.ensures in
    let third = c.retire_queues-3.ensures in (
      (first.0 ++ second.0) ++ third.0,
      three_gone c.args.parked first.0 second.0 third.0
          (subst (λ q. IsPermutation first.0 (map its_goroutine (parked_values q))) c.into_queues-senders.ensures.0 first.1)
          (subst (λ q. IsPermutation second.0 (map its_goroutine (parked_values q))) c.into_queues-senders.ensures.1 second.1)
          (subst (λ q. IsPermutation third.0 (map its_goroutine (parked_values q))) c.into_queues-senders.ensures.2 third.1),
      both_left T (first.0 ++ second.0) third.0 c.args.left.now c.retire_queues-2.new.left c.retire_queues-3.new.left
          (both_left T first.0 second.0 c.args.left.now c.retire_queues.new.left c.retire_queues-2.new.left first.2 second.2)
          third.2,
    )

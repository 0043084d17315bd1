use Rattle.std.proofs.Common.{◌≡◌, ◌+◌, ◌-◌}
use Rattle.rgo_core.specs.Rule.declared.accesses.Kind.TheVariants.{CreateRegion}
use Rattle.rgo_core.specs.Memory.Words.{count_at}
use Rattle.rgo_core.specs.runs.Opening.{first_of}
use Rattle.rgo_core.specs.runs.Plans.{setup_of}
use Rattle.rgo_core.specs.Records.{accesses}
use Rattle.rgo_core_steps.specs.Counts.{tried_slot}
use Rattle.rgo_core_steps.specs.Searches.{Tried, upward}
use Rattle.rgo_core_steps.specs.Seats.{HasPossible, mine}
use Rattle.rgo_counts.proofs.creation.try_slots.Given as goal

abbrev pub invariant-loop-slot : goal.invariant-loop-slot
invariant-loop-slot g l =
    let T = setup_of l.table.shared.key in
    record {
      own : (l.seat.table_id ≡ l.fn.seat.table_id) × (l.seat.id ≡ l.fn.seat.id);
      cost : l.steps ≡ l.fn.steps + (l.slot - l.first);
      tried : Tried accesses (first_of T.code) CreateRegion (count_at l.sizes) tried_slot (mine T l.fn.seat.me)
          (upward l.first (l.slot - l.first)) l.fn.seat.me l.seat.me;
      possible : HasPossible T l.seat.me;
    }

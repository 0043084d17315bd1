use Rattle.std.proofs.Common.{◌≡◌, ◌+◌, ◌-◌}
use Rattle.rgo_core.specs.Rule.declared.accesses.Kind.TheVariants.{ClaimPage}
use Rattle.rgo_core.specs.Memory.Words.{state_at}
use Rattle.rgo_core.specs.runs.Opening.{first_of}
use Rattle.rgo_core.specs.runs.Plans.{setup_of}
use Rattle.rgo_core.specs.Records.{accesses}
use Rattle.rgo_core_steps.specs.Pages.{tried_page}
use Rattle.rgo_core_steps.specs.Searches.{Tried, upward}
use Rattle.rgo_core_steps.specs.Seats.{HasPossible, mine}
use Rattle.rgo_pages.proofs.claiming.try_pages.Given as goal

abbrev pub invariant-loop-page : goal.invariant-loop-page
invariant-loop-page g l =
    let T = setup_of l.table.shared.key in
    record {
      own : (l.seat.table_id ≡ l.fn.seat.table_id) × (l.seat.id ≡ l.fn.seat.id);
      cost : l.steps ≡ l.fn.steps + (l.page - l.first);
      tried : Tried accesses (first_of T.code) ClaimPage (state_at l.sizes) tried_page (mine T l.fn.seat.me)
          (upward l.first (l.page - l.first)) l.fn.seat.me l.seat.me;
      possible : HasPossible T l.seat.me;
    }

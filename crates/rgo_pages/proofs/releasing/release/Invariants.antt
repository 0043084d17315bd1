use Rattle.std.proofs.Common.{◌≡◌, ◌+◌, ◌*◌, ◌-◌, ◌≤◌}
use Rattle.rgo_core.specs.runs.Plans.{setup_of}
use Rattle.rgo_core_steps.specs.Seats.{HasPossible, mine}
use Rattle.rgo_pages.specs.Releasing.{ChainGiven}
use Rattle.rgo_pages.proofs.releasing.release.Given as goal

abbrev pub invariant-loop-cursor : goal.invariant-loop-cursor
invariant-loop-cursor g l =
    let T = setup_of l.table.shared.key in
    record {
      own : (l.seat.table_id ≡ l.fn.seat.table_id) × (l.seat.id ≡ l.fn.seat.id);
      cost : l.steps ≡ l.fn.steps + (2 * l.freed + 1);
      within : l.cursor ≤ l.sizes.pages;
      chain : ChainGiven T l.sizes l.slot (mine T l.fn.seat.me) l.freed l.cursor l.fn.seat.me l.seat.me;
      possible : HasPossible T l.seat.me;
    }

abbrev pub decreases-loop-cursor : goal.decreases-loop-cursor
decreases-loop-cursor g l = (mine (setup_of l.table.shared.key) l.fn.seat.me).clock.owed - l.freed

use Rattle.std.proofs.Common.{◌≡◌, length}
use Rattle.rgo_runtime.specs.Crews.{IsGivenSlice}
use Rattle.rgo_runtime.specs.CrewView.{crew_view}
use Rattle.rgo_runtime.proofs.crews.Steps.{Changes}
use Rattle.rgo_runtime.proofs.lists.Sweeps.{Swept}
use Rattle.rgo_runtime.proofs.crew.Crew.set_time_slices.Given as goal

-- some have changed
abbrev pub invariant-loop-i : goal.invariant-loop-i
invariant-loop-i l = record {
  end : l.i-end ≡ length l.fn.self.ready;
  given : Swept (IsGivenSlice l.fn.slice) l.fn.self.ready l.self-inside.ready.items l.i;
  changes : Changes l.fn.self (crew_view l.self-inside);
}

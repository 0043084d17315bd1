-- A place grows by at most one in each turn, so it does not overflow; which goroutine it names is tested at each turn.
use Rattle.std.proofs.Common.{◌≡◌, ◌≤◌}
use Rattle.rgo_crew.proofs.driving.round.Given as goal

abbrev pub invariant-loop : goal.invariant-loop
invariant-loop g l = (l.crew ≡ l.fn.crew) × (l.place ≤ l.counter)

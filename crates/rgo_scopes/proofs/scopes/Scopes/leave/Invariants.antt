use Rattle.std.proofs.Common.{◌≡◌, length}
use Rattle.rgo_scopes.specs.Trail.{IsTrail}
use Rattle.rgo_scopes.proofs.scopes.Scopes.leave.Given as goal

abbrev pub invariant-loop-binding : goal.invariant-loop-binding
invariant-loop-binding g l =
    IsTrail l.self-inside.here.items l.self-inside.outer.items l.self-inside.newest
    × (l.self-inside.outer.items ≡ l.initial.self-inside.outer.items)

abbrev pub decreases-loop-binding : goal.decreases-loop-binding
decreases-loop-binding g l = length l.self-inside.here.items

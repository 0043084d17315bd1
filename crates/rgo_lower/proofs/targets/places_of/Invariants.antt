use Rattle.std.proofs.Common.{◌≡◌, ◌++◌, map, drop}
use Rattle.rgo_lower.specs.declared.builder.Line.{Line}
use Rattle.rgo_lower.proofs.targets.places_of.Given as goal

abbrev pub invariant-loop-line : goal.invariant-loop-line
invariant-loop-line l =
    l.places.items ++ map (λ (x : Line). x.place) (drop l.line-index l.lines) ≡ map (λ (x : Line). x.place) l.lines

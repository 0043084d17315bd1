use Rattle.std.proofs.Common.{take}
use Rattle.rgo_flow.specs.Ranges.{AddsPoints, ForSome, IsKeptFor}
use Rattle.rgo_flow.proofs.ranges.add_readers.Given as goal

abbrev pub invariant-loop-r : goal.invariant-loop-r
invariant-loop-r l =
    AddsPoints l.fn.ranges.items l.ranges.items
    (λ at. ForSome (take l.r-index l.readers) (λ r. IsKeptFor l.first l.writers r at))

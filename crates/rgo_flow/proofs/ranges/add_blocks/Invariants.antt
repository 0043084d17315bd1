use Rattle.std.proofs.Common.{take}
use Rattle.rgo_flow.specs.Ranges.{AddsPoints, ForSome, IsKeptOut}
use Rattle.rgo_flow.proofs.ranges.add_blocks.Given as goal

abbrev pub invariant-loop-h : goal.invariant-loop-h
invariant-loop-h l =
    AddsPoints l.fn.ranges.items l.ranges.items
    (λ at. ForSome (take l.h-index l.heads) (λ h. IsKeptOut l.last l.writers h at))

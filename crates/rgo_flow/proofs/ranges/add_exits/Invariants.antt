use Rattle.std.proofs.Common.{take}
use Rattle.rgo_graphs.specs.Rows.{rows_of, row_at}
use Rattle.rgo_flow.specs.Ranges.{AddsPoints, ForSome, IsKeptOut}
use Rattle.rgo_flow.proofs.ranges.add_exits.Given as goal

abbrev pub invariant-loop-s : goal.invariant-loop-s
invariant-loop-s l =
    AddsPoints l.fn.ranges.items l.ranges.items
    (λ at. ForSome (take l.s-index l.solved) (λ s. ForSome (row_at (rows_of l.before) s)
    (λ h. IsKeptOut l.last l.writers h at)))

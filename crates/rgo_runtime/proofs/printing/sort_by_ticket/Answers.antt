use Rattle.std.proofs.Common.{rules}
use Rattle.std.proofs.lemmas.List.Sorted.{IsNonDecreasingBy-from_sort_by_key}
use Rattle.rgo_runtime.specs.Printing.{ticket_of}
use Rattle.rgo_runtime.proofs.printing.sort_by_ticket.Goals as goal

pub returns-clause-sorted : goal.returns-clause-sorted
returns-clause-sorted c =
    IsNonDecreasingBy-from_sort_by_key ticket_of _ c.sort_unstable_by_key.ensures.sorted (λ a r q k. search rules)

use Rattle.std.proofs.Common.{rules, of_calls}
use Rattle.std.proofs.lemmas.Fn.{always_returns_same}
use Rattle.rgo_region_sets.proofs.Sorting.{key, sorted_ordered, same_spans}
use Rattle.rgo_region_sets.proofs.merging.ordered.Goals as goal

pub returns-clause-ordered : goal.returns-clause-ordered
returns-clause-ordered c =
    sorted_ordered c.sort_unstable_by_key.new.self.items
    (c.sort_unstable_by_key.ensures.sorted key (always_returns_same _ _ _ (λ a r f k. search (rules, of_calls))))

pub returns-clause-same : goal.returns-clause-same
returns-clause-same c =
    same_spans c.args.spans.items c.sort_unstable_by_key.new.self.items c.sort_unstable_by_key.ensures.permutation

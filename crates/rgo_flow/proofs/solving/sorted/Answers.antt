use Rattle.std.proofs.lemmas.List.Sorted.{IsNonDecreasingBy-from_sort, Contains-permutation, IsPermutation-sym}
use Rattle.rgo_flow.proofs.solving.sorted.Goals as goal

pub returns-clause-ascending : goal.returns-clause-ascending
returns-clause-ascending c = λ a b l m. IsNonDecreasingBy-from_sort
    (λ x. x) c.sort_unstable.new.self.items c.sort_unstable.ensures.sorted a b 0 l m

pub returns-clause-same : goal.returns-clause-same
returns-clause-same c = λ x. (
  λ h. Contains-permutation c.sort_unstable.new.self.items c.args.row.items x
      (IsPermutation-sym c.args.row.items c.sort_unstable.new.self.items c.sort_unstable.ensures.permutation) h,
  λ h. Contains-permutation c.args.row.items c.sort_unstable.new.self.items x c.sort_unstable.ensures.permutation h,
)

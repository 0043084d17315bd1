use Rattle.rgo_summaries.specs.Beginning.{BeginsFn}
use Rattle.rgo_summaries.specs.Progress.{IsProgress}
use Rattle.rgo_summaries.proofs.beginning.begin.Given as goal

abbrev pub invariant-loop-at : goal.invariant-loop-at
invariant-loop-at l = record {
  is : IsProgress l.progress;
  begins : BeginsFn l.code l.n l.function l.fn.progress.nodes.items l.progress.nodes.items l.fn.sites.items
      l.sites.items l.at;
}

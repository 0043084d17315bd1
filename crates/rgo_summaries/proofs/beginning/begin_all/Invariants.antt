use Rattle.rgo_summaries.specs.Progress.{IsProgress}
use Rattle.rgo_summaries.proofs.Steps.{BegunBefore}
use Rattle.rgo_summaries.proofs.beginning.begin_all.Given as goal

abbrev pub invariant-loop-n : goal.invariant-loop-n
invariant-loop-n l = record {
  is : IsProgress l.progress;
  begun : BegunBefore l.code l.progress.nodes.items l.sites.items l.n;
}

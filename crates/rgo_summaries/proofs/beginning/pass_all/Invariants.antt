use Rattle.rgo_summaries.specs.Beginning.{PassingBelow}
use Rattle.rgo_summaries.specs.Progress.{AddsJoins, IsProgress}
use Rattle.rgo_summaries.proofs.beginning.pass_all.Given as goal

abbrev pub invariant-loop-number : goal.invariant-loop-number
invariant-loop-number l = record {
  is : IsProgress l.progress;
  adds : AddsJoins l.fn.progress l.progress (PassingBelow l.calling l.number);
}

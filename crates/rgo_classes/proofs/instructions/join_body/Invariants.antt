use Rattle.std.proofs.Common.{◌≡◌, length}
use Rattle.rgo_classes.specs.Labels.{JoinsAlso}
use Rattle.rgo_classes.specs.Made.{JoinsBefore}
use Rattle.rgo_classes.proofs.instructions.join_body.Given as goal

abbrev pub invariant-loop-n : goal.invariant-loop-n
invariant-loop-n l = record {
  len : length l.labels ≡ length l.fn.labels;
  joined : JoinsAlso l.fn.labels (JoinsBefore l.summaries.functions l.function l.n) l.labels;
}

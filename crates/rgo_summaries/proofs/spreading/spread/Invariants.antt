use Rattle.std.proofs.Common.{◌+◌, ◌-◌, length}
use Rattle.rgo_summaries.specs.Progress.{seen_all}
use Rattle.rgo_summaries.proofs.Hearing.{Underway}
use Rattle.rgo_summaries.proofs.spreading.spread.Given as goal

abbrev pub invariant-loop-next : goal.invariant-loop-next
invariant-loop-next l = Underway l.sites l.fn.progress l.progress l.next

-- each event leaves one label fewer with a node that callers see
abbrev pub decreases-loop-next : goal.decreases-loop-next
decreases-loop-next l = length l.initial.progress.log.items + seen_all l.initial.progress.nodes.items - l.next

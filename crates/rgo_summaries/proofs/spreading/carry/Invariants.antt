use Rattle.std.proofs.Common.{take}
use Rattle.rgo_summaries.specs.Progress.{AddsJoins, Hears, IsProgress}
use Rattle.rgo_summaries.proofs.spreading.carry.Given as goal

abbrev pub invariant-loop-site : goal.invariant-loop-site
invariant-loop-site l = record {
  is : IsProgress l.progress;
  adds : AddsJoins l.fn.progress l.progress (Hears (take l.site-index l.sites) l.event);
}

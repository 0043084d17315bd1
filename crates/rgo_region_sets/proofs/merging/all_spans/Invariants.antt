use Rattle.std.proofs.Common.{◌↔◌, ◌<◌, ℕ}
use Rattle.rgo_region_sets.specs.Spans.{IsSpanned, IsNamed}
use Rattle.rgo_region_sets.proofs.merging.all_spans.Given as goal

abbrev pub invariant-loop-variable : goal.invariant-loop-variable
invariant-loop-variable l =
    (k at : ℕ) → IsSpanned l.spans.items k at ↔ ((v : ℕ) × (v < l.variable) × IsNamed l.f l.liveness v k at)

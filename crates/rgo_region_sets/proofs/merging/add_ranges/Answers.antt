use Rattle.std.proofs.Common.{◌≡◌, List, refl, subst, arith}
use Rattle.std.proofs.lemmas.List.{take_all}
use Rattle.rgo_flow.specs.declared.ranges.Range.{Range}
use Rattle.rgo_flow.specs.Ranges.{IsCovered}
use Rattle.rgo_flow.proofs.Covering.{not_empty}
use Rattle.rgo_region_sets.specs.Spans.{AddsSpans}
use Rattle.rgo_region_sets.proofs.Spanning.{adds_none, ranges_more}
use Rattle.rgo_region_sets.proofs.merging.add_ranges.Goals as goal

pub loop-range-init : goal.loop-range-init
loop-range-init c =
    adds_none c.args.spans.now.items _ (λ k at h. not_empty at h.1)

pub loop-range-preserved : goal.loop-range-preserved
loop-range-preserved c =
    ranges_more c.args.spans.now.items c.loop-range.spans.items c.append.new.spans.items c.args.name c.args.ranges.now
    c.loop-range.range-index _ _ c.loop-range-test.true refl c.loop-range.invariant c.in_ok-append.ensures

pub returns : goal.returns
returns c =
    subst (λ (l : List Range). AddsSpans c.args.spans.now.items c.loop-range.spans.items
    (λ k at. (k ≡ c.args.name) × IsCovered l at))
    (take_all c.loop-range.range-index c.args.ranges.now (omega (arith, c.loop-range-test.false)))
    c.loop-range.invariant

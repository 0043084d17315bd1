use Rattle.std.proofs.Common.{◌↔◌, ℕ, List, [], sym, subst, arith}
use Rattle.std.proofs.lemmas.Option.{slice_get-get_or}
use Rattle.rgo_region_sets.specs.declared.spans.Span.{Span}
use Rattle.rgo_region_sets.specs.Spans.{AreApart, SpanFollows, IsSpanned}
use Rattle.rgo_region_sets.proofs.Variables.{none_apart, none_merged, none_follows, merged_more, merged_all, next_precedes}
use Rattle.rgo_region_sets.proofs.merging.merged.Goals as goal

pub loop-span-init : goal.loop-span-init
loop-span-init c =
    let none = sym c.new-merged.ensures.items in
    record {
      apart = subst (λ (l : List Span). AreApart l) none none_apart;
      same = subst (λ (l : List Span). (k at : ℕ) → IsSpanned l k at ↔ IsSpanned [] k at) none none_merged;
      follows = λ next e. subst (λ (l : List Span). SpanFollows l next) none (none_follows next);
    }

pub merge-requires-clause-follows : goal.merge-requires-clause-follows
merge-requires-clause-follows c =
    c.loop-span.invariant.follows _ (slice_get-get_or c.args.spans.now c.loop-span.span-index _ c.loop-span-test.true)

pub loop-span-preserved : goal.loop-span-preserved
loop-span-preserved c =
    record {
      apart = c.in_ok-merge.ensures.apart;
      same = merged_more c.args.spans.now c.loop-span.merged.items c.merge.new.merged.items c.loop-span.span-index _
          c.loop-span-test.true c.loop-span.invariant.same c.in_ok-merge.ensures.added;
      follows = λ next e. c.in_ok-merge.ensures.ends next
          (next_precedes c.args.spans.now c.loop-span.span-index _ next c.loop-span-test.true c.requires.ordered e);
    }

pub returns-clause-same : goal.returns-clause-same
returns-clause-same c =
    merged_all c.args.spans.now c.loop-span.merged.items c.loop-span.span-index
    (omega (arith, c.loop-span-test.false)) c.loop-span.invariant.same

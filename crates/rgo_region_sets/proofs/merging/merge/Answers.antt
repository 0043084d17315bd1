use Rattle.std.proofs.Common.{◌≡◌, List, length, sym, subst, arith}
use Rattle.rgo_region_sets.specs.declared.spans.Span.{Span}
use Rattle.rgo_region_sets.specs.Spans.{AreApart, SpanFollows}
use Rattle.rgo_region_sets.proofs.Merges.{apart_after, follows_pushed, joined_added, joined_apart, joined_ends}
use Rattle.rgo_region_sets.proofs.merging.merge.Goals as goal

pub returns-then-meets-clause-added : goal.returns-then-meets-clause-added
returns-then-meets-clause-added c =
    let counted : c.len-count.result ≡ length c.args.merged.now.items = omega (arith, c.len-count.ensures) in
    joined_added c.args.merged.now.items c.len-count.result c.index-last.result.now c.args.next counted
    c.if-count-eq0.false c.index-last.ensures c.requires.follows c.max.result c.max.ensures c.if-meets.ensures

pub returns-then-meets-clause-apart : goal.returns-then-meets-clause-apart
returns-then-meets-clause-apart c =
    let counted : c.len-count.result ≡ length c.args.merged.now.items = omega (arith, c.len-count.ensures) in
    joined_apart c.args.merged.now.items c.len-count.result c.index-last.result.now c.args.next counted
    c.if-count-eq0.false c.index-last.ensures c.requires.follows c.max.result c.max.ensures c.if-meets.ensures
    c.requires.apart

pub returns-then-meets-clause-ends : goal.returns-then-meets-clause-ends
returns-then-meets-clause-ends c =
    let counted : c.len-count.result ≡ length c.args.merged.now.items = omega (arith, c.len-count.ensures) in
    joined_ends c.args.merged.now.items c.len-count.result c.index-last.result.now c.args.next counted
    c.if-count-eq0.false c.index-last.ensures c.requires.follows c.max.result c.max.ensures c.if-meets.ensures

pub returns-clause-apart : goal.returns-clause-apart
returns-clause-apart c =
    let spans = c.args.merged.now.items in
    let counted : c.len-count.result ≡ length spans = omega (arith, c.len-count.ensures) in
    subst (λ (l : List Span). AreApart l) (sym c.in_ok-push-2.ensures.items)
    (apart_after spans c.len-count.result c.index-last.result.now c.args.next counted c.if-count-eq0.false
    c.index-last.ensures c.requires.follows c.if-meets.ensures c.requires.apart)

pub returns-clause-ends : goal.returns-clause-ends
returns-clause-ends c =
    λ later precedes. subst (λ (l : List Span). SpanFollows l later) (sym c.in_ok-push-2.ensures.items)
    (follows_pushed c.args.merged.now.items c.args.next later precedes)

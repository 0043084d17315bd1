use Rattle.std.proofs.Common.{◌↔◌, ℕ, List, [], sym, subst, arith}
use Rattle.std.specs.List.{Contains}
use Rattle.rgo_code.specs.Names.{Holds, IsOwn}
use Rattle.rgo_region_sets.specs.Spans.{IsSpanned}
use Rattle.rgo_region_sets.proofs.Members.{held_none, held_more, held_all, set_with}
use Rattle.rgo_region_sets.proofs.entry.holds_at_entry.Goals as goal

pub loop-span-init : goal.loop-span-init
loop-span-init c =
    subst (λ (l : List ℕ). (k : ℕ) → Contains l k ↔ (IsOwn c.args.f.now k × IsSpanned [] k 0))
    (sym c.new-names.ensures.items) (held_none c.args.f.now)

pub loop-span-preserved : goal.loop-span-preserved
loop-span-preserved c =
    held_more c.args.f.now c.deref-span-items.result.now c.loop-span.span-index _ c.loop-span.names.items
    c.push_if.new.names.items c.is_held-held.result c.loop-span-test.true c.loop-span.invariant
    c.is_held-held.ensures c.in_ok-push_if.ensures

pub returns : goal.returns
returns c =
    set_with c.set_of.result.items (Contains c.loop-span.names.items) (λ k. Holds c.args.f.now k 0) c.set_of.ensures
    (held_all c.args.live.now c.args.f.now c.deref-span-items.result.now c.loop-span.span-index c.loop-span.names.items
    c.deref-span-items.ensures.value (omega (arith, c.loop-span-test.false)) c.requires.live c.loop-span.invariant)

use Rattle.std.proofs.Common.{ℕ, List, [], slice_get, sym, subst, arith}
use Rattle.std.specs.List.{Contains}
use Rattle.rgo_region_sets.specs.Asked.{Creates, IsMissing}
use Rattle.rgo_region_sets.specs.Sets.{IsSet}
use Rattle.rgo_region_sets.specs.Used.{UsesName}
use Rattle.rgo_region_sets.proofs.Picking.{set_none, set_step, set_all, set_as}
use Rattle.rgo_region_sets.proofs.created.creations.Goals as goal

pub loop-name-init : goal.loop-name-init
loop-name-init c =
    subst (λ (l : List ℕ). IsSet l (λ k. Contains [] k × IsMissing c.args.f.now c.args.at k))
    (sym c.new-names.ensures.items) (set_none [] (IsMissing c.args.f.now c.args.at))

pub loop-name-preserved : goal.loop-name-preserved
loop-name-preserved c =
    let used = subst (λ (l : List ℕ). IsSet l (UsesName c.args.f.now (slice_get c.args.f.now.body c.args.at)))
    (sym c.deref-name-items.ensures.value) c.in_ok-used.ensures in
    set_step c.deref-name-items.result.now c.loop-name.names.items c.push_if.new.names.items c.loop-name.name-index 0
    (IsMissing c.args.f.now c.args.at) c.is_missing-missing.result c.loop-name-test.true used.ascends
    c.loop-name.invariant c.is_missing-missing.ensures c.in_ok-push_if.ensures

pub returns : goal.returns
returns c =
    let names = c.deref-name-items.result.now in
    let used = subst (λ (l : List ℕ). IsSet l (UsesName c.args.f.now (slice_get c.args.f.now.body c.args.at)))
    (sym c.deref-name-items.ensures.value) c.in_ok-used.ensures in
    let all = set_all names c.loop-name.names.items c.loop-name.name-index (IsMissing c.args.f.now c.args.at)
    (omega (arith, c.loop-name-test.false)) c.loop-name.invariant in
    set_as c.loop-name.names.items (λ k. Contains names k × IsMissing c.args.f.now c.args.at k)
    (Creates c.args.f.now c.args.at) (λ k. (
      λ h. (h.1.0, (used.members k).0 h.0, λ held. h.1.1 held.1),
      λ h. ((used.members k).1 h.1, (h.0, λ live. h.2 (h.0, live))),
    )) all

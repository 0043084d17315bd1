use Rattle.std.proofs.Common.{ℕ, List, slice_get, sym, subst, ap, ◌∙◌}
use Rattle.std.specs.List.{Contains}
use Rattle.rgo_tac.specs.Code.{TacFn}
use Rattle.rgo_tac.specs.Ops.{op_in, operation_of}
use Rattle.rgo_region_sets.specs.Sets.{IsSet}
use Rattle.rgo_region_sets.specs.Used.{AddsUsed, UsesName}
use Rattle.rgo_region_sets.proofs.Naming.{uses_at, none_used}
use Rattle.rgo_region_sets.proofs.Picking.{set_as, set_empty}
use Rattle.rgo_region_sets.proofs.used.used_names.Goals as goal

pub returns-in_ok-add_used-in-Some : goal.returns-in_ok-add_used-in-Some
returns-in_ok-add_used-in-Some c =
    let names = c.add_used.new.names.items in
    let op = operation_of c.in-Some.op in
    let used = subst (λ (l : List ℕ). AddsUsed c.args.f.now l names op) c.new-names.ensures.items
    c.in_ok-add_used-in-Some.ensures in
    set_as c.set_of.result.items (Contains names) (UsesName c.args.f.now (slice_get c.args.f.now.body c.args.at))
    (uses_at c.args.f.now c.args.at op names
    (ap (λ (t : TacFn). op_in (slice_get t.body c.args.at)) (sym c.tac.ensures) ∙ sym c.in-Some.ensures.op) used)
    c.set_of.ensures

pub returns-in-None : goal.returns-in-None
returns-in-None c =
    subst (λ (l : List ℕ). IsSet l (UsesName c.args.f.now (slice_get c.args.f.now.body c.args.at)))
    (sym c.new-names.ensures.items)
    (set_empty (UsesName c.args.f.now (slice_get c.args.f.now.body c.args.at)) (none_used c.args.f.now c.args.at
    (ap (λ (t : TacFn). op_in (slice_get t.body c.args.at)) (sym c.tac.ensures) ∙ sym c.in-None.ensures.op)))

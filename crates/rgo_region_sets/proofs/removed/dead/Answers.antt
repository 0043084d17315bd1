use Rattle.std.proofs.Common.{ℕ, List, [], sym, subst, arith}
use Rattle.std.specs.List.{Contains}
use Rattle.rgo_region_sets.specs.Asked.{IsDead}
use Rattle.rgo_region_sets.specs.Sets.{IsSet}
use Rattle.rgo_region_sets.proofs.Picking.{set_none, set_step, set_all}
use Rattle.rgo_region_sets.proofs.removed.dead.Goals as goal

pub loop-name-init : goal.loop-name-init
loop-name-init c =
    subst (λ (l : List ℕ). IsSet l (λ k. Contains [] k × IsDead c.args.f.now c.args.gives.now c.args.next k))
    (sym c.new-dead.ensures.items) (set_none [] (IsDead c.args.f.now c.args.gives.now c.args.next))

pub loop-name-preserved : goal.loop-name-preserved
loop-name-preserved c =
    set_step c.args.names.now c.loop-name.dead.items c.push_if.new.names.items c.loop-name.name-index 0
    (IsDead c.args.f.now c.args.gives.now c.args.next) c.is_dead-test.result c.loop-name-test.true c.requires.ascends
    c.loop-name.invariant c.is_dead-test.ensures c.in_ok-push_if.ensures

pub returns : goal.returns
returns c =
    set_all c.args.names.now c.loop-name.dead.items c.loop-name.name-index
    (IsDead c.args.f.now c.args.gives.now c.args.next) (omega (arith, c.loop-name-test.false)) c.loop-name.invariant

use Rattle.std.proofs.Common.{◌↔◌, ℕ, List, [], sym, subst, arith}
use Rattle.std.specs.List.{Contains}
use Rattle.rgo_region_sets.specs.Asked.{Protects}
use Rattle.rgo_region_sets.proofs.Members.{set_with}
use Rattle.rgo_region_sets.proofs.Passed.{protects_more}
use Rattle.rgo_region_sets.proofs.Seeing.{none_seen, none_protected, all_protected}
use Rattle.rgo_region_sets.proofs.protected.protections.Goals as goal

pub loop-class-init : goal.loop-class-init
loop-class-init c = record {
  names = subst (λ (l : List ℕ). (k : ℕ) → Contains l k ↔ Protects c.args.f.now c.args.at [] k)
      (sym c.new-names.ensures.items) (none_protected c.args.f.now c.args.at);
  sees = none_seen c.new-seen.result c.new-seen.ensures.empty;
}

pub loop-class-preserved : goal.loop-class-preserved
loop-class-preserved c =
    let step = protects_more c.args.passes.now c.loop-class.class-index _ c.loop-class-test.true c.args.f.now c.args.at
    c.loop-class.names.items c.protect.new.names.items c.loop-class.seen c.protect.new.seen c.loop-class.invariant.names
    c.loop-class.invariant.sees c.in_ok-protect.ensures in
    record { names = step.0; sees = step.1 }

pub returns : goal.returns
returns c =
    set_with c.set_of.result.items (Contains c.loop-class.names.items)
    (Protects c.args.f.now c.args.at c.args.passes.now) c.set_of.ensures
    (all_protected c.args.f.now c.args.at c.args.passes.now c.loop-class.names.items c.loop-class.class-index
    (omega (arith, c.loop-class-test.false)) c.loop-class.invariant.names)

use Rattle.std.proofs.Common.{refl, subst, ap, ◌∙◌}
use Rattle.std.proofs.lemmas.Option.{slice_get_past}
use Rattle.rgo_region_interpreter.specs.Holders.{HolderEndsBase}
use Rattle.rgo_region_interpreter.proofs.owing.Attending.{count_kept, ends_all, ends_fewer, ends_next, ends_none, ends_nowhere, found}
use Rattle.rgo_region_interpreter.proofs.worlds.World.end_base.Goals as goal

pub loop-holder-init : goal.loop-holder-init
loop-holder-init c = ends_none c.args.self.now c.args.g

pub returns-in_default-clause-ended : goal.returns-in_default-clause-ended
returns-in_default-clause-ended c =
    ends_nowhere c.args.self.now c.loop-holder.self c.args.g c.loop-holder.invariant
    (slice_get_past c.loop-holder.self.holders.items c.args.g c.in_default.ensures.item.3)

pub returns-in_default-clause-done : goal.returns-in_default-clause-done
returns-in_default-clause-done c = c.loop-holder.invariant.done

pub returns-in_default-end_base-clause-ended : goal.returns-in_default-end_base-clause-ended
returns-in_default-end_base-clause-ended c =
    let item = c.in-Some.ensures.item in
    let v = c.loop-holder.self in
    ends_all c.args.self.now v _ c.args.g c.in-Some.holder.now c.end_base.new.self c.loop-holder.invariant
    (found v.holders.items c.args.g c.in-Some.holder.now item.3.0 item.1) refl refl refl refl
    (subst (HolderEndsBase c.in-Some.holder.now c.end_base.new.self) c.in_default-end_base.is c.end_base.ensures)

pub returns-in_default-end_base-clause-done : goal.returns-in_default-end_base-clause-done
returns-in_default-end_base-clause-done c =
    let item = c.in-Some.ensures.item in
    let v = c.loop-holder.self in
    let ends = subst (HolderEndsBase c.in-Some.holder.now c.end_base.new.self) c.in_default-end_base.is c.end_base.ensures in
    count_kept v.holders.items c.args.g c.in-Some.holder.now c.end_base.new.self
    (found v.holders.items c.args.g c.in-Some.holder.now item.3.0 item.1) (ap (λ h. h.done) ends.1)
    ∙ c.loop-holder.invariant.done

pub loop-holder-smaller : goal.loop-holder-smaller
loop-holder-smaller c =
    let item = c.in-Some.ensures.item in
    let v = c.loop-holder.self in
    let ends = subst (HolderEndsBase c.in-Some.holder.now c.end_base.new.self) c.in-Some-end_base.is c.end_base.ensures in
    ends_fewer v _ c.end_stake.new.self c.args.g c.in-Some-end_base.r c.in-Some.holder.now c.end_base.new.self
    (found v.holders.items c.args.g c.in-Some.holder.now item.3.0 item.1) refl ends c.end_stake.ensures.ended

pub loop-holder-preserved : goal.loop-holder-preserved
loop-holder-preserved c =
    let item = c.in-Some.ensures.item in
    let v = c.loop-holder.self in
    let ends = subst (HolderEndsBase c.in-Some.holder.now c.end_base.new.self) c.in-Some-end_base.is c.end_base.ensures in
    ends_next c.args.self.now v _ c.end_stake.new.self c.args.g c.in-Some-end_base.r c.in-Some.holder.now
    c.end_base.new.self c.loop-holder.invariant
    (found v.holders.items c.args.g c.in-Some.holder.now item.3.0 item.1) refl refl refl refl ends
    c.end_stake.ensures.ended c.end_stake.ensures.done

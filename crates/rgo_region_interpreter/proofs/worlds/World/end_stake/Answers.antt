use Rattle.std.proofs.Common.{refl, sym, ap, ◌∙◌, ◌≡◌, Some, None}
use Rattle.std.proofs.lemmas.Option.{slice_get_past}
use Rattle.std.specs.Vec.{with_item}
use Rattle.rgo_region_interpreter.proofs.owing.Attending.{count_kept, ends_guarded, ends_unguarded, found}
use Rattle.rgo_region_interpreter.specs.declared.holders.Holder.{Holder}
use Rattle.rgo_region_interpreter.proofs.worlds.World.end_stake.Goals as goal
use Rattle.rgo_sound.proofs.steps.Acting.{set_same}

nothing_there : (x : Holder) → Some x ≡ None → ⊥
nothing_there x e = cc

pub returns-then-guards-clause-ended : goal.returns-then-guards-clause-ended
returns-then-guards-clause-ended c =
    let item = c.in-Some.ensures.item in
    let w = c.args.self.now in
    let there = found w.holders.items c.args.g c.in-Some.holder.now item.3.0 item.1 in
    rw c.in-Numbered.is
    (ends_guarded w _ c.args.g c.in-Numbered.r c.in-Some.holder.now there (sym c.guards.ensures ∙ c.if-guards.true)
    (record {
      moved = refl;
      table = refl;
      memory = refl;
      holders = set_same w.holders.items c.args.g c.in-Some.holder.now there;
    }))

pub returns-clause-ended : goal.returns-clause-ended
returns-clause-ended c =
    let item = c.in-Some.ensures.item in
    let w = c.args.self.now in
    let there = found w.holders.items c.args.g c.in-Some.holder.now item.3.0 item.1 in
    rw c.in-Numbered.is
    (ends_unguarded w _ c.args.g c.in-Numbered.r c.in-Some.holder.now there (sym c.guards.ensures ∙ c.if-guards.false)
    (record {
      moved = ap (λ s. record c.args.self.now {
        state = s;
        table = c.leave_region.new.table;
        holders = with_item c.args.self.now.holders c.args.g c.leave.new.self;
      }) c.leave_region.ensures.same;
      holder = c.leave.new.self;
      leaves = c.leave.ensures;
      holders = refl;
      table = c.leave_region.ensures.left;
      memory = c.leave_region.ensures.memory;
    }))

pub returns-clause-done : goal.returns-clause-done
returns-clause-done c =
    let item = c.in-Some.ensures.item in
    let w = c.args.self.now in
    count_kept w.holders.items c.args.g c.in-Some.holder.now c.leave.new.self
    (found w.holders.items c.args.g c.in-Some.holder.now item.3.0 item.1) c.leave.ensures.1.done

pub returns-in_default-clause-ended : goal.returns-in_default-clause-ended
returns-in_default-clause-ended c = rw c.in_default.is (record { moved = refl; table = refl; memory = refl; holders = refl })

pub returns-in_default-clause-done : goal.returns-in_default-clause-done
returns-in_default-clause-done c = refl

pub returns-in_default-get_mut-clause-ended : goal.returns-in_default-get_mut-clause-ended
returns-in_default-get_mut-clause-ended c =
    rw c.in-Numbered.is (λ x e. absurd (nothing_there x (sym e ∙ slice_get_past c.args.self.now.holders.items c.args.g c.in_default-get_mut.ensures.item.3)))

pub returns-in_default-get_mut-clause-done : goal.returns-in_default-get_mut-clause-done
returns-in_default-get_mut-clause-done c = refl

pub returns-then-guards-clause-done : goal.returns-then-guards-clause-done
returns-then-guards-clause-done c =
    let item = c.in-Some.ensures.item in
    let w = c.args.self.now in
    count_kept w.holders.items c.args.g c.in-Some.holder.now c.in-Some.holder.now
    (found w.holders.items c.args.g c.in-Some.holder.now item.3.0 item.1) refl

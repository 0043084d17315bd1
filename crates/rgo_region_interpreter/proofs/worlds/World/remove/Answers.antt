use Rattle.std.proofs.Common.{◌∷◌, refl, sym, ◌∙◌}
use Rattle.std.proofs.lemmas.Option.{slice_get_past}
use Rattle.rgo_region_machine.specs.Duties.{removal}
use Rattle.rgo_region_machine.specs.Regions.{unbind}
use Rattle.rgo_region_machine.specs.States.{Remove, top_names, with_top}
use Rattle.rgo_region_interpreter.proofs.owing.Attending.{count_kept, found, no_name, nowhere, remove_attends}
use Rattle.rgo_region_interpreter.proofs.worlds.World.remove.Goals as goal

pub returns-in_default-region-clause-removed : goal.returns-in_default-region-clause-removed
returns-in_default-region-clause-removed c = λ rest s works.
    let item = c.in-Some.ensures.item in
    let w = c.args.self.now in
    absurd (no_name w s c.args.g (Remove c.args.name) rest works c.in-Some.holder.now c.args.name
    (removal s c.args.g (record works.holder {
      environments = with_top works.holder.environments (unbind (top_names works.holder.environments) c.args.name);
      duties = rest;
    }))
    (found w.holders.items c.args.g c.in-Some.holder.now item.3.0 item.1) refl
    (sym c.region.ensures ∙ c.in_default-region.is))

pub returns-clause-removed : goal.returns-clause-removed
returns-clause-removed c =
    let item = c.in-Some.ensures.item in
    let w = c.args.self.now in
    remove_attends w _ c.end_stake.new.self c.args.g c.args.name c.in-Some.holder.now c.unbind.new.self
    c.in-Some-region.region (found w.holders.items c.args.g c.in-Some.holder.now item.3.0 item.1) refl refl refl refl
    (sym c.region.ensures ∙ c.in-Some-region.is) c.unbind.ensures c.end_stake.ensures.ended

pub returns-clause-done : goal.returns-clause-done
returns-clause-done c =
    let item = c.in-Some.ensures.item in
    let w = c.args.self.now in
    c.end_stake.ensures.done
    ∙ count_kept w.holders.items c.args.g c.in-Some.holder.now c.unbind.new.self
    (found w.holders.items c.args.g c.in-Some.holder.now item.3.0 item.1) c.unbind.ensures.kept.done

pub returns-in_default-clause-removed : goal.returns-in_default-clause-removed
returns-in_default-clause-removed c = λ rest s works.
    absurd (nowhere c.args.self.now s c.args.g (Remove c.args.name ∷ rest) works
    (slice_get_past c.args.self.now.holders.items c.args.g c.in_default.ensures.item.3))

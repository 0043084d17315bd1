use Rattle.std.proofs.Common.{◌∷◌, Some, refl, sym, ◌∙◌}
use Rattle.std.proofs.lemmas.Option.{slice_get_past}
use Rattle.rgo_region_machine.specs.Duties.{attended, unprotected}
use Rattle.rgo_region_machine.specs.States.{Unprotect}
use Rattle.rgo_region_interpreter.proofs.owing.Attending.{count_kept, found, no_name, nowhere, unprotect_attends}
use Rattle.rgo_region_interpreter.proofs.worlds.World.unprotect.Goals as goal

pub returns-in-Some-region-clause-unprotected : goal.returns-in-Some-region-clause-unprotected
returns-in-Some-region-clause-unprotected c =
    let item = c.in-Some.ensures.item in
    let w = c.args.self.now in
    unprotect_attends w _ c.args.g c.args.name c.in-Some.holder.now c.unprotect.new.self c.in-Some-region.region
    (found w.holders.items c.args.g c.in-Some.holder.now item.3.0 item.1) refl refl refl refl
    (sym c.region.ensures ∙ c.in-Some-region.is) c.unprotect.ensures

pub returns-in-Some-region-clause-done : goal.returns-in-Some-region-clause-done
returns-in-Some-region-clause-done c =
    let item = c.in-Some.ensures.item in
    let w = c.args.self.now in
    count_kept w.holders.items c.args.g c.in-Some.holder.now c.unprotect.new.self
    (found w.holders.items c.args.g c.in-Some.holder.now item.3.0 item.1) c.unprotect.ensures.1.done

pub returns-in_default-region-clause-unprotected : goal.returns-in_default-region-clause-unprotected
returns-in_default-region-clause-unprotected c = λ rest s works.
    let item = c.in-Some.ensures.item in
    let w = c.args.self.now in
    absurd (no_name w s c.args.g (Unprotect c.args.name) rest works c.in-Some.holder.now c.args.name
    (λ r. Some (attended s c.args.g (unprotected (record works.holder { duties = rest }) r)))
    (found w.holders.items c.args.g c.in-Some.holder.now item.3.0 item.1) refl
    (sym c.region.ensures ∙ c.in_default-region.is))

pub returns-in_default-clause-unprotected : goal.returns-in_default-clause-unprotected
returns-in_default-clause-unprotected c = λ rest s works.
    absurd (nowhere c.args.self.now s c.args.g (Unprotect c.args.name ∷ rest) works
    (slice_get_past c.args.self.now.holders.items c.args.g c.in_default.ensures.item.3))

pub returns-in_default-clause-done : goal.returns-in_default-clause-done
returns-in_default-clause-done c = refl

pub returns-in_default-region-clause-done : goal.returns-in_default-region-clause-done
returns-in_default-region-clause-done c =
    let item = c.in-Some.ensures.item in
    let w = c.args.self.now in
    count_kept w.holders.items c.args.g c.in-Some.holder.now c.in-Some.holder.now
    (found w.holders.items c.args.g c.in-Some.holder.now item.3.0 item.1) refl

use Rattle.std.proofs.Common.{◌∷◌, refl, sym, ◌∙◌}
use Rattle.std.proofs.lemmas.Option.{slice_get_past}
use Rattle.rgo_region_machine.specs.Duties.{protected}
use Rattle.rgo_region_machine.specs.States.{Protect}
use Rattle.rgo_region_interpreter.proofs.owing.Attending.{count_kept, found, no_name, nowhere, protect_attends}
use Rattle.rgo_region_interpreter.proofs.worlds.World.protect.Goals as goal

pub returns-in_ok-protect-clause-protected : goal.returns-in_ok-protect-clause-protected
returns-in_ok-protect-clause-protected c =
    let item = c.in-Some.ensures.item in
    let w = c.args.self.now in
    protect_attends w _ c.args.g c.args.name c.in-Some.holder.now c.protect.new.self c.in-Some-region.region
    (found w.holders.items c.args.g c.in-Some.holder.now item.3.0 item.1) refl refl refl refl
    (sym c.region.ensures ∙ c.in-Some-region.is) c.in_ok-protect.ensures.protects

pub returns-in_ok-protect-clause-done : goal.returns-in_ok-protect-clause-done
returns-in_ok-protect-clause-done c =
    let item = c.in-Some.ensures.item in
    let w = c.args.self.now in
    count_kept w.holders.items c.args.g c.in-Some.holder.now c.protect.new.self
    (found w.holders.items c.args.g c.in-Some.holder.now item.3.0 item.1) c.in_ok-protect.ensures.protects.1.done

pub returns-in_default-region-clause-protected : goal.returns-in_default-region-clause-protected
returns-in_default-region-clause-protected c = λ rest s works.
    let item = c.in-Some.ensures.item in
    let w = c.args.self.now in
    absurd (no_name w s c.args.g (Protect c.args.name) rest works c.in-Some.holder.now c.args.name
    (protected s c.args.g (record works.holder { duties = rest }))
    (found w.holders.items c.args.g c.in-Some.holder.now item.3.0 item.1) refl
    (sym c.region.ensures ∙ c.in_default-region.is))

pub returns-in_default-clause-protected : goal.returns-in_default-clause-protected
returns-in_default-clause-protected c = λ rest s works.
    absurd (nowhere c.args.self.now s c.args.g (Protect c.args.name ∷ rest) works
    (slice_get_past c.args.self.now.holders.items c.args.g c.in_default.ensures.item.3))

pub returns-in_err-protect-clause-same : goal.returns-in_err-protect-clause-same
returns-in_err-protect-clause-same c = record { code = refl; sizes = refl; print = refl }

pub returns-in_ok-protect-clause-same : goal.returns-in_ok-protect-clause-same
returns-in_ok-protect-clause-same c = record { code = refl; sizes = refl; print = refl }

pub returns-in_default-region-clause-same : goal.returns-in_default-region-clause-same
returns-in_default-region-clause-same c = record { code = refl; sizes = refl; print = refl }

pub returns-in_default-clause-same : goal.returns-in_default-clause-same
returns-in_default-clause-same c = record { code = refl; sizes = refl; print = refl }

pub returns-in_default-clause-done : goal.returns-in_default-clause-done
returns-in_default-clause-done c = refl

pub returns-in_default-region-clause-done : goal.returns-in_default-region-clause-done
returns-in_default-region-clause-done c =
    let item = c.in-Some.ensures.item in
    let w = c.args.self.now in
    count_kept w.holders.items c.args.g c.in-Some.holder.now c.in-Some.holder.now
    (found w.holders.items c.args.g c.in-Some.holder.now item.3.0 item.1) refl

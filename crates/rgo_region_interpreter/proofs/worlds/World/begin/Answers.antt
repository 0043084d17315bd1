use Rattle.std.proofs.Common.{map, refl, sym, ap, ◌∙◌, subst, slice_get}
use Rattle.rgo_region_machine.specs.Owed.{twice}
use Rattle.rgo_region_interpreter.specs.Calls.{NamesStandFor, or_no_elements}
use Rattle.rgo_region_interpreter.proofs.owing.Attending.{found}
use Rattle.rgo_region_interpreter.proofs.passing.Beginning.{begun_with}
use Rattle.rgo_region_interpreter.proofs.worlds.World.begin.Goals as goal

pub returns-clause-begun : goal.returns-clause-begun
returns-clause-begun c =
    let w = c.args.self.now in
    let look = c.in-Some.ensures.lookup in
    let names = c.fill.new.names.items in
    let formals = c.formals_at-formals.result.now in
    begun_with w _ c.args.g c.args.callee (slice_get c.args.next.now.function.body c.args.next.now.at)
    c.in-Some.holder.now c.in_ok-new.field-0 names c.in_ok-base.base.items formals c.passes-passes.result.now
    c.in_ok-regions.regions.items c.requires.prepared
    (ap (λ l. slice_get l c.args.g) (sym c.deref-2.ensures.value)
    ∙ found c.deref-2.result.now c.args.g c.in-Some.holder.now look.3.0 look.1)
    refl c.in_ok-push.ensures.items c.in_ok-new.ensures
    (c.formals_at-formals.ensures
    ∙ ap (λ l. or_no_elements (slice_get (map (λ v. v.items) l) c.args.callee)) c.deref.ensures.value)
    c.passes-passes.ensures
    (λ bindings same. c.in_ok-regions.ensures bindings
    (subst (λ l. NamesStandFor l bindings) (sym c.names-callers.ensures) same))
    (λ bindings same. c.in_ok-fill.ensures bindings
    (subst (λ l. NamesStandFor l bindings) (sym c.names-callers.ensures) same))
    (c.in_ok-base.ensures ∙ ap twice c.deref-3.ensures.value)

pub returns-clause-same : goal.returns-clause-same
returns-clause-same c = record { code = refl; sizes = refl; print = refl }

pub returns-in_default-clause-same : goal.returns-in_default-clause-same
returns-in_default-clause-same c = record { code = refl; sizes = refl; print = refl }

pub returns-in_err-fill-clause-same : goal.returns-in_err-fill-clause-same
returns-in_err-fill-clause-same c = record { code = refl; sizes = refl; print = refl }

pub returns-in_err-regions-clause-same : goal.returns-in_err-regions-clause-same
returns-in_err-regions-clause-same c = record { code = refl; sizes = refl; print = refl }

pub returns-in_err-base-clause-same : goal.returns-in_err-base-clause-same
returns-in_err-base-clause-same c = record { code = refl; sizes = refl; print = refl }

pub returns-in_err-new-clause-same : goal.returns-in_err-new-clause-same
returns-in_err-new-clause-same c = record { code = refl; sizes = refl; print = refl }

pub returns-in_err-push-clause-same : goal.returns-in_err-push-clause-same
returns-in_err-push-clause-same c = record { code = refl; sizes = refl; print = refl }

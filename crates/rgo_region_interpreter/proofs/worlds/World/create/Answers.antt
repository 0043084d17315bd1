use Rattle.std.proofs.Common.{◌∷◌, arith, refl, subst}
use Rattle.std.proofs.lemmas.Option.{slice_get_past}
use Rattle.rgo_region_machine.specs.declared.regions.Region.TheVariants.{Numbered}
use Rattle.rgo_region_machine.specs.States.{Create}
use Rattle.rgo_region_interpreter.specs.Holders.{Binds}
use Rattle.rgo_region_interpreter.proofs.owing.Attending.{count_kept, create_attends, found, nowhere}
use Rattle.rgo_region_interpreter.proofs.worlds.World.create.Goals as goal

pub returns-in_ok-bind-clause-created : goal.returns-in_ok-bind-clause-created
returns-in_ok-bind-clause-created c =
    let item = c.in-Some.ensures.item in
    let w = c.args.self.now in
    create_attends w _ c.args.g c.args.name c.in-Some.holder.now c.bind.new.self
    (found w.holders.items c.args.g c.in-Some.holder.now item.3.0 item.1) refl refl refl
    (subst (λ r. Binds c.in-Some.holder.now c.bind.new.self c.args.name (Numbered r)) c.in_ok-r.ensures.number
    c.in_ok-bind.ensures.binds)
    c.in_ok-r.ensures.created (omega (arith, c))

pub returns-in_ok-bind-clause-done : goal.returns-in_ok-bind-clause-done
returns-in_ok-bind-clause-done c =
    let item = c.in-Some.ensures.item in
    let w = c.args.self.now in
    count_kept w.holders.items c.args.g c.in-Some.holder.now c.bind.new.self
    (found w.holders.items c.args.g c.in-Some.holder.now item.3.0 item.1) c.in_ok-bind.ensures.binds.kept.done

pub returns-in_default-clause-created : goal.returns-in_default-clause-created
returns-in_default-clause-created c = λ rest s works.
    absurd (nowhere c.args.self.now s c.args.g (Create c.args.name ∷ rest) works
    (slice_get_past c.args.self.now.holders.items c.args.g c.in_default.ensures.item.3))

pub returns-in_err-r-clause-same : goal.returns-in_err-r-clause-same
returns-in_err-r-clause-same c = record { code = refl; sizes = refl; print = refl }

pub returns-in_err-bind-clause-same : goal.returns-in_err-bind-clause-same
returns-in_err-bind-clause-same c = record { code = refl; sizes = refl; print = refl }

pub returns-in_ok-bind-clause-same : goal.returns-in_ok-bind-clause-same
returns-in_ok-bind-clause-same c = record { code = refl; sizes = refl; print = refl }

pub returns-in_default-clause-same : goal.returns-in_default-clause-same
returns-in_default-clause-same c = record { code = refl; sizes = refl; print = refl }

pub returns-in_default-clause-done : goal.returns-in_default-clause-done
returns-in_default-clause-done c = refl

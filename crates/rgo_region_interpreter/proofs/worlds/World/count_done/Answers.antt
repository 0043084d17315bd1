use Rattle.std.proofs.Common.{◌+◌, refl, sym, ap, ◌∙◌}
use Rattle.std.proofs.lemmas.Option.{slice_get_past}
use Rattle.rgo_sound.proofs.Places.{get_set_same}
use Rattle.rgo_region_interpreter.specs.Works.{done_in}
use Rattle.rgo_region_interpreter.proofs.owing.Attending.{count_at, counted_works, found, kept_set, nowhere}
use Rattle.rgo_region_interpreter.proofs.worlds.World.count_done.Goals as goal

pub returns-in_default-checked_add-clause-works : goal.returns-in_default-checked_add-clause-works
returns-in_default-checked_add-clause-works c =
    let item = c.in-Some.ensures.item in
    let w = c.args.self.now in
    counted_works w _ c.args.g c.in-Some.holder.now c.in-Some.holder.now.done
    (found w.holders.items c.args.g c.in-Some.holder.now item.3.0 item.1) refl refl refl refl

pub returns-in-Some-checked_add-clause-works : goal.returns-in-Some-checked_add-clause-works
returns-in-Some-checked_add-clause-works c =
    let item = c.in-Some.ensures.item in
    let w = c.args.self.now in
    counted_works w _ c.args.g c.in-Some.holder.now c.in-Some-checked_add.done
    (found w.holders.items c.args.g c.in-Some.holder.now item.3.0 item.1) refl refl refl refl

pub returns-in-Some-checked_add-clause-done : goal.returns-in-Some-checked_add-clause-done
returns-in-Some-checked_add-clause-done c = λ s ds works.
    let item = c.in-Some.ensures.item in
    let w = c.args.self.now in
    let there = found w.holders.items c.args.g c.in-Some.holder.now item.3.0 item.1 in
    ap done_in (get_set_same w.holders.items c.args.g c.in-Some.holder.now _ there)
    ∙ c.in-Some-checked_add.ensures.1
    ∙ ap (λ n. n + 1) (sym (count_at w.holders.items c.args.g c.in-Some.holder.now there))

pub returns-in_default-clause-done : goal.returns-in_default-clause-done
returns-in_default-clause-done c = λ s ds works.
    absurd (nowhere c.args.self.now s c.args.g ds works
    (slice_get_past c.args.self.now.holders.items c.args.g c.in_default.ensures.item.3))

pub returns-in_default-checked_add-clause-others : goal.returns-in_default-checked_add-clause-others
returns-in_default-checked_add-clause-others c = kept_set c.args.self.now.holders.items c.args.g _

pub returns-in-Some-checked_add-clause-others : goal.returns-in-Some-checked_add-clause-others
returns-in-Some-checked_add-clause-others c = kept_set c.args.self.now.holders.items c.args.g _

use Rattle.std.proofs.Common.{refl, ap}
use Rattle.std.proofs.lemmas.Option.{slice_get_past}
use Rattle.rgo_sound.proofs.Places.{get_set_same}
use Rattle.rgo_region_interpreter.specs.Works.{done_in}
use Rattle.rgo_region_interpreter.proofs.owing.Attending.{counted_works, found, kept_set}
use Rattle.rgo_region_interpreter.proofs.worlds.World.owe.Goals as goal

pub returns-in-Some-clause-works : goal.returns-in-Some-clause-works
returns-in-Some-clause-works c =
    let item = c.in-Some.ensures.item in
    let w = c.args.self.now in
    counted_works w _ c.args.g c.in-Some.holder.now 0
    (found w.holders.items c.args.g c.in-Some.holder.now item.3.0 item.1) refl refl refl refl

pub returns-in-Some-clause-done : goal.returns-in-Some-clause-done
returns-in-Some-clause-done c =
    let item = c.in-Some.ensures.item in
    let w = c.args.self.now in
    ap done_in (get_set_same w.holders.items c.args.g c.in-Some.holder.now _
    (found w.holders.items c.args.g c.in-Some.holder.now item.3.0 item.1))

pub returns-in-Some-clause-others : goal.returns-in-Some-clause-others
returns-in-Some-clause-others c = kept_set c.args.self.now.holders.items c.args.g _

pub returns-in_default-clause-done : goal.returns-in_default-clause-done
returns-in_default-clause-done c =
    ap done_in (slice_get_past c.args.self.now.holders.items c.args.g c.in_default.ensures.item.3)

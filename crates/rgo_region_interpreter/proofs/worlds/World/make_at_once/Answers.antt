use Rattle.std.proofs.Common.{slice_set, ◌≡◌, ◌-◌, ◌∷◌, ◌∙◌, true, Some, ap, arith, drop, length, refl, reverse, slice_get, sym, subst}
use Rattle.std.specs.Vec.{vec_len}
use Rattle.std.proofs.lemmas.Option.{slice_get_read}
use Rattle.rgo_memory.specs.Channels.{SameChannels}
use Rattle.rgo_interpreter.specs.Views.{memory_view}
use Rattle.rgo_interpreter.proofs.InPlace.{set_same}
use Rattle.rgo_interpreter.proofs.Newest.{newest, renewed}
use Rattle.rgo_tac_interpreter.specs.Making.{FrameContinues}
use Rattle.rgo_tac.specs.Steps.{tac_act, tac_stand}
use Rattle.rgo_code.specs.Erasure.{erased}
use Rattle.rgo_region_interpreter.specs.declared.worlds.World.{World}
use Rattle.rgo_region_interpreter.specs.Works.{MayStep}
use Rattle.rgo_region_interpreter.proofs.acts.AtOnce.{goes_once, may_step, world_same, world_then}
use Rattle.rgo_region_interpreter.proofs.worlds.World.make_at_once.Goals as goal

pub returns-in_default : goal.returns-in_default
returns-in_default c = c.self.view_is

pub returns-in_default-last_mut : goal.returns-in_default-last_mut
returns-in_default-last_mut c =
    let v = c.self.view_is in
    let b = c.goroutine.view_is in
    let item = c.in-Some.ensures.item in
    let read : slice_get c.args.self.now.state.goroutines c.args.g ≡ Some c.in-Some.goroutine.now =
    subst (λ (w : World). slice_get w.state.goroutines c.args.g ≡ Some c.in-Some.goroutine.now) v
    (slice_get_read _ _ c.args.g c.in-Some.goroutine.now refl item.3.0 item.1) in
    let same = set_same c.args.self.now.state.goroutines c.args.g c.in-Some.goroutine.now read in
    world_same _ c.args.self.now c.args.g _ _ _ v (ap (λ (u : World). u.state.memory) v) b same

pub returns : goal.returns
returns c =
    let w = c.args.self.now in
    let g = c.args.g in
    let v = c.self.view_is in
    let b = c.goroutine.view_is in
    let item = c.in-Some.ensures.item in
    let read : slice_get w.state.goroutines g ≡ Some c.in-Some.goroutine.now =
    subst (λ (w : World). slice_get w.state.goroutines g ≡ Some c.in-Some.goroutine.now) v
    (slice_get_read _ _ g c.in-Some.goroutine.now refl item.3.0 item.1) in
    let last = c.in-Some-last_mut.ensures.item in
    let frames = c.goroutine.inside.frames in
    let place = vec_len frames - 1 in
    let old = c.in-Some-last_mut.frame.now in
    let next = c.make_object.new.frame in
    let n = memory_view c.make_object.new.memory in
    let callers = drop 1 (reverse frames.items) in
    let top = newest frames.items old place (omega (arith, last.3.0, frames.ok.0)) last.1 in
    let again = renewed frames.items next place (omega (arith, last.3.0, frames.ok.0)) in
    let kept = set_same frames.items place old
    (slice_get_read frames.items (length frames.items) place old refl (omega (arith, last.3.0, frames.ok.0)) last.1) in
    let at : slice_get w.state.goroutines g ≡ Some (old ∷ callers) = read ∙ ap Some (sym b ∙ top) in
    let m = ap (λ (u : World). u.state.memory) v in
    let code = c.tac.ensures ∙ ap (λ (u : World). erased u.code.now) v in
    let did : FrameContinues c.make_object.result (tac_stand (erased w.code.now) old) (tac_act (erased w.code.now) w.state.memory old)
    w.state.memory n old next =
    subst (λ x. FrameContinues c.make_object.result (tac_stand x old) (tac_act x w.state.memory old) w.state.memory n old next) code
    (subst (λ k. FrameContinues c.make_object.result (tac_stand c.tac.result.now old) (tac_act c.tac.result.now k old) k n old next) m
    c.make_object.ensures.goes) in
    may_step w _ g c.make_object.result
    (λ is. subst (λ u. MayStep w u g true) (world_then _ w g n _ _ (next ∷ callers) v refl again)
    (goes_once w g n old next callers at
    (subst (λ x. FrameContinues x (tac_stand (erased w.code.now) old) (tac_act (erased w.code.now) w.state.memory old) w.state.memory n
    old next) is did)
    (subst (λ k. SameChannels k n) m c.make_object.ensures.channels)))
    (λ is.
    let same : (n ≡ w.state.memory) × (next ≡ old) =
    subst (λ x. FrameContinues x (tac_stand (erased w.code.now) old) (tac_act (erased w.code.now) w.state.memory old) w.state.memory n
    old next) is did in
    world_same _ w g _ _ _ v same.0
    (ap (λ f. reverse (slice_set frames.items place f)) same.1 ∙ ap reverse kept ∙ b)
    (set_same w.state.goroutines g c.in-Some.goroutine.now read))

use Rattle.std.proofs.Common.{◌≡◌, true, Some, ap, refl, reverse, slice_get, sym, subst, ◌∙◌}
use Rattle.std.proofs.lemmas.Option.{slice_get_read}
use Rattle.rgo_interpreter.proofs.InPlace.{set_same}
use Rattle.rgo_tac_interpreter.specs.Transfers.{FramesStep, StepsTo}
use Rattle.rgo_code.specs.Erasure.{erased}
use Rattle.rgo_region_interpreter.specs.declared.worlds.World.{World}
use Rattle.rgo_region_interpreter.specs.Works.{MayStep}
use Rattle.rgo_region_interpreter.proofs.acts.AtOnce.{may_step, steps_once, world_same, world_then}
use Rattle.rgo_region_interpreter.proofs.worlds.World.transfer_at_once.Goals as goal

pub returns-in_default : goal.returns-in_default
returns-in_default c = c.self.view_is

pub returns : goal.returns
returns c =
    let w = c.args.self.now in
    let g = c.args.g in
    let v = c.self.view_is in
    let b = c.goroutine.view_is in
    let item = c.in-Some.ensures.item in
    let read : slice_get w.state.goroutines g ≡ Some c.in-Some.goroutine.now =
    subst (λ (w : World). slice_get w.state.goroutines g ≡ Some c.in-Some.goroutine.now) v
    (slice_get_read _ _ g c.in-Some.goroutine.now refl item.3.0 item.1) in
    let before = reverse c.goroutine.inside.frames.items in
    let after = reverse c.call_or_return.new.frames.items in
    let m = w.state.memory in
    let memory = c.call_or_return.ensures.memory ∙ ap (λ (u : World). u.state.memory) v in
    let did : FramesStep c.call_or_return.result (erased w.code.now) before after =
    subst (λ code. FramesStep c.call_or_return.result code before after)
    (c.tac.ensures ∙ ap (λ (u : World). erased u.code.now) v) c.call_or_return.ensures.steps in
    may_step w _ g c.call_or_return.result
    (λ is.
    let steps : StepsTo (erased w.code.now) before after =
    subst (λ x. FramesStep x (erased w.code.now) before after) is did in
    subst (λ u. MayStep w u g true) (world_then _ w g m _ _ after v memory refl)
    (steps_once w g m before after (read ∙ ap Some (sym b)) (steps.goes w.state g) steps.room (λ o channel is. is)))
    (λ is. world_same _ w g _ _ _ v memory (subst (λ x. FramesStep x (erased w.code.now) before after) is did ∙ b)
    (set_same w.state.goroutines g c.in-Some.goroutine.now read))

use Rattle.std.proofs.Common.{◌≤◌, drop, length, sym, ap, ◌∙◌, subst}
use Rattle.std.proofs.lemmas.List.{length-map}
use Rattle.rgo_core.specs.Frames.shown.WordFrames.{bare_all}
use Rattle.rgo_sound.specs.RegionMachine.Owed.{caller_duties}
use Rattle.rgo_sound.specs.RegionMachine.States.{EndBase}
use Rattle.rgo_body.proofs.Transfers.{no_caller_below, on_ok}
use Rattle.rgo_body.proofs.bodies.Body.room_to_return.Goals as goal

pub returns-in-None-clause-room : goal.returns-in-None-clause-room
returns-in-None-clause-room c =
    on_ok c.reserve.result c.reserve.ensures.room (λ room T r s.
    subst (λ n. n ≤ c.reserve.new.self.room)
    (c.base_len.ensures T.sizes.regions r.frame.holder r.memory.fills s.holds
    ∙ sym (length-map r.frame.holder.base EndBase)
    ∙ sym (ap (λ fs. length (caller_duties T.code r.frame.holder (bare_all fs)))
    (ap (drop 1) s.frames ∙ no_caller_below _ c.in-None.ensures))) room)

use Rattle.std.proofs.Common.{refl}
use Rattle.rgo_memory.specs.Channels.{sent}
use Rattle.rgo_interpreter.specs.Views.{memory_view}
use Rattle.rgo_interpreter.proofs.InPlace.{changed_if_room, none_ready}
use Rattle.rgo_interpreter.proofs.channels.send.Goals as goal

pub returns-in-Some : goal.returns-in-Some
returns-in-Some c =
    rw c.in-Object.is
    (changed_if_room (memory_view c.args.memory.now) _ c.in-Object.n _ _ c.in-Some.ensures.value
    (rw c.in-Some.is at (c.object_mut.follows.holds c.send_to.new.object)) c.send_to.result
    (sent c.args.value) refl c.send_to.ensures)

pub returns-in-None : goal.returns-in-None
returns-in-None c =
    rw c.in-Object.is
    (none_ready (memory_view c.args.memory.now) _ c.in-Object.n c.in-None.ensures.value
    c.object_mut.follows.holds-at-none (sent c.args.value) refl)

use Rattle.std.proofs.Common.{refl}
use Rattle.rgo_memory.specs.Channels.{received}
use Rattle.rgo_interpreter.specs.Views.{memory_view}
use Rattle.rgo_interpreter.proofs.InPlace.{changed_if_ready, none_ready}
use Rattle.rgo_interpreter.proofs.channels.receive.Goals as goal

pub returns-in-Some : goal.returns-in-Some
returns-in-Some c =
    rw c.in-Object.is
    (changed_if_ready (memory_view c.args.memory.now) _ c.in-Object.n _ _ c.in-Some.ensures.value
    (rw c.in-Some.is at (c.object_mut.follows.holds c.receive_from.new.object)) c.receive_from.result
    (received c.args.blank) refl c.receive_from.ensures)

pub returns-in-None : goal.returns-in-None
returns-in-None c =
    rw c.in-Object.is
    (none_ready (memory_view c.args.memory.now) _ c.in-Object.n c.in-None.ensures.value
    c.object_mut.follows.holds-at-none (received c.args.blank) refl)

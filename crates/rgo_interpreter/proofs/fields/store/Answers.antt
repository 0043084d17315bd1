use Rattle.std.proofs.Common.{refl}
use Rattle.rgo_memory.specs.Fields.{store_outcome}
use Rattle.rgo_interpreter.specs.Views.{memory_view}
use Rattle.rgo_interpreter.proofs.InPlace.{changed, not_there}
use Rattle.rgo_interpreter.proofs.fields.store.Goals as goal

pub returns-in-Some : goal.returns-in-Some
returns-in-Some c =
    rw c.in-Object.is
    (changed (memory_view c.args.memory.now) _ c.in-Object.n _ _ c.in-Some.ensures.value
    (rw c.in-Some.is at (c.object_mut.follows.holds c.store_in.new.object)) c.store_in.result
    (store_outcome c.args.field c.args.value) refl c.store_in.ensures)

pub returns-in-None : goal.returns-in-None
returns-in-None c =
    rw c.in-Object.is
    (not_there (memory_view c.args.memory.now) _ c.in-Object.n c.in-None.ensures.value c.object_mut.follows.holds-at-none
    (store_outcome c.args.field c.args.value) refl)

use Rattle.std.proofs.Common.{rules, refl}
use Rattle.rgo_memory.specs.Elements.{put_in}
use Rattle.rgo_interpreter.specs.Views.{memory_view}
use Rattle.rgo_interpreter.proofs.InPlace.{changed, not_there}
use Rattle.rgo_interpreter.proofs.elements.put.Goals as goal

pub returns-in-Some : goal.returns-in-Some
returns-in-Some c =
    let known = c.put_in.ensures in
    rw (c.in-Object-Int.is-0, c.in-Object-Int.is-1)
    (changed (memory_view c.args.memory.now) _ c.in-Object-Int.n _ _ c.in-Some.ensures.value
    (rw c.in-Some.is at (c.object_mut.follows.holds c.put_in.new.object)) c.put_in.result
    (put_in c.in-Object-Int.index c.args.value) refl (search (rules, known)))

pub returns-in-None : goal.returns-in-None
returns-in-None c =
    rw (c.in-Object-Int.is-0, c.in-Object-Int.is-1)
    (not_there (memory_view c.args.memory.now) _ c.in-Object-Int.n c.in-None.ensures.value
    c.object_mut.follows.holds-at-none (put_in c.in-Object-Int.index c.args.value) refl)

use Rattle.std.proofs.Common.{◌∙◌, ap, refl, Some}
use Rattle.rgo_interpreter.specs.Views.{memory_view}
use Rattle.rgo_interpreter.proofs.Operating.{sent_only, closed_only}
use Rattle.rgo_interpreter.specs.declared.machines.Stand.TheVariants as stand
use Rattle.rgo_interpreter.proofs.Going.{operates, changes_of, ready}
use Rattle.rgo_interpreter.proofs.goroutines.go.Goals as goal

pub returns-in-Some-2-clause-happens : goal.returns-in-Some-2-clause-happens
returns-in-Some-2-clause-happens g c =
    let send = c.in-Send in
    let sent = rw c.in-Some-2.is at c.in_ok-effect-in-Send.ensures in
    operates (g.M.Machine.machine c.args.machine.now) c.args.g (memory_view c.args.memory.now)
    (memory_view c.send.new.memory)
    c.args.goroutine.now c.operate-in-Some-2.new.goroutine c.args.printed.now.items
    (stand.Send send.channel send.value send.place) c.in-Some-2.effect send.channel c.operate-in-Some-2.result refl
    (c.requires.stands ∙ ap Some send.is) sent c.operate-in-Some-2.ensures.happened c.operate-in-Some-2.ensures.frames

pub returns-in-Some-2-clause-channels : goal.returns-in-Some-2-clause-channels
returns-in-Some-2-clause-channels g c =
    let send = c.in-Send in
    let sent = rw c.in-Some-2.is at c.in_ok-effect-in-Send.ensures in
    changes_of c.in-Some-2.effect send.channel send.place (memory_view c.args.memory.now) (memory_view c.send.new.memory) _
    c.operate-in-Some-2.result sent (sent_only (Some c.in-Some-2.effect) _ _ send.channel send.value sent)
    c.operate-in-Some-2.ensures.happened

pub returns-in-Close-clause-happens : goal.returns-in-Close-clause-happens
returns-in-Close-clause-happens g c =
    let close = c.in-Close in
    operates (g.M.Machine.machine c.args.machine.now) c.args.g (memory_view c.args.memory.now)
    (memory_view c.close-effect.new.memory) c.args.goroutine.now c.operate-in-Close.new.goroutine c.args.printed.now.items
    (stand.Close close.channel close.place) c.close-effect.result close.channel c.operate-in-Close.result refl
    (c.requires.stands ∙ ap Some close.is) (ready c.close-effect.result _ _ _ c.close-effect.ensures)
    c.operate-in-Close.ensures.happened c.operate-in-Close.ensures.frames

pub returns-in-Close-clause-channels : goal.returns-in-Close-clause-channels
returns-in-Close-clause-channels g c =
    let close = c.in-Close in
    let closed = ready c.close-effect.result _ _ _ c.close-effect.ensures in
    changes_of c.close-effect.result close.channel close.place (memory_view c.args.memory.now)
    (memory_view c.close-effect.new.memory) _ c.operate-in-Close.result closed
    (closed_only c.close-effect.result _ _ close.channel c.close-effect.ensures) c.operate-in-Close.ensures.happened

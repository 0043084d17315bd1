use Rattle.std.proofs.Common.{rules, ◌-◌, length, arith}
use Rattle.rgo_interpreter.proofs.Newest.{newest}
use Rattle.rgo_interpreter.proofs.states.newest_stand.Goals as goal

pub returns-in-Some : goal.returns-in-Some
returns-in-Some g c =
    let item = c.in-Some.ensures.item in
    let e = newest c.deref.result.now c.in-Some.frame.now (length c.deref.result.now - 1) (omega (arith, item.3.0))
    item.1 in
    let v = c.goroutine.view_is in
    let d = c.deref.ensures.value in
    search (rules, e)

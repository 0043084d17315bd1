use Rattle.std.proofs.Common.{rules}
use Rattle.rgo_interpreter.specs.Views.{memory_view}
use Rattle.rgo_interpreter.proofs.Reading.{meeting_read}
use Rattle.rgo_interpreter.proofs.channels.meets_at.Goals as goal

pub returns-in-Some : goal.returns-in-Some
returns-in-Some c =
    let read = meeting_read (memory_view c.args.memory.now) c.in-Object-Object.m _ c.object.ensures in
    search (rules, read)

pub returns-in-None : goal.returns-in-None
returns-in-None c =
    let read = meeting_read (memory_view c.args.memory.now) c.in-Object-Object.m _ c.object.ensures in
    search (rules, read)

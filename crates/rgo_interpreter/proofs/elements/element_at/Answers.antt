use Rattle.std.proofs.Common.{rules}
use Rattle.rgo_interpreter.specs.Views.{memory_view}
use Rattle.rgo_interpreter.proofs.Reading.{element_read}
use Rattle.rgo_interpreter.proofs.elements.element_at.Goals as goal

pub returns-in-Some-Slice : goal.returns-in-Some-Slice
returns-in-Some-Slice c =
    let found = rw (c.in-Some-Slice.is, c.in-Some-Slice.field-0-is) at c.object.ensures in
    let read = element_read (memory_view c.args.memory.now) c.in-Object-Int.n _ found c.in-Object-Int.index in
    search (rules, read)

pub returns-in_default-object : goal.returns-in_default-object
returns-in_default-object c =
    let read = element_read (memory_view c.args.memory.now) c.in-Object-Int.n _ c.object.ensures c.in-Object-Int.index in
    search (rules, read)

pub returns-in_default-object-2 : goal.returns-in_default-object-2
returns-in_default-object-2 c =
    let read = element_read (memory_view c.args.memory.now) c.in-Object-Int.n _ c.object.ensures c.in-Object-Int.index in
    search (rules, read)

use Rattle.std.proofs.Common.{rules}
use Rattle.rgo_interpreter.specs.Views.{memory_view}
use Rattle.rgo_interpreter.proofs.Reading.{field_read, cell_or_nil}
use Rattle.rgo_interpreter.proofs.fields.load.Goals as goal

pub returns-in-Some-Struct : goal.returns-in-Some-Struct
returns-in-Some-Struct c =
    let found = rw (c.in-Some-Struct.is, c.in-Some-Struct.field-0-is) at c.object.ensures in
    let read = field_read (memory_view c.args.memory.now) c.in-Object.n _ found c.args.field in
    let cell = cell_or_nil c.in-Some-Struct.cells.items c.args.field in
    search (rules, read, cell)

pub returns-in_default-object : goal.returns-in_default-object
returns-in_default-object c =
    let read = field_read (memory_view c.args.memory.now) c.in-Object.n _ c.object.ensures c.args.field in
    search (rules, read)

pub returns-in_default-object-2 : goal.returns-in_default-object-2
returns-in_default-object-2 c =
    let read = field_read (memory_view c.args.memory.now) c.in-Object.n _ c.object.ensures c.args.field in
    search (rules, read)

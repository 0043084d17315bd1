use Rattle.std.proofs.Common.{arith}
use Rattle.rgo_parser.proofs.Wholes.{parsed_as, stops_within, stops_at, starves_never}
use Rattle.rgo_parser.proofs.parser.whole.Goals as goal

pub overflow_sub-result : goal.overflow_sub-result
overflow_sub-result c =
    let failed = rw c.in-Err-Syntax.field-0-is at c.in-Err-Syntax.ensures in
    let h = stops_within c.args.lexemes.now _ _ c.new-reader.ensures (failed (λ e. cc)) in
    omega (arith, h, c.left.ensures)

pub unreachable-requires : goal.unreachable-requires
unreachable-requires c =
    let failed = rw c.in-Err-Starved.field-0-is at c.in-Err-Starved.ensures in
    starves_never c.args.lexemes.now _ c.new-reader.ensures (failed (λ e. cc))

pub returns-in-Ok : goal.returns-in-Ok
returns-in-Ok c = parsed_as c.args.lexemes.now _ _ _ _ c.new-reader.ensures c.in-Ok.ensures

pub returns-in-Err-Syntax : goal.returns-in-Err-Syntax
returns-in-Err-Syntax c =
    let failed = rw c.in-Err-Syntax.field-0-is at c.in-Err-Syntax.ensures in
    rw c.left.ensures (stops_at c.args.lexemes.now _ _ c.new-reader.ensures (failed (λ e. cc)))

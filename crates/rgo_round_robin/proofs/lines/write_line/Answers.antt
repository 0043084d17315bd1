use Rattle.std.proofs.Common.{refl, take}
use Rattle.rgo_round_robin.proofs.Given.{writes_line, writes_fault}
use Rattle.rgo_round_robin.proofs.lines.write_line.Goals as goal

pub returns-in-Ok-clause-sink : goal.returns-in-Ok-clause-sink
returns-in-Ok-clause-sink g c =
    writes_line _ (take c.line_length-count.result c.args.bytes.now) _ _ _ _ _ c.line_length-count.ensures.line
    c.in-Ok.ensures.cause.ok c.in-Ok.ensures.pieces (λ e. cc)

pub returns-in-Err-clause-sink : goal.returns-in-Err-clause-sink
returns-in-Err-clause-sink g c =
    writes_fault _ (take c.line_length-count.result c.args.bytes.now) _ _ _ _ _ c.line_length-count.ensures.line
    c.in-Err.ensures.cause.failed c.in-Err.ensures.breaks.failed c.in-Err.ensures.pieces refl

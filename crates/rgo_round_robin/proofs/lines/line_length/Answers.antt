use Rattle.std.proofs.Common.{arith}
use Rattle.std.proofs.lemmas.List.Elements.{All-more}
use Rattle.rgo_round_robin.proofs.Given.{IsOther}
use Rattle.rgo_round_robin.proofs.lines.line_length.Goals as goal

pub loop-i-preserved : goal.loop-i-preserved
loop-i-preserved c =
    All-more IsOther c.args.bytes.now c.loop-i.i 0 (omega
    (arith, c.loop-i-test.true)) c.loop-i.invariant c.if-bytes-i-eq10.false

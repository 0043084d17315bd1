use Rattle.std.proofs.Common.{arith}
use Rattle.rgo_tac.proofs.Fitting.{one_more, none_more}
use Rattle.rgo_tac.proofs.widths.width_of_all.Goals as goal

pub loop-instr-preserved : goal.loop-instr-preserved
loop-instr-preserved c = λ w le rest.
    let b = c.args.body.now in
    let last = c.widened-width in
    c.loop-instr.invariant w (omega (arith, last.ensures.grows, le))
    (one_more b.lists b.pieces b.instrs _ c.loop-instr.instr-index last.result w _ _ c.items-instr-items.ensures
    c.loop-instr-test.true c.decode.ensures last.ensures.fits le rest)

pub returns : goal.returns
returns c =
    let b = c.args.body.now in
    c.loop-instr.invariant c.loop-instr.width (omega arith)
    (none_more b.lists b.pieces b.instrs _ c.loop-instr.instr-index c.loop-instr.width c.items-instr-items.ensures
    c.loop-instr-test.false)

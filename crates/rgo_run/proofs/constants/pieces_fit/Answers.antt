use Rattle.std.proofs.Common.{All, subst, arith}
use Rattle.std.proofs.lemmas.List.{take_all}
use Rattle.std.proofs.lemmas.List.Elements.{All-more}
use Rattle.rgo_code_words.specs.Worded.{PieceFits}
use Rattle.rgo_run.proofs.constants.pieces_fit.Goals as goal

pub loop-i-preserved : goal.loop-i-preserved
loop-i-preserved c =
    All-more PieceFits c.args.pieces.now c.loop-i.i c.index-pieces-i.result (omega (arith, c.loop-i-test.true))
    c.loop-i.invariant (subst PieceFits c.index-pieces-i.is c.piece_fits.ensures)

pub returns : goal.returns
returns c =
    subst (All PieceFits) (take_all c.loop-i.i c.args.pieces.now (omega (arith, c.loop-i-test.false))) c.loop-i.invariant

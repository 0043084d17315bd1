use Rattle.rgo_big.specs.Big.{starter}
use Rattle.rgo_big.proofs.Lines.{one_more}
use Rattle.rgo_big.proofs.texts.write_starters.Goals as goal

pub loop-k-preserved : goal.loop-k-preserved
loop-k-preserved c =
    one_more starter c.args.n c.loop-k.k c.loop-k-test.true c.loop-k.text.items c.write_starter.new.text.items _
    c.in_ok-write_starter.ensures c.loop-k.invariant

use Rattle.rgo_big.specs.Big.{summer}
use Rattle.rgo_big.proofs.Lines.{one_more}
use Rattle.rgo_big.proofs.texts.write_summers.Goals as goal

pub loop-k-preserved : goal.loop-k-preserved
loop-k-preserved c =
    one_more summer c.args.n c.loop-k.k c.loop-k-test.true c.loop-k.text.items c.write_summer.new.text.items _
    c.in_ok-write_summer.ensures c.loop-k.invariant

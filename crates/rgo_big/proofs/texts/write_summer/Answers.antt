use Rattle.rgo_big.proofs.Lines.{three_parts}
use Rattle.rgo_big.proofs.texts.write_summer.Goals as goal

pub returns : goal.returns
returns c = three_parts _ _ _ _ _ _ _ c.in_ok-write_numbered.ensures c.in_ok-write_numbered-2.ensures c.in_ok-write.ensures

use Rattle.rgo_big.proofs.Lines.{three_parts}
use Rattle.rgo_big.proofs.texts.write_main.Goals as goal

pub returns : goal.returns
returns c = three_parts _ _ _ _ _ _ _ c.in_ok-write.ensures c.in_ok-write_starters.ensures c.in_ok-write_sums.ensures

use Rattle.std.proofs.Common.{arith}
use Rattle.rgo_runtime.proofs.lists.Summing.{one_place}
use Rattle.rgo_runtime.proofs.shares.Shares.make_room.Goals as goal

pub loop-preserved : goal.loop-preserved
loop-preserved c = record {
  len = omega arith;
  from = omega arith;
  within = omega arith;
  end = omega arith;
  room = omega arith;
  items = one_place _ _ _ _ _ _ _ c.loop.invariant.items c.push_reserved.ensures.items c.nothing.ensures (omega arith);
}

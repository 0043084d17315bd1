use Rattle.std.proofs.Common.{◌≡◌, ◌-◌, ◌≤◌, length, take, vec_capacity, vec_len}
use Rattle.rgo_runtime.proofs.shares.Shares.copy.Given as goal

-- the shares before the place of the loop have been copied
abbrev pub invariant-loop-share : goal.invariant-loop-share
invariant-loop-share l = record {
  items : l.shares.items ≡ take l.share-index l.self;
  room : length l.self - l.share-index ≤ vec_capacity l.shares - vec_len l.shares;
}

-- The room was reserved before the loop, so no push can fail. `end` is below the limit of the list, which its invariant needs.
use Rattle.std.proofs.Common.{◌≡◌, ◌<◌, ◌≤◌, ◌-◌, ◌++◌, replicate, vec_capacity, vec_len}
use Rattle.rgo_sound.specs.Tally.{no_share}
use Rattle.rgo_runtime.proofs.shares.Shares.make_room.Given as goal

-- the places that were added
abbrev pub invariant-loop : goal.invariant-loop
invariant-loop l = record {
  len : vec_len l.self-inside.shares ≡ l.counter;
  from : l.len ≤ l.counter;
  within : l.counter ≤ l.end;
  end : l.end < 1099511627776;
  room : l.end - l.counter ≤ vec_capacity l.self-inside.shares - vec_len l.self-inside.shares;
  items : l.self-inside.shares.items ≡ l.initial.self-inside.shares.items ++ replicate (l.counter - l.len) no_share;
}

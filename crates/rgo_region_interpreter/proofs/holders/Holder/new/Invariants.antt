use Rattle.std.proofs.Common.{◌≡◌, ℕ, nat_eq, take, if◌then◌else◌}
use Rattle.std.specs.HashMap.{get}
use Rattle.rgo_region_interpreter.specs.Holders.{count_in, times_among}
use Rattle.rgo_region_interpreter.proofs.holders.Holder.new.Given as goal

abbrev pub invariant-loop-r : goal.invariant-loop-r
invariant-loop-r l = (q : ℕ) → count_in (get nat_eq l.protections q)
    ≡ (if nat_eq (times_among q (take l.r-index l.fn.base.items)) 0 then 0 else 1)

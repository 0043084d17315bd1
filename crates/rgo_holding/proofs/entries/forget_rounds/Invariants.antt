use Rattle.std.proofs.Common.{◌≡◌, if◌then◌else◌, length, nat_lt}
use Rattle.rgo_holding.specs.declared.keys.Key.{Key}
use Rattle.rgo_holding.specs.Entries.{forgotten}
use Rattle.rgo_holding.specs.Known.{entry_of}
use Rattle.rgo_holding.proofs.entries.forget_rounds.Given as goal

abbrev pub invariant-loop-i : goal.invariant-loop-i
invariant-loop-i l = (length l.entries.items ≡ length l.fn.entries.items) × ((key : Key) → entry_of l.entries.items key
    ≡ (if nat_lt key.0 l.i then forgotten (entry_of l.fn.entries.items key) else entry_of l.fn.entries.items key))

use Rattle.std.proofs.Common.{◌-◌, length}
use Rattle.rgo_code_words.proofs.PieceFronts.{Inside}
use Rattle.rgo_code_words.proofs.printed.string_inside.Given as goal

abbrev pub invariant-loop-byte : goal.invariant-loop-byte
invariant-loop-byte l = Inside l.bytes l.inside.items l.at

abbrev pub decreases-loop-byte : goal.decreases-loop-byte
decreases-loop-byte l = length l.bytes - l.at

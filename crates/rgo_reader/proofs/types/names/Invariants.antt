use Rattle.std.proofs.Common.{◌≡◌, ◌-◌, ◌∷◌, []}
use Rattle.rgo_grammar.specs.reading.Types.{names}
use Rattle.rgo_reader.proofs.types.names.Given as goal

abbrev pub invariant-loop-turn : goal.invariant-loop-turn
invariant-loop-turn l = names l.turns (l.fn.one ∷ []) l.fn.reader ≡ names (l.turns - l.turn) l.found.items l.reader

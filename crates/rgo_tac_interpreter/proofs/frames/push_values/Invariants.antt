use Rattle.std.proofs.Common.{◌≡◌, ◌++◌, drop}
use Rattle.rgo_tac.specs.Frames.{operand_values}
use Rattle.rgo_tac_interpreter.proofs.frames.push_values.Given as goal

abbrev pub invariant-loop-n : goal.invariant-loop-n
invariant-loop-n l =
    l.values.items ++ operand_values l.frame (drop l.n-index l.numbers) ≡ l.fn.values.items ++ operand_values l.frame l.numbers

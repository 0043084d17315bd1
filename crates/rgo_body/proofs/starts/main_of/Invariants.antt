use Rattle.std.proofs.Common.{◌≡◌, drop}
use Rattle.rgo_core.specs.runs.Opening.{main_words}
use Rattle.rgo_body.proofs.starts.main_of.Given as goal

abbrev pub invariant-loop-n : goal.invariant-loop-n
invariant-loop-n l = main_words (drop l.n l.code.functions) l.n ≡ main_words l.code.functions 0

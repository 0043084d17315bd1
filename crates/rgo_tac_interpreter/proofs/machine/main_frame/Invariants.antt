use Rattle.std.proofs.Common.{◌≡◌, drop}
use Rattle.rgo_tac.specs.Tac.{tac_main_frames}
use Rattle.rgo_tac_interpreter.proofs.machine.main_frame.Given as goal

abbrev pub invariant-loop-number : goal.invariant-loop-number
invariant-loop-number l = tac_main_frames (drop l.number l.functions) l.number ≡ tac_main_frames l.functions 0

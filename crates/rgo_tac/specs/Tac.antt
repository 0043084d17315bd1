-- The three-address machine: goroutines do the instructions of the code, over a heap that never frees.
use Rattle.std.specs.Prelude.{ℕ, suc, List, [], ◌∷◌, Option, codes, bytes_eq, if◌then◌else◌}
use Rattle.rgo_memory.specs.Opening.{opening}
use Rattle.rgo_machine.specs.declared.picks.Pick.{Pick}
use Rattle.rgo_machine.specs.Machines.{Machine, State, start_state, step_by}
use Rattle.rgo_tac.specs.Code.{TacFn, Tac}
use Rattle.rgo_tac.specs.Frames.{TacFrame, new_tac_frame}
use Rattle.rgo_tac.specs.Steps.{tac_act, tac_stand, tac_resumed}

-- goroutines over one memory, whose frames are at instructions
abbrev pub TacState : Type 0
TacState = State TacFrame

-- the machine that does the instructions of this code
abbrev pub tac : Tac → Machine TacFrame
tac code = record { act = tac_act code; stand = tac_stand code; resume = tac_resumed code }

-- the state after this pick, if it has a step
abbrev pub tac_step : Tac → TacState → Pick → Option TacState
tac_step code = step_by (tac code)

-- the frame of the first function named `main`, if there is one; the first of these functions has number n
abbrev pub tac_main_frames : List TacFn → (n : ℕ) → List TacFrame
tac_main_frames [] n = []
tac_main_frames (fn ∷ fns) n = if bytes_eq fn.name (codes "main") then new_tac_frame fn n [] ∷ [] else tac_main_frames fns (suc n)

-- the state in which a run begins
abbrev pub tac_start : Tac → TacState
tac_start code = start_state (opening code.variables) (tac_main_frames code.functions 0)

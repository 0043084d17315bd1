-- What a report leaves: the status and the bytes on `err`.
use Rattle.std.specs.Prelude.{◌≡◌, ℕ, ◌⊎◌, List, None, Some, take}
use Rattle.rgo_machine.specs.declared.picks.End.TheVariants.{Trap}
use Rattle.rgo_machine.specs.declared.ends.RunEnd.{RunEnd}
use Rattle.rgo_machine.specs.declared.ends.RunEnd.TheVariants.{Ended, WriteFault}
use Rattle.rgo_run.specs.declared.endings.Ending.{Ending}
use Rattle.rgo_run.specs.declared.endings.Ending.TheVariants.{Ran, Refused, CodeRefused, NoMemory}
use Rattle.rgo_run.specs.declared.refusals.CodeTextRefusal.TheVariants as code_refusal
use Rattle.rgo_run.specs.declared.refusals.TextRefusal.TheVariants as refusal
use Rattle.rgo_run.specs.Calls.{SinkUse, Failed, SinkHadNoFault, SinkGrew}
use Rattle.rgo_run.specs.Endings.{status_of, line_of}

-- `err` took the whole line, and the result is the status; or a write failed, `err` took a front part of the line, and the result
-- is 10
abbrev pub WritesLine : List ℕ → ℕ → ℕ → SinkUse → Type 0
WritesLine line status answer err =
    ((answer ≡ status) × SinkGrew err line × SinkHadNoFault err)
    ⊎ ((answer ≡ 10) × Failed err × (n : ℕ) × SinkGrew err (take n line))

-- the same for the lines and the status of an ending
abbrev pub ReportsEnding : List ℕ → Ending → ℕ → SinkUse → Type 0
ReportsEnding text ending answer err = WritesLine (line_of text ending) (status_of ending) answer err

-- a trap, whose line contains its place
abbrev pub IsTrap : RunEnd → Type 0
IsTrap (Ended (Trap trap at)) = Unit {0}
IsTrap _ = ⊥

-- An ending whose lines contain numbers, so that they need memory. All others have constant lines, so a report can always be made.
abbrev pub LineHasNumber : Ending → Type 0
LineHasNumber (Ran kind end (Some tally)) = Unit {0}
LineHasNumber (Ran kind end None) = IsTrap end
LineHasNumber (Refused refusal.TooLong) = ⊥
LineHasNumber (Refused why) = Unit {0}
LineHasNumber (CodeRefused code_refusal.TooLong) = ⊥
LineHasNumber (CodeRefused why) = Unit {0}
LineHasNumber _ = ⊥

-- What is reported instead if there is no memory for the lines of an ending: that memory ran out, or the failed write, without its
-- counts, if the run ended with one.
abbrev pub in_short : Ending → Ending
in_short (Ran kind WriteFault stats) = Ran kind WriteFault None
in_short _ = NoMemory

-- the lines of the ending were written, or, if there was no memory for them, those of `in_short`
abbrev pub Reports : List ℕ → Ending → ℕ → SinkUse → Type 0
Reports text ending answer err =
    ReportsEnding text ending answer err ⊎ (LineHasNumber ending × ReportsEnding text (in_short ending) answer err)

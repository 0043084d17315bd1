use Rattle.std.proofs.Common.{◌<◌, ℕ}
use Rattle.rgo_interpreter.specs.Meetings.{IsUnmet}
use Rattle.rgo_interpreter.proofs.meetings.find_meeting.Given as goal

-- no sender so far is met
abbrev pub invariant-loop-sender : goal.invariant-loop-sender
invariant-loop-sender g l = (h : ℕ) → h < l.sender → IsUnmet (g.M.Machine.machine l.machine) l.state h

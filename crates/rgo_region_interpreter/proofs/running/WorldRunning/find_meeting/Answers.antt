use Rattle.std.proofs.Common.{subst}
use Rattle.std.specs.Prelude.{IfOk}
use Rattle.rgo_interpreter.specs.Meetings.{FindsMeeting}
use Rattle.rgo_tac.specs.Tac.{tac}
use Rattle.rgo_region_interpreter.proofs.stepping.Standing.{kept_meeting}
use Rattle.rgo_region_interpreter.proofs.running.WorldRunning.find_meeting.Goals as goal

pub returns : goal.returns
returns c = λ given p at on.
    kept_meeting c.args.self.now given p at on c.find_meeting.result
    (subst (λ code. IfOk c.find_meeting.result (FindsMeeting (tac code) c.args.self.now.state)) c.machine.ensures
    c.find_meeting.ensures)

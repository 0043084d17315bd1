use Rattle.rgo_region_interpreter.proofs.stepping.Standing.{meet_fixed, meet_machine, meeting_tried}
use Rattle.rgo_region_interpreter.proofs.running.WorldRunning.meet.Goals as goal

pub returns-clause-machine : goal.returns-clause-machine
returns-clause-machine c =
    meet_machine c.args.self.now c.meet_both.new.self c.args.receiver c.args.sender c.meet_both.result
    c.meet_both.ensures.meets c.requires

pub returns-clause-fixed : goal.returns-clause-fixed
returns-clause-fixed c =
    meet_fixed c.args.self.now c.meet_both.new.self c.args.receiver c.args.sender c.meet_both.result
    c.meet_both.ensures.meets c.requires

pub returns-clause-meets : goal.returns-clause-meets
returns-clause-meets c = λ given p at on.
    meeting_tried c.args.self.now c.meet_both.new.self c.args.receiver c.args.sender given p at on c.meet_both.result
    c.meet_both.ensures.meets

use Rattle.rgo_region_interpreter.proofs.stepping.Standing.{is_on, turn_fixed, turn_machine, turn_taken}
use Rattle.rgo_region_interpreter.proofs.running.WorldRunning.turn.Goals as goal

pub take_turn-requires : goal.take_turn-requires
take_turn-requires c = record { on = is_on c.args.self.now c.args.limits c.requires }

pub returns-clause-machine : goal.returns-clause-machine
returns-clause-machine c =
    turn_machine c.args.self.now c.take_turn.new.self c.args.limits c.args.g c.args.at_most c.take_turn.result
    c.take_turn.ensures.takes c.requires

pub returns-clause-fixed : goal.returns-clause-fixed
returns-clause-fixed c =
    turn_fixed c.args.self.now c.take_turn.new.self c.args.limits c.args.g c.args.at_most c.take_turn.result
    c.take_turn.ensures.takes c.requires

pub returns-clause-turns : goal.returns-clause-turns
returns-clause-turns c = λ given p at on.
    turn_taken c.args.self.now c.take_turn.new.self c.args.limits c.args.g c.args.at_most c.take_turn.result
    c.take_turn.ensures.takes given p at on

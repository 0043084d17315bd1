use Rattle.rgo_interpreter.proofs.Advancing.{still_within}
use Rattle.rgo_round_robin.proofs.Once.{goes_on, is_over}
use Rattle.rgo_round_robin.proofs.plain.turn.Goals as goal

pub turn_once-done-requires-clause-within : goal.turn_once-done-requires-clause-within
turn_once-done-requires-clause-within g c =
    still_within (g.M.Machine.machine c.args.machine.now) c.args.limits c.args.state.now c.loop-taken.state c.args.g
    c.loop-taken.taken _ c.requires.within c.loop-taken.invariant

pub loop-taken-preserved : goal.loop-taken-preserved
loop-taken-preserved g c =
    goes_on (g.M.Machine.machine c.args.machine.now) c.args.limits c.args.state.now c.loop-taken.state
    c.turn_once-done.new.state c.args.g c.loop-taken.taken c.loop-taken.invariant c.turn_once-done.result
    c.turn_once-done.ensures c.in-Spent.is

pub returns-in_default : goal.returns-in_default
returns-in_default g c =
    is_over (g.M.Machine.machine c.args.machine.now) c.args.limits c.args.state.now c.loop-taken.state
    c.turn_once-done.new.state c.args.g c.loop-taken.taken c.loop-taken.invariant c.turn_once-done.result
    c.turn_once-done.ensures c.args.at_most c.loop-taken-test.true c.in_default.not-Spent

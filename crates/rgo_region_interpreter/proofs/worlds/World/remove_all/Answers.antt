use Rattle.std.proofs.Common.{refl}
use Rattle.rgo_region_machine.specs.States.{Remove}
use Rattle.rgo_region_interpreter.proofs.owing.Preparing.{does_all, does_more, does_none}
use Rattle.rgo_region_interpreter.proofs.worlds.World.remove_all.Goals as goal

pub loop-name-init : goal.loop-name-init
loop-name-init c = does_none Remove c.args.self.now c.args.g c.args.names.now

pub loop-name-preserved : goal.loop-name-preserved
loop-name-preserved c =
    does_more Remove c.args.self.now c.loop-name.self c.remove.new.self c.args.g c.args.names.now c.loop-name.name-index _
    c.loop-name.invariant c.loop-name-test.true refl c.remove.ensures.removed c.remove.ensures.done

pub returns-clause-removed : goal.returns-clause-removed
returns-clause-removed c =
    does_all Remove c.args.self.now c.loop-name.self c.args.g c.args.names.now c.loop-name.name-index
    c.loop-name.invariant c.loop-name-test.false

pub returns-clause-done : goal.returns-clause-done
returns-clause-done c = c.loop-name.invariant.done

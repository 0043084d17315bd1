use Rattle.std.proofs.Common.{refl}
use Rattle.rgo_region_machine.specs.States.{Unprotect}
use Rattle.rgo_region_interpreter.proofs.owing.Preparing.{does_all, does_more, does_none}
use Rattle.rgo_region_interpreter.proofs.worlds.World.unprotect_all.Goals as goal

pub loop-name-init : goal.loop-name-init
loop-name-init c = does_none Unprotect c.args.self.now c.args.g c.args.names.now

pub loop-name-preserved : goal.loop-name-preserved
loop-name-preserved c =
    does_more Unprotect c.args.self.now c.loop-name.self c.unprotect.new.self c.args.g c.args.names.now c.loop-name.name-index _
    c.loop-name.invariant c.loop-name-test.true refl c.unprotect.ensures.unprotected c.unprotect.ensures.done

pub returns-clause-unprotected : goal.returns-clause-unprotected
returns-clause-unprotected c =
    does_all Unprotect c.args.self.now c.loop-name.self c.args.g c.args.names.now c.loop-name.name-index
    c.loop-name.invariant c.loop-name-test.false

pub returns-clause-done : goal.returns-clause-done
returns-clause-done c = c.loop-name.invariant.done

use Rattle.rgo_runtime.specs.Parking.{all_parked}
use Rattle.rgo_runtime.proofs.crews.Moving.{crew_turns, turns_kept, unparked}
use Rattle.rgo_runtime.proofs.crew.Crew.wake_oldest.Goals as goal

pub invariant_of-self : goal.invariant_of-self
invariant_of-self c =
    crew_turns _ c.unpark.new.into.items (all_parked c.unpark.new.self)
    (unparked c.self.inside.ready.items c.unpark.new.into.items c.self.inside.parked c.unpark.new.self c.args.at c.args.operation c.args.most
    c.unpark.result c.unpark.ensures.woken c.unpark.ensures.same c.unpark.ensures.kept)
    c.self.invariant

pub returns-clause-kept : goal.returns-clause-kept
returns-clause-kept c =
    turns_kept _ c.unpark.new.into.items (all_parked c.unpark.new.self)
    (unparked c.self.inside.ready.items c.unpark.new.into.items c.self.inside.parked c.unpark.new.self c.args.at c.args.operation c.args.most
    c.unpark.result c.unpark.ensures.woken c.unpark.ensures.same c.unpark.ensures.kept)
    c.args.self.now c.self.view_is

use Rattle.std.proofs.Common.{ap, [], OnErr, OnOk}
use Rattle.rgo_runtime.specs.Parking.{all_parked}
use Rattle.rgo_runtime.proofs.crews.Moving.{all_unparked, crew_turns, turns_kept}
use Rattle.rgo_runtime.proofs.crews.Parked.{if_err, if_ok}
use Rattle.rgo_runtime.proofs.crew.Crew.wake_all.Goals as goal

pub invariant_of-self : goal.invariant_of-self
invariant_of-self c =
    crew_turns _ c.unpark_all.new.into.items (all_parked c.unpark_all.new.self)
    (all_unparked c.self.inside.ready.items c.unpark_all.new.into.items (all_parked c.self.inside.parked) (all_parked c.unpark_all.new.self)
    c.unpark_all.result c.unpark_all.ensures.woken (if_ok c.unpark_all.result (ap all_parked) c.unpark_all.ensures.left)
    (if_err c.unpark_all.result (ap all_parked) c.unpark_all.ensures.same) c.unpark_all.ensures.kept)
    c.self.invariant

pub returns-clause-kept : goal.returns-clause-kept
returns-clause-kept c =
    turns_kept _ c.unpark_all.new.into.items (all_parked c.unpark_all.new.self)
    (all_unparked c.self.inside.ready.items c.unpark_all.new.into.items (all_parked c.self.inside.parked) (all_parked c.unpark_all.new.self)
    c.unpark_all.result c.unpark_all.ensures.woken (if_ok c.unpark_all.result (ap all_parked) c.unpark_all.ensures.left)
    (if_err c.unpark_all.result (ap all_parked) c.unpark_all.ensures.same) c.unpark_all.ensures.kept)
    c.args.self.now c.self.view_is

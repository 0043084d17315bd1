-- Three lists leave, one after the other; `crew_leaves` puts them together.
use Rattle.std.proofs.Common.{refl}
use Rattle.rgo_runtime.proofs.leaving.All.{crew_leaves}
use Rattle.rgo_runtime.proofs.crew.Crew.retire_all.Goals as goal

pub returns-clause-left : goal.returns-clause-left
returns-clause-left c =
    let parked = c.retire_parked.ensures in
    crew_leaves _ c.args.self c.self.view_is _ c.retire_turns.new.left c.retire_parked.new.left c.retire_newborns.new.left refl
    (refl, refl, refl, refl) c.retire_turns.ensures parked.0 parked.1 parked.2 c.retire_newborns.ensures

pub returns-clause-retired : goal.returns-clause-retired
returns-clause-retired c =
    c.retire_newborns.ensures.retired (c.retire_parked.ensures.2.retired (c.retire_turns.ensures.retired c.self.invariant.retired))

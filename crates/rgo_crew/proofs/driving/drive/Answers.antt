-- The prints were compared with their numbers just before the return; the slice that was compared has the elements of the list.
use Rattle.std.proofs.Common.{subst}
use Rattle.rgo_crew.specs.Overs.{AreTicketsNumbered}
use Rattle.rgo_crew.proofs.driving.drive.Goals as goal

pub returns : goal.returns
returns g c = subst AreTicketsNumbered c.deref.ensures.value (c.are_numbered.ensures c.if-not-are_numbered.false)

use Rattle.rgo_scopes.proofs.scopes.Scopes.new.Goals as goal
use Rattle.rgo_scopes.proofs.TrailLemmas.{trail-new}

pub invariant_of-result : goal.invariant_of-result
invariant_of-result g c = trail-new c.new.result.items c.new-2.result.items c.new-3.result c.new.ensures.items
    c.new-2.ensures.items c.new-3.ensures.empty

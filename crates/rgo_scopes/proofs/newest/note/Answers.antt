use Rattle.rgo_scopes.proofs.newest.note.Goals as goal
use Rattle.rgo_scopes.proofs.NewestLemmas.{Notes-insert}
use Rattle.std.proofs.Common.{Some}

pub returns-clause-noted : goal.returns-clause-noted
returns-clause-noted g c = Notes-insert c.args.newest.now c.insert.new.self c.args.name.now (Some c.args.seen)
    c.in_ok-insert.ensures.updates

use Rattle.rgo_scopes.proofs.newest.restore.Goals as goal
use Rattle.std.proofs.lemmas.Result.{IfOk-at_ok}
use Rattle.rgo_scopes.proofs.NewestLemmas.{Notes-insert, ok_from_absent}

pub unwrap-requires : goal.unwrap-requires
unwrap-requires g c = ok_from_absent c.insert.result _ c.insert.ensures.absent c.requires

pub returns : goal.returns
returns g c = record {
  noted = Notes-insert c.args.newest.now c.insert.new.self c.args.name.now c.args.seen
      (IfOk-at_ok _ c.unwrap.ensures c.insert.ensures.updates);
}

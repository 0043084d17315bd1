use Rattle.std.proofs.Common.{refl}
use Rattle.rgo_holding.proofs.Calling.{same_tables_show}
use Rattle.rgo_holding.proofs.Coming.{reshown}
use Rattle.rgo_holding.proofs.holding.Holding.prepare_call.Goals as goal

pub returns-clause-kept : goal.returns-clause-kept
returns-clause-kept c = λ slots h fills shows.
    let k = c.args.self.now in
    reshown (record k { frames = c.reserve_frame.new.self }) k.entries k.free k.next c.passed_keys.new.keys c.pass.new.keys slots
    h.environments h.base h.pending h.stakes fills (λ j. refl)
    (same_tables_show k c.reserve_frame.new.self slots h fills shows c.reserve_frame.ensures.same)

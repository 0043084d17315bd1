use Rattle.std.proofs.Common.{Some, arith}
use Rattle.rgo_holding.proofs.Coming.{reshown}
use Rattle.rgo_holding.proofs.Moving.{reserved_shows}
use Rattle.rgo_holding.proofs.holding.Holding.reserve.Goals as goal

pub returns-in_err-reserve_name-clause-kept : goal.returns-in_err-reserve_name-clause-kept
returns-in_err-reserve_name-clause-kept c = λ slots h fills shows.
    reserved_shows c.args.self.now c.reserve_name.new.self slots h fills shows (λ e. omega (arith, e, c.if-self-eq0.false))
    (c.reserve_name.ensures.same shows.ordered)

pub returns-in_err-key-clause-kept : goal.returns-in_err-key-clause-kept
returns-in_err-key-clause-kept c = λ slots h fills shows.
    let k = c.args.self.now in
    reshown (record k { frames = c.reserve_name.new.self }) c.spare_key.new.entries c.spare_key.new.free k.next k.passed k.callee
    slots h.environments h.base h.pending h.stakes fills c.spare_key.ensures.same
    (reserved_shows k c.reserve_name.new.self slots h fills shows (λ e. omega (arith, e, c.if-self-eq0.false))
    (c.reserve_name.ensures.same shows.ordered))

pub returns-clause-kept : goal.returns-clause-kept
returns-clause-kept c = λ slots h fills shows.
    let k = c.args.self.now in
    reshown (record k { frames = c.reserve_name.new.self }) c.spare_key.new.entries c.spare_key.new.free (Some c.in_ok-key.key)
    k.passed k.callee slots h.environments h.base h.pending h.stakes fills c.spare_key.ensures.same
    (reserved_shows k c.reserve_name.new.self slots h fills shows (λ e. omega (arith, e, c.if-self-eq0.false))
    (c.reserve_name.ensures.same shows.ordered))

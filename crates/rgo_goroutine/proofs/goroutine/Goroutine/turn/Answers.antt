use Rattle.std.proofs.Common.{arith, refl}
use Rattle.rgo_goroutine.proofs.TurnActs.{goes_of, has_turned, of_after, tidy}
use Rattle.rgo_goroutine.proofs.goroutine.Goroutine.turn.Goals as goal

pub proceed-stop-requires-clause-goes : goal.proceed-stop-requires-clause-goes
proceed-stop-requires-clause-goes g c = goes_of c.args.run.now c.args.self.now c.args.slice c.requires.of c.requires.count

pub catch_up-requires : goal.catch_up-requires
catch_up-requires g c = record { stands = c.proceed-stop.ensures.goes.stands }

pub returns-clause-of : goal.returns-clause-of
returns-clause-of g c =
    let p = c.proceed-stop.ensures in
    of_after c.args.run.now c.args.self.now c.proceed-stop.new.self c.catch_up.new.self _ c.proceed-stop.new.turning c.proceed-stop.result
    c.requires.of p (c.catch_up.ensures c.proceed-stop.new.turning.left p.goes)

pub returns-clause-turned : goal.returns-clause-turned
returns-clause-turned g c =
    let p = c.proceed-stop.ensures in
    let left = p.acted.left in
    has_turned c.args.run.now c.args.self.now c.proceed-stop.new.self c.catch_up.new.self _ c.proceed-stop.new.turning _
    c.requires.of p (c.catch_up.ensures c.proceed-stop.new.turning.left p.goes) (omega (arith, left)) refl refl

pub returns-clause-tidy : goal.returns-clause-tidy
returns-clause-tidy g c =
    let up = c.catch_up.ensures c.proceed-stop.new.turning.left c.proceed-stop.ensures.goes in
    tidy c.args.run.now c.catch_up.new.self c.proceed-stop.new.turning.left up.goes up.settled

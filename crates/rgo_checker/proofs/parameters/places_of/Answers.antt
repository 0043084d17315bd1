use Rattle.std.proofs.Common.{arith}
use Rattle.rgo_checker.proofs.Getting.{there}
use Rattle.rgo_checker.proofs.decides.PlaceLaws.{places_more, places_all}
use Rattle.rgo_checker.proofs.parameters.places_of.Goals as goal

pub loop-p-preserved : goal.loop-p-preserved
loop-p-preserved c =
    let x = there c.args.classes.now c.loop-p.p (omega arith) in
    places_more c.args.classes.now c.loop-p.places c.place_at.new.places c.loop-p.p x.0 x.1 c.loop-p.invariant
    (c.in_ok-place_at.ensures x.0 x.1)

pub returns : goal.returns
returns c = places_all c.args.classes.now c.loop-p.p c.loop-p.places (omega arith) c.loop-p.invariant

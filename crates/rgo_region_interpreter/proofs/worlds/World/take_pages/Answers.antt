use Rattle.std.proofs.Common.{◌-◌, arith}
use Rattle.rgo_region_interpreter.proofs.owing.Attending.{same_then}
use Rattle.rgo_region_interpreter.proofs.owing.Preparing.{same_run}
use Rattle.rgo_region_interpreter.proofs.acts.Rooms.{roomier_all, roomier_none, roomier_step, roomier_stops}
use Rattle.rgo_region_interpreter.proofs.worlds.World.take_pages.Goals as goal

pub loop-init : goal.loop-init
loop-init c = (
  roomier_none c.args.self.now c.args.g c.args.next.now c.args.making c.args.region c.pages_wanted-end.result
      c.requires.makes c.requires.region c.pages_wanted-end.ensures,
  same_run c.args.self.now,
)

pub returns-then-pages-self : goal.returns-then-pages-self
returns-then-pages-self c = λ s ready.
    let less = c.loop-test.true in
    roomier_stops c.args.self.now c.loop.self c.args.g c.args.next.now c.args.making c.args.region
    (c.pages_wanted-end.result - c.loop.counter) c.loop.invariant.0 c.requires.small c.loop.invariant.1
    (omega (arith, less)) (omega (arith, c)) s ready

pub loop-preserved : goal.loop-preserved
loop-preserved c = (
  roomier_step c.args.self.now c.loop.self c.add_page.new.self c.args.g c.args.next.now c.args.making c.args.region
      c.pages_wanted-end.result c.loop.counter c.loop.invariant.0 c.requires.small c.loop.invariant.1
      c.loop-test.true (omega (arith, c)) c.in_ok-add_page.ensures.added,
  same_then c.args.self.now c.loop.self c.add_page.new.self c.loop.invariant.1 c.add_page.ensures.same,
)

pub returns : goal.returns
returns c = λ s ready.
    let over = c.loop-test.false in
    roomier_all c.args.self.now c.loop.self c.args.g c.args.next.now c.args.making c.args.region
    (c.pages_wanted-end.result - c.loop.counter) c.loop.invariant.0 c.requires.small c.loop.invariant.1
    (omega (arith, over)) s ready

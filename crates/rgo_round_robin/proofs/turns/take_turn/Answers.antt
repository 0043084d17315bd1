use Rattle.std.proofs.Common.{◌-◌, ◌<◌, Some, None, IfSome, arith, inl, inr, refl, subst, sym, ◌∙◌, Contains}
use Rattle.std.proofs.lemmas.List.Elements.{Contains-push}
use Rattle.rgo_round_robin.specs.Taking.{AdvancesTo}
use Rattle.rgo_round_robin.proofs.Left.{itself, left_over_of}
use Rattle.rgo_round_robin.proofs.Taken.{stands, moves_pushed, moves_rest, stops_on, stops_moved, turns_to}
use Rattle.rgo_round_robin.proofs.Taken.{turns_asleep}
use Rattle.rgo_round_robin.proofs.turns.take_turn.Goals as goal

pub loop-left-init : goal.loop-left-init
loop-left-init g c = record {
  moves = λ machine given s at on.
      stands (g.R.Running.view c.args.run.now) machine c.args.limits c.args.g given s c.args.driver.now at on;
  fixed = refl;
  within = omega arith;
}

pub advance-requires-clause-on : goal.advance-requires-clause-on
advance-requires-clause-on g c =
    let run = g.R.Running.view c.args.run.now in
    let given = c.requires.given in
    let start = c.requires.state in
    let moves = c.loop-left.invariant.moves run.machine given start (itself run given start c.requires.shown)
    c.requires.on in
    record { given = given; state = moves.state; shown = moves.at.shown; on = moves.moved.on }

pub returns-in-Err-clause-turns : goal.returns-in-Err-clause-turns
returns-in-Err-clause-turns g c = λ machine given s at on.
    let left = c.loop-left.left in
    let moves = c.loop-left.invariant.moves machine given s at on in
    stops_on (g.R.Running.view c.loop-left.run) (g.R.Running.view c.advance.new.run) machine c.args.limits c.args.g
    given s c.args.driver.now c.loop-left.driver (1000 - left) moves left 1000 c.in-Err.end
    (c.in-Err.ensures.went machine given moves.state moves.at moves.moved.on)
    (omega (arith, c.loop-left.invariant.within))

pub loop-left-preserved : goal.loop-left-preserved
loop-left-preserved g c =
    let left = c.loop-left.left in
    let rest = c.in-Some.rest in
    let within = c.loop-left.invariant.within in
    let run = g.R.Running.view c.advance.new.run in
    record {
      moves = λ machine given s at on.
          let moves = c.loop-left.invariant.moves machine given s at on in
          let went : AdvancesTo run machine c.args.limits c.args.g given moves.state c.loop-left.driver
          c.advance.new.driver left (Some rest) =
          subst (AdvancesTo run machine c.args.limits c.args.g given moves.state c.loop-left.driver c.advance.new.driver
          left) c.in-Some.is (c.in-Ok.ensures.went machine given moves.state moves.at moves.moved.on) in
          moves_rest (g.R.Running.view c.loop-left.run) run machine c.args.limits c.args.g given s c.args.driver.now
          c.loop-left.driver (1000 - left) moves c.advance.new.driver left rest 1000 refl within went;
      fixed = c.in-Ok.ensures.fixed ∙ c.loop-left.invariant.fixed;
      within =
          let less = subst (λ o. IfSome o (λ n. n < left)) c.in-Some.is c.in-Ok.ensures.less in
          omega (arith, less, within);
    }

pub returns-in-None-clause-turns : goal.returns-in-None-clause-turns
returns-in-None-clause-turns g c = λ machine given s at on.
    let left = c.loop-left.left in
    let run = g.R.Running.view c.advance.new.run in
    let moves = c.loop-left.invariant.moves machine given s at on in
    let went : AdvancesTo run machine c.args.limits c.args.g given moves.state c.loop-left.driver c.advance.new.driver
    left None =
    subst (AdvancesTo run machine c.args.limits c.args.g given moves.state c.loop-left.driver c.advance.new.driver left)
    c.in-None.is (c.in-Ok.ensures.went machine given moves.state moves.at moves.moved.on) in
    turns_asleep (g.R.Running.view c.loop-left.run) run machine c.args.limits c.args.g given s c.args.driver.now
    c.loop-left.driver (1000 - left) moves c.advance.new.driver left (omega (arith, c.loop-left.invariant.within)) went

pub returns-in-Ok-push-clause-turns : goal.returns-in-Ok-push-clause-turns
returns-in-Ok-push-clause-turns g c = λ machine given s at on.
    let run = g.R.Running.view c.loop-left.run in
    let m = c.loop-left.driver in
    let e = record m { ready = c.push.new.self } in
    let count = 1000 - c.loop-left.left in
    let moves = c.loop-left.invariant.moves machine given s at on in
    turns_to run machine c.args.limits c.args.g given s c.args.driver.now e count
    (moves_pushed run machine c.args.limits c.args.g given s c.args.driver.now m e count c.args.g
    c.in-Ok-push.ensures.items moves)
    (omega arith) (inr (omega (arith, c.loop-left-test.false)))
    (inl (subst (λ l. Contains l c.args.g) (sym c.in-Ok-push.ensures.items) (Contains-push m.ready.items c.args.g)))

pub returns-in-Err-push-clause-turns : goal.returns-in-Err-push-clause-turns
returns-in-Err-push-clause-turns g c = λ machine given s at on.
    let after = c.loop-left.run in
    let run = g.R.Running.view after in
    let moves = c.loop-left.invariant.moves machine given s at on in
    stops_moved run machine c.args.limits c.args.g given s c.args.driver.now c.loop-left.driver
    (1000 - c.loop-left.left) 1000 moves (omega arith)
    (left_over_of run machine given moves.state
    (record { prints = g.met.R.Running.shown_prints after; leaves = g.met.R.Running.shown_leaves after }) moves.at)

use Rattle.std.proofs.Common.{◌++◌, [], Err, ap, refl, subst, sym, ◌∙◌}
use Rattle.rgo_machine.specs.declared.ends.RunEnd.TheVariants as run_end
use Rattle.rgo_round_robin.specs.Playing.{IsBetweenRounds}
use Rattle.rgo_round_robin.specs.Points.{point_of}
use Rattle.rgo_round_robin.proofs.Given.{writes_none, writes_on, writes_whole, writes_as}
use Rattle.rgo_round_robin.proofs.Left.{itself, at_given, at_later}
use Rattle.rgo_round_robin.proofs.Played.{error_is}
use Rattle.rgo_round_robin.proofs.Rounded.{begins, progresses, runs}
use Rattle.rgo_round_robin.proofs.rounds.drive.Goals as goal

pub loop-end-init : goal.loop-end-init
loop-end-init g c = record {
  goes = λ machine given s at between. record {
    state = s;
    bytes = [];
    at = at_given (g.R.Running.view c.args.run.now) machine given s at;
    between = between;
    goes = begins machine c.args.limits (point_of s c.args.driver.now) (g.K.Sink.contents c.args.out.now)
        between.ready.silent c.requires.begins;
  };
  fixed = refl;
  sink = writes_none ⊥ _ _ _ (λ x. x);
}

pub round_and_test-requires : goal.round_and_test-requires
round_and_test-requires g c =
    let run = g.R.Running.view c.args.run.now in
    let given = c.requires.between.given in
    let start = c.requires.between.state in
    let now = c.loop-end.invariant.goes run.machine given start (itself run given start c.requires.between.shown)
    c.requires.between.between in
    record {
      given = given ++ now.bytes;
      state = now.state;
      shown = now.at.shown;
      between = subst (λ m. IsBetweenRounds m c.args.limits (point_of now.state c.loop-end.driver)) (sym now.at.is)
          now.between;
    }

pub loop-end-preserved : goal.loop-end-preserved
loop-end-preserved g c =
    let on = c.in-Ok.ensures in
    record {
      goes = λ machine given s at between.
          let now = c.loop-end.invariant.goes machine given s at between in
          let next = on.plays machine (given ++ now.bytes) now.state now.at now.between in
          let p = point_of now.state c.loop-end.driver in
          let q = point_of next.state c.round_and_test.new.driver in
          record {
            state = next.state;
            bytes = now.bytes ++ next.bytes;
            at = at_later (g.R.Running.view c.round_and_test.new.run) machine given now.bytes next.bytes next.state next.at;
            between = record {
              ready = next.ready;
              watches = next.watches;
              counting = on.counting;
            };
            goes = progresses machine c.args.limits s p q now.bytes next.bytes (g.K.Sink.contents c.args.out.now)
                (g.K.Sink.contents c.loop-end.out) (g.K.Sink.contents c.round_and_test.new.out) now.goes next.plays on.below
                on.counting;
          };
      fixed = on.fixed ∙ c.loop-end.invariant.fixed;
      sink = writes_on ⊥ ⊥ _ _ _ _ _ _ _ _ (λ x. x) c.loop-end.invariant.sink
          (writes_whole _ ⊥ _ _ _ _ _ (λ e. cc) (λ x. x) on.sink);
    }

pub returns-in-Err-clause-runs : goal.returns-in-Err-clause-runs
returns-in-Err-clause-runs g c = λ machine given s at between.
    let now = c.loop-end.invariant.goes machine given s at between in
    runs machine c.args.limits (g.R.Running.view c.round_and_test.new.run) given s (point_of now.state c.loop-end.driver)
    c.in-Err.end now.bytes (g.K.Sink.contents c.args.out.now) (g.K.Sink.contents c.loop-end.out)
    (g.K.Sink.contents c.round_and_test.new.out) now.goes
    (c.in-Err.ensures.plays machine (given ++ now.bytes) now.state now.at now.between)

pub returns-in-Err-clause-sink : goal.returns-in-Err-clause-sink
returns-in-Err-clause-sink g c =
    writes_on ⊥ _ _ _ _ _ _ _ _ _ (λ x. x) c.loop-end.invariant.sink
    (writes_as _ _ _ _ _ _ _ (λ e. ap Err e)
    (λ e. error_is c.in-Err.end run_end.WriteFault _ _ refl refl e) c.in-Err.ensures.sink)

use Rattle.std.proofs.Common.{◌≡◌, ◌+◌, ◌++◌, ◌∷◌, [], length, ◌≤◌, take, drop, refl, subst, ap, sym}
use Rattle.std.proofs.Common.{◌∙◌, append-nil, arith}
use Rattle.std.proofs.lemmas.List.{take_more, drop_more, take_all, drop_all}
use Rattle.rgo_round_robin.specs.Playing.{PlaysAll}
use Rattle.rgo_round_robin.specs.Points.{listed_at_channel, point_of}
use Rattle.rgo_round_robin.specs.Sleeping.{Watches}
use Rattle.rgo_round_robin.proofs.Given.{writes_none, writes_on, writes_whole}
use Rattle.rgo_round_robin.proofs.Left.{itself, at_given, at_later}
use Rattle.rgo_round_robin.proofs.Played.{watches_lists}
use Rattle.rgo_round_robin.proofs.Rounded.{plays_none, plays_more, breaks_on}
use Rattle.rgo_round_robin.proofs.rounds.round.Goals as goal

pub loop-i-init : goal.loop-i-init
loop-i-init g c =
    let d = c.args.driver.now in
    let order = c.replace-order.result.items in
    let empty = ap (λ v. v.items) c.replace-order.ensures.after ∙ c.new.ensures.items in
    let whole = ap (λ l. order ++ l) empty ∙ append-nil order ∙ ap (λ v. v.items) c.replace-order.ensures.value in
    record {
      plays = λ machine given s at ready. record {
        state = s;
        bytes = [];
        at = at_given (g.R.Running.view c.args.run.now) machine given s at;
        ready = ready;
        plays = plays_none machine c.args.limits (point_of s d)
            (record (point_of s d) { ready = c.replace-order.new.dest.items }) (g.K.Sink.contents c.args.out.now) refl
            refl ready.silent;
        watches = watches_lists machine c.args.limits s d.ready.items (order ++ c.replace-order.new.dest.items)
            (listed_at_channel d.waiting) (listed_at_channel d.waiting) whole (λ n. refl);
      };
      fixed = refl;
      sink = writes_none ⊥ _ _ _ (λ x. x);
    }

pub play-requires : goal.play-requires
play-requires g c =
    let run = g.R.Running.view c.args.run.now in
    let given = c.requires.given in
    let start = c.requires.state in
    let now = c.loop-i.invariant.plays run.machine given start (itself run given start c.requires.shown)
    c.requires.ready in
    record { given = given ++ now.bytes; state = now.state; shown = now.at.shown; ready = now.ready }

pub returns-in-Err-clause-plays : goal.returns-in-Err-clause-plays
returns-in-Err-clause-plays g c = λ machine given s at ready.
    let now = c.loop-i.invariant.plays machine given s at ready in
    breaks_on machine c.args.limits (g.R.Running.view c.play.new.run) (take c.loop-i.i c.replace-order.result.items)
    c.in-Err.end given (point_of s c.args.driver.now) (point_of now.state c.loop-i.driver) now.bytes
    (g.K.Sink.contents c.args.out.now) (g.K.Sink.contents c.loop-i.out) (g.K.Sink.contents c.play.new.out) now.plays
    (c.in-Err.ensures.plays machine (given ++ now.bytes) now.state now.at now.ready)

pub loop-i-preserved : goal.loop-i-preserved
loop-i-preserved g c =
    let d = c.args.driver.now in
    let order = c.replace-order.result.items in
    let i = c.loop-i.i in
    let h = c.index.result.now in
    let old = g.K.Sink.contents c.args.out.now in
    let new = g.K.Sink.contents c.play.new.out in
    let before : take i order ++ h ∷ [] ≡ take (i + 1) order =
    ap (λ x. take i order ++ x ∷ []) c.index.ensures
    ∙ sym (take_more order i h (omega (arith, c.loop-i-test.true, c.len-i-end.ensures, c.replace-order.result.ok))) in
    let behind : drop i order ≡ h ∷ drop (i + 1) order =
    drop_more order i h (omega (arith, c.loop-i-test.true, c.len-i-end.ensures, c.replace-order.result.ok))
    ∙ ap (λ x. x ∷ drop (i + 1) order) (sym c.index.ensures) in
    record {
      plays = λ machine given s at ready.
          let now = c.loop-i.invariant.plays machine given s at ready in
          let next = c.in-Ok.ensures.plays machine (given ++ now.bytes) now.state now.at now.ready in
          let p = point_of s d in
          let m = point_of now.state c.loop-i.driver in
          let q = point_of next.state c.play.new.driver in
          record {
            state = next.state;
            bytes = now.bytes ++ next.bytes;
            at = at_later (g.R.Running.view c.play.new.run) machine given now.bytes next.bytes next.state next.at;
            ready = next.ready;
            plays = subst (λ l. PlaysAll machine c.args.limits l p q (now.bytes ++ next.bytes) old new) before
                (plays_more machine c.args.limits (take i order) h p m q now.bytes next.bytes old
                (g.K.Sink.contents c.loop-i.out) new now.plays next.plays);
            watches = λ watches. next.passes (drop (i + 1) order)
                (subst (λ l. Watches machine m.state (l ++ m.ready) m.waiting) behind (now.watches watches));
          };
      fixed = c.in-Ok.ensures.fixed ∙ c.loop-i.invariant.fixed;
      sink = writes_on ⊥ ⊥ _ _ _ _ _ _ _ _ (λ x. x) c.loop-i.invariant.sink (writes_whole _ ⊥ _ _ _ _ _ (λ e. cc)
          (λ x. x) c.in-Ok.ensures.sink);
    }

pub returns-in-Err-clause-sink : goal.returns-in-Err-clause-sink
returns-in-Err-clause-sink g c =
    writes_on ⊥ _ _ _ _ _ _ _ _ _ (λ x. x) c.loop-i.invariant.sink c.in-Err.ensures.sink

pub returns-clause-plays : goal.returns-clause-plays
returns-clause-plays g c = λ machine given s at ready.
    let d = c.args.driver.now in
    let order = c.replace-order.result.items in
    let i = c.loop-i.i in
    let now = c.loop-i.invariant.plays machine given s at ready in
    let past : length order ≤ i = omega (arith, c.loop-i-test.false, c.len-i-end.ensures, c.replace-order.result.ok) in
    let all : take i order ≡ d.ready.items = take_all i order past ∙ ap (λ v. v.items) c.replace-order.ensures.value in
    let none : drop i order ≡ [] = drop_all i order past in
    record {
      state = now.state;
      bytes = now.bytes;
      at = now.at;
      ready = now.ready;
      plays = subst (λ l. PlaysAll machine c.args.limits l (point_of s d) (point_of now.state c.loop-i.driver)
          now.bytes (g.K.Sink.contents c.args.out.now) (g.K.Sink.contents c.loop-i.out)) all now.plays;
      watches = λ watches. subst (λ l. Watches machine now.state (l ++ c.loop-i.driver.ready.items)
          (listed_at_channel c.loop-i.driver.waiting)) none (now.watches watches);
    }

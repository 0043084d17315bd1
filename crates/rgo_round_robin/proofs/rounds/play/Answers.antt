use Rattle.std.proofs.Common.{refl, subst}
use Rattle.std.specs.Io.KnownBytes.{Appends}
use Rattle.rgo_machine.specs.Ends.{AppendsSome}
use Rattle.rgo_round_robin.proofs.Given.{writes_as, writes_whole}
use Rattle.rgo_round_robin.proofs.Left.{itself}
use Rattle.rgo_round_robin.proofs.Played.{settled, breaks_fault, no_fault_if}
use Rattle.rgo_round_robin.proofs.rounds.play.Goals as goal

pub returns-in-Err-clause-plays : goal.returns-in-Err-clause-plays
returns-in-Err-clause-plays g c = λ machine given s at ready.
    let after = c.take_turn-ended.new.run in
    let old = g.K.Sink.contents c.args.out.now in
    let new = g.K.Sink.contents c.write_lines.new.out in
    breaks_fault machine c.args.limits (g.R.Running.view after) c.args.g given s c.args.driver.now
    c.take_turn-ended.new.driver c.take_turn-ended.result old new
    (record { prints = g.met.R.Running.shown_prints after; leaves = g.met.R.Running.shown_leaves after })
    ready.silent (c.take_turn-ended.ensures.turns machine given s at ready.on)
    (subst (λ l. AppendsSome old new l) c.printed.ensures c.in-Err.ensures.part)

pub returns-clause-plays : goal.returns-clause-plays
returns-clause-plays g c = λ machine given s at ready.
    let after = c.take_turn-ended.new.run in
    let old = g.K.Sink.contents c.args.out.now in
    let new = g.K.Sink.contents c.write_lines.new.out in
    settled machine c.args.limits (g.R.Running.view after) (g.R.Running.view c.clear_printed.new.self) c.args.g given s
    c.args.driver.now c.take_turn-ended.new.driver c.take_turn-ended.result old new
    (record { prints = g.met.R.Running.shown_prints after; leaves = g.met.R.Running.shown_leaves after })
    ready.silent (c.take_turn-ended.ensures.turns machine given s at ready.on) c.clear_printed.ensures
    (subst (λ l. Appends old new l) c.printed.ensures c.in-Ok.ensures.whole)

pub returns-in-Err-clause-sink : goal.returns-in-Err-clause-sink
returns-in-Err-clause-sink g c = writes_as _ _ _ _ _ _ _ (λ e. refl) (λ e. refl) c.in-Err.ensures.sink

pub returns-clause-sink : goal.returns-clause-sink
returns-clause-sink g c =
    let before = g.R.Running.view c.args.run.now in
    let start = c.requires.state in
    writes_whole _ _ _ _ _ _ _ (λ e. cc)
    (no_fault_if before.machine c.args.limits (g.R.Running.view c.take_turn-ended.new.run) c.args.g c.requires.given
    start c.args.driver.now c.take_turn-ended.new.driver c.take_turn-ended.result
    (c.take_turn-ended.ensures.turns before.machine c.requires.given start
    (itself before c.requires.given start c.requires.shown) c.requires.ready.on))
    c.in-Ok.ensures.sink

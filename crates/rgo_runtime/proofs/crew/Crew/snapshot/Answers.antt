-- One turn more has its counts in the shares (`one_noted`). The goroutine has a place, since it is of the crew, and a snapshot has as many
-- places as the crew.
use Rattle.std.proofs.Common.{◌≡◌, ◌<◌, ◌∙◌, ap, arith, get_or, length, subst}
use Rattle.rgo_table_runs.specs.Goroutine.Goroutines.{record_of_goroutine}
use Rattle.rgo_sound.proofs.Places.{length_set}
use Rattle.rgo_runtime.specs.Crew.{Crew, IsRunCrew}
use Rattle.rgo_runtime.proofs.crews.Snapshots.{one_noted}
use Rattle.rgo_runtime.proofs.crew.Crew.snapshot.Goals as goal

pub loop-turn-preserved : goal.loop-turn-preserved
loop-turn-preserved c =
    let crew = c.args.self.now in
    let i = c.loop-turn.turn-index in
    let t = c.turn-item.result in
    let go = c.goroutine.result.now in
    let is : IsRunCrew crew = subst IsRunCrew c.self.view_is c.self.invariant in
    let same = c.deref-turn-items.ensures.value ∙ ap (λ (x : Crew). x.ready) c.self.view_is in
    let at : t ≡ get_or crew.ready i t = c.turn-item.is ∙ ap (λ xs. get_or xs i t) same in
    let within : i < length crew.ready = omega (arith, c.loop-turn-test.true, ap length same) in
    record {
      places = ap length (c.save_counts.ensures.share t.run c.goroutine.ensures.of)
          ∙ length_set c.loop-turn.snapshot.shares go.number (record_of_goroutine t.run.setup go).clock.share ∙ c.loop-turn.invariant.places;
      retired = one_noted crew.run crew.me.0.records crew.ready (length crew.shares) i t go c.loop-turn.snapshot.shares c.save_counts.new.shares
          c.loop-turn.snapshot.first c.save_counts.new.first within at c.goroutine.ensures.same is.ready c.loop-turn.invariant.places
          c.goroutine.ensures.of c.goroutine.ensures.tidy c.save_counts.ensures.share c.save_counts.ensures.first c.loop-turn.invariant.retired;
    }

use Rattle.std.proofs.Common.{◌≡◌, refl, subst}
use Rattle.rgo_core.specs.Memory.Words.{clock_at}
use Rattle.rgo_core.specs.Rule.declared.accesses.Kind.TheVariants.{Load}
use Rattle.rgo_core.specs.Core.{Setup}
use Rattle.rgo_core.specs.Records.{looked}
use Rattle.rgo_core_steps.specs.Seats.{HasPossible, HasAccessed, mine}
use Rattle.rgo_goroutine.proofs.Handing.{looked_of, looks}
use Rattle.rgo_goroutine.proofs.goroutine.Goroutine.look.Goals as goal

pub returns-clause-of : goal.returns-clause-of
returns-clause-of c =
    let go = c.args.self.now in
    let d = record go { actor = record go.actor { seat = c.look.new.seat } } in
    let seen = c.look.ensures.looked in
    looked_of c.args.run.now go d c.requires.of refl c.look.ensures.own.0 seen.0
    (subst (λ (T : Setup). HasAccessed T Load clock_at (λ k. k) (λ k e. e ≡ looked (mine T go.actor.seat.me)) go.actor.seat.me seen.0 d.actor.seat.me)
    c.table.ensures.setup seen.2)
    (subst (λ (T : Setup). HasPossible T d.actor.seat.me) c.table.ensures.setup c.look.ensures.possible)

pub returns-clause-looks : goal.returns-clause-looks
returns-clause-looks c =
    let go = c.args.self.now in
    let d = record go { actor = record go.actor { seat = c.look.new.seat } } in
    let seen = c.look.ensures.looked in
    looks c.args.run.now go d c.requires.of refl c.look.ensures.own.0 seen.0
    (subst (λ (T : Setup). HasAccessed T Load clock_at (λ k. k) (λ k e. e ≡ looked (mine T go.actor.seat.me)) go.actor.seat.me seen.0 d.actor.seat.me)
    c.table.ensures.setup seen.2)
    (subst (λ (T : Setup). HasPossible T d.actor.seat.me) c.table.ensures.setup c.look.ensures.possible) c.look.result seen.1

-- Starts of goroutines. The new one has seen what its parent has, so that what the parent knows of the table holds for it as well.
use Rattle.std.specs.Prelude.{◌≡◌, ◌<◌, ℕ, [], ◌∷◌}
use Rattle.rgo_core.specs.Channels.Records.{at_rest}
use Rattle.rgo_core.specs.Memory.Opening.{first_record}
use Rattle.rgo_core.specs.Rule.Views.{number_of}
use Rattle.rgo_core.specs.Records.{blank}
use Rattle.rgo_core_steps.specs.After.{child as child_of}
use Rattle.rgo_sound.specs.Machine.Limits.{most_goroutines}
use Rattle.rgo_sound.specs.RegionMachine.declared.limits.Limit.TheVariants.{Goroutines}
use Rattle.rgo_acts.specs.Actors.{ActorActed, IsActorOf, now}
use Rattle.rgo_acts.specs.Runs.{Run}
use Rattle.rgo_acts.specs.Limits.{IsAtLimit}
use Rattle.rgo_acts.specs.declared.actors.Actor.{Actor}
use Rattle.rgo_acts.specs.declared.starts.Outcome.{Outcome}
use Rattle.rgo_acts.specs.declared.starts.Outcome.TheVariants.{Refused, Started}

-- It has started goroutine n, which is before its first instruction, and whose seat has seen what its own has.
pub record HasStarted (r : Run) (a b : Actor) (n : ℕ) (child : Actor) : Type 0 where
  pub acted : ActorActed r a b 1 [] (n ∷ [])
  pub stands : IsActorOf r child
  pub settled : child.behind ≡ 0
  pub number : number_of child.seat.me ≡ n
  pub within : n < most_goroutines r.setup.limits
  -- the child can be compared with its parent from its first access on
  pub seen : child.seat.me.0.seen ≡ b.seat.me.0.seen
  pub begins : now r.setup child ≡ child_of r.setup.code (now r.setup a)
  -- it has made no access, and nothing of its parent's counts is counted twice
  pub blank : (now r.setup child).clock ≡ blank
  pub memory : (now r.setup child).memory ≡ first_record
  pub rests : (now r.setup child).side ≡ at_rest

-- it has, or a number was refused to it
abbrev pub ActorStarts : Run → (before after : Actor) → Outcome → Type 0
ActorStarts r a b (Started n child) = HasStarted r a b n child
ActorStarts r a b Refused = IsAtLimit r a b Goroutines

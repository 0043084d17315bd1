-- The definitions of duties and of shortages, each where it holds and where it must not.
use Rattle.std.specs.Prelude.{◌≡◌, List, [], ◌∷◌}
use Rattle.rgo_core.specs.Rule.Histories.{access}
use Rattle.rgo_core.specs.Rule.Views.{number_of}
use Rattle.rgo_core.specs.Rule.declared.accesses.Access.{Access}
use Rattle.rgo_core.specs.Rule.declared.accesses.Kind.TheVariants.{ClaimPage, CreateRegion}
use Rattle.rgo_core.specs.Core.{Setup}
use Rattle.rgo_core.specs.Records.{Record}
use Rattle.rgo_core_steps.specs.Counts.{IsCreating}
use Rattle.rgo_sound.specs.RegionMachine.States.{Duty}
use Rattle.rgo_acts.specs.Actors.{IsUnmoved, IsActorOf}
use Rattle.rgo_acts.specs.Attending.{HasAttended, HasWaited, IsAtDuty, IsShort}
use Rattle.rgo_acts.specs.Runs.{Run}
use Rattle.rgo_acts.specs.Shortages.{AllInUse, LacksPage, LacksSlot}
use Rattle.rgo_acts.specs.declared.actors.Actor.{Actor}

-- goroutine 1 has found slots 0 and 1 in use
abbrev pub two_taken : List Access
two_taken = access 1 CreateRegion 0 2 2 ∷ access 1 CreateRegion 1 4 4 ∷ []

-- it has found slot 1 free
abbrev pub one_taken : List Access
one_taken = access 1 CreateRegion 0 2 2 ∷ access 1 CreateRegion 1 0 2 ∷ []

pub record DutyExamples : Type 0 where
  -- it owes nothing, or another duty first
  pub nothing_owed : (r : Run) (a : Actor) (d : Duty) → a.body.queue.duties ≡ [] → IsAtDuty r a d → ⊥
  pub other_first : (r : Run) (a : Actor) (d e : Duty) → (d ≡ e → ⊥) → IsAtDuty r a d → IsAtDuty r a e → ⊥
  -- nothing has happened
  pub waits : (r : Run) (a : Actor) → IsActorOf r a → HasWaited r a a
  pub not_done : (r : Run) (a : Actor) → HasAttended r a a → ⊥
  -- a duty is either done or owed as before
  pub either : (r : Run) (a b : Actor) → HasAttended r a b → HasWaited r a b → ⊥
  pub in_use : AllInUse 1 two_taken CreateRegion (λ k. k) 2
  pub one_free : AllInUse 1 one_taken CreateRegion (λ k. k) 2 → ⊥
  pub three : AllInUse 1 two_taken CreateRegion (λ k. k) 3 → ⊥
  pub pages : AllInUse 1 two_taken ClaimPage (λ k. k) 1 → ⊥
  pub of_another : AllInUse 0 two_taken CreateRegion (λ k. k) 1 → ⊥
  -- it has changed the word of slot 1
  pub unmoved : (T : Setup) (a : Actor) → IsUnmoved T a a two_taken
  pub moved : (T : Setup) (a b : Actor) → number_of a.seat.me ≡ 1 → IsUnmoved T a b one_taken → ⊥
  pub not_short : (r : Run) (a b : Actor) (short : IsShort r a b) → number_of a.seat.me ≡ 1 → short.waited.acted.es ≡ one_taken → ⊥
  -- a table without slots
  pub no_slots : (T : Setup) (c : Record) → IsCreating c → T.sizes.regions ≡ 0 → LacksSlot T 1 c []
  -- it makes nothing and owes nothing
  pub idle : (T : Setup) (c : Record) (es : List Access) → c.frame.frames ≡ [] → LacksPage T 1 c es → ⊥
  pub free : (T : Setup) (c : Record) (es : List Access) → c.frame.holder.duties ≡ [] → LacksSlot T 1 c es → ⊥

-- Actors and runs that meet their definitions, and some that do not.
use Rattle.std.specs.Prelude.{◌≡◌, ◌≤◌, ℕ, suc, true, false, List, [], ◌∷◌, Some, None}
use Rattle.rgo_core.specs.Records.{Drawn}
use Rattle.rgo_core.specs.Channels.Records.{at_rest}
use Rattle.rgo_sound.specs.Machine.declared.limits.Limits.{Limits}
use Rattle.rgo_sound.specs.RegionMachine.States.{Duty}
use Rattle.rgo_sound.specs.Tac.Code.{Do}
use Rattle.rgo_sound.specs.Typed.declared.actions.Action.TheVariants as action
use Rattle.rgo_body.specs.Programs.{CompactProgram}
use Rattle.rgo_body.specs.declared.bodies.Body.{Body}
use Rattle.rgo_body.specs.declared.nexts.Next.{Next}
use Rattle.rgo_acts.specs.Actors.{ActorActed, IsActorOf, distance, now}
use Rattle.rgo_acts.specs.Elements.{ActorHasElement, HasLocated, HasMeasured, HasNoElementHere, IsElementAccess, IsAtFieldOf}
use Rattle.rgo_acts.specs.Ready.{ActorIsBefore}
use Rattle.rgo_acts.specs.Runs.{IsRun, Run}
use Rattle.rgo_acts.specs.Starts.{HasStarted}
use Rattle.rgo_acts.specs.declared.actors.Actor.{Actor}

pub record ActorExamples : Type 0 where
  -- it has done nothing
  pub nothing : (r : Run) (a : Actor) → IsActorOf r a → ActorActed r a a 0 [] []
  -- it has made no instruction, printed nothing, and started nobody
  pub no_instruction : (r : Run) (a : Actor) → ActorActed r a a 1 [] [] → ⊥
  pub no_print : (r : Run) (a : Actor) (d : Drawn) → ActorActed r a a 0 (d ∷ []) [] → ⊥
  pub no_start : (r : Run) (a : Actor) (n : ℕ) → ActorActed r a a 0 [] (n ∷ []) → ⊥
  -- the goroutine that it has started has locked a channel
  pub started_locked : (r : Run) (a b : Actor) (n : ℕ) (child : Actor) → ((now r.setup child).side ≡ at_rest → ⊥)
      → HasStarted r a b n child → ⊥
  -- its seat is one of another table
  pub elsewhere : (r : Run) (a : Actor) → (a.seat.table_id ≡ r.table → ⊥) → IsActorOf r a → ⊥
  -- a run with other limits than its table was made for
  pub other_limits : (r : Run) (limits : Limits) → IsRun r → (limits ≡ r.limits → ⊥) → IsRun (record r { limits = limits }) → ⊥
  -- it owes a duty
  pub owing : (r : Run) (a : Actor) (next : Next) (d : Duty) (ds : List Duty) → a.body.queue.duties ≡ d ∷ ds → ActorIsBefore r a next → ⊥
  pub near : (p : CompactProgram) (b : Body) → b.queue.duties ≡ [] → b.is_expanded ≡ true → distance p b ≡ 0
  pub far : (p : CompactProgram) (b : Body) → b.is_expanded ≡ false → distance p b ≡ 0 → ⊥

pub record ElementExamples : Type 0 where
  pub load : IsElementAccess (Do (Some 2) action.At (0 ∷ 1 ∷ [])) 0 1
  pub store : IsElementAccess (Do None action.Put (0 ∷ 1 ∷ 2 ∷ [])) 0 1
  -- the index in place of the slice
  pub swapped : IsElementAccess (Do (Some 2) action.At (0 ∷ 1 ∷ [])) 1 0 → ⊥
  -- a field
  pub field : IsElementAccess (Do (Some 2) (action.Load 1) (0 ∷ [])) 0 1 → ⊥
  -- another body
  pub changed : (r : Run) (a b : Actor) (next : Next) → (b.body ≡ a.body → ⊥) → HasMeasured r a b next → ⊥
  -- a word that the table does not have
  pub outside : (r : Run) (a b : Actor) (next : Next) (p q word : ℕ) → r.table.words ≤ word → ActorHasElement r a b next p q word → ⊥
  -- an element that the slice has
  pub either : (r : Run) (a b : Actor) (next : Next) (p q word : ℕ) → ActorHasElement r a b next p q word → HasNoElementHere r a b next p q → ⊥
  pub load_field : IsAtFieldOf (Do (Some 2) (action.Load 1) (0 ∷ [])) 0 1
  pub store_field : IsAtFieldOf (Do None (action.Store 1) (0 ∷ 2 ∷ [])) 0 1
  -- another field
  pub other_field : IsAtFieldOf (Do (Some 2) (action.Load 1) (0 ∷ [])) 0 2 → ⊥
  -- an element
  pub element : IsAtFieldOf (Do (Some 2) action.At (0 ∷ 1 ∷ [])) 0 1 → ⊥
  -- the word of a cell that was located, in place of that of the next one
  pub located : (r : Run) (a b : Actor) (next : Next) (address cell word : ℕ) → HasLocated r a b next address cell word
      → HasLocated r a b next address (suc cell) word → ⊥

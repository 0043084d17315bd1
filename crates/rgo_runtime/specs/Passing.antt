-- What a driver knows of its goroutines after all have met it, after all have looked, and after all have had a turn: a pass. Each goroutine
-- has found something at another moment, and a deadlock is a fact of one moment; so the definitions follow how much the driver has seen.
use Rattle.std.specs.List.{All, AllZip, Contains}
use Rattle.std.specs.Prelude.{◌≡◌, ◌⊎◌, ◌<◌, ◌≤◌, ◌^◌, ◌++◌, ◌∷◌, ℕ, Bool, true, false, List, [], Option, Some, None, length, ⊤}
use Rattle.rgo_core.specs.Core.{Setup}
use Rattle.rgo_core.specs.Records.{Record, accesses, looked, steps_of}
use Rattle.rgo_core.specs.Rule.Views.{HasRow, Me, number_of, view}
use Rattle.rgo_core.specs.Rule.Histories.{access}
use Rattle.rgo_core.specs.Rule.declared.accesses.Kind.TheVariants.{Load}
use Rattle.rgo_core.specs.Rule.declared.accesses.Access.{Access}
use Rattle.rgo_sound.specs.Machine.declared.limits.Shortage.{Shortage}
use Rattle.rgo_sound.specs.Machine.declared.limits.Shortage.TheVariants.{Pages, Regions}
use Rattle.rgo_table_runs.specs.Goroutine.Acts.Runs.{Run}
use Rattle.rgo_table_runs.specs.Goroutine.Goroutines.{IsTidy, record_of_goroutine}
use Rattle.rgo_table_runs.specs.Goroutine.Turns.{HasTurned}
use Rattle.rgo_table_runs.specs.Goroutine.declared.goroutine.Goroutine.{Goroutine}
use Rattle.rgo_table_runs.specs.Goroutine.declared.turning.TableTurnEnd.TheVariants.{Ended, Lost}
use Rattle.rgo_table_runs.specs.Goroutine.declared.turning.Turned.{Turned}
use Rattle.rgo_table_runs.specs.passing.Laws.{Tells}
use Rattle.rgo_table_runs.specs.passing.Turns.{HasPassed, AccessesAreKnown}
use Rattle.rgo_runtime.specs.declared.deadlock.Passed.{Passed}
use Rattle.rgo_runtime.specs.declared.deadlock.Passed.TheVariants.{Lacks, Moved, Still}

-- ---- what has been seen

abbrev pub seen_by : Goroutine → List Access
seen_by go = go.actor.seat.me.0.seen

-- It has not seen more accesses than these. By length, since what one has seen is always a front of what another has seen.
abbrev pub IsBehind : List Access → Goroutine → Type 0
IsBehind seen go = length (seen_by go) ≤ length seen

-- these accesses begin with as many of its own as its record counts
abbrev pub IsKnownBy : Setup → List Access → Goroutine → Type 0
IsKnownBy T seen go = AccessesAreKnown seen (number_of go.actor.seat.me) (accesses (record_of_goroutine T go))

-- ---- meetings and looks

-- it has met its driver: only its seat has changed, and its record has not
pub record HasMet (T : Setup) (old new : Goroutine) : Type 0 where
  pub rest : new ≡ record old { actor = record old.actor { seat = new.actor.seat } }
  pub its : record_of_goroutine T new ≡ record_of_goroutine T old
  pub number : number_of new.actor.seat.me ≡ number_of old.actor.seat.me

-- it has looked: only its seat has changed, and its record has counted one access
pub record HasLookedOnce (T : Setup) (old new : Goroutine) : Type 0 where
  pub rest : new ≡ record old { actor = record old.actor { seat = new.actor.seat } }
  pub its : record_of_goroutine T new ≡ looked (record_of_goroutine T old)
  pub number : number_of new.actor.seat.me ≡ number_of old.actor.seat.me

-- The goroutine looks between two meetings with its driver, which had seen `before` and has then seen `after`.
pub record LooksBetween (T : Setup) (before after : List Access) (old new : Goroutine) : Type 0 where
  pub looked : HasLookedOnce T old new
  pub es : List Access
  pub seen : after ≡ before ++ es
  pub behind : IsBehind after new
  pub known : IsKnownBy T after new

-- ---- turns

-- its record is tidy
abbrev pub IsTidyIn : Setup → Goroutine → Type 0
IsTidyIn T go = IsTidy (record_of_goroutine T go)

-- It had a turn of at most one instruction, between two meetings with its driver.
pub record HasTurnedOnce (r : Run) (old new : Goroutine) (turned : Turned) : Type 0 where
  pub first : Goroutine
  pub last : Goroutine
  pub met : HasMet r.setup old first
  pub few : steps_of (record_of_goroutine r.setup old) ≤ 2 ^ 42
  pub turns : HasTurned r first last 1 turned
  pub meets : HasMet r.setup last new

-- It has had such a turn, or has not changed.
abbrev pub MayHaveTurned : Run → (old new : Goroutine) → Type 0
MayHaveTurned r old new = (new ≡ old) ⊎ ((turned : Turned) × HasTurnedOnce r old new turned)

-- It had such a turn, in which nothing moved.
abbrev pub HasStoodStill : Run → (old new : Goroutine) → Type 0
HasStoodStill r old new = (turned : Turned) × HasTurnedOnce r old new turned × (turned.moved ≡ false)

-- Nothing moved in the turn. It was over because the goroutine waited or was outrun, or because it lacked this.
abbrev pub IsStuck : Turned → Option Shortage → Type 0
IsStuck turned lack = (turned.moved ≡ false) × Tells turned.stop lack

abbrev pub is_moved : Passed → Bool
is_moved Moved = true
is_moved Still = false
is_moved (Lacks why) = false

-- what turns have come to, with one more
abbrev pub joined_with : Passed → Passed → Passed
joined_with passed Moved = Moved
joined_with passed Still = passed
joined_with passed (Lacks why) = Lacks why

-- what a turn has come to
abbrev pub TurnComesTo : Turned → Passed → Type 0
TurnComesTo turned Moved = (lack : Option Shortage) → IsStuck turned lack → ⊥
TurnComesTo turned Still = IsStuck turned None
TurnComesTo turned (Lacks why) = IsStuck turned (Some why)

-- It had no turn, since it has made too many instructions to count another. No run comes to that, but no clause of a crew says so.
pub record HasNoTurn (r : Run) (old new : Goroutine) : Type 0 where
  pub same : new ≡ old
  pub many : 2 ^ 42 < steps_of (record_of_goroutine r.setup old)

-- Its turn has come to this. If it had no turn, that counts as moved, since it is not known to be blocked.
abbrev pub TurnHasComeTo : Run → Passed → (old new : Goroutine) → Type 0
TurnHasComeTo r Moved old new = HasNoTurn r old new ⊎ ((turned : Turned) × HasTurnedOnce r old new turned × TurnComesTo turned Moved)
TurnHasComeTo r Still old new = (turned : Turned) × HasTurnedOnce r old new turned × TurnComesTo turned Still
TurnHasComeTo r (Lacks why) old new = (turned : Turned) × HasTurnedOnce r old new turned × TurnComesTo turned (Lacks why)

-- ---- passes

-- The goroutine has passed, and lacks this.
abbrev pub HasPassedWith : Setup → (before seen : List Access) → Goroutine → Option Shortage → Type 0
HasPassedWith T before seen go lack = HasPassed T before seen (number_of go.actor.seat.me) (record_of_goroutine T go) lack

-- the same by what its turn has come to
abbrev pub HasPassedBy : Setup → (before seen : List Access) → Goroutine → Passed → Type 0
HasPassedBy T before seen go Moved = ⊤
HasPassedBy T before seen go Still = HasPassedWith T before seen go None
HasPassedBy T before seen go (Lacks why) = HasPassedWith T before seen go (Some why)

-- The goroutine has a turn between two meetings with its driver, which had seen `before` and has then seen `after`; or it has none.
pub record TurnsBetween (r : Run) (before after : List Access) (old new : Goroutine) (passed : Passed) : Type 0 where
  pub come : TurnHasComeTo r passed old new
  pub es : List Access
  pub seen : after ≡ before ++ es
  pub behind : IsBehind after new
  pub known : IsKnownBy r.setup before old → IsKnownBy r.setup after new
  pub tidy : IsTidyIn r.setup old → IsTidyIn r.setup new
  -- Whether it has passed, in a pass that began when the driver had seen `start`. For every `start`, since the turn does not know when
  -- the pass began.
  pub passes : (start front : List Access) → before ≡ start ++ front → IsKnownBy r.setup start old → HasPassedBy r.setup start after new passed

-- What the goroutines lack, by what the pass has come to. With `Lacks`, one of them lacks this; others may lack something else.
abbrev pub AreLacks : Passed → List (Option Shortage) → Type 0
AreLacks Moved lacks = ⊥
AreLacks Still lacks = All (λ lack. lack ≡ None) lacks
AreLacks (Lacks why) lacks = Contains lacks (Some why)

-- Each goroutine had a turn in which nothing moved, and has passed.
pub record AllStoodStill (r : Run) (before seen : List Access) (old new : List Goroutine) (passed : Passed) : Type 0 where
  pub turned : AllZip (HasStoodStill r) old new
  pub lacks : List (Option Shortage)
  pub passes : AllZip (HasPassedWith r.setup before seen) new lacks
  pub are : AreLacks passed lacks

-- The turn of one of the goroutines has moved. It says little: the run continues, and the next rounds will show.
pub record OneMoved (r : Run) (old new : List Goroutine) : Type 0 where
  pub was : Goroutine
  pub is : Goroutine
  pub of_old : Contains old was
  pub of_new : Contains new is
  pub moved : TurnHasComeTo r Moved was is

-- what a pass has come to
abbrev pub PassComesTo : Run → (before seen : List Access) → (old new : List Goroutine) → Passed → Type 0
PassComesTo r before seen old new Moved = OneMoved r old new
PassComesTo r before seen old new Still = AllStoodStill r before seen old new Still
PassComesTo r before seen old new (Lacks why) = AllStoodStill r before seen old new (Lacks why)

-- All goroutines have met their driver, whose seat then had this part; then all have looked, and then each had a turn, until one moved.
-- This is what it has come to.
pub record IsPass (r : Run) (me : Me Record) (old new : List Goroutine) (passed : Passed) : Type 0 where
  pub met : List Goroutine
  pub looked : List Goroutine
  pub meets : AllZip (HasMet r.setup) old met
  pub looks : AllZip (HasLookedOnce r.setup) met looked
  pub turns : AllZip (MayHaveTurned r) looked new
  -- what the driver had seen when all had looked, and since then
  pub before : List Access
  pub since : List Access
  pub is : me.0.seen ≡ before ++ since
  pub come : PassComesTo r before me.0.seen looked new passed
  -- all accesses of those that had retired were known when all had looked, so none of them can come later
  pub retired : (g : ℕ) (its : Record) → HasRow me.0.records g its → AccessesAreKnown before g (accesses its)

-- ---- examples

-- goroutine 1 has looked at the clock
abbrev pub look : Access
look = access 1 Load 0 5 5

pub record PassingExamples : Type 0 where
  pub behind : (go : Goroutine) → seen_by go ≡ look ∷ [] → IsBehind (look ∷ []) go
  pub ahead : (go : Goroutine) → seen_by go ≡ look ∷ [] → IsBehind [] go → ⊥
  pub known : (T : Setup) (go : Goroutine) → number_of go.actor.seat.me ≡ 1 → accesses (record_of_goroutine T go) ≡ 1 → IsKnownBy T (look ∷ []) go
  pub unknown : (T : Setup) (go : Goroutine) → accesses (record_of_goroutine T go) ≡ 1 → IsKnownBy T [] go → ⊥
  pub met : (T : Setup) (go : Goroutine) → HasMet T go go
  -- it has counted a look
  pub not_met : (T : Setup) (old new : Goroutine) → HasLookedOnce T old new → HasMet T old new → ⊥
  pub has_looked : (T : Setup) (old new : Goroutine) (c : Record) → new ≡ record old { actor = record old.actor { seat = new.actor.seat } }
      → old.actor.seat.me ≡ (view ((1, c) ∷ []) [], []) → new.actor.seat.me ≡ (view ((1, looked c) ∷ []) (look ∷ []), [])
      → HasLookedOnce T old new
  -- its prints have changed
  pub not_looked : (T : Setup) (old new : Goroutine) → (new.prints ≡ old.prints → ⊥) → HasLookedOnce T old new → ⊥
  pub not_between : (T : Setup) (before after : List Access) (go : Goroutine) → LooksBetween T before after go go → ⊥
  -- it has made two instructions
  pub not_once : (r : Run) (old new : Goroutine) (turned : Turned) → turned.steps ≡ 2 → HasTurnedOnce r old new turned → ⊥
  -- it has made one instruction
  pub not_still : (r : Run) (old new : Goroutine) (k : HasStoodStill r old new) → k.0.steps ≡ 1 → ⊥
  -- it was outrun at a channel
  pub stuck : (turned : Turned) → turned.moved ≡ false → turned.stop ≡ Lost 8 → IsStuck turned None
  -- it has moved
  pub not_stuck : (turned : Turned) (lack : Option Shortage) → turned.moved ≡ true → IsStuck turned lack → ⊥
  -- it has returned from its first function: it is to retire
  pub comes : (turned : Turned) → turned.stop ≡ Ended → TurnComesTo turned Moved
  pub not_comes : (turned : Turned) → turned.moved ≡ false → turned.stop ≡ Lost 8 → TurnComesTo turned Moved → ⊥
  -- its turn cannot have come to two things
  pub one : (turned : Turned) → TurnComesTo turned Still → TurnComesTo turned (Lacks Pages) → ⊥
  pub stays : (r : Run) (go : Goroutine) → MayHaveTurned r go go
  -- its number has changed
  pub not_stays : (r : Run) (old new : Goroutine) → (new.number ≡ old.number → ⊥) → HasNoTurn r old new → ⊥
  pub counts : (r : Run) (go : Goroutine) → 2 ^ 42 < steps_of (record_of_goroutine r.setup go) → TurnHasComeTo r Moved go go
  -- it had no turn
  pub not_counts : (r : Run) (go : Goroutine) → TurnHasComeTo r Still go go → ⊥
  pub none_between : (r : Run) (seen : List Access) (go : Goroutine) → 2 ^ 42 < steps_of (record_of_goroutine r.setup go) → IsBehind seen go
      → TurnsBetween r seen seen go go Moved
  -- its driver has seen less than before
  pub not_later : (r : Run) (old new : Goroutine) (passed : Passed) → TurnsBetween r (look ∷ []) [] old new passed → ⊥
  pub joined : joined_with (Lacks Pages) Still ≡ Lacks Pages
  pub not_joined : joined_with (Lacks Pages) Still ≡ Still → ⊥
  pub lack : AreLacks (Lacks Pages) (None ∷ Some Pages ∷ [])
  pub no_lack : AreLacks (Lacks Regions) (None ∷ Some Pages ∷ []) → ⊥
  pub none : AreLacks Still (None ∷ None ∷ [])
  pub some : AreLacks Still (None ∷ Some Pages ∷ []) → ⊥
  pub all : (r : Run) (seen : List Access) → IsPass r (view [] seen, []) [] [] Still
  -- one of no goroutines has moved
  pub nobody : (r : Run) (me : Me Record) → IsPass r me [] [] Moved → ⊥
  -- a goroutine is lost
  pub lost : (r : Run) (me : Me Record) (go : Goroutine) (passed : Passed) → IsPass r me (go ∷ []) [] passed → ⊥
  -- an access of one that had retired was not known
  pub unknown_row : (r : Run) (its : Record) → accesses its ≡ 1 → IsPass r (view ((1, its) ∷ []) [], []) [] [] Still → ⊥

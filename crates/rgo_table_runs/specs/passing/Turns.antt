-- What a driver knows of one goroutine in a pass. A pass begins when the driver has seen this history, `before`, with all accesses
-- that any goroutine had made when it last looked; then each goroutine has a turn, one after the other.
use Rattle.std.specs.Prelude.{◌≡◌, ◌⊎◌, ◌+◌, ℕ, List, ◌++◌, Option, Some, None}
use Rattle.rgo_core.specs.Core.{Setup}
use Rattle.rgo_core.specs.Records.{Record, accesses}
use Rattle.rgo_core.specs.Rule.Histories.{accesses_by}
use Rattle.rgo_core.specs.Rule.Passes.{ChangesNothingBy}
use Rattle.rgo_core.specs.Rule.declared.accesses.Access.{Access}
use Rattle.rgo_sound.specs.Machine.declared.limits.Shortage.{Shortage}
use Rattle.rgo_goroutine.specs.Acts.Waits.{Loses, WaitsAtChannel}
use Rattle.rgo_goroutine.specs.Turns.{HasFinished, IsTidy, LacksFor}

-- n accesses of goroutine g are known: it has made as many in a beginning of `before`
pub record AccessesAreKnown (before : List Access) (g n : ℕ) : Type 0 where
  pub early : List Access
  pub later : List Access
  pub is : before ≡ early ++ later
  pub own : n ≡ accesses_by g early

-- Goroutine g, of which `had` accesses were known, has then had a turn in which its accesses changed no word. Its record is c after
-- it. In the history others had theirs before it (`front`) and after it (`rest`).
pub record HadTurn (before history : List Access) (g : ℕ) (c : Record) : Type 0 where
  pub had : ℕ
  pub known : AccessesAreKnown before g had
  pub front : List Access
  pub turn : List Access
  pub rest : List Access
  pub is : history ≡ ((before ++ front) ++ turn) ++ rest
  pub more : accesses c ≡ accesses_by g turn + had
  pub whole : accesses c ≡ accesses_by g ((before ++ front) ++ turn)
  pub still : ChangesNothingBy g turn

-- Why it does not continue, by the accesses of its turn: it waits at a channel, or was outrun there; or it lacks something.
abbrev pub StandsStill : Setup → ℕ → Record → List Access → Option Shortage → Type 0
StandsStill T g c turn None = ((place : Option ℕ) × WaitsAtChannel T g c turn place) ⊎ ((place : ℕ) × Loses T g c turn place)
StandsStill T g c turn (Some lack) = LacksFor lack T g c turn

-- Why goroutine g, whose record is c, does not continue: it was over when the pass began; or it had a turn and has not moved. It
-- has nothing under way with which others would have to reckon.
pub data HasStopped (T : Setup) (before history : List Access) (g : ℕ) (c : Record) (lack : Option Shortage) : Type 0 where
  Over : lack ≡ None → AccessesAreKnown before g (accesses c) → HasFinished c → HasStopped T before history g c lack
  Still : (t : HadTurn before history g c) → StandsStill T g c t.turn lack → HasStopped T before history g c lack

pub record HasPassed (T : Setup) (before history : List Access) (g : ℕ) (c : Record) (lack : Option Shortage) : Type 0 where
  pub tidy : IsTidy c
  pub stands : HasStopped T before history g c lack

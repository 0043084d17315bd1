-- What a law is about: one moment of a table, the goroutine that makes an access, and its record. Laws hold at every moment at which
-- the record is this one, since others may have made any accesses before.
use Rattle.std.specs.Prelude.{◌≡◌, ℕ, List, Some, slice_get, slice_set, slice_index}
use Rattle.rgo_sound.specs.Memory.declared.traps.Trap.{Trap}
use Rattle.rgo_sound.specs.Memory.declared.values.Value.{Value}
use Rattle.rgo_sound.specs.Machine.declared.picks.Pick.TheVariants.{One}
use Rattle.rgo_sound.specs.Code.Checked.{IsChecked}
use Rattle.rgo_sound.specs.Code.Code.{Code}
use Rattle.rgo_sound.specs.Code.NameRules.{Ascends}
use Rattle.rgo_sound.specs.RegionMachine.Machine.{Event, Instruct, region_step}
use Rattle.rgo_sound.specs.RegionMachine.States.{RegionState}
use Rattle.rgo_sound.specs.Good.{AllGood}
use Rattle.rgo_sound.specs.Running.{IsRunning}
use Rattle.rgo_core_channels.specs.After.{after_trap}
use Rattle.rgo_core_channels.specs.Channels.{Channels, Places}
use Rattle.rgo_core_channels.specs.Records.{ChannelRec}

-- a state of the region machine on checked code, with the invariant of region safety; and words and records that are its image
pub record Moment : Type 0 where
  pub code : Code
  pub page_words : ℕ
  pub checked : IsChecked code
  pub ascends : Ascends code
  pub encode : Value → ℕ
  pub place : ℕ → ℕ
  pub cell : ℕ → ℕ → ℕ
  pub words : List ℕ
  pub recs : List ChannelRec
  pub state : RegionState
  pub good : AllGood code state
  pub running : IsRunning state
  pub at : Places
  pub channels : Channels code page_words encode place cell words recs state at

-- a law of accesses by a goroutine with this record
abbrev pub Law : ((T : Moment) → ℕ → ChannelRec → Type 0) → Type 0
Law P = (T : Moment) (g : ℕ) (c : ChannelRec) → slice_get T.recs g ≡ Some c → P T g c

module _ (T : Moment) (g : ℕ) where
  -- word i is loaded, and what was found makes the record this: the state stays
  abbrev pub LoadsWord : (i : ℕ) → (ℕ → ChannelRec) → Type 0
  LoadsWord i d = Channels T.code T.page_words T.encode T.place T.cell (slice_set T.words i (slice_index T.words i))
      (slice_set T.recs g (d (slice_index T.words i))) T.state T.at

  -- word i becomes what f makes of what was found: the state stays
  abbrev pub KeepsState : (i : ℕ) (f : ℕ → ℕ) → (ℕ → ChannelRec) → Type 0
  KeepsState i f d = (at : Places)
      × Channels T.code T.page_words T.encode T.place T.cell (slice_set T.words i (f (slice_index T.words i)))
      (slice_set T.recs g (d (slice_index T.words i))) T.state at

  -- word i becomes x, and the region machine has a step by this event, to the state t
  pub record Gains (i x : ℕ) (d : ChannelRec) (event : Event) (t : RegionState) : Type 0 where
    pub steps : region_step T.code T.page_words T.state event ≡ Some t
    pub at : Places
    pub channels : Channels T.code T.page_words T.encode T.place T.cell (slice_set T.words i x) (slice_set T.recs g d) t at

  -- the goroutine's instruction traps, and the same words and records are the image of the state after it
  abbrev pub GoroutineTraps : Trap → (place : ℕ) → Type 0
  GoroutineTraps trap at = (region_step T.code T.page_words T.state (Instruct (One g)) ≡ Some (after_trap T.state trap at))
      × Channels T.code T.page_words T.encode T.place T.cell T.words T.recs (after_trap T.state trap at) T.at

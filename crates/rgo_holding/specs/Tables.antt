-- Which regions the names of a goroutine's frames are bound to, in tables that are kept only for frames that have bound a name. Most
-- frames have none, so the machine's environments are compared with a shorter list.
use Rattle.std.specs.Option.{option_map}
use Rattle.std.specs.Prelude.{◌≡◌, ◌≤◌, ℕ, suc, List, [], ◌∷◌, Option, Some, None, drop, if◌then◌else◌, length, nat_eq, reverse, slice_get, take}
use Rattle.rgo_sound.specs.RegionMachine.Regions.{Bindings, bound}
use Rattle.rgo_sound.specs.RegionMachine.States.{RegionEnvironment}
use Rattle.rgo_sound.specs.RegionMachine.declared.regions.Region.{Region}
use Rattle.rgo_holding.specs.declared.frames.Frames.{Frames}
use Rattle.rgo_holding.specs.declared.frames.Table.{Table}
use Rattle.rgo_holding.specs.declared.keys.Key.{Key}

-- the keys of the names of one frame, each by its number
abbrev pub Keys : Type 0
Keys = List (Option Key)

-- `height` counts the frames from the oldest up to this one
pub record Named : Type 0 where
  pub height : ℕ
  pub keys : Keys

-- ---- as they are kept: all keys in one list, and a table for each frame, the newest first

abbrev pub named_in : Keys → List Table → List Named
named_in keys [] = []
named_in keys (t ∷ ts) = record { height = t.height; keys = drop t.start keys } ∷ named_in (take t.start keys) ts

-- each table starts within the keys that the newer tables leave
abbrev pub StartWithin : Keys → List Table → Type 0
StartWithin keys [] = Unit {0}
StartWithin keys (t ∷ ts) = (t.start ≤ length keys) × StartWithin (take t.start keys) ts

abbrev pub named_frames : Frames → List Named
named_frames f = named_in f.keys.items (reverse f.tables.items)

abbrev pub IsOrdered : Frames → Type 0
IsOrdered f = StartWithin f.keys.items (reverse f.tables.items)

-- ---- names

abbrev pub or_none : Option (Option Key) → Option Key
or_none None = None
or_none (Some key) = key

-- the key of a name
abbrev pub key_in : Keys → ℕ → Option Key
key_in keys k = or_none (slice_get keys k)

-- the keys of the frame of this height if it is the newest that has a table; otherwise it has none
abbrev pub keys_at : List Named → ℕ → Keys
keys_at [] n = []
keys_at (f ∷ fs) n = if nat_eq f.height n then f.keys else []

-- the frames with a table, without the one of this height
abbrev pub named_below : List Named → ℕ → List Named
named_below [] n = []
named_below (f ∷ fs) n = if nat_eq f.height n then fs else f ∷ fs

-- the keys of the newest frame
abbrev pub newest_keys : Frames → Keys
newest_keys f = keys_at (named_frames f) f.depth

-- ---- what they are bound to; `region` has the region of each key that is in use, and none for other keys

abbrev pub StandFor : (region : Key → Option Region) → Keys → Bindings → Type 0
StandFor region keys names = (k : ℕ) → option_map region (key_in keys k) ≡ option_map Some (bound names k)

-- Each frame's keys are those of the regions that its environment binds. The heights tell which environments have a table.
abbrev pub NamesStand : (region : Key → Option Region) → List Named → List RegionEnvironment → Type 0
NamesStand region fs [] = fs ≡ []
NamesStand region fs (e ∷ es) =
    StandFor region (keys_at fs (suc (length es))) e.names × NamesStand region (named_below fs (suc (length es))) es

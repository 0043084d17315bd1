-- What operations do to the names of frames. They are equations on the list of frames with a table. Frames without one are in the
-- depth alone.
use Rattle.std.specs.Prelude.{◌≡◌, ◌<◌, ◌≤◌, ◌-◌, ◌+◌, ◌^◌, ℕ, Bool, false, List, [], ◌∷◌, Option, Some, None, if◌then◌else◌, nat_eq, nat_lt, reverse, slice_set, vec_capacity, vec_len}
use Rattle.rgo_holding.specs.declared.frames.Frames.{Frames}
use Rattle.rgo_holding.specs.declared.frames.Table.{Table}
use Rattle.rgo_holding.specs.Tables.{IsOrdered, Keys, Named, key_in, named_frames, named_below, newest_keys}

-- where the keys of the frame of this height begin, if the first table belongs to it
abbrev pub start_at : List Table → ℕ → Option ℕ
start_at [] n = None
start_at (t ∷ ts) n = if nat_eq t.height n then Some t.start else None

abbrev pub newest_start : Frames → Option ℕ
newest_start f = start_at (reverse f.tables.items) f.depth

-- only memory has changed
pub record SameTables (f g : Frames) : Type 0 where
  pub tables : g.tables.items ≡ f.tables.items
  pub keys : g.keys.items ≡ f.keys.items
  pub depth : g.depth ≡ f.depth

-- each name has the key that it had
pub record SameNames (f g : Frames) : Type 0 where
  pub keys : (k : ℕ) → key_in (newest_keys g) k ≡ key_in (newest_keys f) k
  pub below : named_below (named_frames g) g.depth ≡ named_below (named_frames f) f.depth
  pub depth : g.depth ≡ f.depth
  pub ordered : IsOrdered g

-- The frame of this height has other keys, if it is the newest that has a table. A frame without a table has no keys to change.
abbrev pub keys_changed_at : (height : ℕ) → (Keys → Keys) → List Named → List Named
keys_changed_at n change [] = []
keys_changed_at n change (f ∷ fs) = (if nat_eq f.height n then record f { keys = change f.keys } else f) ∷ fs

-- There is memory for a frame with this many names: a table and the keys. `enter` relies on it.
pub record HasFrameRoom (f : Frames) (names : ℕ) : Type 0 where
  pub table : vec_len f.tables < vec_capacity f.tables
  pub keys : vec_len f.keys + names ≤ vec_capacity f.keys
  pub depth : f.depth + 1 < 2 ^ 64

-- there is at least as much memory as before
abbrev pub KeepsRoom : Frames → Frames → Type 0
KeepsRoom f g = (n : ℕ) → HasFrameRoom f n → HasFrameRoom g n

-- the newest frame has other keys, and nothing else has changed
pub record Changed (f g : Frames) (change : Keys → Keys) : Type 0 where
  pub named : named_frames g ≡ keys_changed_at f.depth change (named_frames f)
  pub depth : g.depth ≡ f.depth
  pub ordered : IsOrdered g

-- the keys without those of these names
abbrev pub cleared_keys : Keys → List ℕ → Keys
cleared_keys keys [] = keys
cleared_keys keys (k ∷ ks) = cleared_keys (slice_set keys k None) ks

-- the list without its newest table
abbrev pub behind_first : List Named → List Named
behind_first [] = []
behind_first (f ∷ fs) = fs

pub record Drops (f g : Frames) : Type 0 where
  pub named : IsOrdered f → named_frames g ≡ behind_first (named_frames f)
  pub depth : g.depth ≡ f.depth
  pub ordered : IsOrdered f → IsOrdered g
  pub fewer : vec_len g.tables ≡ vec_len f.tables - 1

-- whether the newest table is of a frame above this height
abbrev pub is_above : (height : ℕ) → List Named → Bool
is_above n [] = false
is_above n (f ∷ fs) = nat_lt n f.height

-- a frame with these names; one without names gets no table
abbrev pub with_named : ℕ → Keys → List Named → List Named
with_named height [] fs = fs
with_named height (key ∷ keys) fs = record { height = height; keys = key ∷ keys } ∷ fs

pub record NamedFrameEnters (f g : Frames) (keys : Keys) : Type 0 where
  pub named : named_frames g ≡ with_named (f.depth + 1) keys (named_frames f)
  pub depth : g.depth ≡ f.depth + 1
  pub ordered : IsOrdered f → IsOrdered g

-- the newest frame is removed
pub record NamedFrameReturns (f g : Frames) : Type 0 where
  pub named : IsOrdered f → named_frames g ≡ named_below (named_frames f) f.depth
  pub depth : g.depth ≡ f.depth - 1
  pub ordered : IsOrdered f → IsOrdered g

-- the tables of frames above height `kept` are removed
abbrev pub cut : (kept : ℕ) → List Named → List Named
cut kept [] = []
cut kept (f ∷ fs) = if nat_lt kept f.height then cut kept fs else f ∷ fs

pub record Cuts (f g : Frames) (kept many : ℕ) : Type 0 where
  pub named : IsOrdered f → named_frames g ≡ cut kept (named_frames f)
  pub depth : g.depth ≡ many
  pub ordered : IsOrdered f → IsOrdered g

-- the only frame, which had no table, has these keys
pub record NamesFirst (f g : Frames) (keys : Keys) : Type 0 where
  pub named : f.tables.items ≡ [] → named_frames g ≡ record { height = 1; keys = keys } ∷ []
  pub depth : g.depth ≡ f.depth
  pub ordered : f.tables.items ≡ [] → IsOrdered g

-- Steps of other kinds: what they have to leave of channels, and how a new channel or goroutine joins the image. The crate that puts
-- the images together shows this once for each kind of step.
use Rattle.std.specs.Prelude.{◌≡◌, ◌≢◌, ◌⊎◌, ℕ, ◌+◌, ◌<◌, ◌≤◌, false, List, [], ◌∷◌, ◌++◌, length, replicate, Option, Some, None, slice_get}
use Rattle.std.specs.Prelude.{slice_index, slice_set}
use Rattle.rgo_sound.specs.Typed.declared.actions.Action.TheVariants.{Send}
use Rattle.rgo_sound.specs.Memory.declared.values.Value.{Value}
use Rattle.rgo_sound.specs.Memory.declared.values.Value.TheVariants as value
use Rattle.rgo_sound.specs.Code.Code.{Code}
use Rattle.rgo_sound.specs.RegionMachine.declared.limits.Limit.{Limit}
use Rattle.rgo_sound.specs.RegionMachine.Machine.{Event, finished, region_step}
use Rattle.rgo_sound.specs.RegionMachine.States.{Holder, NoOffer, RegionState}
use Rattle.rgo_sound.specs.Leaving.{ActsAlone}
use Rattle.rgo_core_channels.specs.Channels.{Calm, Chan, Channels, IsChan, On, Places, Unlocked, word_of_channel}
use Rattle.rgo_core_channels.specs.Controls.{extent, tail_words, spreads}
use Rattle.rgo_core_channels.specs.Moments.{Moment}
use Rattle.rgo_core_channels.specs.Records.{ChannelRec, at_rest}
use Rattle.rgo_core_channels.specs.Standing.{Next}

-- Other words, another state, another layout and encoding. Channels are where they were, with the same words; values in
-- them are encoded as before; regions may have been removed, and this many goroutines have started. The layout changes when an object
-- is made, since it is a function of all objects.
pub record LeavesChannels (T : Moment) (words : List ℕ) (s : RegionState) (encode : Value → ℕ) (place : ℕ → ℕ)
    (cell : ℕ → ℕ → ℕ) (at : Places) (IsNew : ℕ → Chan → Type 0) (children : ℕ) : Type 0 where
  pub long : length words ≡ length T.words
  pub heap : (o : ℕ) (k : Chan) → On T.state o k → IsChan s.plain.memory o k
  pub was : (o : ℕ) (k : Chan) → On s o k → On T.state o k ⊎ IsNew o k
  pub same : (o i : ℕ) (k : Chan) → On T.state o k → i < 2 + extent k.capacity
      → slice_index words (word_of_channel T.place T.cell o i) ≡ slice_index T.words (word_of_channel T.place T.cell o i)
  pub places : (o : ℕ) (k : Chan) → On T.state o k → place o ≡ T.place o
  pub spots : (o i : ℕ) (k : Chan) → On T.state o k → i < extent k.capacity → cell o i ≡ T.cell o i
  pub ats : (o : ℕ) (k : Chan) → On T.state o k
      → (at.head o ≡ T.at.head o) × (at.lock o ≡ T.at.lock o) × (at.phase o ≡ T.at.phase o)
  pub codes : (o i : ℕ) (v : Value) (k : Chan) → On T.state o k → slice_get k.queue i ≡ Some v
      → encode v ≡ T.encode v
  pub sent : (o j : ℕ) (v : Value) → Next T.code T.state j Send (value.Object o ∷ v ∷ []) → encode v ≡ T.encode v
  -- a new goroutine has no offer
  pub born : length s.holders ≡ length T.state.holders + children
  pub born_calm : (j : ℕ) (h : Holder) → length T.state.holders ≤ j → slice_get s.holders j ≡ Some h → h.offer ≡ NoOffer
  -- A new channel is open and empty, and its words are apart from those of all others. Its words were stored before this step, as
  -- those of every new object.
  pub fresh : (o : ℕ) (k : Chan) → IsNew o k → (k.queue ≡ []) × (k.closed ≡ false) × (at.head o ≡ 0)
      × (at.lock o ≡ Unlocked) × (at.phase o ≡ Calm)
  pub fresh_words : (o : ℕ) (k : Chan) → IsNew o k → (slice_index words (place o) ≡ 0)
      × (slice_index words (place o + 1) ≡ k.capacity) × (k.capacity < 1073741820)
      × (place o + 2 + tail_words T.page_words k.capacity ≤ length words)
  pub fresh_cells : (o i : ℕ) (k : Chan) → IsNew o k → i < extent k.capacity
      → (cell o i < length words) × (spreads T.page_words k.capacity ≡ false → cell o i ≡ place o + 2 + i)
  pub fresh_differ : (o i j : ℕ) (k : Chan) → IsNew o k → i < 2 + extent k.capacity → j < 2 + extent k.capacity
      → word_of_channel place cell o i ≡ word_of_channel place cell o j → i ≡ j
  pub fresh_apart : (o p i j : ℕ) (k l : Chan) → IsNew o k → On T.state p l → i < 2 + extent k.capacity
      → j < 2 + extent l.capacity → word_of_channel place cell o i ≢ word_of_channel T.place T.cell p j
  pub one_fresh : (o p : ℕ) (k l : Chan) → IsNew o k → IsNew p l → o ≡ p

-- the channel that a step makes: its number and its capacity
abbrev pub IsMade : Option (ℕ × ℕ) → ℕ → Chan → Type 0
IsMade None o k = ⊥
IsMade (Some made) o k = (o ≡ made.0) × (k ≡ record { capacity = made.1; queue = []; closed = false })

-- A step of one goroutine that concerns no offer, and whose record knows nothing of channels. That the others are as before, and that the
-- channels of which they know are still live, follows from region safety.
abbrev pub EventLaw : Type 0
EventLaw = (T : Moment) (g : ℕ) (event : Event) (words : List ℕ) (s : RegionState) (encode : Value → ℕ) (place : ℕ → ℕ)
    (cell : ℕ → ℕ → ℕ) (at : Places) (made : Option (ℕ × ℕ)) (children : ℕ) → slice_get T.recs g ≡ Some at_rest
    → ActsAlone event g
    → region_step T.code T.page_words T.state event ≡ Some s
    → LeavesChannels T words s encode place cell at (IsMade made) children
    → Channels T.code T.page_words encode place cell words (T.recs ++ replicate children at_rest) s at

-- the end of a run is a mark in the state, which no channel's word shows
abbrev pub FinishKeeps : Type 0
FinishKeeps = (code : Code) (page_words : ℕ) (encode : Value → ℕ) (place : ℕ → ℕ) (cell : ℕ → ℕ → ℕ) (words : List ℕ)
    (recs : List ChannelRec) (s : RegionState) (at : Places) (limit : Limit) → Channels code page_words encode place cell words recs s at
    → Channels code page_words encode place cell words recs (finished s limit) at

-- A word that no channel has may be written. The premise is about every channel, since the writer does not know which exist.
abbrev pub ForeignWordKeeps : Type 0
ForeignWordKeeps = (code : Code) (page_words : ℕ) (encode : Value → ℕ) (place : ℕ → ℕ) (cell : ℕ → ℕ → ℕ) (words : List ℕ)
    (recs : List ChannelRec) (s : RegionState) (at : Places) (i x : ℕ)
    → ((o j : ℕ) (k : Chan) → On s o k → j < 2 + extent k.capacity → word_of_channel place cell o j ≢ i)
    → Channels code page_words encode place cell words recs s at
    → Channels code page_words encode place cell (slice_set words i x) recs s at

-- What the core has for the premises of laws about frames, memory and channels; and words that the image does not read.
use Rattle.std.proofs.Common.{◌≡◌, inl, ℕ, zero, suc, ◌<◌, ◌≤◌, List, Some, length, map, slice_get, slice_set, ap, sym, subst, ◌∙◌, arith}
use Rattle.rgo_sound.specs.Code.Code.{CodeOp, Code}
use Rattle.rgo_core_channels.proofs.Quiet as channel_laws
use Rattle.rgo_core_channels.specs.Channels.{Places, word_of_channel}
use Rattle.rgo_core_channels.specs.Records.{ChannelRec as SideRec}
use Rattle.rgo_core_frames.proofs.Before.{before_law}
use Rattle.rgo_core_frames.specs.Records.{FramesRec as FrameRec}
use Rattle.rgo_core_frames.specs.States.{AtInstruction, Here as FramesHere}
use Rattle.rgo_core_memory.proofs.image.Elsewhere.{clock_keeps, number_keeps}
use Rattle.rgo_core_memory.proofs.Rows.{set_again}
use Rattle.rgo_core_memory.proofs.image.Stepped.{map_get, map_set}
use Rattle.rgo_core_memory.specs.Image.{StateImage, Where, word_of_value}
use Rattle.rgo_core_memory.specs.Records.{Rec as MemoryRec}
use Rattle.rgo_core_memory.specs.Words.{base}
use Rattle.rgo_core_memory.specs.declared.layout.TableSizes.{TableSizes}
use Rattle.rgo_sound.specs.RegionMachine.States.{RegionState}
use Rattle.rgo_core.specs.Core.{Situation, Setup}
use Rattle.rgo_core_channels.specs.Positions.{cell_place, place_at}
use Rattle.rgo_core.specs.Image.{Image, ChannelsIn}
use Rattle.rgo_core.specs.Next.{IsAtOp}
use Rattle.rgo_core.specs.Records.{Record, frame_of, memory_of, side_of}

module _ {T : Setup} {g : ℕ} {c : Record} (x : Situation T g c) where
  pub frame_at : slice_get (map frame_of x.recs) g ≡ Some c.frame
  frame_at = map_get frame_of x.recs g c x.is_c

  pub memory_at : slice_get (map memory_of x.recs) g ≡ Some c.memory
  memory_at = map_get memory_of x.recs g c x.is_c

  pub side_at : slice_get (map side_of x.recs) g ≡ Some c.side
  side_at = map_get side_of x.recs g c x.is_c

  abbrev pub frames_here : FramesHere
  frames_here = record {
    code = T.code;
    page_words = T.sizes.page_words;
    slot_of = x.core.image.places.slot;
    addresses = x.core.image.addresses;
    s = x.s;
    records = map frame_of x.recs;
    g = g;
    c = c.frame;
    sound = x.core.sound;
    all = x.core.image.frames;
    is_c = frame_at;
  }

  abbrev pub at_instruction : {op : CodeOp} → IsAtOp T.code c op → AtInstruction
  at_instruction a = record {
    here = frames_here;
    w = a.w;
    ws = a.ws;
    instr = a.instr;
    before = before_law frames_here a.w a.ws a.instr a.frames a.cur a.none (inl a.free);
  }

  pub wide : 96 < length x.words
  wide = let w = x.core.image.memory.shows.wide in omega (arith, w)

-- ---- parts of the image that stay

module _ (code : Code) (z : TableSizes) (words : List ℕ) (recs : List Record) (s : RegionState) (k : Image code z words recs s) where
  -- the record has other clock words alone
  pub image_same : (g : ℕ) (c d : Record) → slice_get recs g ≡ Some c → d.frame ≡ c.frame → d.memory ≡ c.memory → d.side ≡ c.side
      → Image code z words (slice_set recs g d) s
  image_same g c d at frame memory side = record {
    places = k.places;
    at = k.at;
    addresses = k.addresses;
    addressed = k.addressed;
    frames = subst (λ (l : List FrameRec). Rattle.rgo_core_frames.specs.Fits.RecordsFit code k.places.slot k.addresses s l)
        (sym (map_set frame_of recs g d ∙ (ap (slice_set (map frame_of recs) g) frame ∙ set_again (map frame_of recs) g c.frame (map_get frame_of recs g c at))))
        k.frames;
    memory = subst (λ (l : List MemoryRec). StateImage z words l s k.places)
        (sym (map_set memory_of recs g d ∙ (ap (slice_set (map memory_of recs) g) memory ∙ set_again (map memory_of recs) g c.memory (map_get memory_of recs g c at))))
        k.memory;
    channels = subst (λ (l : List SideRec). ChannelsIn code z k.places words l s k.at)
        (sym (map_set side_of recs g d ∙ (ap (slice_set (map side_of recs) g) side ∙ set_again (map side_of recs) g c.side (map_get side_of recs g c at))))
        k.channels;
  }

-- words of channels are those of pages
pub word_high : (z : TableSizes) (places : Where) (o j : ℕ) → base z ≤ word_of_channel (place_at z places) (cell_place z places) o j
word_high z places o zero = omega arith
word_high z places o (suc zero) = omega arith
word_high z places o (suc (suc j)) = omega arith

-- words before those of pages belong to no channel
pub channels_beside : (code : Code) (z : TableSizes) (places : Where) (words : List ℕ) (recs : List SideRec) (s : RegionState) (at : Places) (i v : ℕ)
    → i < base z → ChannelsIn code z places words recs s at
    → ChannelsIn code z places (slice_set words i v) recs s at
channels_beside code z places words recs s at i v low =
    channel_laws.word_keeps code z.page_words (word_of_value z places) (place_at z places) (cell_place z places) words recs s at i v
    (λ o j k on h e. let l = word_high z places o j in omega (arith, l, e, low))

pub image_clock : (code : Code) (z : TableSizes) (words : List ℕ) (recs : List Record) (s : RegionState) (v : ℕ) → Image code z words recs s
    → Image code z (slice_set words 0 v) recs s
image_clock code z words recs s v k = record {
  places = k.places;
  at = k.at;
  addresses = k.addresses;
  addressed = k.addressed;
  frames = k.frames;
  memory = clock_keeps z words (map memory_of recs) s k.places v k.memory;
  channels = channels_beside code z k.places words (map side_of recs) s k.at 0 v (omega arith) k.channels;
}

pub image_made : (code : Code) (z : TableSizes) (words : List ℕ) (recs : List Record) (s : RegionState) (v : ℕ) → Image code z words recs s
    → Image code z (slice_set words 16 v) recs s
image_made code z words recs s v k = record {
  places = k.places;
  at = k.at;
  addresses = k.addresses;
  addressed = k.addressed;
  frames = k.frames;
  memory = number_keeps z words (map memory_of recs) s k.places v k.memory;
  channels = channels_beside code z k.places words (map side_of recs) s k.at 16 v (omega arith) k.channels;
}

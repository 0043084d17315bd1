-- The parts of an image about one goroutine, and an image put together from its parts. It is the joint of the three crates below: each
-- gives its image of the same next state.
use Rattle.std.proofs.Common.{◌≡◌, ℕ, ◌+◌, ◌≤◌, List, Some, length, map, count_by, sum_by, slice_get, slice_set, ap, sym, subst, ◌∙◌}
use Rattle.rgo_sound.specs.Machine.Limits.{deepest}
use Rattle.rgo_sound.specs.RegionMachine.Counts.{counts_of, is_removed, pages_if_removed}
use Rattle.rgo_sound.specs.RegionMachine.Regions.{RegionInfo}
use Rattle.rgo_sound.specs.RegionMachine.States.{RegionState}
use Rattle.rgo_sound.proofs.Places.{length_set}
use Rattle.rgo_sound.specs.Tally.{counts_plus, no_share}
use Rattle.rgo_core_channels.specs.Channels.{Places}
use Rattle.rgo_core_channels.specs.Records.{ChannelRec as SideRec}
use Rattle.rgo_core_frames.specs.Fits.{RecordsFit}
use Rattle.rgo_core_frames.specs.Records.{FramesRec as FrameRec}
use Rattle.rgo_core_frames.specs.States.{IsSound}
use Rattle.rgo_core_memory.specs.Encoding.{address}
use Rattle.rgo_core_memory.specs.Image.{StateImage, Where}
use Rattle.rgo_core_memory.specs.Records.{Rec as MemoryRec}
use Rattle.rgo_core_memory.proofs.Rows.{set_again}
use Rattle.rgo_core_memory.proofs.image.Stepped.{map_set}
use Rattle.rgo_core.specs.Core.{Situation, Setup, layout}
use Rattle.rgo_core.specs.Image.{Image, ChannelsIn}
use Rattle.rgo_core.specs.Records.{Record, frame_of, memory_of, side_of}
use Rattle.rgo_core.proofs.steps.Lift.{many, shallow_here}
use Rattle.rgo_core.proofs.image.Standing.{frame_at, memory_at, side_at}
use Rattle.rgo_core.proofs.goroutines.Counting.{plus_zero}

module _ {T : Setup} {g : ℕ} {c : Record} (x : Situation T g c) where
  abbrev pub I : Image T.code (layout T) x.words x.recs x.s
  I = x.core.image

  -- ---- an image of the records after it, from its parts

  pub image_with : (words : List ℕ) (d : Record) (t : RegionState) (places : Where) (at : Places) (addresses : List ℕ)
      → ((o a : ℕ) → slice_get addresses o ≡ Some a → a ≡ address (layout T) places.start o)
      → RecordsFit T.code places.slot addresses t (slice_set (map frame_of x.recs) g d.frame)
      → StateImage (layout T) words (slice_set (map memory_of x.recs) g d.memory) t places
      → ChannelsIn T.code (layout T) places words (slice_set (map side_of x.recs) g d.side) t at
      → Image T.code (layout T) words (slice_set x.recs g d) t
  image_with words d t places at addresses addressed F M K = record {
    places = places;
    at = at;
    addresses = addresses;
    addressed = addressed;
    frames = subst (RecordsFit T.code places.slot addresses t) (sym (map_set frame_of x.recs g d)) F;
    memory = subst (λ (l : List MemoryRec). StateImage (layout T) words l t places) (sym (map_set memory_of x.recs g d)) M;
    channels = subst (λ (l : List SideRec). ChannelsIn T.code (layout T) places words l t at)
        (sym (map_set side_of x.recs g d)) K;
  }

  -- parts of the record that stay
  pub frame_stays : (t : RegionState) (slot_of : ℕ → ℕ) (addresses : List ℕ) → RecordsFit T.code slot_of addresses t (map frame_of x.recs)
      → RecordsFit T.code slot_of addresses t (slice_set (map frame_of x.recs) g c.frame)
  frame_stays t slot_of addresses F =
      subst (RecordsFit T.code slot_of addresses t) (sym (set_again (map frame_of x.recs) g c.frame (frame_at x))) F

  pub memory_stays : (words : List ℕ) (t : RegionState) (places : Where) → StateImage (layout T) words (map memory_of x.recs) t places
      → StateImage (layout T) words (slice_set (map memory_of x.recs) g c.memory) t places
  memory_stays words t places M =
      subst (λ (l : List MemoryRec). StateImage (layout T) words l t places) (sym (set_again (map memory_of x.recs) g c.memory (memory_at x))) M

  pub side_stays : (words : List ℕ) (t : RegionState) (places : Where) (at : Places)
      → ChannelsIn T.code (layout T) places words (map side_of x.recs) t at
      → ChannelsIn T.code (layout T) places words (slice_set (map side_of x.recs) g c.side) t at
  side_stays words t places at K =
      subst (λ (l : List SideRec). ChannelsIn T.code (layout T) places words l t at)
      (sym (set_again (map side_of x.recs) g c.side (side_at x))) K

  -- ---- numbers

  -- it has at most as many frames as it may
  pub shallow : length c.frame.frames ≤ deepest
  shallow = shallow_here x g c.frame (frame_at x)

  -- no goroutine has started
  pub as_many : (t : RegionState) (slot_of : ℕ → ℕ) (addresses : List ℕ) (d : FrameRec) → IsSound T.code t
      → RecordsFit T.code slot_of addresses t (slice_set (map frame_of x.recs) g d) → length t.plain.goroutines ≡ length x.s.plain.goroutines
  as_many t slot_of addresses d sound F =
      many T.code slot_of addresses t (slice_set (map frame_of x.recs) g d) sound F
      ∙ (length_set (map frame_of x.recs) g d
      ∙ sym (many T.code I.places.slot I.addresses x.s (map frame_of x.recs) x.core.sound I.frames))

-- what a step adds, if it leaves regions and pages: instructions and objects
pub adds_of : (s t : RegionState) (n k : ℕ) → t.regions ≡ s.regions → t.global_pages ≡ s.global_pages → t.steps ≡ s.steps + n
    → length t.plain.memory.heap ≡ length s.plain.memory.heap + k → length t.plain.goroutines ≡ length s.plain.goroutines
    → counts_of t ≡ counts_plus (counts_of s) (record no_share { steps = n; objects = k })
adds_of s t n k regions pages steps objects many = λ i. record {
  made = plus_zero (length t.regions) (length s.regions) (ap length regions) i;
  removed = plus_zero (count_by is_removed t.regions) (count_by is_removed s.regions) (ap (count_by is_removed) regions) i;
  taken = plus_zero (counts_of t).taken (counts_of s).taken taken i;
  returned = plus_zero (sum_by pages_if_removed t.regions) (sum_by pages_if_removed s.regions) (ap (sum_by pages_if_removed) regions) i;
  steps = steps i;
  objects = objects i;
  goroutines = plus_zero (length t.plain.goroutines) (length s.plain.goroutines) many i;
}
  where
    taken : t.global_pages + sum_by (λ (info : RegionInfo). info.pages) t.regions
        ≡ s.global_pages + sum_by (λ (info : RegionInfo). info.pages) s.regions
    taken = ap (λ n. n + sum_by (λ (info : RegionInfo). info.pages) t.regions) pages
        ∙ ap (λ l. s.global_pages + sum_by (λ (info : RegionInfo). info.pages) l) regions

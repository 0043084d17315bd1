-- A step of one goroutine that changes no memory, by an access to a word before the cells. It serves all duties and prints.
use Rattle.std.proofs.Common.{◌≡◌, inl, ℕ, ◌<◌, ◌≤◌, true, List, Some, None, length, map, slice_get, slice_set, refl, ap, sym, subst, ◌∙◌, arith}
use Rattle.std.proofs.Math.ListN.{length-set}
use Rattle.std.proofs.lemmas.List.{append-nil}
use Rattle.rgo_sound.specs.Machine.Limits.{deepest}
use Rattle.rgo_sound.specs.Memory.Memory.{Memory as Heap}
use Rattle.rgo_sound.specs.RegionMachine.Counts.{Counts, counts_of}
use Rattle.rgo_sound.specs.RegionMachine.Machine.{Event, region_step}
use Rattle.rgo_sound.specs.RegionMachine.Objects.{owner_live}
use Rattle.rgo_sound.specs.RegionMachine.Regions.{is_live}
use Rattle.rgo_sound.specs.RegionMachine.Room.{has_room}
use Rattle.rgo_sound.specs.RegionMachine.States.{RegionState}
use Rattle.rgo_sound.specs.RegionMachine.declared.regions.Region.{Region}
use Rattle.rgo_sound.proofs.Places.{length_set}
use Rattle.rgo_sound.specs.Leaving.{ActsAlone}
use Rattle.rgo_sound.specs.Tally.{counts_plus}
use Rattle.rgo_core_channels.specs.Channels.{Chan, On}
use Rattle.rgo_core_channels.specs.Elsewhere.{IsMade, LeavesChannels}
use Rattle.rgo_core_channels.specs.Records.{at_rest}
use Rattle.rgo_core_channels.proofs.Elsewhere.{event_keeps}
use Rattle.rgo_core_frames.specs.Fits.{RecordsFit}
use Rattle.rgo_core_frames.specs.Records.{FramesRec as FrameRec}
use Rattle.rgo_core_frames.specs.steps.Bookkept.{StaysElse}
use Rattle.rgo_core_memory.specs.Image.{StateImage, Where, word_of_value}
use Rattle.rgo_core_memory.specs.Pages.{Place}
use Rattle.rgo_core_memory.specs.Parts.{Use}
use Rattle.rgo_core_memory.specs.Records.{Rec as MemoryRec}
use Rattle.rgo_core_memory.specs.Words.{base}
use Rattle.rgo_core_memory.proofs.Rows.{below, set_again}
use Rattle.rgo_core.specs.Core.{Situation, Setup, layout}
use Rattle.rgo_core_channels.specs.Positions.{cell_place, place_at}
use Rattle.rgo_core.specs.Image.{ChannelsIn}
use Rattle.rgo_core.specs.Records.{ClockRec, Record, counted, frame_of, memory_of, side_of}
use Rattle.rgo_core.specs.Steps.{MakesQuietStep, SameClock}
use Rattle.rgo_core.proofs.channel_steps.Leaving.{before_cells, owner_of}
use Rattle.rgo_core.proofs.image.Parts.{I, image_with}
use Rattle.rgo_core.specs.ties.Links.{Links}
use Rattle.rgo_core.proofs.image.Standing.{side_at}
use Rattle.rgo_core.specs.ties.Moments.{moment}
use Rattle.rgo_core.proofs.goroutines.Counting.{plus_zero}

-- memory, owners and print stay
pub record MemoryStays (s t : RegionState) : Type 0 where
  pub memory : t.plain.memory ≡ s.plain.memory
  pub owners : t.owners ≡ s.owners
  pub printed : t.plain.printed ≡ s.plain.printed

pub else_stays : (s t : RegionState) → StaysElse s t → MemoryStays s t
else_stays s t e = record { memory = e.memory; owners = e.owners; printed = e.printed }

module _ {T : Setup} {g : ℕ} {c : Record} (x : Situation T g c) (rests : c.side ≡ at_rest) (event : Event) (alone : ActsAlone event g)
    (t : RegionState) (step : region_step T.code T.sizes.page_words x.s event ≡ Some t) (room : has_room T.sizes x.s event ≡ true) (same : MemoryStays x.s t)
    (k : ClockRec) (fr : FrameRec) (m : MemoryRec) (slot : ℕ → ℕ) (uses : ℕ → Use) (at : ℕ → Place) (page : ℕ → ℕ) (i v : ℕ)
    (low : i < base (layout T))
    (lives : (o : ℕ) (r : Region) → slice_get x.s.owners o ≡ Some r → is_live t.regions r ≡ true → is_live x.s.regions r ≡ true)
    (fit : RecordsFit T.code slot (I x).addresses t (slice_set (map frame_of x.recs) g fr))
    (M : StateImage (layout T) (slice_set x.words i v) (slice_set (map memory_of x.recs) g m) t
    (record (I x).places { slot = slot; uses = uses; at = at; page = page })) where
  abbrev words : List ℕ
  words = slice_set x.words i v

  abbrev P : Where
  P = record (I x).places { slot = slot; uses = uses; at = at; page = page }

  holders_many : length t.holders ≡ length x.s.holders
  holders_many = sym fit.as_many ∙ (length_set (map frame_of x.recs) g fr ∙ (I x).frames.as_many)

  was : (o : ℕ) (l : Chan) → On t o l → On x.s o l
  was o l on =
      let y = owner_of t o on.1 in
      let e : slice_get x.s.owners o ≡ Some y.0 = ap (λ (l : List Region). slice_get l o) (sym same.owners) ∙ y.1 in (
        ap (λ (h : Heap). slice_get h.heap o) (sym same.memory) ∙ on.0,
        ap (owner_live x.s) e ∙ lives o y.0 e y.2,
      )

  stay : LeavesChannels (moment x) words t (word_of_value (layout T) P) (place_at (layout T) P) (cell_place (layout T) P) (I x).at (IsMade None) 0
  stay = record {
    long = length-set x.words i v;
    heap = λ o l on. ap (λ (h : Heap). slice_get h.heap o) same.memory ∙ on.0;
    was = λ o l on. inl (was o l on);
    same = λ o j l on h. before_cells (layout T) x.words (map memory_of x.recs) x.s (I x).places (I x).memory i v low o j l on h;
    places = λ o l on. refl;
    spots = λ o i l on h. refl;
    ats = λ o l on. (refl, refl, refl);
    codes = λ o j u l on q. refl;
    sent = λ o j u n. refl;
    born = plus_zero (length t.holders) (length x.s.holders) holders_many;
    born_calm = λ j h l q. absurd (let y = below t.holders j h q in let w = holders_many in omega (arith, l, y, w));
    fresh = λ o l n. absurd n;
    fresh_words = λ o l n. absurd n;
    fresh_cells = λ o i k n. absurd n;
    fresh_differ = λ o i j k n. absurd n;
    fresh_apart = λ o p i j k l n on. absurd n;
    one_fresh = λ o p l j n n'. absurd n;
  }

  channels : ChannelsIn T.code (layout T) P words (slice_set (map side_of x.recs) g c.side) t (I x).at
  channels =
      subst (λ l. ChannelsIn T.code (layout T) P words l t (I x).at)
      (append-nil (map side_of x.recs) ∙ sym (set_again (map side_of x.recs) g c.side (side_at x)))
      (event_keeps (moment x) g event words t (word_of_value (layout T) P) (place_at (layout T) P) (cell_place (layout T) P) (I x).at None 0
      (side_at x ∙ ap Some rests) alone step stay)

  pub attends : Links T.code (layout T) words (slice_set x.recs g (record c { clock = k; frame = fr; memory = m })) → (gain : Counts) → counts_of t ≡ counts_plus (counts_of x.s) gain → counted k ≡ counts_plus (counted c.clock) gain
      → length fr.frames ≤ deepest → t.mark ≡ x.s.mark → SameClock c.clock k
      → MakesQuietStep x words (record c { clock = k; frame = fr; memory = m })
  attends links gain adds count shallow mark clock = record {
    goes = record {
      event = event;
      next = t;
      steps = step;
      room = room;
      gain = gain;
      adds = adds;
      counted = count;
      shallow = shallow;
      image = image_with x words (record c { clock = k; frame = fr; memory = m }) t P (I x).at (I x).addresses (I x).addressed fit M channels;
      links = links;
    };
    mark = mark;
    printed = same.printed;
    same = clock;
  }

-- The image after a step of one goroutine that leaves memory, owners and regions: the three images, each by its law for steps elsewhere.
use Rattle.std.proofs.Common.{◌≡◌, inl, ℕ, ◌+◌, ◌≤◌, List, ◌++◌, Some, None, length, map, replicate, slice_get, slice_set, refl, ap, sym, subst, ◌∙◌, arith}
use Rattle.std.proofs.lemmas.List.{append-nil}
use Rattle.std.proofs.lemmas.Option.{slice_get_within}
use Rattle.rgo_core_channels.proofs.Elsewhere.{event_keeps}
use Rattle.rgo_core_channels.specs.Channels.{IsChan}
use Rattle.rgo_core_channels.specs.Records.{ChannelRec as SideRec, at_rest}
use Rattle.rgo_core_frames.specs.Fits.{RecordsFit}
use Rattle.rgo_core_frames.specs.Records.{FramesRec as FrameRec}
use Rattle.rgo_core_memory.proofs.Rows.{set_again}
use Rattle.rgo_core_memory.proofs.image.Stepped.{map_set}
use Rattle.rgo_core_memory.specs.Image.{StateImage, word_of_value}
use Rattle.rgo_core_memory.specs.Records.{Rec as MemoryRec}
use Rattle.rgo_sound.specs.Memory.Memory.{Memory as Heap}
use Rattle.rgo_sound.specs.RegionMachine.Machine.{Event, region_step}
use Rattle.rgo_sound.specs.RegionMachine.States.{Holder, NoOffer, RegionState}
use Rattle.rgo_sound.proofs.Places.{length_set}
use Rattle.rgo_sound.specs.Leaving.{ActsAlone}
use Rattle.rgo_core.specs.Core.{Situation, Setup, layout}
use Rattle.rgo_core_channels.specs.Positions.{cell_place, place_at}
use Rattle.rgo_core.specs.Image.{Image, ChannelsIn}
use Rattle.rgo_core.specs.Records.{Record, frame_of, memory_of, side_of}
use Rattle.rgo_core.proofs.image.Standing.{memory_at, side_at}
use Rattle.rgo_core.specs.ties.Moments.{moment}
use Rattle.rgo_core.proofs.channel_steps.Leaving.{touch_same}

-- channels and what records know of them, if `children` goroutines have started
module _ {T : Setup} {g : ℕ} {c : Record} (x : Situation T g c) (event : Event) (t : RegionState)
    (step : region_step T.code T.sizes.page_words x.s event ≡ Some t) (alone : ActsAlone event g) (rest : c.side ≡ at_rest)
    (memory : t.plain.memory ≡ x.s.plain.memory) (owners : t.owners ≡ x.s.owners) (regions : t.regions ≡ x.s.regions) where
  abbrev Shown : List SideRec → Type 0
  Shown recs = ChannelsIn T.code (layout T) x.core.image.places x.words recs t x.core.image.at

  pub channels_keep : (children : ℕ) → length t.holders ≡ length x.s.holders + children
      → ((j : ℕ) (h : Holder) → length x.s.holders ≤ j → slice_get t.holders j ≡ Some h → h.offer ≡ NoOffer)
      → Shown (map side_of x.recs ++ replicate children at_rest)
  channels_keep children born calm =
      event_keeps (moment x) g event x.words t (word_of_value (layout T) x.core.image.places) (place_at (layout T) x.core.image.places) (cell_place (layout T) x.core.image.places) x.core.image.at None children
      (side_at x ∙ ap Some rest) alone step (record {
        long = refl;
        heap = λ o k on. subst (λ (m : Heap). IsChan m o k) (sym memory) on.0;
        was = λ o k on. inl (subst (λ (m : Heap). IsChan m o k) memory on.0, sym (touch_same x.s t owners regions o) ∙ on.1);
        same = λ o i k on h. refl;
        places = λ o k on. refl;
        spots = λ o i k on h. refl;
        ats = λ o k on. (refl, refl, refl);
        codes = λ o i v k on e. refl;
        sent = λ o j v n. refl;
        born = born;
        born_calm = calm;
        fresh = λ o k n. absurd n;
        fresh_words = λ o k n. absurd n;
        fresh_cells = λ o i k n. absurd n;
        fresh_differ = λ o i j k n. absurd n;
        fresh_apart = λ o p i j k l n on. absurd n;
        one_fresh = λ o p k l n m. absurd n;
      })

  -- no goroutine has started
  module _ (d : Record) (same_memory : d.memory ≡ c.memory) (same_side : d.side ≡ c.side)
      (fit : RecordsFit T.code x.core.image.places.slot x.core.image.addresses t (slice_set (map frame_of x.recs) g d.frame))
      (shown : StateImage (layout T) x.words (map memory_of x.recs) t x.core.image.places) where
    as_many : length t.holders ≡ length x.s.holders + 0
    as_many =
        let a = fit.as_many in
        let b = x.core.image.frames.as_many in
        let l = length_set (map frame_of x.recs) g d.frame in
        omega arith

    past : (j : ℕ) (h : Holder) → length x.s.holders ≤ j → slice_get t.holders j ≡ Some h → ⊥
    past j h le e = let w = slice_get_within t.holders j h e in let m = as_many in omega arith

    pub image_stays : Image T.code (layout T) x.words (slice_set x.recs g d) t
    image_stays = record {
      places = x.core.image.places;
      at = x.core.image.at;
      addresses = x.core.image.addresses;
      addressed = x.core.image.addressed;
      frames = subst (λ (l : List FrameRec). RecordsFit T.code x.core.image.places.slot x.core.image.addresses t l) (sym (map_set frame_of x.recs g d)) fit;
      memory = subst (λ (l : List MemoryRec). StateImage (layout T) x.words l t x.core.image.places)
          (sym (map_set memory_of x.recs g d ∙ (ap (slice_set (map memory_of x.recs) g) same_memory ∙ set_again (map memory_of x.recs) g c.memory (memory_at x)))) shown;
      channels = subst Shown
          (append-nil (map side_of x.recs)
          ∙ sym (map_set side_of x.recs g d ∙ (ap (slice_set (map side_of x.recs) g) same_side ∙ set_again (map side_of x.recs) g c.side (side_at x))))
          (channels_keep 0 as_many (λ j h le e. absurd (past j h le e)));
    }

-- Instructions of one goroutine, by an access or without one, that make no object and leave the channels. Frames and memory come as
-- premises. Channels stay, since no word of one was written and no region was removed.
use Rattle.std.proofs.Common.{◌≡◌, inl, ℕ, ◌+◌, ◌<◌, List, [], Some, None, length, map, slice_get, slice_set, slice_index, refl, ap, sym, subst, ◌∙◌, arith}
use Rattle.std.proofs.lemmas.List.{append-nil}
use Rattle.rgo_sound.specs.Machine.declared.picks.Pick.TheVariants.{One}
use Rattle.rgo_sound.specs.Memory.Memory.{Memory as Heap}
use Rattle.rgo_sound.specs.RegionMachine.Instructions.{printed_if}
use Rattle.rgo_sound.specs.RegionMachine.Machine.{Instruct}
use Rattle.rgo_sound.specs.RegionMachine.States.{Holder, RegionState}
use Rattle.rgo_sound.proofs.Places.{length_set}
use Rattle.rgo_sound.specs.Tally.{no_share}
use Rattle.rgo_core_channels.specs.Channels.{Chan, IsChan, On, word_of_channel}
use Rattle.rgo_core_channels.specs.Controls.{extent}
use Rattle.rgo_core_channels.specs.Elsewhere.{IsMade, LeavesChannels}
use Rattle.rgo_core_channels.specs.Records.{at_rest}
use Rattle.rgo_core_channels.proofs.Elsewhere.{event_keeps}
use Rattle.rgo_core_channels.proofs.Forward.{printed_same}
use Rattle.rgo_core_frames.specs.Records.{FramesRec as FrameRec}
use Rattle.rgo_core_frames.specs.States.{IsSound}
use Rattle.rgo_core_frames.specs.steps.Bookkept.{HasInstruction}
use Rattle.rgo_core_frames.proofs.Sound.{sound_stays}
use Rattle.rgo_core_memory.specs.Image.{StateImage, word_of_value}
use Rattle.rgo_core_memory.proofs.Rows.{below, set_again}
use Rattle.rgo_core.specs.Core.{Situation, Setup, layout}
use Rattle.rgo_core_channels.specs.Positions.{cell_place, place_at}
use Rattle.rgo_core.specs.Image.{ChannelsIn}
use Rattle.rgo_core.specs.Records.{Record, frame_of, instructed, memory_of, side_of, steps_of}
use Rattle.rgo_core.specs.Steps.{MakesQuietStep}
use Rattle.rgo_core.proofs.channel_steps.Leaving.{touch_same}
use Rattle.rgo_core.proofs.image.Parts.{I, adds_of, as_many, image_with, memory_stays, shallow}
use Rattle.rgo_core.proofs.accesses.Links.{ClaimsStay, CountsOne, FixedStay, all_kept, links_with, one_later}
use Rattle.rgo_core.proofs.image.Standing.{side_at}
use Rattle.rgo_core.proofs.pages.Unreserved.{adds_nothing}
use Rattle.rgo_core.specs.ties.Moments.{moment}
use Rattle.rgo_core.proofs.goroutines.Counting.{instructed_counts, plus_zero}

module _ {T : Setup} {g : ℕ} {c : Record} (x : Situation T g c) (rests : c.side ≡ at_rest) (mem : Heap) (h : Holder) (e : FrameRec)
    (H : HasInstruction T.code T.sizes.page_words (I x).places.slot (I x).addresses x.s g mem [] (h, [])
    (slice_set (map frame_of x.recs) g e)) (words : List ℕ) where
  abbrev pub t : RegionState
  t = H.state

  pub sound_after : IsSound T.code t
  sound_after = sound_stays.step T.code T.sizes.page_words x.s t (Instruct (One g)) x.core.sound H.steps

  owners_same : t.owners ≡ x.s.owners
  owners_same = H.owners ∙ append-nil x.s.owners

  holders_many : length t.holders ≡ length x.s.holders
  holders_many = sym H.fit.as_many ∙ (length_set (map frame_of x.recs) g e ∙ (I x).frames.as_many)

  -- the channels stay, with their words
  pub channels_after : ((o : ℕ) (k : Chan) → IsChan x.s.plain.memory o k → IsChan mem o k)
      → ((o : ℕ) (k : Chan) → IsChan mem o k → IsChan x.s.plain.memory o k) → length words ≡ length x.words
      → ((o i : ℕ) (k : Chan) → On x.s o k → i < 2 + extent k.capacity
      → slice_index words (word_of_channel (place_at (layout T) (I x).places) (cell_place (layout T) (I x).places) o i)
      ≡ slice_index x.words (word_of_channel (place_at (layout T) (I x).places) (cell_place (layout T) (I x).places) o i))
      → ChannelsIn T.code (layout T) (I x).places words
      (slice_set (map side_of x.recs) g c.side) t (I x).at
  channels_after stay was long same =
      subst (λ l. ChannelsIn T.code (layout T) (I x).places words l t (I x).at)
      (append-nil (map side_of x.recs) ∙ sym (set_again (map side_of x.recs) g c.side (side_at x)))
      (event_keeps (moment x) g (Instruct (One g)) words t (word_of_value (layout T) (I x).places) (place_at (layout T) (I x).places) (cell_place (layout T) (I x).places) (I x).at None 0
      (side_at x ∙ ap Some rests) refl H.steps leaves)
    where
      leaves : LeavesChannels (moment x) words t (word_of_value (layout T) (I x).places) (place_at (layout T) (I x).places) (cell_place (layout T) (I x).places) (I x).at (IsMade None) 0
      leaves = record {
        long = long;
        heap = λ o k on. ap (λ (y : Heap). slice_get y.heap o) H.memory_is ∙ stay o k on.0;
        was = λ o k on. inl (
          was o k (ap (λ (y : Heap). slice_get y.heap o) (sym H.memory_is) ∙ on.0),
          sym (touch_same x.s t owners_same H.regions o) ∙ on.1,
        );
        same = same;
        places = λ o k on. refl;
        spots = λ o i k on h. refl;
        ats = λ o k on. (refl, refl, refl);
        codes = λ o i v k on q. refl;
        sent = λ o j v n. refl;
        born = plus_zero (length t.holders) (length x.s.holders) holders_many;
        born_calm = λ j k l q. absurd (let y = below t.holders j k q in let w = holders_many in omega (arith, l, y, w));
        fresh = λ o k n. absurd n;
        fresh_words = λ o k n. absurd n;
        fresh_cells = λ o i k n. absurd n;
        fresh_differ = λ o i j k n. absurd n;
        fresh_apart = λ o p i j k l n on. absurd n;
        one_fresh = λ o p k l n m. absurd n;
      }

  -- what is left after that many accesses
  pub performs : (n : ℕ) → length mem.heap ≡ length x.s.plain.memory.heap → length e.frames ≡ length c.frame.frames
      → StateImage (layout T) words (map memory_of x.recs) t (I x).places
      → ChannelsIn T.code (layout T) (I x).places words
      (slice_set (map side_of x.recs) g c.side) t (I x).at
      → ClaimsStay x words → FixedStay x words
      → MakesQuietStep x words (record c { clock = record (instructed c.clock) { accesses = n }; frame = e })
  performs n objects deep M K claims fixed = record {
    goes = record {
      event = Instruct (One g);
      next = t;
      steps = H.steps;
      room = refl;
      gain = record no_share { steps = 1; objects = 0 };
      adds = adds_of x.s t 1 0 H.regions H.global_pages H.counted
          (ap (λ (y : Heap). length y.heap) H.memory_is ∙ plus_zero (length mem.heap) (length x.s.plain.memory.heap) objects)
          (as_many x t (I x).places.slot (I x).addresses e sound_after H.fit);
      counted = instructed_counts c.clock;
      shallow = let l = shallow x in omega (arith, deep, l);
      image = image_with x words (record c { clock = record (instructed c.clock) { accesses = n }; frame = e }) t (I x).places (I x).at (I x).addresses (I x).addressed H.fit
          (memory_stays x words t (I x).places M) K;
      links = links_with x words fixed claims (record c { clock = record (instructed c.clock) { accesses = n }; frame = e })
          (all_kept refl refl refl refl) (CountsOne (one_later (steps_of c))
          (adds_nothing x t H.steps (ap (λ (y : Heap). length y.heap) H.memory_is ∙ objects)));
    };
    mark = H.mark;
    printed = H.printed ∙ (ap (printed_if x.s.mark x.s.plain.printed) (append-nil x.s.plain.printed) ∙ printed_same x.s.mark x.s.plain.printed);
    same = record { prints = refl; first = refl; children = refl; refused = refl };
  }

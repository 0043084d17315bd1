-- The stores of a new object's words. Before the last one nothing of the state changes, and the word is one that no object, channel or link
-- reads.
use Rattle.std.proofs.Common.{◌≡◌, ◌≢◌, inl, inr, ⊎_elim, ℕ, suc, ◌+◌, ◌*◌, ◌<◌, ◌≤◌, List, [], ◌∷◌, Option, Some, length, map, slice_set, refl, ap, sym, subst, ◌∙◌, arith}
use Rattle.std.proofs.lemmas.List.{append-nil, length-append}
use Rattle.rgo_sound.specs.Code.Code.{Do}
use Rattle.rgo_sound.specs.Machine.Limits.{deepest}
use Rattle.rgo_sound.specs.Machine.declared.picks.Pick.TheVariants.{One}
use Rattle.rgo_sound.specs.Memory.Memory.{Memory as Heap, Object}
use Rattle.rgo_sound.specs.RegionMachine.Instructions.{printed_if}
use Rattle.rgo_sound.specs.RegionMachine.Machine.{Instruct}
use Rattle.rgo_sound.specs.RegionMachine.Objects.{making_region, object_words as words_of}
use Rattle.rgo_sound.specs.RegionMachine.Owed.{code_function}
use Rattle.rgo_sound.specs.RegionMachine.States.{top_names}
use Rattle.rgo_sound.specs.RegionMachine.declared.regions.Region.{Region}
use Rattle.rgo_sound.specs.Tally.{counts_plus, no_share}
use Rattle.rgo_sound.specs.Typed.declared.actions.Action.{Action}
use Rattle.rgo_core_channels.specs.Channels.{Chan, On, channel, word_of_channel}
use Rattle.rgo_core_channels.specs.Controls.{extent}
use Rattle.rgo_core_channels.specs.Records.{at_rest}
use Rattle.rgo_core_channels.proofs.Forward.{printed_same}
use Rattle.rgo_core_channels.proofs.Quiet.{word_keeps as channels_keep}
use Rattle.rgo_core_frames.specs.States.{IsSound}
use Rattle.rgo_core_frames.proofs.Sound.{sound_stays}
use Rattle.rgo_core_memory.specs.Encoding.{content, opening_word}
use Rattle.rgo_core_memory.specs.Ground.{ground_of}
use Rattle.rgo_core_memory.specs.Image.{word_of_value}
use Rattle.rgo_core_memory.specs.Parts.{Covers, RecordMakes}
use Rattle.rgo_core_memory.specs.Records.{Fill, Owns, Within, with_word}
use Rattle.rgo_core_memory.specs.Words.{cell_at}
use Rattle.rgo_core_memory.proofs.objects.Addresses.{free_apart}
use Rattle.rgo_core_memory.proofs.objects.Allocating.{word_keeps}
use Rattle.rgo_core.specs.ties.Bounds.{LieInPages, Points, target_type}
use Rattle.rgo_core.specs.Core.{Situation, Setup, layout}
use Rattle.rgo_core_channels.specs.Positions.{cell_place, place_at}
use Rattle.rgo_core.specs.moves.NewObjects.{MakesObject, ObjectMove, WordMove, made_object, slot_number}
use Rattle.rgo_core.specs.Next.{IsAtOp}
use Rattle.rgo_core.specs.Records.{Record, accessed, counted, memory_of, side_of, steps_of}
use Rattle.rgo_core.specs.Steps.{Steps}
use Rattle.rgo_core.proofs.channel_steps.Leaving.{channel_stands, channel_word}
use Rattle.rgo_core.proofs.steps.Lift.{access_law, moves_by}
use Rattle.rgo_core.proofs.new_objects.NewObjects as new
use Rattle.rgo_core.proofs.new_objects.NextObject.{next_is}
use Rattle.rgo_core.proofs.pages.Unreserved.{not_spread}
use Rattle.rgo_core_memory.proofs.objects.Spreads.{in_table, whole_of}
use Rattle.rgo_core.proofs.image.Parts.{I, adds_of, as_many, frame_stays, image_with, shallow, side_stays}
use Rattle.rgo_core.proofs.accesses.Links.{CountsOne, FixedStay, Waits, all_kept, claims_high, fixed_apart, links_with, one_later}
use Rattle.rgo_core.proofs.image.Standing.{memory_at}
use Rattle.rgo_core.proofs.goroutines.Counting.{plus_zero}

-- ---- a word before the last

module _ {T : Setup} {g : ℕ} {c : Record} (x : Situation T g c) (f : Fill) (object : Object) (stored : List ℕ) (i : ℕ)
    (makes : RecordMakes (layout T) c.memory f object stored) (small : i < words_of object) where
  within : Within f c.memory.fills
  within = ⊎_elim (λ m. ((I x).memory.own.amids g c.memory f object stored (memory_at x) m).0) (λ m. m.2) makes

  fits : f.fill + words_of object ≤ (layout T).page_words
  fits = ⊎_elim (λ m. ((I x).memory.own.amids g c.memory f object stored (memory_at x) m).1.fits) (λ m. m.3) makes

  owner : Owns (map memory_of x.recs) g f
  owner = (c.memory, memory_at x, within)

  -- no channel has the word
  apart : (o j : ℕ) (k : Chan) → On x.s o k → j < 2 + extent k.capacity
      → word_of_channel (place_at (layout T) (I x).places) (cell_place (layout T) (I x).places) o j ≢ cell_at (layout T) f.page (f.fill + i)
  apart o j k on lj e =
      let u = channel_stands x.s o k on in
      let room = fits in
      free_apart (layout T) x.words (map memory_of x.recs) (ground_of x.s) (I x).places (I x).memory g o j i f (channel k) u.0 owner u.1
      (in_table T.sizes.page_words (channel k) j lj) (omega (arith, room, small))
      (sym e ∙ channel_word (layout T) x.words (map memory_of x.recs) x.s (I x).places (I x).memory o j k on lj)

  -- nor has a live object
  pub fixed_stay : (v : ℕ) → FixedStay x (slice_set x.words (cell_at (layout T) f.page (f.fill + i)) v)
  fixed_stay v = fixed_apart x (cell_at (layout T) f.page (f.fill + i)) v (λ o n at r stands low fixed e.
      let room = fits in
      free_apart (layout T) x.words (map memory_of x.recs) (ground_of x.s) (I x).places (I x).memory g o n i f at r owner stands
      low (omega (arith, room, small)) (sym e))

  pub word_steps : Steps x (slice_set x.words (cell_at (layout T) f.page (f.fill + i)) (opening_word (content object i)))
      (record c { clock = accessed c.clock; memory = with_word c.memory f object (i ∷ stored) })
  word_steps =
      let words = slice_set x.words (cell_at (layout T) f.page (f.fill + i)) (opening_word (content object i)) in
      inr (record {
        counted = refl;
        same = record { prints = refl; first = refl; children = refl; refused = refl };
        image = image_with x words (record c { clock = accessed c.clock; memory = with_word c.memory f object (i ∷ stored) }) x.s (I x).places (I x).at
            (I x).addresses (I x).addressed (frame_stays x x.s (I x).places.slot (I x).addresses (I x).frames)
            (word_keeps (layout T) x.words (map memory_of x.recs) x.s g i c.memory f object stored (I x).places (I x).memory (memory_at x) makes small)
            (side_stays x words x.s (I x).places (I x).at
            (channels_keep T.code T.sizes.page_words (word_of_value (layout T) (I x).places) (place_at (layout T) (I x).places) (cell_place (layout T) (I x).places) x.words (map side_of x.recs) x.s (I x).at
            (cell_at (layout T) f.page (f.fill + i)) (opening_word (content object i)) apart (I x).channels));
        links = links_with x words (fixed_stay (opening_word (content object i)))
            (claims_high x (cell_at (layout T) f.page (f.fill + i)) (opening_word (content object i)) (omega arith))
            (record c { clock = accessed c.clock; memory = with_word c.memory f object (i ∷ stored) }) (all_kept refl refl refl refl) (Waits refl refl refl);
      })

pub word_move : WordMove
word_move T g c f object stored i makes small =
    access_law T g c (cell_at (layout T) f.page (f.fill + i)) (λ n. opening_word (content object i))
    (λ n. record c { clock = accessed c.clock; memory = with_word c.memory f object (i ∷ stored) }) (omega arith) (λ n. refl)
    (λ x fits. word_steps x f object stored i makes small)

-- ---- the last word

module _ {T : Setup} {g : ℕ} {c : Record} (x : Situation T g c) (to : Option ℕ) (act : Action) (from removes : List ℕ)
    (a : IsAtOp T.code c (Do to act from removes)) (object : Object) (by_slot : Region) (f : Fill) (stored : List ℕ) (i : ℕ)
    (rests : c.side ≡ at_rest) (mk : MakesObject T.code a.w to act from object)
    (making : making_region (code_function T.code a.w.function) (top_names c.frame.holder.environments) a.instr.op ≡ Some by_slot)
    (slotted : f.slot ≡ slot_number (layout T) by_slot) (makes : RecordMakes (layout T) c.memory f object stored)
    (small : i < words_of object) (covers : Covers object (i ∷ stored)) where
  counts : counted (made_object T c a to f object).clock ≡ counts_plus (counted c.clock) (record no_share { steps = 1; objects = 1 })
  counts = λ j. record {
    made = plus_zero c.clock.share.made c.clock.share.made refl j;
    removed = plus_zero c.clock.share.removed c.clock.share.removed refl j;
    taken = plus_zero c.clock.share.taken c.clock.share.taken refl j;
    returned = plus_zero (c.clock.share.returned + c.clock.owed) (c.clock.share.returned + c.clock.owed) refl j;
    steps = (let e : suc c.clock.share.steps ≡ c.clock.share.steps + 1 = omega arith in e) j;
    objects = (let e : suc c.clock.share.objects ≡ c.clock.share.objects + 1 = omega arith in e) j;
    goroutines = plus_zero c.clock.share.goroutines c.clock.share.goroutines refl j;
  }

  pub object_steps : Steps x (slice_set x.words (cell_at (layout T) f.page (f.fill + i)) (opening_word (content object i))) (made_object T c a to f object)
  object_steps =
      let words = new.next_words x to act from removes a object by_slot f stored i rests mk making slotted makes small covers in
      let H = new.H x to act from removes a object by_slot f stored i rests mk making slotted makes small covers in
      let places = new.places' x to act from removes a object by_slot f stored i rests mk making slotted makes small covers in
      let addresses = new.addresses' x to act from removes a object by_slot f stored i rests mk making slotted makes small covers in
      let sound : IsSound T.code H.state = sound_stays.step T.code T.sizes.page_words x.s H.state (Instruct (One g)) x.core.sound H.steps in
      inl (record {
        goes = record {
          event = Instruct (One g);
          next = H.state;
          steps = H.steps;
          room = refl;
          gain = record no_share { steps = 1; objects = 1 };
          adds = adds_of x.s H.state 1 1 H.regions H.global_pages H.counted
              (ap (λ (y : Heap). length y.heap) H.memory_is ∙ length-append x.s.plain.memory.heap (object ∷ []))
              (as_many x H.state (I x).places.slot addresses (made_object T c a to f object).frame sound H.fit);
          counted = counts;
          shallow = subst (λ n. n ≤ deepest) (ap length a.frames) (shallow x);
          image = image_with x words (made_object T c a to f object) H.state places
              (new.at' x to act from removes a object by_slot f stored i rests mk making slotted makes small covers) addresses
              (new.addressed x to act from removes a object by_slot f stored i rests mk making slotted makes small covers) H.fit
              (new.memory_after x to act from removes a object by_slot f stored i rests mk making slotted makes small covers)
              (new.channels_after x to act from removes a object by_slot f stored i rests mk making slotted makes small covers);
          links = links_with x (slice_set x.words (cell_at (layout T) f.page (f.fill + i)) (opening_word (content object i)))
              (fixed_stay x f object stored i makes small (opening_word (content object i)))
              (claims_high x (cell_at (layout T) f.page (f.fill + i)) (opening_word (content object i)) (omega arith))
              (made_object T c a to f object) (all_kept refl refl refl refl)
              (CountsOne (one_later (steps_of c))
              (not_spread x object (next_is x to act from removes a object 1073741820 (omega arith) mk)
              (whole_of T.sizes.page_words object
              (let l = fits x f object stored i makes small in omega (arith, l)))));
        };
        mark = H.mark;
        printed = H.printed ∙ (ap (printed_if x.s.mark x.s.plain.printed) (append-nil x.s.plain.printed) ∙ printed_same x.s.mark x.s.plain.printed);
        same = record { prints = refl; first = refl; children = refl; refused = refl };
      })

pub object_move : ObjectMove
object_move T g c to act from removes a object by_slot f stored i rests mk making slotted makes small covers =
    moves_by T g c (cell_at (layout T) f.page (f.fill + i)) (λ n. opening_word (content object i)) (λ n. made_object T c a to f object)
    (λ n d. (d ≡ made_object T c a to f object) × LieInPages T (f.page * T.sizes.page_words + f.fill) (words_of object)
    × Points T (target_type T a.w to) (suc (f.page * T.sizes.page_words + f.fill)))
    (λ n. refl) (λ x. omega arith)
    (λ x fits. object_steps x to act from removes a object by_slot f stored i rests mk making slotted makes small covers)
    (λ x. (
      refl,
      new.made_lies x to act from removes a object by_slot f stored i rests mk making slotted makes small covers,
      new.made_points x to act from removes a object by_slot f stored i rests mk making slotted makes small covers,
    ))

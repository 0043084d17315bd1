-- The words of a spread object are stored in its reserved pages, which hold no other object, so nobody reads these words.
use Rattle.std.proofs.Common.{◌≡◌, ◌≢◌, false, true, inr, ⊎_elim, ℕ, ◌+◌, ◌<◌, List, ◌∷◌, length, map, slice_set, refl, sym, ◌∙◌, arith}
use Rattle.rgo_sound.specs.Memory.Memory.{Object}
use Rattle.rgo_sound.specs.RegionMachine.declared.regions.Region.{Region}
use Rattle.rgo_core_channels.specs.Channels.{Chan, On, channel, word_of_channel}
use Rattle.rgo_core_channels.specs.Controls.{extent}
use Rattle.rgo_core_channels.proofs.Quiet.{word_keeps as channels_keep}
use Rattle.rgo_core_memory.specs.Ground.{IsLiveObject}
use Rattle.rgo_core_memory.specs.Image.{word_of_value, word_at}
use Rattle.rgo_core_memory.specs.Parts.{MakesApart}
use Rattle.rgo_core_memory.specs.Records.{Within, with_word_apart}
use Rattle.rgo_core.specs.Core.{Situation, Setup, layout}
use Rattle.rgo_core_channels.specs.Positions.{cell_place, place_at}
use Rattle.rgo_core.specs.moves.NewObjects.{WordMoveApart, word_apart}
use Rattle.rgo_core.specs.Records.{Record, accessed, counted, memory_of, side_of}
use Rattle.rgo_core.specs.Steps.{Steps}
use Rattle.rgo_core.proofs.channel_steps.Leaving.{channel_stands, channel_word, reserved_apart}
use Rattle.rgo_core.proofs.steps.Lift.{access_law}
use Rattle.rgo_core.proofs.image.Parts.{I, frame_stays, image_with, side_stays}
use Rattle.rgo_core.proofs.accesses.Links.{FixedStay, Waits, all_kept, claims_high, fixed_apart, links_with}
use Rattle.rgo_core.proofs.image.Standing.{memory_at}
use Rattle.rgo_sound.specs.RegionMachine.Objects.{is_spread, is_too_large}
use Rattle.rgo_sound.specs.RegionMachine.Room.{pages_of}
use Rattle.rgo_core_memory.proofs.objects.Allocating.{word_keeps_apart}
use Rattle.rgo_core_memory.proofs.objects.Spreads.{in_table, spread_offset, spread_within}
use Rattle.rgo_core_memory.specs.Spread.{spread_opening, spread_spot, table_words}

module _ {T : Setup} {g : ℕ} {c : Record} (x : Situation T g c) (object : Object) (stored : List ℕ) (i : ℕ)
    (makes : MakesApart (layout T) c.memory object stored) (small : i < table_words T.sizes.page_words object) where
  pub spread : is_spread T.sizes.page_words object ≡ true
  spread = ⊎_elim (λ m. ((I x).memory.own.apart.strewn g c.memory object stored (memory_at x) m).spread) (λ m. m.2) makes

  pub not_large : is_too_large T.sizes.page_words object ≡ false
  not_large = ⊎_elim (λ m. ((I x).memory.own.apart.strewn g c.memory object stored (memory_at x) m).small) (λ m. m.3) makes

  pub many : length c.memory.reserved.pages ≡ pages_of T.sizes.page_words object
  many = ⊎_elim (λ m. ((I x).memory.own.apart.strewn g c.memory object stored (memory_at x) m).many) (λ m. m.4) makes

  abbrev page : ℕ
  page = (spread_spot T.sizes.page_words object c.memory.reserved.pages i).page

  abbrev offset : ℕ
  offset = (spread_spot T.sizes.page_words object c.memory.reserved.pages i).offset

  within : Within page c.memory.reserved.pages
  within = spread_within T.sizes.page_words object c.memory.reserved.pages i spread many small

  low : offset < T.sizes.page_words
  low = spread_offset T.sizes.page_words object c.memory.reserved.pages i spread not_large small

  -- no live object has the word
  pub no_word : (o j : ℕ) (other : Object) (r : Region) → IsLiveObject x.s.plain.memory.heap x.s.owners x.s.regions o other r
      → j < table_words T.sizes.page_words other
      → word_at (layout T) (I x).places o j ≢ word_apart T c object i
  no_word o j other r stands l =
      reserved_apart (layout T) x.words (map memory_of x.recs) x.s (I x).places (I x).memory g page offset c.memory (memory_at x) within low o j
      other r stands l

  -- nor has a channel
  pub channel_apart : (o j : ℕ) (k : Chan) → On x.s o k → j < 2 + extent k.capacity
      → word_of_channel (place_at (layout T) (I x).places) (cell_place (layout T) (I x).places) o j ≢ word_apart T c object i
  channel_apart o j k on l e =
      let u = channel_stands x.s o k on in
      no_word o j (channel k) u.0 u.1 (in_table T.sizes.page_words (channel k) j l)
      (sym (channel_word (layout T) x.words (map memory_of x.recs) x.s (I x).places (I x).memory o j k on l) ∙ e)

  pub fixed_stay : (v : ℕ) → FixedStay x (slice_set x.words (word_apart T c object i) v)
  fixed_stay v = fixed_apart x (word_apart T c object i) v (λ o n at r stands low fixed e. no_word o n at r stands low e)

  pub word_steps : Steps x (slice_set x.words (word_apart T c object i) (spread_opening object c.memory.reserved.pages i))
      (record c { clock = accessed c.clock; memory = with_word_apart c.memory object (i ∷ stored) })
  word_steps =
      let v = spread_opening object c.memory.reserved.pages i in
      let words = slice_set x.words (word_apart T c object i) v in
      let d : Record = record c { clock = accessed c.clock; memory = with_word_apart c.memory object (i ∷ stored) } in
      inr (record {
        counted = refl;
        same = record { prints = refl; first = refl; children = refl; refused = refl };
        image = image_with x words d x.s (I x).places (I x).at
            (I x).addresses (I x).addressed (frame_stays x x.s (I x).places.slot (I x).addresses (I x).frames)
            (word_keeps_apart (layout T) x.words (map memory_of x.recs) x.s g i c.memory object stored (I x).places (I x).memory (memory_at x) makes small)
            (side_stays x words x.s (I x).places (I x).at
            (channels_keep T.code T.sizes.page_words (word_of_value (layout T) (I x).places) (place_at (layout T) (I x).places) (cell_place (layout T) (I x).places) x.words (map side_of x.recs) x.s (I x).at
            (word_apart T c object i) v channel_apart (I x).channels));
        links = links_with x words (fixed_stay v) (claims_high x (word_apart T c object i) v (omega arith)) d (all_kept refl refl refl refl) (Waits refl refl refl);
      })

pub word_move_apart : WordMoveApart
word_move_apart T g c object stored i makes small =
    access_law T g c (word_apart T c object i) (λ n. spread_opening object c.memory.reserved.pages i)
    (λ n. record c { clock = accessed c.clock; memory = with_word_apart c.memory object (i ∷ stored) }) (omega arith) (λ n. refl)
    (λ x fits. word_steps x object stored i makes small)

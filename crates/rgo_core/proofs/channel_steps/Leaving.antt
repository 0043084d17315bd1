-- Words that a channel has, and accesses that leave them: before the cells, in another object, above a fill, or in a reserved page.
use Rattle.std.proofs.Common.{◌≡◌, ◌≢◌, ℕ, ◌+◌, ◌<◌, true, List, ◌++◌, Option, Some, None, length, slice_get, slice_set, slice_index, refl, ap, sym, ◌∙◌, arith}
use Rattle.std.proofs.lemmas.List.{get_or-set_other}
use Rattle.rgo_sound.specs.Memory.Memory.{Object}
use Rattle.rgo_sound.specs.RegionMachine.Objects.{may_touch, owner_live, object_words as words_of}
use Rattle.rgo_sound.specs.RegionMachine.Regions.{is_live}
use Rattle.rgo_sound.specs.RegionMachine.States.{RegionState}
use Rattle.rgo_sound.specs.RegionMachine.declared.regions.Region.{Region}
use Rattle.rgo_sound.proofs.Places.{get_append_left}
use Rattle.rgo_core_memory.specs.Ground.{IsLiveObject, ground_of}
use Rattle.rgo_core_memory.specs.Image.{Where, StateImage, word_at}
use Rattle.rgo_core_memory.specs.Records.{Fill, HasRecord, Owns, Rec as MemoryRec, Within}
use Rattle.rgo_core_memory.specs.Spread.{table_words}
use Rattle.rgo_core_memory.specs.Words.{base, cell_at}
use Rattle.rgo_core_memory.specs.declared.layout.TableSizes.{TableSizes}
use Rattle.rgo_core_memory.proofs.image.Facts.{differ}
use Rattle.rgo_core_memory.proofs.objects.Spreads.{in_table}
use Rattle.rgo_core_memory.proofs.Writes.{far}
use Rattle.rgo_core.proofs.image.Standing.{word_high}
use Rattle.rgo_core_channels.specs.Channels.{Chan, On, channel, word_of_channel}
use Rattle.rgo_core_channels.specs.Controls.{extent}
use Rattle.rgo_core_channels.specs.Positions.{Layout, cell_place, place_at}
use Rattle.rgo_core_channels.proofs.Positions.{layout_is}

-- an object that may be touched is in a live region
pub owner_of : (s : RegionState) (o : ℕ) → may_touch s (Some o) ≡ true
    → (r : Region) × (slice_get s.owners o ≡ Some r) × (is_live s.regions r ≡ true)
owner_of s o e = go (slice_get s.owners o) refl e
  where
    go : (x : Option Region) → slice_get s.owners o ≡ x → owner_live s x ≡ true
        → (r : Region) × (slice_get s.owners o ≡ Some r) × (is_live s.regions r ≡ true)
    go None q e = cc
    go (Some r) q e = (r, q, e)

pub channel_stands : (s : RegionState) (o : ℕ) (k : Chan) → On s o k
    → (r : Region) × IsLiveObject s.plain.memory.heap s.owners s.regions o (channel k) r
channel_stands s o k on = let x = owner_of s o on.1 in (x.0, record { there = on.0; owner = x.1; live = x.2 })

-- if the same regions are live, an old object may be touched as before
pub touch_more : (s t : RegionState) (more : List Region) → t.owners ≡ s.owners ++ more → t.regions ≡ s.regions
    → (o : ℕ) → o < length s.owners → may_touch t (Some o) ≡ may_touch s (Some o)
touch_more s t more owners regions o low =
    ap (owner_live t) (ap (λ l. slice_get l o) owners ∙ get_append_left s.owners more o low) ∙ lives (slice_get s.owners o)
  where
    lives : (r : Option Region) → owner_live t r ≡ owner_live s r
    lives None = refl
    lives (Some r) = ap (λ q. is_live q r) regions

pub touch_same : (s t : RegionState) → t.owners ≡ s.owners → t.regions ≡ s.regions → (o : ℕ)
    → may_touch t (Some o) ≡ may_touch s (Some o)
touch_same s t owners regions o = ap (owner_live t) (ap (λ l. slice_get l o) owners) ∙ lives (slice_get s.owners o)
  where
    lives : (r : Option Region) → owner_live t r ≡ owner_live s r
    lives None = refl
    lives (Some r) = ap (λ q. is_live q r) regions

module _ (z : TableSizes) (words : List ℕ) (recs : List MemoryRec) (s : RegionState) (places : Where)
    (M : StateImage z words recs s places) where
  abbrev lie : Layout z words s places
  lie = layout_is z words recs s places M

  -- a word of a channel
  abbrev pub spot_of : ℕ → ℕ → ℕ
  spot_of = word_of_channel (place_at z places) (cell_place z places)

  pub channel_word : (o j : ℕ) (k : Chan) → On s o k → j < 2 + extent k.capacity → spot_of o j ≡ word_at z places o j
  channel_word o j k on h = lie.words_are o j k on h

  -- a word before the cells is stored
  pub before_cells : (i x : ℕ) → i < base z → (o j : ℕ) (k : Chan) → On s o k → j < 2 + extent k.capacity
      → slice_index (slice_set words i x) (spot_of o j) ≡ slice_index words (spot_of o j)
  before_cells i x low o j k on h =
      let b = word_high z places o j in
      get_or-set_other words i (spot_of o j) x 0 (λ q. omega (arith, b, low, q))

  -- a word of an object that is not a channel is stored
  pub apart_from : (p n x : ℕ) (object : Object) (r : Region) → IsLiveObject s.plain.memory.heap s.owners s.regions p object r
      → n < words_of object → ((o : ℕ) (k : Chan) → On s o k → o ≢ p) → (o j : ℕ) (k : Chan) → On s o k
      → j < 2 + extent k.capacity
      → slice_index (slice_set words (word_at z places p n) x) (spot_of o j) ≡ slice_index words (spot_of o j)
  apart_from p n x object r stands low other o j k on h =
      let c = channel_stands s o k on in
      let e = channel_word o j k on h in
      get_or-set_other words (word_at z places p n) (spot_of o j) x 0
      (λ q. (differ z words recs (ground_of s) places M).0 o p j n (channel k) object c.0 r c.1 stands (in_table z.page_words (channel k) j h)
      (in_table z.page_words object n low) (λ w. absurd (other o k on w)) (sym e ∙ q))

  -- a word above the fill of an own page is stored
  pub above_fill : (g i x : ℕ) (f : Fill) → Owns recs g f → f.fill + i < z.page_words → (o j : ℕ) (k : Chan) → On s o k
      → j < 2 + extent k.capacity
      → slice_index (slice_set words (cell_at z f.page (f.fill + i)) x) (spot_of o j) ≡ slice_index words (spot_of o j)
  above_fill g i x f owns low o j k on h =
      let c = channel_stands s o k on in
      let e = channel_word o j k on h in
      get_or-set_other words (cell_at z f.page (f.fill + i)) (spot_of o j) x 0
      (λ q. (differ z words recs (ground_of s) places M).1 g o j i f (channel k) c.0 owns c.1
      (in_table z.page_words (channel k) j h) low (sym q ∙ e))

  -- a word of a page that is reserved belongs to no object
  pub reserved_apart : (g page i : ℕ) (c : MemoryRec) → HasRecord recs g c → Within page c.reserved.pages → i < z.page_words
      → (o j : ℕ) (object : Object) (r : Region) → IsLiveObject s.plain.memory.heap s.owners s.regions o object r → j < table_words z.page_words object
      → word_at z places o j ≢ cell_at z page i
  reserved_apart g page i c has within low o j object r stands l e =
      let u = M.lies.inside o j object r stands l in
      far page (places.spot o j).page z.page_words i (places.spot o j).offset
      (λ same. M.own.apart.empty g o j page c object r has within stands l (sym same)) low u.1 (omega (arith, e))

  -- a word of a page that is reserved is stored
  pub in_reserved : (g page i x : ℕ) (c : MemoryRec) → HasRecord recs g c → Within page c.reserved.pages → i < z.page_words
      → (o j : ℕ) (k : Chan) → On s o k → j < 2 + extent k.capacity
      → slice_index (slice_set words (cell_at z page i) x) (spot_of o j) ≡ slice_index words (spot_of o j)
  in_reserved g page i x c has within low o j k on h =
      let t = channel_stands s o k on in
      let e = channel_word o j k on h in
      let l = in_table z.page_words (channel k) j h in
      let u = M.lies.inside o j (channel k) t.0 t.1 l in
      get_or-set_other words (cell_at z page i) (spot_of o j) x 0
      (λ q. far page (places.spot o j).page z.page_words i (places.spot o j).offset
      (λ same. M.own.apart.empty g o j page c (channel k) t.0 has within t.1 l (sym same)) low u.1 (omega (arith, q, e)))

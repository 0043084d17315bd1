-- The state after the last word of a spread object is stored, and the image of it. As for an object in one page (`NewObjects`), with
-- reserved pages in place of the own one. The step exists because the machine has reserved as many pages as the record.
use Rattle.std.proofs.Common.{◌≡◌, ◌⊎◌, zero, inl, inr, ⊎_elim, ℕ, suc, ◌+◌, ◌-◌, ◌&&◌, not, nat_lt, ◌*◌, ◌<◌, Bool, true, false, List, [], ◌∷◌, ◌++◌, Option, Some, None, length, map, set, if◌then◌else◌, slice_get, slice_set, slice_index, refl, ap, sym, subst, ◌∙◌, arith}
use Rattle.std.proofs.Math.ListN.{length-set}
use Rattle.std.proofs.lemmas.Bool.Decides.{nat_tests}
use Rattle.std.proofs.lemmas.List.{append-nil, length-append, get_or-set_other}
use Rattle.std.proofs.lemmas.Option.{same_Some}
use Rattle.rgo_sound.specs.Code.Code.{Do}
use Rattle.rgo_sound.specs.Machine.declared.picks.Pick.TheVariants.{One}
use Rattle.rgo_sound.specs.Memory.Memory.{Memory as Heap, Object}
use Rattle.rgo_sound.specs.Memory.declared.values.Value.{Value}
use Rattle.rgo_sound.specs.Memory.declared.values.Value.TheVariants as value
use Rattle.rgo_sound.specs.RegionMachine.Machine.{Instruct}
use Rattle.rgo_sound.specs.RegionMachine.Objects.{allotted, data_pages, fill_of, is_spread, is_too_large, owner_live, making_region, placed, spread_out, object_words as words_of}
use Rattle.rgo_sound.specs.RegionMachine.Owed.{function_at, code_function}
use Rattle.rgo_sound.specs.RegionMachine.Regions.{is_live}
use Rattle.rgo_sound.specs.RegionMachine.States.{Holder, RegionState, top_names}
use Rattle.rgo_sound.specs.RegionMachine.declared.regions.Region.{Region}
use Rattle.rgo_sound.proofs.Places.{get_append_last, get_append_left, get_some, length_set}
use Rattle.rgo_sound.specs.Typed.declared.actions.Action.{Action}
use Rattle.rgo_sound.specs.Typed.declared.actions.Action.TheVariants.{Send}
use Rattle.rgo_core_channels.specs.Channels.{Calm, Chan, Channels, On, Places, Unlocked, channel, word_of_channel}
use Rattle.rgo_core_channels.specs.Elsewhere.{IsMade, LeavesChannels}
use Rattle.rgo_core_channels.specs.Records.{ChannelRec as SideRec, at_rest}
use Rattle.rgo_core_channels.proofs.Elsewhere.{event_keeps}
use Rattle.rgo_core_frames.specs.steps.Actions.{after_action}
use Rattle.rgo_core_frames.specs.Fits.{IsOfLive, ObjectsDiffer}
use Rattle.rgo_core_frames.specs.steps.Makes.{MakesAt}
use Rattle.rgo_core_frames.specs.Records.{FramesRec as FrameRec}
use Rattle.rgo_core_frames.specs.regions.Slots.{slotted_region}
use Rattle.rgo_core_frames.specs.steps.Bookkept.{HasInstruction}
use Rattle.rgo_core_frames.specs.shown.Words.{Shows as WordShows}
use Rattle.rgo_core_frames.proofs.steps.ActionSteps.{action_law}
use Rattle.rgo_core_frames.proofs.regions.Making.{region_law}
use Rattle.rgo_core_memory.specs.Encoding.{Spot, address, content, opening_word}
use Rattle.rgo_core_memory.specs.Ground.{Held, IsLiveObject, MayUseRegion, ground_of, held_of, made_apart}
use Rattle.rgo_core_memory.specs.Image.{MemoryImage, StateImage, Where, word_of_value, word_at}
use Rattle.rgo_core_memory.specs.Parts.{CoversApart, MakesApart, slot_of}
use Rattle.rgo_core_memory.specs.Records.{Rec as MemoryRec, with_object_apart, with_word_apart}
use Rattle.rgo_core_memory.specs.Words.{cell_at, put_at}
use Rattle.rgo_core_memory.specs.declared.layout.TableSizes.{TableSizes}
use Rattle.rgo_core_memory.proofs.objects.Addresses.{one_address}
use Rattle.rgo_core_memory.proofs.objects.Allocating.{allocation_keeps_apart, word_keeps_apart}
use Rattle.rgo_core_memory.proofs.regions.Attending.{makes_used}
use Rattle.rgo_core_memory.proofs.objects.MakingApart.{object_made_apart}
use Rattle.rgo_core_memory.proofs.Puts.{put_else, put_here}
use Rattle.rgo_core_memory.proofs.Rows.{below, set_again, set_here, snoc_at}
use Rattle.rgo_core_memory.proofs.regions.Slots.{uses_live}
use Rattle.rgo_core_memory.proofs.image.Steadies.{steady_of}
use Rattle.rgo_core_memory.proofs.image.Stepped.{map_get}
use Rattle.rgo_core.specs.ties.Bounds.{LieInPages, Points, row_words, target_type}
use Rattle.rgo_core.specs.Core.{Situation, Setup, layout}
use Rattle.rgo_core_channels.specs.Positions.{cell_place, place_at, Layout}
use Rattle.rgo_core.specs.moves.NewObjects.{MakesObject, reserved_address, slot_number, word_apart}
use Rattle.rgo_core.specs.Next.{IsAtOp}
use Rattle.rgo_core.specs.Records.{Record, frame_of, memory_of, side_of}
use Rattle.rgo_core.proofs.image.Bounds.{LeadsToLive, gives_points, lies_in}
use Rattle.rgo_core_memory.proofs.objects.Spreads.{in_table, spread_offset, spread_within}
use Rattle.rgo_core.proofs.image.Encodings.{held_made, old_code, operand_made, small_word}
use Rattle.rgo_core.proofs.channel_steps.Leaving.{touch_more}
use Rattle.rgo_core.proofs.new_objects.MakesObject.{Made, at, b, made as it_makes}
use Rattle.rgo_core.proofs.image.Parts.{I}
use Rattle.rgo_core.proofs.image.Standing.{memory_at, side_at}
use Rattle.rgo_core.specs.ties.Moments.{moment}
use Rattle.rgo_core.proofs.goroutines.Counting.{plus_zero}
use Rattle.rgo_sound.specs.RegionMachine.Room.{pages_of}
use Rattle.rgo_core_channels.proofs.Positions.{layout_is}
use Rattle.rgo_core_memory.specs.Spread.{lead_spot, spread_opening, spread_spot, table_words}
use Rattle.rgo_core.proofs.new_objects.NewObjects.{new_channel, is_new, only_new, slot_is}
use Rattle.rgo_core.proofs.new_objects.WordsApart.{channel_apart, many, not_large, spread}

module _ {T : Setup} {g : ℕ} {c : Record} (x : Situation T g c) (to : Option ℕ) (act : Action) (from removes : List ℕ)
    (a : IsAtOp T.code c (Do to act from removes)) (object : Object) (by_slot : Region) (stored : List ℕ) (i : ℕ)
    (rests : c.side ≡ at_rest) (mk : MakesObject T.code a.w to act from object)
    (making : making_region (code_function T.code a.w.function) (top_names c.frame.holder.environments) a.instr.op ≡ Some by_slot)
    (slotted : c.memory.reserved.slot ≡ slot_number (layout T) by_slot) (makes : MakesApart (layout T) c.memory object stored)
    (small : i < table_words T.sizes.page_words object) (covers : CoversApart (layout T) object (i ∷ stored)) where
  abbrev z : TableSizes
  z = layout T

  abbrev s : RegionState
  s = x.s

  abbrev P : Where
  P = (I x).places

  abbrev pub h : Holder
  h = (b x to act from removes a object).h

  abbrev recs : List MemoryRec
  recs = map memory_of x.recs

  abbrev M : StateImage z x.words recs s P
  M = (I x).memory

  abbrev n : ℕ
  n = length s.plain.memory.heap

  abbrev pages : List ℕ
  pages = c.memory.reserved.pages

  sp : is_spread z.page_words object ≡ true
  sp = spread x object stored i makes small

  fine : is_too_large z.page_words object ≡ false
  fine = not_large x object stored i makes small

  as_many_pages : length pages ≡ pages_of z.page_words object
  as_many_pages = many x object stored i makes small

  abbrev pub next_words : List ℕ
  next_words = set x.words (word_apart T c object i) (spread_opening object pages i)

  abbrev spot : ℕ → ℕ → Spot
  spot = put_at P.spot n (spread_spot z.page_words object pages)

  abbrev start : ℕ → Spot
  start = put_at P.start n (lead_spot pages 0)

  abbrev pub places' : Where
  places' = record P { spot = spot; start = start }

  it : Made x to act from removes a object
  it = it_makes x to act from removes a object mk

  -- ---- the region, and what is filled of the own page there

  pub region : MakesAt (at x to act from removes a object) by_slot
  region = region_law (at x to act from removes a object) by_slot making

  abbrev r : Region
  r = region.region

  in_slot : slot_of z P.slot r ≡ c.memory.reserved.slot
  in_slot = sym (slot_is z P.slot r) ∙ (ap (slot_number z) region.slot_is ∙ sym slotted)

  there : slice_get (map held_of s.holders) g ≡ Some (held_of h)
  there = map_get held_of s.holders g h (b x to act from removes a object).there

  used : MayUseRegion (held_of h) r
  used = makes_used T.code s g h r x.core.sound.good (b x to act from removes a object).there (
    (b x to act from removes a object).frame,
    (b x to act from removes a object).callers,
    a.instr,
    (b x to act from removes a object).at,
    (b x to act from removes a object).cur,
    region.makes,
  )

  -- the region machine has them reserved
  reserved : h.reserved ≡ pages_of z.page_words object
  reserved =
      let q = M.filled.reserved g c.memory (memory_at x) (let e = as_many_pages in omega (arith, e)) in
      let same : q.0 ≡ held_of h = same_Some q.0 (held_of h) (sym q.2 ∙ there) in
      ap (λ (y : Held). y.reserved) (sym same) ∙ (q.5 ∙ as_many_pages)

  -- ---- memory, on what it shows of the state after the step

  G : MemoryImage z next_words (slice_set recs g (with_object_apart c.memory)) (made_apart (ground_of s) g (held_of h) r object) places'
  G = object_made_apart z x.words recs (ground_of s) P M (steady_of T.code s x.core.sound.good) g c.memory (memory_at x) object stored makes i small covers
      (held_of h) there r used in_slot

  abbrev heap : List Object
  heap = s.plain.memory.heap ++ object ∷ []

  abbrev owners : List Region
  owners = s.owners ++ r ∷ []

  as_many_owners : length s.owners ≡ n
  as_many_owners = (steady_of T.code s x.core.sound.good).owned

  stands_after : (o : ℕ) → IsOfLive s.regions owners o → (ob : Object) × (q : Region) × IsLiveObject heap owners s.regions o ob q
  stands_after o live =
      let l = below owners o live.0 live.1 in
      let k = length-append s.owners (r ∷ []) in
      let m = length-append s.plain.memory.heap (object ∷ []) in
      let w = as_many_owners in
      let y = get_some heap o (omega (arith, l, k, m, w)) in
      (y.0, live.0, record { there = y.1; owner = live.1; live = live.2 })

  -- ---- places

  old_spot : (o : ℕ) → o < n → spot o ≡ P.spot o
  old_spot o l = put_else P.spot n (spread_spot z.page_words object pages) o (λ e. omega (arith, e, l))

  new_spot : (o : ℕ) → o ≡ n → spot o ≡ spread_spot z.page_words object pages
  new_spot o e = put_here P.spot n (spread_spot z.page_words object pages) o e

  old_start : (o : ℕ) → o < n → start o ≡ P.start o
  old_start o l = put_else P.start n (lead_spot pages 0) o (λ e. omega (arith, e, l))

  new_start : (o : ℕ) → o ≡ n → start o ≡ lead_spot pages 0
  new_start o e = put_here P.start n (lead_spot pages 0) o e

  abbrev pub new_address : ℕ
  new_address = reserved_address T c

  abbrev pub addresses' : List ℕ
  addresses' = (I x).addresses ++ new_address ∷ []

  pub addressed : (o m : ℕ) → slice_get addresses' o ≡ Some m → m ≡ address z start o
  addressed o m e = ⊎_elim
      (λ (t : (o < length (I x).addresses) × (slice_get (I x).addresses o ≡ Some m)).
      let l = (I x).frames.laid in
      let u = t.0 in
      (I x).addressed o m t.1
      ∙ ap (λ (y : Spot). y.page * z.page_words + y.offset) (sym (old_start o (omega (arith, l, u)))))
      (λ (t : (o ≡ length (I x).addresses) × (new_address ≡ m)).
      let q : new_address ≡ slice_index pages 0 * z.page_words + 0 = omega arith in
      sym t.1 ∙ (q ∙ ap (λ (y : Spot). y.page * z.page_words + y.offset) (sym (new_start o (t.0 ∙ (I x).frames.laid)))))
      (snoc_at (I x).addresses new_address m o e)

  differ : ObjectsDiffer addresses' s.regions owners
  differ o p m lo lp eo ep =
      let u = stands_after o lo in
      let v = stands_after p lp in
      one_address z next_words (slice_set recs g (with_object_apart c.memory)) (made_apart (ground_of s) g (held_of h) r object) places' G o p
      u.0 v.0 u.1 v.1 u.2 v.2 (sym (addressed o m eo) ∙ addressed p m ep)

  -- ---- the step

  abbrev given : Holder × List Region
  given = (record h { reserved = 0 }, r ∷ [])

  abbrev memory : Heap
  memory = record s.plain.memory { heap = heap }

  allots : allotted T.sizes.page_words h (making_region (function_at T.code (b x to act from removes a object).frame) (top_names h.environments) a.instr.op)
      (slice_get memory.heap n) ≡ Some given
  allots =
      ap (λ y. allotted T.sizes.page_words h y (slice_get memory.heap n)) region.makes
      ∙ (ap (allotted T.sizes.page_words h (Some r)) (get_append_last s.plain.memory.heap object n refl)
      ∙ (ap (λ (t : Bool). if t then spread_out T.sizes.page_words h r object else placed T.sizes.page_words h r object (fill_of h.fills r)) sp
      ∙ (ap (λ (t : Bool). if not t && nat_lt (data_pages T.sizes.page_words object) h.reserved then Some given else None) fine
      ∙ ap (λ (t : Bool). if t then Some given else None)
      (low (data_pages T.sizes.page_words object) h.reserved (let e = reserved in omega (arith, e))))))
    where
      low : (m k : ℕ) → m < k → nat_lt m k ≡ true
      low m k l = grind (arith, nat_tests)

  shows : WordShows addresses' (value.Object n) (suc new_address)
  shows = (new_address, get_append_last (I x).addresses new_address n (sym (I x).frames.laid), refl)

  long : length addresses' ≡ length memory.heap
  long =
      let k = length-append (I x).addresses (new_address ∷ []) in
      let m = length-append s.plain.memory.heap (object ∷ []) in
      let l = (I x).frames.laid in
      omega (arith, k, m, l)

  abbrev d' : FrameRec
  d' = after_action T.code c.frame a.w a.ws a.instr to (suc new_address)

  pub H : HasInstruction T.code T.sizes.page_words P.slot addresses' s g memory [] given
      (slice_set (map frame_of x.recs) g d')
  H = action_law (at x to act from removes a object) (new_address ∷ []) to act from removes memory (value.Object n) (suc new_address) given
      a.is it.does allots shows long differ

  abbrev pub t : RegionState
  t = H.state

  pub memory_after : StateImage z next_words (slice_set recs g (with_object_apart c.memory)) t places'
  memory_after = allocation_keeps_apart T.code z x.words recs s t g i h r c.memory object stored x.core.sound.good P M
      (b x to act from removes a object).there (memory_at x) (it.next r region.makes) in_slot makes small covers H.steps

  -- ---- where the pointer to it points

  pub made_lies : LieInPages T new_address (row_words T.sizes.page_words object)
  made_lies =
      let l = lies_in T next_words (slice_set recs g (with_object_apart c.memory)) t places' memory_after n object r new_stands in
      let e = ap (λ (y : Spot). y.page * T.sizes.page_words + y.offset) (new_start n refl) in
      omega (arith, l, e)
    where
      new_stands : IsLiveObject t.plain.memory.heap t.owners t.regions n object r
      new_stands = record {
        there = ap (λ (y : Heap). slice_get y.heap n) H.memory_is ∙ get_append_last s.plain.memory.heap object n refl;
        owner = ap (λ (l : List Region). slice_get l n) H.owners ∙ get_append_last s.owners r n (sym as_many_owners);
        live = ap (λ q. is_live q r) H.regions ∙ uses_live z x.words recs (ground_of s) P M (steady_of T.code s x.core.sound.good) g (held_of h) r there used;
      }

  made_live : LeadsToLive t (value.Object n)
  made_live o e =
      let same : n ≡ o = cc e in (
        r,
        ap (λ (l : List Region). slice_get l o) H.owners ∙ get_append_last s.owners r o (sym same ∙ sym as_many_owners),
        ap (λ q. is_live q r) H.regions ∙ uses_live z x.words recs (ground_of s) P M (steady_of T.code s x.core.sound.good) g (held_of h) r there used,
      )

  pub made_points : Points T (target_type T a.w to) (suc new_address)
  made_points = gives_points x to act from removes a memory (value.Object n) it.does next_words
      (slice_set recs g (with_object_apart c.memory)) t places' memory_after addresses' addressed H.memory_is (suc new_address) made_live shows

  -- ---- channels

  abbrev side : List SideRec
  side = map side_of x.recs

  abbrev pub at' : Places
  at' = record { head = put_at (I x).at.head n 0; lock = put_at (I x).at.lock n Unlocked; phase = put_at (I x).at.phase n Calm }

  abbrev pub place' : ℕ → ℕ
  place' = place_at z places'

  -- an old channel is an old object
  on_low : (o : ℕ) (k : Chan) → On s o k → o < n
  on_low o k on = below s.plain.memory.heap o (channel k) on.0

  abbrev pub cell' : ℕ → ℕ → ℕ
  cell' = cell_place z places'

  place_same : (o : ℕ) → o < n → place' o ≡ place_at z P o
  place_same o l = ap (λ (y : Spot). cell_at z y.page y.offset) (old_start o l)

  cell_same : (o i' : ℕ) → o < n → cell' o i' ≡ cell_place z P o i'
  cell_same o i' l = ap (λ (y : ℕ → Spot). cell_at z (y (2 + i')).page (y (2 + i')).offset) (old_spot o l)

  codes_same : (v : Value) → ((p : ℕ) → v ≡ value.Object p → p < n) → word_of_value z places' v ≡ word_of_value z P v
  codes_same v l = old_code z P.start start n old_start v l

  -- the words of the new object
  half : StateImage z next_words (slice_set recs g (with_word_apart c.memory object (i ∷ stored))) s P
  half = word_keeps_apart z x.words recs s g i c.memory object stored P M (memory_at x) makes small

  word_is : (o j : ℕ) → o ≡ n → j < words_of object → slice_index next_words (word_at z places' o j) ≡ spread_opening object pages j
  word_is o j e l =
      let q = half.own.apart.strewn g (with_word_apart c.memory object (i ∷ stored)) object (i ∷ stored)
      (set_here recs g (with_word_apart c.memory object (i ∷ stored)) c.memory (memory_at x)) refl in
      let m = in_table z.page_words object j l in
      let w = spread_within z.page_words object pages j sp as_many_pages m in
      let k = M.own.apart.claimed g (spread_spot z.page_words object pages j).page c.memory (memory_at x) w in
      ap (λ (y : ℕ → Spot). slice_index next_words (cell_at z (y j).page (y j).offset)) (new_spot o e)
      ∙ (half.shows.cell (spread_spot z.page_words object pages j).page (spread_spot z.page_words object pages j).offset
      (M.own.ranged (spread_spot z.page_words object pages j).page (omega (arith, k)))
      (spread_offset z.page_words object pages j sp fine m) ∙ q.laid j m (covers j m))

  opens : (k : Chan) → object ≡ channel k → (j : ℕ) → j < 2 → spread_opening object pages j ≡ opening_word (content (channel k) j)
  opens k e j l =
      ap (λ (y : Object). spread_opening y pages j) e
      ∙ ap (λ (b : Bool). if b then opening_word (content (channel k) j) else suc (slice_index pages (j - words_of (channel k) + 1)))
      (low j (words_of (channel k)) (omega (arith, l)))
    where
      low : (a b : ℕ) → a < b → nat_lt a b ≡ true
      low a b l = grind (arith, nat_tests)

  two : (k : Chan) → object ≡ channel k → 1 < words_of object
  two k e = subst (λ (y : Object). 1 < words_of y) (sym e) (omega arith)

  abbrev IsNew : ℕ → Chan → Type 0
  IsNew = IsMade (new_channel n object)

  new_is : (o : ℕ) (k : Chan) → IsNew o k → (o ≡ n) × (object ≡ channel k)
  new_is o k m = only_new n object it.fresh o k m

  was : (o : ℕ) (k : Chan) → On t o k → On s o k ⊎ IsNew o k
  was o k on = ⊎_elim
      (λ (u : (o < n) × (slice_get s.plain.memory.heap o ≡ Some (channel k))).
      let l = u.0 in
      let w = as_many_owners in
      inl (u.1, sym (touch_more s t (r ∷ []) H.owners H.regions o (omega (arith, l, w))) ∙ on.1))
      (λ (u : (o ≡ n) × (object ≡ channel k)).
      let y = it.fresh k u.1 in
      inr (subst (λ q. IsMade (new_channel n object) q k) (sym u.0) (is_new n object k u.1 y.0 y.1)))
      (snoc_at s.plain.memory.heap object (channel k) o (ap (λ (y : Heap). slice_get y.heap o) (sym H.memory_is) ∙ on.0))

  -- where its words are, by the memory after it
  lay : Layout z next_words t places'
  lay = layout_is z next_words (slice_set recs g (with_object_apart c.memory)) t places' memory_after

  on_new : (o : ℕ) (k : Chan) → IsNew o k → On t o k
  on_new o k new =
      let y = new_is o k new in (
        ap (λ (u : Heap). slice_get u.heap o) H.memory_is ∙ (get_append_last s.plain.memory.heap object o y.0 ∙ ap Some y.1),
        ap (owner_live t) (ap (λ (l : List Region). slice_get l o) H.owners ∙ get_append_last s.owners r o (y.0 ∙ sym as_many_owners))
            ∙ (ap (λ q. is_live q r) H.regions
            ∙ uses_live z x.words recs (ground_of s) P M (steady_of T.code s x.core.sound.good) g (held_of h) r there used),
      )

  on_old : (o : ℕ) (k : Chan) → On s o k → On t o k
  on_old o k on = (
    ap (λ (y : Heap). slice_get y.heap o) H.memory_is ∙ (get_append_left s.plain.memory.heap (object ∷ []) o (on_low o k on) ∙ on.0),
    touch_more s t (r ∷ []) H.owners H.regions o (let l = on_low o k on in let w = as_many_owners in omega (arith, l, w)) ∙ on.1,
  )

  word_same : (o j : ℕ) → o < n → word_of_channel place' cell' o j ≡ word_of_channel (place_at z P) (cell_place z P) o j
  word_same o zero l = place_same o l
  word_same o (suc zero) l = ap (λ m. m + 1) (place_same o l)
  word_same o (suc (suc j)) l = cell_same o j l

  leaves : LeavesChannels (moment x) next_words t (word_of_value z places') place' cell' at' IsNew 0
  leaves = record {
    long = length-set x.words (word_apart T c object i) (spread_opening object pages i);
    heap = λ o k on. ap (λ (y : Heap). slice_get y.heap o) H.memory_is
        ∙ (get_append_left s.plain.memory.heap (object ∷ []) o (on_low o k on) ∙ on.0);
    was = was;
    same = λ o j k on l. get_or-set_other x.words (word_apart T c object i) (word_of_channel (place_at z P) (cell_place z P) o j)
        (spread_opening object pages i) 0 (channel_apart x object stored i makes small o j k on l);
    places = λ o k on. place_same o (on_low o k on);
    spots = λ o j k on l. cell_same o j (on_low o k on);
    ats = λ o k on. let l = on_low o k on in (
      put_else (I x).at.head n 0 o (λ e. omega (arith, e, l)),
      put_else (I x).at.lock n Unlocked o (λ e. omega (arith, e, l)),
      put_else (I x).at.phase n Calm o (λ e. omega (arith, e, l)),
    );
    codes = λ o j v k on e. codes_same v (λ p q. held_made T.code s x.core.sound.good o j p (channel k) on.0 (e ∙ ap Some q));
    sent = λ o j v nx. codes_same v (λ p q. operand_made T.code s x.core.sound.good x.core.sound.checked j Send (value.Object o) v p nx.before q);
    born = plus_zero (length t.holders) (length s.holders) as_many;
    born_calm = λ j k l e. absurd (let y = below t.holders j k e in let w = as_many in omega (arith, l, y, w));
    fresh = λ o k new. let y = new_is o k new in let q = it.fresh k y.1 in (
      q.0,
      q.1,
      put_here (I x).at.head n 0 o y.0,
      put_here (I x).at.lock n Unlocked o y.0,
      put_here (I x).at.phase n Calm o y.0,
    );
    fresh_words = λ o k new.
        let y = new_is o k new in
        let on = on_new o k new in
        let small = (it.fresh k y.1).2 in (
          ap (slice_index next_words) (lay.words_are o 0 k on (omega arith))
              ∙ (word_is o 0 y.0 (let l = two k y.1 in omega (arith, l)) ∙ opens k y.1 0 (omega arith)),
          ap (slice_index next_words) (lay.words_are o 1 k on (omega arith))
              ∙ (word_is o 1 y.0 (two k y.1) ∙ (opens k y.1 1 (omega arith) ∙ small_word k.capacity (omega (arith, small)))),
          small,
          lay.inside o k on,
        );
    fresh_cells = λ o j k new l. (lay.cells_inside o j k (on_new o k new) l, λ whole. lay.row o j k (on_new o k new) whole l);
    fresh_differ = λ o j j' k new l l' e. (lay.apart o o j j' k k (on_new o k new) (on_new o k new) l l' e).1;
    fresh_apart = λ o p j j' k l new on lj lj' e.
        let y = new_is o k new in
        let low = on_low p l on in
        let same = (lay.apart o p j j' k l (on_new o k new) (on_old p l on) lj lj' (e ∙ sym (word_same p j' low))).0 in
        let here = y.0 in
        omega (arith, same, low, here);
    one_fresh = λ o p k l e e'. (new_is o k e).0 ∙ sym (new_is p l e').0;
  }
    where
      as_many : length t.holders ≡ length s.holders
      as_many = sym H.fit.as_many ∙ (length_set (map frame_of x.recs) g d' ∙ (I x).frames.as_many)

  pub channels_after : Channels T.code T.sizes.page_words (word_of_value z places') place' cell' next_words (slice_set side g c.side) t at'
  channels_after =
      subst (λ l. Channels T.code T.sizes.page_words (word_of_value z places') place' cell' next_words l t at')
      (append-nil side ∙ sym (set_again side g c.side (side_at x)))
      (event_keeps (moment x) g (Instruct (One g)) next_words t (word_of_value z places') place' cell' at' (new_channel n object) 0
      (side_at x ∙ ap Some rests) refl H.steps leaves)

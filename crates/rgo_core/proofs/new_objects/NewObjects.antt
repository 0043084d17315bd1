-- The last store of a new object's words is the instruction that makes it. Here all three images change: memory has one object more, frames
-- a word that points to it, channels perhaps a new channel. The step comes first, then where the object is, then the images.
use Rattle.std.proofs.Common.{◌≡◌, ◌≢◌, ◌⊎◌, zero, inl, inr, ⊎_elim, ℕ, suc, ◌+◌, ◌*◌, ◌<◌, ◌≤◌, Bool, true, false, List, [], ◌∷◌, ◌++◌, Option, Some, None, length, map, set, nat_le, if◌then◌else◌, slice_get, slice_set, slice_index, refl, ap, sym, subst, ◌∙◌, arith}
use Rattle.std.proofs.Math.ListN.{length-set}
use Rattle.std.proofs.lemmas.Bool.Decides.{nat_tests}
use Rattle.std.proofs.lemmas.List.{append-nil, length-append}
use Rattle.std.proofs.lemmas.Option.{same_Some}
use Rattle.rgo_sound.specs.Code.Code.{Do}
use Rattle.rgo_sound.specs.Machine.declared.picks.Pick.TheVariants.{One}
use Rattle.rgo_sound.specs.Memory.Memory.{Channel, Memory as Heap, Object, SliceObject, StructObject}
use Rattle.rgo_sound.specs.Memory.declared.values.Value.{Value}
use Rattle.rgo_sound.specs.Memory.declared.values.Value.TheVariants as value
use Rattle.rgo_sound.specs.RegionMachine.Machine.{Instruct}
use Rattle.rgo_sound.specs.RegionMachine.Objects.{allotted, data_pages, fill_of, is_spread, making_region, placed, spread_out, with_fill, object_words as words_of}
use Rattle.rgo_sound.specs.RegionMachine.Owed.{function_at, code_function}
use Rattle.rgo_sound.specs.RegionMachine.Regions.{is_live}
use Rattle.rgo_sound.specs.RegionMachine.States.{Holder, RegionState, top_names}
use Rattle.rgo_sound.specs.RegionMachine.declared.regions.Region.{Region}
use Rattle.rgo_sound.specs.RegionMachine.declared.regions.Region.TheVariants.{Global as GlobalRegion, Numbered}
use Rattle.rgo_sound.proofs.Places.{get_append_last, get_append_left, get_some, length_set}
use Rattle.rgo_sound.specs.Typed.declared.actions.Action.{Action}
use Rattle.rgo_sound.specs.Typed.declared.actions.Action.TheVariants.{Send}
use Rattle.rgo_core_channels.specs.Channels.{Calm, Chan, Channels, On, Places, Unlocked, channel, word_of_channel}
use Rattle.rgo_core_channels.specs.Controls.{extent, spreads}
use Rattle.rgo_core_channels.specs.Elsewhere.{IsMade, LeavesChannels}
use Rattle.rgo_core_channels.specs.Records.{ChannelRec as SideRec, at_rest}
use Rattle.rgo_core_channels.proofs.Elsewhere.{event_keeps}
use Rattle.rgo_core_channels.proofs.Steps.{same_channel}
use Rattle.rgo_core_frames.specs.steps.Actions.{after_action}
use Rattle.rgo_core_frames.specs.Fits.{IsOfLive, ObjectsDiffer}
use Rattle.rgo_core_frames.specs.steps.Makes.{MakesAt}
use Rattle.rgo_core_frames.specs.Records.{FramesRec as FrameRec}
use Rattle.rgo_core_frames.specs.regions.Slots.{slotted_region}
use Rattle.rgo_core_frames.specs.steps.Bookkept.{HasInstruction}
use Rattle.rgo_core_frames.specs.shown.Words.{Shows as WordShows}
use Rattle.rgo_core_frames.proofs.steps.ActionSteps.{action_law}
use Rattle.rgo_core_frames.proofs.regions.Making.{region_law}
use Rattle.rgo_core_memory.specs.Encoding.{Spot, address, content, opening_word}
use Rattle.rgo_core_memory.specs.Ground.{Held, IsLiveObject, MayUseRegion, ground_of, held_of, made_in_page}
use Rattle.rgo_core_memory.specs.Image.{MemoryImage, StateImage, Where, word_of_value}
use Rattle.rgo_core_memory.specs.Parts.{Covers, RecordMakes, slot_of}
use Rattle.rgo_core_memory.specs.Records.{Fill, Owns, Rec as MemoryRec, Within, with_object_in_page, with_word}
use Rattle.rgo_core_memory.specs.Words.{cell_at, put_at}
use Rattle.rgo_core_memory.specs.declared.layout.TableSizes.{TableSizes}
use Rattle.rgo_core_memory.proofs.objects.Addresses.{free_apart, one_address}
use Rattle.rgo_core_memory.proofs.objects.Allocating.{allocation_keeps, word_keeps}
use Rattle.rgo_core_memory.proofs.regions.Attending.{makes_used}
use Rattle.rgo_core_memory.proofs.objects.Making.{object_made}
use Rattle.rgo_core_memory.proofs.Puts.{put_else, put_here}
use Rattle.rgo_core_memory.proofs.Rows.{below, set_again, set_here, snoc_at}
use Rattle.rgo_core_memory.proofs.regions.Slots.{one_region, uses_live}
use Rattle.rgo_core_memory.proofs.image.Steadies.{steady_of}
use Rattle.rgo_core_memory.proofs.image.Stepped.{map_get}
use Rattle.rgo_core_memory.proofs.Writes.{in_pages, pages_apart}
use Rattle.rgo_core.specs.ties.Bounds.{LieInPages, Points, target_type}
use Rattle.rgo_core.specs.Core.{Situation, Setup, layout}
use Rattle.rgo_core_channels.specs.Positions.{cell_place, place_at}
use Rattle.rgo_core.specs.moves.NewObjects.{MakesObject, slot_number}
use Rattle.rgo_core.specs.Next.{IsAtOp}
use Rattle.rgo_core.specs.Records.{Record, frame_of, memory_of, side_of}
use Rattle.rgo_core.proofs.image.Bounds.{LeadsToLive, gives_points}
use Rattle.rgo_core_memory.proofs.objects.Spreads.{whole_of, in_table}
use Rattle.rgo_core.proofs.image.Encodings.{held_made, old_code, operand_made, small_word}
use Rattle.rgo_core.proofs.channel_steps.Leaving.{above_fill, channel_stands, channel_word, touch_more}
use Rattle.rgo_core.proofs.new_objects.MakesObject.{Made, at, b, made as it_makes}
use Rattle.rgo_core.proofs.image.Parts.{I}
use Rattle.rgo_core.proofs.image.Standing.{memory_at, side_at}
use Rattle.rgo_core.specs.ties.Moments.{moment}
use Rattle.rgo_core.proofs.goroutines.Counting.{plus_zero}

-- ---- the channel that is made, if one is

abbrev pub new_channel : ℕ → Object → Option (ℕ × ℕ)
new_channel n (Channel capacity queue closed) = Some (n, capacity)
new_channel n (StructObject cells) = None
new_channel n (SliceObject cells) = None

pub is_new : (n : ℕ) (object : Object) (k : Chan) → object ≡ channel k → k.queue ≡ [] → k.closed ≡ false → IsMade (new_channel n object) n k
is_new n (StructObject cells) k e q l = clash e
  where
    clash : StructObject cells ≡ channel k → ⊥
    clash e = cc
is_new n (SliceObject cells) k e q l = clash e
  where
    clash : SliceObject cells ≡ channel k → ⊥
    clash e = cc
is_new n (Channel capacity queue closed) k e q l =
    let same : record { capacity = capacity; queue = queue; closed = closed } ≡ k =
    same_channel (record { capacity = capacity; queue = queue; closed = closed }) k e in
    (refl, λ i. record { capacity = ap (λ (y : Chan). y.capacity) (sym same) i; queue = q i; closed = l i })

pub only_new : (n : ℕ) (object : Object) → ((k : Chan) → object ≡ channel k → (k.queue ≡ []) × (k.closed ≡ false) × (k.capacity < 1073741820))
    → (o : ℕ) (k : Chan) → IsMade (new_channel n object) o k → (o ≡ n) × (object ≡ channel k)
only_new n (StructObject cells) fresh o k m = absurd m
only_new n (SliceObject cells) fresh o k m = absurd m
only_new n (Channel capacity queue closed) fresh o k m =
    let f = fresh (record { capacity = capacity; queue = queue; closed = closed }) refl in
    (m.0, (λ i. Channel capacity (f.0 i) (f.1 i)) ∙ ap channel (sym m.1))

-- slots of regions as numbers
pub slot_is : (z : TableSizes) (slot_at : ℕ → ℕ) (r : Region) → slot_number z (slotted_region slot_at r) ≡ slot_of z slot_at r
slot_is z slot_at GlobalRegion = refl
slot_is z slot_at (Numbered k) = refl

module _ {T : Setup} {g : ℕ} {c : Record} (x : Situation T g c) (to : Option ℕ) (act : Action) (from removes : List ℕ)
    (a : IsAtOp T.code c (Do to act from removes)) (object : Object) (by_slot : Region) (f : Fill) (stored : List ℕ) (i : ℕ)
    (rests : c.side ≡ at_rest) (mk : MakesObject T.code a.w to act from object)
    (making : making_region (code_function T.code a.w.function) (top_names c.frame.holder.environments) a.instr.op ≡ Some by_slot)
    (slotted : f.slot ≡ slot_number (layout T) by_slot) (makes : RecordMakes (layout T) c.memory f object stored)
    (small : i < words_of object) (covers : Covers object (i ∷ stored)) where
  abbrev z : TableSizes
  z = layout T

  abbrev s : RegionState
  s = x.s

  abbrev P : Where
  P = (I x).places

  abbrev pub h : Holder
  h = (b x to act from removes a object).h

  abbrev recs : List MemoryRec
  recs = map memory_of x.recs

  abbrev M : StateImage z x.words recs s P
  M = (I x).memory

  abbrev n : ℕ
  n = length s.plain.memory.heap

  abbrev many : ℕ
  many = f.fill + words_of object

  abbrev pub next_words : List ℕ
  next_words = set x.words (cell_at z f.page (f.fill + i)) (opening_word (content object i))

  abbrev spot : ℕ → ℕ → Spot
  spot = put_at P.spot n (λ j. record { page = f.page; offset = f.fill + j })

  abbrev start : ℕ → Spot
  start = put_at P.start n (record { page = f.page; offset = f.fill })

  abbrev pub places' : Where
  places' = record P { spot = spot; start = start }

  it : Made x to act from removes a object
  it = it_makes x to act from removes a object mk

  -- ---- the region, and what is filled of the own page there

  pub region : MakesAt (at x to act from removes a object) by_slot
  region = region_law (at x to act from removes a object) by_slot making

  abbrev r : Region
  r = region.region

  in_slot : slot_of z P.slot r ≡ f.slot
  in_slot = sym (slot_is z P.slot r) ∙ (ap (slot_number z) region.slot_is ∙ sym slotted)

  within : Within f c.memory.fills
  within = ⊎_elim (λ m. (M.own.amids g c.memory f object stored (memory_at x) m).0) (λ m. m.2) makes

  fits : f.fill + words_of object ≤ z.page_words
  fits = ⊎_elim (λ m. (M.own.amids g c.memory f object stored (memory_at x) m).1.fits) (λ m. m.3) makes

  -- the object is not spread
  whole : is_spread z.page_words object ≡ false
  whole = whole_of z.page_words object (let l = fits in omega (arith, l))

  owner : Owns recs g f
  owner = (c.memory, memory_at x, within)

  page_in : f.page < z.pages
  page_in = let e = M.own.claimed g f owner in M.own.ranged f.page (omega (arith, e))

  there : slice_get (map held_of s.holders) g ≡ Some (held_of h)
  there = map_get held_of s.holders g h (b x to act from removes a object).there

  used : MayUseRegion (held_of h) r
  used = makes_used T.code s g h r x.core.sound.good (b x to act from removes a object).there (
    (b x to act from removes a object).frame,
    (b x to act from removes a object).callers,
    a.instr,
    (b x to act from removes a object).at,
    (b x to act from removes a object).cur,
    region.makes,
  )

  filled : fill_of h.fills r ≡ Some f.fill
  filled =
      let q = M.filled.fills g f owner in
      let same : q.0 ≡ held_of h = same_Some q.0 (held_of h) (sym q.2 ∙ there) in
      let steady = steady_of T.code s x.core.sound.good in
      let one : q.1 ≡ r = one_region z x.words recs (ground_of s) P M q.1 r
      (uses_live z x.words recs (ground_of s) P M steady g q.0 q.1 q.2 q.3)
      (uses_live z x.words recs (ground_of s) P M steady g (held_of h) r there used) (q.4 ∙ sym in_slot) in
      subst (λ (y : Held). fill_of y.fills r ≡ Some f.fill) same (subst (λ (y : Region). fill_of q.0.fills y ≡ Some f.fill) one q.5)

  -- ---- memory, on what it shows of the state after the step

  G : MemoryImage z next_words (slice_set recs g (with_object_in_page c.memory f.slot many)) (made_in_page (ground_of s) g (held_of h) r object many) places'
  G = object_made z x.words recs (ground_of s) P M (steady_of T.code s x.core.sound.good) g c.memory (memory_at x) f object stored makes i small covers
      (held_of h) there r used in_slot

  abbrev heap : List Object
  heap = s.plain.memory.heap ++ object ∷ []

  abbrev owners : List Region
  owners = s.owners ++ r ∷ []

  as_many_owners : length s.owners ≡ n
  as_many_owners = (steady_of T.code s x.core.sound.good).owned

  stands_after : (o : ℕ) → IsOfLive s.regions owners o → (ob : Object) × (q : Region) × IsLiveObject heap owners s.regions o ob q
  stands_after o live =
      let l = below owners o live.0 live.1 in
      let k = length-append s.owners (r ∷ []) in
      let m = length-append s.plain.memory.heap (object ∷ []) in
      let w = as_many_owners in
      let y = get_some heap o (omega (arith, l, k, m, w)) in
      (y.0, live.0, record { there = y.1; owner = live.1; live = live.2 })

  -- ---- places

  old_spot : (o : ℕ) → o < n → spot o ≡ P.spot o
  old_spot o l = put_else P.spot n (λ j. record { page = f.page; offset = f.fill + j }) o (λ e. omega (arith, e, l))

  new_spot : (o : ℕ) → o ≡ n → spot o ≡ (λ j. record { page = f.page; offset = f.fill + j })
  new_spot o e = put_here P.spot n (λ j. record { page = f.page; offset = f.fill + j }) o e

  old_start : (o : ℕ) → o < n → start o ≡ P.start o
  old_start o l = put_else P.start n (record { page = f.page; offset = f.fill }) o (λ e. omega (arith, e, l))

  new_start : (o : ℕ) → o ≡ n → start o ≡ record { page = f.page; offset = f.fill }
  new_start o e = put_here P.start n (record { page = f.page; offset = f.fill }) o e

  abbrev pub new_address : ℕ
  new_address = f.page * T.sizes.page_words + f.fill

  abbrev pub addresses' : List ℕ
  addresses' = (I x).addresses ++ new_address ∷ []

  pub addressed : (o m : ℕ) → slice_get addresses' o ≡ Some m → m ≡ address z start o
  addressed o m e = ⊎_elim
      (λ (t : (o < length (I x).addresses) × (slice_get (I x).addresses o ≡ Some m)).
      let l = (I x).frames.laid in
      let u = t.0 in
      (I x).addressed o m t.1
      ∙ ap (λ (y : Spot). y.page * z.page_words + y.offset) (sym (old_start o (omega (arith, l, u)))))
      (λ (t : (o ≡ length (I x).addresses) × (new_address ≡ m)).
      sym t.1 ∙ ap (λ (y : Spot). y.page * z.page_words + y.offset) (sym (new_start o (t.0 ∙ (I x).frames.laid))))
      (snoc_at (I x).addresses new_address m o e)

  differ : ObjectsDiffer addresses' s.regions owners
  differ o p m lo lp eo ep =
      let u = stands_after o lo in
      let v = stands_after p lp in
      one_address z next_words (slice_set recs g (with_object_in_page c.memory f.slot many)) (made_in_page (ground_of s) g (held_of h) r object many) places' G o p
      u.0 v.0 u.1 v.1 u.2 v.2 (sym (addressed o m eo) ∙ addressed p m ep)

  -- ---- the step

  abbrev given : Holder × List Region
  given = (record h { fills = with_fill h.fills r many }, r ∷ [])

  abbrev memory : Heap
  memory = record s.plain.memory { heap = heap }

  allots : allotted T.sizes.page_words h (making_region (function_at T.code (b x to act from removes a object).frame) (top_names h.environments) a.instr.op)
      (slice_get memory.heap n) ≡ Some given
  allots =
      ap (λ y. allotted T.sizes.page_words h y (slice_get memory.heap n)) region.makes
      ∙ (ap (allotted T.sizes.page_words h (Some r)) (get_append_last s.plain.memory.heap object n refl)
      ∙ (ap (λ (t : Bool). if t then spread_out T.sizes.page_words h r object else placed T.sizes.page_words h r object (fill_of h.fills r)) whole
      ∙ (ap (placed T.sizes.page_words h r object) filled
      ∙ ap (λ (t : Bool). if t then Some given else None) (low (f.fill + words_of object) T.sizes.page_words fits))))
    where
      low : (m k : ℕ) → m ≤ k → nat_le m k ≡ true
      low m k l = grind (arith, nat_tests)

  shows : WordShows addresses' (value.Object n) (suc new_address)
  shows = (new_address, get_append_last (I x).addresses new_address n (sym (I x).frames.laid), refl)

  long : length addresses' ≡ length memory.heap
  long =
      let k = length-append (I x).addresses (new_address ∷ []) in
      let m = length-append s.plain.memory.heap (object ∷ []) in
      let l = (I x).frames.laid in
      omega (arith, k, m, l)

  abbrev d' : FrameRec
  d' = after_action T.code c.frame a.w a.ws a.instr to (suc new_address)

  pub H : HasInstruction T.code T.sizes.page_words P.slot addresses' s g memory [] given
      (slice_set (map frame_of x.recs) g d')
  H = action_law (at x to act from removes a object) (new_address ∷ []) to act from removes memory (value.Object n) (suc new_address) given
      a.is it.does allots shows long differ

  abbrev pub t : RegionState
  t = H.state

  pub memory_after : StateImage z next_words (slice_set recs g (with_object_in_page c.memory f.slot many)) t places'
  memory_after = allocation_keeps T.code z x.words recs s t g i h r c.memory f object stored x.core.sound.good P M
      (b x to act from removes a object).there (memory_at x) (it.next r region.makes) in_slot makes small covers H.steps

  -- ---- where the pointer to it points

  pub made_lies : LieInPages T new_address (words_of object)
  made_lies = let p = pages_apart f.page T.sizes.pages T.sizes.page_words page_in in let m = fits in omega (arith, p, m)

  made_live : LeadsToLive t (value.Object n)
  made_live o e =
      let same : n ≡ o = cc e in (
        r,
        ap (λ (l : List Region). slice_get l o) H.owners ∙ get_append_last s.owners r o (sym same ∙ sym as_many_owners),
        ap (λ q. is_live q r) H.regions ∙ uses_live z x.words recs (ground_of s) P M (steady_of T.code s x.core.sound.good) g (held_of h) r there used,
      )

  pub made_points : Points T (target_type T a.w to) (suc new_address)
  made_points = gives_points x to act from removes a memory (value.Object n) it.does next_words
      (slice_set recs g (with_object_in_page c.memory f.slot many)) t places' memory_after addresses' addressed H.memory_is (suc new_address) made_live shows

  -- ---- channels

  abbrev side : List SideRec
  side = map side_of x.recs

  abbrev pub at' : Places
  at' = record { head = put_at (I x).at.head n 0; lock = put_at (I x).at.lock n Unlocked; phase = put_at (I x).at.phase n Calm }

  abbrev pub place' : ℕ → ℕ
  place' = place_at z places'

  -- an old channel is an old object
  on_low : (o : ℕ) (k : Chan) → On s o k → o < n
  on_low o k on = below s.plain.memory.heap o (channel k) on.0

  abbrev pub cell' : ℕ → ℕ → ℕ
  cell' = cell_place z places'

  place_same : (o : ℕ) → o < n → place' o ≡ place_at z P o
  place_same o l = ap (λ (y : Spot). cell_at z y.page y.offset) (old_start o l)

  cell_same : (o i' : ℕ) → o < n → cell' o i' ≡ cell_place z P o i'
  cell_same o i' l = ap (λ (y : ℕ → Spot). cell_at z (y (2 + i')).page (y (2 + i')).offset) (old_spot o l)

  place_new : (o : ℕ) → o ≡ n → place' o ≡ cell_at z f.page (f.fill + 0)
  place_new o e =
      let q : cell_at z f.page f.fill ≡ cell_at z f.page (f.fill + 0) = omega arith in
      ap (λ (y : Spot). cell_at z y.page y.offset) (new_start o e) ∙ q

  cell_new : (o i' : ℕ) → o ≡ n → cell' o i' ≡ cell_at z f.page (f.fill + (2 + i'))
  cell_new o i' e = ap (λ (y : ℕ → Spot). cell_at z (y (2 + i')).page (y (2 + i')).offset) (new_spot o e)

  word_new : (o j : ℕ) → o ≡ n → word_of_channel place' cell' o j ≡ cell_at z f.page (f.fill + j)
  word_new o zero e = place_new o e
  word_new o (suc zero) e = let q = place_new o e in omega (arith, q)
  word_new o (suc (suc j)) e = let q = cell_new o j e in omega (arith, q)

  codes_same : (v : Value) → ((p : ℕ) → v ≡ value.Object p → p < n) → word_of_value z places' v ≡ word_of_value z P v
  codes_same v l = old_code z P.start start n old_start v l

  -- the words of the new object
  half : StateImage z next_words (slice_set recs g (with_word c.memory f object (i ∷ stored))) s P
  half = word_keeps z x.words recs s g i c.memory f object stored P M (memory_at x) makes small

  word_is : (j : ℕ) → j < words_of object → slice_index next_words (cell_at z f.page (f.fill + j)) ≡ opening_word (content object j)
  word_is j l =
      let q = half.own.amids g (with_word c.memory f object (i ∷ stored)) f object (i ∷ stored)
      (set_here recs g (with_word c.memory f object (i ∷ stored)) c.memory (memory_at x)) refl in
      let m = fits in
      half.shows.cell f.page (f.fill + j) page_in (omega (arith, l, m)) ∙ q.1.laid j l (covers j l)

  first_word : (k : Chan) → object ≡ channel k → slice_index next_words (cell_at z f.page (f.fill + 0)) ≡ 0
  first_word k e = word_is 0 (subst (λ (y : Object). 0 < words_of y) (sym e) (omega arith)) ∙ ap (λ (y : Object). opening_word (content y 0)) e

  second_word : (k : Chan) → object ≡ channel k → slice_index next_words (cell_at z f.page (f.fill + 1)) ≡ k.capacity
  second_word k e =
      let l = (it.fresh k e).2 in
      word_is 1 (subst (λ (y : Object). 1 < words_of y) (sym e) (omega arith))
      ∙ (ap (λ (y : Object). opening_word (content y 1)) e ∙ small_word k.capacity (omega (arith, l)))

  fits_channel : (k : Chan) → object ≡ channel k → f.fill + (2 + extent k.capacity) ≤ z.page_words
  fits_channel k e = subst (λ (y : Object). f.fill + words_of y ≤ z.page_words) e fits

  abbrev IsNew : ℕ → Chan → Type 0
  IsNew = IsMade (new_channel n object)

  new_is : (o : ℕ) (k : Chan) → IsNew o k → (o ≡ n) × (object ≡ channel k)
  new_is o k m = only_new n object it.fresh o k m

  was : (o : ℕ) (k : Chan) → On t o k → On s o k ⊎ IsNew o k
  was o k on = ⊎_elim
      (λ (u : (o < n) × (slice_get s.plain.memory.heap o ≡ Some (channel k))).
      let l = u.0 in
      let w = as_many_owners in
      inl (u.1, sym (touch_more s t (r ∷ []) H.owners H.regions o (omega (arith, l, w))) ∙ on.1))
      (λ (u : (o ≡ n) × (object ≡ channel k)).
      let y = it.fresh k u.1 in
      inr (subst (λ q. IsMade (new_channel n object) q k) (sym u.0) (is_new n object k u.1 y.0 y.1)))
      (snoc_at s.plain.memory.heap object (channel k) o (ap (λ (y : Heap). slice_get y.heap o) (sym H.memory_is) ∙ on.0))

  whole_channel : (k : Chan) → object ≡ channel k → spreads z.page_words k.capacity ≡ false
  whole_channel k e = subst (λ (y : Object). is_spread z.page_words y ≡ false) e whole

  apart : (o p i' j' : ℕ) (k l : Chan) → IsNew o k → On s p l → i' < 2 + extent k.capacity → j' < 2 + extent l.capacity
      → word_of_channel place' cell' o i' ≢ word_of_channel (place_at z P) (cell_place z P) p j'
  apart o p i' j' k l new on li lj e =
      let y = new_is o k new in
      let room = fits_channel k y.1 in
      let u = channel_stands s p l on in
      free_apart z x.words recs (ground_of s) P M g p j' i' f (channel l) u.0 owner u.1
      (in_table z.page_words (channel l) j' lj) (omega (arith, room, li))
      (sym (word_new o i' y.0) ∙ (e ∙ channel_word z x.words recs s P M p j' l on lj))

  leaves : LeavesChannels (moment x) next_words t (word_of_value z places') place' cell' at' IsNew 0
  leaves = record {
    long = length-set x.words (cell_at z f.page (f.fill + i)) (opening_word (content object i));
    heap = λ o k on. ap (λ (y : Heap). slice_get y.heap o) H.memory_is
        ∙ (get_append_left s.plain.memory.heap (object ∷ []) o (on_low o k on) ∙ on.0);
    was = was;
    same = λ o j k on l. above_fill z x.words recs s P M g i (opening_word (content object i)) f owner (let m = fits in omega (arith, small, m)) o j k on l;
    places = λ o k on. place_same o (on_low o k on);
    spots = λ o j k on l. cell_same o j (on_low o k on);
    ats = λ o k on. let l = on_low o k on in (
      put_else (I x).at.head n 0 o (λ e. omega (arith, e, l)),
      put_else (I x).at.lock n Unlocked o (λ e. omega (arith, e, l)),
      put_else (I x).at.phase n Calm o (λ e. omega (arith, e, l)),
    );
    codes = λ o j v k on e. codes_same v (λ p q. held_made T.code s x.core.sound.good o j p (channel k) on.0 (e ∙ ap Some q));
    sent = λ o j v nx. codes_same v (λ p q. operand_made T.code s x.core.sound.good x.core.sound.checked j Send (value.Object o) v p nx.before q);
    born = plus_zero (length t.holders) (length s.holders) as_many;
    born_calm = λ j k l e. absurd (let y = below t.holders j k e in let w = as_many in omega (arith, l, y, w));
    fresh = λ o k new. let y = new_is o k new in let q = it.fresh k y.1 in (
      q.0,
      q.1,
      put_here (I x).at.head n 0 o y.0,
      put_here (I x).at.lock n Unlocked o y.0,
      put_here (I x).at.phase n Calm o y.0,
    );
    fresh_words = λ o k new.
        let y = new_is o k new in
        let q = place_new o y.0 in
        let q1 : place' o + 1 ≡ cell_at z f.page (f.fill + 1) = omega (arith, q) in
        let room = fits_channel k y.1 in
        let pages = in_pages z.pages f.page z.page_words (f.fill + (1 + extent k.capacity)) page_in (omega (arith, room)) in
        let wide = (I x).memory.shows.wide in
        let same = length-set x.words (cell_at z f.page (f.fill + i)) (opening_word (content object i)) in (
          ap (slice_index next_words) q ∙ first_word k y.1,
          ap (slice_index next_words) q1 ∙ second_word k y.1,
          (it.fresh k y.1).2,
          subst (λ (n : ℕ). place' o + 2 + n ≤ length next_words)
              (sym (ap (λ b. if b then data_pages z.page_words (Channel k.capacity [] false) else extent k.capacity) (whole_channel k y.1)))
              (omega (arith, q, pages, wide, same)),
        );
    fresh_cells = λ o j k new lj.
        let y = new_is o k new in
        let q = place_new o y.0 in
        let w = cell_new o j y.0 in
        let room = fits_channel k y.1 in
        let pages = in_pages z.pages f.page z.page_words (f.fill + (2 + j)) page_in (omega (arith, room, lj)) in
        let wide = (I x).memory.shows.wide in
        let same = length-set x.words (cell_at z f.page (f.fill + i)) (opening_word (content object i)) in (
          omega (arith, w, pages, wide, same),
          λ sp. omega (arith, q, w),
        );
    fresh_differ = λ o j j' k new lj lj' e.
        let y = new_is o k new in
        let u = word_new o j y.0 in
        let v = word_new o j' y.0 in
        omega (arith, e, u, v);
    fresh_apart = apart;
    one_fresh = λ o p k l e e'. (new_is o k e).0 ∙ sym (new_is p l e').0;
  }
    where
      as_many : length t.holders ≡ length s.holders
      as_many = sym H.fit.as_many ∙ (length_set (map frame_of x.recs) g d' ∙ (I x).frames.as_many)

  pub channels_after : Channels T.code T.sizes.page_words (word_of_value z places') place' cell' next_words (slice_set side g c.side) t at'
  channels_after =
      subst (λ l. Channels T.code T.sizes.page_words (word_of_value z places') place' cell' next_words l t at')
      (append-nil side ∙ sym (set_again side g c.side (side_at x)))
      (event_keeps (moment x) g (Instruct (One g)) next_words t (word_of_value z places') place' cell' at' (new_channel n object) 0
      (side_at x ∙ ap Some rests) refl H.steps leaves)

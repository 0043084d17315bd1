-- The exchange that claims a page for a spread object. As in `Claims`. That the machine wants another page follows from the number of
-- reserved ones, which is the same in the record and the machine.
use Rattle.std.proofs.Common.{◌≡◌, ◌≢◌, inl, ℕ, zero, suc, ◌+◌, ◌<◌, ◌==◌, Bool, true, false, List, length, Option, Some, map, if◌then◌else◌, slice_get, slice_set, slice_index, refl, ap, sym, subst, ◌∙◌, arith}
use Rattle.std.proofs.lemmas.Bool.Decides.{nat_tests}
use Rattle.std.proofs.lemmas.Option.{same_Some}
use Rattle.rgo_sound.specs.Code.Code.{Do}
use Rattle.rgo_sound.specs.Memory.Memory.{Object}
use Rattle.rgo_sound.specs.RegionMachine.Machine.{TakePage, next_object}
use Rattle.rgo_sound.specs.RegionMachine.Objects.{fill_of, is_spread, is_too_large, making_region, wants_page, with_page as holder_with_page}
use Rattle.rgo_sound.specs.RegionMachine.Room.{pages_of}
use Rattle.rgo_sound.specs.RegionMachine.Owed.{code_function}
use Rattle.rgo_sound.specs.RegionMachine.States.{Holder, RegionState, top_names}
use Rattle.rgo_sound.specs.RegionMachine.declared.regions.Region.{Region}
use Rattle.rgo_sound.proofs.counts.Tally.{tally_adds}
use Rattle.rgo_sound.specs.Tally.{counts_plus, no_share}
use Rattle.rgo_sound.specs.Typed.declared.actions.Action.{Action}
use Rattle.rgo_core_channels.specs.Records.{at_rest}
use Rattle.rgo_core_frames.specs.steps.Before.{IsBefore}
use Rattle.rgo_core_frames.specs.steps.Makes.{MakesAt}
use Rattle.rgo_core_frames.specs.regions.Pages.{TakesPage, after_page}
use Rattle.rgo_core_frames.proofs.regions.Making.{region_law}
use Rattle.rgo_core_frames.proofs.regions.Paging.{page_law, wants_more}
use Rattle.rgo_core_memory.specs.Events.{NextMakesObjectIn}
use Rattle.rgo_core_memory.specs.Ground.{ground_of, held_of, taken_of}
use Rattle.rgo_core_memory.specs.Image.{StateImage, Where, word_at}
use Rattle.rgo_core_memory.specs.Pages.{Claimed}
use Rattle.rgo_core_memory.specs.Parts.{slot_of}
use Rattle.rgo_core_memory.specs.Records.{Idle, Rec as MemoryRec, Rest, with_reserved, with_tried_page, ClosesSlot}
use Rattle.rgo_core_memory.specs.Words.{put_at, state_at}
use Rattle.rgo_core_memory.specs.declared.layout.TableSizes.{TableSizes}
use Rattle.rgo_core_memory.proofs.regions.Attending.{makes_used, reserved_page_keeps}
use Rattle.rgo_core.proofs.pages.Claims.{live_so, mark_so, stays_so}
use Rattle.rgo_core_memory.proofs.image.Keeps.{tried_page_keeps}
use Rattle.rgo_core_memory.proofs.image.Stepped.{map_get}
use Rattle.rgo_core.specs.moves.Chains.{remembers}
use Rattle.rgo_core.specs.moves.Claims.{ReserveMove, reserves}
use Rattle.rgo_core.specs.Core.{Situation, Setup, layout}
use Rattle.rgo_core.specs.moves.NewObjects.{MakesObject, slot_number}
use Rattle.rgo_core.specs.Next.{IsAtOp}
use Rattle.rgo_core.specs.Records.{Record, accesses, counted, memory_of}
use Rattle.rgo_core.specs.Steps.{Steps}
use Rattle.rgo_core.proofs.steps.Attending.{attends}
use Rattle.rgo_core.proofs.pages.Chains.{look_image, remembered}
use Rattle.rgo_core.proofs.steps.Lift.{access_law}
use Rattle.rgo_core.proofs.new_objects.MakesObject.{Made, at, b, made as it_makes}
use Rattle.rgo_core.proofs.new_objects.NewObjects.{slot_is}
use Rattle.rgo_core.proofs.new_objects.NextObject.{next_is}
use Rattle.rgo_core.proofs.image.Parts.{I, frame_stays, shallow}
use Rattle.rgo_core_channels.proofs.Lists.{set_own}
use Rattle.rgo_core_memory.specs.Owed.{claimed_for}
use Rattle.rgo_core_memory.proofs.pages.Owing.{still_claimed}
use Rattle.rgo_core_memory.proofs.regions.Slots.{stake_open}
use Rattle.rgo_core_memory.proofs.image.Steadies.{steady_of}
use Rattle.rgo_core.specs.ties.Links.{Links}
use Rattle.rgo_core.proofs.accesses.Links.{FixedStay, Nowhere, Waits, all_kept, at_same, fixed_low, its_cell, its_own, links_by, links_with, owed_closing, slot_made}
use Rattle.rgo_core.proofs.pages.Room.{page_there}
use Rattle.rgo_core.proofs.image.Standing.{memory_at}
use Rattle.rgo_core.proofs.goroutines.Counting.{plus_zero}

module _ {T : Setup} {g : ℕ} {c : Record} (x : Situation T g c) (to : Option ℕ) (act : Action) (from removes : List ℕ)
    (a : IsAtOp T.code c (Do to act from removes)) (object : Object) (by_slot : Region) (p : ℕ) (rests : c.side ≡ at_rest)
    (mk : MakesObject T.code a.w to act from object)
    (making : making_region (code_function T.code a.w.function) (top_names c.frame.holder.environments) a.instr.op ≡ Some by_slot)
    (spread : is_spread T.sizes.page_words object ≡ true) (small : is_too_large T.sizes.page_words object ≡ false)
    (few : length c.memory.reserved.pages < pages_of T.sizes.page_words object)
    (idle : c.memory.claim ≡ Idle) (resting : c.memory.make ≡ Rest) (low : p < T.sizes.pages) where
  abbrev z : TableSizes
  z = layout T

  abbrev sl : ℕ
  sl = slot_number z by_slot

  slotted : 0 < length c.memory.reserved.pages → c.memory.reserved.slot ≡ sl
  slotted some = slot_made x a by_slot making some

  abbrev recs : List MemoryRec
  recs = map memory_of x.recs

  tried_steps : slice_index x.words (state_at z p) ≢ 0
      → Steps x (slice_set x.words (state_at z p) (slice_index x.words (state_at z p))) (remembers c (with_tried_page c.memory p))
  tried_steps ne = remembered x _ _ (look_image x (state_at z p) (omega (arith, low)) _ _
      (tried_page_keeps T.code z x.words recs x.s (I x).places g c.memory x.core.sound.good (I x).memory (memory_at x) p low ne))
      (links_with x (slice_set x.words (state_at z p) (slice_index x.words (state_at z p)))
      (λ o n at r stands l fixed. ap (λ (w : List ℕ). slice_index w (word_at z (I x).places o n)) (set_own x.words (state_at z p)))
      (λ r. ap (λ (w : List ℕ). claimed_for z w r) (set_own x.words (state_at z p)))
      (remembers c (with_tried_page c.memory p)) (all_kept refl refl refl refl) (Waits refl refl refl))

  abbrev B : IsBefore T.code (I x).places.slot (I x).addresses x.s g c.frame a.w a.ws a.instr
  B = b x to act from removes a object

  abbrev h : Holder
  h = B.h

  region : MakesAt (at x to act from removes a object) by_slot
  region = region_law (at x to act from removes a object) by_slot making

  abbrev r : Region
  r = region.region

  in_slot : slot_of z (I x).places.slot r ≡ sl
  in_slot = sym (slot_is z (I x).places.slot r) ∙ ap (slot_number z) region.slot_is

  makes_in : NextMakesObjectIn T.code x.s g h r
  makes_in = (B.frame, B.callers, a.instr, B.at, B.cur, region.makes)

  it : Made x to act from removes a object
  it = it_makes x to act from removes a object mk

  next : next_object T.code x.s g ≡ Some object
  next = next_is x to act from removes a object 1073741820 (omega arith) mk

  -- no more pages are reserved in the region machine than the record has
  reserved : (m : ℕ) → h.reserved ≡ m → h.reserved < pages_of T.sizes.page_words object
  reserved zero e = omega (arith, e)
  reserved (suc m) e =
      let q = (I x).memory.filled.recorded g (held_of h) (map_get held_of x.s.holders g h B.there) (omega (arith, e)) in
      let same : q.0 ≡ c.memory = same_Some q.0 c.memory (sym q.1 ∙ memory_at x) in
      let many : h.reserved ≡ length c.memory.reserved.pages = q.2 ∙ ap (λ (y : MemoryRec). length y.reserved.pages) same in
      let l = few in omega (arith, many, l)

  wants : wants_page T.sizes.page_words h.reserved (fill_of h.fills r) object ≡ true
  wants = wants_more T.sizes.page_words h.reserved (fill_of h.fills r) object spread small (reserved h.reserved refl)

  -- the holder after it
  abbrev paged : Holder
  paged = holder_with_page T.sizes.page_words h r object

  abbrev t : RegionState
  t = after_page (at x to act from removes a object) r object

  P : TakesPage (at x to act from removes a object) r object
  P = page_law (at x to act from removes a object) r object region.makes next wants

  counts : counted (reserves c p sl).clock ≡ counts_plus (counted c.clock) (record no_share { taken = 1 })
  counts = λ i. record {
    made = plus_zero c.clock.share.made c.clock.share.made refl i;
    removed = plus_zero c.clock.share.removed c.clock.share.removed refl i;
    taken = (let e : suc c.clock.share.taken ≡ c.clock.share.taken + 1 = omega arith in e) i;
    returned = plus_zero (c.clock.share.returned + c.clock.owed) (c.clock.share.returned + c.clock.owed) refl i;
    steps = plus_zero c.clock.share.steps c.clock.share.steps refl i;
    objects = plus_zero c.clock.share.objects c.clock.share.objects refl i;
    goroutines = plus_zero c.clock.share.goroutines c.clock.share.goroutines refl i;
  }

  abbrev P' : Where
  P' = record (I x).places { at = put_at (I x).places.at p (Claimed g); page = put_at (I x).places.page (taken_of (ground_of x.s)) p }

  module _ (none : slice_index x.words (state_at z p) ≡ 0) where
    M : StateImage z (slice_set x.words (state_at z p) (suc sl)) (slice_set recs g (with_reserved c.memory p sl)) t P'
    M = subst (λ k. StateImage z (slice_set x.words (state_at z p) (suc k)) (slice_set recs g (with_reserved c.memory p k)) t P') in_slot
        (reserved_page_keeps T.code z x.words recs x.s t g p h r c.memory x.core.sound.good (I x).places (I x).memory B.there (memory_at x) makes_in
        (object, next, spread) (λ some. slotted some ∙ sym in_slot) P.steps
        idle resting low none)

    -- a chain that is being returned has another slot
    other_slot : (j t : ℕ) (e : Record) → slice_get x.recs j ≡ Some e → ClosesSlot e.memory.give t → t ≢ sl
    other_slot j t e is closes same =
        stake_open z x.words recs (ground_of x.s) (I x).places (I x).memory (steady_of T.code x.s x.core.sound.good) g j sl e.memory
        (held_of h, r, map_get held_of x.s.holders g h B.there, makes_used T.code x.s g h r x.core.sound.good B.there makes_in, in_slot)
        (map_get memory_of x.recs j e is) (subst (ClosesSlot e.memory.give) same closes)

    links : Links T.code z (slice_set x.words (state_at z p) (suc sl)) (slice_set x.recs g (reserves c p sl))
    links = links_by x words fixed d (λ j t e ne is closes. claimed j t e is closes) (record {
      owed = owed_closing x words fixed claimed d refl refl;
      knows = its_own x words fixed d refl (Nowhere refl refl);
      finds = its_cell x words fixed d refl (Nowhere refl refl);
      reserved = λ some. record { op = Do to act from removes; a = at_same T.code c d refl a; by_slot = by_slot; making = making; slotted = refl };
    })
      where
        words : List ℕ
        words = slice_set x.words (state_at z p) (suc sl)

        d : Record
        d = reserves c p sl

        fixed : FixedStay x words
        fixed = fixed_low x (state_at z p) (suc sl) (omega (arith, low))

        claimed : (j t : ℕ) (e : Record) → slice_get x.recs j ≡ Some e → ClosesSlot e.memory.give t → claimed_for z words t ≡ claimed_for z x.words t
        claimed j t e is closes = still_claimed.claim z x.words recs x.s (I x).places (I x).memory p sl t low none (other_slot j t e is closes)

    claimed_steps : Steps x (slice_set x.words (state_at z p) (suc sl)) (reserves c p sl)
    claimed_steps = inl (attends x rests (TakePage g) refl t P.steps (page_there x p low none) (stays_so x.s g paged r) (reserves c p sl).clock c.frame (with_reserved c.memory p sl)
        (I x).places.slot (I x).places.uses (put_at (I x).places.at p (Claimed g)) (put_at (I x).places.page (taken_of (ground_of x.s)) p)
        (state_at z p) (suc sl) (omega (arith, low)) (λ o q e l. sym (live_so x.s g paged r q) ∙ l)
        (frame_stays x t (I x).places.slot (I x).addresses P.fit) M links
        (record no_share { taken = 1 }) (tally_adds T.code T.sizes.page_words x.s t (TakePage g) P.steps) counts (shallow x) (mark_so x.s g paged r)
        (record { prints = refl; first = refl; children = refl; refused = refl }))

pub reserve_move : ReserveMove
reserve_move T g c to act from removes a object by_slot p rests mk making spread small few idle resting low =
    access_law T g c (state_at (layout T) p) (λ n. if n == 0 then suc (slot_number (layout T) by_slot) else n)
    (λ n. if n == 0 then reserves c p (slot_number (layout T) by_slot) else remembers c (with_tried_page c.memory p)) (omega arith)
    (λ n. counted_so (n == 0))
    (λ x fits. by x (slice_index x.words (state_at (layout T) p) == 0) refl)
  where
    counted_so : (b : Bool) → accesses (if b then reserves c p (slot_number (layout T) by_slot) else remembers c (with_tried_page c.memory p))
        ≡ suc (accesses c)
    counted_so true = refl
    counted_so false = refl

    by : (x : Situation T g c) (b : Bool) → (slice_index x.words (state_at (layout T) p) == 0) ≡ b
        → Steps x (slice_set x.words (state_at (layout T) p)
        (if b then suc (slot_number (layout T) by_slot) else slice_index x.words (state_at (layout T) p)))
        (if b then reserves c p (slot_number (layout T) by_slot) else remembers c (with_tried_page c.memory p))
    by x true e = claimed_steps x to act from removes a object by_slot p rests mk making spread small few idle resting low (grind (arith, nat_tests))
    by x false e = tried_steps x to act from removes a object by_slot p rests mk making spread small few idle resting low (grind (arith, nat_tests))

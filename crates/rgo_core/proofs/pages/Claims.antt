-- The exchange that claims a page. Found free, it is the machine's step, which has room because the page was free. Found in use, only the
-- record changes. A chain that another goroutine returns is of another slot, so its links stay.
use Rattle.std.proofs.Common.{◌≡◌, ◌≢◌, inl, ℕ, zero, suc, ◌+◌, ◌<◌, ◌≤◌, ◌==◌, Bool, true, false, List, [], ◌∷◌, nat_le, Option, Some, None, map, if◌then◌else◌, slice_get, slice_set, slice_index, refl, ap, sym, subst, ◌∙◌, arith}
use Rattle.std.proofs.lemmas.Bool.Decides.{nat_tests}
use Rattle.std.proofs.lemmas.Option.{same_Some}
use Rattle.rgo_sound.specs.Code.Code.{Do}
use Rattle.rgo_sound.specs.Memory.Memory.{Object}
use Rattle.rgo_sound.specs.RegionMachine.Machine.{TakePage, next_object, page_taken}
use Rattle.rgo_sound.specs.RegionMachine.Objects.{fill_of, fits_in_page, is_spread, making_region, wants_page, with_page as holder_with_page, object_words as words_of}
use Rattle.rgo_sound.specs.RegionMachine.Owed.{code_function}
use Rattle.rgo_sound.specs.RegionMachine.Regions.{RegionInfo, has_stakes, is_live, one_page_more, with_info}
use Rattle.rgo_sound.specs.RegionMachine.States.{Holder, RegionState, top_names}
use Rattle.rgo_sound.specs.RegionMachine.declared.regions.Region.{Region}
use Rattle.rgo_sound.specs.RegionMachine.declared.regions.Region.TheVariants.{Global as GlobalRegion, Numbered}
use Rattle.rgo_sound.proofs.counts.Tally.{tally_adds}
use Rattle.rgo_sound.specs.Tally.{counts_plus, no_share}
use Rattle.rgo_sound.specs.Typed.declared.actions.Action.{Action}
use Rattle.rgo_core_channels.specs.Records.{at_rest}
use Rattle.rgo_core_frames.specs.steps.Before.{IsBefore}
use Rattle.rgo_core_frames.specs.steps.Makes.{MakesAt}
use Rattle.rgo_core_frames.specs.regions.Pages.{TakesPage, after_page}
use Rattle.rgo_core_frames.proofs.regions.Making.{region_law}
use Rattle.rgo_core_frames.proofs.regions.Paging.{page_law, wants_own}
use Rattle.rgo_core_memory.specs.Events.{NextMakesObjectIn}
use Rattle.rgo_core_memory.specs.Ground.{ground_of, held_of, taken_of}
use Rattle.rgo_core_memory.specs.Image.{StateImage, Where, word_at}
use Rattle.rgo_core_memory.specs.Pages.{Claimed}
use Rattle.rgo_core_memory.specs.Parts.{slot_of}
use Rattle.rgo_core_memory.specs.Records.{Fill, Idle, Rec as MemoryRec, Rest, Within, with_own_page, with_tried_page, ClosesSlot}
use Rattle.rgo_core_memory.specs.Words.{put_at, state_at}
use Rattle.rgo_core_memory.specs.declared.layout.TableSizes.{TableSizes}
use Rattle.rgo_core_memory.proofs.regions.Attending.{makes_used, page_keeps}
use Rattle.rgo_core_memory.proofs.objects.Spreads.{whole_of}
use Rattle.rgo_core_memory.proofs.image.Keeps.{tried_page_keeps}
use Rattle.rgo_core_memory.proofs.image.Stepped.{map_get}
use Rattle.rgo_core.specs.moves.Chains.{remembers}
use Rattle.rgo_core.specs.moves.Claims.{ClaimMove, claims}
use Rattle.rgo_core.specs.Core.{Situation, Setup, layout}
use Rattle.rgo_core.specs.moves.NewObjects.{MakesObject, slot_number}
use Rattle.rgo_core.specs.Next.{IsAtOp}
use Rattle.rgo_core.specs.Records.{Record, accesses, counted, memory_of}
use Rattle.rgo_core.specs.Steps.{Steps}
use Rattle.rgo_core.proofs.steps.Attending.{MemoryStays, attends}
use Rattle.rgo_core.proofs.pages.Chains.{look_image, remembered}
use Rattle.rgo_core.proofs.steps.Lift.{access_law}
use Rattle.rgo_core.proofs.new_objects.MakesObject.{Made, at, b, made as it_makes}
use Rattle.rgo_core.proofs.new_objects.NewObjects.{slot_is}
use Rattle.rgo_core.proofs.new_objects.NextObject.{next_is}
use Rattle.rgo_core.proofs.image.Parts.{I, frame_stays, shallow}
use Rattle.rgo_core_channels.proofs.Lists.{set_own}
use Rattle.rgo_core_memory.specs.Owed.{claimed_for}
use Rattle.rgo_core_memory.proofs.pages.Owing.{still_claimed}
use Rattle.rgo_core_memory.proofs.regions.Slots.{stake_open}
use Rattle.rgo_core_memory.proofs.image.Steadies.{steady_of}
use Rattle.rgo_core.specs.ties.Links.{Links}
use Rattle.rgo_core.proofs.accesses.Links.{Waits, all_kept, fixed_low, links_closing, links_with}
use Rattle.rgo_core.proofs.pages.Room.{page_there}
use Rattle.rgo_core.proofs.image.Standing.{memory_at}
use Rattle.rgo_core.proofs.goroutines.Counting.{plus_zero}

-- ---- one page more leaves all else

more_pages : (regions : List RegionInfo) (k j : ℕ)
    → has_stakes (slice_get (with_info regions k one_page_more) j) ≡ has_stakes (slice_get regions j)
more_pages [] k j = refl
more_pages (i ∷ is) zero zero = refl
more_pages (i ∷ is) zero (suc j) = refl
more_pages (i ∷ is) (suc k) zero = refl
more_pages (i ∷ is) (suc k) (suc j) = more_pages is k j

module _ (s : RegionState) (g : ℕ) (h : Holder) where
  pub live_so : (r q : Region) → is_live (page_taken s g h r).regions q ≡ is_live s.regions q
  live_so GlobalRegion q = refl
  live_so (Numbered k) GlobalRegion = refl
  live_so (Numbered k) (Numbered j) = more_pages s.regions k j

  pub stays_so : (r : Region) → MemoryStays s (page_taken s g h r)
  stays_so GlobalRegion = record { memory = refl; owners = refl; printed = refl }
  stays_so (Numbered k) = record { memory = refl; owners = refl; printed = refl }

  pub mark_so : (r : Region) → (page_taken s g h r).mark ≡ s.mark
  mark_so GlobalRegion = refl
  mark_so (Numbered k) = refl

module _ {T : Setup} {g : ℕ} {c : Record} (x : Situation T g c) (to : Option ℕ) (act : Action) (from removes : List ℕ)
    (a : IsAtOp T.code c (Do to act from removes)) (object : Object) (by_slot : Region) (p : ℕ) (rests : c.side ≡ at_rest)
    (mk : MakesObject T.code a.w to act from object)
    (making : making_region (code_function T.code a.w.function) (top_names c.frame.holder.environments) a.instr.op ≡ Some by_slot)
    (small : words_of object ≤ T.sizes.page_words)
    (full : (f : Fill) → Within f c.memory.fills → f.slot ≡ slot_number (layout T) by_slot → T.sizes.page_words < f.fill + words_of object)
    (idle : c.memory.claim ≡ Idle) (resting : c.memory.make ≡ Rest) (low : p < T.sizes.pages) where
  abbrev z : TableSizes
  z = layout T

  abbrev sl : ℕ
  sl = slot_number z by_slot

  abbrev recs : List MemoryRec
  recs = map memory_of x.recs

  tried_steps : slice_index x.words (state_at z p) ≢ 0
      → Steps x (slice_set x.words (state_at z p) (slice_index x.words (state_at z p))) (remembers c (with_tried_page c.memory p))
  tried_steps ne = remembered x _ _ (look_image x (state_at z p) (omega (arith, low)) _ _
      (tried_page_keeps T.code z x.words recs x.s (I x).places g c.memory x.core.sound.good (I x).memory (memory_at x) p low ne))
      (links_with x (slice_set x.words (state_at z p) (slice_index x.words (state_at z p)))
      (λ o n at r stands l fixed. ap (λ (w : List ℕ). slice_index w (word_at z (I x).places o n)) (set_own x.words (state_at z p)))
      (λ r. ap (λ (w : List ℕ). claimed_for z w r) (set_own x.words (state_at z p)))
      (remembers c (with_tried_page c.memory p)) (all_kept refl refl refl refl) (Waits refl refl refl))

  abbrev B : IsBefore T.code (I x).places.slot (I x).addresses x.s g c.frame a.w a.ws a.instr
  B = b x to act from removes a object

  abbrev h : Holder
  h = B.h

  region : MakesAt (at x to act from removes a object) by_slot
  region = region_law (at x to act from removes a object) by_slot making

  abbrev r : Region
  r = region.region

  in_slot : slot_of z (I x).places.slot r ≡ sl
  in_slot = sym (slot_is z (I x).places.slot r) ∙ ap (slot_number z) region.slot_is

  makes_in : NextMakesObjectIn T.code x.s g h r
  makes_in = (B.frame, B.callers, a.instr, B.at, B.cur, region.makes)

  it : Made x to act from removes a object
  it = it_makes x to act from removes a object mk

  whole : is_spread T.sizes.page_words object ≡ false
  whole = whole_of T.sizes.page_words object small

  next : next_object T.code x.s g ≡ Some object
  next = next_is x to act from removes a object 1073741820 (omega arith) mk

  wants : wants_page T.sizes.page_words h.reserved (fill_of h.fills r) object ≡ true
  wants = wants_own T.sizes.page_words h.reserved (fill_of h.fills r) object whole (unfit (fill_of h.fills r) refl)
    where
      untrue : (m k : ℕ) → k < m → nat_le m k ≡ false
      untrue m k l = grind (arith, nat_tests)

      over : (m : ℕ) → fill_of h.fills r ≡ Some m → T.sizes.page_words < m + words_of object
      over m e =
          let o = (I x).memory.filled.owned g m (held_of h) r (map_get held_of x.s.holders g h B.there)
          (makes_used T.code x.s g h r x.core.sound.good B.there makes_in) e in
          let same : o.1.0 ≡ c.memory = same_Some o.1.0 c.memory (sym o.1.1 ∙ memory_at x) in
          let f = full o.0 (subst (λ (y : MemoryRec). Within o.0 y.fills) same o.1.2) (o.2 ∙ in_slot) in
          let q = o.3 in omega (arith, f, q)

      unfit : (o : Option ℕ) → fill_of h.fills r ≡ o → fits_in_page T.sizes.page_words o (words_of object) ≡ false
      unfit None e = refl
      unfit (Some m) e = untrue (m + words_of object) T.sizes.page_words (over m e)

  -- the holder after it
  abbrev paged : Holder
  paged = holder_with_page T.sizes.page_words h r object

  abbrev t : RegionState
  t = after_page (at x to act from removes a object) r object

  P : TakesPage (at x to act from removes a object) r object
  P = page_law (at x to act from removes a object) r object region.makes next wants

  counts : counted (claims c p sl).clock ≡ counts_plus (counted c.clock) (record no_share { taken = 1 })
  counts = λ i. record {
    made = plus_zero c.clock.share.made c.clock.share.made refl i;
    removed = plus_zero c.clock.share.removed c.clock.share.removed refl i;
    taken = (let e : suc c.clock.share.taken ≡ c.clock.share.taken + 1 = omega arith in e) i;
    returned = plus_zero (c.clock.share.returned + c.clock.owed) (c.clock.share.returned + c.clock.owed) refl i;
    steps = plus_zero c.clock.share.steps c.clock.share.steps refl i;
    objects = plus_zero c.clock.share.objects c.clock.share.objects refl i;
    goroutines = plus_zero c.clock.share.goroutines c.clock.share.goroutines refl i;
  }

  abbrev P' : Where
  P' = record (I x).places { at = put_at (I x).places.at p (Claimed g); page = put_at (I x).places.page (taken_of (ground_of x.s)) p }

  module _ (none : slice_index x.words (state_at z p) ≡ 0) where
    M : StateImage z (slice_set x.words (state_at z p) (suc sl)) (slice_set recs g (with_own_page c.memory p sl)) t P'
    M = subst (λ k. StateImage z (slice_set x.words (state_at z p) (suc k)) (slice_set recs g (with_own_page c.memory p k)) t P') in_slot
        (page_keeps T.code z x.words recs x.s t g p h r c.memory x.core.sound.good (I x).places (I x).memory B.there (memory_at x) makes_in
        (object, next, whole) P.steps
        idle resting low none)

    -- a chain that is being returned has another slot
    other_slot : (j t : ℕ) (e : Record) → slice_get x.recs j ≡ Some e → ClosesSlot e.memory.give t → t ≢ sl
    other_slot j t e is closes same =
        stake_open z x.words recs (ground_of x.s) (I x).places (I x).memory (steady_of T.code x.s x.core.sound.good) g j sl e.memory
        (held_of h, r, map_get held_of x.s.holders g h B.there, makes_used T.code x.s g h r x.core.sound.good B.there makes_in, in_slot)
        (map_get memory_of x.recs j e is) (subst (ClosesSlot e.memory.give) same closes)

    links : Links T.code z (slice_set x.words (state_at z p) (suc sl)) (slice_set x.recs g (claims c p sl))
    links = links_closing x (slice_set x.words (state_at z p) (suc sl)) (fixed_low x (state_at z p) (suc sl) (omega (arith, low)))
        (λ j t e is closes. still_claimed.claim z x.words recs x.s (I x).places (I x).memory p sl t low none (other_slot j t e is closes))
        (claims c p sl) (all_kept refl refl refl refl) (Waits refl refl refl)

    claimed_steps : Steps x (slice_set x.words (state_at z p) (suc sl)) (claims c p sl)
    claimed_steps = inl (attends x rests (TakePage g) refl t P.steps (page_there x p low none) (stays_so x.s g paged r) (claims c p sl).clock c.frame (with_own_page c.memory p sl)
        (I x).places.slot (I x).places.uses (put_at (I x).places.at p (Claimed g)) (put_at (I x).places.page (taken_of (ground_of x.s)) p)
        (state_at z p) (suc sl) (omega (arith, low)) (λ o q e l. sym (live_so x.s g paged r q) ∙ l)
        (frame_stays x t (I x).places.slot (I x).addresses P.fit) M links
        (record no_share { taken = 1 }) (tally_adds T.code T.sizes.page_words x.s t (TakePage g) P.steps) counts (shallow x) (mark_so x.s g paged r)
        (record { prints = refl; first = refl; children = refl; refused = refl }))

pub claim_move : ClaimMove
claim_move T g c to act from removes a object by_slot p rests mk making small full idle resting low =
    access_law T g c (state_at (layout T) p) (λ n. if n == 0 then suc (slot_number (layout T) by_slot) else n)
    (λ n. if n == 0 then claims c p (slot_number (layout T) by_slot) else remembers c (with_tried_page c.memory p)) (omega arith)
    (λ n. counted_so (n == 0))
    (λ x fits. by x (slice_index x.words (state_at (layout T) p) == 0) refl)
  where
    counted_so : (b : Bool) → accesses (if b then claims c p (slot_number (layout T) by_slot) else remembers c (with_tried_page c.memory p))
        ≡ suc (accesses c)
    counted_so true = refl
    counted_so false = refl

    by : (x : Situation T g c) (b : Bool) → (slice_index x.words (state_at (layout T) p) == 0) ≡ b
        → Steps x (slice_set x.words (state_at (layout T) p)
        (if b then suc (slot_number (layout T) by_slot) else slice_index x.words (state_at (layout T) p)))
        (if b then claims c p (slot_number (layout T) by_slot) else remembers c (with_tried_page c.memory p))
    by x true e = claimed_steps x to act from removes a object by_slot p rests mk making small full idle resting low (grind (arith, nat_tests))
    by x false e = tried_steps x to act from removes a object by_slot p rests mk making small full idle resting low (grind (arith, nat_tests))

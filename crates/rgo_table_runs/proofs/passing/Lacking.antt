-- A goroutine that lacks a page or a slot is about to take one in the state of the run, too: so the limit is a cause to end, not only the
-- table's way to fill.
use Rattle.std.proofs.Common.{◌≡◌, inl, inr, ℕ, zero, suc, ◌+◌, ◌<◌, ◌≤◌, true, false, List, ◌∷◌, Some, length, slice_get, refl, ap, sym, subst, ◌∙◌, ⊎_elim, arith}
use Rattle.std.proofs.lemmas.Option.{same_Some}
use Rattle.rgo_core.proofs.new_objects.MakesObject.{Made, at, b, made as it_makes}
use Rattle.rgo_core.proofs.new_objects.NewObjects.{slot_is}
use Rattle.rgo_core.proofs.image.Parts.{I}
use Rattle.rgo_core.proofs.image.Standing.{frame_at, memory_at}
use Rattle.rgo_core.specs.Core.{Situation, Setup, layout}
use Rattle.rgo_core.specs.moves.NewObjects.{slot_number}
use Rattle.rgo_core.specs.Records.{Record}
use Rattle.rgo_core.proofs.Frames.regions.Creating.{create_duty}
use Rattle.rgo_core.proofs.Frames.regions.Making.{region_law}
use Rattle.rgo_core.proofs.Frames.regions.StakeDuties.{OwesFirst, owes_first, past_owes}
use Rattle.rgo_core.specs.Frames.steps.Before.{IsBefore}
use Rattle.rgo_core.specs.Frames.Fits.{RecordFits, IsPast, IsShown}
use Rattle.rgo_core.specs.Frames.steps.Makes.{MakesAt}
use Rattle.rgo_core.proofs.Memory.regions.Attending.{makes_used}
use Rattle.rgo_core.proofs.Memory.image.Existing.{page_exists, reserved_page_exists}
use Rattle.rgo_core.proofs.Memory.image.Stepped.{map_get}
use Rattle.rgo_core.specs.Memory.Events.{NextMakesObjectIn}
use Rattle.rgo_core.specs.Memory.Ground.{held_of}
use Rattle.rgo_core.specs.Memory.Parts.{slot_of}
use Rattle.rgo_core.specs.Memory.Exists.{HolderSettled}
use Rattle.rgo_core.specs.Memory.Records.{Fill, Rec as MemoryRec, Within}
use Rattle.rgo_core_steps.specs.Counts.{IsCreating}
use Rattle.rgo_core_steps.specs.Making.{RecordMakesNext, NeedsPage}
use Rattle.rgo_sound.specs.Memory.Memory.{Object}
use Rattle.rgo_sound.specs.RegionMachine.Machine.{TakePage, region_step}
use Rattle.rgo_sound.specs.RegionMachine.Objects.{data_pages, is_spread, is_too_large, object_words as words_of}
use Rattle.rgo_sound.specs.RegionMachine.Room.{pages_of}
use Rattle.rgo_sound.specs.RegionMachine.States.{Create, Duty, Holder, RegionState}

-- the page of an object that the next instruction makes
module _ {T : Setup} {g : ℕ} {c : Record} (x : Situation T g c) (slot : ℕ) (object : Object) (n : RecordMakesNext T c object slot) where
  abbrev before : IsBefore T.code (I x).places.slot (I x).addresses x.s g c.frame n.here.w n.here.ws n.here.instr
  before = b x n.to n.act n.from n.removes n.here object

  region : MakesAt (at x n.to n.act n.from n.removes n.here object) n.region
  region = region_law (at x n.to n.act n.from n.removes n.here object) n.region n.in_region

  in_slot : slot_of (layout T) (I x).places.slot region.region ≡ slot
  in_slot = sym (slot_is (layout T) (I x).places.slot region.region) ∙ (ap (slot_number (layout T)) region.slot_is ∙ n.in_slot)

  makes_in : NextMakesObjectIn T.code x.s g before.h region.region
  makes_in = (before.frame, before.callers, n.here.instr, before.at, before.cur, region.makes)

  it : Made x n.to n.act n.from n.removes n.here object
  it = it_makes x n.to n.act n.from n.removes n.here object n.makes

  settled : HolderSettled x.s g before.h
  settled = record { running = x.core.sound.running; there = before.there; owes = before.none; free = before.free }

  abbrev Takes : Type 0
  Takes = (t : RegionState) × (region_step T.code T.sizes.page_words x.s (TakePage g) ≡ Some t)

  takes_own : words_of object ≤ T.sizes.page_words
      → ((f : Fill) → Within f c.memory.fills → f.slot ≡ slot → T.sizes.page_words < f.fill + words_of object) → Takes
  takes_own fits full = page_exists T.code T.sizes.page_words x.s g before.h region.region object x.core.sound.good settled
      (it.next region.region region.makes) fits
      (λ m e. let o = (I x).memory.filled.owned g m (held_of before.h) region.region (map_get held_of x.s.holders g before.h before.there)
      (makes_used T.code x.s g before.h region.region x.core.sound.good before.there makes_in) e in
      let same : o.1.0 ≡ c.memory = same_Some o.1.0 c.memory (sym o.1.1 ∙ memory_at x) in
      let f = full o.0 (subst (λ (y : MemoryRec). Within o.0 y.fills) same o.1.2) (o.2 ∙ in_slot) in
      let q = o.3 in omega (arith, f, q))

  -- no more pages are reserved in the region machine than the record has
  few_reserved : (most m : ℕ) → before.h.reserved ≡ m → length c.memory.reserved.pages ≤ most → before.h.reserved ≤ most
  few_reserved most zero e low = omega (arith, e)
  few_reserved most (suc m) e low =
      let q = (I x).memory.filled.recorded g (held_of before.h) (map_get held_of x.s.holders g before.h before.there) (omega (arith, e)) in
      let same : q.0 ≡ c.memory = same_Some q.0 c.memory (sym q.1 ∙ memory_at x) in
      let many : before.h.reserved ≡ length c.memory.reserved.pages = q.2 ∙ ap (λ (y : MemoryRec). length y.reserved.pages) same in
      omega (arith, many, low)

  takes_reserved : is_spread T.sizes.page_words object ≡ true → is_too_large T.sizes.page_words object ≡ false
      → length c.memory.reserved.pages < pages_of T.sizes.page_words object → Takes
  takes_reserved spread small more =
      reserved_page_exists T.code T.sizes.page_words x.s g before.h region.region object x.core.sound.good settled
      (it.next region.region region.makes) spread small
      (few_reserved (data_pages T.sizes.page_words object) before.h.reserved refl (omega (arith, more)))

pub takes_page : {T : Setup} {g : ℕ} {c : Record} (x : Situation T g c) (slot : ℕ) → NeedsPage T c slot
    → (t : RegionState) × (region_step T.code T.sizes.page_words x.s (TakePage g) ≡ Some t)
takes_page x slot (inl n) = takes_own x slot n.object n.next n.fits n.full
takes_page x slot (inr n) = takes_reserved x slot n.object n.next n.spread n.small n.more

module _ {T : Setup} {g : ℕ} {c : Record} (x : Situation T g c) (creates : IsCreating c) where
  abbrev fitted : RecordFits T.code (I x).places.slot (I x).addresses x.s g c.frame
  fitted = (I x).frames.each g c.frame (frame_at x)

  shown : IsShown T.code (I x).places.slot (I x).addresses fitted.frames fitted.h c.frame
  shown = ⊎_elim (λ y. y)
      (λ (y : IsPast T.code (I x).places.slot (I x).addresses fitted.frames fitted.h c.frame).
      absurd (past_owes T.code (I x).places.slot (I x).addresses fitted.frames fitted.h c.frame (Create creates.0) creates.1 y creates.2)) fitted.fits

  first : OwesFirst (I x).places.slot fitted.h (Create creates.0) creates.1
  first = owes_first (I x).places.slot fitted.h (Create creates.0) creates.1 (ap (λ (y : Holder). y.duties) (sym shown.holder) ∙ creates.2)

  pub owes_creation : (h : Holder) × (duties : List Duty) × (slice_get x.s.holders g ≡ Some h) × (h.duties ≡ Create creates.0 ∷ duties)
  owes_creation = (
    fitted.h,
    first.others,
    fitted.there,
    first.owed ∙ ap (λ y. y ∷ first.others) (create_duty (I x).places.slot first.duty creates.0 first.is_duty),
  )

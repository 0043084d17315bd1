-- A page is taken: the records fit after it, since which regions are live does not change.
use Rattle.std.proofs.Common.{◌≡◌, ◌≤◌, ◌<◌, ℕ, Bool, true, false, not, ◌&&◌, nat_le, arith, List, [], ◌∷◌, length, Option, Some, None, refl, sym, ap, ◌∙◌, subst, inl}
use Rattle.std.proofs.Common.{slice_get, slice_set, append-nil, nat_eq, if◌then◌else◌, option_and_then, option_map}
use Rattle.rgo_sound.specs.Code.Checked.{IsChecked}
use Rattle.rgo_sound.specs.Code.Code.{Code, CodeInstr}
use Rattle.rgo_sound.specs.Memory.Memory.{Object}
use Rattle.rgo_sound.specs.RegionMachine.declared.regions.Region.{Region}
use Rattle.rgo_sound.specs.RegionMachine.declared.regions.Region.TheVariants.{Global as GlobalRegion, Numbered}
use Rattle.rgo_sound.specs.RegionMachine.Duties.{may_go}
use Rattle.rgo_sound.specs.RegionMachine.Instructions.{has_none}
use Rattle.rgo_sound.specs.RegionMachine.Machine.{TakePage, next_object, page_before, page_for, page_taken, region_step, take_page, takes_page}
use Rattle.rgo_sound.specs.RegionMachine.Objects.{data_pages, fill_of, fits_in_page, is_spread, is_too_large, making_region, wants_page, with_page, object_words}
use Rattle.rgo_sound.specs.RegionMachine.Room.{pages_of}
use Rattle.rgo_sound.specs.RegionMachine.Owed.{function_at}
use Rattle.rgo_sound.specs.RegionMachine.Regions.{RegionInfo, has_stakes, is_live, one_page_more, with_info}
use Rattle.rgo_sound.specs.RegionMachine.States.{Holder, RegionState, frames_in, frames_of, top_names}
use Rattle.rgo_sound.proofs.duties.Attends.{with_info_other, with_info_same}
use Rattle.rgo_sound.proofs.offers.Offers.{class_has_stake, making_class}
use Rattle.rgo_sound.proofs.Tests.{eq_of, split}
use Rattle.rgo_sound.proofs.pointers.Steps.{Top}
use Rattle.rgo_sound.specs.Good.{AllGood}
use Rattle.rgo_core_frames.specs.steps.Before.{IsBefore}
use Rattle.rgo_core_frames.specs.Fits.{RecordsFit, IsOfLive, IsShown, ObjectsDiffer}
use Rattle.rgo_core_frames.specs.regions.Pages.{PageLaw, after_page}
use Rattle.rgo_core_frames.specs.Records.{FramesRec}
use Rattle.rgo_core_frames.specs.shown.Variables.{FramesShow}
use Rattle.rgo_core_frames.specs.shown.WordFrames.{WordFrame}
use Rattle.rgo_core_frames.proofs.Keeping.{Changes, all_fit_after}
use Rattle.rgo_sound.proofs.steps.Acting.{set_same}
use Rattle.rgo_core_frames.proofs.Standing.{top}
use Rattle.rgo_sound.proofs.Progress.{live_of}
use Rattle.rgo_core_frames.proofs.Leaving.{leaves_rest}

-- one page more leaves which regions are live
page_live : (regions : List RegionInfo) (r q : ℕ) → is_live (with_info regions r one_page_more) (Numbered q) ≡ true
    → is_live regions (Numbered q) ≡ true
page_live regions r q e = split (nat_eq r q) here (λ n. ap has_stakes (sym (with_info_other regions r q one_page_more n)) ∙ e)
  where
    as_before : (o : Option RegionInfo) → has_stakes (option_map one_page_more o) ≡ true → has_stakes o ≡ true
    as_before None e = e
    as_before (Some info) e = e

    here : nat_eq r q ≡ true → is_live regions (Numbered q) ≡ true
    here t = as_before (slice_get regions q)
        (sym (ap has_stakes (with_info_same regions q one_page_more))
        ∙ ap (λ x. is_live (with_info regions x one_page_more) (Numbered q)) (sym (eq_of r q t)) ∙ e)

-- `wants_page`, by whether the object is spread
abbrev wanted : (page_words reserved : ℕ) → (used : Option ℕ) → Object → Bool → Bool
wanted page_words reserved used object spread =
    if spread
    then not (is_too_large page_words object) && nat_le reserved (data_pages page_words object)
    else not (fits_in_page page_words used (object_words object))

-- a spread object that is not too large wants a page until it has all of them
pub wants_more : (page_words reserved : ℕ) (used : Option ℕ) (object : Object) → is_spread page_words object ≡ true
    → is_too_large page_words object ≡ false → reserved < pages_of page_words object
    → wants_page page_words reserved used object ≡ true
wants_more page_words reserved used object spread small few =
    ap (wanted page_words reserved used object) spread
    ∙ ap (λ b. not b && nat_le reserved (data_pages page_words object)) small
    ∙ at_most reserved (data_pages page_words object) (omega (arith, few))
  where
    at_most : (n m : ℕ) → n ≤ m → nat_le n m ≡ true
    at_most n m l = grind arith

-- another one wants a page if it does not fit the own page
pub wants_own : (page_words reserved : ℕ) (used : Option ℕ) (object : Object) → is_spread page_words object ≡ false
    → fits_in_page page_words used (object_words object) ≡ false → wants_page page_words reserved used object ≡ true
wants_own page_words reserved used object spread full =
    ap (wanted page_words reserved used object) spread
    ∙ ap not full

module _ (code : Code) (page_words : ℕ) (checked : IsChecked code) (slot_of : ℕ → ℕ) (addresses : List ℕ) (s : RegionState)
    (good : AllGood code s) (records : List FramesRec) (all : RecordsFit code slot_of addresses s records) (g : ℕ) (c : FramesRec)
    (is_c : slice_get records g ≡ Some c) (w : WordFrame) (ws : List WordFrame) (instr : CodeInstr)
    (b : IsBefore code slot_of addresses s g c w ws instr) where
  abbrev its_top : Top code b.h b.frame b.callers
  its_top = top code s g b.h b.frame b.callers instr checked good.good b.there b.at b.cur

  -- the region in which it makes an object is live
  pub region_live : (r : Region) → making_region (function_at code b.frame) (top_names b.h.environments) instr.op ≡ Some r
      → is_live s.regions r ≡ true
  region_live r q =
      let x = making_class its_top.stands.fn its_top.f.names instr.op r
      (ap (λ es. making_region (Some its_top.stands.fn) (top_names es) instr.op) (sym its_top.environments)
      ∙ ap (λ o. making_region o (top_names b.h.environments) instr.op) (sym its_top.stands.is_fn) ∙ q) in
      live_of s b.h r (class_has_stake code s g b.h b.frame b.callers its_top x.0 r good.good.fine b.there x.1)

  module _ (object : Object) (next : next_object code s g ≡ Some object) where
    abbrev filling : Region → Holder
    filling r = with_page page_words b.h r object

    abbrev after : Region → RegionState
    after r = page_taken s g (filling r) r

    abbrev wants_in : Region → Bool
    wants_in r = wants_page page_words b.h.reserved (fill_of b.h.fills r) object

    pub takes : (r : Region) → making_region (function_at code b.frame) (top_names b.h.environments) instr.op ≡ Some r
        → wants_page page_words b.h.reserved (fill_of b.h.fills r) object ≡ true
        → region_step code page_words s (TakePage g) ≡ Some (page_taken s g (with_page page_words b.h r object) r)
    takes r q wants =
        ap (option_and_then (λ k. take_page code page_words s g k (frames_of s.plain g))) b.there
        ∙ ap (take_page code page_words s g b.h) (ap frames_in b.at)
        ∙ ap (option_and_then (page_for code page_words s g b.h b.frame)) b.cur
        ∙ ap (option_and_then (takes_page code page_words s g b.h)) q
        ∙ ap (option_and_then (page_before page_words s g b.h r)) next
        ∙ ap (λ ds. if has_none ds && may_go b.h.offer && is_live s.regions r && wants_in r then Some (after r) else None) b.none
        ∙ ap (λ t. if t && is_live s.regions r && wants_in r then Some (after r) else None) b.free
        ∙ ap (λ t. if t && wants_in r then Some (after r) else None) (region_live r q)
        ∙ ap (λ t. if t then Some (after r) else None) wants

    fits_with : (r : Region) (t : RegionState) → Changes s t g (b.frame ∷ b.callers) (filling r) [] []
        → t.plain.memory ≡ s.plain.memory → t.owners ≡ s.owners
        → ((q : ℕ) → is_live t.regions (Numbered q) ≡ true → is_live s.regions (Numbered q) ≡ true)
        → RecordsFit code slot_of addresses t records
    fits_with r t changes memory owners old =
        subst (RecordsFit code slot_of addresses t) (set_same records g c is_c)
        (subst (λ l. RecordsFit code slot_of l t (slice_set records g c)) (append-nil addresses)
        (all_fit_after code slot_of addresses [] s t g (b.frame ∷ b.callers) b.h (b.frame ∷ b.callers) (filling r) [] [] b.at b.there
        changes records c c all is_c
        (inl (subst (λ l. IsShown code slot_of l (b.frame ∷ b.callers) (filling r) c) (sym (append-nil addresses)) (record {
          calm = b.free;
          shown = subst (FramesShow code addresses (b.frame ∷ b.callers)) (sym b.frames_are) (b.newest, b.waiting);
          holder = b.holder;
        })))
        refl refl (ap length (append-nil addresses) ∙ all.laid ∙ sym (ap (λ m. length m.heap) memory))
        (λ p q x y e. all.slots_differ p q (old p x) (old q y) e)
        (subst (λ l. ObjectsDiffer l t.regions t.owners) (sym (append-nil addresses))
        (λ o p a x y. all.addresses_differ o p a (before o x) (before p y)))))
      where
        before : (o : ℕ) → IsOfLive t.regions t.owners o → IsOfLive s.regions s.owners o
        before o (GlobalRegion, e, l) = (GlobalRegion, ap (λ os. slice_get os o) (sym owners) ∙ e, refl)
        before o (Numbered q, e, l) = (Numbered q, ap (λ os. slice_get os o) (sym owners) ∙ e, old q l)

    held : (r : Region) (t : RegionState) → t.plain.goroutines ≡ s.plain.goroutines
        → t.holders ≡ slice_set s.holders g (filling r) → Changes s t g (b.frame ∷ b.callers) (filling r) [] []
    held r t gs hs = record {
      goroutines = gs ∙ sym (set_same s.plain.goroutines g (b.frame ∷ b.callers) b.at) ∙ sym (append-nil _);
      holders = hs ∙ sym (append-nil _);
    }

    pub fits_after : (r : Region) → RecordsFit code slot_of addresses (page_taken s g (with_page page_words b.h r object) r) records
    fits_after GlobalRegion =
        fits_with GlobalRegion (after GlobalRegion) (held GlobalRegion (after GlobalRegion) refl refl) refl refl (λ q l. l)
    fits_after (Numbered r) =
        fits_with (Numbered r) (after (Numbered r)) (held (Numbered r) (after (Numbered r)) refl refl)
        refl refl (λ q l. page_live s.regions r q l)

pub page_law : PageLaw
page_law x r object q next wants = record {
  steps = step_is;
  fit = fits_after x.here.code x.here.page_words x.here.sound.checked x.here.slot_of x.here.addresses x.here.s x.here.sound.good x.here.records x.here.all x.here.g x.here.c x.here.is_c x.w
      x.ws x.instr x.before object next r;
  rest = leaves_rest x.here.code x.here.page_words x.here.s (after_page x r object) (TakePage x.here.g) step_is;
}
  where
    step_is : region_step x.here.code x.here.page_words x.here.s (TakePage x.here.g) ≡ Some (after_page x r object)
    step_is = takes x.here.code x.here.page_words x.here.sound.checked x.here.slot_of x.here.addresses x.here.s x.here.sound.good x.here.records x.here.all x.here.g x.here.c x.here.is_c
        x.w x.ws x.instr x.before object next r q wants

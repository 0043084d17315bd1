-- The owner of an object is a region that was created. For a new object it is a region that a class of the frame denotes; the goroutine
-- has a stake in that, so it is live, and what is live was created.
use Rattle.std.proofs.Common.{◌≡◌, ◌⊎◌, ℕ, zero, suc, ◌<◌, ◌≤◌, true, List, [], ◌∷◌, length, Option, Some, None, refl, sym, ap, ◌∙◌, subst, inl, inr}
use Rattle.std.proofs.Common.{slice_get, arith, length-append, le_refl, true≢false}
use Rattle.std.proofs.lemmas.Option.{slice_get_within}
use Rattle.rgo_memory.specs.Memory.{Object}
use Rattle.rgo_machine.specs.declared.picks.Pick.TheVariants.{Meet, One}
use Rattle.rgo_tac.specs.Frames.{TacFrame}
use Rattle.rgo_code.specs.Code.{Code}
use Rattle.rgo_region_machine.specs.declared.regions.Region.{Region}
use Rattle.rgo_region_machine.specs.declared.regions.Region.TheVariants.{Global as GlobalRegion, Numbered}
use Rattle.rgo_region_machine.specs.Duties.{attend, attended, duty_done, protected, removal, shared, unprotected}
use Rattle.rgo_region_machine.specs.Machine.{Acknowledge, Attend, Event, Finish, Instruct, MakeOffer, TakePage, page_for, page_taken, region_step, take_page, takes_page}
use Rattle.rgo_region_machine.specs.Machine.{page_before}
use Rattle.rgo_region_machine.specs.Objects.{making_region, with_page}
use Rattle.rgo_region_machine.specs.Offers.{acknowledge, make_offer, offer_for, offered}
use Rattle.rgo_region_machine.specs.Owed.{current, function_at}
use Rattle.rgo_region_machine.specs.Regions.{RegionInfo, has_stakes, is_live, with_info}
use Rattle.rgo_region_machine.specs.States.{Create, Duty, EndBase, Holder, NoOffer, Offer, Protect, RegionState, Remove, Share, Standing, Taken, Unprotect, frames_in, frames_of, top_names}
use Rattle.rgo_sound.proofs.duties.Attends.{length_with_info}
use Rattle.rgo_sound.proofs.plain.Steps.{Yields, yields, yields_from, yields_if, yields_is, yields_none, yields_then}
use Rattle.rgo_sound.proofs.offers.Offers.{class_has_stake, making_class}
use Rattle.rgo_sound.proofs.steps.OneStep.{Allots, MeetDone, OneDone, meet_done, one_done}
use Rattle.rgo_sound.proofs.Places.{get_append_cases}
use Rattle.rgo_sound.proofs.pointers.Steps.{Top, top_of}
use Rattle.rgo_sound.specs.Good.{AllGood}
use Rattle.rgo_sound.specs.Invariant.{GoodHolder}
use Rattle.rgo_sound.specs.Owners.{OwnersMade, OwnersStayMade}
use Rattle.rgo_sound.proofs.Progress.{live_of}

-- a live region was made
pub live_made : (regions : List RegionInfo) (r : ℕ) → is_live regions (Numbered r) ≡ true → r < length regions
live_made regions r e = go (slice_get regions r) refl e
  where
    go : (o : Option RegionInfo) → slice_get regions r ≡ o → has_stakes o ≡ true → r < length regions
    go None q l = absurd (true≢false (sym l))
    go (Some x) q l = slice_get_within regions r x q

module _ (s : RegionState) (made : OwnersMade s) where
  -- more regions, and the same owners
  grows : (t : RegionState) → t.owners ≡ s.owners → length s.regions ≤ length t.regions → Yields OwnersMade (Some t)
  grows t owners more = yields t (λ o r e.
      let l = made o r (ap (λ os. slice_get os o) (sym owners) ∙ e) in omega (arith, l, more))

  same_many : (r : ℕ) (change : RegionInfo → RegionInfo) → length s.regions ≤ length (with_info s.regions r change)
  same_many r change = let e = length_with_info s.regions r change in omega (arith, e)

  by_removal : (g : ℕ) (h : Holder) (r : Region) → Yields OwnersMade (removal s g h r)
  by_removal g h GlobalRegion = grows _ refl (le_refl _)
  by_removal g h (Numbered r) =
      yields_if _ _ _ (yields_if _ _ _ (grows _ refl (le_refl _)) (grows _ refl (same_many r _))) yields_none

  by_share : (g : ℕ) (h : Holder) (r : Region) → Yields OwnersMade (shared s g h r)
  by_share g h GlobalRegion = grows _ refl (le_refl _)
  by_share g h (Numbered r) =
      yields_if _ _ _ (yields_if _ _ _ (grows _ refl (le_refl _)) (grows _ refl (same_many r _))) yields_none

  by_duty : (g : ℕ) (h : Holder) (d : Duty) → Yields OwnersMade (duty_done s g h d)
  by_duty g h (Create k) =
      grows _ refl (let e = length-append s.regions (record { stakes = 1; pages = 0 } ∷ []) in omega (arith, e))
  by_duty g h (Share k) = yields_then (shared s g h) _ (by_share g h)
  by_duty g h (Protect k) = yields_then (protected s g h) _ (λ r. yields_if _ _ _ (grows _ refl (le_refl _)) yields_none)
  by_duty g h (Unprotect k) =
      yields_then (λ r. Some (attended s g (unprotected h r))) _ (λ r. grows _ refl (le_refl _))
  by_duty g h (Remove k) = yields_then _ _ (λ r. by_removal g _ r)
  by_duty g h (EndBase r) = by_removal g _ r

  by_attend : (g : ℕ) (h : Holder) (ds : List Duty) → Yields OwnersMade (attend s g h ds)
  by_attend g h [] = yields_none
  by_attend g h (d ∷ ds) = yields_if _ _ _ (by_duty g _ d) yields_none

  by_page : (g : ℕ) (h : Holder) (r : Region) → Yields OwnersMade (Some (page_taken s g h r))
  by_page g h GlobalRegion = grows (page_taken s g h GlobalRegion) refl (le_refl _)
  by_page g h (Numbered r) = grows (page_taken s g h (Numbered r)) refl (same_many r _)

  by_take : (code : Code) (page_words g : ℕ) (h : Holder) (frames : List TacFrame)
      → Yields OwnersMade (take_page code page_words s g h frames)
  by_take code page_words g h [] = yields_none
  by_take code page_words g h (frame ∷ callers) =
      yields_then (page_for code page_words s g h frame) (current code frame)
      (λ i. yields_then (takes_page code page_words s g h) _ (λ r. yields_then (page_before page_words s g h r) _
      (λ x. yields_if _ _ _ (by_page g (with_page page_words h r x) r) yields_none)))

  by_offer : (code : Code) (g : ℕ) (h : Holder) (frames : List TacFrame) → Yields OwnersMade (make_offer code s g h frames)
  by_offer code g h [] = yields_none
  by_offer code g h (frame ∷ callers) =
      yields_if _ _ _ (yields_then (offer_for s g h frame) (current code frame)
      (λ i. yields_then (offered s g h) _ (λ o. yields_if _ _ _ yields_none (grows _ refl (le_refl _))))) yields_none

  by_acknowledge : (g : ℕ) (h : Holder) (o : Offer) → Yields OwnersMade (acknowledge s g h o)
  by_acknowledge g h NoOffer = yields_none
  by_acknowledge g h (Standing o) = yields_none
  by_acknowledge g h (Taken o) = yields_if _ _ _ (grows _ refl (le_refl _)) yields_none

  module _ (code : Code) (page_words : ℕ) (good : AllGood code s) where
    -- an object is made in a region that was created
    by_instruction : (g : ℕ) (t : RegionState) → OneDone code page_words s g t → OwnersMade t
    by_instruction g t x = subst OwnersMade (sym x.is) (λ o r e. by o r (get_append_cases s.owners x.given.1 o (Numbered r) e))
      where
        top : Top code x.h x.frame x.callers
        top = top_of code x.h x.frame x.callers
            (subst (λ y. GoodHolder code y x.h) (ap frames_in x.at) (good.good.fine.each g x.h x.there))

        live : (r : Region) → making_region (function_at code x.frame) (top_names x.h.environments) x.instr.op ≡ Some r
            → is_live s.regions r ≡ true
        live r q =
            let c = making_class top.stands.fn top.f.names x.instr.op r
            (ap (λ es. making_region (Some top.stands.fn) (top_names es) x.instr.op) (sym top.environments)
            ∙ ap (λ o. making_region o (top_names x.h.environments) x.instr.op) (sym top.stands.is_fn) ∙ q) in
            live_of s x.h r (class_has_stake code s g x.h x.frame x.callers top c.0 r good.good.fine x.there c.1)

        made_in : (region : Option Region) (object : Option Object) (rs : List Region) (r j : ℕ)
            → Allots region object rs → slice_get rs j ≡ Some (Numbered r) → region ≡ Some (Numbered r)
        made_in region None rs r j a e = let z : slice_get [] j ≡ Some (Numbered r) = ap (λ qs. slice_get qs j) (sym a) ∙ e in cc
        made_in None (Some object) rs r j a e = absurd a
        made_in (Some q) (Some object) rs r j a e = one j (ap (λ qs. slice_get qs j) (sym a) ∙ e)
          where
            one : (j : ℕ) → slice_get (q ∷ []) j ≡ Some (Numbered r) → Some q ≡ Some (Numbered r)
            one zero e = e
            one (suc j) e = cc

        by : (o r : ℕ) → (slice_get s.owners o ≡ Some (Numbered r)) ⊎ ((j : ℕ) × (slice_get x.given.1 j ≡ Some (Numbered r)))
            → r < length s.regions
        by o r (inl e) = made o r e
        by o r (inr (j, e)) = live_made s.regions r (live (Numbered r) (made_in _ _ x.given.1 r j x.allots e))

    by_event : (event : Event) → Yields OwnersMade (region_step code page_words s event)
    by_event (Instruct (One g)) =
        yields_from {P = OneDone code page_words s g} {Q = OwnersMade} (region_step code page_words s (Instruct (One g)))
        (one_done code page_words s g) (by_instruction g)
    by_event (Instruct (Meet r u)) =
        yields_from {P = MeetDone code s r u} {Q = OwnersMade} (region_step code page_words s (Instruct (Meet r u)))
        (meet_done code page_words s r u)
        (λ t x o q e. subst (λ rs. q < length rs) (sym x.regions) (made o q (ap (λ os. slice_get os o) (sym x.owners) ∙ e)))
    by_event (Attend g) = yields_then {X = Holder} (λ h. attend s g h h.duties) (slice_get s.holders g) (λ h. by_attend g h h.duties)
    by_event (TakePage g) = yields_then {X = Holder} (λ h. take_page code page_words s g h (frames_of s.plain g))
        (slice_get s.holders g) (λ h. by_take code page_words g h (frames_of s.plain g))
    by_event (MakeOffer g) = yields_then {X = Holder} (λ h. make_offer code s g h (frames_of s.plain g)) (slice_get s.holders g)
        (λ h. by_offer code g h (frames_of s.plain g))
    by_event (Acknowledge g) = yields_then {X = Holder} (λ h. acknowledge s g h h.offer) (slice_get s.holders g)
        (λ h. by_acknowledge g h h.offer)
    by_event (Finish limit) = grows _ refl (le_refl _)

pub owners_stay_made : OwnersStayMade
owners_stay_made = record {
  start = λ code o r e. nothing r e;
  step = λ code page_words s t event good made e.
      yields_is (region_step code page_words s event) t (by_event s made code page_words good event) e;
}
  where
    nothing : (r : ℕ) → None ≡ Some (Numbered r) → r < 0
    nothing r e = cc

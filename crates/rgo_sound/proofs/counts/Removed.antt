-- A region that was removed stays as it was, whatever the code. Each step that changes a region tests that it is live; so the region
-- that it changes is another one.
use Rattle.std.proofs.Common.{◌≡◌, ℕ, true, false, ◌&&◌, List, [], ◌∷◌, Some, sym, ap, ◌∙◌, nat_eq, nat_lt, true≢false}
use Rattle.std.proofs.Common.{slice_get}
use Rattle.std.proofs.lemmas.Option.{slice_get_within}
use Rattle.rgo_sound.proofs.Tests.{and_third, split, eq_of}
use Rattle.rgo_sound.proofs.Places.{get_append_left}
use Rattle.rgo_sound.proofs.plain.Steps.{Yields, yields, yields_none, yields_if, yields_then, yields_is, yields_from}
use Rattle.rgo_sound.proofs.plain.Steps.{yields_where}
use Rattle.rgo_sound.proofs.duties.Attends.{with_info_other}
use Rattle.rgo_sound.proofs.steps.OneStep.{one_done, meet_done}
use Rattle.rgo_code.specs.Code.{Code}
use Rattle.rgo_machine.specs.declared.picks.Pick.TheVariants.{Meet, One}
use Rattle.rgo_region_machine.specs.Duties.{attend, attended, duty_done, may_go, protected, removal, shared}
use Rattle.rgo_region_machine.specs.Duties.{unprotected}
use Rattle.rgo_region_machine.specs.Instructions.{has_none}
use Rattle.rgo_region_machine.specs.Machine.{Acknowledge, Attend, Event, Finish, Instruct, MakeOffer, TakePage}
use Rattle.rgo_region_machine.specs.Machine.{page_for, region_step, take_page, takes_page, page_before}
use Rattle.rgo_region_machine.specs.Objects.{fill_of, wants_page}
use Rattle.rgo_region_machine.specs.Offers.{acknowledge, make_offer, offer_for, offered}
use Rattle.rgo_region_machine.specs.Regions.{RegionInfo, has_stakes, is_live, one_fewer, with_added_stake, one_page_more}
use Rattle.rgo_region_machine.specs.Regions.{unbind, with_info}
use Rattle.rgo_region_machine.specs.States.{Create, Duty, EndBase, Holder, NoOffer, Offer, Protect, RegionState, Remove}
use Rattle.rgo_region_machine.specs.States.{Share, Standing, Taken, Unprotect, frames_of, top_names, with_top}
use Rattle.rgo_region_machine.specs.declared.regions.Region.{Region}
use Rattle.rgo_region_machine.specs.declared.regions.Region.TheVariants.{Global as GlobalRegion, Numbered}
use Rattle.rgo_memory.specs.Memory.{Object}
use Rattle.rgo_sound.specs.Safety.{RemovedStays}
use Rattle.rgo_tac.specs.Frames.{TacFrame}

-- ---- a region that was removed stays as it was

module _ (s : RegionState) (r : ℕ) (info : RegionInfo) (e : slice_get s.regions r ≡ Some info) (none : info.stakes ≡ 0)
  where
    abbrev Still : RegionState → Type 0
    Still t = slice_get t.regions r ≡ Some info

    -- what is live is another region
    other : (q : ℕ) → is_live s.regions (Numbered q) ≡ true → nat_eq q r ≡ false
    other q l = split (nat_eq q r) (λ t. absurd (true≢false
        (sym l ∙ ap (λ x. has_stakes (slice_get s.regions x)) (eq_of q r t) ∙ ap has_stakes e ∙ ap (nat_lt 0) none)))
        (λ n. n)

    changes : (q : ℕ) (change : RegionInfo → RegionInfo) → is_live s.regions (Numbered q) ≡ true
        → slice_get (with_info s.regions q change) r ≡ Some info
    changes q change l = with_info_other s.regions q r change (other q l) ∙ e

    still_removal : (g : ℕ) (h : Holder) (q : Region) → Yields Still (removal s g h q)
    still_removal g h GlobalRegion = yields _ e
    still_removal g h (Numbered q) = yields_where (is_live s.regions (Numbered q)) _
        (λ l. yields_if _ _ _ (yields _ e) (yields _ (changes q one_fewer l)))

    still_shared : (g : ℕ) (h : Holder) (q : Region) → Yields Still (shared s g h q)
    still_shared g h GlobalRegion = yields _ e
    still_shared g h (Numbered q) = yields_where (is_live s.regions (Numbered q)) _
        (λ l. yields_if _ _ _ (yields _ e) (yields _ (changes q with_added_stake l)))

    still_done : (g : ℕ) (h : Holder) (d : Duty) → Yields Still (duty_done s g h d)
    still_done g h (Create k) = yields _ (get_append_left s.regions (record { stakes = 1; pages = 0 } ∷ []) r
        (slice_get_within s.regions r info e) ∙ e)
    still_done g h (Share k) = yields_then (shared s g h) _ (still_shared g h)
    still_done g h (Protect k) = yields_then (protected s g h) _ (λ q. yields_if _ _ _ (yields _ e) yields_none)
    still_done g h (Unprotect k) = yields_then (λ q. Some (attended s g (unprotected h q))) _ (λ q. yields _ e)
    still_done g h (Remove k) = yields_then (removal s g (record h
        { environments = with_top h.environments (unbind (top_names h.environments) k) })) _ (still_removal g _)
    still_done g h (EndBase q) = still_removal g _ q

    still_attend : (g : ℕ) (h : Holder) (ds : List Duty) → Yields Still (attend s g h ds)
    still_attend g h [] = yields_none
    still_attend g h (d ∷ ds) = yields_if _ _ _ (still_done g _ d) yields_none

    still_take : (code : Code) (page_words g : ℕ) (h : Holder) (frames : List TacFrame)
        → Yields Still (take_page code page_words s g h frames)
    still_take code page_words g h [] = yields_none
    still_take code page_words g h (frame ∷ callers) = yields_then (page_for code page_words s g h frame) _
        (λ i. yields_then (takes_page code page_words s g h) _
        (λ q. yields_then (page_before page_words s g h q) _ (taken q)))
      where
        taken : (q : Region) (object : Object) → Yields Still (page_before page_words s g h q object)
        taken GlobalRegion object = yields_if _ _ _ (yields _ e) yields_none
        taken (Numbered q) object = yields_where (has_none h.duties && may_go h.offer && is_live s.regions (Numbered q) &&
            wants_page page_words h.reserved (fill_of h.fills (Numbered q)) object) _
            (λ l. yields _ (changes q one_page_more (and_third (has_none h.duties) (may_go h.offer)
            (is_live s.regions (Numbered q)) _ l)))

    still_make : (code : Code) (g : ℕ) (h : Holder) (frames : List TacFrame) → Yields Still (make_offer code s g h frames)
    still_make code g h [] = yields_none
    still_make code g h (frame ∷ callers) = yields_if _ _ _
        (yields_then (offer_for s g h frame) _ (λ i. yields_then (offered s g h) _
        (λ o. yields_if _ _ _ yields_none (yields _ e)))) yields_none

    still_acknowledge : (g : ℕ) (h : Holder) (o : Offer) → Yields Still (acknowledge s g h o)
    still_acknowledge g h NoOffer = yields_none
    still_acknowledge g h (Standing o) = yields_none
    still_acknowledge g h (Taken o) = yields_if _ _ _ (yields _ e) yields_none

    still_step : (code : Code) (page_words : ℕ) (event : Event) → Yields Still (region_step code page_words s event)
    still_step code page_words (Instruct (One g)) = yields_from _ (one_done code page_words s g)
        (λ t x. ap (λ (y : RegionState). slice_get y.regions r) x.is ∙ e)
    still_step code page_words (Instruct (Meet a b)) = yields_from _ (meet_done code page_words s a b)
        (λ t x. ap (λ y. slice_get y r) x.regions ∙ e)
    still_step code page_words (Attend g) = yields_then {X = Holder} (λ h. attend s g h h.duties)
        (slice_get s.holders g)
        (λ h. still_attend g h h.duties)
    still_step code page_words (TakePage g) = yields_then {X = Holder}
        (λ h. take_page code page_words s g h (frames_of s.plain g)) (slice_get s.holders g)
        (λ h. still_take code page_words g h (frames_of s.plain g))
    still_step code page_words (MakeOffer g) = yields_then {X = Holder}
        (λ h. make_offer code s g h (frames_of s.plain g))
        (slice_get s.holders g) (λ h. still_make code g h (frames_of s.plain g))
    still_step code page_words (Acknowledge g) = yields_then {X = Holder} (λ h. acknowledge s g h h.offer)
        (slice_get s.holders g) (λ h. still_acknowledge g h h.offer)
    still_step code page_words (Finish limit) = yields _ e

pub removed_stays : RemovedStays
removed_stays code page_words s t event r info step e none =
    yields_is {P = λ u. slice_get u.regions r ≡ Some info} (region_step code page_words s event) t
    (still_step s r info e none code page_words event) step

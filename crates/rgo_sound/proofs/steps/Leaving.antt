-- What an event leaves as it was. An event writes one place of the list of holders, or two at a meeting, and may add one at the end; so
-- the proof is about lists, and each kind of event only shows which place it writes.
use Rattle.std.proofs.Common.{◌≡◌, ℕ, inl, inr, false, List, [], ◌∷◌, ◌++◌, Some, refl, sym, ap, subst, ◌∙◌}
use Rattle.std.proofs.Common.{slice_get, slice_set, nat_eq, arith}
use Rattle.std.proofs.lemmas.Bool.Decides.{nat_tests}
use Rattle.std.proofs.lemmas.Option.{same_Some, slice_get_within}
use Rattle.rgo_code.specs.Code.{Code}
use Rattle.rgo_machine.specs.declared.picks.Pick.TheVariants.{Meet, One}
use Rattle.rgo_region_machine.specs.Duties.{attend, attended, duty_done, protected, removal, shared, unprotected}
use Rattle.rgo_region_machine.specs.Instructions.{child_holder, holder_after, last_frames, unless_trapped}
use Rattle.rgo_region_machine.specs.Machine.{Acknowledge, Attend, Event, Finish, Instruct, MakeOffer, TakePage}
use Rattle.rgo_region_machine.specs.Machine.{page_for, page_taken, region_step, take_page, takes_page, page_before}
use Rattle.rgo_region_machine.specs.Offers.{acknowledge, make_offer, offer_for, offered}
use Rattle.rgo_region_machine.specs.Owed.{current}
use Rattle.rgo_region_machine.specs.Regions.{removed_once, unbind}
use Rattle.rgo_region_machine.specs.States.{Create, Duty, EndBase, Holder, NoOffer, Offer, Protect, RegionState, Remove}
use Rattle.rgo_region_machine.specs.States.{Share, Standing, Taken, Unprotect, frames_of, top_names, with_top}
use Rattle.rgo_region_machine.specs.declared.regions.Region.{Region}
use Rattle.rgo_region_machine.specs.declared.regions.Region.TheVariants.{Global as GlobalRegion, Numbered}
use Rattle.rgo_region_machine.specs.Objects.{with_page}
use Rattle.rgo_sound.proofs.steps.Acting.{after}
use Rattle.rgo_sound.proofs.plain.Steps.{Yields, yields, yields_at, yields_from, yields_if, yields_is, yields_none}
use Rattle.rgo_sound.proofs.plain.Steps.{yields_then}
use Rattle.rgo_sound.proofs.steps.OneStep.{MeetDone, OneDone, meet_done, one_done}
use Rattle.rgo_sound.proofs.Places.{get_append_left, get_set_other, get_set_same, length_set}
use Rattle.rgo_sound.specs.Leaving.{ActsAlone, LeavesOthers, OffersStay, OthersStay, TakesPart}
use Rattle.rgo_sound.proofs.offers.Offers.{after_offer, unless_offer}
use Rattle.rgo_tac.specs.Frames.{TacFrame}

apart : (g j : ℕ) → (j ≡ g → ⊥) → nat_eq g j ≡ false
apart g j ne = grind (arith, nat_tests)

-- what is at another place of a list stays there, if the list changes at one place and grows
stays : {X : Type 0} (xs : List X) (g : ℕ) (y : X) (more : List X) (j : ℕ) (x : X) → (j ≡ g → ⊥) → slice_get xs j ≡ Some x
    → slice_get (slice_set xs g y ++ more) j ≡ Some x
stays xs g y more j x ne e =
    let l = slice_get_within xs j x e in
    let n = length_set xs g y in
    get_append_left (slice_set xs g y) more j (omega (arith, l, n)) ∙ (get_set_other xs g j y (apart g j ne) ∙ e)

stays_set : {X : Type 0} (xs : List X) (g : ℕ) (y : X) (j : ℕ) (x : X) → (j ≡ g → ⊥) → slice_get xs j ≡ Some x
    → slice_get (slice_set xs g y) j ≡ Some x
stays_set xs g y j x ne e = get_set_other xs g j y (apart g j ne) ∙ e

-- ---- events that change one holder

module _ (s : RegionState) (g : ℕ) (P : Holder → Type 0) where
  record OneChanged (t : RegionState) : Type 0 where
    now : Holder
    holders : t.holders ≡ slice_set s.holders g now
    goroutines : t.plain.goroutines ≡ s.plain.goroutines
    fact : P now

  changed : (t : RegionState) (k : Holder) → t.holders ≡ slice_set s.holders g k
      → t.plain.goroutines ≡ s.plain.goroutines → P k → Yields OneChanged (Some t)
  changed t k hs gs p = yields t (record { now = k; holders = hs; goroutines = gs; fact = p })

module _ (s : RegionState) (g : ℕ) (h0 : Holder) where
  abbrev SameOffer : Holder → Type 0
  SameOffer k = k.offer ≡ h0.offer

  abbrev Kept : RegionState → Type 0
  Kept t = OneChanged s g SameOffer t

  keeps : (t : RegionState) (k : Holder) → t.holders ≡ slice_set s.holders g k
      → t.plain.goroutines ≡ s.plain.goroutines → SameOffer k → Yields Kept (Some t)
  keeps t k hs gs same = changed s g SameOffer t k hs gs same

  by_removal : (h : Holder) (r : Region) → SameOffer h → Yields Kept (removal s g h r)
  by_removal h GlobalRegion e = keeps _ h refl refl e
  by_removal h (Numbered r) e = yields_if _ _ _ (yields_if _ _ _ (keeps _ h refl refl e) (keeps _ _ refl refl e)) yields_none

  by_share : (h : Holder) (r : Region) → SameOffer h → Yields Kept (shared s g h r)
  by_share h GlobalRegion e = keeps _ h refl refl e
  by_share h (Numbered r) e = yields_if _ _ _ (yields_if _ _ _ (keeps _ h refl refl e) (keeps _ _ refl refl e)) yields_none

  by_duty : (h : Holder) (d : Duty) → SameOffer h → Yields Kept (duty_done s g h d)
  by_duty h (Create k) e = keeps _ _ refl refl e
  by_duty h (Share k) e = yields_then (shared s g h) _ (λ r. by_share h r e)
  by_duty h (Protect k) e = yields_then (protected s g h) _ (λ r. yields_if _ _ _ (keeps _ _ refl refl e) yields_none)
  by_duty h (Unprotect k) e =
      yields_then (λ r. Some (attended s g (unprotected h r))) _ (λ r. keeps _ (unprotected h r) refl refl e)
  by_duty h (Remove k) e = yields_then _ _
      (λ r. by_removal (record h { environments = with_top h.environments (unbind (top_names h.environments) k) }) r e)
  by_duty h (EndBase r) e = by_removal (record h { base = removed_once r h.base }) r e

  by_attend : (h : Holder) (ds : List Duty) → SameOffer h → Yields Kept (attend s g h ds)
  by_attend h [] e = yields_none
  by_attend h (d ∷ ds) e = yields_if _ _ _ (by_duty (record h { duties = ds }) d e) yields_none

  by_page : (h : Holder) (r : Region) → SameOffer h → Yields Kept (Some (page_taken s g h r))
  by_page h GlobalRegion e = keeps (page_taken s g h GlobalRegion) _ refl refl e
  by_page h (Numbered r) e = keeps (page_taken s g h (Numbered r)) _ refl refl e

  by_take : (code : Code) (page_words : ℕ) (h : Holder) (frames : List TacFrame) → SameOffer h
      → Yields Kept (take_page code page_words s g h frames)
  by_take code page_words h [] e = yields_none
  by_take code page_words h (frame ∷ callers) e =
      yields_then (page_for code page_words s g h frame) (current code frame)
      (λ i. yields_then (takes_page code page_words s g h) _ (λ r. yields_then (page_before page_words s g h r) _
      (λ x. yields_if _ _ _ (by_page (with_page page_words h r x) r e) yields_none)))

module _ (s : RegionState) (g : ℕ) where
  abbrev Any : Holder → Type 0
  Any k = Unit {0}

  by_offer : (code : Code) (h : Holder) (frames : List TacFrame) → Yields (OneChanged s g Any) (make_offer code s g h frames)
  by_offer code h [] = yields_none
  by_offer code h (frame ∷ callers) =
      yields_if _ _ _ (yields_then (offer_for s g h frame) (current code frame)
      (λ i. yields_then (offered s g h) _ (λ o. yields_if _ _ _ yields_none (changed s g Any _ _ refl refl tt)))) yields_none

  by_acknowledge : (h : Holder) (o : Offer) → Yields (OneChanged s g Any) (acknowledge s g h o)
  by_acknowledge h NoOffer = yields_none
  by_acknowledge h (Standing o) = yields_none
  by_acknowledge h (Taken o) = yields_if _ _ _ (changed s g Any _ _ refl refl tt) yields_none

  -- the others are as they were
  one_others : (P : Holder → Type 0) (t : RegionState) (event : Event) → ((j : ℕ) → j ≡ g → TakesPart event j) → OneChanged s g P t
      → LeavesOthers s t event
  one_others P t event part x = record {
    frames = λ j fs out e. ap (λ gs. slice_get gs j) x.goroutines ∙ e;
    holders = λ j h out e. ap (λ hs. slice_get hs j) x.holders ∙ stays_set s.holders g x.now j h (λ q. out (part j q)) e;
  }

  one_own : (P : Holder → Type 0) (t : RegionState) (h : Holder) → slice_get s.holders g ≡ Some h → OneChanged s g P t
      → (k : Holder) × (slice_get t.holders g ≡ Some k) × P k
  one_own P t h e x = (x.now, ap (λ hs. slice_get hs g) x.holders ∙ get_set_same s.holders g h x.now e, x.fact)

-- ---- an instruction

module _ (code : Code) (page_words : ℕ) (s : RegionState) where
  module _ (g : ℕ) (t : RegionState) (x : OneDone code page_words s g t) where
    abbrev now : Holder
    now = unless_trapped (after s.plain g x.a).ended x.given.0
        (holder_after code x.given.0 x.frame x.callers x.instr.op (frames_of (after s.plain g x.a) g))

    holders_are : t.holders ≡ slice_set s.holders g now
        ++ child_holder code x.given.0 x.instr.op (last_frames (after s.plain g x.a).goroutines)
    holders_are = ap (λ (u : RegionState). u.holders) x.is

    instruction_others : LeavesOthers s t (Instruct (One g))
    instruction_others = record {
      frames = λ j fs out e. ap (λ (u : RegionState). slice_get u.plain.goroutines j) x.is
          ∙ stays s.plain.goroutines g x.a.frames x.a.started j fs out e;
      holders = λ j h out e. ap (λ hs. slice_get hs j) holders_are ∙ stays s.holders g now _ j h out e;
    }

    instruction_own : (h : Holder) → slice_get s.holders g ≡ Some h
        → (k : Holder) × (slice_get t.holders g ≡ Some k) × (k.offer ≡ h.offer)
    instruction_own h e =
        let own = get_set_same s.holders g x.h now x.there in
        let l = slice_get_within (slice_set s.holders g now) g now own in (
          now,
          ap (λ hs. slice_get hs g) holders_are ∙ (get_append_left (slice_set s.holders g now) _ g l ∙ own),
          unless_offer (after s.plain g x.a).ended x.given.0 _
              (after_offer code x.given.0 x.frame x.callers x.instr.op (frames_of (after s.plain g x.a) g))
              ∙ (ap (λ (k : Holder). k.offer) x.same.same ∙ ap (λ (k : Holder). k.offer) (same_Some x.h h (sym x.there ∙ e))),
        )

  meeting_others : (r u : ℕ) (t : RegionState) → MeetDone code s r u t → LeavesOthers s t (Instruct (Meet r u))
  meeting_others r u t x = record {
    frames = λ j fs out e. ap (λ p. slice_get p.goroutines j) x.plain
        ∙ stays_set (slice_set s.plain.goroutines r (x.go_on x.v)) u x.next j fs (λ q. out (inr q))
        (stays_set s.plain.goroutines r (x.go_on x.v) j fs (λ q. out (inl q)) e);
    holders = λ j h out e. ap (λ hs. slice_get hs j) x.holders
        ∙ stays_set (slice_set s.holders r _) u _ j h (λ q. out (inr q)) (stays_set s.holders r _ j h (λ q. out (inl q)) e);
  }

  -- ---- each event

  abbrev Leaves : Event → RegionState → Type 0
  Leaves event t = LeavesOthers s t event

  others : (event : Event) → Yields (Leaves event) (region_step code page_words s event)
  others (Instruct (One g)) = yields_from {Q = Leaves (Instruct (One g))} (region_step code page_words s (Instruct (One g)))
      (one_done code page_words s g) (instruction_others g)
  others (Instruct (Meet r u)) = yields_from {Q = Leaves (Instruct (Meet r u))}
      (region_step code page_words s (Instruct (Meet r u))) (meet_done code page_words s r u) (meeting_others r u)
  others (Attend g) = yields_then {X = Holder} (λ h. attend s g h h.duties) (slice_get s.holders g)
      (λ h. yields_from {Q = Leaves (Attend g)} (attend s g h h.duties) (by_attend s g h h h.duties refl)
      (λ t x. one_others s g (SameOffer s g h) t (Attend g) (λ j q. q) x))
  others (TakePage g) = yields_then {X = Holder} (λ h. take_page code page_words s g h (frames_of s.plain g))
      (slice_get s.holders g)
      (λ h. yields_from {Q = Leaves (TakePage g)} (take_page code page_words s g h (frames_of s.plain g))
      (by_take s g h code page_words h (frames_of s.plain g) refl)
      (λ t x. one_others s g (SameOffer s g h) t (TakePage g) (λ j q. q) x))
  others (MakeOffer g) = yields_then {X = Holder} (λ h. make_offer code s g h (frames_of s.plain g)) (slice_get s.holders g)
      (λ h. yields_from {Q = Leaves (MakeOffer g)} (make_offer code s g h (frames_of s.plain g))
      (by_offer s g code h (frames_of s.plain g)) (λ t x. one_others s g (Any s g) t (MakeOffer g) (λ j q. q) x))
  others (Acknowledge g) = yields_then {X = Holder} (λ h. acknowledge s g h h.offer) (slice_get s.holders g)
      (λ h. yields_from {Q = Leaves (Acknowledge g)} (acknowledge s g h h.offer) (by_acknowledge s g h h.offer)
      (λ t x. one_others s g (Any s g) t (Acknowledge g) (λ j q. q) x))
  others (Finish limit) = yields _ (record { frames = λ j fs out e. e; holders = λ j h out e. e })

  module _ (g : ℕ) (h : Holder) (there : slice_get s.holders g ≡ Some h) where
    abbrev Offers : RegionState → Type 0
    Offers t = (k : Holder) × (slice_get t.holders g ≡ Some k) × (k.offer ≡ h.offer)

    same_there : (k : Holder) → slice_get s.holders g ≡ Some k → k.offer ≡ h.offer
    same_there k e = ap (λ (x : Holder). x.offer) (same_Some k h (sym e ∙ there))

    offers_by : (event : Event) → ActsAlone event g → Yields Offers (region_step code page_words s event)
    offers_by (Instruct (One j)) is = yields_from {Q = Offers} (region_step code page_words s (Instruct (One j)))
        (one_done code page_words s j)
        (λ t x. subst (λ i. (k : Holder) × (slice_get t.holders i ≡ Some k) × (k.offer ≡ h.offer)) (sym is)
        (instruction_own j t x h (subst (λ i. slice_get s.holders i ≡ Some h) is there)))
    offers_by (Instruct (Meet r u)) is = absurd is
    offers_by (Attend j) is = yields_at {P = Offers} (slice_get s.holders j) (λ (k : Holder). attend s j k k.duties)
        (λ k e. yields_from {Q = Offers} (attend s j k k.duties)
        (by_attend s j h k k.duties (same_there k (subst (λ i. slice_get s.holders i ≡ Some k) (sym is) e)))
        (λ t x. subst (λ i. (k : Holder) × (slice_get t.holders i ≡ Some k) × (k.offer ≡ h.offer)) (sym is)
        (one_own s j (SameOffer s j h) t k e x)))
    offers_by (TakePage j) is = yields_at {P = Offers} (slice_get s.holders j)
        (λ k. take_page code page_words s j k (frames_of s.plain j))
        (λ k e. yields_from {Q = Offers} (take_page code page_words s j k (frames_of s.plain j))
        (by_take s j h code page_words k (frames_of s.plain j) (same_there k (subst (λ i. slice_get s.holders i ≡ Some k) (sym is) e)))
        (λ t x. subst (λ i. (k : Holder) × (slice_get t.holders i ≡ Some k) × (k.offer ≡ h.offer)) (sym is)
        (one_own s j (SameOffer s j h) t k e x)))
    offers_by (MakeOffer j) is = absurd is
    offers_by (Acknowledge j) is = absurd is
    offers_by (Finish limit) is = absurd is

pub others_stay : OthersStay
others_stay code page_words s t event e =
    yields_is (region_step code page_words s event) t (others code page_words s event) e

pub offers_stay : OffersStay
offers_stay code page_words s t event g h e alone there =
    yields_is (region_step code page_words s event) t (offers_by code page_words s g h there event alone) e

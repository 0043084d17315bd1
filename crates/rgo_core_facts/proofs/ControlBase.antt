-- `main` protects nothing since its start: it is so at the start of a run, and each step keeps it. By cases over events: only a start
-- makes a base, and that of another goroutine.
use Rattle.std.proofs.Common.{◌≡◌, ◌∙◌, ℕ, zero, suc, List, [], ◌∷◌, Option, Some, None, option_and_then, slice_get, slice_set, refl, sym, ap, subst, arith}
use Rattle.std.proofs.lemmas.Option.{same_Some, slice_get_within}
use Rattle.rgo_sound.specs.Code.Code.{Branch, Call, Code, CodeOp, Do, Go, Jump, Print, Return}
use Rattle.rgo_core.specs.runs.Runs.{limited_run, step_in_limits}
use Rattle.rgo_sound.specs.Machine.Runs.{run}
use Rattle.rgo_sound.specs.Machine.declared.limits.Limits.{Limits}
use Rattle.rgo_sound.specs.Machine.declared.picks.End.{End}
use Rattle.rgo_sound.specs.Machine.declared.picks.End.TheVariants.{Exit, Trap}
use Rattle.rgo_sound.specs.Machine.declared.picks.Pick.TheVariants.{Meet, One}
use Rattle.rgo_sound.specs.RegionMachine.Duties.{attend, attended, created, duty_done, protected, removal, shared, unprotected}
use Rattle.rgo_sound.specs.RegionMachine.Instructions.{child_holder, holder_after, last_frames, taken_offer, unless_trapped}
use Rattle.rgo_sound.specs.RegionMachine.Machine.{Acknowledge, Attend, Event, Finish, Instruct, MakeOffer, TakePage, page_before, page_for, page_taken, region_start, region_step, take_page, takes_page}
use Rattle.rgo_sound.specs.RegionMachine.Offers.{acknowledge, make_offer, offer_for, offered}
use Rattle.rgo_sound.specs.RegionMachine.Objects.{with_page}
use Rattle.rgo_sound.specs.RegionMachine.Owed.{current}
use Rattle.rgo_sound.specs.RegionMachine.Regions.{bound, removed_once}
use Rattle.rgo_sound.specs.RegionMachine.States.{Create, Duty, EndBase, Holder, NoOffer, Offer, Protect, RegionState, Remove, Share, Standing, Taken, Unprotect, frames_of, top_names}
use Rattle.rgo_sound.specs.RegionMachine.declared.regions.Region.{Region}
use Rattle.rgo_sound.specs.RegionMachine.declared.regions.Region.TheVariants.{Global as GlobalRegion, Numbered}
use Rattle.rgo_sound.proofs.steps.Acting.{after as acted_plain}
use Rattle.rgo_sound.proofs.plain.Steps.{Yields, yields, yields_at, yields_from, yields_if, yields_is, yields_none, yields_then}
use Rattle.rgo_sound.proofs.steps.OneStep.{MeetDone, OneDone, gone_on, meet_done, one_done, receive_goes, send_goes}
use Rattle.rgo_sound.proofs.Places.{get_append_left, length_set}
use Rattle.rgo_sound.specs.Tac.Frames.{TacFrame}
use Rattle.rgo_sound.specs.Tac.Tac.{TacState}
use Rattle.rgo_core_facts.proofs.ControlUnprotects.{within_is}

-- a goroutine of this number with this holder
abbrev pub BasesFit : ℕ → Holder → Type 0
BasesFit g h = g ≡ 0 → h.base ≡ []

abbrev pub MainHasNoBase : RegionState → Type 0
MainHasNoBase s = (g : ℕ) (h : Holder) → slice_get s.holders g ≡ Some h → BasesFit g h

no_holder : (h : Holder) → ◌≡◌ {A = Option Holder} None (Some h) → ⊥
no_holder h e = cc

set_all : (hs : List Holder) (g : ℕ) (k : Holder) → ((j : ℕ) (h : Holder) → slice_get hs j ≡ Some h → j ≡ 0 → h.base ≡ [])
    → (g ≡ 0 → k.base ≡ []) → (j : ℕ) (h : Holder) → slice_get (slice_set hs g k) j ≡ Some h → j ≡ 0 → h.base ≡ []
set_all [] g k all fits j h e is = absurd (no_holder h e)
set_all (x ∷ hs) zero k all fits zero h e is = ap (λ (y : Holder). y.base) (sym (same_Some k h e)) ∙ fits refl
set_all (x ∷ hs) (suc g) k all fits zero h e is = all 0 h e is
set_all (x ∷ hs) g k all fits (suc j) h e is = absurd (omega (arith, is))

module _ (s : RegionState) (all : MainHasNoBase s) where
  with_one : (t : RegionState) (g : ℕ) (k : Holder) → t.holders ≡ slice_set s.holders g k → BasesFit g k → MainHasNoBase t
  with_one t g k is fits j h e = set_all s.holders g k all fits j h (ap (λ hs. slice_get hs j) (sym is) ∙ e)

  with_same : (t : RegionState) (g : ℕ) (h k : Holder) → t.holders ≡ slice_set s.holders g k → k.base ≡ h.base → BasesFit g h
      → Yields MainHasNoBase (Some t)
  with_same t g h k is same fits = yields t (with_one t g k is (λ z. same ∙ fits z))

  by_removal : (g : ℕ) (h : Holder) (r : Region) → BasesFit g h → Yields MainHasNoBase (removal s g h r)
  by_removal g h GlobalRegion n = with_same _ g h h refl refl n
  by_removal g h (Numbered r) n =
      yields_if _ _ _ (yields_if _ _ _ (with_same _ g h h refl refl n) (with_same _ g h _ refl refl n)) yields_none

  by_share : (g : ℕ) (h : Holder) (r : Region) → BasesFit g h → Yields MainHasNoBase (shared s g h r)
  by_share g h GlobalRegion n = with_same _ g h h refl refl n
  by_share g h (Numbered r) n =
      yields_if _ _ _ (yields_if _ _ _ (with_same _ g h h refl refl n) (with_same _ g h _ refl refl n)) yields_none

  by_duty : (g : ℕ) (h : Holder) (d : Duty) → BasesFit g h → Yields MainHasNoBase (duty_done s g h d)
  by_duty g h (Create k) n = with_same (created s g h k) g h _ refl refl n
  by_duty g h (Share k) n = yields_then (shared s g h) _ (λ r. by_share g h r n)
  by_duty g h (Protect k) n = yields_then (protected s g h) _ (λ r. yields_if _ _ _ (with_same _ g h _ refl refl n) yields_none)
  by_duty g h (Unprotect k) n = yields_then (λ r. Some (attended s g (unprotected h r))) (bound (top_names h.environments) k)
      (λ r. with_same (attended s g (unprotected h r)) g h (unprotected h r) refl refl n)
  by_duty g h (Remove k) n = yields_then _ _ (λ r. by_removal g _ r n)
  by_duty g h (EndBase r) n = by_removal g (record h { base = removed_once r h.base }) r (λ z. ap (removed_once r) (n z))

  by_attend : (g : ℕ) (h : Holder) → BasesFit g h → (ds : List Duty) → Yields MainHasNoBase (attend s g h ds)
  by_attend g h n [] = yields_none
  by_attend g h n (d ∷ ds) = yields_if _ _ _ (by_duty g (record h { duties = ds }) d n) yields_none

  -- with k the holder after the page
  by_page : (g : ℕ) (h k : Holder) → k.base ≡ h.base → BasesFit g h → (r : Region) → Yields MainHasNoBase (Some (page_taken s g k r))
  by_page g h k same n GlobalRegion = with_same (page_taken s g k GlobalRegion) g h k refl same n
  by_page g h k same n (Numbered r) = with_same (page_taken s g k (Numbered r)) g h k refl same n

  by_take : (code : Code) (page_words g : ℕ) (h : Holder) → BasesFit g h → (frames : List TacFrame)
      → Yields MainHasNoBase (take_page code page_words s g h frames)
  by_take code page_words g h n [] = yields_none
  by_take code page_words g h n (frame ∷ callers) = yields_then (page_for code page_words s g h frame) (current code frame)
      (λ i. yields_then (takes_page code page_words s g h) _ (λ r. yields_then (page_before page_words s g h r) _
      (λ object. yields_if _ _ _ (by_page g h (with_page page_words h r object) refl n r) yields_none)))

  by_offer : (code : Code) (g : ℕ) (h : Holder) → BasesFit g h → (frames : List TacFrame)
      → Yields MainHasNoBase (make_offer code s g h frames)
  by_offer code g h n [] = yields_none
  by_offer code g h n (frame ∷ callers) = yields_if _ _ _ (yields_then (offer_for s g h frame) (current code frame)
      (λ i. yields_then (offered s g h) _ (λ o. yields_if _ _ _ yields_none
      (with_same (attended s g (record h { offer = Standing o })) g h _ refl refl n)))) yields_none

  by_acknowledge : (g : ℕ) (h : Holder) → BasesFit g h → (o : Offer) → Yields MainHasNoBase (acknowledge s g h o)
  by_acknowledge g h n NoOffer = yields_none
  by_acknowledge g h n (Standing o) = yields_none
  by_acknowledge g h n (Taken o) = yields_if _ _ _ (with_same (attended s g (record h { offer = NoOffer })) g h _ refl refl n) yields_none

-- ---- instructions

after_same : (code : Code) (k : Holder) (frame : TacFrame) (callers : List TacFrame) (op : CodeOp) (next : List TacFrame)
    → (holder_after code k frame callers op next).base ≡ k.base
after_same code k frame callers (Do to action from removes) next = refl
after_same code k frame callers (Call to n from passes protects removes) next = refl
after_same code k frame callers (Go n from passes removes) next = refl
after_same code k frame callers (Print pieces from removes) next = refl
after_same code k frame callers (Jump target removes) next = refl
after_same code k frame callers (Branch test target removes other otherwise) next = refl
after_same code k frame callers (Return value) next = refl

unless_same : (end : Option End) (k after : Holder) → after.base ≡ k.base → (unless_trapped end k after).base ≡ k.base
unless_same None k after e = e
unless_same (Some Exit) k after e = e
unless_same (Some (Trap trap place)) k after e = refl

module _ (code : Code) (page_words : ℕ) (s : RegionState) (all : MainHasNoBase s) where
  module _ (g : ℕ) (t : RegionState) (x : OneDone code page_words s g t) where
    abbrev next : TacState
    next = acted_plain s.plain g x.a

    abbrev own : Holder
    own = unless_trapped next.ended x.given.0 (holder_after code x.given.0 x.frame x.callers x.instr.op (frames_of next g))

    own_fits : BasesFit g own
    own_fits z = unless_same next.ended x.given.0 _ (after_same code x.given.0 x.frame x.callers x.instr.op (frames_of next g))
        ∙ ap (λ (y : Holder). y.base) x.same.same ∙ all g x.h x.there z

    by_instruction : MainHasNoBase t
    by_instruction j h e is = set_all s.holders g own all own_fits j h
        (sym (get_append_left (slice_set s.holders g own) (child_holder code x.given.0 x.instr.op (last_frames next.goroutines)) j
        (let l = slice_get_within s.holders g x.h x.there in let m = length_set s.holders g own in omega (arith, l, m, is)))
        ∙ (ap (λ (y : RegionState). slice_get y.holders j) (sym x.is) ∙ e)) is

  by_meeting : (r u : ℕ) (t : RegionState) → MeetDone code s r u t → MainHasNoBase t
  by_meeting r u t x j h e =
      set_all (slice_set s.holders r (gone_on (receive_goes x.receives x.v) x.h)) u
      (record (gone_on (send_goes x.sends) x.k) { offer = taken_offer x.k.offer })
      (set_all s.holders r (gone_on (receive_goes x.receives x.v) x.h) all (all r x.h x.there_h))
      (all u x.k x.there_k) j h (ap (λ hs. slice_get hs j) (sym x.holders) ∙ e)

  by_event : (event : Event) → Yields MainHasNoBase (region_step code page_words s event)
  by_event (Instruct (One g)) =
      yields_from {P = OneDone code page_words s g} {Q = MainHasNoBase} (region_step code page_words s (Instruct (One g)))
      (one_done code page_words s g) (by_instruction g)
  by_event (Instruct (Meet r u)) =
      yields_from {P = MeetDone code s r u} {Q = MainHasNoBase} (region_step code page_words s (Instruct (Meet r u)))
      (meet_done code page_words s r u) (by_meeting r u)
  by_event (Attend g) = yields_at {X = Holder} (slice_get s.holders g) (λ h. attend s g h h.duties)
      (λ h there. by_attend s all g h (all g h there) h.duties)
  by_event (TakePage g) = yields_at {X = Holder} (slice_get s.holders g) (λ h. take_page code page_words s g h (frames_of s.plain g))
      (λ h there. by_take s all code page_words g h (all g h there) (frames_of s.plain g))
  by_event (MakeOffer g) = yields_at {X = Holder} (slice_get s.holders g) (λ h. make_offer code s g h (frames_of s.plain g))
      (λ h there. by_offer s all code g h (all g h there) (frames_of s.plain g))
  by_event (Acknowledge g) = yields_at {X = Holder} (slice_get s.holders g) (λ h. acknowledge s g h h.offer)
      (λ h there. by_acknowledge s all g h (all g h there) h.offer)
  by_event (Finish limit) = yields _ all

-- ---- runs

at_start : (code : Code) → MainHasNoBase (region_start code)
at_start code zero h e is = ap (λ (y : Holder). y.base) (sym (same_Some _ h e))
at_start code (suc j) h e is = absurd (no_holder h e)

run_keeps : (code : Code) (page_words : ℕ) (limits : Limits) (s t : RegionState) (events : List Event) → MainHasNoBase s
    → run (step_in_limits code page_words limits) s events ≡ Some t → MainHasNoBase t
run_keeps code page_words limits s t [] st e = subst MainHasNoBase (same_Some s t e) st
run_keeps code page_words limits s t (event ∷ events) st e =
    go (step_in_limits code page_words limits s event) refl e (λ u. run_keeps code page_words limits u t events)
  where
    go : (o : Option RegionState) → step_in_limits code page_words limits s event ≡ o
        → option_and_then (λ u. run (step_in_limits code page_words limits) u events) o ≡ Some t
        → ((u : RegionState) → MainHasNoBase u → run (step_in_limits code page_words limits) u events ≡ Some t → MainHasNoBase t) → MainHasNoBase t
    go None q e next = cc
    go (Some u) q e next =
        next u (yields_is (region_step code page_words s event) u (by_event code page_words s st event)
        (within_is code page_words limits (region_step code page_words s event) u q)) e

pub main_has_no_base : (code : Code) (page_words : ℕ) (limits : Limits) (events : List Event) (s : RegionState)
    → limited_run code page_words limits events ≡ Some s → MainHasNoBase s
main_has_no_base code page_words limits events s leads =
    run_keeps code page_words limits (region_start code) s events (at_start code) leads

-- A goroutine ends a protection only if the newest frame has it: it is so at the start of a run, and each step keeps it. Protections are
-- owed before a call and their ends after it, so the invariant is about the list of duties. The hard case is a return into a caller.
use Rattle.std.proofs.Common.{◌≡◌, ◌⊎◌, inl, inr, ⊎_elim, ◌∙◌, ◌≤◌, ℕ, zero, suc, Bool, true, false, List, [], ◌∷◌, ◌++◌, map, Option, Some, None, option_and_then, if◌then◌else◌, slice_get, slice_set, refl, sym, ap, subst, arith}
use Rattle.std.proofs.lemmas.Option.{same_Some}
use Rattle.rgo_sound.specs.Code.Checked.{IsChecked}
use Rattle.rgo_sound.specs.Code.Code.{Branch, Call, Code, CodeInstr, CodeOp, Do, Go, Jump, Print, Return}
use Rattle.rgo_sound.specs.Code.NameRules.{Ascends, protected_names}
use Rattle.rgo_core.specs.runs.Runs.{if_in_limits, limited_run, step_in_limits}
use Rattle.rgo_core.proofs.Frames.Sound.{next_sound, sound_stays}
use Rattle.rgo_core.specs.Frames.States.{IsSound}
use Rattle.rgo_sound.specs.Machine.Limits.{is_within}
use Rattle.rgo_sound.specs.Machine.Runs.{run}
use Rattle.rgo_sound.specs.Machine.declared.limits.Limits.{Limits}
use Rattle.rgo_sound.specs.Machine.declared.picks.End.{End}
use Rattle.rgo_sound.specs.Machine.declared.picks.End.TheVariants.{Exit, Trap}
use Rattle.rgo_sound.specs.Machine.declared.picks.Pick.TheVariants.{Meet, One}
use Rattle.rgo_sound.specs.RegionMachine.Duties.{attend, attended, created, duty_done, protected, removal, shared, unprotected, without_protection}
use Rattle.rgo_sound.specs.RegionMachine.Instructions.{child_holder, holder_after, last_frames, taken_offer, unless_trapped}
use Rattle.rgo_sound.specs.RegionMachine.Machine.{Acknowledge, Attend, Event, Finish, Instruct, MakeOffer, TakePage, main_holder, page_before, page_for, page_taken, region_start, region_step, take_page, takes_page}
use Rattle.rgo_sound.specs.RegionMachine.Offers.{acknowledge, make_offer, offer_for, offered}
use Rattle.rgo_sound.specs.RegionMachine.Objects.{with_page}
use Rattle.rgo_sound.specs.RegionMachine.Owed.{caller_duties, current, current_in, duties_behind, duties_behind_call, duties_before, duties_of_op, entry_removes, code_function, next_duties, regions_named, removes_behind}
use Rattle.rgo_sound.specs.RegionMachine.Regions.{Bindings, bound, removed_once, same_region}
use Rattle.rgo_sound.specs.RegionMachine.States.{Create, Duty, EndBase, RegionEnvironment, Holder, NoOffer, Offer, Protect, RegionState, Remove, Share, Standing, Taken, Unprotect, below, frames_in, frames_of, top_names}
use Rattle.rgo_sound.specs.RegionMachine.declared.regions.Region.{Region}
use Rattle.rgo_sound.specs.RegionMachine.declared.regions.Region.TheVariants.{Global as GlobalRegion, Numbered}
use Rattle.rgo_sound.proofs.duties.Attends.{same_reflexive}
use Rattle.rgo_sound.proofs.plain.Steps.{Yields, yields, yields_at, yields_from, yields_if, yields_is, yields_none, yields_then}
use Rattle.rgo_sound.proofs.duties.Moves.{times_removed}
use Rattle.rgo_sound.proofs.steps.Acting.{after as acted_plain}
use Rattle.rgo_sound.proofs.steps.OneStep.{MeetDone, OnFrom, OneDone, gone_on, meet_done, one_done, receive_goes, send_goes}
use Rattle.rgo_sound.proofs.Places.{get_append_cases}
use Rattle.rgo_sound.specs.Invariant.{FramesFit, GoodHolder, IsCall, Waits, bound_times, same_bound, times}
use Rattle.rgo_sound.specs.Stakes.{one_when}
use Rattle.rgo_sound.specs.Tac.Frames.{TacFrame}
use Rattle.rgo_sound.specs.Tac.Tac.{TacState, tac_start}
use Rattle.rgo_sound.specs.Code.Erasure.{erased}

-- ---- duties

abbrev pub HasNoUnprotect : List Duty → Type 0
HasNoUnprotect [] = Unit {0}
HasNoUnprotect (Unprotect k ∷ ds) = ⊥
HasNoUnprotect (Create k ∷ ds) = HasNoUnprotect ds
HasNoUnprotect (Share k ∷ ds) = HasNoUnprotect ds
HasNoUnprotect (Protect k ∷ ds) = HasNoUnprotect ds
HasNoUnprotect (Remove k ∷ ds) = HasNoUnprotect ds
HasNoUnprotect (EndBase r ∷ ds) = HasNoUnprotect ds

-- the ends of protections come first, and each finds its protection
abbrev pub UnprotectsFit : List Duty → Bindings → List Region → Type 0
UnprotectsFit [] names protections = Unit {0}
UnprotectsFit (Unprotect k ∷ ds) names protections =
    (r : Region) → bound names k ≡ Some r → (1 ≤ times r protections) × UnprotectsFit ds names (removed_once r protections)
UnprotectsFit (Create k ∷ ds) names protections = HasNoUnprotect ds
UnprotectsFit (Share k ∷ ds) names protections = HasNoUnprotect ds
UnprotectsFit (Protect k ∷ ds) names protections = HasNoUnprotect ds
UnprotectsFit (Remove k ∷ ds) names protections = HasNoUnprotect ds
UnprotectsFit (EndBase r ∷ ds) names protections = HasNoUnprotect ds

none_fit : (ds : List Duty) → HasNoUnprotect ds → (names : Bindings) (protections : List Region) → UnprotectsFit ds names protections
none_fit [] n names protections = tt
none_fit (Unprotect k ∷ ds) n names protections = absurd n
none_fit (Create k ∷ ds) n names protections = n
none_fit (Share k ∷ ds) n names protections = n
none_fit (Protect k ∷ ds) n names protections = n
none_fit (Remove k ∷ ds) n names protections = n
none_fit (EndBase r ∷ ds) n names protections = n

none_more : (ds es : List Duty) → HasNoUnprotect ds → HasNoUnprotect es → HasNoUnprotect (ds ++ es)
none_more [] es n m = m
none_more (Unprotect k ∷ ds) es n m = absurd n
none_more (Create k ∷ ds) es n m = none_more ds es n m
none_more (Share k ∷ ds) es n m = none_more ds es n m
none_more (Protect k ∷ ds) es n m = none_more ds es n m
none_more (Remove k ∷ ds) es n m = none_more ds es n m
none_more (EndBase r ∷ ds) es n m = none_more ds es n m

removes_none : (ks : List ℕ) → HasNoUnprotect (map Remove ks)
removes_none [] = tt
removes_none (k ∷ ks) = removes_none ks

creates_none : (ks : List ℕ) → HasNoUnprotect (map Create ks)
creates_none [] = tt
creates_none (k ∷ ks) = creates_none ks

protects_none : (ks : List ℕ) → HasNoUnprotect (map Protect ks)
protects_none [] = tt
protects_none (k ∷ ks) = protects_none ks

shares_none : (ks : List ℕ) → HasNoUnprotect (map Share ks)
shares_none [] = tt
shares_none (k ∷ ks) = shares_none ks

ends_none : (rs : List Region) → HasNoUnprotect (map EndBase rs)
ends_none [] = tt
ends_none (r ∷ rs) = ends_none rs

op_none : (op : CodeOp) → HasNoUnprotect (duties_of_op op)
op_none (Call to n from passes protects removes) = protects_none protects
op_none (Go n from passes removes) = shares_none (regions_named passes)
op_none (Do to action from removes) = tt
op_none (Print pieces from removes) = tt
op_none (Jump target removes) = tt
op_none (Branch test target removes other otherwise) = tt
op_none (Return value) = tt

before_none : (o : Option CodeInstr) → HasNoUnprotect (duties_before o)
before_none None = tt
before_none (Some i) = none_more (map Create i.creates) (duties_of_op i.op) (creates_none i.creates) (op_none i.op)

next_none : (code : Code) (frames : List TacFrame) → HasNoUnprotect (next_duties code frames)
next_none code [] = tt
next_none code (frame ∷ callers) = before_none (current code frame)

then_next : (code : Code) (ks : List ℕ) (frames : List TacFrame) → HasNoUnprotect (map Remove ks ++ next_duties code frames)
then_next code ks frames = none_more (map Remove ks) (next_duties code frames) (removes_none ks) (next_none code frames)

-- after a call has returned
unprotects_fit : (ks : List ℕ) (rest : List Duty) (names : Bindings) (protections : List Region)
    → ((r : Region) → bound_times r names ks ≤ times r protections) → HasNoUnprotect rest
    → UnprotectsFit (map Unprotect ks ++ rest) names protections
unprotects_fit [] rest names protections enough none = none_fit rest none names protections
unprotects_fit (k ∷ ks) rest names protections enough none = λ r e.
    let self : one_when (same_bound r (bound names k)) ≡ 1 = ap (λ o. one_when (same_bound r o)) e ∙ ap one_when (same_reflexive r) in
    let first : 1 ≤ times r protections = (let h = enough r in omega (arith, h, self)) in (
      first,
      unprotects_fit ks rest names (removed_once r protections)
          (λ q. let h = enough q in let t = times_removed q r protections first in
          let o : one_when (same_bound q (bound names k)) ≡ one_when (same_region q r) = ap (λ y. one_when (same_bound q y)) e in
          omega (arith, h, t, o))
          none,
    )

-- ---- a goroutine

abbrev pub top_protections : List RegionEnvironment → List Region
top_protections [] = []
top_protections (e ∷ es) = e.protections

abbrev pub EndsProtections : Holder → Type 0
EndsProtections h = UnprotectsFit h.duties (top_names h.environments) (top_protections h.environments)

-- for each goroutine
abbrev pub AllEndProtections : RegionState → Type 0
AllEndProtections s = (g : ℕ) (h : Holder) → slice_get s.holders g ≡ Some h → EndsProtections h

none_ends : (h : Holder) → HasNoUnprotect h.duties → EndsProtections h
none_ends h n = none_fit h.duties n (top_names h.environments) (top_protections h.environments)

no_holder : (h : Holder) → ◌≡◌ {A = Option Holder} None (Some h) → ⊥
no_holder h e = cc

set_cases : (hs : List Holder) (g : ℕ) (k : Holder) (j : ℕ) (h : Holder) → slice_get (slice_set hs g k) j ≡ Some h
    → (k ≡ h) ⊎ (slice_get hs j ≡ Some h)
set_cases [] g k j h e = absurd (no_holder h e)
set_cases (x ∷ hs) zero k zero h e = inl (same_Some k h e)
set_cases (x ∷ hs) zero k (suc j) h e = inr e
set_cases (x ∷ hs) (suc g) k zero h e = inr e
set_cases (x ∷ hs) (suc g) k (suc j) h e = set_cases hs g k j h e

-- one holder of a list is replaced
set_all : (hs : List Holder) (g : ℕ) (k : Holder) → ((j : ℕ) (h : Holder) → slice_get hs j ≡ Some h → EndsProtections h) → EndsProtections k
    → (j : ℕ) (h : Holder) → slice_get (slice_set hs g k) j ≡ Some h → EndsProtections h
set_all hs g k all fits j h e = ⊎_elim
    (λ (q : k ≡ h). subst EndsProtections q fits)
    (λ (q : slice_get hs j ≡ Some h). all j h q)
    (set_cases hs g k j h e)

module _ (s : RegionState) (all : AllEndProtections s) where
  -- one goroutine has another holder
  with_one : (t : RegionState) (g : ℕ) (k : Holder) → t.holders ≡ slice_set s.holders g k → EndsProtections k → AllEndProtections t
  with_one t g k is fits j h e = set_all s.holders g k all fits j h (ap (λ hs. slice_get hs j) (sym is) ∙ e)

  with_none : (t : RegionState) (g : ℕ) (k : Holder) → t.holders ≡ slice_set s.holders g k → HasNoUnprotect k.duties
      → Yields AllEndProtections (Some t)
  with_none t g k is none = yields t (with_one t g k is (none_ends k none))

  -- ---- duties

  by_removal : (g : ℕ) (h : Holder) (r : Region) → HasNoUnprotect h.duties → Yields AllEndProtections (removal s g h r)
  by_removal g h GlobalRegion n = with_none _ g h refl n
  by_removal g h (Numbered r) n = yields_if _ _ _ (yields_if _ _ _ (with_none _ g h refl n) (with_none _ g _ refl n)) yields_none

  by_share : (g : ℕ) (h : Holder) (r : Region) → HasNoUnprotect h.duties → Yields AllEndProtections (shared s g h r)
  by_share g h GlobalRegion n = with_none _ g h refl n
  by_share g h (Numbered r) n = yields_if _ _ _ (yields_if _ _ _ (with_none _ g h refl n) (with_none _ g _ refl n)) yields_none

  same_top : (es : List RegionEnvironment) (r : Region) → top_names (without_protection es r) ≡ top_names es
  same_top [] r = refl
  same_top (e ∷ es) r = refl

  one_fewer : (es : List RegionEnvironment) (r : Region) → top_protections (without_protection es r) ≡ removed_once r (top_protections es)
  one_fewer [] r = refl
  one_fewer (e ∷ es) r = refl

  -- h has the other duties left
  by_duty : (g : ℕ) (h : Holder) (d : Duty) → UnprotectsFit (d ∷ h.duties) (top_names h.environments) (top_protections h.environments)
      → Yields AllEndProtections (duty_done s g h d)
  by_duty g h (Create k) fits = with_none (created s g h k) g _ refl fits
  by_duty g h (Share k) fits = yields_then (shared s g h) _ (λ r. by_share g h r fits)
  by_duty g h (Protect k) fits = yields_then (protected s g h) _ (λ r. yields_if _ _ _ (with_none _ g _ refl fits) yields_none)
  by_duty g h (Unprotect k) fits = yields_at (bound (top_names h.environments) k) (λ r. Some (attended s g (unprotected h r)))
      (λ r e. yields (attended s g (unprotected h r)) (with_one (attended s g (unprotected h r)) g (unprotected h r) refl
      (subst (λ ns. UnprotectsFit h.duties ns (top_protections (without_protection h.environments r))) (sym (same_top h.environments r))
      (subst (λ ps. UnprotectsFit h.duties (top_names h.environments) ps) (sym (one_fewer h.environments r)) (fits r e).1))))
  by_duty g h (Remove k) fits = yields_then _ _ (λ r. by_removal g _ r fits)
  by_duty g h (EndBase r) fits = by_removal g _ r fits

  by_attend : (g : ℕ) (h : Holder) → slice_get s.holders g ≡ Some h → (ds : List Duty) → h.duties ≡ ds
      → Yields AllEndProtections (attend s g h ds)
  by_attend g h there [] e = yields_none
  by_attend g h there (d ∷ ds) e = yields_if _ _ _ (by_duty g (record h { duties = ds }) d
      (subst (λ l. UnprotectsFit l (top_names h.environments) (top_protections h.environments)) e (all g h there))) yields_none

  -- ---- pages and offers leave duties

  -- with k the holder after the page
  by_page : (g : ℕ) (k : Holder) → EndsProtections k → (r : Region) → Yields AllEndProtections (Some (page_taken s g k r))
  by_page g k fits GlobalRegion = yields (page_taken s g k GlobalRegion) (with_one (page_taken s g k GlobalRegion) g k refl fits)
  by_page g k fits (Numbered r) = yields (page_taken s g k (Numbered r)) (with_one (page_taken s g k (Numbered r)) g k refl fits)

  by_take : (code : Code) (page_words g : ℕ) (h : Holder) → slice_get s.holders g ≡ Some h → (frames : List TacFrame)
      → Yields AllEndProtections (take_page code page_words s g h frames)
  by_take code page_words g h there [] = yields_none
  by_take code page_words g h there (frame ∷ callers) = yields_then (page_for code page_words s g h frame) (current code frame)
      (λ i. yields_then (takes_page code page_words s g h) _ (λ r. yields_then (page_before page_words s g h r) _
      (λ object. yields_if _ _ _ (by_page g (with_page page_words h r object) (all g h there) r) yields_none)))

  by_offer : (code : Code) (g : ℕ) (h : Holder) → slice_get s.holders g ≡ Some h → (frames : List TacFrame)
      → Yields AllEndProtections (make_offer code s g h frames)
  by_offer code g h there [] = yields_none
  by_offer code g h there (frame ∷ callers) = yields_if _ _ _ (yields_then (offer_for s g h frame) (current code frame)
      (λ i. yields_then (offered s g h) _ (λ o. yields_if _ _ _ yields_none
      (yields (attended s g (record h { offer = Standing o })) (with_one (attended s g (record h { offer = Standing o })) g _ refl (all g h there)))))) yields_none

  by_acknowledge : (g : ℕ) (h : Holder) → slice_get s.holders g ≡ Some h → (o : Offer) → Yields AllEndProtections (acknowledge s g h o)
  by_acknowledge g h there NoOffer = yields_none
  by_acknowledge g h there (Standing o) = yields_none
  by_acknowledge g h there (Taken o) = yields_if _ _ _ (yields (attended s g (record h { offer = NoOffer }))
      (with_one (attended s g (record h { offer = NoOffer })) g _ refl (all g h there))) yields_none

-- ---- instructions

append_assoc : (a b c : List Duty) → (a ++ b) ++ c ≡ a ++ (b ++ c)
append_assoc [] b c = refl
append_assoc (d ∷ a) b c = ap (λ l. d ∷ l) (append_assoc a b c)

module _ (code : Code) (k : Holder) (frame : TacFrame) where
  -- a return to a caller, whose call has protected what is now to be unprotected
  to_caller : (caller : TacFrame) (e : RegionEnvironment) (es : List RegionEnvironment) (next : List TacFrame) → Waits code caller e → below k.environments ≡ e ∷ es
      → EndsProtections (record k { environments = below k.environments; duties = duties_behind_call (current code caller) ++ next_duties code next })
  to_caller caller e es next w is =
      subst (λ l. EndsProtections (record k { environments = l; duties = duties_behind_call (current code caller) ++ next_duties code next })) (sym is)
      (subst (λ o. UnprotectsFit (duties_behind_call o ++ next_duties code next) e.names e.protections) (sym now) (by w.instr.op refl))
    where
      now : current code caller ≡ Some w.instr
      now = ap (λ o. current_in o caller.next) w.is_fn ∙ w.is_instr

      enough : (protects : List ℕ) → protected_names w.instr.op ≡ protects → (r : Region) → bound_times r e.names protects ≤ times r e.protections
      enough protects is r = let f = w.protections_fit r ∙ ap (bound_times r e.names) is in omega (arith, f)

      not_call : (op : CodeOp) → w.instr.op ≡ op → IsCall op
      not_call op is = subst IsCall is w.calls

      by : (op : CodeOp) → w.instr.op ≡ op → UnprotectsFit (duties_behind w.instr.op ++ next_duties code next) e.names e.protections
      by (Call to n from passes protects removes) is =
          subst (λ o. UnprotectsFit (duties_behind o ++ next_duties code next) e.names e.protections) (sym is)
          (subst (λ l. UnprotectsFit l e.names e.protections)
          (sym (append_assoc (map Unprotect protects) (map Remove removes) (next_duties code next)))
          (unprotects_fit protects (map Remove removes ++ next_duties code next) e.names e.protections (enough protects (ap protected_names is))
          (then_next code removes next)))
      by (Do to action from removes) is = absurd (not_call (Do to action from removes) is)
      by (Go n from passes removes) is = absurd (not_call (Go n from passes removes) is)
      by (Print pieces from removes) is = absurd (not_call (Print pieces from removes) is)
      by (Jump target removes) is = absurd (not_call (Jump target removes) is)
      by (Branch test target removes other otherwise) is = absurd (not_call (Branch test target removes other otherwise) is)
      by (Return value) is = absurd (not_call (Return value) is)

  returns : (callers : List TacFrame) (es : List RegionEnvironment) (ds : List Duty) (next : List TacFrame) → k.environments ≡ es
      → FramesFit code k.base (frame ∷ callers) es ds
      → EndsProtections (record k { environments = below k.environments; duties = caller_duties code k callers ++ next_duties code next })
  returns [] es ds next is fit = none_fit (map EndBase k.base ++ next_duties code next) (none_more (map EndBase k.base) (next_duties code next) (ends_none k.base) (next_none code next)) _ _
  returns (caller ∷ callers) [] ds next is fit = absurd fit
  returns (caller ∷ callers) (e ∷ []) ds next is fit = absurd fit.1
  returns (caller ∷ callers) (e ∷ d ∷ es) ds next is fit = to_caller caller d es next fit.1.0 (ap below is)

  goes_on : (ks : List ℕ) (next : List TacFrame) (names : Bindings) (protections : List Region)
      → UnprotectsFit (map Remove ks ++ next_duties code next) names protections
  goes_on ks next names protections = none_fit (map Remove ks ++ next_duties code next) (then_next code ks next) names protections

  after : (callers : List TacFrame) (op : CodeOp) (next : List TacFrame) → FramesFit code k.base (frame ∷ callers) k.environments k.duties
      → EndsProtections (holder_after code k frame callers op next)
  after callers (Do to action from removes) next fit = goes_on removes next _ _
  after callers (Call to n from passes protects removes) next fit = goes_on (entry_removes (code_function code n)) next _ _
  after callers (Go n from passes removes) next fit = goes_on removes next _ _
  after callers (Print pieces from removes) next fit = goes_on removes next _ _
  after callers (Jump target removes) next fit = goes_on removes next _ _
  after callers (Branch test target removes other otherwise) next fit =
      goes_on (removes_behind frame (Branch test target removes other otherwise)) next _ _
  after callers (Return value) next fit = returns callers k.environments k.duties next refl fit

  unless : (end : Option End) (callers : List TacFrame) (op : CodeOp) (next : List TacFrame) → EndsProtections k
      → FramesFit code k.base (frame ∷ callers) k.environments k.duties
      → EndsProtections (unless_trapped end k (holder_after code k frame callers op next))
  unless None callers op next old fit = after callers op next fit
  unless (Some Exit) callers op next old fit = after callers op next fit
  unless (Some (Trap trap place)) callers op next old fit = old

  child : (op : CodeOp) (frames : List TacFrame) (j : ℕ) (h : Holder) → slice_get (child_holder code k op frames) j ≡ Some h → EndsProtections h
  child (Go n from passes removes) frames zero h e = subst EndsProtections (same_Some _ h e)
      (goes_on (entry_removes (code_function code n)) frames _ _)
  child (Go n from passes removes) frames (suc j) h e = absurd (no_holder h e)
  child (Do to action from removes) frames j h e = absurd (no_holder h e)
  child (Call to n from passes protects removes) frames j h e = absurd (no_holder h e)
  child (Print pieces from removes) frames j h e = absurd (no_holder h e)
  child (Jump target removes) frames j h e = absurd (no_holder h e)
  child (Branch test target removes other otherwise) frames j h e = absurd (no_holder h e)
  child (Return value) frames j h e = absurd (no_holder h e)

module _ (code : Code) (page_words : ℕ) (s : RegionState) (sound : IsSound code s) (all : AllEndProtections s) where
  module _ (g : ℕ) (t : RegionState) (x : OneDone code page_words s g t) where
    abbrev next : TacState
    next = acted_plain s.plain g x.a

    abbrev own : Holder
    own = unless_trapped next.ended x.given.0 (holder_after code x.given.0 x.frame x.callers x.instr.op (frames_of next g))

    good : GoodHolder code (x.frame ∷ x.callers) x.h
    good = subst (λ y. GoodHolder code y x.h) (ap frames_in x.at) (sound.good.good.fine.each g x.h x.there)

    own_ends : EndsProtections own
    own_ends = unless code x.given.0 x.frame next.ended x.callers x.instr.op (frames_of next g)
        (subst EndsProtections (sym x.same.same) (all g x.h x.there))
        (subst (λ (y : Holder). FramesFit code y.base (x.frame ∷ x.callers) y.environments y.duties) (sym x.same.same) good.fit)

    by_instruction : AllEndProtections t
    by_instruction j h e = ⊎_elim
        (λ (q : slice_get (slice_set s.holders g own) j ≡ Some h). set_all s.holders g own all own_ends j h q)
        (λ (q : (i : ℕ) × (slice_get (child_holder code x.given.0 x.instr.op (last_frames next.goroutines)) i ≡ Some h)).
        child code x.given.0 x.frame x.instr.op (last_frames next.goroutines) q.0 h q.1)
        (get_append_cases (slice_set s.holders g own) (child_holder code x.given.0 x.instr.op (last_frames next.goroutines)) j h
        (ap (λ (y : RegionState). slice_get y.holders j) (sym x.is) ∙ e))

  side_ends : {frames next : List TacFrame} → (y : OnFrom code frames next) (h : Holder) → EndsProtections (gone_on y h)
  side_ends y h = none_fit (map Remove (removes_behind y.frame y.instr.op) ++ next_duties code (y.frame' ∷ y.callers))
      (then_next code (removes_behind y.frame y.instr.op) (y.frame' ∷ y.callers)) (top_names h.environments) (top_protections h.environments)

  by_meeting : (r u : ℕ) (t : RegionState) → MeetDone code s r u t → AllEndProtections t
  by_meeting r u t x j h e =
      set_all (slice_set s.holders r (gone_on (receive_goes x.receives x.v) x.h)) u
      (record (gone_on (send_goes x.sends) x.k) { offer = taken_offer x.k.offer })
      (set_all s.holders r (gone_on (receive_goes x.receives x.v) x.h) all (side_ends (receive_goes x.receives x.v) x.h))
      (side_ends (send_goes x.sends) x.k) j h (ap (λ hs. slice_get hs j) (sym x.holders) ∙ e)

  by_event : (event : Event) → Yields AllEndProtections (region_step code page_words s event)
  by_event (Instruct (One g)) =
      yields_from {P = OneDone code page_words s g} {Q = AllEndProtections} (region_step code page_words s (Instruct (One g)))
      (one_done code page_words s g) (by_instruction g)
  by_event (Instruct (Meet r u)) =
      yields_from {P = MeetDone code s r u} {Q = AllEndProtections} (region_step code page_words s (Instruct (Meet r u)))
      (meet_done code page_words s r u) (by_meeting r u)
  by_event (Attend g) = yields_at {X = Holder} (slice_get s.holders g) (λ h. attend s g h h.duties) (λ h there. by_attend s all g h there h.duties refl)
  by_event (TakePage g) = yields_at {X = Holder} (slice_get s.holders g) (λ h. take_page code page_words s g h (frames_of s.plain g))
      (λ h there. by_take s all code page_words g h there (frames_of s.plain g))
  by_event (MakeOffer g) = yields_at {X = Holder} (slice_get s.holders g) (λ h. make_offer code s g h (frames_of s.plain g))
      (λ h there. by_offer s all code g h there (frames_of s.plain g))
  by_event (Acknowledge g) = yields_at {X = Holder} (slice_get s.holders g) (λ h. acknowledge s g h h.offer)
      (λ h there. by_acknowledge s all g h there h.offer)
  by_event (Finish limit) = yields _ all

-- ---- runs

abbrev Stays : Code → RegionState → Type 0
Stays code s = IsSound code s × AllEndProtections s

at_start : (code : Code) → AllEndProtections (region_start code)
at_start code zero h e = subst EndsProtections (same_Some (main_holder code (frames_of (tac_start (erased code)) 0)) h e)
    (none_ends (main_holder code (frames_of (tac_start (erased code)) 0)) (next_none code (frames_of (tac_start (erased code)) 0)))
at_start code (suc j) h e = absurd (no_holder h e)

pub within_is : (code : Code) (page_words : ℕ) (limits : Limits) (o : Option RegionState) (t : RegionState)
    → option_and_then (if_in_limits code page_words limits) o ≡ Some t → o ≡ Some t
within_is code page_words limits None t e = e
within_is code page_words limits (Some s) t e = by (is_within limits s.plain) e
  where
    by : (b : Bool) → (if b then Some s else None) ≡ Some t → Some s ≡ Some t
    by true e = e
    by false e = cc

one_more : (code : Code) (page_words : ℕ) (s t : RegionState) (event : Event) → Stays code s → region_step code page_words s event ≡ Some t
    → Stays code t
one_more code page_words s t event st e = (
  next_sound code page_words s t event st.0 e,
  yields_is (region_step code page_words s event) t (by_event code page_words s st.0 st.1 event) e,
)

run_stays : (code : Code) (page_words : ℕ) (limits : Limits) (s t : RegionState) (events : List Event) → Stays code s
    → run (step_in_limits code page_words limits) s events ≡ Some t → Stays code t
run_stays code page_words limits s t [] st e = subst (Stays code) (same_Some s t e) st
run_stays code page_words limits s t (event ∷ events) st e =
    go (step_in_limits code page_words limits s event) refl e (λ u. run_stays code page_words limits u t events)
  where
    go : (o : Option RegionState) → step_in_limits code page_words limits s event ≡ o
        → option_and_then (λ u. run (step_in_limits code page_words limits) u events) o ≡ Some t
        → ((u : RegionState) → Stays code u → run (step_in_limits code page_words limits) u events ≡ Some t → Stays code t) → Stays code t
    go None q e next = cc
    go (Some u) q e next =
        next u (one_more code page_words s u event st (within_is code page_words limits (region_step code page_words s event) u q)) e

pub ends_protections : (code : Code) (page_words : ℕ) (limits : Limits) (events : List Event) (s : RegionState) → IsChecked code → Ascends code
    → limited_run code page_words limits events ≡ Some s → AllEndProtections s
ends_protections code page_words limits events s checked written leads =
    (run_stays code page_words limits (region_start code) s events (sound_stays.start code checked written, at_start code) leads).1

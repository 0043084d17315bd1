-- A region step keeps the plain state, and an instruction makes a step of it: the law of erasure.
-- `Yields P o` says that P holds of the state in o, if there is one. A step is a chain of tests and look-ups; with the lemmas on
-- `Yields` a proof follows that chain without naming what is between. The law itself is an induction over the events. From the end mark
-- on, print and mark stay (`Over`), so the rest of the run adds no pick.
use Rattle.std.proofs.Common.{◌≡◌, ℕ, Bool, true, false, List, [], ◌∷◌, ◌++◌, Option, Some, None, refl, sym, ap, ◌∙◌}
use Rattle.std.proofs.Common.{subst}
use Rattle.std.proofs.lemmas.Option.{same_Some}
use Rattle.std.specs.Prelude.{option_and_then, unwrap_or, option_map, if◌then◌else◌, slice_get}
use Rattle.rgo_code.specs.Code.{Code, CodeInstr}
use Rattle.rgo_code.specs.Erasure.{erased}
use Rattle.rgo_machine.specs.Runs.{run}
use Rattle.rgo_machine.specs.declared.picks.End.{End}
use Rattle.rgo_machine.specs.declared.picks.Pick.{Pick}
use Rattle.rgo_machine.specs.declared.picks.Pick.TheVariants.{Meet, One}
use Rattle.rgo_region_machine.specs.Duties.{attend, duty_done, protected, removal, shared}
use Rattle.rgo_region_machine.specs.Instructions.{both_instructed, instruct, instructed, instructed_at, mark_with_end}
use Rattle.rgo_region_machine.specs.Instructions.{one_instructed, plain_after, printed_if, some_instructed}
use Rattle.rgo_region_machine.specs.Machine.{Acknowledge, Attend, Event, Finish, Instruct, MakeOffer, TakePage, kept_mark}
use Rattle.rgo_region_machine.specs.Machine.{page_for, page_taken, region_start, region_step, take_page, plain_step}
use Rattle.rgo_region_machine.specs.Machine.{takes_page, page_before}
use Rattle.rgo_region_machine.specs.Offers.{acknowledge, make_offer, offer_at, offer_for, offered}
use Rattle.rgo_region_machine.specs.States.{Create, Duty, EndBase, Ended, Holder, Mark, NoOffer, Offer, Protect}
use Rattle.rgo_region_machine.specs.States.{RegionState, Remove, Share, Standing, Stopped, Taken, Unprotect, frames_of}
use Rattle.rgo_region_machine.specs.declared.regions.Region.{Region}
use Rattle.rgo_region_machine.specs.declared.regions.Region.TheVariants.{Global as GlobalRegion, Numbered}
use Rattle.rgo_region_machine.specs.Objects.{with_page}
use Rattle.rgo_sound.specs.Erasure.{Erasure, SameEnd, erased_picks, event_picks}
use Rattle.rgo_tac.specs.Frames.{TacFrame}
use Rattle.rgo_tac.specs.Tac.{TacState, tac_step}

-- P holds of the value of o, if it has one
abbrev pub Always : {X : Type 0} → (X → Type 0) → Option X → Type 0
Always P None = Unit {0}
Always P (Some x) = P x

pub record Yields {X : Type 0} (P : X → Type 0) (o : Option X) : Type 0 where
  pub fact : Always P o

module _ {Y : Type 0} {P : Y → Type 0} where
  pub yields : (y : Y) → P y → Yields P (Some y)
  yields y h = record { fact = h }

  pub yields_none : Yields P None
  yields_none = record { fact = tt }

  pub yields_if : (b : Bool) (o p : Option Y) → Yields P o → Yields P p → Yields P (if b then o else p)
  yields_if true o p h k = h
  yields_if false o p h k = k

  pub yields_then : {X : Type 0} (f : X → Option Y) (o : Option X) → ((x : X) → Yields P (f x))
      → Yields P (option_and_then f o)
  yields_then f None h = record { fact = tt }
  yields_then f (Some x) h = h x

  -- what a step yields holds of its result
  pub yields_is : (o : Option Y) (y : Y) → Yields P o → o ≡ Some y → P y
  yields_is o y h e = subst (Always P) e h.fact

pub yields_with : {X Y : Type 0} {P : Y → Type 0} (Q : X → Type 0) (f : X → Option Y) (o : Option X) → Yields Q o
    → ((x : X) → Q x → Yields P (f x)) → Yields P (option_and_then f o)
yields_with Q f None y h = record { fact = tt }
yields_with Q f (Some x) y h = h x y.fact

-- a step that is done only if a test is true
pub yields_where : {Y : Type 0} {P : Y → Type 0} (b : Bool) (o : Option Y) → (b ≡ true → Yields P o)
    → Yields P (if b then o else None)
yields_where true o h = h refl
yields_where false o h = record { fact = tt }

-- from what holds of the value of o to what follows from it
pub yields_from : {X : Type 0} → {P Q : X → Type 0} → (o : Option X) → Yields P o → ((x : X) → P x → Q x) → Yields Q o
yields_from None y f = record { fact = tt }
yields_from (Some x) y f = record { fact = f x y.fact }

-- what is yielded, with the fact that it is
pub yields_itself : {X : Type 0} → {P : X → Type 0} → (o : Option X) → Yields P o → Yields (λ x. P x × (o ≡ Some x)) o
yields_itself None y = record { fact = tt }
yields_itself (Some x) y = record { fact = (y.fact, refl) }

-- a step from what is found, with the fact that it is found
pub yields_at : {X Y : Type 0} → {P : Y → Type 0} → (o : Option X) (f : X → Option Y)
    → ((x : X) → o ≡ Some x → Yields P (f x)) → Yields P (option_and_then f o)
yields_at {X} {Y} {P} o f next = go o refl
  where
    go : (p : Option X) → o ≡ p → Yields P (option_and_then f p)
    go None q = record { fact = tt }
    go (Some x) q = next x q

-- t has the plain state and the mark of s
pub record Keeps (s t : RegionState) : Type 0 where
  pub plain : t.plain ≡ s.plain
  pub mark : t.mark ≡ s.mark

same : (s t : RegionState) → t.plain ≡ s.plain → t.mark ≡ s.mark → Yields (Keeps s) (Some t)
same s t p m = record { fact = record { plain = p; mark = m } }

kept_removal : (s : RegionState) (g : ℕ) (h : Holder) (r : Region) → Yields (Keeps s) (removal s g h r)
kept_removal s g h GlobalRegion = same s _ refl refl
kept_removal s g h (Numbered r) = yields_if _ _ _ (yields_if _ _ _ (same s _ refl refl) (same s _ refl refl))
    yields_none

kept_shared : (s : RegionState) (g : ℕ) (h : Holder) (r : Region) → Yields (Keeps s) (shared s g h r)
kept_shared s g h GlobalRegion = same s _ refl refl
kept_shared s g h (Numbered r) = yields_if _ _ _ (yields_if _ _ _ (same s _ refl refl) (same s _ refl refl)) yields_none

kept_protected : (s : RegionState) (g : ℕ) (h : Holder) (r : Region) → Yields (Keeps s) (protected s g h r)
kept_protected s g h r = yields_if _ _ _ (same s _ refl refl) yields_none

kept_duty : (s : RegionState) (g : ℕ) (h : Holder) (d : Duty) → Yields (Keeps s) (duty_done s g h d)
kept_duty s g h (Create k) = same s _ refl refl
kept_duty s g h (Share k) = yields_then _ _ (λ r. kept_shared s g h r)
kept_duty s g h (Protect k) = yields_then _ _ (λ r. kept_protected s g h r)
kept_duty s g h (Unprotect k) = yields_then _ _ (λ r. same s _ refl refl)
kept_duty s g h (Remove k) = yields_then _ _ (λ r. kept_removal s g _ r)
kept_duty s g h (EndBase r) = kept_removal s g _ r

kept_attend : (s : RegionState) (g : ℕ) (h : Holder) (ds : List Duty) → Yields (Keeps s) (attend s g h ds)
kept_attend s g h [] = yields_none
kept_attend s g h (d ∷ ds) = yields_if _ _ _ (kept_duty s g _ d) yields_none

kept_page : (s : RegionState) (g : ℕ) (h : Holder) (r : Region) → Yields (Keeps s) (Some (page_taken s g h r))
kept_page s g h GlobalRegion = same s _ refl refl
kept_page s g h (Numbered r) = same s _ refl refl

kept_takes_page : (code : Code) (page_words : ℕ) (s : RegionState) (g : ℕ) (h : Holder) (r : Region)
    → Yields (Keeps s) (takes_page code page_words s g h r)
kept_takes_page code page_words s g h r = yields_then (page_before page_words s g h r) _
    (λ x. yields_if _ _ _ (kept_page s g (with_page page_words h r x) r) yields_none)

kept_page_for : (code : Code) (page_words : ℕ) (s : RegionState) (g : ℕ) (h : Holder) (frame : TacFrame) (i : CodeInstr)
    → Yields (Keeps s) (page_for code page_words s g h frame i)
kept_page_for code page_words s g h frame i = yields_then (takes_page code page_words s g h) _
    (λ r. kept_takes_page code page_words s g h r)

kept_take_page : (code : Code) (page_words : ℕ) (s : RegionState) (g : ℕ) (h : Holder) (frames : List TacFrame)
    → Yields (Keeps s) (take_page code page_words s g h frames)
kept_take_page code page_words s g h [] = yields_none
kept_take_page code page_words s g h (frame ∷ callers) =
    yields_then (page_for code page_words s g h frame) _ (λ i. kept_page_for code page_words s g h frame i)

kept_offered : (s : RegionState) (g : ℕ) (h : Holder) (o : ℕ) → Yields (Keeps s) (offered s g h o)
kept_offered s g h o = yields_if _ _ _ yields_none (same s _ refl refl)

kept_offer_for : (s : RegionState) (g : ℕ) (h : Holder) (frame : TacFrame) (i : CodeInstr)
    → Yields (Keeps s) (offer_for s g h frame i)
kept_offer_for s g h frame i = yields_then (offered s g h) _ (λ o. kept_offered s g h o)

kept_offer_at : (code : Code) (s : RegionState) (g : ℕ) (h : Holder) (frame : TacFrame)
    → Yields (Keeps s) (offer_at code s g h frame)
kept_offer_at code s g h frame = yields_then (offer_for s g h frame) _ (λ i. kept_offer_for s g h frame i)

kept_make_offer : (code : Code) (s : RegionState) (g : ℕ) (h : Holder) (frames : List TacFrame)
    → Yields (Keeps s) (make_offer code s g h frames)
kept_make_offer code s g h [] = yields_none
kept_make_offer code s g h (frame ∷ callers) = yields_if _ _ _ (kept_offer_at code s g h frame) yields_none

kept_acknowledge : (s : RegionState) (g : ℕ) (h : Holder) (o : Offer) → Yields (Keeps s) (acknowledge s g h o)
kept_acknowledge s g h NoOffer = yields_none
kept_acknowledge s g h (Standing o) = yields_none
kept_acknowledge s g h (Taken o) = yields_if _ _ _ (same s _ refl refl) yields_none

-- t is s after an instruction that led the three-address machine to next
pub record Instructs (s : RegionState) (next : TacState) (t : RegionState) : Type 0 where
  pub plain : t.plain ≡ plain_after s next
  pub mark : t.mark ≡ mark_with_end s.mark next.ended

instructs : (s : RegionState) (next : TacState) (t : RegionState) → t.plain ≡ plain_after s next → t.mark
    ≡ mark_with_end s.mark next.ended → Yields (Instructs s next) (Some t)
instructs s next t p m = record { fact = record { plain = p; mark = m } }

by_instructs : (code : Code) (page_words : ℕ) (s : RegionState) (g : ℕ) (h : Holder) (frame : TacFrame)
    (callers : List TacFrame) (next : TacState) (i : CodeInstr)
    → Yields (Instructs s next) (instructed code page_words s g h frame callers next i)
by_instructs code page_words s g h frame callers next i =
    yields_then (some_instructed code s g frame callers i next) _ (λ given. instructs s next _ refl refl)

at_instructs : (code : Code) (page_words : ℕ) (s : RegionState) (g : ℕ) (h : Holder) (frame : TacFrame)
    (callers : List TacFrame) (next : TacState) → Yields (Instructs s next)
    (instructed_at code page_words s g h frame callers next)
at_instructs code page_words s g h frame callers next =
    yields_then (instructed code page_words s g h frame callers next) _
    (λ i. by_instructs code page_words s g h frame callers next i)

one_instructs : (code : Code) (page_words : ℕ) (s : RegionState) (g : ℕ) (h : Option Holder) (frames : List TacFrame)
    (next : TacState) → Yields (Instructs s next) (one_instructed code page_words s g h frames next)
one_instructs code page_words s g None frames next = yields_none
one_instructs code page_words s g (Some h) [] next = yields_none
one_instructs code page_words s g (Some h) (frame ∷ callers) next =
    yields_if _ _ _ (at_instructs code page_words s g h frame callers next) yields_none

both_instruct : (code : Code) (s : RegionState) (r t : ℕ) (receiver sender : Option Holder) (next : TacState)
    → Yields (Instructs s next) (both_instructed code s r t receiver sender next)
both_instruct code s r t None sender next = yields_none
both_instruct code s r t (Some receiver) None next = yields_none
both_instruct code s r t (Some receiver) (Some sender) next = yields_if _ _ _ (instructs s next _ refl refl) yields_none

instruct_instructs : (code : Code) (page_words : ℕ) (s : RegionState) (pick : Pick) (next : TacState)
    → Yields (Instructs s next) (instruct code page_words s pick next)
instruct_instructs code page_words s (One g) next = one_instructs code page_words s g _ _ next
instruct_instructs code page_words s (Meet r t) next = both_instruct code s r t _ _ next

-- a region step keeps the plain state and the mark; an end keeps the plain state and marks; an instruction steps it
abbrev pub Follows : Code → ℕ → RegionState → Event → RegionState → Type 0
Follows code page_words s (Instruct pick) t = (next : TacState) × (plain_step code s.plain pick ≡ Some next)
    × Instructs s next t
Follows code page_words s (Finish limit) t = (t.plain ≡ s.plain) × (t.mark ≡ kept_mark s.mark limit)
Follows code page_words s _ t = Keeps s t

instruct_follows : (code : Code) (page_words : ℕ) (s : RegionState) (pick : Pick) (o : Option TacState)
    → plain_step code s.plain pick ≡ o → Yields (Follows code page_words s (Instruct pick))
    (option_and_then (instruct code page_words s pick) o)
instruct_follows code page_words s pick None e = yields_none
instruct_follows code page_words s pick (Some next) e = with_fact _ (instruct_instructs code page_words s pick next)
  where
    with_fact : (o : Option RegionState) → Yields (Instructs s next) o
        → Yields (Follows code page_words s (Instruct pick)) o
    with_fact None y = yields_none
    with_fact (Some t) y = record { fact = (next, e, y.fact) }

-- each step keeps the plain state or makes a step of it
pub step_follows : (code : Code) (page_words : ℕ) (s : RegionState) (event : Event)
    → Yields (Follows code page_words s event) (region_step code page_words s event)
step_follows code page_words s (Instruct pick) = instruct_follows code page_words s pick _ refl
step_follows code page_words s (Attend g) = yields_then {X = Holder} (λ h. attend s g h h.duties)
    (slice_get s.holders g) (λ h. kept_attend s g h h.duties)
step_follows code page_words s (TakePage g) = yields_then {X = Holder}
    (λ h. take_page code page_words s g h (frames_of s.plain g)) (slice_get s.holders g)
    (λ h. kept_take_page code page_words s g h (frames_of s.plain g))
step_follows code page_words s (MakeOffer g) = yields_then {X = Holder}
    (λ h. make_offer code s g h (frames_of s.plain g)) (slice_get s.holders g)
    (λ h. kept_make_offer code s g h (frames_of s.plain g))
step_follows code page_words s (Acknowledge g) = yields_then {X = Holder} (λ h. acknowledge s g h h.offer)
    (slice_get s.holders g) (λ h. kept_acknowledge s g h h.offer)
step_follows code page_words s (Finish limit) = record { fact = (refl, refl) }

-- once a run is over, what is printed and the mark stay
record Over (s t : RegionState) (end : Mark) : Type 0 where
  printed : t.plain.printed ≡ s.plain.printed
  mark : t.mark ≡ Some end

over_here : (s t : RegionState) (event : Event) (code : Code) (page_words : ℕ) (end : Mark) → s.mark ≡ Some end
    → Follows code page_words s event t → Over s t end
over_here s t (Instruct pick) code page_words end m f =
    record {
      printed = ap (λ p. p.printed) f.2.plain ∙ ap (λ n. printed_if n s.plain.printed f.0.printed) m;
      mark = f.2.mark ∙ ap (λ n. mark_with_end n f.0.ended) m;
    }
over_here s t (Finish e) code page_words end m f = record
    { printed = ap (λ p. p.printed) f.0; mark = f.1 ∙ ap (λ n. kept_mark n e) m }
over_here s t (Attend g) code page_words end m f = record { printed = ap (λ p. p.printed) f.plain; mark = f.mark ∙ m }
over_here s t (TakePage g) code page_words end m f = record { printed = ap (λ p. p.printed) f.plain; mark = f.mark ∙ m }
over_here s t (MakeOffer g) code page_words end m f = record
    { printed = ap (λ p. p.printed) f.plain; mark = f.mark ∙ m }
over_here s t (Acknowledge g) code page_words end m f =
    record { printed = ap (λ p. p.printed) f.plain; mark = f.mark ∙ m }

module _ (code : Code) (page_words : ℕ) where
  over_stays : (events : List Event) (s t : RegionState) (end : Mark) → s.mark ≡ Some end
      → run (region_step code page_words) s events ≡ Some t → Over s t end
  over_stays [] s t end m r = let e = same_Some s t r in
      record {
        printed = ap (λ (q : RegionState). q.plain.printed) (sym e);
        mark =
            ap (λ (q : RegionState). q.mark) (sym e) ∙ m;
      }
  over_stays (event ∷ events) s t end m r = go (region_step code page_words s event)
      (step_follows code page_words s event) r (λ s' m' r'. over_stays events s' t end m' r')
    where
      go : (o : Option RegionState) → Yields (Follows code page_words s event) o
          → option_and_then (λ q. run (region_step code page_words) q events) o ≡ Some t
          → ((s' : RegionState) → s'.mark ≡ Some end → run (region_step code page_words) s' events ≡ Some t
          → Over s' t end) → Over s t end
      go None y e next = cc
      go (Some s') y e next =
          let here = over_here s s' event code page_words end m y.fact in
          let there = next s' here.mark e in
          record { printed = there.printed ∙ here.printed; mark = there.mark }

  over_no_picks : (events : List Event) (s : RegionState) (end : Mark) → s.mark ≡ Some end
      → erased_picks code page_words s events ≡ []
  over_no_picks [] s end m = refl
  over_no_picks (event ∷ events) s end m =
      ap (λ n. event_picks n event ++ unwrap_or (option_map (λ t. erased_picks code page_words t events)
      (region_step code page_words s event)) []) m
      ∙ go (region_step code page_words s event) (step_follows code page_words s event)
      (λ s' m'. over_no_picks events s' end m')
    where
      go : (o : Option RegionState) → Yields (Follows code page_words s event) o
          → ((s' : RegionState) → s'.mark ≡ Some end → erased_picks code page_words s' events ≡ [])
          → unwrap_or (option_map (λ t. erased_picks code page_words t events) o) [] ≡ []
      go None y next = refl
      go (Some s') y next = next s' (over_here s s' event code page_words end m y.fact).mark

  -- the picks lead the three-address machine from the state to one with the print and the end of t
  record Erases (from : TacState) (picks : List Pick) (t : RegionState) : Type 0 where
    state : TacState
    leads : run (tac_step (erased code)) from picks ≡ Some state
    print : state.printed ≡ t.plain.printed
    end : SameEnd state.ended t.mark
    same : t.mark ≡ None → state ≡ t.plain

  none_some : (mark : Option Mark) (end : Mark) → mark ≡ Some end → mark ≡ None → ⊥
  none_some mark end e n = let x : Some end ≡ None = sym e ∙ n in cc

  -- one step of a run that is not over
  from_step : (event : Event) (events : List Event) (s s' t : RegionState) → s.mark ≡ None → s.plain.ended ≡ None
      → Follows code page_words s event s' → run (region_step code page_words) s' events ≡ Some t
      → (s'.mark ≡ None → s'.plain.ended ≡ None → Erases s'.plain (erased_picks code page_words s' events) t)
      → Erases s.plain (event_picks None event ++ erased_picks code page_words s' events) t
  from_step (Instruct pick) events s s' t m e f r next = after_pick f.0.ended refl
    where
      rest : List Pick
      rest = erased_picks code page_words s' events

      begins : run (tac_step (erased code)) s.plain (pick ∷ rest) ≡ run (tac_step (erased code)) f.0 rest
      begins = ap (option_and_then (λ u. run (tac_step (erased code)) u rest)) f.1

      marks : s'.mark ≡ mark_with_end None f.0.ended
      marks = f.2.mark ∙ ap (λ q. mark_with_end q f.0.ended) m

      after_pick : (o : Option End) → f.0.ended ≡ o → Erases s.plain (pick ∷ rest) t
      after_pick None q =
          let plain : plain_after s f.0 ≡ f.0 = λ i. record {
            memory = f.0.memory;
            goroutines =
                f.0.goroutines;
            printed = printed_if (m i) s.plain.printed f.0.printed;
            ended = sym q i;
          } in
          let on = next (marks ∙ ap (mark_with_end None) q) (ap (λ p. p.ended) f.2.plain) in
          let x = subst (λ p. Erases p rest t) (f.2.plain ∙ plain) on in
          record { state = x.state; leads = begins ∙ x.leads; print = x.print; end = x.end; same = x.same }
      after_pick (Some x) q =
          let mark : s'.mark ≡ Some (Ended x) = marks ∙ ap (mark_with_end None) q in
          let over = over_stays events s' t (Ended x) mark r in
          record {
            state = f.0;
            leads = begins ∙ ap (run (tac_step (erased code)) f.0) (over_no_picks events s' (Ended x) mark);
            print = sym (over.printed ∙ ap (λ p. p.printed) f.2.plain
                ∙ ap (λ n. printed_if n s.plain.printed f.0.printed) m);
            end = subst (λ o. SameEnd o t.mark) (sym q) over.mark;
            same = λ n. absurd (none_some t.mark (Ended x) over.mark n);
          }
  from_step (Finish limit) events s s' t m e f r next =
      let mark : s'.mark ≡ Some (Stopped limit) = f.1 ∙ ap (λ n. kept_mark n limit) m in
      let over = over_stays events s' t (Stopped limit) mark r in
      let ends : SameEnd None t.mark = subst (SameEnd None) (sym over.mark) tt in
      record {
        state = s.plain;
        leads = ap (run (tac_step (erased code)) s.plain) (over_no_picks events s' (Stopped limit) mark);
        print = sym (over.printed ∙ ap (λ p. p.printed) f.0);
        end = subst (λ o. SameEnd o t.mark) (sym e) ends;
        same = λ n. absurd (none_some t.mark (Stopped limit) over.mark n);
      }
  from_step (Attend g) events s s' t m e f r next = subst (λ p. Erases p (erased_picks code page_words s' events) t)
      f.plain (next (f.mark ∙ m) (ap (λ p. p.ended) f.plain ∙ e))
  from_step (TakePage g) events s s' t m e f r next = subst (λ p. Erases p (erased_picks code page_words s' events) t)
      f.plain (next (f.mark ∙ m) (ap (λ p. p.ended) f.plain ∙ e))
  from_step (MakeOffer g) events s s' t m e f r next = subst (λ p. Erases p (erased_picks code page_words s' events) t)
      f.plain (next (f.mark ∙ m) (ap (λ p. p.ended) f.plain ∙ e))
  from_step (Acknowledge g) events s s' t m e f r next =
      subst (λ p. Erases p (erased_picks code page_words s' events) t) f.plain
      (next (f.mark ∙ m) (ap (λ p. p.ended) f.plain ∙ e))

  erases : (events : List Event) (s t : RegionState) → s.mark ≡ None → s.plain.ended ≡ None
      → run (region_step code page_words) s events ≡ Some t → Erases s.plain (erased_picks code page_words s events) t
  erases [] s t m e r =
      let q = same_Some s t r in
      record {
        state = s.plain;
        leads = refl;
        print = ap (λ (q : RegionState). q.plain.printed) q;
        end =
            subst (λ n. SameEnd n t.mark) (sym e) (subst (SameEnd None)
            (sym (ap (λ (q : RegionState). q.mark) (sym q) ∙ m)) tt);
        same = λ n. ap (λ (q : RegionState). q.plain) q;
      }
  erases (event ∷ events) s t m e r =
      subst (λ n. Erases s.plain (event_picks n event ++ unwrap_or
      (option_map (λ q. erased_picks code page_words q events) (region_step code page_words s event)) []) t) (sym m)
      (go (region_step code page_words s event) (step_follows code page_words s event) r
      (λ s' r' m' e'. erases events s' t m' e' r'))
    where
      go : (o : Option RegionState) → Yields (Follows code page_words s event) o
          → option_and_then (λ q. run (region_step code page_words) q events) o ≡ Some t
          → ((s' : RegionState) → run (region_step code page_words) s' events ≡ Some t → s'.mark ≡ None → s'.plain.ended
          ≡ None → Erases s'.plain (erased_picks code page_words s' events) t)
          → Erases s.plain (event_picks None event ++ unwrap_or
          (option_map (λ q. erased_picks code page_words q events) o) []) t
      go None y r next = cc
      go (Some s') y r next = from_step event events s s' t m e y.fact r (next s' r)

pub the_erasure : Erasure
the_erasure code page_words events s r =
    let x = erases code page_words events (region_start code) s refl refl r in
    record { state = x.state; leads = x.leads; print = x.print; end = x.end; same = x.same }

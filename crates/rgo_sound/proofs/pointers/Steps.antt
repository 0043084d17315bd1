-- Each step of the region machine keeps pointers in their regions.
-- A duty changes names and no memory. It has to leave the regions of all live variables (`Change`), and does: by `IsReady` the name
-- that it binds or unbinds is not held there. An instruction is the work of Variables and Actions. The hard case is a meeting, which
-- moves a value from the names of one goroutine to those of another: the region of the channel, which both names denote, links the two
-- (`values_meet`).
use Rattle.std.proofs.Common.{◌≡◌, ◌≢◌, ℕ, zero, suc, ◌+◌, false, List, [], ◌∷◌, ◌++◌, map, length, get_or, Option}
use Rattle.std.proofs.Common.{Some, None, refl, sym, ap, ◌∙◌, subst, nat_eq, if◌then◌else◌, arith, slice_get, slice_set}
use Rattle.std.proofs.Common.{append-nil, ◌⊎◌, inl, inr, Contains}
use Rattle.std.proofs.lemmas.Option.{slice_get_within, same_Some}
use Rattle.rgo_sound.proofs.Places.{contains_here, contains_there, contains_nil, contains_cases, get_append_left}
use Rattle.rgo_sound.proofs.Places.{get_append_place, get_append_right, get_set_other, get_set_same, length_set}
use Rattle.rgo_sound.proofs.Tests.{split, eq_of}
use Rattle.rgo_sound.proofs.steps.Acting.{after, end_by}
use Rattle.rgo_sound.proofs.plain.Steps.{Always, Yields, yields, yields_none, yields_if, yields_then, Follows}
use Rattle.rgo_sound.proofs.plain.Steps.{step_follows, yields_at, yields_from}
use Rattle.rgo_sound.proofs.names.Core.{bound_unbind_other}
use Rattle.rgo_sound.proofs.types.Steps.{ActedFits, ReceiveFits, SendFits, alone_fits, receive_fits, send_fits}
use Rattle.rgo_sound.proofs.types.Steps.{one_inner, one_object, here, types_keep}
use Rattle.rgo_sound.proofs.types.Actions.{zero_kind, zeros_kinds}
use Rattle.rgo_sound.proofs.steps.Each.{Main, fine_step, fine_start, main_of}
use Rattle.rgo_sound.proofs.pointers.Actions.{HomeAfter, has_class, home_into, home_of_plain, into_home, into_plain, joined_home}
use Rattle.rgo_sound.proofs.pointers.Actions.{plain_home, zero_plain}
use Rattle.rgo_sound.proofs.pointers.Variables.{environments_after, child_environment, ActedLeads, acts_lead, names_lead}
use Rattle.rgo_sound.proofs.pointers.Variables.{more_frames_lead, goes_on, joins_agree, no_object_set, plain_at, reads_home}
use Rattle.rgo_sound.proofs.pointers.Variables.{ref_class, zeros_plain}
use Rattle.rgo_sound.proofs.steps.OneStep.{OneDone, one_done, MeetDone, meet_done, Allots, gone_on, receive_goes, send_goes}
use Rattle.rgo_code.specs.Checked.{IsChecked}
use Rattle.rgo_code.specs.Code.{Branch, Call, Code, CodeFn, CodeOp, Do, Go, Jump, Print, Return}
use Rattle.rgo_code.specs.Erasure.{erased, erased_fn, erased_op}
use Rattle.rgo_code.specs.NameRules.{Ascends}
use Rattle.rgo_code.specs.Names.{class_of, edges}
use Rattle.rgo_code.specs.declared.rules.Line.TheVariants as line
use Rattle.rgo_code.specs.declared.rules.Rule.TheVariants as rule
use Rattle.rgo_machine.specs.declared.picks.End.{End}
use Rattle.rgo_machine.specs.declared.picks.End.TheVariants.{Exit, Trap}
use Rattle.rgo_machine.specs.declared.picks.Pick.TheVariants.{Meet, One}
use Rattle.rgo_memory.specs.Values.{zero_of}
use Rattle.rgo_memory.specs.declared.values.Value.{Value}
use Rattle.rgo_memory.specs.declared.values.Value.TheVariants as value
use Rattle.rgo_region_machine.specs.Duties.{attend, attended, duty_done, protected, removal, shared, unprotected}
use Rattle.rgo_region_machine.specs.Duties.{with_protection, without_protection}
use Rattle.rgo_region_machine.specs.Instructions.{child_holder, holder_after, instructed_with, last_frames, taken_offer}
use Rattle.rgo_region_machine.specs.Instructions.{unless_trapped}
use Rattle.rgo_region_machine.specs.Machine.{Acknowledge, Attend, Event, Finish, Instruct, MakeOffer, TakePage}
use Rattle.rgo_region_machine.specs.Machine.{finished, main_holder, page_for, page_taken, region_start, region_step}
use Rattle.rgo_region_machine.specs.Machine.{take_page, takes_page, page_before}
use Rattle.rgo_region_machine.specs.Objects.{making_region, with_page}
use Rattle.rgo_region_machine.specs.Offers.{acknowledge, make_offer, offer_for, offered}
use Rattle.rgo_region_machine.specs.Regions.{Bindings, bound, removed_once, unbind}
use Rattle.rgo_region_machine.specs.States.{Create, Duty, EndBase, RegionEnvironment, Holder, NoOffer, Offer, Protect}
use Rattle.rgo_region_machine.specs.States.{RegionState, Remove, Share, Standing, Taken, Unprotect, frames_in}
use Rattle.rgo_region_machine.specs.States.{frames_of, top_names, with_top}
use Rattle.rgo_region_machine.specs.declared.limits.Limit.{Limit}
use Rattle.rgo_region_machine.specs.declared.regions.Region.{Region}
use Rattle.rgo_region_machine.specs.declared.regions.Region.TheVariants.{Global as GlobalRegion, Numbered}
use Rattle.rgo_memory.specs.Memory.{Object}
use Rattle.rgo_sound.specs.Core.{AreStaked, NamesStaked}
use Rattle.rgo_sound.specs.Good.{Good}
use Rattle.rgo_sound.specs.Invariant.{Fine, FramesFit, GoodHolder, HasInstr, IsFree, IsReady, Settled, Stands}
use Rattle.rgo_sound.specs.Safety.{PointersStay, cells_of}
use Rattle.rgo_sound.specs.Types.{Each, FramesHaveKinds, HasKind, HaveKinds, AreValuesTyped}
use Rattle.rgo_sound.specs.Values.{FramesLead, LeadsHome, LeadsInto, MemoryHome, ValuesStay}
use Rattle.rgo_tac.specs.Flow.{reads, writes}
use Rattle.rgo_tac.specs.Frames.{TacFrame, assigned_variables, new_tac_frame, frame_after_instr, value_at}
use Rattle.rgo_tac.specs.Joins.{action_joins}
use Rattle.rgo_tac.specs.Tac.{TacState, tac_main_frames, tac_start}
use Rattle.rgo_tac.specs.declared.regions.Class.TheVariants.{NoClass}
use Rattle.rgo_tac.specs.declared.regions.Member.TheVariants as member
use Rattle.rgo_typed.specs.declared.actions.Action.TheVariants.{Recv, Send}
use Rattle.rgo_typed.specs.declared.programs.Variable.{Variable}

-- ---- the environments after an instruction

-- they are those of the holder after it, whether it trapped or not: a trap leaves them as they were
unless_environments : (g : ℕ) (frames : List TacFrame) (trap : Option End) (before after : Holder)
    → Always (λ e. after.environments ≡ before.environments) trap
    → (unless_trapped (end_by g frames trap) before after).environments ≡ after.environments
unless_environments zero [] None before after h = refl
unless_environments zero (f ∷ fs) None before after h = refl
unless_environments (suc g) frames None before after h = refl
unless_environments g frames (Some Exit) before after h = refl
unless_environments g frames (Some (Trap trap place)) before after h = sym h

after_environments : (code : Code) (k : Holder) (frame : TacFrame) (callers : List TacFrame) (op : CodeOp) (next : List TacFrame)
    → (holder_after code k frame callers op next).environments ≡ environments_after code k.environments op
after_environments code k frame callers (Do to action from removes) next = refl
after_environments code k frame callers (Call to n from passes protects removes) next = refl
after_environments code k frame callers (Go n from passes removes) next = refl
after_environments code k frame callers (Print pieces from removes) next = refl
after_environments code k frame callers (Jump j removes) next = refl
after_environments code k frame callers (Branch v j removes k' others) next = refl
after_environments code k frame callers (Return value) next = refl

-- ---- the newest frame

-- the environment of the top frame, which fits it, and those of its callers
pub record Top (code : Code) (h : Holder) (frame : TacFrame) (callers : List TacFrame) : Type 0 where
  pub f : RegionEnvironment
  pub fs : List RegionEnvironment
  pub environments : h.environments ≡ f ∷ fs
  pub stands : Stands code frame f h.duties
  pub staked : NamesStaked h.stakes f.names

-- the top frame of a goroutine and what holds of it
pub top_of : (code : Code) (h : Holder) (frame : TacFrame) (callers : List TacFrame) → GoodHolder code (frame ∷ callers) h
    → Top code h frame callers
top_of code h frame callers good = go h.environments refl
  where
    go : (environments : List RegionEnvironment) → h.environments ≡ environments → Top code h frame callers
    go [] e = absurd (subst (λ x. FramesFit code h.base (frame ∷ callers) x h.duties) e good.fit)
    go (f ∷ fs) e =
        let fit : FramesFit code h.base (frame ∷ callers) (f ∷ fs) h.duties =
        subst (λ x. FramesFit code h.base (frame ∷ callers) x h.duties) e good.fit in
        record {
          f = f;
          fs = fs;
          environments = e;
          stands = fit.0;
          staked =
              (subst (λ x. AreStaked h.stakes x) e good.core.staked).0;
        }

module _ (code : Code) (s : RegionState) (values : ValuesStay code s) where
  -- one goroutine has other environments
  values_with : (t : RegionState) (g : ℕ) (h k : Holder) → slice_get s.holders g ≡ Some h → t.owners ≡ s.owners
      → t.plain ≡ s.plain → t.holders ≡ slice_set s.holders g k
      → FramesLead code s.owners (frames_of s.plain g) k.environments → ValuesStay code t
  values_with t g h k e os ps hs lead =
      record {
        memory = subst (λ o. MemoryHome o t.plain.memory) (sym os)
            (subst (λ (p : TacState). MemoryHome s.owners p.memory) (sym ps) values.memory);
        frames = λ j x q. subst (λ o. FramesLead code o (frames_of t.plain j) x.environments) (sym os)
            (subst (λ p. FramesLead code s.owners (frames_of p j) x.environments) (sym ps)
            (each j x (sym (ap (λ y. slice_get y j) hs) ∙ q)));
      }
    where
      each : (j : ℕ) (x : Holder) → slice_get (slice_set s.holders g k) j ≡ Some x
          → FramesLead code s.owners (frames_of s.plain j) x.environments
      each j x q =
          split (nat_eq g j)
          (λ t. subst (λ (y : Holder). FramesLead code s.owners (frames_of s.plain j) y.environments)
          (same_Some k x (sym (get_set_same s.holders g h k e)
          ∙ ap (slice_get (slice_set s.holders g k)) (eq_of g j t) ∙ q))
          (subst (λ i. FramesLead code s.owners (frames_of s.plain i) k.environments) (eq_of g j t) lead))
          (λ n. values.frames j x (sym (get_set_other s.holders g j k n) ∙ q))

  -- or the same environments
  with_same : (t : RegionState) (g : ℕ) (h k : Holder) → slice_get s.holders g ≡ Some h → t.owners ≡ s.owners → t.plain
      ≡ s.plain → t.holders ≡ slice_set s.holders g k → k.environments ≡ h.environments → ValuesStay code t
  with_same t g h k e os ps hs ks = values_with t g h k e os ps hs
      (subst (FramesLead code s.owners (frames_of s.plain g)) (sym ks) (values.frames g h e))

  -- ---- duties

  -- a change of the top environment that touches no name which is live at the frame's instruction
  record Change (F : List RegionEnvironment → List RegionEnvironment) (h : Holder) (frame : TacFrame) (callers : List TacFrame)
      (top : Top code h frame callers) : Type 0 where
    names : Bindings
    protections : List Region
    is : F (top.f ∷ top.fs) ≡ record { lent = top.f.lent; names = names; protections = protections } ∷ top.fs
    same : (k : ℕ) → IsFree top.stands.fn frame.next k ⊎ (bound names k ≡ bound top.f.names k)

  module _ (g : ℕ) (h : Holder) (d : Duty) (ds : List Duty) (good : GoodHolder code (frames_of s.plain g) h)
      (e : slice_get s.holders g ≡ Some h) (owed : h.duties ≡ d ∷ ds) where
    -- such a change keeps where the variables lead
    changed : (F : List RegionEnvironment → List RegionEnvironment) → ((frame : TacFrame) (callers : List TacFrame)
        (top : Top code h frame callers) → Change F h frame callers top)
        → FramesLead code s.owners (frames_of s.plain g) (F h.environments)
    changed F change = go (frames_of s.plain g) refl
      where
        go : (frames : List TacFrame) → frames_of s.plain g ≡ frames → FramesLead code s.owners frames (F h.environments)
        go [] q = tt
        go (frame ∷ callers) q =
            let top = top_of code h frame callers (subst (λ x. GoodHolder code x h) q good) in
            let c = change frame callers top in
            let old : FramesLead code s.owners (frame ∷ callers) (top.f ∷ top.fs) =
            subst (FramesLead code s.owners (frame ∷ callers)) top.environments
            (subst (λ x. FramesLead code s.owners x h.environments) q (values.frames g h e)) in
            subst (λ x. FramesLead code s.owners (frame ∷ callers) (F x)) (sym top.environments)
            (subst (FramesLead code s.owners (frame ∷ callers)) (sym c.is)
            (names_lead code s.owners frame callers top.f top.fs top.stands.fn top.stands.is_fn top.stands.lends c.names
            c.protections c.same old))

    -- the first duty can be done, and so its name is not live there
    first : (frame : TacFrame) (callers : List TacFrame) (top : Top code h frame callers)
        → IsReady (IsFree top.stands.fn frame.next) (Settled top.stands.fn frame.next top.stands.instr) (d ∷ ds)
        top.f.names top.f.protections
    first frame callers top = subst (λ x. IsReady (IsFree top.stands.fn frame.next)
        (Settled top.stands.fn frame.next top.stands.instr) x top.f.names top.f.protections) owed top.stands.ready

    unbinds : (k : ℕ) → d ≡ Remove k → FramesLead code s.owners (frames_of s.plain g)
        (with_top h.environments (unbind (top_names h.environments) k))
    unbinds k is = changed (λ x. with_top x (unbind (top_names x) k)) (λ frame callers top. record {
      names = unbind top.f.names k;
      protections = top.f.protections;
      is = refl;
      same = λ j. split (nat_eq k j)
          (λ t. inl (subst (IsFree top.stands.fn frame.next) (eq_of k j t) (free frame callers top)))
          (λ n. inr (bound_unbind_other top.f.names k j n));
    })
      where
        free : (frame : TacFrame) (callers : List TacFrame) (top : Top code h frame callers)
            → IsFree top.stands.fn frame.next k
        free frame callers top = (let x : IsReady (IsFree top.stands.fn frame.next)
            (Settled top.stands.fn frame.next top.stands.instr) (Remove k ∷ ds) top.f.names top.f.protections =
            subst (λ x. IsReady (IsFree top.stands.fn frame.next) (Settled top.stands.fn frame.next top.stands.instr)
            (x ∷ ds) top.f.names top.f.protections) is (first frame callers top) in x.2)

    creates : (k r : ℕ) → d ≡ Create k → FramesLead code s.owners (frames_of s.plain g)
        (with_top h.environments ((k, Numbered r) ∷ unbind (top_names h.environments) k))
    creates k r is = changed (λ x. with_top x ((k, Numbered r) ∷ unbind (top_names x) k)) (λ frame callers top. record {
      names = (k, Numbered r) ∷ unbind top.f.names k;
      protections = top.f.protections;
      is = refl;
      same = λ j. split (nat_eq k j)
          (λ t. inl (subst (IsFree top.stands.fn frame.next) (eq_of k j t) (free frame callers top)))
          (λ n. inr (ap (λ b. if b then Some (Numbered r) else bound (unbind top.f.names k) j) n
          ∙ bound_unbind_other top.f.names k j n));
    })
      where
        free : (frame : TacFrame) (callers : List TacFrame) (top : Top code h frame callers)
            → IsFree top.stands.fn frame.next k
        free frame callers top = (let x : IsReady (IsFree top.stands.fn frame.next)
            (Settled top.stands.fn frame.next top.stands.instr) (Create k ∷ ds) top.f.names top.f.protections =
            subst (λ x. IsReady (IsFree top.stands.fn frame.next) (Settled top.stands.fn frame.next top.stands.instr)
            (x ∷ ds) top.f.names top.f.protections) is (first frame callers top) in x.1)

    protections_change : (F : List RegionEnvironment → List RegionEnvironment)
        → ((f : RegionEnvironment) (fs : List RegionEnvironment) → (new : List Region)
        × (F (f ∷ fs) ≡ record f { protections = new } ∷ fs))
        → FramesLead code s.owners (frames_of s.plain g) (F h.environments)
    protections_change F is = changed F (λ frame callers top.
        record {
          names = top.f.names;
          protections = (is top.f top.fs).0;
          is = (is top.f top.fs).1;
          same =
              λ k. inr refl;
        })

    removes : (k : ℕ) → d ≡ Remove k → (q : Region) → Yields (ValuesStay code)
        (removal s g (record h {
          duties = ds;
          environments =
              with_top h.environments (unbind (top_names h.environments) k);
        }) q)
    removes k is GlobalRegion = yields _ (values_with _ g h _ e refl refl refl (unbinds k is))
    removes k is (Numbered r) = yields_if _ _ _ (yields_if _ _ _
        (yields _ (values_with _ g h _ e refl refl refl (unbinds k is)))
        (yields _ (values_with _ g h _ e refl refl refl (unbinds k is)))) yields_none

    shares : (q : Region) → Yields (ValuesStay code) (shared s g (record h { duties = ds }) q)
    shares GlobalRegion = yields _ (with_same _ g h _ e refl refl refl refl)
    shares (Numbered r) = yields_if _ _ _ (yields_if _ _ _ (yields _ (with_same _ g h _ e refl refl refl refl))
        (yields _ (with_same _ g h _ e refl refl refl refl))) yields_none

    ends : (base : List Region) (q : Region) → Yields (ValuesStay code)
        (removal s g (record h { duties = ds; base = base }) q)
    ends base GlobalRegion = yields _ (with_same _ g h _ e refl refl refl refl)
    ends base (Numbered r) = yields_if _ _ _ (yields_if _ _ _ (yields _ (with_same _ g h _ e refl refl refl refl))
        (yields _ (with_same _ g h _ e refl refl refl refl))) yields_none

    done : (d' : Duty) → d ≡ d' → Yields (ValuesStay code) (duty_done s g (record h { duties = ds }) d')
    done (Create k) is = yields _ (values_with _ g h _ e refl refl refl (creates k (length s.regions) is))
    done (Share k) is = yields_then (shared s g (record h { duties = ds })) _ shares
    done (Protect k) is = yields_then (protected s g (record h { duties = ds })) _
        (λ q. yields_if _ _ _ (yields _ (values_with _ g h _ e refl refl refl
        (protections_change (λ x. with_protection x q) (λ f fs. (q ∷ f.protections, refl))))) yields_none)
    done (Unprotect k) is = yields_then (λ q. Some (attended s g (unprotected (record h { duties = ds }) q))) _
        (λ q. yields _ (values_with _ g h _ e refl refl refl
        (protections_change (λ x. without_protection x q) (λ f fs. (removed_once q f.protections, refl)))))
    done (Remove k) is = yields_then (removal s g (record h
        { duties = ds; environments = with_top h.environments (unbind (top_names h.environments) k) })) _ (removes k is)
    done (EndBase r) is = ends (removed_once r h.base) r

  values_attend : (g : ℕ) (h : Holder) → GoodHolder code (frames_of s.plain g) h → slice_get s.holders g ≡ Some h
      → Yields (ValuesStay code) (attend s g h h.duties)
  values_attend g h good e = go h.duties refl
    where
      go : (ds : List Duty) → h.duties ≡ ds → Yields (ValuesStay code) (attend s g h ds)
      go [] q = yields_none
      go (d ∷ ds) q = yields_if _ _ _ (done g h d ds good e q d refl) yields_none

  -- ---- pages, offers, ends

  values_take : (g : ℕ) (h : Holder) (page_words : ℕ) (frames : List TacFrame) → slice_get s.holders g ≡ Some h
      → Yields (ValuesStay code) (take_page code page_words s g h frames)
  values_take g h page_words [] e = yields_none
  values_take g h page_words (frame ∷ callers) e = yields_then (page_for code page_words s g h frame) _
      (λ i. yields_then (takes_page code page_words s g h) _ (λ r. yields_then (page_before page_words s g h r) _
      (λ x. yields_if _ _ _ (taken r x) yields_none)))
    where
      taken : (r : Region) (x : Object) → Yields (ValuesStay code) (Some (page_taken s g (with_page page_words h r x) r))
      taken GlobalRegion x = yields _ (with_same _ g h _ e refl refl refl refl)
      taken (Numbered r) x = yields _ (with_same _ g h _ e refl refl refl refl)

  values_make : (g : ℕ) (h : Holder) (frames : List TacFrame) → slice_get s.holders g ≡ Some h
      → Yields (ValuesStay code) (make_offer code s g h frames)
  values_make g h [] e = yields_none
  values_make g h (frame ∷ callers) e = yields_if _ _ _ (yields_then (offer_for s g h frame) _
      (λ i. yields_then (offered s g h) _ (λ o. yields_if _ _ _ yields_none
      (yields _ (with_same _ g h _ e refl refl refl refl))))) yields_none

  values_acknowledge : (g : ℕ) (h : Holder) (o : Offer) → slice_get s.holders g ≡ Some h
      → Yields (ValuesStay code) (acknowledge s g h o)
  values_acknowledge g h NoOffer e = yields_none
  values_acknowledge g h (Standing o) e = yields_none
  values_acknowledge g h (Taken o) e = yields_if _ _ _ (yields _ (with_same _ g h _ e refl refl refl refl)) yields_none

  values_finish : (limit : Limit) → ValuesStay code (finished s limit)
  values_finish limit = record { memory = values.memory; frames = values.frames }

  -- ---- one goroutine's instruction

  -- the frames of the goroutine and of its child lead home by `acts_lead`; those of the others led home before
  values_one : (page_words g : ℕ) (t : RegionState) → IsChecked code → Fine code s → AreValuesTyped code s.plain
      → OneDone code page_words s g t → ValuesStay code t
  values_one page_words g t checked fine typed x = subst (ValuesStay code) (sym x.is) done
    where
      good : GoodHolder code (x.frame ∷ x.callers) x.h
      good = subst (λ y. GoodHolder code y x.h) (ap frames_in x.at) (fine.each g x.h x.there)

      top : Top code x.h x.frame x.callers
      top = top_of code x.h x.frame x.callers good

      lead : FramesLead code s.owners (x.frame ∷ x.callers) (top.f ∷ top.fs)
      lead = subst (FramesLead code s.owners (x.frame ∷ x.callers)) top.environments
          (subst (λ y. FramesLead code s.owners y x.h.environments) (ap frames_in x.at) (values.frames g x.h x.there))

      typed_frames : FramesHaveKinds code typed.kinds (x.frame ∷ x.callers)
      typed_frames = typed.frames g (x.frame ∷ x.callers) x.at

      fits : ActedFits code typed.kinds x.a
      fits = subst (Always (ActedFits code typed.kinds)) x.acts
          (alone_fits code checked typed.kinds s.plain.memory (x.frame ∷ x.callers) typed.memory typed_frames)

      allots : Allots (making_region (Some top.stands.fn) top.f.names x.instr.op)
          (slice_get x.a.memory.heap (length s.plain.memory.heap)) x.given.1
      allots = subst (λ sh. Allots (making_region (Some top.stands.fn) (top_names sh) x.instr.op)
          (slice_get x.a.memory.heap (length s.plain.memory.heap)) x.given.1) top.environments
          (subst (λ o. Allots (making_region o (top_names x.h.environments) x.instr.op)
          (slice_get x.a.memory.heap (length s.plain.memory.heap)) x.given.1) top.stands.is_fn x.allots)

      acted : ActedLeads code (top.f ∷ top.fs) x.instr.op (s.owners ++ x.given.1) x.a
      acted = acts_lead code checked s.owners s.plain.memory values.memory x.frame x.callers x.instr x.cur top.f top.fs
          lead top.stands.fn top.stands.is_fn top.stands.lends typed.kinds typed.memory typed_frames x.a x.acts fits
          x.given.1 allots

      next : TacState
      next = after s.plain g x.a

      k : Holder
      k = unless_trapped (after s.plain g x.a).ended x.given.0
          (holder_after code x.given.0 x.frame x.callers x.instr.op (frames_of (after s.plain g x.a) g))

      given_environments : x.given.0.environments ≡ top.f ∷ top.fs
      given_environments = ap (λ (y : Holder). y.environments) x.same.same ∙ top.environments

      k_environments : (unless_trapped (after s.plain g x.a).ended x.given.0
          (holder_after code x.given.0 x.frame x.callers x.instr.op (frames_of (after s.plain g x.a) g))).environments
          ≡ environments_after code (top.f ∷ top.fs) x.instr.op
      k_environments =
          unless_environments g x.a.frames x.a.trap x.given.0
          (holder_after code x.given.0 x.frame x.callers x.instr.op (frames_of (after s.plain g x.a) g))
          (calm x.a.trap acted.calm)
          ∙ after_environments code x.given.0 x.frame x.callers x.instr.op (frames_of (after s.plain g x.a) g)
          ∙ ap (λ y. environments_after code y x.instr.op) given_environments
        where
          calm : (trap : Option End) → Always (λ e. environments_after code (top.f ∷ top.fs) x.instr.op
              ≡ top.f ∷ top.fs) trap → Always (λ e. (holder_after code x.given.0 x.frame x.callers x.instr.op
              (frames_of (after s.plain g x.a) g)).environments ≡ x.given.0.environments) trap
          calm None h = tt
          calm (Some end) h = after_environments code x.given.0 x.frame x.callers x.instr.op
              (frames_of (after s.plain g x.a) g) ∙ ap (λ y. environments_after code y x.instr.op) given_environments
              ∙ h ∙ sym given_environments

      long : length (slice_set s.holders g (unless_trapped (after s.plain g x.a).ended x.given.0
          (holder_after code x.given.0 x.frame x.callers x.instr.op (frames_of (after s.plain g x.a) g))))
          ≡ length (slice_set s.plain.goroutines g x.a.frames)
      long = length_set s.holders g _ ∙ fine.as_many ∙ sym (length_set s.plain.goroutines g x.a.frames)

      -- those that were there
      old : (j : ℕ) (y : Holder) → slice_get (slice_set s.holders g
          (unless_trapped (after s.plain g x.a).ended x.given.0
          (holder_after code x.given.0 x.frame x.callers x.instr.op (frames_of (after s.plain g x.a) g)))) j ≡ Some y
          → FramesLead code (s.owners ++ x.given.1) (frames_in
          (slice_get (slice_set s.plain.goroutines g x.a.frames) j)) y.environments
      old j y q =
          split (nat_eq g j)
          (λ u. subst (λ (z : Holder). FramesLead code (s.owners ++ x.given.1)
          (frames_in (slice_get (slice_set s.plain.goroutines g x.a.frames) j)) z.environments)
          (same_Some _ y (sym (get_set_same s.holders g x.h _ x.there)
          ∙ ap (slice_get (slice_set s.holders g (unless_trapped (after s.plain g x.a).ended x.given.0
          (holder_after code x.given.0 x.frame x.callers x.instr.op (frames_of (after s.plain g x.a) g)))))
          (eq_of g j u) ∙ q))
          (subst (λ i. FramesLead code (s.owners ++ x.given.1)
          (frames_in (slice_get (slice_set s.plain.goroutines g x.a.frames) i))
          (unless_trapped (after s.plain g x.a).ended x.given.0
          (holder_after code x.given.0 x.frame x.callers x.instr.op
          (frames_of (after s.plain g x.a) g))).environments) (eq_of g j u)
          (subst (λ fr. FramesLead code (s.owners ++ x.given.1) fr
          (unless_trapped (after s.plain g x.a).ended x.given.0
          (holder_after code x.given.0 x.frame x.callers x.instr.op
          (frames_of (after s.plain g x.a) g))).environments)
          (sym (ap frames_in (get_set_same s.plain.goroutines g (x.frame ∷ x.callers) x.a.frames x.at)))
          (subst (FramesLead code (s.owners ++ x.given.1) x.a.frames) (sym k_environments) acted.frames))))
          (λ n. subst (λ fr. FramesLead code (s.owners ++ x.given.1) fr y.environments)
          (sym (ap frames_in (get_set_other s.plain.goroutines g j x.a.frames n)))
          (more_frames_lead code s.owners x.given.1 (frames_of s.plain j) y.environments
          (values.frames j y (sym (get_set_other s.holders g j _ n) ∙ q))))

      -- a child
      child : (op : CodeOp) → x.instr.op ≡ op → (frames : List TacFrame) (i : ℕ) (y : Holder)
          → slice_get (child_holder code x.given.0 op frames) i ≡ Some y
          → (y.environments ≡ child_environment code (top.f ∷ top.fs) op ∷ []) × (i ≡ 0)
      child (Go n from passes removes) is frames zero y q = (
        ap (λ (z : Holder). z.environments) (sym (same_Some _ y q))
            ∙ ap (λ sh. child_environment code sh (Go n from passes removes) ∷ []) given_environments,
        refl,
      )
      child (Go n from passes removes) is frames (suc i) y q = cc
      child (Do to action from removes) is frames i y q = cc
      child (Call to n from passes protects removes) is frames i y q = cc
      child (Print pieces from removes) is frames i y q = cc
      child (Jump j removes) is frames i y q = cc
      child (Branch v j removes k others) is frames i y q = cc
      child (Return value) is frames i y q = cc

      first_child : (started : List (List TacFrame)) (environment : RegionEnvironment)
          → Each (λ (c : List TacFrame). FramesLead code (s.owners ++ x.given.1) c (environment ∷ [])) started
          → FramesLead code (s.owners ++ x.given.1) (frames_in (slice_get started 0)) (environment ∷ [])
      first_child [] environment h = tt
      first_child (c ∷ cs) environment h = h.0

      done : ValuesStay code (instructed_with code s g x.frame x.callers x.instr (after s.plain g x.a) x.given)
      done =
          record {
            memory = acted.memory;
            frames = λ j y q. place j y (get_append_place (slice_set s.holders g
                (unless_trapped (after s.plain g x.a).ended x.given.0
                (holder_after code x.given.0 x.frame x.callers x.instr.op (frames_of (after s.plain g x.a) g))))
                (child_holder code x.given.0 x.instr.op (last_frames (after s.plain g x.a).goroutines)) j y q);
          }
        where
          place : (j : ℕ) (y : Holder) → (slice_get (slice_set s.holders g
              (unless_trapped (after s.plain g x.a).ended x.given.0
              (holder_after code x.given.0 x.frame x.callers x.instr.op (frames_of (after s.plain g x.a) g)))) j
              ≡ Some y) ⊎ ((i : ℕ) × (j ≡ length (slice_set s.holders g
              (unless_trapped (after s.plain g x.a).ended x.given.0
              (holder_after code x.given.0 x.frame x.callers x.instr.op (frames_of (after s.plain g x.a) g)))) + i)
              × (slice_get (child_holder code x.given.0 x.instr.op (last_frames (after s.plain g x.a).goroutines)) i
              ≡ Some y)) → FramesLead code (s.owners ++ x.given.1)
              (frames_in (slice_get (slice_set s.plain.goroutines g x.a.frames ++ x.a.started) j)) y.environments
          place j y (inl q) =
              subst (λ o. FramesLead code (s.owners ++ x.given.1) (frames_in o) y.environments)
              (sym (get_append_left (slice_set s.plain.goroutines g x.a.frames) x.a.started j
              (let b = slice_get_within _ j y q in let l = long in omega (arith, b, l)))) (old j y q)
          place j y (inr (i, at, q)) =
              let c = child x.instr.op refl (last_frames (after s.plain g x.a).goroutines) i y q in
              subst (λ o. FramesLead code (s.owners ++ x.given.1) (frames_in o) y.environments)
              (sym (get_append_right (slice_set s.plain.goroutines g x.a.frames) x.a.started j i
              (let l = long in omega (arith, at, l))))
              (subst (λ n. FramesLead code (s.owners ++ x.given.1) (frames_in (slice_get x.a.started n)) y.environments)
              (sym c.1)
              (subst (FramesLead code (s.owners ++ x.given.1) (frames_in (slice_get x.a.started 0))) (sym c.0)
              (first_child x.a.started (child_environment code (top.f ∷ top.fs) x.instr.op) acted.children)))

  -- ---- a meeting

  -- What is sent is joined with the channel in the sender, and what is received in the receiver. So the value leads into the region of
  -- the channel by the names of either, and it leads home in the receiver.
  values_meet : (r u : ℕ) (t : RegionState) → IsChecked code → Fine code s → AreValuesTyped code s.plain → MeetDone code s r u t
      → ValuesStay code t
  values_meet r u t checked fine typed x =
      record {
        memory = subst (λ o. MemoryHome o t.plain.memory) (sym x.owners)
            (subst (λ (p : TacState). MemoryHome s.owners p.memory) (sym x.plain) values.memory);
        frames = λ j y q. subst (λ o. FramesLead code o (frames_of t.plain j) y.environments) (sym x.owners)
            (subst (λ p. FramesLead code s.owners (frames_of p j) y.environments) (sym x.plain)
            (each j y (sym (ap (λ z. slice_get z j) x.holders) ∙ q)));
      }
    where
      good_r : GoodHolder code (x.receives.frame ∷ x.receives.callers) x.h
      good_r = subst (λ y. GoodHolder code y x.h) (ap frames_in x.at_r ∙ x.receives.at) (fine.each r x.h x.there_h)

      good_u : GoodHolder code (x.sends.frame ∷ x.sends.callers) x.k
      good_u = subst (λ y. GoodHolder code y x.k) (ap frames_in x.at_u ∙ x.sends.at) (fine.each u x.k x.there_k)

      top_r : Top code x.h x.receives.frame x.receives.callers
      top_r = top_of code x.h x.receives.frame x.receives.callers good_r

      top_u : Top code x.k x.sends.frame x.sends.callers
      top_u = top_of code x.k x.sends.frame x.sends.callers good_u

      lead_r : FramesLead code s.owners (x.receives.frame ∷ x.receives.callers) (top_r.f ∷ top_r.fs)
      lead_r = subst (FramesLead code s.owners (x.receives.frame ∷ x.receives.callers)) top_r.environments
          (subst (λ y. FramesLead code s.owners y x.h.environments) (ap frames_in x.at_r ∙ x.receives.at)
          (values.frames r x.h x.there_h))

      lead_u : FramesLead code s.owners (x.sends.frame ∷ x.sends.callers) (top_u.f ∷ top_u.fs)
      lead_u = subst (FramesLead code s.owners (x.sends.frame ∷ x.sends.callers)) top_u.environments
          (subst (λ y. FramesLead code s.owners y x.k.environments) (ap frames_in x.at_u ∙ x.sends.at)
          (values.frames u x.k x.there_k))

      the_object : (o : ℕ) × (x.c ≡ value.Object o) × (x.d ≡ value.Object o)
      the_object = one_object code checked s.plain.memory x.c x.d x.meets

      -- the variables of the sender
      read_u : (v : ℕ) → Contains (x.sends.channel ∷ x.sends.sent ∷ []) v
          → LeadsHome s.owners top_u.f.names (class_of top_u.stands.fn v) (value_at x.sends.frame v)
      read_u v c = reads_home code checked s.owners s.plain.memory values.memory x.sends.frame x.sends.callers
          x.sends.instr x.sends.cur top_u.f top_u.fs lead_u top_u.stands.fn top_u.stands.is_fn top_u.stands.lends v
          (subst (λ op. Contains (reads (erased_op op)) v) (sym x.sends.is) c)

      read_r : (v : ℕ) → Contains (x.receives.channel ∷ []) v
          → LeadsHome s.owners top_r.f.names (class_of top_r.stands.fn v) (value_at x.receives.frame v)
      read_r v c = reads_home code checked s.owners s.plain.memory values.memory x.receives.frame x.receives.callers
          x.receives.instr x.receives.cur top_r.f top_r.fs lead_r top_r.stands.fn top_r.stands.is_fn top_r.stands.lends
          v (subst (λ op. Contains (reads (erased_op op)) v) (sym x.receives.is) c)

      here_r : HasInstr top_r.stands.fn x.receives.frame.next x.receives.instr
      here_r = here code checked x.receives.frame top_r.stands.fn x.receives.instr top_r.stands.is_fn x.receives.cur

      here_u : HasInstr top_u.stands.fn x.sends.frame.next x.sends.instr
      here_u = here code checked x.sends.frame top_u.stands.fn x.sends.instr top_u.stands.is_fn x.sends.cur

      channel_u : LeadsHome s.owners top_u.f.names (class_of top_u.stands.fn x.sends.channel)
          (value.Object the_object.0)
      channel_u = subst (LeadsHome s.owners top_u.f.names (class_of top_u.stands.fn x.sends.channel))
          (sym x.sends.channel_is ∙ the_object.2) (read_u x.sends.channel
          (contains_here x.sends.channel (x.sends.sent ∷ [])))

      channel_r : LeadsHome s.owners top_r.f.names (class_of top_r.stands.fn x.receives.channel)
          (value.Object the_object.0)
      channel_r = subst (LeadsHome s.owners top_r.f.names (class_of top_r.stands.fn x.receives.channel))
          (sym x.receives.channel_is ∙ the_object.1) (read_r x.receives.channel (contains_here x.receives.channel []))

      joins_u : class_of top_u.stands.fn x.sends.channel ≢ NoClass → class_of top_u.stands.fn x.sends.sent ≢ NoClass
          → class_of top_u.stands.fn x.sends.channel ≡ class_of top_u.stands.fn x.sends.sent
      joins_u = joins_agree code checked x.sends.frame.function x.sends.frame.next top_u.stands.fn x.sends.instr
          top_u.stands.is_fn here_u x.sends.to Send (x.sends.channel ∷ x.sends.sent ∷ []) x.sends.removes x.sends.is
          (member.Variable x.sends.channel) (member.Variable x.sends.sent) refl

      -- what is sent leads into the channel's region
      sent_into : LeadsInto s.owners channel_u.0 x.v
      sent_into =
          home_into s.owners top_u.f.names (class_of top_u.stands.fn x.sends.channel) channel_u.0 x.v channel_u.1
          (joined_home top_u.stands.fn top_u.f.names s.owners (class_of top_u.stands.fn x.sends.channel)
          (class_of top_u.stands.fn x.sends.sent) x.v joins_u
          (λ o q. has_class s.owners top_u.f.names (class_of top_u.stands.fn x.sends.channel) the_object.0
          channel_u)
          (subst (LeadsHome s.owners top_u.f.names (class_of top_u.stands.fn x.sends.sent)) (sym x.sends.sent_is)
          (read_u x.sends.sent (contains_there x.sends.channel (x.sends.sent ∷ []) x.sends.sent
          (contains_here x.sends.sent [])))))

      came_home : LeadsHome s.owners top_r.f.names (class_of top_r.stands.fn x.receives.channel) x.v
      came_home = into_home s.owners top_r.f.names (class_of top_r.stands.fn x.receives.channel) channel_r.0 x.v
          channel_r.1 (subst (λ q. LeadsInto s.owners q x.v)
          (same_Some channel_u.0 channel_r.0 (sym channel_u.2 ∙ channel_r.2)) sent_into)

      received : HomeAfter top_r.stands.fn top_r.f.names s.owners x.receives.to x.v
      received = go x.receives.to refl
        where
          go : (to : Option ℕ) → x.receives.to ≡ to → HomeAfter top_r.stands.fn top_r.f.names s.owners to x.v
          go None e = tt
          go (Some d) e = λ n.
              joined_home top_r.stands.fn top_r.f.names s.owners (class_of top_r.stands.fn d)
              (class_of top_r.stands.fn x.receives.channel) x.v
              (joins_agree code checked x.receives.frame.function x.receives.frame.next top_r.stands.fn x.receives.instr
              top_r.stands.is_fn here_r x.receives.to Recv (x.receives.channel ∷ []) x.receives.removes
              x.receives.is (member.Variable d) (member.Variable x.receives.channel)
              (ap (λ t. action_joins Recv t (x.receives.channel ∷ [])) e))
              n came_home

      -- the types after the meeting
      rec : ReceiveFits code checked typed.kinds x.c x.go_on
      rec = receive_fits code checked typed.kinds x.receiver x.c x.go_on (typed.frames r x.receiver x.at_r) x.receives

      same_owners : s.owners ++ [] ≡ s.owners
      same_owners = append-nil s.owners

      typed_u : SendFits code checked typed.kinds x.d x.v x.next
      typed_u = send_fits code checked typed.kinds x.sender x.d x.v x.next (typed.frames u x.sender x.at_u) x.sends

      typed_next : FramesHaveKinds code typed.kinds (frame_after_instr x.receives.frame x.receives.to x.v ∷ x.receives.callers)
      typed_next = subst (FramesHaveKinds code typed.kinds) (x.receives.goes x.v)
          (rec.next x.v (subst (λ ty. HasKind typed.kinds ty x.v)
          (sym (one_inner code checked typed.kinds rec.inner typed_u.inner x.c x.d the_object.0 rec.channel
          typed_u.channel the_object.1 the_object.2)) typed_u.value))

      classed : (d o : ℕ) → value_at (frame_after_instr x.receives.frame x.receives.to x.v) d ≡ value.Object o
          → class_of top_r.stands.fn d ≢ NoClass
      classed d o e =
          ref_class typed.kinds top_r.stands.fn (frame_after_instr x.receives.frame x.receives.to x.v)
          (λ v sl q. checked rule.Classes (line.Slot x.receives.frame.function v) top_r.stands.fn sl
          top_r.stands.is_fn q)
          (subst (λ (g : CodeFn). HaveKinds typed.kinds (erased_fn g).variables
          (frame_after_instr x.receives.frame x.receives.to x.v).variables)
          (same_Some typed_next.0.0 top_r.stands.fn (sym typed_next.0.1 ∙ top_r.stands.is_fn)) typed_next.0.2) d o e

      receiver_leads : FramesLead code s.owners (x.go_on x.v) x.h.environments
      receiver_leads =
          subst (FramesLead code s.owners (x.go_on x.v)) (sym top_r.environments)
          (subst (λ fr. FramesLead code s.owners fr (top_r.f ∷ top_r.fs)) (sym (x.receives.goes x.v))
          (subst (λ o. FramesLead code o (frame_after_instr x.receives.frame x.receives.to x.v ∷ x.receives.callers)
          (top_r.f ∷ top_r.fs)) same_owners
          (goes_on code checked s.owners s.plain.memory values.memory x.receives.frame x.receives.callers
          x.receives.instr x.receives.cur top_r.f top_r.fs lead_r top_r.stands.fn top_r.stands.is_fn
          top_r.stands.lends [] x.receives.to x.v (x.receives.frame.next + 1) x.receives.removes
          (subst (λ (op : CodeOp). Contains {X = ℕ × List ℕ} (edges op x.receives.frame.next)
          (x.receives.frame.next + 1, x.receives.removes)) (sym x.receives.is)
          (contains_here {X = ℕ × List ℕ} (x.receives.frame.next + 1, x.receives.removes) []))
          (ap (λ op. writes (erased_op op)) x.receives.is) (λ d o t e. classed d o e)
          (subst (λ o. HomeAfter top_r.stands.fn top_r.f.names o x.receives.to x.v) (sym same_owners) received))))

      -- a send returns nil, if it writes a variable at all
      no_object : (d o : ℕ) → x.sends.to ≡ Some d → value_at (frame_after_instr x.sends.frame x.sends.to value.Nil) d
          ≡ value.Object o → ⊥
      no_object d o t e = no_object_set x.sends.frame.variables d o
          (ap (λ y. get_or (assigned_variables x.sends.frame.variables y value.Nil) d value.Nil) (sym t) ∙ e)

      sender_leads : FramesLead code s.owners x.next x.k.environments
      sender_leads =
          subst (FramesLead code s.owners x.next) (sym top_u.environments)
          (subst (λ fr. FramesLead code s.owners fr (top_u.f ∷ top_u.fs)) (sym x.sends.goes)
          (subst (λ o. FramesLead code o (frame_after_instr x.sends.frame x.sends.to value.Nil ∷ x.sends.callers)
          (top_u.f ∷ top_u.fs)) same_owners
          (goes_on code checked s.owners s.plain.memory values.memory x.sends.frame x.sends.callers x.sends.instr
          x.sends.cur top_u.f top_u.fs lead_u top_u.stands.fn top_u.stands.is_fn top_u.stands.lends [] x.sends.to
          value.Nil (x.sends.frame.next + 1) x.sends.removes
          (subst (λ (op : CodeOp). Contains {X = ℕ × List ℕ} (edges op x.sends.frame.next)
          (x.sends.frame.next + 1, x.sends.removes)) (sym x.sends.is)
          (contains_here {X = ℕ × List ℕ} (x.sends.frame.next + 1, x.sends.removes) []))
          (ap (λ op. writes (erased_op op)) x.sends.is) (λ d o t e. absurd (no_object d o t e))
          (plain_home top_u.stands.fn top_u.f.names (s.owners ++ []) x.sends.to value.Nil tt))))

      each : (j : ℕ) (y : Holder) → slice_get (slice_set (slice_set s.holders r
          (gone_on (receive_goes x.receives x.v) x.h)) u (record (gone_on (send_goes x.sends) x.k)
          { offer = taken_offer x.k.offer })) j ≡ Some y → FramesLead code s.owners
          (frames_in (slice_get (slice_set (slice_set s.plain.goroutines r (x.go_on x.v)) u x.next) j)) y.environments
      each j y q =
          split (nat_eq u j)
          (λ w. subst (λ (z : Holder). FramesLead code s.owners
          (frames_in (slice_get (slice_set (slice_set s.plain.goroutines r (x.go_on x.v)) u x.next) j))
          z.environments) (same_Some k' y (sym (get_set_same (slice_set s.holders r h') u x.k k'
          (get_set_other s.holders r u h' x.apart ∙ x.there_k))
          ∙ ap (slice_get (slice_set (slice_set s.holders r h') u k')) (eq_of u j w) ∙ q))
          (subst (λ i. FramesLead code s.owners (frames_in (slice_get
          (slice_set (slice_set s.plain.goroutines r (x.go_on x.v)) u x.next) i)) x.k.environments) (eq_of u j w)
          (subst (λ fr. FramesLead code s.owners fr x.k.environments)
          (sym (ap frames_in (get_set_same (slice_set s.plain.goroutines r (x.go_on x.v)) u x.sender x.next
          (get_set_other s.plain.goroutines r u (x.go_on x.v) x.apart ∙ x.at_u)))) sender_leads)))
          (λ n. subst (λ fr. FramesLead code s.owners fr y.environments)
          (sym (ap frames_in (get_set_other (slice_set s.plain.goroutines r (x.go_on x.v)) u j x.next n)))
          (other n (sym (get_set_other (slice_set s.holders r h') u j k' n) ∙ q)))
        where
          h' : Holder
          h' = gone_on (receive_goes x.receives x.v) x.h

          k' : Holder
          k' = record (gone_on (send_goes x.sends) x.k) { offer = taken_offer x.k.offer }

          other : nat_eq u j ≡ false → slice_get (slice_set s.holders r (gone_on (receive_goes x.receives x.v) x.h)) j
              ≡ Some y → FramesLead code s.owners (frames_in (slice_get (slice_set s.plain.goroutines r (x.go_on x.v))
              j)) y.environments
          other n q =
              split (nat_eq r j)
              (λ w. subst (λ (z : Holder). FramesLead code s.owners
              (frames_in (slice_get (slice_set s.plain.goroutines r (x.go_on x.v)) j)) z.environments)
              (same_Some (gone_on (receive_goes x.receives x.v) x.h) y
              (sym (get_set_same s.holders r x.h (gone_on (receive_goes x.receives x.v) x.h) x.there_h)
              ∙ ap (slice_get (slice_set s.holders r (gone_on (receive_goes x.receives x.v) x.h))) (eq_of r j w)
              ∙ q))
              (subst (λ i. FramesLead code s.owners (frames_in
              (slice_get (slice_set s.plain.goroutines r (x.go_on x.v)) i)) x.h.environments) (eq_of r j w)
              (subst (λ fr. FramesLead code s.owners fr x.h.environments)
              (sym (ap frames_in (get_set_same s.plain.goroutines r x.receiver (x.go_on x.v) x.at_r)))
              receiver_leads)))
              (λ n'. subst (λ fr. FramesLead code s.owners fr y.environments)
              (sym (ap frames_in (get_set_other s.plain.goroutines r j (x.go_on x.v) n')))
              (values.frames j y (sym (get_set_other s.holders r j (gone_on (receive_goes x.receives x.v) x.h) n')
              ∙ q)))

  -- ---- each step

  -- each step keeps pointers in their regions
  pub values_step : (page_words : ℕ) (event : Event) → IsChecked code → Fine code s → AreValuesTyped code s.plain
      → Yields (ValuesStay code) (region_step code page_words s event)
  values_step page_words (Instruct (One g)) checked fine typed =
      yields_from _ (one_done code page_words s g) (λ t x. values_one page_words g t checked fine typed x)
  values_step page_words (Instruct (Meet r u)) checked fine typed =
      yields_from _ (meet_done code page_words s r u) (λ t x. values_meet r u t checked fine typed x)
  values_step page_words (Attend g) checked fine typed =
      yields_at (slice_get s.holders g) (λ (h : Holder). attend s g h h.duties)
      (λ h e. values_attend g h (fine.each g h e) e)
  values_step page_words (TakePage g) checked fine typed =
      yields_at (slice_get s.holders g) (λ h. take_page code page_words s g h (frames_of s.plain g))
      (λ h e. values_take g h page_words (frames_of s.plain g) e)
  values_step page_words (MakeOffer g) checked fine typed =
      yields_at (slice_get s.holders g) (λ h. make_offer code s g h (frames_of s.plain g))
      (λ h e. values_make g h (frames_of s.plain g) e)
  values_step page_words (Acknowledge g) checked fine typed =
      yields_at (slice_get s.holders g) (λ (h : Holder). acknowledge s g h h.offer)
      (λ h e. values_acknowledge g h h.offer e)
  values_step page_words (Finish limit) checked fine typed = yields _ (values_finish limit)

-- ---- types along a region run

typed_same : (code : Code) (p q : TacState) → q ≡ p → AreValuesTyped code p → AreValuesTyped code q
typed_same code p q e t = subst (AreValuesTyped code) (sym e) t

-- each step keeps types
pub typed_step : (code : Code) (page_words : ℕ) (s : RegionState) (event : Event) → IsChecked code → AreValuesTyped code s.plain
    → Yields (λ t. AreValuesTyped code t.plain) (region_step code page_words s event)
typed_step code page_words s event checked typed = go (region_step code page_words s event)
    (step_follows code page_words s event)
  where
    by : (event : Event) (t : RegionState) → Follows code page_words s event t → AreValuesTyped code t.plain
    by (Instruct pick) t (next, e, i) =
        let x : AreValuesTyped code next = types_keep code s.plain next pick checked typed e in
        subst (AreValuesTyped code) (sym i.plain) (record { kinds = x.kinds; memory = x.memory; frames = x.frames })
    by (Finish end) t f = typed_same code s.plain t.plain f.0 typed
    by (Attend g) t f = typed_same code s.plain t.plain f.plain typed
    by (TakePage g) t f = typed_same code s.plain t.plain f.plain typed
    by (MakeOffer g) t f = typed_same code s.plain t.plain f.plain typed
    by (Acknowledge g) t f = typed_same code s.plain t.plain f.plain typed

    go : (o : Option RegionState) → Yields (Follows code page_words s event) o → Yields (λ t. AreValuesTyped code t.plain) o
    go None y = record { fact = tt }
    go (Some t) y = record { fact = by event t y.fact }

-- ---- the start

typed_start : (code : Code) → IsChecked code → AreValuesTyped code (tac_start (erased code))
typed_start code checked =
    record {
      kinds = [];
      memory = record { objects = λ o x e. cc; no_more = refl; variables = zero_kinds code.variables };
      frames = frames;
    }
  where
    zero_kinds : (vs : List Variable) → HaveKinds [] (map (λ (v : Variable). v.ty) vs)
        (map (λ (v : Variable). zero_of v.ty) vs)
    zero_kinds [] = tt
    zero_kinds (v ∷ vs) = (zero_kind [] v.ty, zero_kinds vs)

    start : Main code
    start = main_of code checked

    first : FramesHaveKinds code [] (new_tac_frame (erased_fn start.main) start.number [] ∷ [])
    first = ((start.main, start.declared, zeros_kinds [] (erased_fn start.main).variables), tt, tt)

    frames : (g : ℕ) (frames : List TacFrame) → slice_get (tac_main_frames (erased code).functions 0 ∷ []) g ≡ Some frames
        → FramesHaveKinds code [] frames
    frames zero fs e = subst (FramesHaveKinds code []) (sym start.begins
        ∙ same_Some (tac_main_frames (erased code).functions 0) fs e) first
    frames (suc g) fs e = cc

values_start : (code : Code) → IsChecked code → ValuesStay code (region_start code)
values_start code checked =
    record {
      memory = record { owned = refl; cells = λ o x r e w. cc; variables = zeros_home code.variables };
      frames = frames;
    }
  where
    zeros_home : (vs : List Variable) → Each (LeadsInto [] GlobalRegion) (map (λ (v : Variable). zero_of v.ty) vs)
    zeros_home [] = tt
    zeros_home (v ∷ vs) = (into_plain [] GlobalRegion (zero_of v.ty) (zero_plain v.ty), zeros_home vs)

    start : Main code
    start = main_of code checked

    first : FramesLead code [] (new_tac_frame (erased_fn start.main) start.number [] ∷ [])
        (main_holder code (frames_of (tac_start (erased code)) 0)).environments
    first = (
      (λ fn is v l. home_of_plain [] [] (class_of fn v)
          (value_at (new_tac_frame (erased_fn start.main) start.number []) v)
          (plain_at (new_tac_frame (erased_fn start.main) start.number []).variables v
          (zeros_plain (erased_fn start.main).variables))),
      tt,
    )

    frames : (g : ℕ) (h : Holder) → slice_get (region_start code).holders g ≡ Some h
        → FramesLead code [] (frames_of (tac_start (erased code)) g) h.environments
    frames zero h e = subst (λ (k : Holder). FramesLead code [] (frames_of (tac_start (erased code)) 0) k.environments)
        (same_Some _ h e) (subst (λ f. FramesLead code [] f (main_holder code
        (frames_of (tac_start (erased code)) 0)).environments) (sym start.begins) first)
    frames (suc g) h e = cc

-- ---- every run

-- the whole invariant but for offers: at the start, and after each step
pub good_step : (code : Code) (page_words : ℕ) (s : RegionState) (event : Event) → IsChecked code → Ascends code
    → Good code s → Yields (Good code) (region_step code page_words s event)
good_step code page_words s event checked written good =
    all (region_step code page_words s event) (fine_step code page_words s good.fine event checked written)
    (typed_step code page_words s event checked good.typed)
    (values_step code s good.values page_words event checked good.fine good.typed)
  where
    all : (o : Option RegionState) → Yields (Fine code) o → Yields (λ t. AreValuesTyped code t.plain) o
        → Yields (ValuesStay code) o → Yields (Good code) o
    all None a b c = yields_none
    all (Some t) a b c = yields t (record { fine = a.fact; typed = b.fact; values = c.fact })

-- what holds of each state holds at the start
pub good_start : (code : Code) → IsChecked code → Ascends code → Good code (region_start code)
good_start code checked written = record {
  fine = fine_start code checked written;
  typed =
      typed_start code checked;
  values = values_start code checked;
}

-- a pointer in a cell leads into the same region
pub pointers_stay : (code : Code) (s : RegionState) → Good code s → PointersStay s
pointers_stay code s good o p object q e w live c =
    each_contains (LeadsInto s.owners q) (cells_of object) (value.Object p) (good.values.memory.cells o object q e w) c
  where
    each_contains : (P : Value → Type 0) (xs : List Value) (x : Value) → Each P xs → Contains xs x → P x
    each_contains P [] x h c = absurd (contains_nil x c)
    each_contains P (y ∷ ys) x h c = go (contains_cases y ys x c) (each_contains P ys x h.1)
      where
        go : (y ≡ x) ⊎ Contains ys x → (Contains ys x → P x) → P x
        go (inl e) next = subst P e h.0
        go (inr d) next = next d

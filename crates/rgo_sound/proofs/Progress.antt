-- No step is missing: each instruction of the three-address machine can be done after some region steps.
-- The goroutine first does what it owes: by the invariant each duty can be done in its turn (`clear_duties`). Then what it touches is
-- live, by `names_only_live`. There are two hard cases. An object may need pages first, a spread one several: the induction is on how
-- many are missing (`can_spread`). At a meeting the channel may have the offer of another sender. An open one is taken in place of the
-- sender's own; one that was taken is acknowledged first, and the search begins again. It ends because fewer goroutines have to
-- acknowledge each time (`loop`).
use Rattle.std.proofs.Common.{◌≡◌, ◌≢◌, ℕ, zero, suc, ◌+◌, ◌<◌, Bool, true, false, not, ◌&&◌, ◌||◌, List, [], ◌∷◌, map}
use Rattle.std.proofs.Common.{length, Option, Some, None, IsSome, refl, sym, ap, ◌∙◌, subst, nat_eq, nat_le, nat_lt}
use Rattle.std.proofs.Common.{if◌then◌else◌, arith, true≢false, slice_get, slice_set, option_map, option_and_then, inr}
use Rattle.std.proofs.Common.{rules}
use Rattle.std.proofs.lemmas.Option.{slice_get_within, slice_get_past, same_Some}
use Rattle.std.specs.List.{list_any}
use Rattle.std.proofs.lemmas.Bool.Decides.{nat_tests}
use Rattle.rgo_sound.proofs.names.Edges.{standing_settled, named_bound}
use Rattle.rgo_sound.proofs.Tests.{split, eq_of, nat_eq_refl, nat_ne_sym}
use Rattle.rgo_sound.proofs.Places.{get_set_other, get_set_same, get_some}
use Rattle.rgo_sound.proofs.steps.OneStep.{ReceivesAt, StandsAt, current_erased, met_with, stands_at_channel}
use Rattle.rgo_sound.proofs.plain.Steps.{Always, Yields, yields, yields_none, yields_if, yields_then, yields_is}
use Rattle.rgo_sound.proofs.duties.Attends.{total_set, staked_live, duties_go, same_reflexive}
use Rattle.rgo_sound.proofs.types.Steps.{here, one_object}
use Rattle.rgo_sound.proofs.pointers.Steps.{Top, top_of}
use Rattle.rgo_sound.proofs.offers.Offers.{all_good_step, runs_are_good, touched_home, class_has_stake, at_send, alone_steady}
use Rattle.rgo_sound.proofs.offers.Offers.{SteadyActed, makes_at, making_class}
use Rattle.rgo_code.specs.Checked.{IsChecked}
use Rattle.rgo_code.specs.Code.{Branch, Call, Code, CodeInstr, CodeOp, Do, Go, Jump, Print, Return, Slot}
use Rattle.rgo_code.specs.Erasure.{erased, erased_fn, erased_instr, erased_op}
use Rattle.rgo_code.specs.Exists.{UsesVariable}
use Rattle.rgo_code.specs.NameRules.{Ascends}
use Rattle.rgo_code.specs.Names.{UsesRegionName, class_of, slot_class}
use Rattle.rgo_code.specs.Types.{DoFits, VariableHasType, IsWellTypedOp}
use Rattle.rgo_machine.specs.Machines.{AtCall, AtClose, AtReceive, AtSend, AtStart, Elsewhere, Stand}
use Rattle.rgo_machine.specs.Machines.{alone as machine_alone, meet, met, met_by, picked, unless_ended}
use Rattle.rgo_machine.specs.Runs.{run}
use Rattle.rgo_machine.specs.declared.picks.End.{End}
use Rattle.rgo_machine.specs.declared.picks.Pick.{Pick}
use Rattle.rgo_machine.specs.declared.picks.Pick.TheVariants.{Meet, One}
use Rattle.rgo_memory.specs.Channels.{is_meeting_at, meets_at}
use Rattle.rgo_memory.specs.Memory.{Object}
use Rattle.rgo_memory.specs.declared.values.Value.{Value}
use Rattle.rgo_region_machine.specs.Duties.{attend, attended, duty_done, may_go, protected, removal, shared}
use Rattle.rgo_region_machine.specs.Duties.{unprotected, with_protection}
use Rattle.rgo_region_machine.specs.Instructions.{both_instructed, has_none, instruct, instructed, instructed_at}
use Rattle.rgo_region_machine.specs.Instructions.{instructed_with, is_ready, one_instructed, some_instructed}
use Rattle.rgo_region_machine.specs.Instructions.{standing_at, touches}
use Rattle.rgo_region_machine.specs.Machine.{Acknowledge, Attend, Event, Instruct, MakeOffer, TakePage, next_object}
use Rattle.rgo_region_machine.specs.Machine.{object_made, page_for, page_taken, plain_step, region_step, take_page}
use Rattle.rgo_region_machine.specs.Machine.{page_before, takes_page}
use Rattle.rgo_region_machine.specs.Objects.{allotted, fill_of, fits_in_page, makes_object, making_region, may_touch}
use Rattle.rgo_region_machine.specs.Objects.{new_object, owner_live, placed, target_class, touched, wants_page}
use Rattle.rgo_region_machine.specs.Objects.{data_pages, is_spread, is_too_large, most_data_pages, spread_out, with_fill}
use Rattle.rgo_region_machine.specs.Objects.{with_page, object_words}
use Rattle.rgo_region_machine.specs.Offers.{acknowledge, make_offer, offer_at, offer_for, offered, offered_channel}
use Rattle.rgo_region_machine.specs.Offers.{offers_on, open_channel}
use Rattle.rgo_region_machine.specs.Owed.{current, current_in, function_at}
use Rattle.rgo_region_machine.specs.Regions.{bound, class_region, is_live, removed_once, same_region, unbind, without}
use Rattle.rgo_region_machine.specs.States.{Create, Duty, EndBase, Holder, NoOffer, Offer, Protect, RegionState, Remove}
use Rattle.rgo_region_machine.specs.States.{Share, Standing, Taken, Unprotect, frames_in, frames_of, top_names}
use Rattle.rgo_region_machine.specs.States.{with_top}
use Rattle.rgo_region_machine.specs.declared.regions.Region.{Region}
use Rattle.rgo_region_machine.specs.declared.regions.Region.TheVariants.{Global as GlobalRegion, Numbered}
use Rattle.rgo_sound.proofs.steps.Acting.{after, Acted, alone, alone_is}
use Rattle.rgo_sound.specs.Good.{AllGood}
use Rattle.rgo_sound.specs.Invariant.{Fine, GoodHolder, HasInstr, Settled}
use Rattle.rgo_sound.specs.NextNames.{HasStake}
use Rattle.rgo_sound.specs.Offers.{OfferFits, StandsAtSend}
use Rattle.rgo_region_machine.specs.Room.{MakesTooLarge}
use Rattle.rgo_sound.specs.Progress.{CanInstruct, IsLike, IsRegionStep, NoStepMissing}
use Rattle.rgo_sound.specs.Stakes.{is_in, one_when, total}
use Rattle.rgo_tac.specs.Code.{Tac, TacFn}
use Rattle.rgo_tac.specs.Flow.{writes}
use Rattle.rgo_tac.specs.Frames.{TacFrame, frame_after_instr, value_at}
use Rattle.rgo_tac.specs.Steps.{tac_stand, stand_at_instr, stand_before_op}
use Rattle.rgo_tac.specs.Tac.{TacState, tac}
use Rattle.rgo_tac.specs.declared.regions.Class.{Class}
use Rattle.rgo_tac.specs.declared.regions.Class.TheVariants.{Global, Name, NoClass}
use Rattle.rgo_typed.specs.Types.{is_pointer_like}
use Rattle.rgo_typed.specs.declared.actions.Action.{Action}
use Rattle.rgo_typed.specs.declared.actions.Action.TheVariants.{At, Binary, Bool as BoolConstant, Chan, Close, Copy}
use Rattle.rgo_typed.specs.declared.actions.Action.TheVariants.{Get, Int, IsNil, Len, Load, Neg, New, Nil, Not, Put}
use Rattle.rgo_typed.specs.declared.actions.Action.TheVariants.{Recv, Send, Set, Slice, Store}
use Rattle.rgo_typed.specs.declared.types.Type.{«Type»}
use Rattle.rgo_code.specs.declared.rules.Line.TheVariants as line
use Rattle.rgo_code.specs.declared.rules.Rule.TheVariants as rule
use Rattle.rgo_memory.specs.declared.values.Value.TheVariants as value

-- ---- the steps of the three-address machine

running_of : (code : Code) (p : TacState) (pick : Pick) (next : TacState) → plain_step code p pick ≡ Some next → p.ended
    ≡ None
running_of code p pick next e = go p.ended refl e
  where
    go : (ended : Option End) → p.ended ≡ ended → unless_ended ended (picked (tac (erased code)) p pick) ≡ Some next
        → p.ended ≡ None
    go None q e = q
    go (Some end) q e = cc

pub one_step : (code : Code) (p : TacState) (g : ℕ) (frames : List TacFrame) → p.ended ≡ None → slice_get p.goroutines g
    ≡ Some frames → plain_step code p (One g) ≡ option_map (after p g) (alone (erased code) p.memory frames)
one_step code p g frames running at =
    ap (λ e. unless_ended e (picked (tac (erased code)) p (One g))) running
    ∙ ap (option_and_then (machine_alone (tac (erased code)) p g)) at
    ∙ alone_is (erased code) p g running frames at

-- ---- a goroutine is cleared: its acknowledgement is done, and then its duties

-- t is s after region steps of goroutine g alone. The plain state is the same, so the step of the three-address machine that is to be
-- done still exists.
pub record Cleared (code : Code) (s : RegionState) (g : ℕ) (t : RegionState) (k : Holder) : Type 0 where
  pub good : AllGood code t
  pub plain : t.plain ≡ s.plain
  pub there : slice_get t.holders g ≡ Some k
  pub others : (j : ℕ) → nat_eq g j ≡ false → slice_get t.holders j ≡ slice_get s.holders j

record Attended (s : RegionState) (g : ℕ) (k : Holder) (t : RegionState) : Type 0 where
  after : Holder
  plain : t.plain ≡ s.plain
  holders : t.holders ≡ slice_set s.holders g after
  duties : after.duties ≡ k.duties
  offer : after.offer ≡ k.offer

same_attended : (s : RegionState) (g : ℕ) (k after : Holder) (t : RegionState) → t.plain ≡ s.plain → t.holders
    ≡ slice_set s.holders g after → after.duties ≡ k.duties → after.offer ≡ k.offer → Yields (Attended s g k) (Some t)
same_attended s g k after t p h d o = yields t (record { after = after; plain = p; holders = h; duties = d; offer = o })

module _ (s : RegionState) (g : ℕ) (k : Holder) where
  removal_attends : (after : Holder) (q : Region) → after.duties ≡ k.duties → after.offer ≡ k.offer
      → Yields (Attended s g k) (removal s g after q)
  removal_attends after GlobalRegion d o = same_attended s g k after _ refl refl d o
  removal_attends after (Numbered r) d o = yields_if _ _ _
      (yields_if _ _ _ (same_attended s g k after _ refl refl d o)
      (same_attended s g k (record after { stakes = without r after.stakes }) _ refl refl d o)) yields_none

  share_attends : (q : Region) → Yields (Attended s g k) (shared s g k q)
  share_attends GlobalRegion = same_attended s g k k _ refl refl refl refl
  share_attends (Numbered r) = yields_if _ _ _ (yields_if _ _ _ (same_attended s g k k _ refl refl refl refl)
      (same_attended s g k (record k { pending = r ∷ k.pending }) _ refl refl refl refl)) yields_none

  done_attends : (d : Duty) → Yields (Attended s g k) (duty_done s g k d)
  done_attends (Create n) = same_attended s g k (record k {
    stakes = length s.regions ∷ k.stakes;
    environments =
        with_top k.environments ((n, Numbered (length s.regions)) ∷ unbind (top_names k.environments) n);
  }) _ refl refl
      refl refl
  done_attends (Share n) = yields_then (shared s g k) _ share_attends
  done_attends (Protect n) = yields_then (protected s g k) _
      (λ q. yields_if _ _ _ (same_attended s g k (record k { environments = with_protection k.environments q }) _ refl
      refl refl refl) yields_none)
  done_attends (Unprotect n) = yields_then (λ q. Some (attended s g (unprotected k q))) _
      (λ q. same_attended s g k (unprotected k q) _ refl refl refl refl)
  done_attends (Remove n) = yields_then (removal s g (record k
      { environments = with_top k.environments (unbind (top_names k.environments) n) })) _
      (λ q. removal_attends (record k { environments = with_top k.environments (unbind (top_names k.environments) n) })
      q refl refl)
  done_attends (EndBase r) = removal_attends (record k { base = removed_once r k.base }) r refl refl

pub live_of : (s : RegionState) (h : Holder) (r : Region) → HasStake s h r → is_live s.regions r ≡ true
live_of s h GlobalRegion x = refl
live_of s h (Numbered q) x = x.0

module _ (code : Code) (page_words : ℕ) (checked : IsChecked code) (written : Ascends code) (like : Pick) where
  -- what can be done after a region step can be done from the state before it
  first_step : (s t : RegionState) (event : Event) → IsRegionStep event → region_step code page_words s event ≡ Some t
      → CanInstruct code page_words t like → CanInstruct code page_words s like
  first_step s t event is e can =
      record {
        pick = can.pick;
        is_like = can.is_like;
        before = event ∷ can.before;
        only_regions = (is, can.only_regions);
        ready = can.ready;
        leads = ap (option_and_then (λ u. run (region_step code page_words) u can.before)) e ∙ can.leads;
        steps = can.steps;
      }

  now : (s : RegionState) (pick : Pick) → IsLike like pick → IsSome (region_step code page_words s (Instruct pick))
      → CanInstruct code page_words s like
  now s pick is i = record {
    pick = pick;
    is_like = is;
    before = [];
    only_regions = tt;
    ready = s;
    leads = refl;
    steps =
        i;
  }

  good_at : (s t : RegionState) (event : Event) → AllGood code s → region_step code page_words s event ≡ Some t
      → AllGood code t
  good_at s t event all e = yields_is {P = AllGood code} (region_step code page_words s event) t
      (all_good_step code page_words s event checked written all) e

  abbrev GoesOn : RegionState → ℕ → Type 0
  GoesOn s g = (t : RegionState) (k : Holder) → Cleared code s g t k → k.duties ≡ [] → may_go k.offer ≡ true
      → CanInstruct code page_words t like

  -- the duties of a goroutine that has nothing to acknowledge, one after the other; each keeps the invariant, from which the next one
  -- can be done
  clear_duties : (ds : List Duty) (s : RegionState) (g : ℕ) (h : Holder) → AllGood code s → slice_get s.holders g
      ≡ Some h → h.duties ≡ ds → may_go h.offer ≡ true → GoesOn s g → CanInstruct code page_words s like
  clear_duties [] s g h all e d m on = on s h (record { good = all; plain = refl; there = e; others = λ j n. refl }) d m
  clear_duties (d ∷ ds) s g h all e q m on =
      first_step s t (Attend g) tt x.1
      (clear_duties ds t g a.after (good_at s t (Attend g) all x.1) here (a.duties) (ap may_go a.offer ∙ m)
      (λ u k c dk mk. on u k (record {
        good = c.good;
        plain = c.plain ∙ a.plain;
        there = c.there;
        others = λ j n. c.others j n ∙ ap (λ y. slice_get y j) a.holders ∙ get_set_other s.holders g j a.after n;
      }) dk mk))
    where
      some_none : d ∷ ds ≡ [] → ⊥
      some_none z = cc

      x : (t : RegionState) × (region_step code page_words s (Attend g) ≡ Some t) × Fine code t
      x = duties_go code page_words s g h all.good.fine e (λ z. some_none (sym q ∙ z)) m

      t : RegionState
      t = x.0

      done : duty_done s g (record h { duties = ds }) d ≡ Some x.0
      done =
          sym (ap (λ b. if b then duty_done s g (record h { duties = ds }) d else None) m)
          ∙ sym (ap (attend s g h) q)
          ∙ sym (ap (option_and_then (λ (k : Holder). attend s g k k.duties)) e)
          ∙ x.1

      a : Attended s g (record h { duties = ds }) x.0
      a = yields_is {P = Attended s g (record h { duties = ds })} (duty_done s g (record h { duties = ds }) d) x.0
          (done_attends s g (record h { duties = ds }) d) done

      here : slice_get x.0.holders g ≡ Some a.after
      here = ap (λ y. slice_get y g) a.holders ∙ get_set_same s.holders g h a.after e

  -- an acknowledgement can be done: the invariant on offers says that the channel is live
  acknowledges : (s : RegionState) (g : ℕ) (h : Holder) (o : ℕ) → AllGood code s → slice_get s.holders g ≡ Some h
      → h.offer ≡ Taken o → region_step code page_words s (Acknowledge g)
      ≡ Some (attended s g (record h { offer = NoOffer }))
  acknowledges s g h o all e q =
      ap (option_and_then (λ (k : Holder). acknowledge s g k k.offer)) e
      ∙ ap (acknowledge s g h) q
      ∙ ap (λ b. if b then Some (attended s g (record h { offer = NoOffer })) else None) live
    where
      f : OfferFits code s g h (Taken o)
      f = subst (OfferFits code s g h) q (all.offers.fits g h e)

      is_live' : (r : Region) → ((q : ℕ) → r ≡ Numbered q → is_in q h.stakes ≡ true) → is_live s.regions r ≡ true
      is_live' GlobalRegion i = refl
      is_live' (Numbered n) i = staked_live code s g h n all.good.fine e (i n refl)

      live : may_touch s (Some o) ≡ true
      live = ap (owner_live s) f.1 ∙ is_live' f.0 f.2

  clear : (s : RegionState) (g : ℕ) (h : Holder) → AllGood code s → slice_get s.holders g ≡ Some h → GoesOn s g
      → CanInstruct code page_words s like
  clear s g h all e on = go h.offer refl
    where
      go : (offer : Offer) → h.offer ≡ offer → CanInstruct code page_words s like
      go NoOffer q = clear_duties h.duties s g h all e refl (ap may_go q) on
      go (Standing o) q = clear_duties h.duties s g h all e refl (ap may_go q) on
      go (Taken o) q =
          let step = acknowledges s g h o all e q in
          first_step s (attended s g (record h { offer = NoOffer })) (Acknowledge g) tt step
          (clear_duties h.duties (attended s g (record h { offer = NoOffer })) g (record h { offer = NoOffer })
          (good_at s (attended s g (record h { offer = NoOffer })) (Acknowledge g) all step)
          (get_set_same s.holders g h (record h { offer = NoOffer }) e) refl refl
          (λ u k c dk mk. on u k (record {
            good = c.good;
            plain = c.plain;
            there = c.there;
            others =
                λ j n. c.others j n ∙ get_set_other s.holders g j (record h { offer = NoOffer }) n;
          }) dk mk))

  -- ---- a cleared goroutine is ready

  ready_now : (s : RegionState) (g : ℕ) (h : Holder) (frame : TacFrame) (callers : List TacFrame) (instr : CodeInstr)
      → AllGood code s → slice_get s.holders g ≡ Some h → frames_of s.plain g ≡ frame ∷ callers → current code frame
      ≡ Some instr → h.duties ≡ [] → may_go h.offer ≡ true → is_ready code s h (frame ∷ callers) ≡ true
  ready_now s g h frame callers instr all e at cur d m =
      ap (λ x. has_none x && may_go h.offer && touches s frame (current code frame)) d
      ∙ ap (λ b. b && touches s frame (current code frame)) m
      ∙ ap (touches s frame) cur
      ∙ live (touched frame instr.op) refl
    where
      top : Top code h frame callers
      top = top_of code h frame callers (subst (λ y. GoodHolder code y h) at (all.good.fine.each g h e))

      live : (o : Option ℕ) → touched frame instr.op ≡ o → may_touch s o ≡ true
      live None q = refl
      live (Some o) q = let x = touched_home code s g h frame callers instr top o checked all.good e at cur q in
          ap (owner_live s) x.1 ∙ live_of s h x.0 x.2

-- ---- an instruction that makes an object has a region for it

-- an instruction that makes an object has a target, whose type is pointer-like; so by rule 3 the target has a class
pub record HasTarget (f : TacFn) (to : Option ℕ) : Type 0 where
  pub variable : ℕ
  pub is : to ≡ Some variable
  pub ty : «Type»
  pub typed : VariableHasType f variable ty
  pub like : is_pointer_like ty ≡ true

pub made_pointer : (code : Tac) (f : TacFn) (to : Option ℕ) (action : Action) (operands : List «Type»)
    → DoFits code f to action operands → makes_object action ≡ true → HasTarget f to
made_pointer code f to (Int k) operands t m = absurd (true≢false (sym m))
made_pointer code f to (BoolConstant b) operands t m = absurd (true≢false (sym m))
made_pointer code f to Nil operands t m = absurd (true≢false (sym m))
made_pointer code f to Copy operands t m = absurd (true≢false (sym m))
made_pointer code f to (Binary op) operands t m = absurd (true≢false (sym m))
made_pointer code f to Neg operands t m = absurd (true≢false (sym m))
made_pointer code f to Not operands t m = absurd (true≢false (sym m))
made_pointer code f to IsNil operands t m = absurd (true≢false (sym m))
made_pointer code f to Len operands t m = absurd (true≢false (sym m))
made_pointer code f to (Load k) operands t m = absurd (true≢false (sym m))
made_pointer code f to (Store k) operands t m = absurd (true≢false (sym m))
made_pointer code f to At operands t m = absurd (true≢false (sym m))
made_pointer code f to Put operands t m = absurd (true≢false (sym m))
made_pointer code f None (New n) operands t m = absurd t
made_pointer code f (Some d) (New n) operands (ty, typed, t) m =
    record { variable = d; is = refl; ty = ty; typed = typed; like = ap is_pointer_like t.1 }
made_pointer code f None Slice operands t m = absurd t
made_pointer code f (Some d) Slice operands (ty, typed, t) m =
    record { variable = d; is = refl; ty = ty; typed = typed; like = ap is_pointer_like t.2 }
made_pointer code f None Chan operands t m = absurd t
made_pointer code f (Some d) Chan operands (ty, typed, t) m =
    record { variable = d; is = refl; ty = ty; typed = typed; like = ap is_pointer_like t.2 }
made_pointer code f to Recv operands t m = absurd (true≢false (sym m))
made_pointer code f to Send operands t m = absurd (true≢false (sym m))
made_pointer code f to Close operands t m = absurd (true≢false (sym m))
made_pointer code f to (Get n) operands t m = absurd (true≢false (sym m))
made_pointer code f to (Set n) operands t m = absurd (true≢false (sym m))

-- the slot of a typed variable
pub slot_of : (slots : List Slot) (d : ℕ) (ty : «Type») → slice_get (map (λ (s : Slot). s.ty) slots) d ≡ Some ty
    → (s : Slot) × (slice_get slots d ≡ Some s) × (s.ty ≡ ty)
slot_of [] zero ty e = cc
slot_of [] (suc d) ty e = cc
slot_of (s ∷ slots) zero ty e = (s, refl, cc)
slot_of (s ∷ slots) (suc d) ty e = slot_of slots d ty e

module _ (code : Code) (checked : IsChecked code) (s : RegionState) (g : ℕ) (h : Holder) (frame : TacFrame)
    (callers : List TacFrame) (instr : CodeInstr) (all : AllGood code s) (e : slice_get s.holders g ≡ Some h)
    (at : slice_get s.plain.goroutines g ≡ Some (frame ∷ callers)) (cur : current code frame ≡ Some instr)
    (d : h.duties ≡ []) where
  pub top : Top code h frame callers
  top = top_of code h frame callers (subst (λ y. GoodHolder code y h) (ap frames_in at) (all.good.fine.each g h e))

  there : HasInstr top.stands.fn frame.next instr
  there = here code checked frame top.stands.fn instr top.stands.is_fn cur

  settled : Settled top.stands.fn frame.next instr top.f.names top.f.protections
  settled = standing_settled code frame top.f h.duties instr top.stands cur d

  -- the target of an instruction has a region, if it has a class: the instruction uses the name of that class, so it is bound
  target_region : (to : Option ℕ) (action : Action) (from removes : List ℕ) → instr.op ≡ Do to action from removes
      → (d : ℕ) → to ≡ Some d → class_of top.stands.fn d ≢ NoClass → (r : Region)
      × (class_region top.f.names (class_of top.stands.fn d) ≡ Some r)
  target_region to action from removes is d t n = go (class_of top.stands.fn d) refl
    where
      go : (c : Class) → class_of top.stands.fn d ≡ c → (r : Region) × (class_region top.f.names c ≡ Some r)
      go NoClass q = absurd (n q)
      go Global q = (GlobalRegion, refl)
      go (Name k) q = some (bound top.f.names k) refl
        where
          used : UsesVariable (erased_op instr.op) d
          used = inr (ap (λ op. writes (erased_op op)) is ∙ t)

          names : UsesRegionName top.stands.fn instr.op k
          names = record { variable = d; used = used; named = q }

          some : (o : Option Region) → bound top.f.names k ≡ o → (r : Region) × (bound top.f.names k ≡ Some r)
          some None z = absurd (named_bound top.stands.fn frame.next k instr top.f.names
              (checked rule.Creations (line.Instr frame.function frame.next) top.stands.fn instr top.stands.is_fn there)
              settled.there settled.made settled.lent names z)
          some (Some r) z = (r, z)

  -- an instruction that makes an object writes a pointer to a variable
  pub target : (to : Option ℕ) (action : Action) (from removes : List ℕ) → instr.op ≡ Do to action from removes
      → makes_object action ≡ true → HasTarget (erased_fn top.stands.fn) to
  target to action from removes is m = made_pointer (erased code) (erased_fn top.stands.fn) to action t.0 t.2 m
    where
      t : IsWellTypedOp (erased code) (erased_fn top.stands.fn) (erased_op (Do to action from removes))
      t = subst (λ op. IsWellTypedOp (erased code) (erased_fn top.stands.fn) (erased_op op)) is
          (checked rule.Types (line.Instr frame.function frame.next) top.stands.fn instr top.stands.is_fn there)

  -- and has a region for it
  pub region_there : makes_at instr.op ≡ true → (r : Region)
      × (making_region (function_at code frame) (top_names h.environments) instr.op ≡ Some r)
  region_there m = by instr.op refl m
    where
      by : (op : CodeOp) → instr.op ≡ op → makes_at op ≡ true → (r : Region)
          × (making_region (function_at code frame) (top_names h.environments) instr.op ≡ Some r)
      by (Do to action from removes) is m = (region.0, making)
        where
          w : HasTarget (erased_fn top.stands.fn) to
          w = target to action from removes is m

          slot : (s : Slot) × (slice_get top.stands.fn.variables w.variable ≡ Some s) × (s.ty ≡ w.ty)
          slot = slot_of top.stands.fn.variables w.variable w.ty w.typed

          classed : class_of top.stands.fn w.variable ≢ NoClass
          classed = λ n. (checked rule.Classes (line.Slot frame.function w.variable) top.stands.fn slot.0
              top.stands.is_fn slot.1).1 (ap is_pointer_like slot.2 ∙ w.like) (sym (ap slot_class slot.1) ∙ n)

          region : (r : Region) × (class_region top.f.names (class_of top.stands.fn w.variable) ≡ Some r)
          region = target_region to action from removes is w.variable w.is classed

          making : making_region (function_at code frame) (top_names h.environments) instr.op ≡ Some region.0
          making =
              ap (making_region (function_at code frame) (top_names h.environments)) is
              ∙ ap (λ o. making_region o (top_names h.environments) (Do to action from removes)) top.stands.is_fn
              ∙ ap (λ sh. making_region (Some top.stands.fn) (top_names sh) (Do to action from removes))
              top.environments
              ∙ ap (λ b. if b then class_region top.f.names (target_class (Some top.stands.fn) to) else None) m
              ∙ ap (λ o. class_region top.f.names (target_class (Some top.stands.fn) o)) w.is
              ∙ region.1
      by (Call to n from passes protects removes) is m = absurd (true≢false (sym m))
      by (Go n from passes removes) is m = absurd (true≢false (sym m))
      by (Print pieces from removes) is m = absurd (true≢false (sym m))
      by (Jump j removes) is m = absurd (true≢false (sym m))
      by (Branch v j removes k others) is m = absurd (true≢false (sym m))
      by (Return value) is m = absurd (true≢false (sym m))

  -- if a step has made an object, the instruction has a region for it
  object_region : (a : Acted) → alone (erased code) s.plain.memory (frame ∷ callers) ≡ Some a → (object : Object)
      → slice_get a.memory.heap (length s.plain.memory.heap) ≡ Some object → (r : Region)
      × (making_region (function_at code frame) (top_names h.environments) instr.op ≡ Some r)
  object_region a q object o = split (makes_at instr.op) region_there (λ n. absurd (none n))
    where
      grown : SteadyActed s.plain.memory (makes_at instr.op) a
      grown = subst (Always (SteadyActed s.plain.memory (makes_at instr.op))) q
          (alone_steady code s.plain.memory frame callers instr cur)

      none : makes_at instr.op ≡ false → ⊥
      none n = let x : None ≡ Some object = sym (slice_get_past a.memory.heap (length s.plain.memory.heap)
          (let l = grown.1 n in omega (arith, l))) ∙ o in cc

-- ---- one goroutine's instruction

some_is : {X : Type 0} (o : Option X) (x : X) → o ≡ Some x → IsSome o
some_is o x e = subst IsSome (sym e) (search rules)

some_when : {X : Type 0} (b : Bool) (o : Option X) (x : X) → b ≡ true → o ≡ (if b then Some x else None) → IsSome o
some_when b o x t e = some_is o x (e ∙ ap (λ c. if c then Some x else None) t)

-- a fill that was set is found
pub fill_with : (fills : List (Region × ℕ)) (r : Region) (n : ℕ) → fill_of (with_fill fills r n) r ≡ Some n
fill_with [] r n = ap (λ b. if b then Some n else None) (same_reflexive r)
fill_with (f ∷ fs) r n = go (same_region f.0 r) refl (fill_with fs r n)
  where
    go : (b : Bool) → same_region f.0 r ≡ b → fill_of (with_fill fs r n) r ≡ Some n
        → fill_of (if b then (r, n) ∷ fs else f ∷ with_fill fs r n) r ≡ Some n
    go true e h = ap (λ b. if b then Some n else fill_of fs r) (same_reflexive r)
    go false e h = ap (λ b. if b then Some f.1 else fill_of (with_fill fs r n) r) e ∙ h

not_le : (a b : ℕ) → nat_le a b ≡ false → b < a
not_le a b e = grind (arith, nat_tests)

module _ (code : Code) (page_words : ℕ) (checked : IsChecked code) (written : Ascends code) (g : ℕ) where
  steps_now : (s : RegionState) (h : Holder) (frame : TacFrame) (callers : List TacFrame) (instr : CodeInstr) (a : Acted)
      (given : Holder × List Region) → AllGood code s → slice_get s.holders g ≡ Some h → slice_get s.plain.goroutines g
      ≡ Some (frame ∷ callers) → current code frame ≡ Some instr → s.plain.ended ≡ None
      → alone (erased code) s.plain.memory (frame ∷ callers) ≡ Some a → h.duties ≡ [] → may_go h.offer ≡ true
      → allotted page_words h (making_region (function_at code frame) (top_names h.environments) instr.op)
      (new_object s.plain (after s.plain g a)) ≡ Some given → IsSome (region_step code page_words s (Instruct (One g)))
  steps_now s h frame callers instr a given all e at cur running acts d m fits =
      some_is _ (instructed_with code s g frame callers instr (after s.plain g a) given)
      (ap (option_and_then (instruct code page_words s (One g)))
      (one_step code s.plain g (frame ∷ callers) running at ∙ ap (option_map (after s.plain g)) acts)
      ∙ ap (λ o. one_instructed code page_words s g o (frames_of s.plain g) (after s.plain g a)) e
      ∙ ap (λ fr. one_instructed code page_words s g (Some h) fr (after s.plain g a)) (ap frames_in at)
      ∙ ap (λ b. if b then instructed_at code page_words s g h frame callers (after s.plain g a) else None)
      (ready_now code page_words checked written (One g) s g h frame callers instr all e (ap frames_in at) cur d m)
      ∙ ap (option_and_then (instructed code page_words s g h frame callers (after s.plain g a))) cur
      ∙ ap (option_and_then (some_instructed code s g frame callers instr (after s.plain g a))) fits)

  -- A goroutine that owes nothing is to make the object x in region r. These facts hold again after each page, so they are one record.
  record MakesNow (s : RegionState) (h : Holder) (frame : TacFrame) (callers : List TacFrame) (instr : CodeInstr) (a : Acted)
      (r : Region) (x : Object) : Type 0 where
    all : AllGood code s
    there : slice_get s.holders g ≡ Some h
    at : slice_get s.plain.goroutines g ≡ Some (frame ∷ callers)
    cur : current code frame ≡ Some instr
    running : s.plain.ended ≡ None
    acts : alone (erased code) s.plain.memory (frame ∷ callers) ≡ Some a
    none : h.duties ≡ []
    free : may_go h.offer ≡ true
    making : making_region (function_at code frame) (top_names h.environments) instr.op ≡ Some r
    makes : new_object s.plain (after s.plain g a) ≡ Some x

  module _ (frame : TacFrame) (callers : List TacFrame) (instr : CodeInstr) (a : Acted) (r : Region) (x : Object) where
    -- the object has its place now, so the instruction can be done
    makes_at_once : (s : RegionState) (h : Holder) (given : Holder × List Region)
        → MakesNow s h frame callers instr a r x → allotted page_words h (Some r) (Some x) ≡ Some given
        → CanInstruct code page_words s (One g)
    makes_at_once s h given k fits =
        now code page_words checked written (One g) s (One g) refl
        (steps_now s h frame callers instr a given k.all k.there k.at k.cur k.running k.acts k.none k.free
        (ap (λ o. allotted page_words h o (new_object s.plain (after s.plain g a))) k.making
        ∙ ap (allotted page_words h (Some r)) k.makes ∙ fits))

    abbrev paged : RegionState → Holder → RegionState
    paged s h = page_taken s g (with_page page_words h r x) r

    same_plain : (s : RegionState) (k : Holder) (q : Region) → (page_taken s g k q).plain ≡ s.plain
    same_plain s k GlobalRegion = refl
    same_plain s k (Numbered n) = refl

    same_holders : (s : RegionState) (k : Holder) (q : Region) → (page_taken s g k q).holders ≡ slice_set s.holders g k
    same_holders s k GlobalRegion = refl
    same_holders s k (Numbered n) = refl

    -- it takes a page first; a page changes no frame and no memory, so the object to be made is the same after it
    makes_later : (s : RegionState) (h : Holder) → MakesNow s h frame callers instr a r x
        → wants_page page_words h.reserved (fill_of h.fills r) x ≡ true
        → (MakesNow (paged s h) (with_page page_words h r x) frame callers instr a r x
        → CanInstruct code page_words (paged s h) (One g)) → CanInstruct code page_words s (One g)
    makes_later s h k wants then_can =
        first_step code page_words checked written (One g) s (paged s h) (TakePage g) tt takes (then_can (record {
          all = good_at code page_words checked written (One g) s (paged s h) (TakePage g) k.all takes;
          there =
              ap (λ y. slice_get y g) (same_holders s (with_page page_words h r x) r)
              ∙ get_set_same s.holders g h (with_page page_words h r x) k.there;
          at = ap (λ p. slice_get p.goroutines g) same ∙ k.at;
          cur = k.cur;
          running = ap (λ (p : TacState). p.ended) same ∙ k.running;
          acts = ap (λ p. alone (erased code) p.memory (frame ∷ callers)) same ∙ k.acts;
          none = k.none;
          free = k.free;
          making = k.making;
          makes = ap (λ p. new_object p (after p g a)) same ∙ k.makes;
        }))
      where
        same : (paged s h).plain ≡ s.plain
        same = same_plain s (with_page page_words h r x) r

        top : Top code h frame callers
        top = top_of code h frame callers (subst (λ y. GoodHolder code y h) (ap frames_in k.at)
            (k.all.good.fine.each g h k.there))

        class : (c : Class) × (class_region top.f.names c ≡ Some r)
        class = making_class top.stands.fn top.f.names instr.op r
            (ap (λ sh. making_region (Some top.stands.fn) (top_names sh) instr.op) (sym top.environments)
            ∙ ap (λ o. making_region o (top_names h.environments) instr.op) (sym top.stands.is_fn) ∙ k.making)

        live : is_live s.regions r ≡ true
        live = live_of s h r (class_has_stake code s g h frame callers top class.0 r k.all.good.fine k.there class.1)

        next : next_object code s g ≡ Some x
        next =
            ap (object_made s) (one_step code s.plain g (frame ∷ callers) k.running k.at
            ∙ ap (option_map (after s.plain g)) k.acts)
            ∙ k.makes

        takes : region_step code page_words s (TakePage g) ≡ Some (paged s h)
        takes =
            ap (option_and_then (λ k. take_page code page_words s g k (frames_of s.plain g))) k.there
            ∙ ap (take_page code page_words s g h) (ap frames_in k.at)
            ∙ ap (option_and_then (page_for code page_words s g h frame)) k.cur
            ∙ ap (option_and_then (takes_page code page_words s g h)) k.making
            ∙ ap (option_and_then (page_before page_words s g h r)) next
            ∙ ap (λ ds. if has_none ds && may_go h.offer && is_live s.regions r && wants_page page_words h.reserved
            (fill_of h.fills r) x then Some (paged s h) else None) k.none
            ∙ ap (λ b. if b && is_live s.regions r && wants_page page_words h.reserved (fill_of h.fills r) x then Some
            (paged s h) else None) k.free
            ∙ ap (λ b. if b && wants_page page_words h.reserved (fill_of h.fills r) x then Some (paged s h) else None)
            live
            ∙ ap (λ b. if b then Some (paged s h) else None) wants

    -- an object that is not spread: in the own page, or in a new one, where it fits because it has no more words than a page
    module _ (whole : is_spread page_words x ≡ false) where
      in_own : (h : Holder) (used : ℕ) → fill_of h.fills r ≡ Some used → nat_le (used + object_words x) page_words ≡ true
          → allotted page_words h (Some r) (Some x) ≡ Some
          (record h { fills = with_fill h.fills r (used + object_words x) }, r ∷ [])
      in_own h used w l =
          ap (λ b. if b then spread_out page_words h r x else placed page_words h r x (fill_of h.fills r)) whole
          ∙ ap (placed page_words h r x) w
          ∙ ap (λ b. if b then Some (record h { fills = with_fill h.fills r (used + object_words x) }, r ∷ []) else None) l

      small_enough : (n p : ℕ) → nat_lt p n ≡ false → nat_le (0 + n) p ≡ true
      small_enough n p e = grind (arith, nat_tests)

      can_whole : (s : RegionState) (h : Holder) → MakesNow s h frame callers instr a r x
          → CanInstruct code page_words s (One g)
      can_whole s h k = by (fill_of h.fills r) refl
        where
          new_page : fits_in_page page_words (fill_of h.fills r) (object_words x) ≡ false → CanInstruct code page_words s (One g)
          new_page n = makes_later s h k wants (λ k'. makes_at_once (paged s h) (with_page page_words h r x) _ k'
              (in_own (with_page page_words h r x) 0
              (ap (λ b. fill_of (if b then h.fills else with_fill h.fills r 0) r) whole ∙ fill_with h.fills r 0)
              (small_enough (object_words x) page_words whole)))
            where
              wants : wants_page page_words h.reserved (fill_of h.fills r) x ≡ true
              wants =
                  ap (λ b. if b then not (is_too_large page_words x) && nat_le h.reserved (data_pages page_words x) else
                  not (fits_in_page page_words (fill_of h.fills r) (object_words x))) whole
                  ∙ ap (λ b. not b) n

          by : (o : Option ℕ) → fill_of h.fills r ≡ o → CanInstruct code page_words s (One g)
          by None w = new_page (ap (λ o. fits_in_page page_words o (object_words x)) w)
          by (Some used) w = split (nat_le (used + object_words x) page_words)
              (λ t. makes_at_once s h _ k (in_own h used w t))
              (λ n. new_page (ap (λ o. fits_in_page page_words o (object_words x)) w ∙ n))

    -- a spread object, once all of its pages are taken; n bounds how many are missing
    module _ (spread : is_spread page_words x ≡ true) (small : is_too_large page_words x ≡ false) where
      in_pages : (h : Holder) → nat_lt (data_pages page_words x) h.reserved ≡ true
          → allotted page_words h (Some r) (Some x) ≡ Some (record h { reserved = 0 }, r ∷ [])
      in_pages h l =
          ap (λ b. if b then spread_out page_words h r x else placed page_words h r x (fill_of h.fills r)) spread
          ∙ ap (λ b. if not b && nat_lt (data_pages page_words x) h.reserved then Some
          (record h { reserved = 0 }, r ∷ []) else None) small
          ∙ ap (λ b. if b then Some (record h { reserved = 0 }, r ∷ []) else None) l

      all_taken : (d n : ℕ) → d < n + 0 → nat_lt d n ≡ true
      all_taken d n l = grind (arith, nat_tests)

      wants_more : (d n : ℕ) → nat_lt d n ≡ false → nat_le n d ≡ true
      wants_more d n e = grind (arith, nat_tests)

      can_spread : (n : ℕ) (s : RegionState) (h : Holder) → MakesNow s h frame callers instr a r x
          → data_pages page_words x < h.reserved + n → CanInstruct code page_words s (One g)
      can_spread zero s h k l = makes_at_once s h _ k (in_pages h (all_taken (data_pages page_words x) h.reserved l))
      can_spread (suc n) s h k l = go (λ k' l'. can_spread n (paged s h) (with_page page_words h r x) k' l')
        where
          one_more : with_page page_words h r x ≡ record h { reserved = h.reserved + 1 }
          one_more = ap (λ b. record h {
            fills = if b then h.fills else with_fill h.fills r 0;
            reserved = if b then h.reserved + 1 else h.reserved;
          }) spread

          go : (MakesNow (paged s h) (with_page page_words h r x) frame callers instr a r x
              → data_pages page_words x < Holder.reserved (with_page page_words h r x) + n
              → CanInstruct code page_words (paged s h) (One g)) → CanInstruct code page_words s (One g)
          go then_can = split (nat_lt (data_pages page_words x) h.reserved)
              (λ t. makes_at_once s h _ k (in_pages h t))
              (λ f. makes_later s h k
              (ap (λ b. if b then not (is_too_large page_words x) && nat_le h.reserved (data_pages page_words x) else
              not (fits_in_page page_words (fill_of h.fills r) (object_words x))) spread
              ∙ ap (λ b. not b && nat_le h.reserved (data_pages page_words x)) small
              ∙ wants_more (data_pages page_words x) h.reserved f)
              (λ k'. then_can k' (let e = ap Holder.reserved one_more in omega (arith, e, l))))

  can_one : (s : RegionState) (h : Holder) (next : TacState) → AllGood code s → slice_get s.holders g ≡ Some h
      → h.duties ≡ [] → may_go h.offer ≡ true → plain_step code s.plain (One g) ≡ Some next
      → ¬ (MakesTooLarge page_words s.plain next) → CanInstruct code page_words s (One g)
  can_one s h next all e d m step small = frames (slice_get s.plain.goroutines g) refl
    where
      running : s.plain.ended ≡ None
      running = running_of code s.plain (One g) next step

      at_instr : (frame : TacFrame) (callers : List TacFrame) → slice_get s.plain.goroutines g ≡ Some (frame ∷ callers)
          → (a : Acted) → alone (erased code) s.plain.memory (frame ∷ callers) ≡ Some a → after s.plain g a ≡ next
          → (instr : CodeInstr) → current code frame ≡ Some instr → CanInstruct code page_words s (One g)
      at_instr frame callers at a acts is instr cur = object (new_object s.plain (after s.plain g a)) refl
        where
          object : (o : Option Object) → new_object s.plain (after s.plain g a) ≡ o
              → CanInstruct code page_words s (One g)
          object None q = now code page_words checked written (One g) s (One g) refl
              (steps_now s h frame callers instr a (h, []) all e at cur running acts d m
              (ap (allotted page_words h
              (making_region (function_at code frame) (top_names h.environments) instr.op)) q))
          object (Some x) q = split (is_spread page_words x)
              (λ t. can_spread frame callers instr a r.0 x t not_too_large (data_pages page_words x + 1) s h makes
              (omega arith))
              (λ n. can_whole frame callers instr a r.0 x n s h makes)
            where
              r : (r : Region) × (making_region (function_at code frame) (top_names h.environments) instr.op ≡ Some r)
              r = object_region code checked s g h frame callers instr all e at cur d a acts x q

              makes : MakesNow s h frame callers instr a r.0 x
              makes = record {
                all = all;
                there = e;
                at = at;
                cur = cur;
                running = running;
                acts = acts;
                none = d;
                free = m;
                making = r.1;
                makes = q;
              }

              is_over : (m d : ℕ) → nat_lt m d ≡ true → m < d
              is_over m d t = grind (arith, nat_tests)

              not_too_large : is_too_large page_words x ≡ false
              not_too_large = split (is_too_large page_words x)
                  (λ t. absurd (small (
                    x,
                    ap (new_object s.plain) (sym is) ∙ q,
                    is_over (most_data_pages page_words) (data_pages page_words x) t,
                  )))
                  (λ n. n)

      acted : (fr : List TacFrame) → slice_get s.plain.goroutines g ≡ Some fr → (o : Option Acted)
          → alone (erased code) s.plain.memory fr ≡ o → option_map (after s.plain g) o ≡ Some next
          → CanInstruct code page_words s (One g)
      acted fr q None w z = cc
      acted [] q (Some a) w z = cc
      acted (frame ∷ callers) q (Some a) w z = at_instr frame callers q a w (same_Some (after s.plain g a) next z)
          top.stands.instr (ap (λ o. current_in o frame.next) top.stands.is_fn ∙ top.stands.is_instr)
        where
          top : Top code h frame callers
          top = top_of code h frame callers (subst (λ y. GoodHolder code y h) (ap frames_in q)
              (all.good.fine.each g h e))

      none_step : slice_get s.plain.goroutines g ≡ None → plain_step code s.plain (One g) ≡ None
      none_step q = ap (λ e. unless_ended e (picked (tac (erased code)) s.plain (One g))) running
          ∙ ap (option_and_then (machine_alone (tac (erased code)) s.plain g)) q

      frames : (o : Option (List TacFrame)) → slice_get s.plain.goroutines g ≡ o → CanInstruct code page_words s (One g)
      frames None q = let x : None ≡ Some next = sym (none_step q) ∙ step in cc
      frames (Some fr) q = acted fr q (alone (erased code) s.plain.memory fr) refl
          (sym (one_step code s.plain g fr running q) ∙ step)

-- ---- a meeting

pub frames_some : (o : Option (List TacFrame)) (frame : TacFrame) (callers : List TacFrame) → frames_in o ≡ frame ∷ callers → o
    ≡ Some (frame ∷ callers)
frames_some None frame callers e = cc
frames_some (Some fs) frame callers e = ap Some e

-- how the three-address machine sees a goroutine whose next instruction is a send
pub stand_of : (code : Code) (p : TacState) (g o : ℕ) (st : StandsAtSend code p g o) → tac_stand (erased code) st.frame
    ≡ AtSend (value_at st.frame st.channel) (value_at st.frame st.sent) st.instr.place (frame_after_instr st.frame st.to value.Nil)
stand_of code p g o st =
    ap (stand_at_instr (erased code) st.frame) (current_erased code st.frame ∙ ap (option_map erased_instr) st.cur)
    ∙ ap (λ op. stand_before_op (erased code) st.frame (erased_op op) st.instr.place) st.is

find_offer : (hs : List Holder) (o : ℕ) → list_any (λ (k : Holder). offers_on o k.offer) hs ≡ true → (w : ℕ)
    × (k : Holder) × (slice_get hs w ≡ Some k) × (offers_on o k.offer ≡ true)
find_offer [] o e = absurd (true≢false (sym e))
find_offer (h ∷ hs) o e = go (offers_on o h.offer) refl e (find_offer hs o)
  where
    go : (b : Bool) → offers_on o h.offer ≡ b → (b || list_any (λ (k : Holder). offers_on o k.offer) hs) ≡ true
        → (list_any (λ (k : Holder). offers_on o k.offer) hs ≡ true → (w : ℕ) × (k : Holder) × (slice_get hs w ≡ Some k)
        × (offers_on o k.offer ≡ true)) → (w : ℕ) × (k : Holder) × (slice_get (h ∷ hs) w ≡ Some k)
        × (offers_on o k.offer ≡ true)
    go true q e next = (0, h, refl, q)
    go false q e next = let x = next e in (suc x.0, x.1, x.2, x.3)

-- 1 for a goroutine that has to acknowledge: the sum over all is what gets smaller in `loop`
abbrev is_taken : Holder → ℕ
is_taken k = one_when (not (may_go k.offer))

module _ (code : Code) (page_words : ℕ) (checked : IsChecked code) (written : Ascends code) (r u : ℕ) (o : ℕ) where
  -- the receiver, which is ready, and the channel
  record AtChannel (s : RegionState) (h : Holder) : Type 0 where
    good : AllGood code s
    running : s.plain.ended ≡ None
    frame : TacFrame
    callers : List TacFrame
    at : slice_get s.plain.goroutines r ≡ Some (frame ∷ callers)
    c : Value
    blank : Value
    go_on : Value → TacFrame
    stands : tac_stand (erased code) frame ≡ AtReceive c blank go_on
    receives : ReceivesAt code (frame ∷ callers) c (λ v. go_on v ∷ callers)
    leads : c ≡ value.Object o
    meeting : is_meeting_at (slice_get s.plain.memory.heap o) ≡ true
    there : slice_get s.holders r ≡ Some h
    none : h.duties ≡ []
    free : may_go h.offer ≡ true

  meet_now : (s : RegionState) (h : Holder) (w : ℕ) (k : Holder) → AtChannel s h → nat_eq r w ≡ false
      → slice_get s.holders w ≡ Some k → k.duties ≡ [] → may_go k.offer ≡ true → standing_at k.offer ≡ true
      → StandsAtSend code s.plain w o → IsSome (region_step code page_words s (Instruct (Meet r w)))
  meet_now s h w k x ne e d m standing st = some_when (is_ready code s h (frames_of s.plain r) && is_ready code s k
      (frames_of s.plain w) && standing_at k.offer) _ _ all_true (stepped ∙ done)
    where
      at_w : slice_get s.plain.goroutines w ≡ Some (st.frame ∷ st.callers)
      at_w = frames_some (slice_get s.plain.goroutines w) st.frame st.callers st.at

      meets : meets_at s.plain.memory x.c (value_at st.frame st.channel) ≡ true
      meets =
          ap (λ v. meets_at s.plain.memory v (value_at st.frame st.channel)) x.leads
          ∙ ap (meets_at s.plain.memory (value.Object o)) st.channel_is
          ∙ ap (λ b. if b then is_meeting_at (slice_get s.plain.memory.heap o) else false) (nat_eq_refl o)
          ∙ x.meeting

      stepped : region_step code page_words s (Instruct (Meet r w))
          ≡ both_instructed code s r w (slice_get s.holders r) (slice_get s.holders w)
          (met_with s.plain r w (x.go_on (value_at st.frame st.sent) ∷ x.callers)
          (frame_after_instr st.frame st.to value.Nil ∷ st.callers))
      stepped = ap (option_and_then (instruct code page_words s (Meet r w)))
          (ap (λ e. unless_ended e (picked (tac (erased code)) s.plain (Meet r w))) x.running
          ∙ ap (λ b. if b then None else meet (tac (erased code)) s.plain r w) ne
          ∙ ap (option_and_then (λ f. option_and_then (met_by (tac (erased code)) s.plain r w f)
          (slice_get s.plain.goroutines w))) x.at
          ∙ ap (option_and_then (met_by (tac (erased code)) s.plain r w (x.frame ∷ x.callers))) at_w
          ∙ ap (λ q. met s.plain r w x.callers st.callers q (tac_stand (erased code) st.frame)) x.stands
          ∙ ap (met s.plain r w x.callers st.callers (AtReceive x.c x.blank x.go_on)) (stand_of code s.plain w o st)
          ∙ ap (λ b. if b then Some (met_with s.plain r w (x.go_on (value_at st.frame st.sent) ∷ x.callers)
          (frame_after_instr st.frame st.to value.Nil ∷ st.callers)) else None) meets)

      ready_r : is_ready code s h (frames_of s.plain r) ≡ true
      ready_r = ap (is_ready code s h) (ap frames_in x.at ∙ x.receives.at)
          ∙ ready_now code page_words checked written (Meet r u) s r h x.receives.frame x.receives.callers
          x.receives.instr x.good x.there (ap frames_in x.at ∙ x.receives.at) x.receives.cur x.none x.free

      ready_w : is_ready code s k (frames_of s.plain w) ≡ true
      ready_w = ap (is_ready code s k) st.at ∙ ready_now code page_words checked written (Meet r u) s w k st.frame
          st.callers st.instr x.good e st.at st.cur d m

      all_true : (is_ready code s h (frames_of s.plain r) && is_ready code s k (frames_of s.plain w) && standing_at
          k.offer) ≡ true
      all_true = ap (λ b. b && is_ready code s k (frames_of s.plain w) && standing_at k.offer) ready_r
          ∙ ap (λ b. b && standing_at k.offer) ready_w ∙ standing

      done : both_instructed code s r w (slice_get s.holders r) (slice_get s.holders w)
          (met_with s.plain r w (x.go_on (value_at st.frame st.sent) ∷ x.callers)
          (frame_after_instr st.frame st.to value.Nil ∷ st.callers)) ≡ both_instructed code s r w (Some h) (Some k)
          (met_with s.plain r w (x.go_on (value_at st.frame st.sent) ∷ x.callers)
          (frame_after_instr st.frame st.to value.Nil ∷ st.callers))
      done = ap (λ q. both_instructed code s r w q (slice_get s.holders w)
          (met_with s.plain r w (x.go_on (value_at st.frame st.sent) ∷ x.callers)
          (frame_after_instr st.frame st.to value.Nil ∷ st.callers))) x.there
          ∙ ap (λ q. both_instructed code s r w (Some h) q (met_with s.plain r w
          (x.go_on (value_at st.frame st.sent) ∷ x.callers) (frame_after_instr st.frame st.to value.Nil ∷ st.callers))) e

  -- the sender, which is ready
  record Sends (s : RegionState) (k : Holder) : Type 0 where
    sends : StandsAtSend code s.plain u o
    there : slice_get s.holders u ≡ Some k
    none : k.duties ≡ []
    free : may_go k.offer ≡ true

  -- what is known of the receiver still holds after another goroutine has acknowledged
  moved_channel : (s t : RegionState) (h : Holder) → AtChannel s h → AllGood code t → t.plain ≡ s.plain
      → slice_get t.holders r ≡ Some h → AtChannel t h
  moved_channel s t h x good plain there =
      record {
        good = good;
        running = ap (λ (p : TacState). p.ended) plain ∙ x.running;
        frame = x.frame;
        callers =
            x.callers;
        at = ap (λ p. slice_get p.goroutines r) plain ∙ x.at;
        c = x.c;
        blank = x.blank;
        go_on =
            x.go_on;
        stands = x.stands;
        receives = x.receives;
        leads = x.leads;
        meeting =
            ap (λ p. is_meeting_at (slice_get p.memory.heap o)) plain ∙ x.meeting;
        there = there;
        none = x.none;
        free =
            x.free;
      }

  moved_sends : (s t : RegionState) (k : Holder) → Sends s k → t.plain ≡ s.plain → slice_get t.holders u ≡ Some k
      → Sends t k
  moved_sends s t k x plain there = record {
    sends = subst (λ p. StandsAtSend code p u o) (sym plain) x.sends;
    there =
        there;
    none = x.none;
    free = x.free;
  }

  module _ (apart : nat_eq r u ≡ false) where
    -- no offer is at the channel: the sender makes one, and then the two meet
    offers_then : (s : RegionState) (h k : Holder) → AtChannel s h → Sends s k
        → list_any (λ (q : Holder). offers_on o q.offer) s.holders ≡ false → CanInstruct code page_words s (Meet r u)
    offers_then s h k x y none =
        first_step code page_words checked written (Meet r u) s t (MakeOffer u) tt makes
        (now code page_words checked written (Meet r u) t (Meet r u) (u, refl)
        (meet_now t h u (record k { offer = Standing o }) (moved_channel s t h x
        (good_at code page_words checked written (Meet r u) s t (MakeOffer u) x.good makes) refl
        (get_set_other s.holders u r (record k { offer = Standing o }) (nat_ne_sym r u apart) ∙ x.there)) apart
        (get_set_same s.holders u k (record k { offer = Standing o }) y.there) y.none refl refl y.sends))
      where
        t : RegionState
        t = attended s u (record k { offer = Standing o })

        makes : region_step code page_words s (MakeOffer u) ≡ Some (attended s u (record k { offer = Standing o }))
        makes =
            ap (option_and_then (λ q. make_offer code s u q (frames_of s.plain u))) y.there
            ∙ ap (make_offer code s u k) y.sends.at
            ∙ ap (λ b. if b then offer_at code s u k y.sends.frame else None)
            (ready_now code page_words checked written (Meet r u) s u k y.sends.frame y.sends.callers y.sends.instr
            x.good y.there y.sends.at y.sends.cur y.none y.free)
            ∙ ap (option_and_then (offer_for s u k y.sends.frame)) y.sends.cur
            ∙ ap (λ op. option_and_then (offered s u k) (offered_channel s y.sends.frame op)) y.sends.is
            ∙ ap (λ v. option_and_then (offered s u k) (open_channel s (v ∷ value_at y.sends.frame y.sends.sent ∷ [])))
            y.sends.channel_is
            ∙ ap (λ b. option_and_then (offered s u k) (if b then Some o else None)) x.meeting
            ∙ ap (λ b. if b then None else Some (attended s u (record k { offer = Standing o }))) none

    -- the acknowledgement of goroutine w leaves the receiver and the sender as they were, since neither of them has to acknowledge
    apart_from : (s : RegionState) (w : ℕ) (q : Holder) (p : ℕ) → slice_get s.holders w ≡ Some q → q.offer ≡ Taken p
        → (j : ℕ) (y : Holder) → slice_get s.holders j ≡ Some y → may_go y.offer ≡ true
        → slice_get (slice_set s.holders w (record q { offer = NoOffer })) j ≡ Some y
    apart_from s w q p e z j y ey my = split (nat_eq w j) (λ u'. absurd (same (eq_of w j u')))
        (λ n'. get_set_other s.holders w j (record q { offer = NoOffer }) n' ∙ ey)
      where
        same : w ≡ j → ⊥
        same u' = true≢false (sym my ∙ ap (λ (v : Holder). may_go v.offer)
            (same_Some y q (sym ey ∙ ap (slice_get s.holders) (sym u') ∙ e)) ∙ ap may_go z)

    -- An offer is at the channel. If it is open, the receiver meets that sender, whoever it is: this is why the law allows another
    -- sender. If it was taken, it is acknowledged, and `again` continues from there.
    by_find : (s : RegionState) (h k : Holder) → AtChannel s h → Sends s k
        → ((w : ℕ) (q : Holder) (p : ℕ) → slice_get s.holders w ≡ Some q → q.offer ≡ Taken p
        → AtChannel (attended s w (record q { offer = NoOffer })) h
        → Sends (attended s w (record q { offer = NoOffer })) k
        → CanInstruct code page_words (attended s w (record q { offer = NoOffer })) (Meet r u))
        → CanInstruct code page_words s (Meet r u)
    by_find s h k x y again = split (list_any (λ (q : Holder). offers_on o q.offer) s.holders)
        (λ t. some (find_offer s.holders o t)) (λ f. offers_then s h k x y f)
      where
        some : (w : ℕ) × (q : Holder) × (slice_get s.holders w ≡ Some q) × (offers_on o q.offer ≡ true)
            → CanInstruct code page_words s (Meet r u)
        some (w, q, e, f) = by q.offer refl f
          where
            by : (offer : Offer) → q.offer ≡ offer → offers_on o offer ≡ true → CanInstruct code page_words s (Meet r u)
            by NoOffer z f = absurd (true≢false (sym f))
            by (Standing p) z f =
                now code page_words checked written (Meet r u) s (Meet r w) (w, refl)
                (meet_now s h w q x other e fits.0 (ap may_go z) (ap standing_at z) fits.2)
              where
                op : o ≡ p
                op = eq_of o p f

                fits : OfferFits code s w q (Standing o)
                fits = subst (λ y. OfferFits code s w q (Standing y)) (sym op)
                    (subst (OfferFits code s w q) z (x.good.offers.fits w q e))

                clash : (a b : Option ℕ) (vs ws rs qs : List ℕ) → Do a Send vs rs ≡ Do b Recv ws qs → ⊥
                clash a b vs ws rs qs e = cc

                -- the offer is not the receiver's own: its next instruction is a receive
                not_receiver : r ≡ w → ⊥
                not_receiver same =
                    let st : StandsAtSend code s.plain r o = subst (λ i. StandsAtSend code s.plain i o) (sym same)
                    fits.2 in
                    let y = at_send code s.plain r o st x.receives.frame x.receives.callers x.receives.instr
                    (ap frames_in x.at ∙ x.receives.at) x.receives.cur in
                    clash st.to x.receives.to (st.channel ∷ st.sent ∷ []) (x.receives.channel ∷ []) st.removes
                    x.receives.removes (sym y.0 ∙ x.receives.is)

                other : nat_eq r w ≡ false
                other = split (nat_eq r w) (λ t. absurd (not_receiver (eq_of r w t))) (λ n. n)
            by (Taken p) z f =
                first_step code page_words checked written (Meet r u) s (attended s w (record q { offer = NoOffer }))
                (Acknowledge w) tt step
                (again w q p e z
                (moved_channel s (attended s w (record q { offer = NoOffer })) h x
                (good_at code page_words checked written (Meet r u) s (attended s w (record q { offer = NoOffer }))
                (Acknowledge w) x.good step) refl (apart_from s w q p e z r h x.there x.free))
                (moved_sends s (attended s w (record q { offer = NoOffer })) k y refl
                (apart_from s w q p e z u k y.there y.free)))
              where
                step : region_step code page_words s (Acknowledge w)
                    ≡ Some (attended s w (record q { offer = NoOffer }))
                step = acknowledges code page_words checked written (Meet r u) s w q p x.good e z

    -- after an acknowledgement one goroutine fewer has to acknowledge
    fewer : (s : RegionState) (w : ℕ) (q : Holder) (p : ℕ) → slice_get s.holders w ≡ Some q → q.offer ≡ Taken p
        → total is_taken (slice_set s.holders w (record q { offer = NoOffer })) + 1 ≡ total is_taken s.holders
    fewer s w q p e z =
        let a = total_set is_taken s.holders w q (record q { offer = NoOffer }) e in
        let b : is_taken q ≡ 1 = ap (λ x. one_when (not (may_go x))) z in
        omega (arith, a, b)

    loop : (n : ℕ) (s : RegionState) (h k : Holder) → total is_taken s.holders ≡ n → AtChannel s h → Sends s k
        → CanInstruct code page_words s (Meet r u)
    loop zero s h k count x y = by_find s h k x y (λ w q p e z x' y'.
        absurd (let a = fewer s w q p e z in omega (arith, a, count)))
    loop (suc n) s h k count x y = by_find s h k x y (λ w q p e z x' y'.
        loop n (attended s w (record q { offer = NoOffer })) h k (let a = fewer s w q p e z in omega (arith, a, count))
        x' y')

-- ---- every pick

get_holder : (s : RegionState) (code : Code) (g : ℕ) → AllGood code s → (fr : List TacFrame)
    → slice_get s.plain.goroutines g ≡ Some fr → (h : Holder) × (slice_get s.holders g ≡ Some h)
get_holder s code g all fr e = get_some s.holders g (let a = slice_get_within s.plain.goroutines g fr e in let b =
    all.good.fine.as_many in omega (arith, a, b))

module _ (code : Code) (page_words : ℕ) (checked : IsChecked code) (written : Ascends code) (s : RegionState)
    (all : AllGood code s) where
  by_one : (g : ℕ) (next : TacState) → plain_step code s.plain (One g) ≡ Some next
      → ¬ (MakesTooLarge page_words s.plain next) → CanInstruct code page_words s (One g)
  by_one g next step small = go (slice_get s.plain.goroutines g) refl
    where
      running : s.plain.ended ≡ None
      running = running_of code s.plain (One g) next step

      none_step : slice_get s.plain.goroutines g ≡ None → plain_step code s.plain (One g) ≡ None
      none_step q = ap (λ e. unless_ended e (picked (tac (erased code)) s.plain (One g))) running
          ∙ ap (option_and_then (machine_alone (tac (erased code)) s.plain g)) q

      go : (o : Option (List TacFrame)) → slice_get s.plain.goroutines g ≡ o → CanInstruct code page_words s (One g)
      go None q = let x : None ≡ Some next = sym (none_step q) ∙ step in cc
      go (Some fr) q =
          let h = get_holder s code g all fr q in
          clear code page_words checked written (One g) s g h.0 all h.1
          (λ t k c d m. can_one code page_words checked written g t k next c.good c.there d m
          (ap (λ p. plain_step code p (One g)) c.plain ∙ step)
          (subst (λ p. ¬ (MakesTooLarge page_words p next)) (sym c.plain) small))

  by_meet : (r u : ℕ) (next : TacState) → plain_step code s.plain (Meet r u) ≡ Some next
      → CanInstruct code page_words s (Meet r u)
  by_meet r u next step = go (nat_eq r u) refl (slice_get s.plain.goroutines r) refl (slice_get s.plain.goroutines u)
      refl (sym (ap (λ e. unless_ended e (picked (tac (erased code)) s.plain (Meet r u))) running) ∙ step)
    where
      running : s.plain.ended ≡ None
      running = running_of code s.plain (Meet r u) next step

      go : (b : Bool) → nat_eq r u ≡ b → (p : Option (List TacFrame)) → slice_get s.plain.goroutines r ≡ p
          → (q : Option (List TacFrame)) → slice_get s.plain.goroutines u ≡ q
          → (if b then None else option_and_then (λ f. option_and_then (met_by (tac (erased code)) s.plain r u f) q) p)
          ≡ Some next → CanInstruct code page_words s (Meet r u)
      go true ne p ep q eq z = cc
      go false ne None ep q eq z = cc
      go false ne (Some a) ep None eq z = cc
      go false ne (Some []) ep (Some b) eq z = cc
      go false ne (Some (f ∷ fs)) ep (Some []) eq z = cc
      go false ne (Some (f ∷ fs)) ep (Some (k ∷ ks)) eq z =
          stands (tac_stand (erased code) f) refl (tac_stand (erased code) k) (stands_at_channel code f fs)
          (stands_at_channel code k ks) z
        where
          stands : (x : Stand TacFrame) → tac_stand (erased code) f ≡ x → (y : Stand TacFrame) → StandsAt code f fs x
              → StandsAt code k ks y → met s.plain r u fs ks x y ≡ Some next → CanInstruct code page_words s (Meet r u)
          stands (AtReceive c blank go_on) ex (AtReceive d blank' go_on') ha hb z = cc
          stands (AtReceive c blank go_on) ex (AtClose d place go_on') ha hb z = cc
          stands (AtReceive c blank go_on) ex (AtCall go_on' callee) ha hb z = cc
          stands (AtReceive c blank go_on) ex (AtStart go_on' child) ha hb z = cc
          stands (AtReceive c blank go_on) ex Elsewhere ha hb z = cc
          stands (AtSend c v place sender) ex y ha hb z = cc
          stands (AtClose c place go_on) ex y ha hb z = cc
          stands (AtCall go_on callee) ex y ha hb z = cc
          stands (AtStart go_on child) ex y ha hb z = cc
          stands Elsewhere ex y ha hb z = cc
          stands (AtReceive c blank go_on) ex (AtSend d v place sender) ha hb z =
              on (meets_at s.plain.memory c d) refl z
            where
              on : (x : Bool) → meets_at s.plain.memory c d ≡ x
                  → (if x then Some (met_with s.plain r u (go_on v ∷ fs) (sender ∷ ks)) else None) ≡ Some next
                  → CanInstruct code page_words s (Meet r u)
              on false m z = cc
              on true m z = both (get_holder s code r all (f ∷ fs) ep) (get_holder s code u all (k ∷ ks) eq)
                  (one_object code checked s.plain.memory c d m)
                where
                  both : (h : Holder) × (slice_get s.holders r ≡ Some h) → (k' : Holder)
                      × (slice_get s.holders u ≡ Some k') → (o : ℕ) × (c ≡ value.Object o) × (d ≡ value.Object o)
                      → CanInstruct code page_words s (Meet r u)
                  both (h, eh) (k', ek) (o, eco, edo) =
                      clear code page_words checked written (Meet r u) s r h all eh (λ t h' ct dh mh.
                      clear code page_words checked written (Meet r u) t u k' ct.good (ct.others u ne ∙ ek)
                      (λ v' k'' cv dk mk.
                      loop code page_words checked written r u o ne (total is_taken v'.holders) v' h' k'' refl
                      (record {
                        good = cv.good;
                        running = ap (λ (p : TacState). p.ended) (cv.plain ∙ ct.plain) ∙ running;
                        frame = f;
                        callers = fs;
                        at = ap (λ p. slice_get p.goroutines r) (cv.plain ∙ ct.plain) ∙ ep;
                        c = c;
                        blank = blank;
                        go_on = go_on;
                        stands = ex;
                        receives = ha;
                        leads = eco;
                        meeting = ap (λ p. is_meeting_at (slice_get p.memory.heap o)) (cv.plain ∙ ct.plain) ∙ meeting;
                        there = cv.others r (nat_ne_sym r u ne) ∙ ct.there;
                        none = dh;
                        free = mh;
                      })
                      (record {
                        sends = subst (λ p. StandsAtSend code p u o) (sym (cv.plain ∙ ct.plain))
                            (record {
                              frame = hb.frame;
                              callers = hb.callers;
                              at = ap frames_in eq ∙ hb.at;
                              instr =
                                  hb.instr;
                              cur = hb.cur;
                              to = hb.to;
                              channel = hb.channel;
                              sent = hb.sent;
                              removes =
                                  hb.removes;
                              is = hb.is;
                              channel_is = sym hb.channel_is ∙ edo;
                            });
                        there = cv.there;
                        none = dk;
                        free = mk;
                      })))
                    where
                      meeting : is_meeting_at (slice_get s.plain.memory.heap o) ≡ true
                      meeting = sym (ap (λ b. if b then is_meeting_at (slice_get s.plain.memory.heap o) else false)
                          (nat_eq_refl o)) ∙ sym (ap (λ y. meets_at s.plain.memory y (value.Object o)) eco)
                          ∙ sym (ap (meets_at s.plain.memory c) edo) ∙ m

pub no_step_missing : NoStepMissing
no_step_missing code page_words events s pick next checked written run step small = by pick step
  where
    all : AllGood code s
    all = runs_are_good code page_words events s checked written run

    by : (pick : Pick) → plain_step code s.plain pick ≡ Some next → CanInstruct code page_words s pick
    by (One g) z = by_one code page_words checked written s all g next z small
    by (Meet r u) z = by_meet code page_words checked written s all r u next z

-- Offers are made, taken and acknowledged: the records fit after each. The hard one is the meeting: two goroutines move in the state, and
-- one record. The sender's becomes `IsPast`, with what it was before. An acknowledgement makes the same step on the record from there.
use Rattle.std.proofs.Common.{◌≡◌, ◌≢◌, ◌⊎◌, ℕ, ◌+◌, true, false, ◌&&◌, List, [], ◌∷◌, length, Option, Some, None, refl, sym, ap, ◌∙◌, subst, inl, inr}
use Rattle.std.proofs.Common.{slice_get, slice_set, append-nil, if◌then◌else◌, option_and_then, option_map, nat_eq, true≢false, Contains, arith}
use Rattle.std.proofs.lemmas.Option.{same_Some, slice_get_within}
use Rattle.rgo_sound.specs.Typed.declared.actions.Action.TheVariants.{Recv, Send}
use Rattle.rgo_sound.specs.Memory.declared.values.Value.{Value}
use Rattle.rgo_sound.specs.Memory.declared.values.Value.TheVariants as value
use Rattle.rgo_sound.specs.Memory.Channels.{is_meeting_at}
use Rattle.rgo_sound.specs.Memory.Values.{zero_of}
use Rattle.rgo_sound.specs.Machine.declared.picks.Pick.TheVariants.{Meet}
use Rattle.rgo_sound.specs.Machine.Machines.{AtReceive, AtSend, Stand, meet, met, met_by, picked, unless_ended}
use Rattle.rgo_sound.specs.Tac.Flow.{writes}
use Rattle.rgo_sound.specs.Tac.Frames.{TacFrame, frame_after_instr, value_at}
use Rattle.rgo_sound.specs.Tac.Steps.{tac_stand, stand_at_instr, stand_before_op, destination_type}
use Rattle.rgo_sound.specs.Tac.Tac.{TacState, tac}
use Rattle.rgo_sound.specs.Code.Checked.{IsChecked}
use Rattle.rgo_sound.specs.Code.Code.{Code, CodeInstr, CodeOp, Do}
use Rattle.rgo_sound.specs.Code.Erasure.{erased, erased_instr, erased_op}
use Rattle.rgo_sound.specs.Code.Names.{edges}
use Rattle.rgo_sound.specs.RegionMachine.Duties.{attended, may_go}
use Rattle.rgo_sound.specs.RegionMachine.Instructions.{both_instructed, holder_after, instruct, is_ready, mark_with_end, plain_after, side_after, side_by, standing_at, taken_offer}
use Rattle.rgo_sound.specs.RegionMachine.Machine.{Acknowledge, Instruct, plain_step, region_step, MakeOffer}
use Rattle.rgo_sound.specs.RegionMachine.Objects.{may_touch, owner_live}
use Rattle.rgo_sound.specs.RegionMachine.Offers.{acknowledge, make_offer, offer_at, offer_for, offered, offered_channel, open_channel, offers_on}
use Rattle.rgo_sound.specs.RegionMachine.Owed.{current, removes_behind}
use Rattle.rgo_sound.specs.RegionMachine.States.{Holder, NoOffer, RegionState, Standing, Taken, frames_in, frames_of}
use Rattle.rgo_sound.proofs.names.Stakes.{has_stake}
use Rattle.rgo_sound.proofs.steps.OneStep.{current_erased, met_with}
use Rattle.rgo_sound.proofs.Places.{contains_here, get_set_other, get_set_same, get_some, length_set}
use Rattle.rgo_sound.proofs.Tests.{eq_of, ne_of, nat_ne_sym, split}
use Rattle.rgo_sound.specs.Good.{AllGood}
use Rattle.rgo_sound.specs.Offers.{OfferFits, StandsAtSend}
use Rattle.rgo_core_frames.specs.steps.Actions.{after_action}
use Rattle.rgo_core_frames.specs.steps.Before.{IsBefore}
use Rattle.rgo_core_frames.specs.Fits.{RecordsFit, RecordFits, IsPast, IsShown}
use Rattle.rgo_core_frames.specs.goroutines.Meetings.{FrameAcknowledgeLaw, FrameMeetLaw, FrameOfferLaw, acknowledged, offering}
use Rattle.rgo_core_frames.specs.Records.{FramesRec, after_op}
use Rattle.rgo_core_frames.specs.shown.Variables.{FramesShow, NewestShows}
use Rattle.rgo_core_frames.specs.regions.Slots.{slotted}
use Rattle.rgo_core_frames.specs.steps.Bookkept.{HasStep, RegionStepsTo}
use Rattle.rgo_core_frames.specs.shown.WordFrames.{WordFrame, bare, bare_all, word_going}
use Rattle.rgo_core_frames.specs.shown.Words.{Shows}
use Rattle.rgo_core_frames.proofs.steps.ActionSteps.{ready_now}
use Rattle.rgo_core_frames.proofs.Before.{no_offer}
use Rattle.rgo_core_frames.proofs.regions.Bookkeeping.{after_slot, current_alike}
use Rattle.rgo_core_frames.proofs.steps.Instructing.{IsReady, ready_test}
use Rattle.rgo_core_frames.proofs.Keeping.{Changes, all_fit_kept}
use Rattle.rgo_sound.proofs.steps.Acting.{set_same}
use Rattle.rgo_sound.specs.Running.{IsRunning}
use Rattle.rgo_core_frames.proofs.shown.Showing.{goes_on}
use Rattle.rgo_core_frames.proofs.Standing.{touched_live}
use Rattle.rgo_sound.proofs.Progress.{live_of}
use Rattle.rgo_sound.proofs.offers.Offers.{after_offer}
use Rattle.rgo_core_frames.proofs.shown.WordLemmas.{other_numbers, same_numbers}
use Rattle.rgo_core_frames.specs.States.{AtInstruction, Here}
use Rattle.rgo_core_frames.proofs.Leaving.{has_step, has_still_step, mark_stays, print_stays}
use Rattle.std.specs.List.{list_any}

-- a frame continues after an action whose value is this word
going_word : (code : Code) (addresses : List ℕ) (frame : TacFrame) (w : WordFrame) (instr : CodeInstr) → current code frame ≡ Some instr
    → NewestShows code addresses frame w → (to : Option ℕ) (action : _) (from removes : List ℕ)
    → instr.op ≡ Do to action from removes → (v : Value) (word : ℕ) → Shows addresses v word
    → NewestShows code addresses (frame_after_instr frame to v) (word_going w to word)
going_word code addresses frame w instr cur t to action from removes is v word sh =
    subst (λ n. NewestShows code addresses (frame_after_instr frame to v)
    (record { function = w.function; next = n; variables = (word_going w to word).variables }))
    (ap (λ n. n + 1) (sym t.alike.next))
    (goes_on addresses code frame w instr cur t to v word (frame.next + 1) removes
    (subst (λ (o : CodeOp). Contains {X = ℕ × List ℕ} (edges o frame.next) (frame.next + 1, removes)) (sym is)
    (contains_here {X = ℕ × List ℕ} (frame.next + 1, removes) []))
    (ap (λ o. writes (erased_op o)) is) sh)

-- only the holder of one goroutine has changed
held : (s : RegionState) (g : ℕ) (frames : List TacFrame) (k : Holder) → slice_get s.plain.goroutines g ≡ Some frames
    → Changes s (attended s g k) g frames k [] []
held s g frames k at = record {
  goroutines = sym (set_same s.plain.goroutines g frames at) ∙ sym (append-nil _);
  holders = sym (append-nil _);
}

-- ---- an offer

module _ (x : AtInstruction) (to : Option ℕ) (channel sent : ℕ) (removes : List ℕ) (o : ℕ)
    (is : x.instr.op ≡ Do to Send (channel ∷ sent ∷ []) removes)
    (at : value_at x.before.frame channel ≡ value.Object o)
    (open_there : is_meeting_at (slice_get x.here.s.plain.memory.heap o) ≡ true)
    (none_on : list_any (λ (k : Holder). offers_on o k.offer) x.here.s.holders ≡ false) where
  abbrev y : Here
  y = x.here

  abbrev b : IsBefore x.here.code x.here.slot_of x.here.addresses x.here.s x.here.g x.here.c x.w x.ws x.instr
  b = x.before

  ready : IsReady y.code y.s y.g b.h b.frame b.callers x.instr
  ready = ready_now y.code y.page_words y.sound.checked y.slot_of y.addresses [] y.s y.sound.good y.sound.running y.records
      y.all y.g y.c y.is_c x.w x.ws x.instr b

  channel_is : offered_channel y.s b.frame x.instr.op ≡ Some o
  channel_is =
      ap (offered_channel y.s b.frame) is
      ∙ ap (λ v. open_channel y.s (v ∷ value_at b.frame sent ∷ [])) at
      ∙ ap (λ t. if t then Some o else None) open_there

  abbrev with_offer : Holder
  with_offer = record b.h { offer = Standing o }

  offers : RegionStepsTo x.here (MakeOffer x.here.g) x.here.s.regions x.here.s.mark
      (slice_set x.here.records x.here.g (offering x.here.c))
  offers =
      has_still_step y.code y.page_words y.slot_of y.addresses y.s (MakeOffer y.g) (slice_set y.records y.g (offering y.c))
      (slice_set y.s.holders y.g with_offer) (
      ap (option_and_then (λ h. make_offer y.code y.s y.g h (frames_of y.s.plain y.g))) b.there
      ∙ ap (make_offer y.code y.s y.g b.h) (ap frames_in b.at)
      ∙ ap (λ t. if t then offer_at y.code y.s y.g b.h b.frame else None) (ready_test ready)
      ∙ ap (option_and_then (offer_for y.s y.g b.h b.frame)) b.cur
      ∙ ap (option_and_then (offered y.s y.g b.h)) channel_is
      ∙ ap (λ t. if t then None else Some (attended y.s y.g with_offer)) none_on
      )
      (all_fit_kept y.code y.slot_of y.addresses y.s (attended y.s y.g with_offer) y.g (b.frame ∷ b.callers) b.h
      (b.frame ∷ b.callers) with_offer b.at b.there (held y.s y.g (b.frame ∷ b.callers) with_offer b.at) refl refl refl
      y.records y.c (offering y.c) y.all y.is_c
      (inl (record {
        calm = refl;
        shown = subst (FramesShow y.code y.addresses (b.frame ∷ b.callers)) (sym b.frames_are) (b.newest, b.waiting);
        holder = ap (λ (k : Holder). record k { offer = Standing 0 }) b.holder;
      }))) refl

pub offer_law : FrameOfferLaw
offer_law x to channel sent removes o is at open_there none_on = offers x to channel sent removes o is at open_there none_on

-- ---- an acknowledgement

same_target : (to to' : Option ℕ) (from from' removes removes' : List ℕ)
    → Do to Send from removes ≡ Do to' Send from' removes' → to ≡ to'
same_target to to' from from' removes removes' e = cc

module _ (code : Code) (page_words : ℕ) (checked : IsChecked code) (slot_of : ℕ → ℕ) (addresses : List ℕ) (s : RegionState)
    (good : AllGood code s) (records : List FramesRec) (all : RecordsFit code slot_of addresses s records) (g : ℕ) (c : FramesRec)
    (is_c : slice_get records g ≡ Some c) (h : Holder) (there : slice_get s.holders g ≡ Some h) (o : ℕ)
    (taken : h.offer ≡ Taken o) (frames : List TacFrame) (at : slice_get s.plain.goroutines g ≡ Some frames)
    (past : IsPast code slot_of addresses frames h c) (w : WordFrame) (ws : List WordFrame) (is_w : c.frames ≡ w ∷ ws) where
  both : FramesShow code addresses (past.frame ∷ past.callers) (w ∷ ws)
  both = subst (FramesShow code addresses (past.frame ∷ past.callers)) is_w past.shown.shown

  next_shows : FramesShow code addresses frames (word_going w past.to 0 ∷ ws)
  next_shows = subst (λ fs. FramesShow code addresses fs (word_going w past.to 0 ∷ ws)) (sym past.frames_are) (
    going_word code addresses past.frame w past.instr past.at both.0 past.to Send (past.channel ∷ past.sent ∷ []) past.removes past.is
        value.Nil 0 refl,
    both.1,
  )

  after : FramesRec
  after = acknowledged (after_op code c.holder w ws past.instr.op (word_going w past.to 0 ∷ ws))

  stands : IsShown code slot_of addresses frames (record h { offer = NoOffer })
      (acknowledged (after_op code c.holder w ws past.instr.op (word_going w past.to 0 ∷ ws)))
  stands = record {
    calm = refl;
    shown = next_shows;
    holder =
        ap (λ (k : Holder). record k { offer = NoOffer })
        (ap (λ (k : Holder). holder_after code k (bare w) (bare_all ws) past.instr.op (bare_all (word_going w past.to 0 ∷ ws)))
        past.shown.holder
        ∙ sym (after_slot slot_of code addresses past.before past.frame past.callers w ws both.1 frames addresses
        (word_going w past.to 0 ∷ ws) next_shows past.instr.op
        (subst (λ (op : CodeOp). removes_behind (bare w) op ≡ removes_behind past.frame op) (sym past.is) refl)))
        ∙ ap (λ (k : Holder). slotted slot_of (record k { offer = NoOffer })) (sym past.holder_is);
  }

  live : may_touch s (Some o) ≡ true
  live =
      let x : OfferFits code s g h (Taken o) = subst (OfferFits code s g h) taken (good.offers.fits g h there) in
      ap (owner_live s) x.1 ∙ live_of s h x.0 (has_stake code s g h x.0 good.good.fine there x.2)

  abbrev gone : FramesRec
  gone = acknowledged (after_op code c.holder w ws past.instr.op (word_going w past.to 0 ∷ ws))

  pub acknowledges : HasStep code page_words slot_of addresses s (Acknowledge g) s.regions s.mark (slice_set records g
      (acknowledged (after_op code c.holder w ws past.instr.op (word_going w past.to 0 ∷ ws))))
  acknowledges =
      has_still_step code page_words slot_of addresses s (Acknowledge g) (slice_set records g gone)
      (slice_set s.holders g (record h { offer = NoOffer })) (
      ap (option_and_then (λ (k : Holder). acknowledge s g k k.offer)) there
      ∙ ap (acknowledge s g h) taken
      ∙ ap (λ t. if t then Some (attended s g (record h { offer = NoOffer })) else None) live
      )
      (all_fit_kept code slot_of addresses s (attended s g (record h { offer = NoOffer })) g frames h frames
      (record h { offer = NoOffer }) at there (held s g frames (record h { offer = NoOffer }) at) refl refl refl records c
      gone all is_c (inl stands)) refl

pub acknowledge_law : FrameAcknowledgeLaw
acknowledge_law x w ws instr to from removes o h there taken is_w cur is = go f.fits
  where
    f : RecordFits x.code x.slot_of x.addresses x.s x.g x.c
    f = x.all.each x.g x.c x.is_c

    same : f.h ≡ h
    same = same_Some f.h h (sym f.there ∙ there)

    go : IsShown x.code x.slot_of x.addresses f.frames f.h x.c ⊎ IsPast x.code x.slot_of x.addresses f.frames f.h x.c
        → RegionStepsTo x (Acknowledge x.g) x.s.regions x.s.mark
        (slice_set x.records x.g (acknowledged (after_op x.code x.c.holder w ws instr.op (word_going w to 0 ∷ ws))))
    go (inl shown) = absurd (true≢false (sym shown.calm ∙ ap (λ (k : Holder). may_go k.offer) same ∙ ap may_go taken))
    go (inr past) =
        let here = subst (FramesShow x.code x.addresses (past.frame ∷ past.callers)) is_w past.shown.shown in
        let same_instr : past.instr ≡ instr =
        same_Some past.instr instr (sym past.at ∙ sym (current_alike x.code past.frame w here.0.alike) ∙ cur) in
        let same_to : past.to ≡ to =
        same_target past.to to (past.channel ∷ past.sent ∷ []) from past.removes removes
        (sym past.is ∙ ap (λ (i : CodeInstr). i.op) same_instr ∙ is) in
        subst (λ t. RegionStepsTo x (Acknowledge x.g) x.s.regions x.s.mark
        (slice_set x.records x.g (acknowledged (after_op x.code x.c.holder w ws instr.op (word_going w t 0 ∷ ws))))) same_to
        (subst (λ (i : CodeInstr). RegionStepsTo x (Acknowledge x.g) x.s.regions x.s.mark
        (slice_set x.records x.g (acknowledged (after_op x.code x.c.holder w ws i.op (word_going w past.to 0 ∷ ws))))) same_instr
        (acknowledges x.code x.page_words x.sound.checked x.slot_of x.addresses x.s x.sound.good x.records x.all x.g x.c x.is_c
        f.h f.there o (ap (λ (k : Holder). k.offer) same ∙ taken) f.frames f.at past w ws is_w))

-- ---- a meeting

past_standing : (code : Code) (slot_of : ℕ → ℕ) (addresses : List ℕ) (frames : List TacFrame) (h : Holder) (c : FramesRec) (o : ℕ)
    → h.offer ≡ Standing o → IsPast code slot_of addresses frames h c → ⊥
past_standing code slot_of addresses frames h c o e past =
    clash past.offer o (sym (ap (λ (k : Holder). k.offer) past.holder_is) ∙ e)
  where
    clash : (p o : ℕ) → Taken p ≡ Standing o → ⊥
    clash p o e = cc

module _ (code : Code) (page_words : ℕ) (checked : IsChecked code) (slot_of : ℕ → ℕ) (addresses : List ℕ) (s : RegionState)
    (good : AllGood code s) (running : IsRunning s) (records : List FramesRec) (all : RecordsFit code slot_of addresses s records) (r t : ℕ)
    (c : FramesRec) (is_c : slice_get records r ≡ Some c) (w : WordFrame) (ws : List WordFrame) (instr : CodeInstr)
    (b : IsBefore code slot_of addresses s r c w ws instr) (to : Option ℕ) (channel : ℕ) (removes : List ℕ)
    (is : instr.op ≡ Do to Recv (channel ∷ []) removes) (o : ℕ) (at_channel : value_at b.frame channel ≡ value.Object o)
    (open_there : is_meeting_at (slice_get s.plain.memory.heap o) ≡ true) (k : Holder)
    (there : slice_get s.holders t ≡ Some k) (standing : k.offer ≡ Standing o) (word : ℕ)
    (x : StandsAtSend code s.plain t o) (owes : k.duties ≡ []) (shows : Shows addresses (value_at x.frame x.sent) word) (free_r : b.h.offer ≡ NoOffer) where
  apart : r ≢ t
  apart e = clash (sym free_r ∙ ap (λ (h : Holder). h.offer) (same_Some b.h k (sym b.there ∙ ap (slice_get s.holders) e ∙ there)) ∙ standing)
    where
      clash : NoOffer ≡ Standing o → ⊥
      clash e = cc

  apart_test : nat_eq r t ≡ false
  apart_test = ne_of r t apart

  -- the sender's frames
  at_t : slice_get s.plain.goroutines t ≡ Some (x.frame ∷ x.callers)
  at_t =
      let y = get_some s.plain.goroutines t
      (let l = slice_get_within s.holders t k there in let e = good.good.fine.as_many in omega (arith, l, e)) in
      y.1 ∙ ap Some (sym (ap frames_in y.1) ∙ x.at)

  ready_r : IsReady code s r b.h b.frame b.callers instr
  ready_r = ready_now code page_words checked slot_of addresses [] s good running records all r c is_c w ws instr b

  ready_t : IsReady code s t k x.frame x.callers x.instr
  ready_t = record {
    there = there;
    at = at_t;
    cur = x.cur;
    none = owes;
    free = ap may_go standing;
    live = touched_live code s t k x.frame x.callers x.instr checked good.good there at_t x.cur;
    running = running;
  }

  abbrev receiver_frame : TacFrame
  receiver_frame = frame_after_instr b.frame to (value_at x.frame x.sent)

  abbrev sender_frame : TacFrame
  sender_frame = frame_after_instr x.frame x.to value.Nil

  abbrev next : TacState
  next = met_with s.plain r t (receiver_frame ∷ b.callers) (sender_frame ∷ x.callers)

  stands_r : tac_stand (erased code) b.frame
      ≡ AtReceive (value.Object o) (zero_of (destination_type (erased code) b.frame to)) (frame_after_instr b.frame to)
  stands_r =
      ap (stand_at_instr (erased code) b.frame) (current_erased code b.frame ∙ ap (option_map erased_instr) b.cur)
      ∙ ap (λ (op : CodeOp). stand_before_op (erased code) b.frame (erased_op op) instr.place) is
      ∙ ap (λ v. AtReceive v (zero_of (destination_type (erased code) b.frame to)) (frame_after_instr b.frame to)) at_channel

  stands_t : tac_stand (erased code) x.frame
      ≡ AtSend (value.Object o) (value_at x.frame x.sent) x.instr.place (frame_after_instr x.frame x.to value.Nil)
  stands_t =
      ap (stand_at_instr (erased code) x.frame) (current_erased code x.frame ∙ ap (option_map erased_instr) x.cur)
      ∙ ap (λ (op : CodeOp). stand_before_op (erased code) x.frame (erased_op op) x.instr.place) x.is
      ∙ ap (λ v. AtSend v (value_at x.frame x.sent) x.instr.place (frame_after_instr x.frame x.to value.Nil)) x.channel_is

  meets : plain_step code s.plain (Meet r t) ≡ Some next
  meets =
      ap (λ e. unless_ended e (picked (tac (erased code)) s.plain (Meet r t))) running
      ∙ ap (λ e. if e then None else meet (tac (erased code)) s.plain r t) (other_numbers r t apart)
      ∙ ap (option_and_then (λ f. option_and_then (met_by (tac (erased code)) s.plain r t f) (slice_get s.plain.goroutines t))) b.at
      ∙ ap (option_and_then (met_by (tac (erased code)) s.plain r t (b.frame ∷ b.callers))) at_t
      ∙ ap (λ (f : Stand TacFrame). met s.plain r t b.callers x.callers f (tac_stand (erased code) x.frame)) stands_r
      ∙ ap (met s.plain r t b.callers x.callers (AtReceive (value.Object o) (zero_of (destination_type (erased code) b.frame to)) (frame_after_instr b.frame to))) stands_t
      ∙ ap (λ e. if (if e then is_meeting_at (slice_get s.plain.memory.heap o) else false) then Some next else None)
      (same_numbers o o refl)
      ∙ ap (λ e. if e then Some next else None) open_there

  abbrev met_state : RegionState
  met_state = record s {
    plain = plain_after s next;
    holders =
        slice_set (slice_set s.holders r (side_after code b.h (frames_of s.plain r) (frames_of next r)))
        t (record (side_after code k (frames_of s.plain t) (frames_of next t)) { offer = taken_offer k.offer });
    steps = s.steps + 1;
    mark = mark_with_end s.mark next.ended;
  }

  steps : region_step code page_words s (Instruct (Meet r t)) ≡ Some met_state
  steps =
      ap (option_and_then (instruct code page_words s (Meet r t))) meets
      ∙ ap (λ h. both_instructed code s r t h (slice_get s.holders t) next) b.there
      ∙ ap (λ h. both_instructed code s r t (Some b.h) h next) there
      ∙ ap (λ e. if e && is_ready code s k (frames_of s.plain t) && standing_at k.offer then Some met_state else None)
      (ap (is_ready code s b.h) (ap frames_in b.at) ∙ ready_test ready_r)
      ∙ ap (λ e. if e && standing_at k.offer then Some met_state else None)
      (ap (is_ready code s k) (ap frames_in at_t) ∙ ready_test ready_t)
      ∙ ap (λ e. if e then Some met_state else None) (ap standing_at standing)

  -- ---- what it leaves

  old_r : slice_get (slice_set s.plain.goroutines r (receiver_frame ∷ b.callers)) t ≡ Some (x.frame ∷ x.callers)
  old_r = get_set_other s.plain.goroutines r t (receiver_frame ∷ b.callers) apart_test ∙ at_t

  new_t : slice_get next.goroutines t ≡ Some (sender_frame ∷ x.callers)
  new_t = get_set_same (slice_set s.plain.goroutines r (receiver_frame ∷ b.callers)) t (x.frame ∷ x.callers)
      (sender_frame ∷ x.callers) old_r

  new_r : slice_get next.goroutines r ≡ Some (receiver_frame ∷ b.callers)
  new_r =
      get_set_other (slice_set s.plain.goroutines r (receiver_frame ∷ b.callers)) t r (sender_frame ∷ x.callers)
      (nat_ne_sym r t apart_test)
      ∙ get_set_same s.plain.goroutines r (b.frame ∷ b.callers) (receiver_frame ∷ b.callers) b.at

  abbrev receiver_after : Holder
  receiver_after = holder_after code b.h b.frame b.callers instr.op (receiver_frame ∷ b.callers)

  abbrev sender_after : Holder
  sender_after = record (holder_after code k x.frame x.callers x.instr.op (sender_frame ∷ x.callers)) { offer = Taken o }

  side_is : (h : Holder) (frame : TacFrame) (callers : List TacFrame) (i : CodeInstr) (g : ℕ) (fs : List TacFrame)
      → slice_get s.plain.goroutines g ≡ Some (frame ∷ callers) → current code frame ≡ Some i
      → slice_get next.goroutines g ≡ Some fs
      → side_after code h (frames_of s.plain g) (frames_of next g) ≡ holder_after code h frame callers i.op fs
  side_is h frame callers i g fs at cur new =
      (λ j. side_after code h (ap frames_in at j) (ap frames_in new j)) ∙ ap (side_by code h frame callers fs) cur

  holders_are : met_state.holders ≡ slice_set (slice_set s.holders r receiver_after) t sender_after
  holders_are =
      (λ j. slice_set (slice_set s.holders r (side_is b.h b.frame b.callers instr r (receiver_frame ∷ b.callers) b.at b.cur new_r j)) t
      (record (side_is k x.frame x.callers x.instr t (sender_frame ∷ x.callers) at_t x.cur new_t j) { offer = ap taken_offer standing j }))

  there_t : slice_get met_state.holders t ≡ Some sender_after
  there_t = ap (λ hs. slice_get hs t) holders_are
      ∙ get_set_same (slice_set s.holders r receiver_after) t k sender_after
      (get_set_other s.holders r t receiver_after apart_test ∙ there)

  there_r : slice_get met_state.holders r ≡ Some receiver_after
  there_r = ap (λ hs. slice_get hs r) holders_are
      ∙ get_set_other (slice_set s.holders r receiver_after) t r sender_after (nat_ne_sym r t apart_test)
      ∙ get_set_same s.holders r b.h receiver_after b.there

  -- ---- the records

  abbrev got : FramesRec
  got = after_action code c w ws instr to word

  receiver_shows : FramesShow code addresses (receiver_frame ∷ b.callers) (word_going w to word ∷ ws)
  receiver_shows = (
    going_word code addresses b.frame w instr b.cur b.newest to Recv (channel ∷ []) removes is (value_at x.frame x.sent) word shows,
    b.waiting,
  )

  receiver_stands : IsShown code slot_of addresses (receiver_frame ∷ b.callers) receiver_after got
  receiver_stands = record {
    calm = ap may_go (after_offer code b.h b.frame b.callers instr.op (receiver_frame ∷ b.callers)) ∙ b.free;
    shown = receiver_shows;
    holder =
        ap (λ (h : Holder). holder_after code h (bare w) (bare_all ws) instr.op (bare_all (word_going w to word ∷ ws))) b.holder
        ∙ sym (after_slot slot_of code addresses b.h b.frame b.callers w ws b.waiting (receiver_frame ∷ b.callers) addresses
        (word_going w to word ∷ ws) receiver_shows instr.op
        (subst (λ (op : CodeOp). removes_behind (bare w) op ≡ removes_behind b.frame op) (sym is) refl));
  }

  -- the sender is past its send, and its record before it
  sender_past : (d : FramesRec) → RecordFits code slot_of addresses s t d → IsPast code slot_of addresses (sender_frame ∷ x.callers) sender_after d
  sender_past d f = go f.fits
    where
      same : f.h ≡ k
      same = same_Some f.h k (sym f.there ∙ there)

      frames_same : f.frames ≡ x.frame ∷ x.callers
      frames_same = same_Some f.frames (x.frame ∷ x.callers) (sym f.at ∙ at_t)

      go : IsShown code slot_of addresses f.frames f.h d ⊎ IsPast code slot_of addresses f.frames f.h d
          → IsPast code slot_of addresses (sender_frame ∷ x.callers) sender_after d
      go (inr past) = absurd (past_standing code slot_of addresses f.frames f.h d o (ap (λ (h : Holder). h.offer) same ∙ standing) past)
      go (inl shown) = record {
        frame = x.frame;
        callers = x.callers;
        before = k;
        instr = x.instr;
        at = x.cur;
        to = x.to;
        channel = x.channel;
        sent = x.sent;
        removes = x.removes;
        is = x.is;
        offer = o;
        owes_nothing = owes;
        stood = standing;
        frames_are = refl;
        holder_is = refl;
        shown = subst (λ h. IsShown code slot_of addresses (x.frame ∷ x.callers) h d) same
            (subst (λ fs. IsShown code slot_of addresses fs f.h d) frames_same shown);
      }

  each_fits : (j : ℕ) (d : FramesRec) → slice_get (slice_set records r got) j ≡ Some d → RecordFits code slot_of addresses met_state j d
  each_fits j d q = split (nat_eq t j) (λ y. is_sender (eq_of t j y)) (λ n. split (nat_eq r j) (λ y. is_receiver (eq_of r j y)) (λ m. is_other n m))
    where
      is_sender : t ≡ j → RecordFits code slot_of addresses met_state j d
      is_sender e =
          subst (λ i. RecordFits code slot_of addresses met_state i d) e (record {
            frames = sender_frame ∷ x.callers;
            at = new_t;
            h = sender_after;
            there = there_t;
            fits = inr (sender_past d (all.each t d
                (sym (get_set_other records r t got apart_test) ∙ ap (slice_get (slice_set records r got)) e ∙ q)));
          })

      is_receiver : r ≡ j → RecordFits code slot_of addresses met_state j d
      is_receiver e =
          subst (λ i. RecordFits code slot_of addresses met_state i d) e
          (subst (RecordFits code slot_of addresses met_state r)
          (same_Some got d (sym (get_set_same records r c got is_c) ∙ ap (slice_get (slice_set records r got)) e ∙ q))
          (record {
            frames = receiver_frame ∷ b.callers;
            at = new_r;
            h = receiver_after;
            there = there_r;
            fits = inl receiver_stands;
          }))

      is_other : nat_eq t j ≡ false → nat_eq r j ≡ false → RecordFits code slot_of addresses met_state j d
      is_other n m =
          let f = all.each j d (sym (get_set_other records r j got m) ∙ q) in
          record {
            frames = f.frames;
            at = get_set_other (slice_set s.plain.goroutines r (receiver_frame ∷ b.callers)) t j (sender_frame ∷ x.callers) n
                ∙ get_set_other s.plain.goroutines r j (receiver_frame ∷ b.callers) m ∙ f.at;
            h = f.h;
            there = ap (λ hs. slice_get hs j) holders_are
                ∙ get_set_other (slice_set s.holders r receiver_after) t j sender_after n
                ∙ get_set_other s.holders r j receiver_after m ∙ f.there;
            fits = f.fits;
          }

  pub met_fits : HasStep code page_words slot_of addresses s (Instruct (Meet r t)) s.regions s.mark (slice_set records r got)
  met_fits =
      has_step code page_words slot_of addresses s (Instruct (Meet r t)) s.regions s.mark (slice_set records r got) met_state
      steps
      (record {
        as_many = length_set records r got ∙ all.as_many ∙ sym (ap length holders_are
            ∙ length_set (slice_set s.holders r receiver_after) t sender_after ∙ length_set s.holders r receiver_after);
        each = each_fits;
        laid = all.laid;
        slots_differ = all.slots_differ;
        addresses_differ = all.addresses_differ;
      })
      (record { memory = refl; printed = print_stays s.mark s.plain.printed; owners = refl; global_pages = refl })
      refl (ap (mark_with_end s.mark) running ∙ mark_stays s.mark) refl

pub meet_law : FrameMeetLaw
meet_law x t to channel removes o word k free is at_channel open_there there standing shows =
    let y = x.here in
    let f : OfferFits y.code y.s t k (Standing o) =
    subst (OfferFits y.code y.s t k) standing (y.sound.good.offers.fits t k there) in
    met_fits y.code y.page_words y.sound.checked y.slot_of y.addresses y.s y.sound.good y.sound.running y.records y.all y.g t
    y.c y.is_c x.w x.ws x.instr x.before to channel removes is o at_channel open_there k there standing word f.2 f.0
    (shows f.2) (no_offer x.before.h.offer (ap (λ (h : Holder). h.offer) (sym x.before.holder) ∙ free))

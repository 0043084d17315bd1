-- The region machine's steps of offers, and of two that meet, computed forward, test by test as in `Forward`.
use Rattle.std.proofs.Common.{◌≡◌, ◌≢◌, ℕ, suc, ◌+◌, ◌==◌, Bool, true, false, not, ◌&&◌, ◌||◌, List, [], ◌∷◌, ◌++◌, map, Some, None}
use Rattle.std.proofs.Common.{refl, ap, sym, ◌∙◌, slice_get, slice_set, if◌then◌else◌, option_and_then}
use Rattle.std.specs.List.{list_any}
use Rattle.rgo_sound.specs.Typed.declared.actions.Action.{Action}
use Rattle.rgo_sound.specs.Typed.declared.actions.Action.TheVariants.{Recv, Send}
use Rattle.rgo_sound.specs.Memory.Channels.{is_meeting_at, meets_at}
use Rattle.rgo_sound.specs.Memory.Memory.{Memory}
use Rattle.rgo_sound.specs.Memory.declared.values.Value.{Value}
use Rattle.rgo_sound.specs.Memory.declared.values.Value.TheVariants as value
use Rattle.rgo_sound.specs.Machine.declared.picks.Pick.TheVariants.{Meet}
use Rattle.rgo_sound.specs.Machine.Machines.{AtReceive, picked, meet, met, met_by, unless_ended, with_frames}
use Rattle.rgo_sound.specs.Tac.Frames.{TacFrame, frame_after_instr}
use Rattle.rgo_sound.specs.Tac.Steps.{tac_stand}
use Rattle.rgo_sound.specs.Tac.Tac.{TacState, tac}
use Rattle.rgo_sound.specs.Code.Code.{Code}
use Rattle.rgo_sound.specs.Code.Erasure.{erased}
use Rattle.rgo_sound.specs.RegionMachine.Duties.{may_go, attended}
use Rattle.rgo_sound.specs.RegionMachine.Instructions.{is_ready, holder_after, side_by, side_after, standing_at, taken_offer}
use Rattle.rgo_sound.specs.RegionMachine.Instructions.{both_instructed, instruct, mark_with_end, plain_after}
use Rattle.rgo_sound.specs.RegionMachine.Machine.{MakeOffer, Acknowledge, Instruct, region_step, plain_step}
use Rattle.rgo_sound.specs.RegionMachine.Objects.{may_touch}
use Rattle.rgo_sound.specs.RegionMachine.Offers.{make_offer, offer_at, offer_for, offered, offered_channel, offers_on, open_channel}
use Rattle.rgo_sound.specs.RegionMachine.Offers.{acknowledge}
use Rattle.rgo_sound.specs.RegionMachine.Owed.{next_duties}
use Rattle.rgo_sound.specs.RegionMachine.States.{Holder, NoOffer, Standing, Taken, Remove, RegionState, frames_in, frames_of}
use Rattle.rgo_sound.proofs.Places.{get_set_same}
use Rattle.rgo_sound.proofs.Tests.{ne_of, nat_eq_refl}
use Rattle.rgo_core_channels.specs.Channels.{Chan, IsChan}
use Rattle.rgo_core_channels.specs.After.{after_meeting}
use Rattle.rgo_core_channels.specs.Standing.{Next, passed_frames, passed_holder, blank_of}
use Rattle.rgo_core_channels.proofs.Forward.{ready, stands_is, printed_same, marked_same}
use Rattle.rgo_core_memory.proofs.Rows.{set_else}

pub is_place : (m : Memory) (o : ℕ) (k : Chan) → IsChan m o k → k.closed ≡ false → k.capacity ≡ 0
    → is_meeting_at (slice_get m.heap o) ≡ true
is_place m o k on shut cap = ap is_meeting_at on ∙ (ap (λ b. not b && k.capacity == 0) shut ∙ ap (λ n. n == 0) cap)

pub none_there : (o : ℕ) (hs : List Holder)
    → ((j : ℕ) (h : Holder) → slice_get hs j ≡ Some h → offers_on o h.offer ≡ false)
    → list_any (λ (k : Holder). offers_on o k.offer) hs ≡ false
none_there o [] each = refl
none_there o (h ∷ hs) each =
    go (offers_on o h.offer) (each 0 h refl) (none_there o hs (λ j k e. each (suc j) k e))
  where
    go : (b : Bool) → b ≡ false → list_any (λ (k : Holder). offers_on o k.offer) hs ≡ false
        → (b || list_any (λ (k : Holder). offers_on o k.offer) hs) ≡ false
    go b e f = rw e f

module _ (code : Code) (page_words : ℕ) (s : RegionState) (o : ℕ) (running : s.plain.ended ≡ None)
    (live : may_touch s (Some o) ≡ true) where
  -- an offer is made
  pub offers : (g : ℕ) (v : Value) (n : Next code s g Send (value.Object o ∷ v ∷ []))
      → may_go n.holder.offer ≡ true → is_meeting_at (slice_get s.plain.memory.heap o) ≡ true
      → list_any (λ (k : Holder). offers_on o k.offer) s.holders ≡ false
      → region_step code page_words s (MakeOffer g) ≡ Some (attended s g (record n.holder { offer = Standing o }))
  offers g v n free meeting none =
      ap (option_and_then (λ (h : Holder). make_offer code s g h (frames_of s.plain g))) n.there
      ∙ ap (make_offer code s g n.holder) (ap frames_in n.before.at)
      ∙ ap (λ b. if b then offer_at code s g n.holder n.before.frame else None)
      (ready code page_words s g Send (value.Object o ∷ v ∷ []) n running free live)
      ∙ ap (option_and_then (offer_for s g n.holder n.before.frame)) n.before.cur
      ∙ ap (λ op. option_and_then (offered s g n.holder) (offered_channel s n.before.frame op)) n.before.is
      ∙ ap (λ vs. option_and_then (offered s g n.holder) (open_channel s vs)) n.before.operands
      ∙ ap (λ b. option_and_then (offered s g n.holder) (if b then Some o else None)) meeting
      ∙ ap (λ b. if b then None else Some (attended s g (record n.holder { offer = Standing o }))) none

  -- one that was taken is acknowledged
  pub acknowledges : (g : ℕ) (h : Holder) → slice_get s.holders g ≡ Some h → h.offer ≡ Taken o
      → region_step code page_words s (Acknowledge g) ≡ Some (attended s g (record h { offer = NoOffer }))
  acknowledges g h there taken =
      ap (option_and_then (λ (h : Holder). acknowledge s g h h.offer)) there ∙ ap (acknowledge s g h) taken
      ∙ ap (λ b. if b then Some (attended s g (record h { offer = NoOffer })) else None) live

  -- the duties of one side afterwards
  side_is : (g : ℕ) (action : Action) (operands : List Value) (n : Next code s g action operands) (after : List TacFrame)
      → side_after code n.holder (frames_of s.plain g) after
      ≡ record n.holder { duties = map Remove n.before.removes ++ next_duties code after }
  side_is g action operands n after =
      ap (λ f. side_after code n.holder f after) (ap frames_in n.before.at)
      ∙ ap (side_by code n.holder n.before.frame n.before.callers after) n.before.cur
      ∙ ap (λ op. holder_after code n.holder n.before.frame n.before.callers op after) n.before.is

  -- two meet
  pub meets : (r t : ℕ) (v : Value) (n : Next code s r Recv (value.Object o ∷ []))
      (k : Next code s t Send (value.Object o ∷ v ∷ [])) → r ≢ t → may_go n.holder.offer ≡ true
      → k.holder.offer ≡ Standing o → is_meeting_at (slice_get s.plain.memory.heap o) ≡ true
      → region_step code page_words s (Instruct (Meet r t)) ≡ Some (after_meeting o n k v)
  meets r t v n k ne free standing meeting =
      ap (option_and_then (instruct code page_words s (Meet r t))) steps
      ∙ ap (λ h. both_instructed code s r t h (slice_get s.holders t) next) n.there
      ∙ ap (λ h. both_instructed code s r t (Some n.holder) h next) k.there
      ∙ ap (λ b. if b then Some done else None) all_true ∙ ap Some is
    where
      next : TacState
      next = with_frames (with_frames s.plain r (passed_frames n v)) t (passed_frames k value.Nil)

      meets' : meets_at s.plain.memory (value.Object o) (value.Object o) ≡ true
      meets' = ap (λ b. if b then is_meeting_at (slice_get s.plain.memory.heap o) else false) (nat_eq_refl o) ∙ meeting

      steps : plain_step code s.plain (Meet r t) ≡ Some next
      steps =
          ap (λ e. unless_ended e (picked (tac (erased code)) s.plain (Meet r t))) running
          ∙ ap (λ b. if b then None else meet (tac (erased code)) s.plain r t) (ne_of r t ne)
          ∙ ap (option_and_then (λ f. option_and_then (met_by (tac (erased code)) s.plain r t f)
          (slice_get s.plain.goroutines t))) n.before.at
          ∙ ap (option_and_then (met_by (tac (erased code)) s.plain r t (n.before.frame ∷ n.before.callers))) k.before.at
          ∙ ap (λ q. met s.plain r t n.before.callers k.before.callers q (tac_stand (erased code) k.before.frame))
          (stands_is code s r Recv (value.Object o ∷ []) n.before)
          ∙ ap (met s.plain r t n.before.callers k.before.callers
          (AtReceive (value.Object o) (blank_of n.before) (frame_after_instr n.before.frame n.before.to)))
          (stands_is code s t Send (value.Object o ∷ v ∷ []) k.before)
          ∙ ap (λ b. if b then Some next else None) meets'

      side_r : Holder
      side_r = side_after code n.holder (frames_of s.plain r) (frames_of next r)

      side_t : Holder
      side_t = side_after code k.holder (frames_of s.plain t) (frames_of next t)

      done : RegionState
      done = record s {
        plain = plain_after s next;
        holders =
            slice_set (slice_set s.holders r side_r) t (record side_t { offer = taken_offer k.holder.offer });
        steps = s.steps + 1;
        mark = mark_with_end s.mark s.plain.ended;
      }

      all_true : (is_ready code s n.holder (frames_of s.plain r) && is_ready code s k.holder (frames_of s.plain t)
          && standing_at k.holder.offer) ≡ true
      all_true =
          ap (λ f. is_ready code s n.holder f && is_ready code s k.holder (frames_of s.plain t)
          && standing_at k.holder.offer) (ap frames_in n.before.at)
          ∙ ap (λ b. b && is_ready code s k.holder (frames_of s.plain t) && standing_at k.holder.offer)
          (ready code page_words s r Recv (value.Object o ∷ []) n running free live)
          ∙ ap (λ f. is_ready code s k.holder f && standing_at k.holder.offer) (ap frames_in k.before.at)
          ∙ ap (λ b. b && standing_at k.holder.offer)
          (ready code page_words s t Send (value.Object o ∷ v ∷ []) k running (ap may_go standing) live)
          ∙ ap standing_at standing

      there_r : frames_of next r ≡ passed_frames n v
      there_r = ap frames_in (set_else (slice_set s.plain.goroutines r (passed_frames n v)) t r (passed_frames k value.Nil) ne
          ∙ get_set_same s.plain.goroutines r (n.before.frame ∷ n.before.callers) (passed_frames n v) n.before.at)

      there_t : frames_of next t ≡ passed_frames k value.Nil
      there_t = ap frames_in (get_set_same (slice_set s.plain.goroutines r (passed_frames n v)) t
          (k.before.frame ∷ k.before.callers) (passed_frames k value.Nil)
          (set_else s.plain.goroutines r t (passed_frames n v) (λ e. ne (sym e)) ∙ k.before.at))

      side_r_is : side_r ≡ passed_holder n v
      side_r_is = side_is r Recv (value.Object o ∷ []) n (frames_of next r)
          ∙ ap (λ f. record n.holder { duties = map Remove n.before.removes ++ next_duties code f }) there_r

      side_t_is : side_t ≡ passed_holder k value.Nil
      side_t_is = side_is t Send (value.Object o ∷ v ∷ []) k (frames_of next t)
          ∙ ap (λ f. record k.holder { duties = map Remove k.before.removes ++ next_duties code f }) there_t

      is : done ≡ after_meeting o n k v
      is = λ i. record s {
        plain = record next { printed = printed_same s.mark s.plain.printed i; ended = None };
        holders =
            slice_set (slice_set s.holders r (side_r_is i)) t
            (record (side_t_is i) { offer = ap taken_offer standing i });
        steps = s.steps + 1;
        mark = (ap (mark_with_end s.mark) running ∙ marked_same s.mark) i;
      }

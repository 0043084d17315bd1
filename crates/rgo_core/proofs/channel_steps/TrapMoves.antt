-- Traps at channels: the instruction of the region machine traps, and the end is set in the clock. That the channel is closed in the state
-- of the access follows from the image: a record that found it closed is right.
use Rattle.std.proofs.Common.{◌≡◌, ◌⊎◌, ℕ, true, List, [], ◌∷◌, Option, Some, map, option_map, slice_get, slice_set, slice_index, refl, ap, sym, subst, ◌∙◌, inl, inr}
use Rattle.std.proofs.lemmas.Option.{same_Some}
use Rattle.rgo_sound.specs.Typed.declared.actions.Action.{Action}
use Rattle.rgo_sound.specs.Typed.declared.actions.Action.TheVariants.{Close, Send}
use Rattle.rgo_sound.specs.Typed.declared.types.Type.{«Type»}
use Rattle.rgo_sound.specs.WellFormed.TypeRules.{chan_of}
use Rattle.rgo_sound.specs.Memory.Effects.{Effect, Traps}
use Rattle.rgo_sound.specs.Memory.declared.traps.Trap.{Trap}
use Rattle.rgo_sound.specs.Memory.declared.traps.Trap.TheVariants.{CloseClosed, CloseNil, SendClosed}
use Rattle.rgo_sound.specs.Memory.declared.values.Value.{Value}
use Rattle.rgo_sound.specs.Memory.declared.values.Value.TheVariants as value
use Rattle.rgo_sound.specs.Machine.declared.picks.End.TheVariants as the_end
use Rattle.rgo_sound.specs.Machine.declared.picks.Pick.TheVariants.{One}
use Rattle.rgo_sound.specs.Tac.Frames.{value_at, operand_values}
use Rattle.rgo_sound.specs.Tac.Steps.{destination_type}
use Rattle.rgo_sound.specs.Code.Code.{CodeInstr, Do}
use Rattle.rgo_sound.specs.Code.Erasure.{erased, erased_fn}
use Rattle.rgo_sound.specs.Code.Types.{VariableHasType}
use Rattle.rgo_sound.specs.RegionMachine.Duties.{may_go}
use Rattle.rgo_sound.specs.RegionMachine.Instructions.{mark_with_end}
use Rattle.rgo_sound.specs.RegionMachine.Machine.{Instruct}
use Rattle.rgo_sound.specs.RegionMachine.Owed.{current}
use Rattle.rgo_sound.specs.RegionMachine.States.{Ended, Holder, RegionState, Standing}
use Rattle.rgo_sound.proofs.steps.Acting.{performed, silent, trap_place}
use Rattle.rgo_sound.proofs.Places.{contains_here, head_is}
use Rattle.rgo_core_channels.specs.After.{after_trap}
use Rattle.rgo_core_channels.specs.Channels.{Chan, OfferOf, On, holder_offer}
use Rattle.rgo_core_channels.specs.Moments.{GoroutineTraps as ChannelTraps}
use Rattle.rgo_core_channels.specs.Records.{Shut, Stranded}
use Rattle.rgo_core_channels.specs.Standing.{Next}
use Rattle.rgo_core_channels.proofs.Live.{first_type}
use Rattle.rgo_core_channels.proofs.Operations.{close_traps, send_traps}
use Rattle.rgo_core_channels.proofs.Steps.{one_place}
use Rattle.rgo_core_channels.proofs.Traps.{close_nil_is, close_trap_is, send_trap_is}
use Rattle.rgo_core_frames.specs.Fits.{RecordsFit, RecordFits, IsPast, IsShown}
use Rattle.rgo_core_frames.specs.regions.Slots.{slot_duties}
use Rattle.rgo_core_frames.specs.States.{AtInstruction}
use Rattle.rgo_core_frames.specs.steps.Bookkept.{RegionStepsTo}
use Rattle.rgo_core_frames.specs.shown.WordFrames.{frame_word}
use Rattle.rgo_core_frames.proofs.Before.{before_law}
use Rattle.rgo_core_frames.proofs.goroutines.Ending.{trap_law}
use Rattle.rgo_core_memory.proofs.image.Elsewhere.{ground_keeps}
use Rattle.rgo_core.specs.ties.AtChannels.{Operates}
use Rattle.rgo_core.specs.moves.Clock.{EndsRunNext}
use Rattle.rgo_core.specs.moves.Commits.{IsAtSend}
use Rattle.rgo_core.specs.Core.{Situation, Setup, layout}
use Rattle.rgo_core.specs.Image.{Image}
use Rattle.rgo_core.specs.Next.{IsAtOp}
use Rattle.rgo_core.specs.Records.{Record, frame_of, memory_of, side_of}
use Rattle.rgo_core.specs.moves.ChannelTraps.{CloseNilMove, CloseTrapMove, SendTrapMove, StrandedMove, trapped_record}
use Rattle.rgo_core.proofs.channel_steps.AtChannels.{calm, here, live, next, object, place_is, points_to, same_operands, standing_or_taken}
use Rattle.rgo_core.proofs.steps.Operands as operands
use Rattle.rgo_core.proofs.image.Standing.{at_instruction, frame_at, frames_here, image_same, side_at}
use Rattle.rgo_core.specs.ties.Moments.{moment}
use Rattle.rgo_core.proofs.clock.Traps.{by_ends, trap_ends}

module _ {T : Setup} {g : ℕ} {c : Record} (x : Situation T g c) (trap : Trap) (place : ℕ) (kept : ChannelTraps (moment x) g trap place)
    (F : RegionStepsTo (frames_here x) (Instruct (One g)) x.s.regions (mark_with_end x.s.mark (Some (the_end.Trap trap place))) (map frame_of x.recs)) where
  abbrev t : RegionState
  t = after_trap x.s trap place

  same : F.state ≡ t
  same = same_Some F.state t (sym F.steps ∙ kept.0)

  after : Image T.code (layout T) x.words x.recs t
  after = record {
    places = x.core.image.places;
    at = x.core.image.at;
    addresses = x.core.image.addresses;
    addressed = x.core.image.addressed;
    frames = subst (λ (u : RegionState). RecordsFit T.code x.core.image.places.slot x.core.image.addresses u (map frame_of x.recs)) same F.fit;
    memory = ground_keeps (layout T) x.words (map memory_of x.recs) x.s t x.core.image.places refl x.core.image.memory;
    channels = kept.1;
  }

  ends : EndsRunNext x (Ended (the_end.Trap trap place)) (trapped_record c (slice_index x.words 0) trap place)
  ends =
      let d = trapped_record c (slice_index x.words 0) trap place in
      trap_ends x trap place F
      (subst (Image T.code (layout T) x.words (slice_set x.recs g d)) (sym same)
      (image_same T.code (layout T) x.words x.recs t after g c d x.is_c refl refl refl))

module _ {T : Setup} {g : ℕ} {c : Record} (x : Situation T g c) {to : Option ℕ} {action : Action} {others : List ℕ} {at : ℕ}
    (a : Operates T c to action others at) where
  -- the channel was found closed, and is closed
  is_shut : c.side.saw ≡ Shut at → (k : Chan) × On x.s (object x a) k × (k.closed ≡ true)
  is_shut saw =
      let q = x.core.image.channels.saws g at c.side (side_at x) saw in
      let l = live x a in
      let same : q.0 ≡ object x a =
      one_place T.code (moment x).page_words (moment x).encode (moment x).place (moment x).cell x.words (map side_of x.recs) x.s x.core.image.at x.core.image.channels
      q.0 (object x a) q.1 l.0 q.2 l.1 (q.3 ∙ sym (place_is x a)) in
      (q.1, subst (λ o. On x.s o q.1) same q.2, q.4)

  -- the region machine has the trap of the action
  trap_step : (trap : Trap) → performed T.code.structs action (destination_type (erased T.code) (here x a).before.frame to)
      (value.Object (object x a) ∷ operand_values (here x a).before.frame others) x.s.plain.memory ≡ Some (Traps trap)
      → RegionStepsTo (frames_here x) (Instruct (One g)) x.s.regions
      (mark_with_end x.s.mark (Some (the_end.Trap trap (trap_place action a.here.instr.place)))) (map frame_of x.recs)
  trap_step trap does =
      trap_law (here x a) to action (a.channel ∷ others) a.removes trap a.here.is
      (ap (λ (u : Value). performed T.code.structs action (destination_type (erased T.code) (here x a).before.frame to)
      (u ∷ operand_values (here x a).before.frame others) x.s.plain.memory) (points_to x a).is ∙ does)

pub send_trap_move : SendTrapMove
send_trap_move T g c to sent at a saw =
    by_ends T g c SendClosed a.here.instr.place (λ x.
    let v = value_at (here x a).before.frame sent in
    let K = send_trap_is (moment x) g c.side (side_at x) (object x a) v (next x a)
    (inl (calm x a.here, saw ∙ ap Shut (sym (place_is x a)))) in
    let s = is_shut x a saw in
    ends x SendClosed a.here.instr.place K
    (trap_step x a SendClosed (ap (option_map silent) (send_traps x.s.plain.memory (object x a) s.0 s.1.0 v s.2))))

pub close_trap_move : CloseTrapMove
close_trap_move T g c to at a saw =
    by_ends T g c CloseClosed a.here.instr.place (λ x.
    let K = close_trap_is (moment x) g c.side (side_at x) (object x a) (next x a) (calm x a.here)
    (saw ∙ ap Shut (sym (place_is x a))) in
    let s = is_shut x a saw in
    ends x CloseClosed a.here.instr.place K
    (trap_step x a CloseClosed (ap (λ (e : Effect). Some (silent e)) (close_traps x.s.plain.memory (object x a) s.0 s.1.0 s.2))))

-- ---- a close of nil

module _ {T : Setup} {g : ℕ} {c : Record} (x : Situation T g c) {to : Option ℕ} {channel : ℕ} {removes : List ℕ}
    (a : IsAtOp T.code c (Do to Close (channel ∷ []) removes)) (nil : frame_word a.w channel ≡ 0) where
  typed : (t : «Type») × VariableHasType (erased_fn a.fn) channel (chan_of t)
  typed =
      let t = operands.rule x to Close (channel ∷ []) removes a in
      let f = first_type T.code x.core.sound.checked x.s g x.core.sound.good Close (inr (inr refl)) a.fn to t.0 t.2 in (
        f.0,
        head_is (slice_get (erased_fn a.fn).variables channel) (Some (chan_of f.0)) [] (map Some f.1) (t.1 ∙ ap (map Some) f.2),
      )

  is_nil : value_at (at_instruction x a).before.frame channel ≡ value.Nil
  is_nil = operands.nil_there x to Close (channel ∷ []) removes a channel (chan_of typed.0) (contains_here channel []) typed.1 refl nil

  nil_ends : EndsRunNext x (Ended (the_end.Trap CloseNil a.instr.place)) (trapped_record c (slice_index x.words 0) CloseNil a.instr.place)
  nil_ends =
      let b = (at_instruction x a).before in
      let next : Next T.code x.s g Close (value.Nil ∷ []) = record {
        before = record {
          frame = (at_instruction x a).before.frame;
          callers = (at_instruction x a).before.callers;
          at = (at_instruction x a).before.at;
          instr = a.instr;
          cur = (at_instruction x a).before.cur;
          to = to;
          from = channel ∷ [];
          removes = removes;
          is = a.is;
          operands = ap (λ (v : Value). v ∷ []) is_nil;
        };
        holder = (at_instruction x a).before.h;
        there = (at_instruction x a).before.there;
        none = (at_instruction x a).before.none;
      } in
      let K = close_nil_is (moment x) g c.side (side_at x) next (calm x a) in
      ends x CloseNil a.instr.place K
      (trap_law (at_instruction x a) to Close (channel ∷ []) removes CloseNil a.is
      (ap (λ (v : Value). performed T.code.structs Close (destination_type (erased T.code) (at_instruction x a).before.frame to) (v ∷ [])
      x.s.plain.memory) is_nil))

pub close_nil_move : CloseNilMove
close_nil_move T g c to channel removes a nil = by_ends T g c CloseNil a.instr.place (λ x. nil_ends x a nil)

-- ---- a send with an open offer

module _ {T : Setup} {g : ℕ} {c : Record} (x : Situation T g c) (a : IsAtSend T c) (o : ℕ) (k : Chan) (on : On x.s o k) (shut : k.closed ≡ true)
    (v : Value) (n : Next T.code x.s g Send (value.Object o ∷ v ∷ [])) (stands : n.holder.offer ≡ Standing o) where
  offer_of : (h : Holder) → slice_get x.s.holders g ≡ Some h → h.offer ≡ Standing o
  offer_of h e = ap (λ (h : Holder). h.offer) (same_Some h n.holder (sym e ∙ n.there)) ∙ stands

  owes : c.frame.holder.duties ≡ []
  owes = by F.h F.there F.fits
    where
      F : RecordFits T.code x.core.image.places.slot x.core.image.addresses x.s g c.frame
      F = x.core.image.frames.each g c.frame (frame_at x)

      by : (h : Holder) → slice_get x.s.holders g ≡ Some h
          → IsShown T.code x.core.image.places.slot x.core.image.addresses F.frames h c.frame
          ⊎ IsPast T.code x.core.image.places.slot x.core.image.addresses F.frames h c.frame → c.frame.holder.duties ≡ []
      by h e (inl shown) =
          ap (λ (h : Holder). h.duties) shown.holder
          ∙ ap (λ (h : Holder). slot_duties x.core.image.places.slot h.duties) (same_Some h n.holder (sym e ∙ n.there))
          ∙ ap (slot_duties x.core.image.places.slot) n.none
      by h e (inr past) = absurd (standing_or_taken o past.offer (sym (offer_of h e) ∙ ap (λ (h : Holder). h.offer) past.holder_is))

  abbrev at_send : AtInstruction
  at_send = record {
    here = frames_here x;
    w = a.w;
    ws = a.ws;
    instr = a.instr;
    before = before_law (frames_here x) a.w a.ws a.instr a.frames a.cur owes (inr (λ h e. ap may_go (offer_of h e)));
  }

  frame_is : at_send.before.frame ≡ n.before.frame
  frame_is = head_is at_send.before.frame n.before.frame at_send.before.callers n.before.callers
      (same_Some (at_send.before.frame ∷ at_send.before.callers) (n.before.frame ∷ n.before.callers)
      (sym at_send.before.at ∙ n.before.at))

  instr_is : n.before.instr ≡ a.instr
  instr_is = same_Some n.before.instr a.instr (sym n.before.cur ∙ ap (current T.code) (sym frame_is) ∙ at_send.before.cur)

  operands_are : operand_values at_send.before.frame a.from ≡ value.Object o ∷ v ∷ []
  operands_are =
      (λ j. operand_values (frame_is j) (same_operands a.to n.before.to a.from n.before.from a.removes n.before.removes
      (sym a.is ∙ ap (λ (i : CodeInstr). i.op) (sym instr_is) ∙ n.before.is) j)) ∙ n.before.operands

  stranded_ends : ChannelTraps (moment x) g SendClosed n.before.instr.place
      → EndsRunNext x (Ended (the_end.Trap SendClosed a.instr.place)) (trapped_record c (slice_index x.words 0) SendClosed a.instr.place)
  stranded_ends kept =
      let K = subst (λ (i : CodeInstr). ChannelTraps (moment x) g SendClosed i.place) instr_is kept in
      ends x SendClosed a.instr.place K
      (trap_law at_send a.to Send a.from a.removes SendClosed a.is
      (ap (λ (vs : List Value). performed T.code.structs Send (destination_type (erased T.code) at_send.before.frame a.to) vs x.s.plain.memory)
      operands_are ∙ ap (option_map silent) (send_traps x.s.plain.memory o k on.0 v shut)))

pub stranded_move : StrandedMove
stranded_move T g c at a saw =
    by_ends T g c SendClosed a.instr.place (λ x.
    let q = x.core.image.channels.strands g at c.side (side_at x) saw in
    let w = x.core.image.channels.waits q.0 g q.1 q.2 q.5 in
    let r = x.core.image.channels.offers q.0 g q.1 q.2 (subst (λ p. OfferOf p g) (sym q.5) refl) in
    stranded_ends x a q.0 q.1 q.2 q.4 w.0 w.1
    (ap (λ (h : Holder). h.offer) (same_Some w.1.holder r.1 (sym w.1.there ∙ r.3)) ∙ r.5 ∙ ap (holder_offer q.0) q.5)
    (send_trap_is (moment x) g c.side (side_at x) q.0 w.0 w.1 (inr (saw ∙ ap Stranded (sym q.3)))))

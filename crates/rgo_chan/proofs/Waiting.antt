-- Why a goroutine is blocked, by what its operation found. The words are given for one moment; the bound on the values of a buffer, an
-- invariant of the table, turns "full" as the code tests it into "full" as the definition says it.
use Rattle.std.proofs.Common.{◌≡◌, ◌≢◌, ℕ, ◌+◌, ◌%◌, ◌<◌, ◌≤◌, List, ◌∷◌, Option, Some, map, slice_get, slice_index, refl, ap, sym, subst, ◌∙◌, inl, inr, ⊎_elim, arith, Contains}
use Rattle.rgo_sound.specs.Code.Code.{CodeOp, Do}
use Rattle.rgo_sound.specs.Code.Erasure.{erased_fn, erased_op}
use Rattle.rgo_sound.specs.Code.Types.{VariableHasType}
use Rattle.rgo_sound.specs.Memory.declared.values.Value.TheVariants as value
use Rattle.rgo_sound.specs.Memory.declared.values.Value.{Value}
use Rattle.rgo_sound.specs.Tac.Flow.{reads}
use Rattle.rgo_sound.specs.Tac.Frames.{value_at, operand_values}
use Rattle.rgo_sound.specs.Typed.declared.actions.Action.{Action}
use Rattle.rgo_sound.specs.Typed.declared.types.Type.{«Type»}
use Rattle.rgo_sound.specs.WellFormed.TypeRules.{chan_of}
use Rattle.rgo_core.proofs.Channels.Live.{first_type}
use Rattle.rgo_core.proofs.Channels.Locks.{shown}
use Rattle.rgo_core.specs.Channels.Channels.{phase_number}
use Rattle.rgo_core.specs.Channels.Controls.{closed_of, count_of}
use Rattle.rgo_core.specs.Channels.Deadlock as why
use Rattle.rgo_core.specs.Channels.Deadlock.{capacity_at, control_at}
use Rattle.rgo_core.specs.Channels.Standing.{IsOfChannel}
use Rattle.rgo_core.proofs.Frames.shown.Operands.{pointer_law}
use Rattle.rgo_core.specs.Frames.shown.WordFrames.{frame_word}
use Rattle.rgo_core.specs.Memory.Accesses.{Before}
use Rattle.rgo_sound.proofs.Places.{contains_here}
use Rattle.rgo_core.proofs.channel_steps.AtChannels.{at_channel, calm, live, next, object, place_is}
use Rattle.rgo_core.proofs.steps.Operands.{before, rule}
use Rattle.rgo_core.proofs.image.Standing.{at_instruction, side_at}
use Rattle.rgo_core.specs.ties.Moments.{moment}
use Rattle.rgo_core.specs.ties.AtChannels.{Operates}
use Rattle.rgo_core.specs.Core.{Situation, Setup}
use Rattle.rgo_core.specs.Next.{IsAtOp}
use Rattle.rgo_core.specs.Records.{Record}
use Rattle.rgo_chan.specs.Waits.{LockWaits, NilReceiveWaits, NilSendWaits, OfferWaits, ReceiveWaits, SendWaits}

-- ---- on a channel that is not nil

module _ {T : Setup} {g : ℕ} {c : Record} (x : Situation T g c) {to : Option ℕ} {action : Action} {others : List ℕ} {at : ℕ}
    (a : Operates T c to action others at) where
  control_is : control_at (moment x) (object x a) ≡ slice_index x.words at
  control_is = ap (slice_index x.words) (place_is x a)

  capacity_is : capacity_at (moment x) (object x a) ≡ slice_index x.words (at + 1)
  capacity_is = ap (λ b. slice_index x.words (b + 1)) (place_is x a)

  -- a buffer has no more values than cells
  not_over : 0 < capacity_at (moment x) (object x a) → count_of (control_at (moment x) (object x a)) ≤ capacity_at (moment x) (object x a)
  not_over some =
      let on = (live x a).1 in
      let k = (live x a).0 in
      let n = (shown (moment x) g c.side (side_at x) (object x a) k on).1 in
      let cap = x.core.image.channels.capacities (object x a) k on in
      let full = x.core.image.channels.buffered (object x a) k on (omega (arith, cap, some)) in
      let calm_phase : phase_number (x.core.image.at.phase (object x a)) ≡ 0 = ap phase_number full.0 in
      let within = full.1 in
      omega (arith, n, cap, calm_phase, within)

pub send_waits : SendWaits
send_waits T g c x at value size n s cap ctl full = ⊎_elim
    (λ (t : (0 < size) × (size ≤ count_of n)). why.IsFull (object x s.here) (value_at (at_instruction x s.here.here).before.frame s.sent) (calm x s.here.here) (next x s.here)
    (ap closed_of is_n ∙ full.0) (subst (λ z. 0 < z) (sym is_size) t.0)
    (let over = not_over x s.here (subst (λ z. 0 < z) (sym is_size) t.0) in
    let e : count_of (control_at (moment x) (object x s.here)) ≡ count_of n = ap count_of is_n in
    omega (arith, over, e, is_size, t.1)))
    (λ (t : (size ≡ 0) × (0 < count_of n)). why.IsOffered (object x s.here) (value_at (at_instruction x s.here.here).before.frame s.sent) (calm x s.here.here) (next x s.here)
    (ap closed_of is_n ∙ full.0) (is_size ∙ t.0)
    (λ z. let e : count_of n ≡ 0 = ap count_of (sym is_n) ∙ z in omega (arith, e, t.1)))
    full.1
  where
    is_n : control_at (moment x) (object x s.here) ≡ n
    is_n = control_is x s.here ∙ ctl

    is_size : capacity_at (moment x) (object x s.here) ≡ size
    is_size = capacity_is x s.here ∙ cap

pub receive_waits : ReceiveWaits
receive_waits T g c x at size n r cap ctl none = ⊎_elim
    (λ (t : (0 < size) × (count_of n ≡ 0)). why.IsEmpty (object x r.1) (calm x r.1.here) (next x r.1)
    (ap closed_of is_n ∙ none.0) (subst (λ z. 0 < z) (sym is_size) t.0) (ap count_of is_n ∙ t.1))
    (λ (t : (size ≡ 0) × (count_of n ≢ 1)). why.IsNotOffered (object x r.1) (calm x r.1.here) (next x r.1)
    (ap closed_of is_n ∙ none.0) (is_size ∙ t.0) (λ z. t.1 (ap count_of (sym is_n) ∙ z)))
    none.1
  where
    is_n : control_at (moment x) (object x r.1) ≡ n
    is_n = control_is x r.1 ∙ ctl

    is_size : capacity_at (moment x) (object x r.1) ≡ size
    is_size = capacity_is x r.1 ∙ cap

pub offer_waits : OfferWaits
offer_waits T g c x at n own ctl shut one = why.IsWaiting at own (ap closed_of ctl ∙ shut) (ap count_of ctl ∙ one)

pub lock_waits : LockWaits
lock_waits T g c x at n here ctl odd = why.IsLocked at (at_channel x here) (ap (λ z. z % 2) ctl ∙ odd)

-- ---- on nil

head_is : {X : Type 0} (u v : X) (xs ys : List X) → u ∷ xs ≡ v ∷ ys → u ≡ v
head_is u v xs ys e = cc

module _ {T : Setup} {g : ℕ} {c : Record} (x : Situation T g c) {to : Option ℕ} {action : Action} {channel : ℕ} {others removes : List ℕ}
    (of_channel : IsOfChannel action) (a : IsAtOp T.code c (Do to action (channel ∷ others) removes)) (nil : frame_word a.w channel ≡ 0) where
  typed : (t : «Type») × VariableHasType (erased_fn a.fn) channel (chan_of t)
  typed =
      let t = rule x to action (channel ∷ others) removes a in
      let f = first_type T.code x.core.sound.checked x.s g x.core.sound.good action of_channel a.fn to t.0 t.2 in (
        f.0,
        head_is (slice_get (erased_fn a.fn).variables channel) (Some (chan_of f.0))
            (map (slice_get (erased_fn a.fn).variables) others) (map Some f.1) (t.1 ∙ ap (map Some) f.2),
      )

  is_nil : value_at (at_instruction x a).before.frame channel ≡ value.Nil
  is_nil =
      (pointer_law (at_instruction x a) channel (chan_of typed.0) (record {
        fn = a.fn;
        is_fn = a.in_fn;
        read = subst (λ (o : CodeOp). Contains (reads (erased_op o)) channel) (sym a.is) (contains_here channel others);
        typed = typed.1;
      }) refl).0 nil

  pub nil_before : Before T.code x.s g action (value.Nil ∷ operand_values (at_instruction x a).before.frame others)
  nil_before =
      before x to action (channel ∷ others) removes a (value.Nil ∷ operand_values (at_instruction x a).before.frame others)
      (ap (λ (v : Value). v ∷ operand_values (at_instruction x a).before.frame others) is_nil)

pub nil_send_waits : NilSendWaits
nil_send_waits T g c x value b =
    why.SendsOnNil (value_at (at_instruction x b.here).before.frame b.sent) (calm x b.here) (nil_before x (inr (inl refl)) b.here b.on)

pub nil_receive_waits : NilReceiveWaits
nil_receive_waits T g c x b = why.ReceivesOnNil (calm x b.here) (nil_before x (inl refl) b.here b.on)

-- What follows from the record of a goroutine at a channel for the state: the channel, which is in a live region, and the operation. With
-- an offer the frames are of no use, since the sender may be past its send. Then the image of channels has it.
use Rattle.std.proofs.Common.{◌≡◌, inl, inr, ℕ, ◌+◌, List, ◌∷◌, Option, Some, map, slice_get, refl, ap, sym, subst, ◌∙◌, Contains}
use Rattle.std.proofs.lemmas.Option.{same_Some}
use Rattle.rgo_sound.specs.Typed.declared.actions.Action.{Action}
use Rattle.rgo_sound.specs.Typed.declared.types.Type.{«Type»}
use Rattle.rgo_sound.specs.Typed.declared.actions.Action.TheVariants.{Send}
use Rattle.rgo_sound.specs.WellFormed.TypeRules.{chan_of}
use Rattle.rgo_sound.specs.Memory.declared.values.Value.{Value}
use Rattle.rgo_sound.specs.Memory.declared.values.Value.TheVariants as value
use Rattle.rgo_sound.specs.Tac.Flow.{reads}
use Rattle.rgo_sound.specs.Tac.Frames.{value_at, operand_values}
use Rattle.rgo_sound.specs.Code.Code.{CodeOp, Do}
use Rattle.rgo_sound.specs.Code.Erasure.{erased, erased_fn, erased_op}
use Rattle.rgo_sound.specs.Code.Types.{VariableHasType, IsWellTypedOp}
use Rattle.rgo_sound.specs.RegionMachine.States.{Holder, NoOffer, Offer, Standing, Taken}
use Rattle.rgo_sound.proofs.Places.{contains_here, head_is}
use Rattle.rgo_sound.proofs.types.Steps.{types}
use Rattle.rgo_core_channels.specs.Channels.{Accepted, Calm, Chan, Offered, OfferOf, On, Phase, holder_offer}
use Rattle.rgo_core_channels.specs.Records.{Nowhere, Offering, Post}
use Rattle.rgo_core_channels.specs.Standing.{IsAt as IsAtWord, Next}
use Rattle.rgo_core_channels.proofs.Live.{first_type, operand_is_live}
use Rattle.rgo_core_frames.specs.shown.Operands.{PointsTo}
use Rattle.rgo_core_frames.specs.regions.Slots.{nameless}
use Rattle.rgo_core_frames.specs.States.{AtInstruction}
use Rattle.rgo_core_frames.specs.shown.WordFrames.{bare}
use Rattle.rgo_core_frames.proofs.shown.Operands.{pointer_law}
use Rattle.rgo_core_memory.specs.Words.{base}
use Rattle.rgo_core.specs.ties.AtChannels.{IsAtChannel, Operates}
use Rattle.rgo_core.specs.Core.{Situation, Setup, layout}
use Rattle.rgo_core_channels.specs.Positions.{place_at}
use Rattle.rgo_core.specs.Next.{IsAtOp}
use Rattle.rgo_core.specs.Records.{Record}
use Rattle.rgo_core.proofs.image.Standing.{at_instruction, side_at}

no_standing : Standing 0 ≡ NoOffer → ⊥
no_standing e = cc

no_taken : Taken 0 ≡ NoOffer → ⊥
no_taken e = cc

pub standing_or_taken : (o p : ℕ) → Standing o ≡ Taken p → ⊥
standing_or_taken o p e = cc

-- equal sends have the same operands
pub same_operands : (to to' : Option ℕ) (from from' removes removes' : List ℕ)
    → Do to Send from removes ≡ Do to' Send from' removes' → from ≡ from'
same_operands to to' from from' removes removes' e = cc

module _ {T : Setup} {g : ℕ} {c : Record} (x : Situation T g c) where
  -- a record with an offer that the state does not have, or one at a channel
  holder_calm : (h : Offer) → nameless h ≡ NoOffer → (p : Phase) (o : ℕ) → OfferOf p g → h ≡ holder_offer o p → ⊥
  holder_calm h e Calm o own is = own
  holder_calm h e (Offered j) o own is = no_standing (ap nameless (sym is) ∙ e)
  holder_calm h e (Accepted j) o own is = no_taken (ap nameless (sym is) ∙ e)

  -- it has no offer, by its frames
  pub calm : {op : CodeOp} → IsAtOp T.code c op → c.side.post ≡ Nowhere
  calm a = by c.side.post refl
    where
      by : (p : Post) → c.side.post ≡ p → c.side.post ≡ Nowhere
      by Nowhere e = e
      by (Offering w) e =
          let q = x.core.image.channels.posts g w c.side (side_at x) e in
          let r = x.core.image.channels.offers q.0 g q.1 q.2 q.4 in
          let same : r.1 ≡ (at_instruction x a).before.h = same_Some r.1 (at_instruction x a).before.h (sym r.3 ∙ (at_instruction x a).before.there) in
          absurd (holder_calm (at_instruction x a).before.h.offer (ap (λ (h : Holder). h.offer) (sym (at_instruction x a).before.holder) ∙ a.free)
          (x.core.image.at.phase q.0) q.0 q.4 (ap (λ (h : Holder). h.offer) (sym same) ∙ r.5))

  -- the channel of a control word
  pub record Reaches (control : ℕ) : Type 0 where
    pub object : ℕ
    pub chan : Chan
    pub on : On x.s object chan
    pub place_is : place_at (layout T) x.core.image.places object ≡ control

  module _ {to : Option ℕ} {action : Action} {others : List ℕ} {control : ℕ} (a : Operates T c to action others control) where
    abbrev pub here : AtInstruction
    here = at_instruction x a.here

    read : Contains (reads (erased_op a.here.instr.op)) a.channel
    read = subst (λ (o : CodeOp). Contains (reads (erased_op o)) a.channel) (sym a.here.is) (contains_here a.channel others)

    op_fits : IsWellTypedOp (erased T.code) (erased_fn a.here.fn) (erased_op (Do to action (a.channel ∷ others) a.removes))
    op_fits = types T.code x.core.sound.checked (bare a.here.w) a.here.fn a.here.instr a.here.in_fn a.here.cur
        (Do to action (a.channel ∷ others) a.removes) a.here.is

    -- its first operand has a channel's type
    pub channel_type : (t : «Type») × VariableHasType (erased_fn a.here.fn) a.channel (chan_of t)
    channel_type =
        let t = op_fits in
        let f = first_type T.code x.core.sound.checked x.s g x.core.sound.good action a.of_channel a.here.fn to t.0 t.2 in (
          f.0,
          head_is (slice_get (erased_fn a.here.fn).variables a.channel) (Some (chan_of f.0))
              (map (slice_get (erased_fn a.here.fn).variables) others) (map Some f.1)
              (t.1 ∙ ap (map Some) f.2),
        )

    pub points_to : PointsTo x.core.image.addresses x.s here.before.h
        (value_at here.before.frame a.channel) a.address
    points_to =
        (pointer_law here a.channel (chan_of channel_type.0) (record {
          fn = a.here.fn;
          is_fn = a.here.in_fn;
          read = read;
          typed = channel_type.1;
        }) refl).1 a.address a.points

    abbrev pub object : ℕ
    object = points_to.object

    -- the machine is about to perform the operation on it
    abbrev pub next : Next T.code x.s g action (value.Object object ∷ operand_values here.before.frame others)
    next = record {
      before = record {
        frame = here.before.frame;
        callers = here.before.callers;
        at = here.before.at;
        instr = a.here.instr;
        cur = here.before.cur;
        to = to;
        from = a.channel ∷ others;
        removes = a.removes;
        is = a.here.is;
        operands = ap (λ (v : Value). v ∷ operand_values here.before.frame others) points_to.is;
      };
      holder = here.before.h;
      there = here.before.there;
      none = here.before.none;
    }

    abbrev pub live : (k : Chan) × On x.s object k
    live = operand_is_live T.code x.s g action object (operand_values here.before.frame others) x.core.sound.checked
        x.core.sound.good a.of_channel next

    pub place_is : place_at (layout T) x.core.image.places object ≡ control
    place_is = ap (λ n. base (layout T) + n) (sym (x.core.image.addressed object a.address points_to.at)) ∙ sym a.lies

    pub reached : Reaches control
    reached = record { object = object; chan = live.0; on = live.1; place_is = place_is }

    pub at_word : IsAtWord T.code (place_at (layout T) x.core.image.places) x.s g c.side.post control
    at_word = inl (
      calm a.here,
      object,
      place_is,
      (action, a.of_channel, operand_values here.before.frame others, next),
    )

  pub reaches : {control : ℕ} → IsAtChannel T c control → Reaches control
  reaches (inl a) = reached a.3
  reaches {control} (inr e) =
      let q = x.core.image.channels.posts g control c.side (side_at x) e in
      record { object = q.0; chan = q.1; on = q.2; place_is = q.3 }

  pub at_channel : {control : ℕ} → IsAtChannel T c control
      → IsAtWord T.code (place_at (layout T) x.core.image.places) x.s g c.side.post control
  at_channel (inl a) = at_word a.3
  at_channel (inr e) = inr e

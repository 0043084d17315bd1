-- That a channel is in a live region, from region safety: the operand has a channel's type, an instruction may touch its operands, and
-- a goroutine with an open offer is still at its send.
use Rattle.std.proofs.Common.{◌≡◌, ℕ, true, List, [], ◌∷◌, map, Option, Some, None, slice_get, refl, ap, sym, subst, ◌∙◌}
use Rattle.std.proofs.Common.{inl, inr}
use Rattle.rgo_sound.specs.Typed.declared.actions.Action.{Action}
use Rattle.rgo_sound.specs.Typed.declared.actions.Action.TheVariants.{Recv, Send, Close}
use Rattle.rgo_sound.specs.Typed.declared.types.Layer.TheVariants as layer
use Rattle.rgo_sound.specs.Typed.declared.types.Type.{«Type»}
use Rattle.rgo_sound.specs.WellFormed.TypeRules.{chan_of, slice_of}
use Rattle.rgo_sound.specs.Memory.Memory.{Object, StructObject, SliceObject, Channel}
use Rattle.rgo_sound.specs.Memory.declared.values.Value.{Value}
use Rattle.rgo_sound.specs.Memory.declared.values.Value.TheVariants as value
use Rattle.rgo_sound.specs.Tac.Frames.{TacFrame}
use Rattle.rgo_sound.specs.Code.Checked.{IsChecked}
use Rattle.rgo_sound.specs.Code.Code.{Code, CodeFn, Do}
use Rattle.rgo_sound.specs.Code.Erasure.{erased, erased_fn, erased_op}
use Rattle.rgo_sound.specs.Code.Types.{IsWellTypedOp, DoFits}
use Rattle.rgo_sound.specs.RegionMachine.Objects.{may_touch, owner_live, touched, touched_by}
use Rattle.rgo_sound.specs.RegionMachine.States.{Taken, RegionState, frames_in}
use Rattle.rgo_sound.specs.RegionMachine.declared.regions.Region.{Region}
use Rattle.rgo_sound.proofs.names.Stakes.{has_stake}
use Rattle.rgo_sound.proofs.offers.Offers.{touched_home}
use Rattle.rgo_sound.proofs.types.Steps.{types, vars_kinds}
use Rattle.rgo_sound.proofs.Progress.{live_of}
use Rattle.rgo_sound.proofs.types.Actions.{object_of, pointer_no_chan}
use Rattle.rgo_sound.proofs.pointers.Steps.{Top, top_of}
use Rattle.rgo_sound.specs.Good.{AllGood}
use Rattle.rgo_sound.specs.Invariant.{GoodHolder}
use Rattle.rgo_sound.specs.NextNames.{HasStake}
use Rattle.rgo_sound.specs.Offers.{OfferFits}
use Rattle.rgo_sound.specs.Types.{HaveKinds, FramesHaveKinds, ObjectFits}
use Rattle.rgo_core_channels.specs.Channels.{Chan, IsChan, OfferOf, On, channel}
use Rattle.rgo_core_channels.specs.Live.{OperandIsLive, TakenIsLive}
use Rattle.rgo_core_channels.specs.Moments.{Moment}
use Rattle.rgo_core_channels.specs.Records.{ChannelRec, Offering}
use Rattle.rgo_core_channels.specs.Standing.{IsAt, IsOfChannel, Next}

chan_no_slice : (t u : «Type») → chan_of t ≡ slice_of u → ⊥
chan_no_slice t u e =
    let x : layer.Chan ∷ t.layers ≡ layer.Slice ∷ u.layers = ap (λ (t : «Type»). t.layers) e in
    let y : layer.Chan ≡ layer.Slice = cc in cc y

module _ (code : Code) (checked : IsChecked code) (s : RegionState) (g : ℕ) (all : AllGood code s) where
  -- the first operand of an operation on channels is of a channel's type
  pub first_type : (action : Action) → IsOfChannel action → (fn : CodeFn) (to : Option ℕ) (tys : List «Type»)
      → DoFits (erased code) (erased_fn fn) to action tys → (t : «Type») × (rest : List «Type») × (tys ≡ chan_of t ∷ rest)
  first_type action (inl e) fn to tys fits =
      receives to (subst (λ a. DoFits (erased code) (erased_fn fn) to a tys) e fits)
    where
      receives : (to : Option ℕ) → DoFits (erased code) (erased_fn fn) to Recv tys
          → (t : «Type») × (rest : List «Type») × (tys ≡ chan_of t ∷ rest)
      receives None r = absurd r
      receives (Some d) (t, h, r) = (t, [], r)
  first_type action (inr (inl e)) fn to tys fits =
      sends to (subst (λ a. DoFits (erased code) (erased_fn fn) to a tys) e fits)
    where
      sends : (to : Option ℕ) → DoFits (erased code) (erased_fn fn) to Send tys
          → (t : «Type») × (rest : List «Type») × (tys ≡ chan_of t ∷ rest)
      sends (Some d) (t, h, r) = absurd r
      sends None (t, r) = (t, t ∷ [], r)
  first_type action (inr (inr e)) fn to tys fits =
      closes to (subst (λ a. DoFits (erased code) (erased_fn fn) to a tys) e fits)
    where
      closes : (to : Option ℕ) → DoFits (erased code) (erased_fn fn) to Close tys
          → (t : «Type») × (rest : List «Type») × (tys ≡ chan_of t ∷ rest)
      closes (Some d) (t, h, r) = absurd r
      closes None (t, r) = (t, [], r)

  channel_of : (structs : _) (kinds : List «Type») (t : «Type») (object : Object)
      → ObjectFits structs kinds (chan_of t) object → (k : Chan) × (object ≡ channel k)
  channel_of structs kinds t (StructObject cells) (n, is, x, at, h) = absurd (pointer_no_chan n t (sym is))
  channel_of structs kinds t (SliceObject cells) (e, is, h) = absurd (chan_no_slice t e is)
  channel_of structs kinds t (Channel capacity queue closed) h =
      (record { capacity = capacity; queue = queue; closed = closed }, refl)

  module _ (action : Action) (kind : IsOfChannel action) (o : ℕ) (vs : List Value)
      (n : Next code s g action (value.Object o ∷ vs)) where
    abbrev frame : TacFrame
    frame = n.before.frame

    abbrev kinds : List «Type»
    kinds = all.good.typed.kinds

    fits : FramesHaveKinds code kinds (frame ∷ n.before.callers)
    fits = all.good.typed.frames g (frame ∷ n.before.callers) n.before.at

    is_channel : (k : Chan) × IsChan s.plain.memory o k
    is_channel =
        let op : IsWellTypedOp (erased code) (erased_fn fits.0.0) (erased_op (Do n.before.to action n.before.from n.before.removes))
        = types code checked frame fits.0.0 n.before.instr fits.0.1 n.before.cur
        (Do n.before.to action n.before.from n.before.removes) n.before.is in
        let t = first_type action kind fits.0.0 n.before.to op.0 op.2 in
        let h : HaveKinds kinds (chan_of t.0 ∷ t.1) (value.Object o ∷ vs) =
        subst (HaveKinds kinds (chan_of t.0 ∷ t.1)) n.before.operands
        (vars_kinds kinds (erased_fn fits.0.0) frame fits.0.2 n.before.from (chan_of t.0 ∷ t.1)
        (op.1 ∙ ap (map Some) t.2)) in
        let x = object_of code kinds s.plain.memory all.good.typed.memory o (chan_of t.0) h.0.0 in
        there x.0 x.1 (channel_of code.structs kinds t.0 x.0 x.2)
      where
        there : (object : Object) → slice_get s.plain.memory.heap o ≡ Some object → (k : Chan) × (object ≡ channel k)
            → (k : Chan) × IsChan s.plain.memory o k
        there object e (k, is) = (k, e ∙ ap Some is)

    touches_it : (a : Action) → IsOfChannel a → touched_by a (value.Object o ∷ vs) ≡ Some o
    touches_it a (inl e) = ap (λ a. touched_by a (value.Object o ∷ vs)) e
    touches_it a (inr (inl e)) = ap (λ a. touched_by a (value.Object o ∷ vs)) e
    touches_it a (inr (inr e)) = ap (λ a. touched_by a (value.Object o ∷ vs)) e

    is_live_there : may_touch s (Some o) ≡ true
    is_live_there = ap (owner_live s) x.1 ∙ live_of s n.holder x.0 x.2
      where
        top : Top code n.holder frame n.before.callers
        top = top_of code n.holder frame n.before.callers
            (subst (λ f. GoodHolder code f n.holder) (ap frames_in n.before.at)
            (all.good.fine.each g n.holder n.there))

        x : (r : Region) × (slice_get s.owners o ≡ Some r) × HasStake s n.holder r
        x = touched_home code s g n.holder frame n.before.callers n.before.instr top o checked all.good n.there
            (ap frames_in n.before.at) n.before.cur
            (ap (touched frame) n.before.is ∙ (ap (touched_by action) n.before.operands ∙ touches_it action kind))

pub operand_is_live : OperandIsLive
operand_is_live code s g action o vs checked all kind n =
    let c = is_channel code checked s g all action kind o vs n in
    (c.0, (c.1, is_live_there code checked s g all action kind o vs n))

pub taken_is_live : TakenIsLive
taken_is_live code s g o h all there taken =
    let f : OfferFits code s g h (Taken o) = subst (OfferFits code s g h) taken (all.offers.fits g h there) in
    ap (owner_live s) f.1 ∙ live_of s h f.0 (has_stake code s g h f.0 all.good.fine there f.2)

module _ (T : Moment) (g : ℕ) where
  pub live_at : (action : Action) (o : ℕ) (vs : List Value) → Next T.code T.state g action (value.Object o ∷ vs)
      → IsOfChannel action → (k : Chan) × On T.state o k
  live_at action o vs next kind = operand_is_live T.code T.state g action o vs T.checked T.good kind next

  module _ (c : ChannelRec) (mine : slice_get T.recs g ≡ Some c) where
    -- the channel of the goroutine's offer
    pub offered_at : (a : ℕ) → c.post ≡ Offering a
        → (o : ℕ) × (k : Chan) × On T.state o k × (T.place o ≡ a) × OfferOf (T.at.phase o) g
    offered_at a post = T.channels.posts g a c mine post

    -- the channel at which it is
    pub channel_at : (a : ℕ) → IsAt T.code T.place T.state g c.post a
        → (o : ℕ) × (k : Chan) × On T.state o k × (T.place o ≡ a)
    channel_at a (inl t) = let k = live_at t.3.0 t.1 t.3.2 t.3.3 t.3.1 in (t.1, k.0, k.1, t.2)
    channel_at a (inr post) = let t = offered_at a post in (t.0, t.1, t.2, t.3)

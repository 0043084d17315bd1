-- Traps at channels are what the region machine does there. The image stays, since a trap leaves channels, frames and holders. It is the
-- sender with an offer that needs the image: its channel is closed and its offer was not taken, so in the state it is still at its send.
use Rattle.std.proofs.Common.{◌≡◌, ℕ, ◌+◌, true, [], ◌∷◌, Some, None, slice_get, refl, ap, sym}
use Rattle.std.proofs.Common.{subst, ◌∙◌, inl, inr, ⊎_elim, option_map}
use Rattle.std.proofs.lemmas.Option.{same_Some}
use Rattle.rgo_sound.specs.Typed.declared.actions.Action.TheVariants.{Send, Close}
use Rattle.rgo_sound.specs.Memory.Effects.{Effect}
use Rattle.rgo_sound.specs.Memory.declared.traps.Trap.{Trap}
use Rattle.rgo_sound.specs.Memory.declared.traps.Trap.TheVariants.{SendClosed, CloseClosed, CloseNil}
use Rattle.rgo_sound.specs.Memory.declared.values.Value.{Value}
use Rattle.rgo_sound.specs.Memory.declared.values.Value.TheVariants as value
use Rattle.rgo_sound.specs.Machine.Machines.{operated}
use Rattle.rgo_sound.specs.Machine.declared.picks.Pick.TheVariants.{One}
use Rattle.rgo_sound.specs.Machine.declared.picks.End.TheVariants as the_end
use Rattle.rgo_sound.specs.RegionMachine.Duties.{may_go}
use Rattle.rgo_sound.specs.RegionMachine.Instructions.{mark_with_end}
use Rattle.rgo_core_channels.proofs.Quiet.{marked_keeps}
use Rattle.rgo_sound.specs.RegionMachine.Machine.{Instruct, region_step}
use Rattle.rgo_sound.specs.RegionMachine.States.{Holder}
use Rattle.rgo_sound.specs.Tac.Frames.{frame_after_instr}
use Rattle.rgo_core_channels.specs.Channels.{Chan, On, Offered, OfferOf, holder_offer, Channels}
use Rattle.rgo_core_channels.specs.Moments.{Moment}
use Rattle.rgo_core_channels.specs.After.{after_trap}
use Rattle.rgo_core_channels.specs.Traps.{SendTrapLaw, CloseTrapLaw, CloseNilLaw}
use Rattle.rgo_core_channels.specs.Records.{ChannelRec, Shut, Stranded}
use Rattle.rgo_core_channels.proofs.Buffers.{no_offer}
use Rattle.rgo_core_channels.proofs.Forward.{traps}
use Rattle.rgo_core_channels.proofs.Operations.{send_traps, close_traps}
use Rattle.rgo_core_channels.proofs.Steps.{same_chan, one_place}
use Rattle.rgo_core_channels.proofs.Live.{live_at}
use Rattle.rgo_core_channels.specs.Standing.{Next}

-- a trap leaves channels, frames and holders as they were
trap_kept : (T : Moment) (trap : Trap) (at : ℕ)
    → Channels T.code T.page_words T.encode T.place T.cell T.words T.recs (after_trap T.state trap at) T.at
trap_kept T trap at = marked_keeps T.code T.page_words T.encode T.place T.cell T.words T.recs T.state T.at T.channels None
    (mark_with_end T.state.mark (Some (the_end.Trap trap at))) (T.state.steps + 1)

module _ (T : Moment) (g : ℕ) (c : ChannelRec) (mine : slice_get T.recs g ≡ Some c) where
  -- what was found closed is closed
  closed_is : (o : ℕ) (k : Chan) → On T.state o k → c.saw ≡ Shut (T.place o) → k.closed ≡ true
  closed_is o k on saw =
      let t = T.channels.saws g (T.place o) c mine saw in
      let same = one_place T.code T.page_words T.encode T.place T.cell T.words T.recs T.state T.at T.channels t.0 o t.1 k t.2 on t.3 in
      ap (λ (r : Chan). r.closed) (same_chan T.state o k t.1 on
      (subst (λ p. On T.state p t.1) same t.2)) ∙ t.4

  stranded_is : (o : ℕ) (k : Chan) → On T.state o k → c.saw ≡ Stranded (T.place o)
      → (k.closed ≡ true) × (T.at.phase o ≡ Offered g)
  stranded_is o k on saw =
      let t = T.channels.strands g (T.place o) c mine saw in
      let same = one_place T.code T.page_words T.encode T.place T.cell T.words T.recs T.state T.at T.channels t.0 o t.1 k t.2 on t.3 in (
        ap (λ (r : Chan). r.closed) (same_chan T.state o k t.1 on
            (subst (λ p. On T.state p t.1) same t.2)) ∙ t.4,
        ap T.at.phase (sym same) ∙ t.5,
      )

  send_traps_is : (o : ℕ) (v : Value) (next : Next T.code T.state g Send (value.Object o ∷ v ∷ [])) (k : Chan)
      → On T.state o k → k.closed ≡ true → may_go next.holder.offer ≡ true
      → (region_step T.code T.page_words T.state (Instruct (One g))
      ≡ Some (after_trap T.state SendClosed next.before.instr.place))
      × Channels T.code T.page_words T.encode T.place T.cell T.words T.recs (after_trap T.state SendClosed next.before.instr.place) T.at
  send_traps_is o v next k on shut free =
      let n = next in (
        traps T.code T.page_words T.state g Send (value.Object o ∷ v ∷ []) n T.running free on.1 refl SendClosed
            n.before.instr.place
            (ap (option_map (operated T.state.plain g n.before.callers
            (λ _. frame_after_instr n.before.frame n.before.to value.Nil) n.before.instr.place))
            (send_traps T.state.plain.memory o k on.0 v shut)),
        trap_kept T SendClosed n.before.instr.place,
      )

pub send_trap_is : SendTrapLaw
send_trap_is T g c mine o v next why = ⊎_elim
    (λ u. send_traps_is T g c mine o v next k on (closed_is T g c mine o k on u.1)
    (ap may_go (no_offer T g c mine next u.0)))
    (λ u. let x = stranded_is T g c mine o k on u in
    let t = T.channels.offers o g k on (subst (λ p. OfferOf p g) (sym x.1) refl) in
    send_traps_is T g c mine o v next k on x.0
    (ap may_go (ap (λ (h : Holder). h.offer) (same_Some next.holder t.1 (sym next.there ∙ t.3))
    ∙ (t.5 ∙ ap (holder_offer o) x.1))))
    why
  where
    found : (k : Chan) × On T.state o k
    found = live_at T g Send o (v ∷ []) next (inr (inl refl))

    k : Chan
    k = found.0

    on : On T.state o k
    on = found.1

pub close_trap_is : CloseTrapLaw
close_trap_is T g c mine o next free saw =
    let n = next in let found = live_at T g Close o [] next (inr (inr refl)) in let k = found.0 in let on = found.1 in (
      traps T.code T.page_words T.state g Close (value.Object o ∷ []) n T.running
          (ap may_go (no_offer T g c mine n free)) on.1 refl CloseClosed n.before.instr.place
          (ap (λ (e : Effect). Some (operated T.state.plain g n.before.callers
          (λ _. frame_after_instr n.before.frame n.before.to value.Nil) n.before.instr.place e))
          (close_traps T.state.plain.memory o k on.0 (closed_is T g c mine o k on saw))),
      trap_kept T CloseClosed n.before.instr.place,
    )

pub close_nil_is : CloseNilLaw
close_nil_is T g c mine n free = (
  traps T.code T.page_words T.state g Close (value.Nil ∷ []) n T.running
      (ap may_go (no_offer T g c mine n free)) refl refl CloseNil n.before.instr.place refl,
  trap_kept T CloseNil n.before.instr.place,
)

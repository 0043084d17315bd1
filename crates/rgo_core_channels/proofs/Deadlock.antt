-- Goroutines that are blocked by the words, none of which has locked a channel, are in a deadlock. First no control is locked: a locked
-- one has a goroutine that has locked it. Then `Stuck` shows that no pick has a step.
use Rattle.std.proofs.Common.{◌≡◌, ℕ, ◌%◌, [], ◌∷◌, length, Some, slice_get, slice_index, refl, ap}
use Rattle.std.proofs.Common.{sym, subst, ◌∙◌, inl, inr, arith}
use Rattle.rgo_sound.specs.Typed.declared.actions.Action.TheVariants.{Recv, Send}
use Rattle.rgo_core_channels.specs.Channels.{Chan, Lock, LockedBy, On, Unlocked, count, lock_bit}
use Rattle.rgo_core_channels.specs.Controls.{bit, closed_of, count_of}
use Rattle.rgo_core_channels.specs.Deadlock.{Blocked, DeadlockLaw, IsEmpty, IsFull, IsLocked, IsNotOffered, IsOffered, IsWaiting, ReceivesOnNil, Returned, SendsOnNil}
use Rattle.rgo_core_channels.specs.Records.{Hold, HoldsAt, Offering, ChannelRec}
use Rattle.rgo_core_channels.proofs.Decoding.{even_control}
use Rattle.rgo_core_channels.proofs.Live.{channel_at, live_at, offered_at}
use Rattle.rgo_core_channels.proofs.Stuck.{At, Empty, Full, Gone, HasNoOffer, HasOffer, NilReceive, NilSend, Waiting, Waits, stuck}

pub deadlock : DeadlockLaw
deadlock T each =
    stuck T.code T.page_words T.encode T.place T.cell T.words T.recs T.state T.at T.channels many (λ g c e. why g c e (each g c e).1) T.running
  where
    many : length T.state.plain.goroutines ≡ length T.recs
    many = let a = T.good.good.fine.as_many in let b = T.channels.as_many in omega arith

    -- no control is locked
    even : (o : ℕ) (k : Chan) → On T.state o k → slice_index T.words (T.place o) % 2 ≡ 0
    even o k on = by (T.at.lock o) refl
      where
        by : (l : Lock) → T.at.lock o ≡ l → slice_index T.words (T.place o) % 2 ≡ 0
        by Unlocked e =
            let c = T.channels.controls o k on in
            let z : lock_bit (T.at.lock o) ≡ 0 = ap lock_bit e in
            let y = even_control (bit k.closed) (count k (T.at.phase o)) (T.at.head o) in
            omega arith
        by (LockedBy h) e = let r = T.channels.lockers o h k on e in
            absurd (subst (λ (y : Hold). HoldsAt y (T.place o) r.1) (each h r.0 r.2).0 r.3)

    why : (g : ℕ) (c : ChannelRec) → slice_get T.recs g ≡ Some c → Blocked T g c
        → Waiting T.code T.page_words T.encode T.place T.cell T.words T.recs T.state T.at T.channels g c
    why g c e (Returned free q) = Gone free q
    why g c e (SendsOnNil v free before) = NilSend v free before
    why g c e (ReceivesOnNil free before) = NilReceive free before
    why g c e (IsFull o v free next shut room full) =
        let k = live_at T g Send o (v ∷ []) next (inr (inl refl)) in
        At o k.0 k.1 (Full v free next.before shut room full)
    why g c e (IsOffered o v free next shut none there) =
        let k = live_at T g Send o (v ∷ []) next (inr (inl refl)) in
        At o k.0 k.1 (HasOffer v free next.before shut none there)
    why g c e (IsEmpty o free next shut room none) =
        let k = live_at T g Recv o [] next (inl refl) in
        At o k.0 k.1 (Empty free next.before shut room none)
    why g c e (IsNotOffered o free next shut none there) =
        let k = live_at T g Recv o [] next (inl refl) in
        At o k.0 k.1 (HasNoOffer free next.before shut none there)
    why g c e (IsWaiting a post shut one) =
        let t = offered_at T g c e a post in
        At t.0 t.1 t.2 (Waits (post ∙ ap Offering (sym t.3))
        (subst (λ b. closed_of (slice_index T.words b) ≡ 0) (sym t.3) shut)
        (subst (λ b. count_of (slice_index T.words b) ≡ 1) (sym t.3) one))
    why g c e (IsLocked a at odd) =
        let t = channel_at T g c e a at in
        absurd (let z = even t.0 t.1 t.2 in
        let y : slice_index T.words (T.place t.0) % 2 ≡ 1 = subst (λ b. slice_index T.words b % 2 ≡ 1) (sym t.3) odd in
        omega arith)

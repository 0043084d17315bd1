-- If no operation is ready by the words, no pick of the three-address machine has a step. A pick of one goroutine goes by the reason
-- for which it waits. A pick of two that meet is the hard one: by the receiver the phase of their channel is not 1, by the sender it
-- is not 0, and it is not 2, since the acknowledgement of that offer would be ready.
use Rattle.std.proofs.Common.{◌≡◌, ◌≢◌, ◌⊎◌, ℕ, ◌+◌, ◌<◌, ◌≤◌, ◌==◌, Bool, true, false, List, [], ◌∷◌, length}
use Rattle.std.proofs.Common.{Option, Some, None, slice_get, slice_index, refl, ap, sym, subst, ◌∙◌, inl, inr, arith}
use Rattle.std.proofs.Common.{if◌then◌else◌, option_map, option_and_then, not, ◌&&◌}
use Rattle.std.proofs.lemmas.Option.{same_Some, slice_get_within}
use Rattle.rgo_sound.specs.Typed.declared.actions.Action.TheVariants.{Recv, Send}
use Rattle.rgo_sound.specs.Memory.Channels.{send, receive, is_meeting_at, meets_at}
use Rattle.rgo_sound.specs.Memory.Memory.{Memory}
use Rattle.rgo_sound.specs.Memory.declared.values.Value.{Value}
use Rattle.rgo_sound.specs.Memory.declared.values.Value.TheVariants as value
use Rattle.rgo_sound.specs.Machine.Deadlocks.{IsDeadlock}
use Rattle.rgo_sound.specs.Machine.declared.picks.Pick.{Pick}
use Rattle.rgo_sound.specs.Machine.declared.picks.Pick.TheVariants.{One, Meet}
use Rattle.rgo_sound.specs.Machine.Machines.{AtReceive, AtSend, AtClose, AtCall, AtStart, Elsewhere, Stand, alone, meet, met, met_by, operated, picked, unless_ended}
use Rattle.rgo_sound.specs.Machine.Machines.{with_frames}
use Rattle.rgo_sound.specs.Tac.Frames.{TacFrame, frame_after_instr}
use Rattle.rgo_sound.specs.Tac.Steps.{tac_stand}
use Rattle.rgo_sound.specs.Tac.Tac.{tac}
use Rattle.rgo_sound.specs.Code.Code.{Code}
use Rattle.rgo_sound.specs.Code.Erasure.{erased}
use Rattle.rgo_sound.specs.RegionMachine.Machine.{plain_step}
use Rattle.rgo_sound.specs.RegionMachine.States.{RegionState}
use Rattle.rgo_sound.proofs.Places.{get_some}
use Rattle.rgo_sound.proofs.Tests.{split, eq_of}
use Rattle.rgo_core_channels.specs.Channels.{Chan, On, Phase, Calm, Offered, Accepted, phase_number, OfferOf}
use Rattle.rgo_core_channels.specs.Channels.{Places, count, lock_bit, Channels}
use Rattle.rgo_core_channels.specs.Controls.{bit, closed_of, count_of}
use Rattle.rgo_core_channels.specs.Records.{ChannelRec, Nowhere, Offering}
use Rattle.rgo_core_memory.specs.Accesses.{Before}
use Rattle.rgo_core_channels.specs.Standing.{blank_of}
use Rattle.rgo_core_channels.proofs.Decoding.{decode_locked, bit_small, lock_small, open_or}
use Rattle.rgo_core_channels.proofs.Forward.{stands_is, plain_is}
use Rattle.rgo_core_channels.proofs.Operations.{send_waits, receive_waits}
use Rattle.rgo_core_channels.proofs.Steps.{same_chan, one_place, no_buffer, count_small}

-- the operation of a goroutine on channel o is not ready, by the capacity and the control
pub data NotReady (code : Code) (place : ℕ → ℕ) (s : RegionState) (g : ℕ) (c : ChannelRec) (o size n : ℕ) : Type 0 where
  Full : (v : Value) → c.post ≡ Nowhere → Before code s g Send (value.Object o ∷ v ∷ []) → closed_of n ≡ 0 → 0 < size
      → count_of n ≡ size → NotReady code place s g c o size n
  HasOffer : (v : Value) → c.post ≡ Nowhere → Before code s g Send (value.Object o ∷ v ∷ []) → closed_of n ≡ 0
      → size ≡ 0 → count_of n ≢ 0 → NotReady code place s g c o size n
  Empty : c.post ≡ Nowhere → Before code s g Recv (value.Object o ∷ []) → closed_of n ≡ 0 → 0 < size
      → count_of n ≡ 0 → NotReady code place s g c o size n
  HasNoOffer : c.post ≡ Nowhere → Before code s g Recv (value.Object o ∷ []) → closed_of n ≡ 0 → size ≡ 0
      → count_of n ≢ 1 → NotReady code place s g c o size n
  Waits : c.post ≡ Offering (place o) → closed_of n ≡ 0 → count_of n ≡ 1 → NotReady code place s g c o size n

module _ (code : Code) (page_words : ℕ) (encode : Value → ℕ) (place : ℕ → ℕ) (cell : ℕ → ℕ → ℕ) (words : List ℕ) (recs : List ChannelRec) (s : RegionState)
    (at : Places) (K : Channels code page_words encode place cell words recs s at) where
  abbrev m : Memory
  m = s.plain.memory

  -- why a goroutine waits, by the words at this moment
  pub data Waiting (g : ℕ) (c : ChannelRec) : Type 0 where
    Gone : c.post ≡ Nowhere → slice_get s.plain.goroutines g ≡ Some [] → Waiting g c
    NilSend : (v : Value) → c.post ≡ Nowhere → Before code s g Send (value.Nil ∷ v ∷ []) → Waiting g c
    NilReceive : c.post ≡ Nowhere → Before code s g Recv (value.Nil ∷ []) → Waiting g c
    At : (o : ℕ) (k : Chan) → On s o k
        → NotReady code place s g c o (slice_index words (place o + 1)) (slice_index words (place o)) → Waiting g c

  -- what a control shows
  shown : (o : ℕ) (k : Chan) → On s o k → (closed_of (slice_index words (place o)) ≡ bit k.closed)
      × (count_of (slice_index words (place o)) ≡ count k (at.phase o))
  shown o k on = rw (K.controls o k on) (let d = decode_locked (lock_bit (at.lock o)) (bit k.closed) (count k (at.phase o))
      (at.head o) (lock_small (at.lock o)) (bit_small k.closed)
      (count_small code page_words encode place cell words recs s at K o k on) in (d.0, d.1))

  is_open : (o : ℕ) (k : Chan) → On s o k → closed_of (slice_index words (place o)) ≡ 0 → k.closed ≡ false
  is_open o k on e = open_or k.closed (sym (shown o k on).0 ∙ e)

  no_queue : (o : ℕ) (k : Chan) → On s o k → k.capacity ≡ 0 → length k.queue ≡ 0
  no_queue o k on z = ap length (K.unbuffered o k on z).0

  -- what is known of a sender, and of a receiver, by the channel's value
  abbrev SendFact : Value → Type 0
  SendFact d = (d ≡ value.Nil) ⊎ ((o : ℕ) × (k : Chan) × (d ≡ value.Object o) × On s o k × (k.closed ≡ false)
      × (k.capacity ≤ length k.queue) × (k.capacity ≡ 0 → phase_number (at.phase o) ≢ 0))

  abbrev ReceiveFact : Value → Type 0
  ReceiveFact d = (d ≡ value.Nil) ⊎ ((o : ℕ) × (k : Chan) × (d ≡ value.Object o) × On s o k × (k.closed ≡ false)
      × (k.queue ≡ []) × (k.capacity ≡ 0 → phase_number (at.phase o) ≢ 1))

  data Known (g : ℕ) : Type 0 where
    Ended : slice_get s.plain.goroutines g ≡ Some [] → Known g
    Sending : (d v : Value) → Before code s g Send (d ∷ v ∷ []) → SendFact d → Known g
    Receiving : (d : Value) → Before code s g Recv (d ∷ []) → ReceiveFact d → Known g

  empty_of : (q : List Value) → length q ≡ 0 → q ≡ []
  empty_of [] e = refl
  empty_of (x ∷ q) e = absurd (omega arith)

  known_at : (g : ℕ) (c : ChannelRec) (o : ℕ) (k : Chan) → slice_get recs g ≡ Some c → On s o k
      → NotReady code place s g c o (slice_index words (place o + 1)) (slice_index words (place o)) → Known g
  known_at g c o k e on (Full v free stands unshut some full) =
      let cap = K.capacities o k on in
      let room : 0 < k.capacity = omega arith in
      let b = K.buffered o k on room in
      let p : phase_number (at.phase o) ≡ 0 = ap phase_number b.0 in
      let n = (shown o k on).1 in
      Sending (value.Object o) v stands (inr (o, k, refl, on, is_open o k on unshut, (omega arith), λ z. absurd (omega arith)))
  known_at g c o k e on (HasOffer v free stands unshut none there) =
      let cap = K.capacities o k on in
      let z : k.capacity ≡ 0 = omega arith in
      let n = (shown o k on).1 in
      let l = no_queue o k on z in
      Sending (value.Object o) v stands
      (inr (o, k, refl, on, is_open o k on unshut, (omega arith), λ z f. there (omega arith)))
  known_at g c o k e on (Empty free stands unshut some none) =
      let cap = K.capacities o k on in
      let room : 0 < k.capacity = omega arith in
      let n = (shown o k on).1 in
      Receiving (value.Object o) stands
      (inr (o, k, refl, on, is_open o k on unshut, empty_of k.queue (omega arith), λ z. absurd (omega arith)))
  known_at g c o k e on (HasNoOffer free stands unshut none there) =
      let cap = K.capacities o k on in
      let z : k.capacity ≡ 0 = omega arith in
      let n = (shown o k on).1 in
      let l = no_queue o k on z in
      Receiving (value.Object o) stands
      (inr (o, k, refl, on, is_open o k on unshut, (K.unbuffered o k on z).0, λ z f. there (omega arith)))
  known_at g c o k e on (Waits post unshut one) = offered (at.phase o) refl
    where
      own : OfferOf (at.phase o) g
      own =
          let t = K.posts g (place o) c e post in
          subst (λ p. OfferOf (at.phase p) g) (one_place code page_words encode place cell words recs s at K t.0 o t.1 k t.2 on t.3) t.4

      cap : k.capacity ≡ 0
      cap = no_buffer code page_words encode place cell words recs s at K o g k on own

      number : phase_number (at.phase o) ≡ 1
      number = let n = (shown o k on).1 in let l = no_queue o k on cap in omega arith

      offered : (p : Phase) → at.phase o ≡ p → Known g
      offered Calm q = absurd (let z : phase_number (at.phase o) ≡ 0 = ap phase_number q in let n = number in omega arith)
      offered (Accepted j) q =
          absurd (let z : phase_number (at.phase o) ≡ 2 = ap phase_number q in let n = number in omega arith)
      offered (Offered j) q =
          let same : j ≡ g = subst (λ p. OfferOf p g) q own in
          let w = K.waits o g k on (q ∙ ap Offered same) in
          Sending (value.Object o) w.0 w.1.before (inr (
            o,
            k,
            refl,
            on,
            is_open o k on unshut,
            (let z = cap in omega arith),
            λ z f. let n = number in omega arith,
          ))

  module _ (many : length s.plain.goroutines ≡ length recs)
      (each : (g : ℕ) (c : ChannelRec) → slice_get recs g ≡ Some c → Waiting g c) where
    -- no offer was taken: its acknowledgement would be ready
    not_taken : (o j : ℕ) (k : Chan) → On s o k → at.phase o ≡ Accepted j → ⊥
    not_taken o j k on e =
        let t = K.offers o j k on (subst (λ p. OfferOf p j) (sym e) refl) in
        by t.0 t.2 t.4 (each j t.0 t.2)
      where
        clash : (c : ChannelRec) → c.post ≡ Offering (place o) → c.post ≡ Nowhere → ⊥
        clash c p q = let z : Nowhere ≡ Offering (place o) = sym q ∙ p in cc z

        by : (c : ChannelRec) → slice_get recs j ≡ Some c → c.post ≡ Offering (place o) → Waiting j c → ⊥
        by c f post (Gone free q) = clash c post free
        by c f post (NilSend v free q) = clash c post free
        by c f post (NilReceive free q) = clash c post free
        by c f post (At p l on' (Full v free st op so fu)) = clash c post free
        by c f post (At p l on' (HasOffer v free st op nn th)) = clash c post free
        by c f post (At p l on' (Empty free st op so nn)) = clash c post free
        by c f post (At p l on' (HasNoOffer free st op nn th)) = clash c post free
        by c f post (At p l on' (Waits post' op one)) =
            let w : Offering (place p) ≡ Offering (place o) = sym post' ∙ post in
            let same : p ≡ o = one_place code page_words encode place cell words recs s at K p o l k on' on (cc w) in
            let n = (shown o k on).1 in
            let one' : count_of (slice_index words (place o)) ≡ 1
            = ap (λ q. count_of (slice_index words (place q))) (sym same) ∙ one in
            let ph : phase_number (at.phase o) ≡ 2 = ap phase_number e in
            omega arith

    phase_below : (o : ℕ) (k : Chan) → On s o k → phase_number (at.phase o) ≤ 1
    phase_below o k on = go (at.phase o) refl
      where
        go : (p : Phase) → at.phase o ≡ p → phase_number (at.phase o) ≤ 1
        go Calm e = let z : phase_number (at.phase o) ≡ 0 = ap phase_number e in omega arith
        go (Offered j) e = let z : phase_number (at.phase o) ≡ 1 = ap phase_number e in omega arith
        go (Accepted j) e = absurd (not_taken o j k on e)

    known : (g : ℕ) (frames : List TacFrame) → slice_get s.plain.goroutines g ≡ Some frames → Known g
    known g frames e =
        let c = get_some recs g (let a = slice_get_within s.plain.goroutines g frames e in let b = many in omega arith) in
        by c.0 c.1 (each g c.0 c.1)
      where
        by : (c : ChannelRec) → slice_get recs g ≡ Some c → Waiting g c → Known g
        by c f (Gone free q) = Ended q
        by c f (NilSend v free st) = Sending value.Nil v st (inl refl)
        by c f (NilReceive free st) = Receiving value.Nil st (inl refl)
        by c f (At o k on r) = known_at g c o k f on r

    send_none : (d v : Value) → SendFact d → send m d v ≡ None
    send_none d v (inl e) = ap (λ x. send m x v) e
    send_none d v (inr f) = ap (λ x. send m x v) f.2 ∙ send_waits m f.0 f.1 f.3.0 v f.4 f.5

    receive_none : (d blank : Value) → ReceiveFact d → receive m d blank ≡ None
    receive_none d blank (inl e) = ap (λ x. receive m x blank) e
    receive_none d blank (inr f) = ap (λ x. receive m x blank) f.2 ∙ receive_waits m f.0 f.1 f.3.0 blank f.5 f.4

    -- a receiver and a sender who both wait do not meet
    meets_none : (d e : Value) → ReceiveFact d → SendFact e → meets_at m d e ≡ false
    meets_none d e (inl q) f = ap (λ x. meets_at m x e) q
    meets_none d e (inr r) (inl q) = ap (λ x. meets_at m d x) q ∙ ap (λ x. meets_at m x value.Nil) r.2
    meets_none d e (inr r) (inr f) =
        ap (λ x. meets_at m x e) r.2 ∙ ap (λ x. meets_at m (value.Object r.0) x) f.2 ∙ by (r.0 == f.0) refl
      where
        open_place : r.0 ≡ f.0 → is_meeting_at (slice_get m.heap r.0) ≡ false
        open_place same = ap is_meeting_at r.3.0 ∙ (ap (λ b. not b && r.1.capacity == 0) r.4 ∙ test)
          where
            same' : r.1 ≡ f.1
            same' = same_chan s f.0 r.1 f.1 (subst (λ p. On s p r.1) same r.3) f.3

            test : (r.1.capacity == 0) ≡ false
            test = split (r.1.capacity == 0)
                (λ t. let z : r.1.capacity ≡ 0 = eq_of r.1.capacity 0 t in
                let z' : f.1.capacity ≡ 0 = ap (λ (k : Chan). k.capacity) (sym same') ∙ z in
                let p1 : phase_number (at.phase f.0) ≢ 1 = subst (λ p. phase_number (at.phase p) ≢ 1) same (r.6 z) in
                let p0 = f.6 z' in
                let b = phase_below f.0 f.1 f.3 in
                absurd (by_cases (phase_number (at.phase f.0)) p0 p1 b))
                (λ n. n)
              where
                by_cases : (n : ℕ) → n ≢ 0 → n ≢ 1 → n ≤ 1 → ⊥
                by_cases n a b c = omega arith

        by : (b : Bool) → (r.0 == f.0) ≡ b → (if b then is_meeting_at (slice_get m.heap r.0) else false) ≡ false
        by true q = open_place (eq_of r.0 f.0 q)
        by false q = refl

    module _ (running : s.plain.ended ≡ None) where
      one_none : (g : ℕ) → plain_step code s.plain (One g) ≡ None
      one_none g = by (slice_get s.plain.goroutines g) refl
        where
          by : (o : Option (List TacFrame)) → slice_get s.plain.goroutines g ≡ o → plain_step code s.plain (One g) ≡ None
          by None e = ap (λ x. unless_ended x (picked (tac (erased code)) s.plain (One g))) running
              ∙ ap (option_and_then (alone (tac (erased code)) s.plain g)) e
          by (Some frames) e = go (known g frames e)
            where
              go : Known g → plain_step code s.plain (One g) ≡ None
              go (Ended q) = ap (λ x. unless_ended x (picked (tac (erased code)) s.plain (One g))) running
                  ∙ ap (option_and_then (alone (tac (erased code)) s.plain g)) q
              go (Sending d v st f) = plain_is code s g Send (d ∷ v ∷ []) st running
                  ∙ ap (option_map (operated s.plain g st.callers (λ _. frame_after_instr st.frame st.to value.Nil) st.instr.place))
                  (send_none d v f)
              go (Receiving d st f) = plain_is code s g Recv (d ∷ []) st running
                  ∙ ap (option_map (operated s.plain g st.callers (frame_after_instr st.frame st.to) 0))
                  (receive_none d (blank_of st) f)

      meet_none : (r t : ℕ) → plain_step code s.plain (Meet r t) ≡ None
      meet_none r t = ap (λ x. unless_ended x (picked (tac (erased code)) s.plain (Meet r t))) running ∙ apart (r == t)
        where
          both : (f g : List TacFrame) → slice_get s.plain.goroutines r ≡ Some f → slice_get s.plain.goroutines t ≡ Some g
              → met_by (tac (erased code)) s.plain r t f g ≡ None
          both f g e e' = by (known r f e) (known t g e')
            where
              sender_there : (a b : Value) (c : ℕ) (d : TacFrame) (rs ss : List TacFrame) (q : Stand TacFrame)
                  → met s.plain r t rs ss (AtSend a b c d) q ≡ None
              sender_there a b c d rs ss (AtReceive x y z) = refl
              sender_there a b c d rs ss (AtSend x y z w) = refl
              sender_there a b c d rs ss (AtClose x y z) = refl
              sender_there a b c d rs ss (AtCall x y) = refl
              sender_there a b c d rs ss (AtStart x y) = refl
              sender_there a b c d rs ss Elsewhere = refl

              -- a sender does not receive
              sender_first : (d v : Value) (st : Before code s r Send (d ∷ v ∷ [])) (g : List TacFrame)
                  → met_by (tac (erased code)) s.plain r t (st.frame ∷ st.callers) g ≡ None
              sender_first d v st [] = refl
              sender_first d v st (h ∷ ss) =
                  ap (λ q. met s.plain r t st.callers ss q (tac_stand (erased code) h))
                  (stands_is code s r Send (d ∷ v ∷ []) st)
                  ∙ sender_there d v st.instr.place (frame_after_instr st.frame st.to value.Nil) st.callers ss
                  (tac_stand (erased code) h)

              -- a receiver with the other goroutine, by what that one is at
              receiver_first : (d : Value) (st : Before code s r Recv (d ∷ [])) (h : TacFrame) (ss : List TacFrame)
                  (q : Stand TacFrame) → tac_stand (erased code) h ≡ q
                  → met_by (tac (erased code)) s.plain r t (st.frame ∷ st.callers) (h ∷ ss)
                  ≡ met s.plain r t st.callers ss (AtReceive d (blank_of st) (frame_after_instr st.frame st.to)) q
              receiver_first d st h ss q e =
                  ap (λ x. met s.plain r t st.callers ss x (tac_stand (erased code) h))
                  (stands_is code s r Recv (d ∷ []) st)
                  ∙ ap (met s.plain r t st.callers ss (AtReceive d (blank_of st) (frame_after_instr st.frame st.to))) e

              by : Known r → Known t → met_by (tac (erased code)) s.plain r t f g ≡ None
              by (Ended q) y = ap (λ x. met_by (tac (erased code)) s.plain r t x g) (same_Some f [] (sym e ∙ q))
              by (Sending d v st x) y =
                  ap (λ x. met_by (tac (erased code)) s.plain r t x g) (same_Some f (st.frame ∷ st.callers) (sym e ∙ st.at))
                  ∙ sender_first d v st g
              by (Receiving d st x) (Ended q) =
                  ap (λ x. met_by (tac (erased code)) s.plain r t x g) (same_Some f (st.frame ∷ st.callers) (sym e ∙ st.at))
                  ∙ ap (met_by (tac (erased code)) s.plain r t (st.frame ∷ st.callers)) (same_Some g [] (sym e' ∙ q))
              by (Receiving d st x) (Receiving d' st' x') =
                  ap (λ x. met_by (tac (erased code)) s.plain r t x g) (same_Some f (st.frame ∷ st.callers) (sym e ∙ st.at))
                  ∙ ap (met_by (tac (erased code)) s.plain r t (st.frame ∷ st.callers))
                  (same_Some g (st'.frame ∷ st'.callers) (sym e' ∙ st'.at))
                  ∙ receiver_first d st st'.frame st'.callers
                  (AtReceive d' (blank_of st') (frame_after_instr st'.frame st'.to))
                  (stands_is code s t Recv (d' ∷ []) st')
              by (Receiving d st x) (Sending d' v st' x') =
                  ap (λ x. met_by (tac (erased code)) s.plain r t x g) (same_Some f (st.frame ∷ st.callers) (sym e ∙ st.at))
                  ∙ ap (met_by (tac (erased code)) s.plain r t (st.frame ∷ st.callers))
                  (same_Some g (st'.frame ∷ st'.callers) (sym e' ∙ st'.at))
                  ∙ receiver_first d st st'.frame st'.callers
                  (AtSend d' v st'.instr.place (frame_after_instr st'.frame st'.to value.Nil))
                  (stands_is code s t Send (d' ∷ v ∷ []) st')
                  ∙ ap (λ b. if b then Some (with_frames (with_frames s.plain r (frame_after_instr st.frame st.to v ∷ st.callers)) t
                  (frame_after_instr st'.frame st'.to value.Nil ∷ st'.callers)) else None) (meets_none d d' x x')

          senders : (f : List TacFrame) → slice_get s.plain.goroutines r ≡ Some f → (o : Option (List TacFrame))
              → slice_get s.plain.goroutines t ≡ o
              → option_and_then (met_by (tac (erased code)) s.plain r t f) o ≡ None
          senders f e None q = refl
          senders f e (Some g) q = both f g e q

          receivers : (o : Option (List TacFrame)) → slice_get s.plain.goroutines r ≡ o
              → option_and_then (λ f. option_and_then (met_by (tac (erased code)) s.plain r t f)
              (slice_get s.plain.goroutines t)) o ≡ None
          receivers None e = refl
          receivers (Some f) e = senders f e (slice_get s.plain.goroutines t) refl

          apart : (b : Bool) → (if b then None else meet (tac (erased code)) s.plain r t) ≡ None
          apart true = refl
          apart false = receivers (slice_get s.plain.goroutines r) refl

      pub stuck : IsDeadlock (tac (erased code)) s.plain
      stuck = (running, by)
        where
          by : (pick : Pick) → plain_step code s.plain pick ≡ None
          by (One g) = one_none g
          by (Meet r t) = meet_none r t

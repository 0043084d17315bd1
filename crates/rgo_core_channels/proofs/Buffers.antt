-- The store that commits an operation of one goroutine, and unlocks: a send, a receive, the zero of a closed channel, a
-- close. `Forward` computes the step of the region machine, `Steps` the image after the change of one control. What is left for
-- each operation is the new queue, cell by cell.
use Rattle.std.proofs.Common.{◌≡◌, ◌≢◌, ℕ, suc, ◌+◌, ◌-◌, ◌%◌, ◌<◌, ◌≤◌, true, false, List, [], ◌∷◌, ◌++◌}
use Rattle.std.proofs.Common.{length, Some, slice_get, slice_set, slice_index, refl, ap, sym, subst, ◌∙◌, inl, inr}
use Rattle.std.proofs.Common.{⊎_elim, arith, option_map, length-append}
use Rattle.std.proofs.Math.Nat.{mod-lt, mod-eq_of_lt}
use Rattle.std.proofs.lemmas.Option.{same_Some}
use Rattle.rgo_sound.specs.Typed.declared.actions.Action.{Action}
use Rattle.rgo_sound.specs.Typed.declared.actions.Action.TheVariants.{Recv, Send, Close}
use Rattle.rgo_sound.specs.Memory.Channels.{close, receive, send}
use Rattle.rgo_sound.specs.Memory.Effects.{Does, Effect}
use Rattle.rgo_sound.specs.Memory.Memory.{Memory, with_object}
use Rattle.rgo_sound.specs.Memory.declared.values.Value.{Value}
use Rattle.rgo_sound.specs.Memory.declared.values.Value.TheVariants as value
use Rattle.rgo_sound.specs.Machine.Machines.{operated}
use Rattle.rgo_sound.specs.RegionMachine.Duties.{may_go}
use Rattle.rgo_sound.specs.RegionMachine.States.{Holder, NoOffer, RegionState}
use Rattle.rgo_sound.proofs.Places.{get_set_same, get_snoc, length_set as length_slice_set}
use Rattle.rgo_sound.specs.Tac.Frames.{frame_after_instr}
use Rattle.rgo_core_channels.specs.Channels.{Chan, channel, On, Calm, phase_number, OfferOf}
use Rattle.rgo_core_memory.specs.Words.{put_at}
use Rattle.rgo_core_channels.specs.Channels.{Unlocked, LockedBy, lock_bit, Places, count, cell_of, Channels}
use Rattle.rgo_core_channels.specs.Controls.{bit, control, closed_of, count_of, head_of}
use Rattle.rgo_core_channels.specs.Moments.{Moment}
use Rattle.rgo_core_channels.specs.After.{pushed, popped, closed_now}
use Rattle.rgo_core_channels.specs.Buffers.{SendLaw, ReceiveLaw, ZeroLaw, CloseLaw}
use Rattle.rgo_core_channels.specs.Records.{ChannelRec, HoldsAt, InCell, Sized}
use Rattle.rgo_core_channels.specs.Records.{Nowhere, Offering, at_rest}
use Rattle.rgo_core_channels.specs.Standing.{Next, passed_frames, passed_holder, blank_of}
use Rattle.rgo_core_channels.specs.After.{after}
use Rattle.rgo_core_channels.proofs.Decoding.{decode, bit_small, open_or, shut_or, turned}
use Rattle.rgo_core_channels.proofs.Forward.{does}
use Rattle.rgo_core_memory.proofs.Rows.{set_else}
use Rattle.rgo_core_channels.proofs.Operations.{send_does, receive_does, receive_blank, close_does}
use Rattle.rgo_core_channels.proofs.Steps.{Same, next_same, same_chan, one_place, count_small, control_step}
use Rattle.rgo_core_channels.proofs.Steps.{recs_was, stays, is_mine, freed, they_know, rest_knows}
use Rattle.rgo_core_channels.proofs.Live.{live_at}

empty_of : {X : Type 0} (q : List X) → length q ≡ 0 → q ≡ []
empty_of [] e = refl
empty_of (x ∷ q) e = absurd (omega arith)

first_of : {X : Type 0} (q : List X) → 0 < length q → (v : X) × (rest : List X) × (q ≡ v ∷ rest)
first_of [] h = absurd (omega arith)
first_of (x ∷ q) h = (x, q, refl)

module _ (T : Moment) (g : ℕ) (c : ChannelRec) (mine : slice_get T.recs g ≡ Some c) where
  abbrev pub m : Memory
  m = T.state.plain.memory

  abbrev pub s : RegionState
  s = T.state

  abbrev pub K : Channels T.code T.page_words T.encode T.place T.cell T.words T.recs T.state T.at
  K = T.channels

  -- an offer is another goroutine's
  pub posted : c.post ≡ Nowhere → (p j : ℕ) (l : Chan) → On s p l → OfferOf (T.at.phase p) j → j ≢ g
  posted free p j l x q w =
      let t = K.offers p j l x q in
      let same = is_mine T.code T.page_words T.encode T.place T.cell T.words T.recs T.state T.at K g c c mine j t.0 t.2 w in
      let z : Nowhere ≡ Offering (T.place p) = sym free ∙ (ap (λ (y : ChannelRec). y.post) (sym same) ∙ t.4) in
      absurd (cc z)

  pub no_offer : {action : Action} → {operands : List Value} → (N : Next T.code s g action operands)
      → c.post ≡ Nowhere → N.holder.offer ≡ NoOffer
  no_offer N free = K.calm g c N.holder mine N.there free

  module _ (o n : ℕ) (held : HoldsAt c.hold (T.place o) n) (k : Chan) (on : On s o k) where
    locks : (T.at.lock o ≡ LockedBy g) × (slice_index T.words (T.place o) ≡ suc n)
    locks =
        let t = K.locks g (T.place o) n c mine held in
        let same = one_place T.code T.page_words T.encode T.place T.cell T.words T.recs T.state T.at K t.0 o t.1 k t.2 on t.3 in
        (subst (λ p. T.at.lock p ≡ LockedBy g) same t.4, t.5)

    pub lock_is : T.at.lock o ≡ LockedBy g
    lock_is = locks.0

    pub n_is : n ≡ control (bit k.closed) (count k (T.at.phase o)) (T.at.head o)
    n_is =
        let l : lock_bit (T.at.lock o) ≡ 1 = ap lock_bit lock_is in
        let e = K.controls o k on in
        let w = locks.1 in
        omega arith

    -- the channel by the control that was found: nobody has changed it under the lock
    pub said : (closed_of n ≡ bit k.closed) × (count_of n ≡ count k (T.at.phase o)) × (head_of n ≡ T.at.head o)
    said =
        let e = n_is in
        let d = decode (bit k.closed) (count k (T.at.phase o)) (T.at.head o) (bit_small k.closed)
        (count_small T.code T.page_words T.encode T.place T.cell T.words T.recs T.state T.at K o k on) in
        (ap closed_of e ∙ d.0, ap count_of e ∙ d.1, ap head_of e ∙ d.2)

    pub capacity_is : (size : ℕ) → c.size ≡ Sized (T.place o) size → k.capacity ≡ size
    capacity_is size e =
        let t = K.sizes g (T.place o) size c mine e in
        let same = one_place T.code T.page_words T.encode T.place T.cell T.words T.recs T.state T.at K t.0 o t.1 k t.2 on t.3 in
        ap (λ (y : Chan). y.capacity) (same_chan T.state o k t.1 on (subst (λ p. On T.state p t.1) same t.2)) ∙ t.4

    pub cell_is : (i x : ℕ) → InCell c.hold (T.place o) i x → slice_index T.words (T.cell o i) ≡ x
    cell_is i x q =
        let t = K.in_cells g (T.place o) i x c mine q in
        let same = one_place T.code T.page_words T.encode T.place T.cell T.words T.recs T.state T.at K t.0 o t.1 k t.2 on t.3 in
        ap (λ p. slice_index T.words (T.cell p i)) (sym same) ∙ t.5

    pub is_open : closed_of n ≡ 0 → k.closed ≡ false
    is_open e = open_or k.closed (sym said.0 ∙ e)

    -- one goroutine continues, and offers stay
    module _ {action : Action} {operands : List Value} (N : Next T.code s g action operands) (free : c.post ≡ Nowhere)
        (z : Chan) (v : Value) (x hd : ℕ) where
      abbrev pub b : RegionState
      b = after N (with_object m o (channel z)) v

      abbrev pub next_at : Places
      next_at = record {
        head = put_at T.at.head o hd;
        lock = put_at T.at.lock o Unlocked;
        phase = put_at T.at.phase o (T.at.phase o);
      }

      same_other : (j : ℕ) → j ≢ g → Same s b j
      same_other j ne = (set_else s.plain.goroutines g j (passed_frames N v) ne, set_else s.holders g j (passed_holder N v) ne)

      pub commit : z.capacity ≡ k.capacity → x ≡ control (bit z.closed) (count z (T.at.phase o)) hd
          → ((i : ℕ) (u : Value) → slice_get z.queue i ≡ Some u
          → slice_index T.words (T.cell o (cell_of k hd i)) ≡ T.encode u)
          → (0 < k.capacity → (length z.queue ≤ k.capacity) × (hd < k.capacity))
          → (k.capacity ≡ 0 → (z.queue ≡ []) × (hd ≡ 0)) → (k.closed ≡ true → z.closed ≡ true)
          → Channels T.code T.page_words T.encode T.place T.cell (slice_set T.words (T.place o) x) (slice_set T.recs g at_rest) b next_at
      commit capacity word cells buffered unbuffered closes =
          control_step T.code T.page_words T.encode T.place T.cell T.words T.recs T.state T.at K g c at_rest mine o k z x Unlocked hd
          (T.at.phase o) b on (record {
            heap = refl;
            touch = λ p. refl;
            capacity = capacity;
            word = let y : 0 + control (bit z.closed) (count z (T.at.phase o)) hd
                ≡ control (bit z.closed) (count z (T.at.phase o)) hd = omega arith in word ∙ sym y;
            cells = cells;
            buffered = λ q. let t = buffered q in ((K.buffered o k on q).0, t.0, t.1);
            unbuffered = unbuffered;
            closes = closes;
            told = freed T.code T.page_words T.encode T.place T.cell T.words T.recs T.state T.at K g c mine Nowhere o n x held lock_is;
            know = they_know T.code T.page_words T.encode T.place T.cell T.words T.recs T.state T.at K g c at_rest mine b
                (λ a q. absurd (rest_knows a q)) (λ j y ne e q. same_other j ne);
            stranded = λ j q f. f;
            as_many = length_slice_set s.holders g (passed_holder N v);
            calm = λ j y h p q f. ⊎_elim
                (λ (u : (j ≡ g) × (at_rest ≡ y)).
                let h' : passed_holder N v ≡ h = same_Some (passed_holder N v) h
                (sym (get_set_same s.holders g N.holder (passed_holder N v) N.there)
                ∙ (ap (slice_get (slice_set s.holders g (passed_holder N v))) (sym u.0) ∙ q)) in
                ap (λ (r : Holder). r.offer) (sym h') ∙ no_offer N free)
                (λ (u : (j ≢ g) × (slice_get T.recs j ≡ Some y)). K.calm j y h u.1
                (sym (set_else s.holders g j (passed_holder N v) u.0) ∙ q) f)
                (recs_was T.code T.page_words T.encode T.place T.cell T.words T.recs T.state T.at K g c at_rest mine j y p);
            others = λ p j l ne e q. let nj = posted free p j l e q in (same_other j nj, λ w. absurd (nj w));
            mine_post = λ a q. absurd (let y : Nowhere ≡ Offering a = q in cc y);
            theirs = λ j ne q. q;
            offer = λ j q. let t = K.offers o j k on q in let nj = posted free o j k on q in (
              t.0,
              t.1,
              stays T.code T.page_words T.encode T.place T.cell T.words T.recs T.state T.at K g c at_rest mine j t.0 nj t.2,
              (same_other j nj).1 ∙ t.3,
              t.4,
              t.5,
            );
            wait = λ j q. let t = K.waits o j k on q in
                let nj = posted free o j k on (subst (λ y. OfferOf y j) (sym q) refl) in
                (t.0, next_same T.code s b j Send (value.Object o ∷ t.0 ∷ []) (same_other j nj) t.1, t.2);
          })

pub send_is : SendLaw
send_is T g c mine o n i x size v next hold code free sizing shut room behind = (
  k,
  on,
  sends,
  record {
    steps = does T.code T.page_words T.state g Send (value.Object o ∷ v ∷ []) next T.running
        (ap may_go (no_offer T g c mine next free)) on.1 refl (with_object (m T g c mine) o (channel (pushed v k))) value.Nil
        (length_slice_set T.state.plain.memory.heap o (channel (pushed v k)))
        (ap (option_map (operated T.state.plain g next.before.callers
        (λ _. frame_after_instr next.before.frame next.before.to value.Nil) next.before.instr.place))
        sends);
    at = _;
    channels = commit T g c mine o n held k on next free (pushed v k) value.Nil (n + 4) (T.at.head o) refl word cells
        (λ p. (fits, bf.2)) (λ z. let p = some_room in absurd (omega arith)) (λ z. absurd (open_shut z));
  },
)
  where
    found : (k : Chan) × On T.state o k
    found = live_at T g Send o (v ∷ []) next (inr (inl refl))

    k : Chan
    k = found.0

    on : On T.state o k
    on = found.1

    held : HoldsAt c.hold (T.place o) n
    held = subst (λ y. HoldsAt y (T.place o) n) (sym hold) (refl, refl)

    said' : (closed_of n ≡ bit k.closed) × (count_of n ≡ count k (T.at.phase o)) × (head_of n ≡ T.at.head o)
    said' = said T g c mine o n held k on

    cap : k.capacity ≡ size
    cap = capacity_is T g c mine o n held k on size sizing

    some_room : 0 < k.capacity
    some_room = rw cap (omega arith)

    bf : (T.at.phase o ≡ Calm) × (length k.queue ≤ k.capacity) × (T.at.head o < k.capacity)
    bf = T.channels.buffered o k on some_room

    no_phase : phase_number (T.at.phase o) ≡ 0
    no_phase = ap phase_number bf.0

    lower : length k.queue < k.capacity
    lower = let c1 = said'.1 in let e = cap in let p = no_phase in omega arith

    sends : send (m T g c mine) (value.Object o) v
        ≡ Some (Does (with_object (m T g c mine) o (channel (pushed v k))) value.Nil)
    sends = send_does (m T g c mine) o k on.0 v (is_open T g c mine o n held k on shut) lower

    longer : length (k.queue ++ v ∷ []) ≡ length k.queue + 1
    longer = length-append k.queue (v ∷ [])

    fits : length (k.queue ++ v ∷ []) ≤ k.capacity
    fits = let a = longer in let b = lower in omega arith

    still_open : k.closed ≡ false
    still_open = is_open T g c mine o n held k on shut

    open_shut : k.closed ≡ true → ⊥
    open_shut e = let z : true ≡ false = sym e ∙ still_open in cc z

    word : n + 4 ≡ control 0 (count (pushed v k) (T.at.phase o)) (T.at.head o)
    word =
        let e = n_is T g c mine o n held k on in
        let z : bit k.closed ≡ 0 = ap bit still_open in
        let a = longer in
        omega arith

    cells : (j : ℕ) (u : Value) → slice_get (k.queue ++ v ∷ []) j ≡ Some u
        → slice_index T.words (T.cell o (cell_of k (T.at.head o) j)) ≡ T.encode u
    cells j u q = ⊎_elim
        (λ w. T.channels.cells o j u k on w)
        (λ w. let place : i ≡ cell_of k (T.at.head o) j = behind
        ∙ (ap (λ (y : ℕ). (head_of n + y) % size) (let c1 = said'.1 in let p = no_phase in let w0 = w.0 in
        let z : count_of n ≡ j = omega arith in z)
        ∙ (ap (λ (y : ℕ). (y + j) % size) said'.2 ∙ ap (λ (y : ℕ). (T.at.head o + j) % y) (sym cap))) in
        subst (λ y. slice_index T.words (T.cell o y) ≡ T.encode u) place
        (cell_is T g c mine o n held k on i x (subst (λ y. InCell y (T.place o) i x) (sym hold) (refl, refl, refl))
        ∙ (sym code ∙ ap T.encode (sym w.1))))
        (get_snoc k.queue v j u q)

pub receive_is : ReceiveLaw
receive_is T g c mine o n i x size next hold free sizing filled some_size at_head = (
  k,
  on,
  v,
  queue,
  parts.2,
  value_is,
  receives,
  record {
    steps = does T.code T.page_words T.state g Recv (value.Object o ∷ []) next T.running
        (ap may_go (no_offer T g c mine next free)) on.1 refl
        (with_object (m T g c mine) o (channel (popped k queue))) v
        (length_slice_set T.state.plain.memory.heap o (channel (popped k queue)))
        (ap (option_map (operated T.state.plain g next.before.callers (frame_after_instr next.before.frame next.before.to) 0))
        receives);
    at = _;
    channels = commit T g c mine o n held k on next free (popped k queue) v
        (control (closed_of n) (count_of n - 1) hd) hd refl word
        cells (λ p. (shorter, rw hd_is (mod-lt (T.at.head o + 1) some_room)))
        (λ z. let p = some_room in absurd (omega arith)) (λ z. z);
  },
)
  where
    found : (k : Chan) × On T.state o k
    found = live_at T g Recv o [] next (inl refl)

    k : Chan
    k = found.0

    on : On T.state o k
    on = found.1

    held : HoldsAt c.hold (T.place o) n
    held = subst (λ y. HoldsAt y (T.place o) n) (sym hold) (refl, refl)

    said' : (closed_of n ≡ bit k.closed) × (count_of n ≡ count k (T.at.phase o)) × (head_of n ≡ T.at.head o)
    said' = said T g c mine o n held k on

    cap : k.capacity ≡ size
    cap = capacity_is T g c mine o n held k on size sizing

    some_room : 0 < k.capacity
    some_room = rw cap some_size

    bf : (T.at.phase o ≡ Calm) × (length k.queue ≤ k.capacity) × (T.at.head o < k.capacity)
    bf = T.channels.buffered o k on some_room

    no_phase : phase_number (T.at.phase o) ≡ 0
    no_phase = ap phase_number bf.0

    parts : (v : Value) × (queue : List Value) × (k.queue ≡ v ∷ queue)
    parts = first_of k.queue (let c1 = said'.1 in let p = no_phase in omega arith)

    v : Value
    v = parts.0

    queue : List Value
    queue = parts.1

    receives : receive (m T g c mine) (value.Object o) (blank_of next.before)
        ≡ Some (Does (with_object (m T g c mine) o (channel (popped k queue))) v)
    receives = receive_does (m T g c mine) o k on.0 (blank_of next.before) v queue parts.2

    long : length k.queue ≡ length queue + 1
    long = let e : length k.queue ≡ length (v ∷ queue) = ap length parts.2 in omega arith

    shorter : length queue ≤ k.capacity
    shorter = let a = long in let b = bf.1 in omega arith

    hd : ℕ
    hd = (head_of n + 1) % size

    hd_is : hd ≡ (T.at.head o + 1) % k.capacity
    hd_is = ap (λ (y : ℕ). (y + 1) % size) said'.2 ∙ ap (λ (y : ℕ). (T.at.head o + 1) % y) (sym cap)

    word : control (closed_of n) (count_of n - 1) hd ≡ control (bit k.closed) (length queue + phase_number (T.at.phase o)) hd
    word = let c0 = said'.0 in let c1 = said'.1 in let a = long in omega arith

    cells : (j : ℕ) (u : Value) → slice_get queue j ≡ Some u
        → slice_index T.words (T.cell o (cell_of k hd j)) ≡ T.encode u
    cells j u q = rw (hd_is, turned (T.at.head o) j k.capacity bf.2)
        (T.channels.cells o (suc j) u k on (ap (λ y. slice_get y (suc j)) parts.2 ∙ q))

    first : cell_of k (T.at.head o) 0 ≡ i
    first =
        let b = bf.2 in
        let z : (T.at.head o + 0) % k.capacity ≡ T.at.head o + 0 = mod-eq_of_lt (omega arith) in
        let h = said'.2 in
        omega arith

    value_is : T.encode v ≡ x
    value_is =
        sym (subst (λ y. slice_index T.words (T.cell o y) ≡ T.encode v) first
        (T.channels.cells o 0 v k on (ap (λ y. slice_get y 0) parts.2)))
        ∙ cell_is T g c mine o n held k on i x (subst (λ y. InCell y (T.place o) i x) (sym hold) (refl, refl, refl))

pub zero_is : ZeroLaw
zero_is T g c mine o n size next hold free sizing shut empty = (
  k,
  on,
  receives,
  record {
    steps = does T.code T.page_words T.state g Recv (value.Object o ∷ []) next T.running
        (ap may_go (no_offer T g c mine next free)) on.1 refl
        (with_object (m T g c mine) o (channel k)) (blank_of next.before)
        (length_slice_set T.state.plain.memory.heap o (channel k))
        (ap (option_map (operated T.state.plain g next.before.callers (frame_after_instr next.before.frame next.before.to) 0))
        receives);
    at = _;
    channels = commit T g c mine o n held k on next free k (blank_of next.before) n (T.at.head o) refl
        (n_is T g c mine o n held k on) (λ j u q. T.channels.cells o j u k on q)
        (λ p. let b = T.channels.buffered o k on p in (b.1, b.2)) (T.channels.unbuffered o k on) (λ z. z);
  },
)
  where
    found : (k : Chan) × On T.state o k
    found = live_at T g Recv o [] next (inl refl)

    k : Chan
    k = found.0

    on : On T.state o k
    on = found.1

    held : HoldsAt c.hold (T.place o) n
    held = subst (λ y. HoldsAt y (T.place o) n) (sym hold) (refl, refl)

    said' : (closed_of n ≡ bit k.closed) × (count_of n ≡ count k (T.at.phase o)) × (head_of n ≡ T.at.head o)
    said' = said T g c mine o n held k on

    cap : k.capacity ≡ size
    cap = capacity_is T g c mine o n held k on size sizing

    none_in : k.queue ≡ []
    none_in = ⊎_elim (λ u. (T.channels.unbuffered o k on (cap ∙ u)).0)
        (λ u. empty_of k.queue (let c1 = said'.1 in omega arith)) empty

    receives : receive (m T g c mine) (value.Object o) (blank_of next.before)
        ≡ Some (Does (with_object (m T g c mine) o (channel k)) (blank_of next.before))
    receives = receive_blank (m T g c mine) o k on.0 (blank_of next.before) none_in (shut_or k.closed (sym said'.0 ∙ shut))

pub close_is : CloseLaw
close_is T g c mine o n next hold free shut = (
  k,
  on,
  closes,
  record {
    steps = does T.code T.page_words T.state g Close (value.Object o ∷ []) next T.running
        (ap may_go (no_offer T g c mine next free)) on.1 refl
        (with_object (m T g c mine) o (channel (closed_now k))) value.Nil
        (length_slice_set T.state.plain.memory.heap o (channel (closed_now k)))
        (ap (λ (e : Effect). Some (operated T.state.plain g next.before.callers
        (λ _. frame_after_instr next.before.frame next.before.to value.Nil) next.before.instr.place e))
        closes);
    at = _;
    channels = commit T g c mine o n held k on next free (closed_now k) value.Nil (n + 2) (T.at.head o) refl word
        (λ j u q. T.channels.cells o j u k on q)
        (λ p. let b = T.channels.buffered o k on p in (b.1, b.2)) (T.channels.unbuffered o k on) (λ z. refl);
  },
)
  where
    found : (k : Chan) × On T.state o k
    found = live_at T g Close o [] next (inr (inr refl))

    k : Chan
    k = found.0

    on : On T.state o k
    on = found.1

    held : HoldsAt c.hold (T.place o) n
    held = subst (λ y. HoldsAt y (T.place o) n) (sym hold) (refl, refl)

    still_open : k.closed ≡ false
    still_open = is_open T g c mine o n held k on shut

    closes : close (m T g c mine) (value.Object o)
        ≡ Does (with_object (m T g c mine) o (channel (closed_now k))) value.Nil
    closes = close_does (m T g c mine) o k on.0 still_open

    word : n + 2 ≡ control 1 (count k (T.at.phase o)) (T.at.head o)
    word =
        let e = n_is T g c mine o n held k on in
        let z : bit k.closed ≡ 0 = ap bit still_open in
        omega arith

-- Reading a capacity and a control, locking a control, and cells under the lock. In all of these the state stays. What the record newly
-- knows is true by the word that was found, and only locking and storing change a word.
use Rattle.std.proofs.Common.{◌&&◌, ◌≡◌, ◌≢◌, ℕ, zero, suc, ◌+◌, ◌%◌, ◌^◌, ◌<◌, ◌≤◌, ◌==◌, Bool, true, false, List}
use Rattle.std.proofs.Common.{length, Some, slice_get, slice_set, slice_index, refl, ap, sym, subst, ◌∙◌, inl, inr, ⊎_elim}
use Rattle.std.proofs.Common.{if◌then◌else◌, arith}
use Rattle.std.proofs.lemmas.List.{get_or-set_same}
use Rattle.std.proofs.lemmas.Option.{slice_get_within}
use Rattle.std.proofs.lemmas.Bool.Decides.{nat_tests}
use mathlib.Core.Logic.{dite}
use native.Mathlib.Decide.{ℕ_discrete}
use Rattle.rgo_sound.specs.Memory.Memory.{Memory}
use Rattle.rgo_sound.specs.Code.Code.{Code}
use Rattle.rgo_sound.specs.RegionMachine.States.{RegionState}
use Rattle.rgo_core_channels.specs.Standing.{IsAt}
use Rattle.rgo_core_channels.proofs.Live.{channel_at, offered_at}
use Rattle.rgo_sound.proofs.Tests.{and_split, eq_of}
use Rattle.rgo_core_channels.specs.Channels.{Chan, channel, On, Phase, Calm, Offered, Accepted, phase_number, OfferOf}
use Rattle.rgo_core_channels.specs.Channels.{Lock, Unlocked, LockedBy, lock_bit, Places, count, Channels}
use Rattle.rgo_core_channels.specs.Controls.{bit, control, closed_of, count_of, head_of, extent, tail_words}
use Rattle.rgo_core_channels.specs.Moments.{Moment, LoadsWord, KeepsState}
use Rattle.rgo_core_channels.specs.Locking.{IsCell, IsSpare, LockLaw, CellLoadLaw, CellStoreLaw}
use Rattle.rgo_core_channels.specs.Looking.{CapacityLaw, ControlLaw, OwnControlLaw}
use Rattle.rgo_core_channels.specs.Records.{ChannelRec, Free, Locked, Wrote, Read, HoldsAt, InCell, KnowsOf, Reach, Reached, Sized, Saw, Shut, Stranded, Offering}
use Rattle.rgo_core_channels.specs.Records.{with_hold, with_size, with_look, with_own_look, with_lock, with_reach}
use Rattle.rgo_core_channels.proofs.Decoding.{decode, decode_locked, bit_small, lock_small, even_control, shut_or}
use Rattle.rgo_core_memory.proofs.Rows.{set_again}
use Rattle.rgo_core_channels.proofs.Lists.{set_own}
use Rattle.rgo_core_channels.proofs.Steps.{one_place, same_chan, they_know, place_in, no_buffer, count_small, control_step}
use Rattle.rgo_core_channels.proofs.Steps.{record_step, cell_step, recs_was, stays, here, is_mine}

-- a record that has seen one thing more
knows_saw : (code : Code) (place : ℕ → ℕ) (s : RegionState) (g : ℕ) (c : ChannelRec) (saw : Saw)
    → ((b : ℕ) → KnowsOf c b → IsAt code place s g c.post b) → ((b : ℕ) → saw ≡ Shut b → IsAt code place s g c.post b)
    → ((b : ℕ) → saw ≡ Stranded b → IsAt code place s g c.post b) → (a : ℕ) → KnowsOf (record c { saw = saw }) a
    → IsAt code place s g c.post a
knows_saw code place s g c saw old shut stranded a (inl t) = old a (inl t)
knows_saw code place s g c saw old shut stranded a (inr (inl t)) = old a (inr (inl t))
knows_saw code place s g c saw old shut stranded a (inr (inr (inl e))) = shut a e
knows_saw code place s g c saw old shut stranded a (inr (inr (inr (inl e)))) = stranded a e
knows_saw code place s g c saw old shut stranded a (inr (inr (inr (inr t)))) = old a (inr (inr (inr (inr t))))

knows_reach : (code : Code) (place : ℕ → ℕ) (s : RegionState) (g : ℕ) (c : ChannelRec) (reach : Reach)
    → ((b : ℕ) → KnowsOf c b → IsAt code place s g c.post b)
    → ((b i w : ℕ) → reach ≡ Reached b i w → IsAt code place s g c.post b) → (a : ℕ) → KnowsOf (record c { reach = reach }) a
    → IsAt code place s g c.post a
knows_reach code place s g c reach old found a (inl t) = old a (inl t)
knows_reach code place s g c reach old found a (inr (inl t)) = old a (inr (inl t))
knows_reach code place s g c reach old found a (inr (inr (inl e))) = old a (inr (inr (inl e)))
knows_reach code place s g c reach old found a (inr (inr (inr (inl e)))) = old a (inr (inr (inr (inl e))))
knows_reach code place s g c reach old found a (inr (inr (inr (inr (inl e))))) = old a (inr (inr (inr (inr (inl e)))))
knows_reach code place s g c reach old found a (inr (inr (inr (inr (inr t))))) = found a t.0 t.1 t.2

module _ (T : Moment) (g : ℕ) (c : ChannelRec) (mine : slice_get T.recs g ≡ Some c) where
  abbrev pub m : Memory
  m = T.state.plain.memory

  abbrev pub K : Channels T.code T.page_words T.encode T.place T.cell T.words T.recs T.state T.at
  K = T.channels

  -- what follows from a control
  pub shown : (o : ℕ) (k : Chan) → On T.state o k → (closed_of (slice_index T.words (T.place o)) ≡ bit k.closed)
      × (count_of (slice_index T.words (T.place o)) ≡ count k (T.at.phase o))
      × (head_of (slice_index T.words (T.place o)) ≡ T.at.head o)
  shown o k on = rw (K.controls o k on) (decode_locked (lock_bit (T.at.lock o)) (bit k.closed) (count k (T.at.phase o))
      (T.at.head o) (lock_small (T.at.lock o)) (bit_small k.closed)
      (count_small T.code T.page_words T.encode T.place T.cell T.words T.recs T.state T.at K o k on))

  head_small : (o : ℕ) (k : Chan) → On T.state o k → T.at.head o < 1073741820
  head_small o k on = go k.capacity refl
    where
      go : (n : ℕ) → k.capacity ≡ n → T.at.head o < 1073741820
      go zero z = let h = (K.unbuffered o k on z).1 in omega arith
      go (suc n) z = let h = (K.buffered o k on (omega arith)).2 in let s = K.small o k on in omega arith

  -- the record notes what was loaded
  module _ (d : ChannelRec) (i : ℕ)
      (to : Channels T.code T.page_words T.encode T.place T.cell T.words (slice_set T.recs g d) T.state T.at) where
    looks : Channels T.code T.page_words T.encode T.place T.cell (slice_set T.words i (slice_index T.words i)) (slice_set T.recs g d)
        T.state T.at
    looks = rw (set_own T.words i) to

  capacity_looks : (o : ℕ) (k : Chan) → On T.state o k → IsAt T.code T.place T.state g c.post (T.place o) → LoadsWord T g (T.place o + 1) (with_size c (T.place o))
      × (T.place o + 2 + tail_words T.page_words (slice_index T.words (T.place o + 1)) ≤ length T.words)
      × (slice_index T.words (T.place o + 1) < 1073741820)
  capacity_looks o k on near =
      let w = slice_index T.words (T.place o + 1) in
      let d = with_size c (T.place o) w in (
        looks d (T.place o + 1) (record_step T.code T.page_words T.encode T.place T.cell T.words T.recs T.state T.at K g c d mine
            (λ a n q. q) (λ a n q. q) (λ a i v q. K.in_cells g a i v c mine q)
            (λ a n e. let x : Sized (T.place o) w ≡ Sized a n = e in let y : T.place o ≡ a = cc x in let z : w ≡ n = cc x in
            (o, k, on, y, sym (K.capacities o k on) ∙ z))
            (λ a i v e. K.reaches g a i v c mine e)
            (λ a e. K.saws g a c mine e) (λ a e. K.strands g a c mine e) refl
            (λ a q. ⊎_elim (λ t. K.knows g a c mine (inl t)) (λ t. ⊎_elim
            (λ r. let x : Sized (T.place o) w ≡ Sized a r.0 = r.1 in let y : T.place o ≡ a = cc x in
            subst (IsAt T.code T.place T.state g c.post) y near)
            (λ r. K.knows g a c mine (inr (inr r))) t) q)),
        (let e = K.capacities o k on in let i = K.inside o k on in rw e i),
        (let e = K.capacities o k on in let i = K.small o k on in rw e i),
      )

  control_looks : (o : ℕ) (k : Chan) → On T.state o k → IsAt T.code T.place T.state g c.post (T.place o) → LoadsWord T g (T.place o) (with_look c (T.place o))
      × (slice_index T.words (T.place o) + 4 < 2 ^ 64)
      × (head_of (slice_index T.words (T.place o)) < extent k.capacity)
  control_looks o k on near = (looks (with_look c (T.place o) w) (T.place o) (go (closed_of w == 1) refl), small, within k.capacity refl)
    where
      w : ℕ
      w = slice_index T.words (T.place o)

      go : (b : Bool) → (closed_of w == 1) ≡ b → Channels T.code T.page_words T.encode T.place T.cell T.words
          (slice_set T.recs g (if b then record c { saw = Shut (T.place o) } else c)) T.state T.at
      go false e = rw (set_again T.recs g c mine) K
      go true e = record_step T.code T.page_words T.encode T.place T.cell T.words T.recs T.state T.at K g c
          (record c { saw = Shut (T.place o) }) mine (λ a n q. q) (λ a n q. q) (λ a i v q. K.in_cells g a i v c mine q)
          (λ a n q. K.sizes g a n c mine q)
          (λ a i v q. K.reaches g a i v c mine q)
          (λ a q. let x : Shut (T.place o) ≡ Shut a = q in let y : T.place o ≡ a = cc x in
          (o, k, on, y, shut_or k.closed (sym (shown o k on).0 ∙ is_one)))
          (λ a q. let x : Shut (T.place o) ≡ Stranded a = q in absurd (cc x)) refl
          (λ a q. knows_saw T.code T.place T.state g c (Shut (T.place o)) (λ b r. K.knows g b c mine r)
          (λ b r. let x : Shut (T.place o) ≡ Shut b = r in let y : T.place o ≡ b = cc x in
          subst (IsAt T.code T.place T.state g c.post) y near)
          (λ b r. let x : Shut (T.place o) ≡ Stranded b = r in absurd (cc x)) a q)
        where
          is_one : closed_of w ≡ 1
          is_one = grind (arith, nat_tests)

      small : w + 4 < 2 ^ 64
      small =
          let e = K.controls o k on in
          let l = lock_small (T.at.lock o) in
          let b = bit_small k.closed in
          let n = count_small T.code T.page_words T.encode T.place T.cell T.words T.recs T.state T.at K o k on in
          let h = head_small o k on in
          rw e (bound (lock_bit (T.at.lock o)) (bit k.closed) (count k (T.at.phase o)) (T.at.head o) l b n h)
        where
          bound : (l b n h : ℕ) → l ≤ 1 → b ≤ 1 → n < 1073741824 → h < 1073741820
              → l + control b n h + 4 < 2 ^ 64
          bound l b n h hl hb hn hh = omega arith

      within : (n : ℕ) → k.capacity ≡ n → head_of w < extent k.capacity
      within zero z = let h = (K.unbuffered o k on z).1 in let s = (shown o k on).2 in omega arith
      within (suc n) z = let h = (K.buffered o k on (omega arith)).2 in let s = (shown o k on).2 in omega arith

  -- a goroutine looks at the channel at which its offer is
  own_looks : (o : ℕ) (k : Chan) → On T.state o k → c.post ≡ Offering (T.place o)
      → LoadsWord T g (T.place o) (with_own_look c (T.place o)) × (slice_index T.words (T.place o) + 4 < 2 ^ 64)
  own_looks o k on post = (
    looks (with_own_look c (T.place o) w) (T.place o)
        (go (closed_of w == 1 && count_of w == 1) refl),
    (control_looks o k on (inr post)).1,
  )
    where
      w : ℕ
      w = slice_index T.words (T.place o)

      go : (b : Bool) → (closed_of w == 1 && count_of w == 1) ≡ b → Channels T.code T.page_words T.encode T.place T.cell T.words
          (slice_set T.recs g (if b then record c { saw = Stranded (T.place o) } else c)) T.state T.at
      go false e = rw (set_again T.recs g c mine) K
      go true e = record_step T.code T.page_words T.encode T.place T.cell T.words T.recs T.state T.at K g c
          (record c { saw = Stranded (T.place o) }) mine (λ a n q. q) (λ a n q. q)
          (λ a i v q. K.in_cells g a i v c mine q) (λ a n q. K.sizes g a n c mine q)
          (λ a i v q. K.reaches g a i v c mine q)
          (λ a q. let x : Stranded (T.place o) ≡ Shut a = q in absurd (cc x))
          (λ a q. let x : Stranded (T.place o) ≡ Stranded a = q in let y : T.place o ≡ a = cc x in
          (o, k, on, y, shut_or k.closed (sym (shown o k on).0 ∙ both.0), mine_is (T.at.phase o) refl own)) refl
          (λ a q. knows_saw T.code T.place T.state g c (Stranded (T.place o)) (λ b r. K.knows g b c mine r)
          (λ b r. let x : Stranded (T.place o) ≡ Shut b = r in absurd (cc x))
          (λ b r. let x : Stranded (T.place o) ≡ Stranded b = r in let y : T.place o ≡ b = cc x in
          inr (post ∙ ap Offering y)) a q)
        where
          both : (closed_of w ≡ 1) × (count_of w ≡ 1)
          both = let t = and_split (closed_of w == 1) (count_of w == 1) e in (eq_of (closed_of w) 1 t.0, eq_of (count_of w) 1 t.1)

          own : OfferOf (T.at.phase o) g
          own =
              let t = K.posts g (T.place o) c mine post in
              subst (λ p. OfferOf (T.at.phase p) g)
              (one_place T.code T.page_words T.encode T.place T.cell T.words T.recs T.state T.at K t.0 o t.1 k t.2 on t.3) t.4

          one : phase_number (T.at.phase o) ≡ 1
          one =
              let cap = no_buffer T.code T.page_words T.encode T.place T.cell T.words T.recs T.state T.at K o g k on own in
              let l : length k.queue ≡ 0 = ap length (K.unbuffered o k on cap).0 in
              let n = (shown o k on).1 in
              let b = both.1 in
              omega arith

          mine_is : (p : Phase) → T.at.phase o ≡ p → OfferOf (T.at.phase o) g → T.at.phase o ≡ Offered g
          mine_is Calm q r = absurd (subst (λ p. OfferOf p g) q r)
          mine_is (Offered j) q r = q ∙ ap Offered (subst (λ p. OfferOf p g) q r)
          mine_is (Accepted j) q r = let z : phase_number (T.at.phase o) ≡ 2 = ap phase_number q in let f = one in
              absurd (omega arith)

  lock_keeps : (o n : ℕ) (k : Chan) → On T.state o k → IsAt T.code T.place T.state g c.post (T.place o) → n % 2 ≡ 0 → c.hold ≡ Free
      → KeepsState T g (T.place o) (λ w. if w == n then suc n else w) (with_lock c (T.place o) n)
  lock_keeps o n k on near even idle = go (w == n) refl
    where
      w : ℕ
      w = slice_index T.words (T.place o)

      d : ChannelRec
      d = with_hold c (Locked (T.place o) n)

      go : (b : Bool) → (w == n) ≡ b → (at : Places) × Channels T.code T.page_words T.encode T.place T.cell
          (slice_set T.words (T.place o) (if b then suc n else w))
          (slice_set T.recs g (if b then with_hold c (Locked (T.place o) n) else c)) T.state at
      go false e = (T.at, rw (set_own T.words (T.place o), set_again T.recs g c mine) K)
      go true e = (
        _,
        control_step T.code T.page_words T.encode T.place T.cell T.words T.recs T.state T.at K g c d mine o k k (suc n) (LockedBy g)
            (T.at.head o) (T.at.phase o) T.state on (record {
              heap = sym (set_again m.heap o (channel k) on.0);
              touch = λ p. refl;
              capacity = refl;
              word = let y = n_is in omega arith;
              cells = λ i v q. K.cells o i v k on q;
              buffered = K.buffered o k on;
              unbuffered = K.unbuffered o k on;
              closes = λ t. t;
              told = record {
                mine_lock = inl unlocked;
                only = λ a j q. absurd (subst (λ y. HoldsAt y a j) idle q);
                lock = λ j q. (let y : LockedBy g ≡ LockedBy j = q in sym (cc y), n, (refl, refl));
                hold = λ a j q. (sym q.0, refl, ap suc q.1);
                no_cell = λ a i v q. q;
                size = λ a j q. q;
                reach = λ a i w q. q;
                saw = λ a q. q;
                strand = λ a q. q;
              };
              stranded = λ j q f. f;
              know = they_know T.code T.page_words T.encode T.place T.cell T.words T.recs T.state T.at K g c d mine T.state
                  (λ a q. ⊎_elim (λ t. subst (IsAt T.code T.place T.state g c.post) t.1.0 near)
                  (λ t. K.knows g a c mine (inr t)) q)
                  (λ j y ne e q. (refl, refl));
              as_many = refl;
              calm = λ j y h p q f. ⊎_elim
                  (λ (u : (j ≡ g) × (d ≡ y)). K.calm g c h mine (rw (← u.0) q) (ap (λ (r : ChannelRec). r.post) u.1 ∙ f))
                  (λ (u : (j ≢ g) × (slice_get T.recs j ≡ Some y)). K.calm j y h u.1 q f)
                  (recs_was T.code T.page_words T.encode T.place T.cell T.words T.recs T.state T.at K g c d mine j y p);
              others = λ p j l ne x q. ((refl, refl), λ w. refl);
              mine_post = λ a q. inr (q, λ r. r);
              theirs = λ j ne q. q;
              offer = λ j q. let t = K.offers o j k on q in dite (ℕ_discrete j g)
                  (λ w. (
                    d,
                    t.1,
                    rw w (here T.code T.page_words T.encode T.place T.cell T.words T.recs T.state T.at K g c d mine),
                    t.3,
                    ap (λ (y : ChannelRec). y.post) (sym (is_mine T.code T.page_words T.encode T.place T.cell T.words T.recs T.state T.at K g c d mine j t.0 t.2 w)) ∙ t.4,
                    t.5,
                  ))
                  (λ ne. (
                    t.0,
                    t.1,
                    stays T.code T.page_words T.encode T.place T.cell T.words T.recs T.state T.at K g c d mine j t.0 ne t.2,
                    t.3,
                    t.4,
                    t.5,
                  ));
              wait = λ j q. K.waits o j k on q;
            }),
      )
        where
          hit : w ≡ n
          hit = grind (arith, nat_tests)

          unlocked : T.at.lock o ≡ Unlocked
          unlocked = by (T.at.lock o) refl
            where
              by : (l : Lock) → T.at.lock o ≡ l → T.at.lock o ≡ Unlocked
              by Unlocked q = q
              by (LockedBy j) q =
                  let e = K.controls o k on in
                  let z : lock_bit (T.at.lock o) ≡ 1 = ap lock_bit q in
                  let y = even_control (bit k.closed) (count k (T.at.phase o)) (T.at.head o) in
                  let t = hit in
                  absurd (omega arith)

          n_is : n ≡ control (bit k.closed) (count k (T.at.phase o)) (T.at.head o)
          n_is =
              let e = K.controls o k on in
              let z : lock_bit (T.at.lock o) ≡ 0 = ap lock_bit unlocked in
              let t = hit in
              omega arith

  -- the word of a cell that the record has found
  pub found_is : (a i size p o : ℕ) (k : Chan) → On T.state o k → T.place o ≡ a → k.capacity ≡ size → i < extent size
      → IsCell T.page_words c a size i p → T.cell o i ≡ p
  found_is a i size p o k on at cap within (inl t) =
      K.row o i k on (rw cap t.0) (rw cap within) ∙ (ap (λ b. b + 2 + i) at ∙ sym t.1)
  found_is a i size p o k on at cap within (inr e) =
      let t = K.reaches g a i p c mine e in
      let same = one_place T.code T.page_words T.encode T.place T.cell T.words T.recs T.state T.at K t.0 o t.1 k t.2 on
      (t.3 ∙ sym at) in
      ap (λ q. T.cell q i) (sym same) ∙ t.5

  pub number_looks : (a i size : ℕ) → c.size ≡ Sized a size → i < extent size
      → (o : ℕ) × (k : Chan) × On T.state o k × (T.place o ≡ a) × (k.capacity ≡ size) × (T.cell o i < length T.words)
      × ((j : ℕ) → LoadsWord T g j (λ w. with_reach c a i (T.cell o i)))
  number_looks a i size sizing within =
      let s = K.sizes g a size c mine sizing in
      let o = s.0 in let k = s.1 in let on = s.2 in
      let inside : i < extent k.capacity = rw s.4 within in
      let d = with_reach c a i (T.cell o i) in (
        o,
        k,
        on,
        s.3,
        s.4,
        K.cells_inside o i k on inside,
        λ j. looks d j
            (record_step T.code T.page_words T.encode T.place T.cell T.words T.recs T.state T.at K g c d mine
            (λ b j q. q) (λ b j q. q) (λ b j v q. K.in_cells g b j v c mine q)
            (λ b j q. K.sizes g b j c mine q)
            (λ b j v q. let x : Reached a i (T.cell o i) ≡ Reached b j v = q in
            let y : a ≡ b = cc x in let z : i ≡ j = cc x in let u : T.cell o i ≡ v = cc x in
            (o, k, on, s.3 ∙ y, rw (← z) inside, ap (T.cell o) (sym z) ∙ u))
            (λ b q. K.saws g b c mine q) (λ b q. K.strands g b c mine q) refl
            (λ b q. knows_reach T.code T.place T.state g c (Reached a i (T.cell o i)) (λ r t. K.knows g r c mine t)
            (λ r j v t. let x : Reached a i (T.cell o i) ≡ Reached r j v = t in let y : a ≡ r = cc x in
            subst (IsAt T.code T.place T.state g c.post) y (K.knows g a c mine (inr (inl (size, sizing))))) b q)),
      )

  load_looks : (a n i size p : ℕ) → c.hold ≡ Locked a n → c.size ≡ Sized a size → i < extent size
      → IsCell T.page_words c a size i p → LoadsWord T g p (λ w. with_hold c (Read a n i w))
  load_looks a n i size p hold sizing within found =
      let w = slice_index T.words p in
      let s = K.sizes g a size c mine sizing in
      let here : T.cell s.0 i ≡ p = found_is a i size p s.0 s.1 s.2 s.3 s.4 within found in
      looks (with_hold c (Read a n i w)) p
      (record_step T.code T.page_words T.encode T.place T.cell T.words T.recs T.state T.at K g c (with_hold c (Read a n i w)) mine
      (λ b j q. subst (λ y. HoldsAt y b j) (sym hold) q)
      (λ b j q. subst (λ y. HoldsAt y b j) hold q)
      (λ b j v q. (
        s.0,
        s.1,
        s.2,
        s.3 ∙ q.0,
        rw (s.4, ← q.1) within,
        ap (λ y. slice_index T.words (T.cell s.0 y)) (sym q.1) ∙ (ap (slice_index T.words) here ∙ q.2),
      ))
      (λ b j q. K.sizes g b j c mine q)
      (λ b j v q. K.reaches g b j v c mine q)
      (λ b q. K.saws g b c mine q) (λ b q. K.strands g b c mine q) refl
      (λ b q. ⊎_elim (λ t. K.knows g b c mine (inl (t.0, subst (λ y. HoldsAt y b t.0) (sym hold) t.1)))
      (λ t. K.knows g b c mine (inr t)) q))

  store_keeps : (a n i size p x : ℕ) → c.hold ≡ Locked a n → c.size ≡ Sized a size → IsSpare n size i
      → IsCell T.page_words c a size i p → KeepsState T g p (λ w. x) (λ w. with_hold c (Wrote a n i x))
  store_keeps a n i size p x hold sizing spare found = (
    T.at,
    rw (← s.3, ← here) (record_step T.code T.page_words T.encode T.place T.cell more T.recs T.state
        T.at first g c (with_hold c (Wrote (T.place o) n i x)) mine
        (λ b j q. subst (λ y. HoldsAt y b j) (sym hold') q)
        (λ b j q. subst (λ y. HoldsAt y b j) hold' q)
        (λ b j v q. (
          o,
          k,
          on,
          q.0,
          rw (← q.1) inside,
          ap (λ y. slice_index more (T.cell o y)) (sym q.1)
              ∙ (get_or-set_same T.words (T.cell o i) x 0 (K.cells_inside o i k on inside) ∙ q.2),
        ))
        (λ b j q. K.sizes g b j c mine q)
        (λ b j v q. K.reaches g b j v c mine q)
        (λ b q. K.saws g b c mine q) (λ b q. K.strands g b c mine q) refl
        (λ b q. ⊎_elim (λ t. K.knows g b c mine (inl (t.0, subst (λ y. HoldsAt y b t.0) (sym hold') t.1)))
        (λ t. K.knows g b c mine (inr t)) q)),
  )
    where
      s : (o : ℕ) × (k : Chan) × On T.state o k × (T.place o ≡ a) × (k.capacity ≡ size)
      s = K.sizes g a size c mine sizing

      o : ℕ
      o = s.0

      k : Chan
      k = s.1

      on : On T.state o k
      on = s.2

      hold' : c.hold ≡ Locked (T.place o) n
      hold' = hold ∙ ap (λ b. Locked b n) (sym s.3)

      more : List ℕ
      more = slice_set T.words (T.cell o i) x

      here : T.cell o i ≡ p
      here = found_is a i size p o k on s.3 s.4 spare.0 found

      inside : i < extent k.capacity
      inside = rw s.4 spare.0

      held : HoldsAt c.hold (T.place o) n
      held = subst (λ y. HoldsAt y (T.place o) n) (sym hold') (refl, refl)

      said : (count_of n ≡ count k (T.at.phase o)) × (head_of n ≡ T.at.head o)
      said =
          let t = K.locks g (T.place o) n c mine held in
          let same = one_place T.code T.page_words T.encode T.place T.cell T.words T.recs T.state T.at K t.0 o t.1 k t.2 on t.3 in
          let l : lock_bit (T.at.lock o) ≡ 1 = ap lock_bit (subst (λ p. T.at.lock p ≡ LockedBy g) same t.4) in
          let e = K.controls o k on in
          let w = t.5 in
          let is : n ≡ control (bit k.closed) (count k (T.at.phase o)) (T.at.head o) = omega arith in
          let d = decode (bit k.closed) (count k (T.at.phase o)) (T.at.head o) (bit_small k.closed)
          (count_small T.code T.page_words T.encode T.place T.cell T.words T.recs T.state T.at K o k on) in
          (ap count_of is ∙ d.1, ap head_of is ∙ d.2)

      first : Channels T.code T.page_words T.encode T.place T.cell more T.recs T.state T.at
      first = cell_step T.code T.page_words T.encode T.place T.cell T.words T.recs T.state T.at K g c mine o k on n held
          (λ b j v q. subst (λ y. InCell y b j v) hold' q) i x inside
          (λ j u e q. let p = place_in T.code T.page_words T.encode T.place T.cell T.words T.recs T.state T.at K o j u k on e in
          let b = slice_get_within k.queue j u e in
          let n1 = said.0 in
          spare.1 j (omega arith) (rw (← s.4) p.0)
          (ap (λ h. (h + j) % size) said.1 ∙ (ap (λ z. (T.at.head o + j) % z) (sym s.4) ∙ q)))
          (λ j e q. let z : k.capacity ≡ 0 = no_buffer T.code T.page_words T.encode T.place T.cell T.words T.recs T.state T.at K o j k on
          (subst (λ y. OfferOf y j) (sym e) refl) in
          let l : length k.queue ≡ 0 = ap length (K.unbuffered o k on z).0 in
          let f : phase_number (T.at.phase o) ≡ 1 = ap phase_number e in
          let n1 = said.0 in
          spare.2 (sym s.4 ∙ z) (omega arith))

pub capacity_is : CapacityLaw
capacity_is T g c mine a at =
    let t = channel_at T g c mine a at in
    subst (λ b. IsAt T.code T.place T.state g c.post b → LoadsWord T g (b + 1) (with_size c b)
    × (b + 2 + tail_words T.page_words (slice_index T.words (b + 1)) ≤ length T.words)
    × (slice_index T.words (b + 1) < 1073741820)) t.3 (capacity_looks T g c mine t.0 t.1 t.2) at

pub control_is : ControlLaw
control_is T g c mine a at =
    let t = channel_at T g c mine a at in
    let x = subst (λ b. IsAt T.code T.place T.state g c.post b → LoadsWord T g b (with_look c b)
    × (slice_index T.words b + 4 < 2 ^ 64)
    × (head_of (slice_index T.words b) < extent t.1.capacity)) t.3 (control_looks T g c mine t.0 t.1 t.2) at in (
      x.0,
      x.1,
      λ size sizing. let r = T.channels.sizes g a size c mine sizing in
          let same : t.0 ≡ r.0 = one_place T.code T.page_words T.encode T.place T.cell T.words T.recs T.state T.at T.channels t.0 r.0 t.1 r.1 t.2 r.2
          (t.3 ∙ sym r.3) in
          let cap : t.1.capacity ≡ size = ap (λ (y : Chan). y.capacity) (same_chan T.state r.0 t.1 r.1
          (subst (λ p. On T.state p t.1) same t.2) r.2) ∙ r.4 in
          subst (λ n. head_of (slice_index T.words a) < extent n) cap x.2,
    )

pub own_control_is : OwnControlLaw
own_control_is T g c mine a post =
    let t = offered_at T g c mine a post in
    subst (λ b. c.post ≡ Offering b → LoadsWord T g b (with_own_look c b) × (slice_index T.words b + 4 < 2 ^ 64)) t.3
    (own_looks T g c mine t.0 t.1 t.2) post

pub lock_is_taken : LockLaw
lock_is_taken T g c mine a n at even idle =
    let t = channel_at T g c mine a at in
    subst (λ b. IsAt T.code T.place T.state g c.post b → KeepsState T g b (λ w. if w == n then suc n else w) (with_lock c b n)) t.3
    (λ here. lock_keeps T g c mine t.0 n t.1 t.2 here even idle) at

pub cell_load_is : CellLoadLaw
cell_load_is T g c mine = load_looks T g c mine

pub cell_store_is : CellStoreLaw
cell_store_is T g c mine = store_keeps T g c mine

-- The store that commits an offer, a meeting or an acknowledgement, and unlocks. The hard part of an offer is that no goroutine has
-- another one there (`no_holder`), which the region machine tests over all holders: the image has one phase for each channel. In a
-- meeting two goroutines change in the state, and one record.
use Rattle.std.proofs.Common.{◌≡◌, ◌≢◌, ℕ, ◌+◌, ◌-◌, true, false, [], ◌∷◌}
use Rattle.std.proofs.Common.{length, Some, slice_get, slice_set, refl, ap, sym, subst, ◌∙◌, inl, inr}
use Rattle.std.proofs.Common.{⊎_elim, arith, nat_eq}
use Rattle.std.proofs.lemmas.Option.{same_Some, slice_get_within}
use mathlib.Core.Logic.{dite}
use native.Mathlib.Decide.{ℕ_discrete}
use Rattle.std.specs.List.{list_any}
use Rattle.rgo_sound.specs.Typed.declared.actions.Action.TheVariants.{Recv, Send}
use Rattle.rgo_sound.specs.Memory.Channels.{is_meeting_at}
use Rattle.rgo_sound.specs.Memory.declared.values.Value.{Value}
use Rattle.rgo_sound.specs.Memory.declared.values.Value.TheVariants as value
use Rattle.rgo_sound.specs.RegionMachine.Duties.{may_go, attended}
use Rattle.rgo_sound.specs.RegionMachine.Machine.{Acknowledge}
use Rattle.rgo_sound.specs.RegionMachine.Offers.{offers_on}
use Rattle.rgo_sound.specs.RegionMachine.States.{Holder, NoOffer, Standing, Taken, RegionState}
use Rattle.rgo_sound.proofs.Places.{get_set_same, get_some, length_set as length_slice_set}
use Rattle.rgo_sound.proofs.Tests.{split, eq_of}
use Rattle.rgo_core_channels.specs.Channels.{Chan, channel, On, Phase, Calm, Offered, Accepted, phase_number, OfferOf}
use Rattle.rgo_core_channels.specs.Channels.{holder_offer, Unlocked, count}
use Rattle.rgo_core_channels.specs.Controls.{bit, control, closed_of, count_of, head_of}
use Rattle.rgo_core_channels.specs.Moments.{Gains, Moment}
use Rattle.rgo_core_channels.specs.After.{after_meeting}
use Rattle.rgo_core_channels.specs.Meetings.{ChannelOfferLaw, ChannelMeetLaw, ChannelAcknowledgeLaw}
use Rattle.rgo_core_channels.specs.Records.{ChannelRec, Locked, HoldsAt, InCell}
use Rattle.rgo_core_channels.specs.Records.{Post, Nowhere, Offering, at_rest, offering_record}
use Rattle.rgo_core_channels.specs.Standing.{Next, passed_frames, passed_holder}
use Rattle.rgo_core_channels.proofs.Buffers.{posted, no_offer, lock_is, n_is, said, capacity_is, cell_is, is_open}
use Rattle.rgo_core_memory.proofs.Rows.{set_else, set_again}
use Rattle.rgo_core_channels.proofs.Offering.{is_place, none_there, offers, acknowledges, meets}
use Rattle.rgo_core_channels.proofs.Steps.{Same, no_buffer, one_offer, control_step, recs_was}
use Rattle.rgo_core_channels.proofs.Steps.{before_same, freed, stays, here, they_know, knows_post, rest_knows}
use Rattle.rgo_core_channels.proofs.Live.{live_at, offered_at}

calm_of : (p : Phase) → phase_number p ≡ 0 → p ≡ Calm
calm_of Calm e = refl
calm_of (Offered h) e = absurd (omega arith)
calm_of (Accepted h) e = absurd (omega arith)

offered_of : (p : Phase) → phase_number p ≡ 1 → (h : ℕ) × (p ≡ Offered h)
offered_of Calm e = absurd (omega arith)
offered_of (Offered h) e = (h, refl)
offered_of (Accepted h) e = absurd (omega arith)

accepted_of : (p : Phase) → phase_number p ≡ 2 → (h : ℕ) × (p ≡ Accepted h)
accepted_of Calm e = absurd (omega arith)
accepted_of (Offered h) e = absurd (omega arith)
accepted_of (Accepted h) e = (h, refl)

module _ (T : Moment) where
  -- without a buffer the count is the phase
  phase_is : (o : ℕ) (k : Chan) (n : ℕ) → On T.state o k → k.capacity ≡ 0
      → count_of n ≡ count k (T.at.phase o) → phase_number (T.at.phase o) ≡ count_of n
  phase_is o k n on cap c = let q : length k.queue ≡ 0 = ap length (T.channels.unbuffered o k on cap).0 in omega arith

  -- if the phase shows no offer, no holder has one
  no_holder : (o : ℕ) (k : Chan) → On T.state o k → T.at.phase o ≡ Calm → (j : ℕ) (h : Holder)
      → slice_get T.state.holders j ≡ Some h → offers_on o h.offer ≡ false
  no_holder o k on calm j h there = by y.0.post refl
    where
      y : (y : ChannelRec) × (slice_get T.recs j ≡ Some y)
      y = get_some T.recs j (let a = T.channels.as_many in let b = slice_get_within T.state.holders j h there in
          omega arith)

      by : (p : Post) → y.0.post ≡ p → offers_on o h.offer ≡ false
      by Nowhere q = ap (offers_on o) (T.channels.calm j y.0 h y.1 there q)
      by (Offering a) q =
          let t = T.channels.posts j a y.0 y.1 q in
          let u = T.channels.offers t.0 j t.1 t.2 t.4 in
          let same : h ≡ u.1 = same_Some h u.1 (sym there ∙ u.3) in
          ap (offers_on o) (ap (λ (r : Holder). r.offer) same ∙ u.5) ∙ go t.0 (T.at.phase t.0) refl t.4
        where
          other : (p : ℕ) → OfferOf (T.at.phase p) j → nat_eq o p ≡ false
          other p r = split (nat_eq o p)
              (λ e. absurd (subst (λ w. OfferOf w j) (ap T.at.phase (sym (eq_of o p e)) ∙ calm) r)) (λ e. e)

          go : (p : ℕ) (w : Phase) → T.at.phase p ≡ w → OfferOf (T.at.phase p) j
              → offers_on o (holder_offer p (T.at.phase p)) ≡ false
          go p Calm e r = ap (λ w. offers_on o (holder_offer p w)) e
          go p (Offered i) e r = ap (λ w. offers_on o (holder_offer p w)) e ∙ other p r
          go p (Accepted i) e r = ap (λ w. offers_on o (holder_offer p w)) e ∙ other p r

  -- one holder has another offer
  other_holder : (g : ℕ) (h : Holder) (j : ℕ) → j ≢ g → Same T.state (attended T.state g h) j
  other_holder g h j ne = (refl, set_else T.state.holders g j h ne)

pub offer_is : ChannelOfferLaw
offer_is T g c mine o n x v next hold code free sizing shut idle = (
  meeting,
  nobody,
  record {
    steps = offers T.code T.page_words T.state o T.running on.1 g v next
        (ap may_go (no_offer T g c mine next free)) meeting nobody;
    at = _;
    channels = control_step T.code T.page_words T.encode T.place T.cell T.words T.recs T.state T.at T.channels g c (offering_record (T.place o))
        mine o k k (n + 4) Unlocked (T.at.head o) (Offered g) b on (record {
          heap = sym (set_again T.state.plain.memory.heap o (channel k) on.0);
          touch = λ p. refl;
          capacity = refl;
          word = word;
          cells = λ i u q. T.channels.cells o i u k on q;
          buffered = λ q. let e = cap in absurd (omega arith);
          unbuffered = T.channels.unbuffered o k on;
          closes = λ t. t;
          told = freed T.code T.page_words T.encode T.place T.cell T.words T.recs T.state T.at T.channels g c mine (Offering (T.place o)) o n (n + 4) held
              (lock_is T g c mine o n held k on);
          know = they_know T.code T.page_words T.encode T.place T.cell T.words T.recs T.state T.at T.channels g c (offering_record (T.place o)) mine b
              (λ a q. inr (knows_post (Offering (T.place o)) a q)) (λ j y ne e q. other_holder T g h j ne);
          stranded = λ j q f. absurd (let y : Calm ≡ Offered j = sym calm ∙ f in cc y);
          as_many = length_slice_set T.state.holders g h;
          calm = λ j y h' p q f. ⊎_elim
              (λ (u : (j ≡ g) × (offering_record (T.place o) ≡ y)). let z : Offering (T.place o) ≡ Nowhere
              = ap (λ (r : ChannelRec). r.post) u.1 ∙ f in absurd (cc z))
              (λ (u : (j ≢ g) × (slice_get T.recs j ≡ Some y)). T.channels.calm j y h' u.1
              (sym (set_else T.state.holders g j h u.0) ∙ q) f)
              (recs_was T.code T.page_words T.encode T.place T.cell T.words T.recs T.state T.at T.channels g c (offering_record (T.place o)) mine j
              y p);
          others = λ p j l ne e q. let nj = posted T g c mine free p j l e q in
              (other_holder T g h j nj, λ w. absurd (nj w));
          mine_post = λ a q. inl (let y : Offering (T.place o) ≡ Offering a = q in sym (cc y), refl);
          theirs = λ j ne q. absurd (subst (λ w. OfferOf w j) calm q);
          offer = λ j q. (
            offering_record (T.place o),
            h,
            subst (λ i. slice_get (slice_set T.recs g (offering_record (T.place o))) i ≡ Some (offering_record (T.place o))) q
                (here T.code T.page_words T.encode T.place T.cell T.words T.recs T.state T.at T.channels g c (offering_record (T.place o)) mine),
            subst (λ i. slice_get b.holders i ≡ Some h) q there,
            refl,
            refl,
          );
          wait = λ j q. let y : Offered g ≡ Offered j = q in let z : g ≡ j = cc y in (
            v,
            subst (λ i. Next T.code b i Send (value.Object o ∷ v ∷ [])) z stays_at,
            (cell_is T g c mine o n held k on 0 x
                (subst (λ y. InCell y (T.place o) 0 x) (sym hold) (refl, refl, refl)) ∙ sym code),
          );
        });
  },
)
  where
    found : (k : Chan) × On T.state o k
    found = live_at T g Send o (v ∷ []) next (inr (inl refl))

    k : Chan
    k = found.0

    on : On T.state o k
    on = found.1

    h : Holder
    h = record next.holder { offer = Standing o }

    b : RegionState
    b = attended T.state g h

    held : HoldsAt c.hold (T.place o) n
    held = subst (λ y. HoldsAt y (T.place o) n) (sym hold) (refl, refl)

    said' : (closed_of n ≡ bit k.closed) × (count_of n ≡ count k (T.at.phase o)) × (head_of n ≡ T.at.head o)
    said' = said T g c mine o n held k on

    cap : k.capacity ≡ 0
    cap = capacity_is T g c mine o n held k on 0 sizing

    still_open : k.closed ≡ false
    still_open = is_open T g c mine o n held k on shut

    calm : T.at.phase o ≡ Calm
    calm = calm_of (T.at.phase o) (phase_is T o k n on cap said'.1 ∙ idle)

    meeting : is_meeting_at (slice_get T.state.plain.memory.heap o) ≡ true
    meeting = is_place T.state.plain.memory o k on.0 still_open cap

    nobody : list_any (λ (x : Holder). offers_on o x.offer) T.state.holders ≡ false
    nobody = none_there o T.state.holders (no_holder T o k on calm)

    there : slice_get b.holders g ≡ Some h
    there = get_set_same T.state.holders g next.holder h next.there

    stays_at : Next T.code b g Send (value.Object o ∷ v ∷ [])
    stays_at = record { before = before_same T.code T.state b g Send (value.Object o ∷ v ∷ []) refl next.before; holder = h; there = there; none = next.none }

    word : n + 4 ≡ 0 + control (bit k.closed) (length k.queue + 1) (T.at.head o)
    word =
        let e = n_is T g c mine o n held k on in
        let p : phase_number (T.at.phase o) ≡ 0 = ap phase_number calm in
        omega arith

-- the sender whose offer was taken acknowledges it
acknowledges_at : (T : Moment) (g : ℕ) (c : ChannelRec) (mine : slice_get T.recs g ≡ Some c) (o n : ℕ) (k : Chan)
    → On T.state o k → OfferOf (T.at.phase o) g → c.post ≡ Offering (T.place o) → count_of n ≡ 2
    → c.hold ≡ Locked (T.place o) n
    → (h : Holder) × (slice_get T.state.holders g ≡ Some h) × (h.offer ≡ Taken o)
    × Gains T g (T.place o) (n - 8) at_rest (Acknowledge g) (attended T.state g (record h { offer = NoOffer }))
acknowledges_at T g c mine o n k on own post gone hold = (
  h,
  there,
  taken,
  record {
    steps = acknowledges T.code T.page_words T.state o T.running on.1 g h there taken;
    at = _;
    channels = control_step T.code T.page_words T.encode T.place T.cell T.words T.recs T.state T.at T.channels g c at_rest mine o k k (n - 8)
        Unlocked (T.at.head o) Calm b on (record {
          heap = sym (set_again T.state.plain.memory.heap o (channel k) on.0);
          touch = λ p. refl;
          capacity = refl;
          word = word;
          cells = λ i u q. T.channels.cells o i u k on q;
          buffered = λ q. let e = cap in absurd (omega arith);
          unbuffered = T.channels.unbuffered o k on;
          closes = λ t. t;
          told = freed T.code T.page_words T.encode T.place T.cell T.words T.recs T.state T.at T.channels g c mine Nowhere o n (n - 8) held
              (lock_is T g c mine o n held k on);
          know = they_know T.code T.page_words T.encode T.place T.cell T.words T.recs T.state T.at T.channels g c at_rest mine b
              (λ a q. absurd (rest_knows a q)) (λ j y ne e q. other_holder T g h' j ne);
          stranded = λ j q f. absurd (let y : Accepted g ≡ Offered j = sym accepted ∙ f in cc y);
          as_many = length_slice_set T.state.holders g h';
          calm = λ j y r p q f. ⊎_elim
              (λ (u : (j ≡ g) × (at_rest ≡ y)). let same : h' ≡ r = same_Some h' r
              (sym (get_set_same T.state.holders g h h' there)
              ∙ (ap (slice_get (slice_set T.state.holders g h')) (sym u.0) ∙ q)) in
              ap (λ (z : Holder). z.offer) (sym same))
              (λ (u : (j ≢ g) × (slice_get T.recs j ≡ Some y)). T.channels.calm j y r u.1
              (sym (set_else T.state.holders g j h' u.0) ∙ q) f)
              (recs_was T.code T.page_words T.encode T.place T.cell T.words T.recs T.state T.at T.channels g c at_rest mine j y p);
          others = λ p j l ne e q. let nj : j ≢ g = λ w. ne (one_offer T.code T.page_words T.encode T.place T.cell T.words T.recs T.state T.at
              T.channels p o g l k e on (subst (OfferOf (T.at.phase p)) w q) own) in
              (other_holder T g h' j nj, λ w. absurd (nj w));
          mine_post = λ a q. absurd (let y : Nowhere ≡ Offering a = q in cc y);
          theirs = λ j ne q. absurd (ne (sym (subst (λ w. OfferOf w j) accepted q)));
          offer = λ j q. absurd q;
          wait = λ j q. absurd (let y : Calm ≡ Offered j = q in cc y);
        });
  },
)
  where
    held : HoldsAt c.hold (T.place o) n
    held = subst (λ y. HoldsAt y (T.place o) n) (sym hold) (refl, refl)

    said' : (closed_of n ≡ bit k.closed) × (count_of n ≡ count k (T.at.phase o)) × (head_of n ≡ T.at.head o)
    said' = said T g c mine o n held k on

    cap : k.capacity ≡ 0
    cap = no_buffer T.code T.page_words T.encode T.place T.cell T.words T.recs T.state T.at T.channels o g k on own

    two : (i : ℕ) × (T.at.phase o ≡ Accepted i)
    two = accepted_of (T.at.phase o) (phase_is T o k n on cap said'.1 ∙ gone)

    accepted : T.at.phase o ≡ Accepted g
    accepted = two.1 ∙ ap Accepted (subst (λ w. OfferOf w g) two.1 own)

    h : Holder
    h = (T.channels.offers o g k on own).1

    there : slice_get T.state.holders g ≡ Some h
    there = (T.channels.offers o g k on own).3

    taken : h.offer ≡ Taken o
    taken = (T.channels.offers o g k on own).5 ∙ ap (holder_offer o) accepted

    h' : Holder
    h' = record h { offer = NoOffer }

    b : RegionState
    b = attended T.state g h'

    word : n - 8 ≡ 0 + control (bit k.closed) (length k.queue + 0) (T.at.head o)
    word =
        let e = n_is T g c mine o n held k on in
        let p : phase_number (T.at.phase o) ≡ 2 = ap phase_number accepted in
        omega arith

pub acknowledge_is : ChannelAcknowledgeLaw
acknowledge_is T g c mine a n post hold gone = by (offered_at T g c mine a post)
  where
    by : (o : ℕ) × (k : Chan) × On T.state o k × (T.place o ≡ a) × OfferOf (T.at.phase o) g
        → (o : ℕ) × (h : Holder) × (T.place o ≡ a) × (slice_get T.state.holders g ≡ Some h) × (h.offer ≡ Taken o)
        × Gains T g a (n - 8) at_rest (Acknowledge g) (attended T.state g (record h { offer = NoOffer }))
    by (o, k, on, is, own) =
        let t = acknowledges_at T g c mine o n k on own (post ∙ ap Offering (sym is)) gone
        (hold ∙ ap (λ b. Locked b n) (sym is)) in (
          o,
          t.0,
          is,
          t.1,
          t.2,
          subst (λ b. Gains T g b (n - 8) at_rest (Acknowledge g)
              (attended T.state g (record t.0 { offer = NoOffer }))) is t.3,
        )

pub meet_is : ChannelMeetLaw
meet_is T g c mine o n x next hold free sizing shut up = (
  t,
  v,
  M,
  (λ e. ne (sym e)),
  standing,
  value_is,
  S.0,
  S.2,
  S.4,
  meeting,
  record {
    steps = meets T.code T.page_words T.state o T.running on.1 g t v next M (λ e. ne (sym e))
        (ap may_go (no_offer T g c mine next free)) standing meeting;
    at = _;
    channels = control_step T.code T.page_words T.encode T.place T.cell T.words T.recs T.state T.at T.channels g c at_rest mine o k k (n + 4)
        Unlocked (T.at.head o) (Accepted t) b on (record {
          heap = sym (set_again T.state.plain.memory.heap o (channel k) on.0);
          touch = λ p. refl;
          capacity = refl;
          word = word;
          cells = λ i u q. T.channels.cells o i u k on q;
          buffered = λ q. let e = cap in absurd (omega arith);
          unbuffered = T.channels.unbuffered o k on;
          closes = λ z. z;
          told = freed T.code T.page_words T.encode T.place T.cell T.words T.recs T.state T.at T.channels g c mine Nowhere o n (n + 4) held
              (lock_is T g c mine o n held k on);
          know = they_know T.code T.page_words T.encode T.place T.cell T.words T.recs T.state T.at T.channels g c at_rest mine b
              (λ a q. absurd (rest_knows a q)) (λ j y no e q. same_both j no (λ w.
              let same : y ≡ S.0 = same_Some y S.0 (sym e ∙ (ap (slice_get T.recs) w ∙ S.2)) in
              let z : Nowhere ≡ Offering (T.place o) = sym q ∙ (ap (λ (z : ChannelRec). z.post) same ∙ S.4) in absurd (cc z)));
          stranded = λ j q f. absurd (let y : true ≡ false = sym q ∙ still_open in cc y);
          as_many = length_slice_set (slice_set T.state.holders g A) t B ∙ length_slice_set T.state.holders g A;
          calm = λ j y r p q f. ⊎_elim
              (λ (u : (j ≡ g) × (at_rest ≡ y)). let same : A ≡ r = same_Some A r
              (sym (set_else (slice_set T.state.holders g A) t g B (λ e. ne (sym e))
              ∙ get_set_same T.state.holders g next.holder A next.there) ∙ (ap (slice_get b.holders) (sym u.0) ∙ q)) in
              ap (λ (z : Holder). z.offer) (sym same) ∙ no_offer T g c mine next free)
              (λ (u : (j ≢ g) × (slice_get T.recs j ≡ Some y)). dite (ℕ_discrete j t)
              (λ w. let same : y ≡ S.0 = same_Some y S.0 (sym u.1 ∙ (ap (slice_get T.recs) w ∙ S.2)) in
              let z : Nowhere ≡ Offering (T.place o) = sym f ∙ (ap (λ (z : ChannelRec). z.post) same ∙ S.4) in absurd (cc z))
              (λ nt. T.channels.calm j y r u.1 (sym (same_holder j u.0 nt) ∙ q) f))
              (recs_was T.code T.page_words T.encode T.place T.cell T.words T.recs T.state T.at T.channels g c at_rest mine j y p);
          others = λ p j l no e q. let nj = posted T g c mine free p j l e q in
              let nt : j ≢ t = λ w. no (one_offer T.code T.page_words T.encode T.place T.cell T.words T.recs T.state T.at T.channels p o t l k
              e on (subst (OfferOf (T.at.phase p)) w q) own) in
              (same_both j nj nt, λ w. absurd (nj w));
          mine_post = λ a q. absurd (let y : Nowhere ≡ Offering a = q in cc y);
          theirs = λ j no q. subst (λ w. OfferOf w j) offered q;
          offer = λ j q. (
            S.0,
            B,
            stays T.code T.page_words T.encode T.place T.cell T.words T.recs T.state T.at T.channels g c at_rest mine j S.0
                (λ w. ne (q ∙ w)) (subst (λ i. slice_get T.recs i ≡ Some S.0) q S.2),
            subst (λ i. slice_get b.holders i ≡ Some B) q there_t,
            S.4,
            refl,
          );
          wait = λ j q. absurd (let y : Accepted t ≡ Offered j = q in cc y);
        });
  },
)
  where
    found : (k : Chan) × On T.state o k
    found = live_at T g Recv o [] next (inl refl)

    k : Chan
    k = found.0

    on : On T.state o k
    on = found.1

    held : HoldsAt c.hold (T.place o) n
    held = subst (λ y. HoldsAt y (T.place o) n) (sym hold) (refl, refl)

    said' : (closed_of n ≡ bit k.closed) × (count_of n ≡ count k (T.at.phase o)) × (head_of n ≡ T.at.head o)
    said' = said T g c mine o n held k on

    cap : k.capacity ≡ 0
    cap = capacity_is T g c mine o n held k on 0 sizing

    still_open : k.closed ≡ false
    still_open = is_open T g c mine o n held k on shut

    meeting : is_meeting_at (slice_get T.state.plain.memory.heap o) ≡ true
    meeting = is_place T.state.plain.memory o k on.0 still_open cap

    one : (i : ℕ) × (T.at.phase o ≡ Offered i)
    one = offered_of (T.at.phase o) (phase_is T o k n on cap said'.1 ∙ up)

    t : ℕ
    t = one.0

    offered : T.at.phase o ≡ Offered t
    offered = one.1

    own : OfferOf (T.at.phase o) t
    own = subst (λ w. OfferOf w t) (sym offered) refl

    ne : t ≢ g
    ne = posted T g c mine free o t k on own

    v : Value
    v = (T.channels.waits o t k on offered).0

    M : Next T.code T.state t Send (value.Object o ∷ v ∷ [])
    M = (T.channels.waits o t k on offered).1

    S : (y : ChannelRec) × (h : Holder) × (slice_get T.recs t ≡ Some y) × (slice_get T.state.holders t ≡ Some h)
        × (y.post ≡ Offering (T.place o)) × (h.offer ≡ holder_offer o (T.at.phase o))
    S = T.channels.offers o t k on own

    standing : M.holder.offer ≡ Standing o
    standing = ap (λ (z : Holder). z.offer) (same_Some M.holder S.1 (sym M.there ∙ S.3))
        ∙ (S.5 ∙ ap (holder_offer o) offered)

    A : Holder
    A = passed_holder next v

    B : Holder
    B = record (passed_holder M value.Nil) { offer = Taken o }

    b : RegionState
    b = after_meeting o next M v

    there_t : slice_get b.holders t ≡ Some B
    there_t = get_set_same (slice_set T.state.holders g A) t M.holder B
        (set_else T.state.holders g t A ne ∙ M.there)

    same_holder : (j : ℕ) → j ≢ g → j ≢ t → slice_get b.holders j ≡ slice_get T.state.holders j
    same_holder j nj nt = set_else (slice_set T.state.holders g A) t j B nt ∙ set_else T.state.holders g j A nj

    same_both : (j : ℕ) → j ≢ g → j ≢ t → Same T.state b j
    same_both j nj nt = (
      set_else (slice_set T.state.plain.goroutines g (passed_frames next v)) t j (passed_frames M value.Nil) nt
          ∙ set_else T.state.plain.goroutines g j (passed_frames next v) nj,
      same_holder j nj nt,
    )

    value_is : T.encode v ≡ x
    value_is = sym (T.channels.waits o t k on offered).2
        ∙ (cell_is T g c mine o n held k on 0 x
        (subst (λ y. InCell y (T.place o) 0 x) (sym hold) (refl, refl, refl)))

    word : n + 4 ≡ 0 + control (bit k.closed) (length k.queue + 2) (T.at.head o)
    word =
        let e = n_is T g c mine o n held k on in
        let p : phase_number (T.at.phase o) ≡ 1 = ap phase_number offered in
        omega arith

-- Steps of other kinds keep the image of channels. Field by field: the words are as before, the others are as before by region safety,
-- and a channel is an old or the new one. The hard one is that no channel of which a record knows is removed: that goroutine is at the
-- channel, so it has a stake in its region, and it takes no part in this step.
use Rattle.std.proofs.Common.{◌≡◌, ◌≢◌, ◌⊎◌, ℕ, zero, suc, ◌+◌, ◌<◌, ◌≤◌, true, List, [], ◌∷◌, ◌++◌, length, replicate, Some, None}
use Rattle.std.proofs.Common.{slice_get, slice_index, refl, ap, sym, subst, ◌∙◌, inl, inr, ⊎_elim, arith}
use Rattle.std.proofs.lemmas.Option.{same_Some, slice_get_within}
use mathlib.Core.Logic.{dite}
use native.Mathlib.Decide.{ℕ_discrete}
use Rattle.rgo_sound.specs.Typed.declared.actions.Action.{Action}
use Rattle.rgo_sound.specs.Typed.declared.actions.Action.TheVariants.{Send}
use Rattle.rgo_sound.specs.Memory.declared.values.Value.{Value}
use Rattle.rgo_sound.specs.Memory.declared.values.Value.TheVariants as value
use Rattle.rgo_sound.specs.Machine.declared.picks.Pick.TheVariants.{Meet, One}
use Rattle.rgo_sound.specs.RegionMachine.Machine.{Acknowledge, Attend, Event, Finish, Instruct, MakeOffer, TakePage, region_step}
use Rattle.rgo_sound.specs.RegionMachine.Objects.{may_touch}
use Rattle.rgo_sound.specs.RegionMachine.States.{Holder, NoOffer, RegionState}
use Rattle.rgo_sound.proofs.steps.Leaving.{offers_stay, others_stay}
use Rattle.rgo_sound.proofs.offers.Offers.{steps_keep_good}
use Rattle.rgo_sound.proofs.Places.{get_append_left, get_some}
use Rattle.rgo_sound.specs.Good.{AllGood}
use Rattle.rgo_sound.specs.Leaving.{ActsAlone, LeavesOthers, TakesPart}
use Rattle.rgo_core_channels.specs.Channels.{Accepted, Calm, Chan, Channels, LockedBy, Offered, OfferOf, On, Phase, Places, Unlocked, cell_of, word_of_channel}
use Rattle.rgo_core_channels.specs.Channels.{holder_offer, lock_bit, phase_number}
use Rattle.rgo_core_channels.specs.Controls.{bit, extent}
use Rattle.rgo_core_channels.specs.Elsewhere.{EventLaw, IsMade, LeavesChannels}
use Rattle.rgo_core_channels.specs.Moments.{Moment}
use Rattle.rgo_core_channels.specs.Records.{HoldsAt, InCell, KnowsOf, Nothing, Nowhere, Offering, Reached, ChannelRec, Shut, Sized, Stranded, Unknown, Unreached, at_rest}
use Rattle.rgo_core_channels.specs.Standing.{IsAt, Next}
use Rattle.rgo_core_channels.proofs.Buffers.{posted}
use Rattle.rgo_core_channels.proofs.Decoding.{some_cell}
use Rattle.rgo_core_channels.proofs.Lists.{length_more, old_or_new}
use Rattle.rgo_core_channels.proofs.Live.{live_at, operand_is_live, taken_is_live}
use Rattle.rgo_core_channels.proofs.Steps.{Same, held, next_same, one_place, place_in, rest_knows, same_chan}

pub nothing_there : {X : Type 0} (o : ℕ) (x : X) → slice_get [] o ≡ Some x → ⊥
nothing_there o x e = let z : None ≡ Some x = e in cc z

-- only goroutine g takes part
only_one : (event : Event) (g j : ℕ) → ActsAlone event g → TakesPart event j → j ≡ g
only_one (Instruct (One i)) g j a b = b ∙ sym a
only_one (Instruct (Meet r t)) g j a b = absurd a
only_one (Attend i) g j a b = b ∙ sym a
only_one (TakePage i) g j a b = b ∙ sym a
only_one (MakeOffer i) g j a b = absurd a
only_one (Acknowledge i) g j a b = absurd a
only_one (Finish limit) g j a b = absurd a

module _ (T : Moment) (g : ℕ) (event : Event) (words : List ℕ) (s : RegionState) (encode : Value → ℕ) (place : ℕ → ℕ)
    (cell : ℕ → ℕ → ℕ) (at : Places) (IsNew : ℕ → Chan → Type 0) (children : ℕ) (mine : slice_get T.recs g ≡ Some at_rest)
    (alone : ActsAlone event g) (step : region_step T.code T.page_words T.state event ≡ Some s)
    (X : LeavesChannels T words s encode place cell at IsNew children) where
  abbrev K : Channels T.code T.page_words T.encode T.place T.cell T.words T.recs T.state T.at
  K = T.channels

  abbrev recs : List ChannelRec
  recs = T.recs ++ replicate children at_rest

  -- ---- the others

  all : AllGood T.code s
  all = steps_keep_good T.code T.page_words T.state s event T.checked T.ascends T.good step

  they : LeavesOthers T.state s event
  they = others_stay T.code T.page_words T.state s event step

  apart_from : (j : ℕ) → j ≢ g → TakesPart event j → ⊥
  apart_from j ne part = ne (only_one event g j alone part)

  holder_stays : (j : ℕ) (h : Holder) → j ≢ g → slice_get T.state.holders j ≡ Some h → slice_get s.holders j ≡ Some h
  holder_stays j h ne e = they.holders j h (apart_from j ne) e

  same_of : (j : ℕ) (action : Action) (vs : List Value) → j ≢ g → Next T.code T.state j action vs → Same T.state s j
  same_of j action vs ne n = (
    they.frames j (n.before.frame ∷ n.before.callers) (apart_from j ne) n.before.at ∙ sym n.before.at,
    holder_stays j n.holder ne n.there ∙ sym n.there,
  )

  next_stays : (j : ℕ) (action : Action) (vs : List Value) → j ≢ g → Next T.code T.state j action vs
      → Next T.code s j action vs
  next_stays j action vs ne n = next_same T.code T.state s j action vs (same_of j action vs ne n) n

  -- a goroutine whose record knows of a channel is another one
  other_knows : (j a : ℕ) (y : ChannelRec) → slice_get T.recs j ≡ Some y → KnowsOf y a → j ≢ g
  other_knows j a y e q w =
      let same : at_rest ≡ y = same_Some at_rest y (sym mine ∙ (ap (slice_get T.recs) (sym w) ∙ e)) in
      rest_knows a (subst (λ (z : ChannelRec). KnowsOf z a) (sym same) q)

  other_posts : (o j : ℕ) (k : Chan) → On T.state o k → OfferOf (T.at.phase o) j → j ≢ g
  other_posts o j k on q = posted T g at_rest mine refl o j k on q

  old : (j : ℕ) (y : ChannelRec) → slice_get T.recs j ≡ Some y → slice_get recs j ≡ Some y
  old j y e = get_append_left T.recs (replicate children at_rest) j (slice_get_within T.recs j y e) ∙ e

  was_there : (j : ℕ) (y : ChannelRec) → slice_get recs j ≡ Some y
      → (slice_get T.recs j ≡ Some y) ⊎ ((length T.recs ≤ j) × (at_rest ≡ y))
  was_there j y e = old_or_new T.recs children at_rest j y e

  -- ---- channels of which a record knows are still live

  live_still : (j a o : ℕ) (k : Chan) (y : ChannelRec) → slice_get T.recs j ≡ Some y → KnowsOf y a → On T.state o k
      → T.place o ≡ a → may_touch s (Some o) ≡ true
  live_still j a o k y e q on is = by (K.knows j a y e q)
    where
      ne : j ≢ g
      ne = other_knows j a y e q

      by : IsAt T.code T.place T.state j y.post a → may_touch s (Some o) ≡ true
      by (inl t) =
          let l = live_at T j t.3.0 t.1 t.3.2 t.3.3 t.3.1 in
          let same : t.1 ≡ o = one_place T.code T.page_words T.encode T.place T.cell T.words T.recs T.state T.at K t.1 o l.0 k l.1 on
          (t.2 ∙ sym is) in
          subst (λ p. may_touch s (Some p) ≡ true) same
          (operand_is_live T.code s j t.3.0 t.1 t.3.2 T.checked all t.3.1
          (next_stays j t.3.0 (value.Object t.1 ∷ t.3.2) ne t.3.3)).1.1
      by (inr post) =
          let t = K.posts j a y e post in
          let same : t.0 ≡ o = one_place T.code T.page_words T.encode T.place T.cell T.words T.recs T.state T.at K t.0 o t.1 k t.2 on
          (t.3 ∙ sym is) in
          phase (T.at.phase o) refl (subst (λ p. OfferOf (T.at.phase p) j) same t.4)
        where
          phase : (p : Phase) → T.at.phase o ≡ p → OfferOf (T.at.phase o) j → may_touch s (Some o) ≡ true
          phase Calm w own = absurd (subst (λ p. OfferOf p j) w own)
          phase (Offered i) w own =
              let mine : i ≡ j = subst (λ p. OfferOf p j) w own in
              let n = K.waits o j k on (w ∙ ap Offered mine) in
              (operand_is_live T.code s j Send o (n.0 ∷ []) T.checked all (inr (inl refl))
              (next_stays j Send (value.Object o ∷ n.0 ∷ []) ne n.1)).1.1
          phase (Accepted i) w own =
              let r = K.offers o j k on own in
              taken_is_live T.code s j o r.1 all (holder_stays j r.1 ne r.3) (r.5 ∙ ap (holder_offer o) w)

  stays_on : (j a o : ℕ) (k : Chan) (y : ChannelRec) → slice_get T.recs j ≡ Some y → KnowsOf y a → On T.state o k → T.place o ≡ a
      → On s o k
  stays_on j a o k y e q on is = (X.heap o k on, live_still j a o k y e q on is)

  first : (o : ℕ) (k : Chan) → On T.state o k → slice_index words (T.place o) ≡ slice_index T.words (T.place o)
  first o k on = X.same o 0 k on (omega arith)

  in_cell : (o i : ℕ) (k : Chan) → On T.state o k → i < extent k.capacity
      → slice_index words (cell o i) ≡ slice_index T.words (T.cell o i)
  in_cell o i k on h = ap (slice_index words) (X.spots o i k on h) ∙ X.same o (suc (suc i)) k on (omega arith)

  -- the words of a channel are where they were
  lay : (o i : ℕ) (k : Chan) → On T.state o k → i < 2 + extent k.capacity
      → word_of_channel place cell o i ≡ word_of_channel T.place T.cell o i
  lay o zero k on h = X.places o k on
  lay o (suc zero) k on h = ap (λ n. n + 1) (X.places o k on)
  lay o (suc (suc i)) k on h = X.spots o i k on (omega arith)

  -- the channel of a goroutine is where it was
  stays_at : (j a : ℕ) (y : ChannelRec) → slice_get T.recs j ≡ Some y → KnowsOf y a → IsAt T.code place s j y.post a
  stays_at j a y e q = by (K.knows j a y e q)
    where
      by : IsAt T.code T.place T.state j y.post a → IsAt T.code place s j y.post a
      by (inl t) = let l = live_at T j t.3.0 t.1 t.3.2 t.3.3 t.3.1 in inl (
        t.0,
        t.1,
        X.places t.1 l.0 l.1 ∙ t.2,
        (t.3.0, t.3.1, t.3.2, next_stays j t.3.0 (value.Object t.1 ∷ t.3.2) (other_knows j a y e q) t.3.3),
      )
      by (inr post) = inr post

  calm_still : (j : ℕ) (y : ChannelRec) (h : Holder) → slice_get T.recs j ≡ Some y → slice_get s.holders j ≡ Some h
      → y.post ≡ Nowhere → h.offer ≡ NoOffer
  calm_still j y h e f free = dite (ℕ_discrete j g)
      (λ w. let r = offers_stay T.code T.page_words T.state s event j was.0 step (subst (ActsAlone event) (sym w) alone) was.1 in
      ap (λ (z : Holder). z.offer) (same_Some h r.0 (sym f ∙ r.1)) ∙ (r.2 ∙ K.calm j y was.0 e was.1 free))
      (λ ne. ap (λ (z : Holder). z.offer) (same_Some h was.0 (sym f ∙ holder_stays j was.0 ne was.1))
      ∙ K.calm j y was.0 e was.1 free)
    where
      was : (h : Holder) × (slice_get T.state.holders j ≡ Some h)
      was = get_some T.state.holders j (let a = K.as_many in let b = slice_get_within T.recs j y e in omega arith)

  -- no two words of the new channel are the same
  one_new : (o p i j : ℕ) (k l : Chan) → On s o k → On s p l → IsNew o k → IsNew p l → i < 2 + extent k.capacity
      → j < 2 + extent l.capacity → word_of_channel place cell o i ≡ word_of_channel place cell p j → (o ≡ p) × (i ≡ j)
  one_new o p i j k l e e' new new' h h' q =
      let w : o ≡ p = X.one_fresh o p k l new new' in
      let same : l ≡ k = same_chan s p l k e' (subst (λ r. On s r k) w e) in (
        w,
        X.fresh_differ o i j k new h (subst (λ (r : Chan). j < 2 + extent r.capacity) same h')
            (q ∙ ap (λ r. word_of_channel place cell r j) (sym w)),
      )

  pub leaves : Channels T.code T.page_words encode place cell words recs s at
  leaves = record {
    controls = λ o k e. ⊎_elim
        (λ on. let a = X.ats o k on in rw (X.places o k on, a.0, a.1, a.2) (first o k on ∙ K.controls o k on))
        (λ new.
        let f = X.fresh o k new in
        let w = (X.fresh_words o k new).0 in
        let l : length k.queue ≡ 0 = ap length f.0 in
        let b : bit k.closed ≡ 0 = ap bit f.1 in
        let h = f.2 in
        let lk : lock_bit (at.lock o) ≡ 0 = ap lock_bit f.3 in
        let p : phase_number (at.phase o) ≡ 0 = ap phase_number f.4 in
        omega arith)
        (X.was o k e);
    capacities = λ o k e. ⊎_elim
        (λ on. rw (X.places o k on) (X.same o 1 k on (omega arith) ∙ K.capacities o k on))
        (λ new. (X.fresh_words o k new).1)
        (X.was o k e);
    cells = λ o i v k e q. ⊎_elim
        (λ on. let a = X.ats o k on in let p = place_in T.code T.page_words T.encode T.place T.cell T.words T.recs T.state T.at K o i v k on q in
        rw a.0 (in_cell o (cell_of k (T.at.head o) i) k on p.1 ∙ (K.cells o i v k on q
        ∙ sym (X.codes o i v k on q))))
        (λ new. absurd (nothing_there i v (ap (λ l. slice_get l i) (sym (X.fresh o k new).0) ∙ q)))
        (X.was o k e);
    buffered = λ o k e q. ⊎_elim
        (λ on. let a = X.ats o k on in rw (a.0, a.2) (K.buffered o k on q))
        (λ new. let f = X.fresh o k new in let l : length k.queue ≡ 0 = ap length f.0 in let h = f.2 in
        (f.4, omega arith, omega arith))
        (X.was o k e);
    unbuffered = λ o k e q. ⊎_elim
        (λ on. let a = X.ats o k on in rw a.0 (K.unbuffered o k on q))
        (λ new. let f = X.fresh o k new in (f.0, f.2))
        (X.was o k e);
    small = λ o k e. ⊎_elim (λ on. K.small o k on) (λ new. (X.fresh_words o k new).2) (X.was o k e);
    inside = λ o k e. ⊎_elim
        (λ on. rw (X.places o k on, X.long) (K.inside o k on))
        (λ new. (X.fresh_words o k new).3)
        (X.was o k e);
    cells_inside = λ o i k e h. ⊎_elim
        (λ on. rw (X.spots o i k on h, X.long) (K.cells_inside o i k on h))
        (λ new. (X.fresh_cells o i k new h).0)
        (X.was o k e);
    row = λ o i k e w h. ⊎_elim
        (λ on. rw (X.spots o i k on h, X.places o k on) (K.row o i k on w h))
        (λ new. (X.fresh_cells o i k new h).1 w)
        (X.was o k e);
    apart = λ o p i j k l e e' h h' q. ⊎_elim
        (λ on. ⊎_elim
        (λ on'. K.apart o p i j k l on on' h h' (sym (lay o i k on h) ∙ (q ∙ lay p j l on' h')))
        (λ new'. absurd (X.fresh_apart p o j i l k new' on h' h (sym q ∙ lay o i k on h)))
        (X.was p l e'))
        (λ new. ⊎_elim
        (λ on'. absurd (X.fresh_apart o p i j k l new on' h h' (q ∙ lay p j l on' h')))
        (λ new'. one_new o p i j k l e e' new new' h h' q)
        (X.was p l e'))
        (X.was o k e);
    lockers = λ o j k e q. ⊎_elim
        (λ on. let t = K.lockers o j k on (sym (X.ats o k on).1 ∙ q) in
        (t.0, t.1, old j t.0 t.2, subst (λ a. HoldsAt t.0.hold a t.1) (sym (X.places o k on)) t.3))
        (λ new. absurd (let z : Unlocked ≡ LockedBy j = sym (X.fresh o k new).3 ∙ q in cc z))
        (X.was o k e);
    locks = λ j a i y e q. ⊎_elim
        (λ e. let t = K.locks j a i y e q in (
          t.0,
          t.1,
          stays_on j a t.0 t.1 y e (inl (i, q)) t.2 t.3,
          X.places t.0 t.1 t.2 ∙ t.3,
          (X.ats t.0 t.1 t.2).1 ∙ t.4,
          subst (λ a. slice_index words a ≡ slice_index T.words a) t.3 (first t.0 t.1 t.2) ∙ t.5,
        ))
        (λ u. absurd (subst (λ (r : ChannelRec). HoldsAt r.hold a i) (sym u.1) q))
        (was_there j y e);
    in_cells = λ j a i x y e q. ⊎_elim
        (λ e. let t = K.in_cells j a i x y e q in let h = held y.hold a i x q in (
          t.0,
          t.1,
          stays_on j a t.0 t.1 y e (inl h) t.2 t.3,
          X.places t.0 t.1 t.2 ∙ t.3,
          t.4,
          in_cell t.0 i t.1 t.2 t.4 ∙ t.5,
        ))
        (λ u. absurd (subst (λ (r : ChannelRec). InCell r.hold a i x) (sym u.1) q))
        (was_there j y e);
    sizes = λ j a i y e q. ⊎_elim
        (λ e. let t = K.sizes j a i y e q in
        (t.0, t.1, stays_on j a t.0 t.1 y e (inr (inl (i, q))) t.2 t.3, X.places t.0 t.1 t.2 ∙ t.3, t.4))
        (λ u. absurd (let z : Unknown ≡ Sized a i = ap (λ (r : ChannelRec). r.size) u.1 ∙ q in cc z))
        (was_there j y e);
    reaches = λ j a i w y e q. ⊎_elim
        (λ e. let t = K.reaches j a i w y e q in (
          t.0,
          t.1,
          stays_on j a t.0 t.1 y e (inr (inr (inr (inr (inr (i, w, q)))))) t.2 t.3,
          X.places t.0 t.1 t.2 ∙ t.3,
          t.4,
          X.spots t.0 i t.1 t.2 t.4 ∙ t.5,
        ))
        (λ u. absurd (let z : Unreached ≡ Reached a i w = ap (λ (r : ChannelRec). r.reach) u.1 ∙ q in cc z))
        (was_there j y e);
    saws = λ j a y e q. ⊎_elim
        (λ e. let t = K.saws j a y e q in
        (t.0, t.1, stays_on j a t.0 t.1 y e (inr (inr (inl q))) t.2 t.3, X.places t.0 t.1 t.2 ∙ t.3, t.4))
        (λ u. absurd (let z : Nothing ≡ Shut a = ap (λ (r : ChannelRec). r.saw) u.1 ∙ q in cc z))
        (was_there j y e);
    strands = λ j a y e q. ⊎_elim
        (λ e. let t = K.strands j a y e q in (
          t.0,
          t.1,
          stays_on j a t.0 t.1 y e (inr (inr (inr (inl q)))) t.2 t.3,
          X.places t.0 t.1 t.2 ∙ t.3,
          t.4,
          (X.ats t.0 t.1 t.2).2 ∙ t.5,
        ))
        (λ u. absurd (let z : Nothing ≡ Stranded a = ap (λ (r : ChannelRec). r.saw) u.1 ∙ q in cc z))
        (was_there j y e);
    knows = λ j a y e q. ⊎_elim
        (λ e. stays_at j a y e q)
        (λ u. absurd (rest_knows a (subst (λ (r : ChannelRec). KnowsOf r a) (sym u.1) q)))
        (was_there j y e);
    as_many = length_more T.recs children at_rest ∙ (ap (λ n. n + children) K.as_many ∙ sym X.born);
    calm = λ j y h e f q. ⊎_elim
        (λ e. calm_still j y h e f q)
        (λ u. X.born_calm j h (let a = K.as_many in let b = u.0 in omega arith) f)
        (was_there j y e);
    posts = λ j a y e q. ⊎_elim
        (λ e. let t = K.posts j a y e q in (
          t.0,
          t.1,
          stays_on j a t.0 t.1 y e (inr (inr (inr (inr (inl q))))) t.2 t.3,
          X.places t.0 t.1 t.2 ∙ t.3,
          subst (λ p. OfferOf p j) (sym (X.ats t.0 t.1 t.2).2) t.4,
        ))
        (λ u. absurd (let z : Nowhere ≡ Offering a = ap (λ (r : ChannelRec). r.post) u.1 ∙ q in cc z))
        (was_there j y e);
    offers = λ o j k e q. ⊎_elim
        (λ on. let p = (X.ats o k on).2 in let r = subst (λ p. OfferOf p j) p q in let t = K.offers o j k on r in
        let ne = other_posts o j k on r in (
          t.0,
          t.1,
          old j t.0 t.2,
          holder_stays j t.1 ne t.3,
          t.4 ∙ ap Offering (sym (X.places o k on)),
          t.5 ∙ ap (holder_offer o) (sym p),
        ))
        (λ new. absurd (subst (λ p. OfferOf p j) (X.fresh o k new).4 q))
        (X.was o k e);
    waits = λ o j k e q. ⊎_elim
        (λ on. let p = sym (X.ats o k on).2 ∙ q in let t = K.waits o j k on p in
        let ne = other_posts o j k on (subst (λ p. OfferOf p j) (sym p) refl) in (
          t.0,
          next_stays j Send (value.Object o ∷ t.0 ∷ []) ne t.1,
          in_cell o 0 k on (some_cell k.capacity) ∙ (t.2 ∙ sym (X.sent o j t.0 t.1)),
        ))
        (λ new. absurd (let z : Calm ≡ Offered j = sym (X.fresh o k new).4 ∙ q in cc z))
        (X.was o k e);
  }

pub event_keeps : EventLaw
event_keeps T g event words s encode place cell at made children mine alone step X =
    leaves T g event words s encode place cell at (IsMade made) children mine alone step X

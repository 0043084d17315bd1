-- What a change of one control, of what a record knows, and of a cell under the lock, keeps. All laws follow from these three lemmas. The
-- first has its premises in one record, so that an operation names what it changes and all other fields are proved once. For
-- a field there are two cases: channel o and goroutine g, or others, whose words are apart.
use Rattle.std.proofs.Common.{◌≡◌, ◌≢◌, ◌⊎◌, ℕ, zero, suc, ◌+◌, ◌<◌, ◌≤◌, true, false, List, [], ◌∷◌, length}
use Rattle.std.proofs.Common.{Some, slice_get, slice_set, slice_index, refl, ap, sym, subst, ◌∙◌, inl, inr, ⊎_elim}
use Rattle.std.proofs.Common.{arith}
use Rattle.std.proofs.Math.ListN.{length-set}
use Rattle.std.proofs.Math.Nat.{mod-lt}
use Rattle.std.proofs.lemmas.List.{get_or-set_same, get_or-set_other}
use Rattle.std.proofs.lemmas.Option.{same_Some, slice_get_within}
use mathlib.Core.Logic.{dite}
use native.Mathlib.Decide.{ℕ_discrete}
use Rattle.rgo_sound.specs.Typed.declared.actions.Action.{Action}
use Rattle.rgo_sound.specs.Typed.declared.actions.Action.TheVariants.{Send}
use Rattle.rgo_sound.specs.Memory.Memory.{Object, Channel, Memory}
use Rattle.rgo_sound.specs.Memory.declared.values.Value.{Value}
use Rattle.rgo_sound.specs.Memory.declared.values.Value.TheVariants as value
use Rattle.rgo_sound.specs.Code.Code.{Code}
use Rattle.rgo_sound.specs.RegionMachine.Objects.{may_touch}
use Rattle.rgo_sound.specs.RegionMachine.States.{Holder, NoOffer, RegionState}
use Rattle.rgo_sound.proofs.Places.{get_set_same, length_set as length_slice_set}
use Rattle.rgo_core_channels.specs.Channels.{Chan, channel, On, Phase, Calm, Offered, Accepted, phase_number, OfferOf, word_of_channel}
use Rattle.rgo_core_channels.specs.Channels.{holder_offer, Lock, Unlocked, LockedBy, lock_bit, Places, count, cell_of, Channels}
use Rattle.rgo_core_memory.specs.Words.{put_at}
use Rattle.rgo_core_channels.specs.Controls.{bit, control, extent}
use Rattle.rgo_core_channels.specs.Records.{ChannelRec, Hold, Free, Locked, Wrote, Read, HoldsAt, InCell, KnowsOf, Sized, Unknown, Reached, Unreached, Post, Nowhere, Offering, Nothing, Shut, Stranded, at_rest}
use Rattle.rgo_core_channels.specs.Standing.{IsAt, Next}
use Rattle.rgo_core_memory.specs.Accesses.{Before}
use Rattle.rgo_core_channels.proofs.Decoding.{some_cell, extent_is}
use Rattle.rgo_core_memory.proofs.Puts.{put_here, put_else}
use Rattle.rgo_core_memory.proofs.Rows.{set_else, at_set}

-- ---- one channel

-- the channel that an object is
abbrev chan_in : Object → Chan
chan_in (Channel capacity queue closed) = record { capacity = capacity; queue = queue; closed = closed }
chan_in object = record { capacity = 0; queue = []; closed = false }

pub same_channel : (k l : Chan) → channel k ≡ channel l → k ≡ l
same_channel k l e = ap chan_in e

pub same_chan : (s : RegionState) (o : ℕ) (k l : Chan) → On s o k → On s o l → k ≡ l
same_chan s o k l x y = same_channel k l (same_Some (channel k) (channel l) (sym x.0 ∙ y.0))

pub held : (y : Hold) (a i v : ℕ) → InCell y a i v → (n : ℕ) × HoldsAt y a n
held Free a i v q = absurd q
held (Locked c m) a i v q = absurd q
held (Wrote c m j w) a i v q = (m, (q.0, refl))
held (Read c m j w) a i v q = (m, (q.0, refl))

pub one_hold : (y : Hold) (a n b m : ℕ) → HoldsAt y a n → HoldsAt y b m → b ≡ a
one_hold Free a n b m p q = absurd p
one_hold (Locked c x) a n b m p q = sym q.0 ∙ p.0
one_hold (Wrote c x i v) a n b m p q = sym q.0 ∙ p.0
one_hold (Read c x i v) a n b m p q = sym q.0 ∙ p.0

-- ---- a goroutine as it was

abbrev pub Same : RegionState → RegionState → ℕ → Type 0
Same s b j = (slice_get b.plain.goroutines j ≡ slice_get s.plain.goroutines j)
    × (slice_get b.holders j ≡ slice_get s.holders j)

pub before_same : (code : Code) (s b : RegionState) (j : ℕ) (action : Action) (operands : List Value)
    → slice_get b.plain.goroutines j ≡ slice_get s.plain.goroutines j
    → Before code s j action operands → Before code b j action operands
before_same code s b j action operands same n = record {
  frame = n.frame;
  callers = n.callers;
  at = same ∙ n.at;
  instr = n.instr;
  cur = n.cur;
  to = n.to;
  from = n.from;
  removes = n.removes;
  is = n.is;
  operands = n.operands;
}

pub next_same : (code : Code) (s b : RegionState) (j : ℕ) (action : Action) (operands : List Value) → Same s b j
    → Next code s j action operands → Next code b j action operands
next_same code s b j action operands same n = record {
  before = before_same code s b j action operands same.0 n.before;
  holder = n.holder;
  there = same.1 ∙ n.there;
  none = n.none;
}

-- it is at the same channel
pub at_same : (code : Code) (place : ℕ → ℕ) (s b : RegionState) (j : ℕ) (post : Post) (a : ℕ)
    → (post ≡ Nowhere → Same s b j) → IsAt code place s j post a → IsAt code place b j post a
at_same code place s b j post a same (inl t) = inl (
  t.0,
  t.1,
  t.2,
  (t.3.0, t.3.1, t.3.2, next_same code s b j t.3.0 (value.Object t.1 ∷ t.3.2) (same t.0) t.3.3),
)
at_same code place s b j post a same (inr p) = inr p

-- ---- what records know

-- a record that knows of no channel but that of its offer
pub knows_post : (post : Post) (a : ℕ)
    → KnowsOf (record { hold = Free; size = Unknown; reach = Unreached; post = post; saw = Nothing }) a → post ≡ Offering a
knows_post post a (inl t) = absurd t.1
knows_post post a (inr (inl t)) = absurd (let z : Unknown ≡ Sized a t.0 = t.1 in cc z)
knows_post post a (inr (inr (inl e))) = absurd (let z : Nothing ≡ Shut a = e in cc z)
knows_post post a (inr (inr (inr (inl e)))) = absurd (let z : Nothing ≡ Stranded a = e in cc z)
knows_post post a (inr (inr (inr (inr (inl e))))) = e
knows_post post a (inr (inr (inr (inr (inr t))))) = absurd (let z : Unreached ≡ Reached a t.0 t.1 = t.2 in cc z)

pub rest_knows : (a : ℕ) → KnowsOf at_rest a → ⊥
rest_knows a q = let z : Nowhere ≡ Offering a = knows_post Nowhere a q in cc z

-- the cell of a value of a queue
pub queue_cell : (k : Chan) (queue : List Value) (h i : ℕ) (v : Value) → (k.capacity ≡ 0 → queue ≡ [])
    → slice_get queue i ≡ Some v → (0 < k.capacity) × (cell_of k h i < extent k.capacity)
queue_cell k queue h i v none e = go k.capacity refl
  where
    go : (n : ℕ) → k.capacity ≡ n → (0 < k.capacity) × (cell_of k h i < extent k.capacity)
    go zero z =
        let b = slice_get_within queue i v e in
        let l : length queue ≡ 0 = ap length (none z) in
        absurd (omega arith)
    go (suc n) z = let p : 0 < k.capacity = omega arith in (p, rw (extent_is k.capacity p) (mod-lt (h + i) p))

module _ (code : Code) (page_words : ℕ) (encode : Value → ℕ) (place : ℕ → ℕ) (cell : ℕ → ℕ → ℕ) (words : List ℕ) (recs : List ChannelRec) (s : RegionState)
    (at : Places) (K : Channels code page_words encode place cell words recs s at) where
  abbrev m : Memory
  m = s.plain.memory

  -- the cell of a value of the queue
  pub place_in : (o i : ℕ) (v : Value) (k : Chan) → On s o k → slice_get k.queue i ≡ Some v
      → (0 < k.capacity) × (cell_of k (at.head o) i < extent k.capacity)
  place_in o i v k on e = queue_cell k k.queue (at.head o) i v (λ z. (K.unbuffered o k on z).0) e

  pub no_buffer : (o g : ℕ) (k : Chan) → On s o k → OfferOf (at.phase o) g → k.capacity ≡ 0
  no_buffer o g k on q = go k.capacity refl
    where
      go : (n : ℕ) → k.capacity ≡ n → k.capacity ≡ 0
      go zero z = z
      go (suc n) z = absurd (subst (λ p. OfferOf p g) (K.buffered o k on (omega arith)).0 q)

  pub count_small : (o : ℕ) (k : Chan) → On s o k → count k (at.phase o) < 1073741824
  count_small o k on = go k.capacity refl
    where
      phase_small : (p : Phase) → phase_number p ≤ 2
      phase_small Calm = omega arith
      phase_small (Offered g) = omega arith
      phase_small (Accepted g) = omega arith

      go : (n : ℕ) → k.capacity ≡ n → count k (at.phase o) < 1073741824
      go zero z =
          let q : length k.queue ≡ 0 = ap length (K.unbuffered o k on z).0 in
          let p = phase_small (at.phase o) in
          omega arith
      go (suc n) z =
          let q = K.buffered o k on (omega arith) in
          let p : phase_number (at.phase o) ≡ 0 = ap phase_number q.0 in
          let l = q.1 in
          let s = K.small o k on in
          omega arith

  -- words of two channels differ
  pub far : (o p i j : ℕ) (k l : Chan) → o ≢ p → On s o k → On s p l → i < 2 + extent k.capacity
      → j < 2 + extent l.capacity → word_of_channel place cell o i ≢ word_of_channel place cell p j
  far o p i j k l ne x y hi hj e = ne (K.apart o p i j k l x y hi hj e).0

  -- a cell is not a control
  pub cell_apart : (o p i : ℕ) (k l : Chan) → On s o k → On s p l → i < extent k.capacity → cell o i ≢ place p
  cell_apart o p i k l x y hi e =
      let t = (K.apart o p (suc (suc i)) 0 k l x y (omega arith) (omega arith) e).1 in absurd (omega arith)

  pub one_place : (o p : ℕ) (k l : Chan) → On s o k → On s p l → place o ≡ place p → o ≡ p
  one_place o p k l x y e = dite (ℕ_discrete o p) (λ w. w)
      (λ ne. absurd (far o p 0 0 k l ne x y (omega arith) (omega arith) (omega arith)))

  pub control_in : (o : ℕ) (k : Chan) → On s o k → place o < length words
  control_in o k on = let i = K.inside o k on in omega arith

  -- a goroutine has at most one offer
  pub one_offer : (o p g : ℕ) (k l : Chan) → On s o k → On s p l → OfferOf (at.phase o) g → OfferOf (at.phase p) g → o ≡ p
  one_offer o p g k l x y q r =
      let a = K.offers o g k x q in
      let b = K.offers p g l y r in
      let same : a.0 ≡ b.0 = same_Some a.0 b.0 (sym a.2 ∙ b.2) in
      let w : Offering (place o) ≡ Offering (place p) = sym a.4 ∙ (ap (λ (z : ChannelRec). z.post) same ∙ b.4) in
      one_place o p k l x y (cc w)

  module _ (g : ℕ) (c d : ChannelRec) (mine : slice_get recs g ≡ Some c) where
    pub here : slice_get (slice_set recs g d) g ≡ Some d
    here = get_set_same recs g c d mine

    pub recs_was : (j : ℕ) (y : ChannelRec) → slice_get (slice_set recs g d) j ≡ Some y
        → ((j ≡ g) × (d ≡ y)) ⊎ ((j ≢ g) × (slice_get recs j ≡ Some y))
    recs_was j y e = at_set recs g j d y e

    pub stays : (j : ℕ) (y : ChannelRec) → j ≢ g → slice_get recs j ≡ Some y → slice_get (slice_set recs g d) j ≡ Some y
    stays j y ne e = set_else recs g j d ne ∙ e

    -- whose record this is
    pub is_mine : (j : ℕ) (y : ChannelRec) → slice_get recs j ≡ Some y → j ≡ g → y ≡ c
    is_mine j y e w = same_Some y c (sym e ∙ (ap (slice_get recs) w ∙ mine))

    -- the other records know what they knew
    pub they_know : (b : RegionState) → ((a : ℕ) → KnowsOf d a → IsAt code place b g d.post a)
        → ((j : ℕ) (y : ChannelRec) → j ≢ g → slice_get recs j ≡ Some y → y.post ≡ Nowhere → Same s b j)
        → (j a : ℕ) (y : ChannelRec) → slice_get (slice_set recs g d) j ≡ Some y → KnowsOf y a → IsAt code place b j y.post a
    they_know b own same j a y e q = ⊎_elim
        (λ (u : (j ≡ g) × (d ≡ y)). subst (λ (z : ChannelRec). IsAt code place b j z.post a) u.1
        (subst (λ i. IsAt code place b i d.post a) (sym u.0) (own a (subst (λ (z : ChannelRec). KnowsOf z a) (sym u.1) q))))
        (λ (u : (j ≢ g) × (slice_get recs j ≡ Some y)). at_same code place s b j y.post a (same j y u.0 u.1)
        (K.knows j a y u.1 q))
        (recs_was j y e)

    -- the record knows what it knew, or less, and has locked or unlocked channel o, whose control becomes x
    pub record Told (o x : ℕ) (lk : Lock) : Type 0 where
      pub mine_lock : (at.lock o ≡ Unlocked) ⊎ (at.lock o ≡ LockedBy g)
      pub only : (a n : ℕ) → HoldsAt c.hold a n → a ≡ place o
      pub lock : (j : ℕ) → lk ≡ LockedBy j → (j ≡ g) × (n : ℕ) × HoldsAt d.hold (place o) n
      pub hold : (a n : ℕ) → HoldsAt d.hold a n → (a ≡ place o) × (lk ≡ LockedBy g) × (x ≡ suc n)
      pub no_cell : (a i v : ℕ) → InCell d.hold a i v → ⊥
      pub size : (a n : ℕ) → d.size ≡ Sized a n → c.size ≡ Sized a n
      pub reach : (a i w : ℕ) → d.reach ≡ Reached a i w → c.reach ≡ Reached a i w
      pub saw : (a : ℕ) → d.saw ≡ Shut a → c.saw ≡ Shut a
      pub strand : (a : ℕ) → d.saw ≡ Stranded a → c.saw ≡ Stranded a

    -- the control of one channel changes, and the offer there
    pub record Change (o : ℕ) (k z : Chan) (x : ℕ) (lk : Lock) (hd : ℕ) (ph : Phase) (b : RegionState) : Type 0 where
      pub heap : b.plain.memory.heap ≡ slice_set m.heap o (channel z)
      pub touch : (p : ℕ) → may_touch b (Some p) ≡ may_touch s (Some p)
      pub capacity : z.capacity ≡ k.capacity
      pub word : x ≡ lock_bit lk + control (bit z.closed) (count z ph) hd
      pub cells : (i : ℕ) (v : Value) → slice_get z.queue i ≡ Some v
          → slice_index words (cell o (cell_of k hd i)) ≡ encode v
      pub buffered : 0 < k.capacity → (ph ≡ Calm) × (length z.queue ≤ k.capacity) × (hd < k.capacity)
      pub unbuffered : k.capacity ≡ 0 → (z.queue ≡ []) × (hd ≡ 0)
      pub closes : k.closed ≡ true → z.closed ≡ true
      pub told : Told o x lk
      pub stranded : (j : ℕ) → k.closed ≡ true → at.phase o ≡ Offered j → ph ≡ Offered j
      pub know : (j a : ℕ) (y : ChannelRec) → slice_get (slice_set recs g d) j ≡ Some y → KnowsOf y a
          → IsAt code place b j y.post a
      pub as_many : length b.holders ≡ length s.holders
      pub calm : (j : ℕ) (y : ChannelRec) (h : Holder) → slice_get (slice_set recs g d) j ≡ Some y
          → slice_get b.holders j ≡ Some h → y.post ≡ Nowhere → h.offer ≡ NoOffer
      pub others : (p j : ℕ) (l : Chan) → p ≢ o → On s p l → OfferOf (at.phase p) j
          → Same s b j × (j ≡ g → d.post ≡ c.post)
      pub mine_post : (a : ℕ) → d.post ≡ Offering a
          → ((a ≡ place o) × OfferOf ph g) ⊎ ((c.post ≡ Offering a) × (OfferOf (at.phase o) g → OfferOf ph g))
      pub theirs : (j : ℕ) → j ≢ g → OfferOf (at.phase o) j → OfferOf ph j
      pub offer : (j : ℕ) → OfferOf ph j → (y : ChannelRec) × (h : Holder) × (slice_get (slice_set recs g d) j ≡ Some y)
          × (slice_get b.holders j ≡ Some h) × (y.post ≡ Offering (place o)) × (h.offer ≡ holder_offer o ph)
      pub wait : (j : ℕ) → ph ≡ Offered j
          → (v : Value) × Next code b j Send (value.Object o ∷ v ∷ []) × (slice_index words (cell o 0) ≡ encode v)

    module _ (o : ℕ) (k z : Chan) (x : ℕ) (lk : Lock) (hd : ℕ) (ph : Phase) (b : RegionState) (on : On s o k)
        (X : Change o k z x lk hd ph b) where
      abbrev more : List ℕ
      more = slice_set words (place o) x

      abbrev at' : Places
      at' = record { head = put_at at.head o hd; lock = put_at at.lock o lk; phase = put_at at.phase o ph }

      abbrev n : Memory
      n = b.plain.memory

      -- the channels of the other state
      pub on_here : On b o z
      on_here = (ap (λ h. slice_get h o) X.heap ∙ get_set_same m.heap o (channel k) (channel z) on.0, X.touch o ∙ on.1)

      pub on_else : (p : ℕ) (l : Chan) → p ≢ o → On s p l → On b p l
      on_else p l ne e = (ap (λ h. slice_get h p) X.heap ∙ (set_else m.heap o p (channel z) ne ∙ e.0), X.touch p ∙ e.1)

      pub on_was : (p : ℕ) (l : Chan) → On b p l → ((p ≡ o) × (z ≡ l)) ⊎ ((p ≢ o) × On s p l)
      on_was p l e = ⊎_elim (λ u. inl (u.0, same_channel z l u.1)) (λ u. inr (u.0, (u.1, sym (X.touch p) ∙ e.1)))
          (at_set m.heap o p (channel z) (channel l) (ap (λ h. slice_get h p) (sym X.heap) ∙ e.0))

      on_made : (p : ℕ) (l : Chan) → On s p l → (l' : Chan) × On b p l' × (l'.capacity ≡ l.capacity) × (l.closed ≡ true → l'.closed ≡ true)
      on_made p l e = dite (ℕ_discrete p o)
          (λ w. let same : l ≡ k = same_chan s o l k (subst (λ q. On s q l) w e) on in (
            z,
            subst (λ q. On b q z) (sym w) on_here,
            X.capacity ∙ ap (λ (r : Chan). r.capacity) (sym same),
            λ t. X.closes (ap (λ (r : Chan). r.closed) (sym same) ∙ t),
          ))
          (λ ne. (l, on_else p l ne e, refl, λ t. t))

      -- the words
      other : (j : ℕ) → j ≢ place o → slice_index more j ≡ slice_index words j
      other j ne = get_or-set_other words (place o) j x 0 ne

      written : slice_index more (place o) ≡ x
      written = get_or-set_same words (place o) x 0 (control_in o k on)

      apart_of : (p i : ℕ) (l : Chan) → p ≢ o → On s p l → i < 2 + extent l.capacity
          → slice_index more (word_of_channel place cell p i) ≡ slice_index words (word_of_channel place cell p i)
      apart_of p i l ne e hi = other (word_of_channel place cell p i) (λ q. far p o i 0 l k ne e on hi (omega arith) q)

      -- the cells of channels stay
      cell_stays : (p i : ℕ) (l : Chan) → On s p l → i < extent l.capacity
          → slice_index more (cell p i) ≡ slice_index words (cell p i)
      cell_stays p i l e hi = other (cell p i) (cell_apart p o i l k e on hi)

      same_cap : (p : ℕ) (l : Chan) → On b p l → (l' : Chan) × On s p l' × (l'.capacity ≡ l.capacity)
      same_cap p l e = ⊎_elim
          (λ (u : (p ≡ o) × (z ≡ l)). (k, rw u.0 on, sym X.capacity ∙ ap (λ (y : Chan). y.capacity) u.1))
          (λ (u : (p ≢ o) × On s p l). (l, u.1, refl))
          (on_was p l e)

      -- a goroutine that has locked another channel is another one
      holder : (j p n' : ℕ) (y : ChannelRec) (l : Chan) → slice_get recs j ≡ Some y → at.lock p ≡ LockedBy j → j ≢ g → p ≢ o
      holder j p n' y l e q ne w =
          let t : at.lock o ≡ LockedBy j = ap at.lock (sym w) ∙ q in
          ⊎_elim (λ u. absurd (let v : Unlocked ≡ LockedBy j = sym u ∙ t in cc v))
          (λ u. ne (let v : LockedBy g ≡ LockedBy j = sym u ∙ t in sym (cc v))) X.told.mine_lock

      pub control_step : Channels code page_words encode place cell more (slice_set recs g d) b at'
      control_step = record {
        controls = λ p l e. ⊎_elim
            (λ (u : (p ≡ o) × (z ≡ l)). rw (
              u.0,
              ← u.1,
              put_here at.lock o lk o refl,
              put_here at.head o hd o refl,
              put_here at.phase o ph o refl,
            ) (written ∙ X.word))
            (λ (u : (p ≢ o) × On s p l). rw (
              put_else at.lock o lk p u.0,
              put_else at.head o hd p u.0,
              put_else at.phase o ph p u.0,
            )
            (apart_of p 0 l u.0 u.1 (omega arith) ∙ K.controls p l u.1))
            (on_was p l e);
        capacities = λ p l e. let r = same_cap p l e in let i = K.inside p r.0 r.1 in dite (ℕ_discrete p o)
            (λ w. other (place p + 1) (λ q. let t : place p ≡ place o = ap place w in omega arith)
            ∙ (K.capacities p r.0 r.1 ∙ r.2))
            (λ ne. apart_of p 1 r.0 ne r.1 (omega arith) ∙ (K.capacities p r.0 r.1 ∙ r.2));
        cells = λ p i v l e q. ⊎_elim
            (λ (u : (p ≡ o) × (z ≡ l)). rw (u.0, put_here at.head o hd o refl, ← u.1, X.capacity)
            (let f = ap (λ (y : Chan). slice_get y.queue i) u.1 ∙ q in
            let t = queue_cell k z.queue hd i v (λ w. (X.unbuffered w).0) f in
            cell_stays o (cell_of k hd i) k on t.1 ∙ X.cells i v f))
            (λ (u : (p ≢ o) × On s p l). let t = place_in p i v l u.1 q in rw (put_else at.head o hd p u.0)
            (cell_stays p (cell_of l (at.head p) i) l u.1 t.1 ∙ K.cells p i v l u.1 q))
            (on_was p l e);
        buffered = λ p l e q. ⊎_elim
            (λ (u : (p ≡ o) × (z ≡ l)). rw (
              u.0,
              put_here at.head o hd o refl,
              put_here at.phase o ph o refl,
              ← u.1,
              X.capacity,
            ) (X.buffered (rw (← X.capacity, u.1) q)))
            (λ (u : (p ≢ o) × On s p l). rw (put_else at.head o hd p u.0, put_else at.phase o ph p u.0)
            (K.buffered p l u.1 q))
            (on_was p l e);
        unbuffered = λ p l e q. ⊎_elim
            (λ (u : (p ≡ o) × (z ≡ l)). rw (u.0, put_here at.head o hd o refl, ← u.1)
            (X.unbuffered (rw (← X.capacity, u.1) q)))
            (λ (u : (p ≢ o) × On s p l). rw (put_else at.head o hd p u.0) (K.unbuffered p l u.1 q))
            (on_was p l e);
        small = λ p l e. let r = same_cap p l e in rw (← r.2) (K.small p r.0 r.1);
        inside = λ p l e. let r = same_cap p l e in rw (← r.2, length-set) (K.inside p r.0 r.1);
        cells_inside = λ p i l e q. let r = same_cap p l e in rw length-set (K.cells_inside p i r.0 r.1 (rw r.2 q));
        row = λ p i l e w q. let r = same_cap p l e in K.row p i r.0 r.1 (rw r.2 w) (rw r.2 q);
        apart = λ p q i j l l' e e' h h'. let r = same_cap p l e in let r' = same_cap q l' e' in
            K.apart p q i j r.0 r'.0 r.1 r'.1 (rw r.2 h) (rw r'.2 h');
        lockers = λ p j l f e. dite (ℕ_discrete p o)
            (λ w. let q = X.told.lock j (sym (put_here at.lock o lk p w) ∙ e) in
            (d, q.1, rw q.0 here, subst (λ i. HoldsAt d.hold (place i) q.1) (sym w) q.2))
            (λ ne. let l' = ⊎_elim (λ u. absurd (ne u.0)) (λ u. u.1) (on_was p l f) in
            let q = K.lockers p j l l' (sym (put_else at.lock o lk p ne) ∙ e) in
            let nj : j ≢ g = λ w. ne (one_place p o l k l' on (X.told.only (place p) q.1
            (subst (λ (y : ChannelRec). HoldsAt y.hold (place p) q.1) (is_mine j q.0 q.2 w) q.3))) in
            (q.0, q.1, stays j q.0 nj q.2, q.3));
        locks = λ j a i y e q. ⊎_elim
            (λ (u : (j ≡ g) × (d ≡ y)). let t = X.told.hold a i (subst (λ (r : ChannelRec). HoldsAt r.hold a i) (sym u.1) q) in (
              o,
              z,
              on_here,
              sym t.0,
              put_here at.lock o lk o refl ∙ (t.1 ∙ ap LockedBy (sym u.0)),
              subst (λ i'. slice_index more i' ≡ suc i) (sym t.0) (written ∙ t.2),
            ))
            (λ (u : (j ≢ g) × (slice_get recs j ≡ Some y)). let t = K.locks j a i y u.1 q in
            let ne = holder j t.0 i y t.1 u.1 t.4 u.0 in (
              t.0,
              t.1,
              on_else t.0 t.1 ne t.2,
              t.3,
              put_else at.lock o lk t.0 ne ∙ t.4,
              subst (λ i'. slice_index more i' ≡ slice_index words i') t.3
                  (apart_of t.0 0 t.1 ne t.2 (omega arith)) ∙ t.5,
            ))
            (recs_was j y e);
        in_cells = λ j a i v y e q. ⊎_elim
            (λ (u : (j ≡ g) × (d ≡ y)). absurd (X.told.no_cell a i v (subst (λ (r : ChannelRec). InCell r.hold a i v) (sym u.1) q)))
            (λ (u : (j ≢ g) × (slice_get recs j ≡ Some y)). let t = K.in_cells j a i v y u.1 q in
            let hh = held y.hold a i v q in
            let lk' = K.locks j a hh.0 y u.1 hh.1 in
            let same : lk'.0 ≡ t.0 = one_place lk'.0 t.0 lk'.1 t.1 lk'.2 t.2 (lk'.3 ∙ sym t.3) in
            let ne = holder j t.0 hh.0 y t.1 u.1 (subst (λ p. at.lock p ≡ LockedBy j) same lk'.4) u.0 in (
              t.0,
              t.1,
              on_else t.0 t.1 ne t.2,
              t.3,
              t.4,
              cell_stays t.0 i t.1 t.2 t.4 ∙ t.5,
            ))
            (recs_was j y e);
        sizes = λ j a i y e q.
            let t : (p : ℕ) × (l : Chan) × On s p l × (place p ≡ a) × (l.capacity ≡ i) = ⊎_elim
            (λ (u : (j ≡ g) × (d ≡ y)). K.sizes g a i c mine (X.told.size a i (ap (λ (r : ChannelRec). r.size) u.1 ∙ q)))
            (λ (u : (j ≢ g) × (slice_get recs j ≡ Some y)). K.sizes j a i y u.1 q)
            (recs_was j y e) in
            let r = on_made t.0 t.1 t.2 in (t.0, r.0, r.1, t.3, r.2 ∙ t.4);
        reaches = λ j a i w y e q.
            let t : (p : ℕ) × (l : Chan) × On s p l × (place p ≡ a) × (i < extent l.capacity) × (cell p i ≡ w) = ⊎_elim
            (λ (u : (j ≡ g) × (d ≡ y)). K.reaches g a i w c mine
            (X.told.reach a i w (ap (λ (r : ChannelRec). r.reach) u.1 ∙ q)))
            (λ (u : (j ≢ g) × (slice_get recs j ≡ Some y)). K.reaches j a i w y u.1 q)
            (recs_was j y e) in
            let r = on_made t.0 t.1 t.2 in (t.0, r.0, r.1, t.3, rw r.2 t.4, t.5);
        saws = λ j a y e q.
            let t : (p : ℕ) × (l : Chan) × On s p l × (place p ≡ a) × (l.closed ≡ true) = ⊎_elim
            (λ (u : (j ≡ g) × (d ≡ y)). K.saws g a c mine (X.told.saw a (ap (λ (r : ChannelRec). r.saw) u.1 ∙ q)))
            (λ (u : (j ≢ g) × (slice_get recs j ≡ Some y)). K.saws j a y u.1 q)
            (recs_was j y e) in
            let r = on_made t.0 t.1 t.2 in (t.0, r.0, r.1, t.3, r.3 t.4);
        strands = λ j a y e q.
            let t : (p : ℕ) × (l : Chan) × On s p l × (place p ≡ a) × (l.closed ≡ true) × (at.phase p ≡ Offered j) = ⊎_elim
            (λ (u : (j ≡ g) × (d ≡ y)). rw u.0 (K.strands g a c mine
            (X.told.strand a (ap (λ (r : ChannelRec). r.saw) u.1 ∙ q))))
            (λ (u : (j ≢ g) × (slice_get recs j ≡ Some y)). K.strands j a y u.1 q)
            (recs_was j y e) in
            let r = on_made t.0 t.1 t.2 in (
              t.0,
              r.0,
              r.1,
              t.3,
              r.3 t.4,
              dite (ℕ_discrete t.0 o)
                  (λ w. put_here at.phase o ph t.0 w ∙ X.stranded j
                  (ap (λ (l : Chan). l.closed) (same_chan s o k t.1 on (subst (λ p. On s p t.1) w t.2)) ∙ t.4)
                  (ap at.phase (sym w) ∙ t.5))
                  (λ ne. put_else at.phase o ph t.0 ne ∙ t.5),
            );
        knows = X.know;
        as_many = length_slice_set recs g d ∙ (K.as_many ∙ sym X.as_many);
        calm = X.calm;
        posts = λ j a y e q. ⊎_elim
            (λ (u : (j ≡ g) × (d ≡ y)). ⊎_elim
            (λ t. (o, z, on_here, sym t.0, rw (put_here at.phase o ph o refl, u.0) t.1))
            (λ t. moved j a c (rw u.0 mine) t.0 (λ r. rw u.0 (t.1 (subst (OfferOf (at.phase o)) u.0 r))))
            (X.mine_post a (ap (λ (r : ChannelRec). r.post) u.1 ∙ q)))
            (λ (u : (j ≢ g) × (slice_get recs j ≡ Some y)). moved j a y u.1 q (X.theirs j u.0))
            (recs_was j y e);
        offers = λ p j l e q. dite (ℕ_discrete p o)
            (λ w. let t = X.offer j (subst (λ r. OfferOf r j) (put_here at.phase o ph p w) q) in (
              t.0,
              t.1,
              t.2,
              t.3,
              t.4 ∙ ap (λ i. Offering (place i)) (sym w),
              t.5 ∙ (ap (λ i. holder_offer i ph) (sym w) ∙ ap (holder_offer p) (sym (put_here at.phase o ph p w))),
            ))
            (λ ne. let r = subst (λ r. OfferOf r j) (put_else at.phase o ph p ne) q in
            let l' = ⊎_elim (λ u. absurd (ne u.0)) (λ u. u.1) (on_was p l e) in
            let t = K.offers p j l l' r in
            let x' = X.others p j l ne l' r in
            let f = x'.0.1 ∙ t.3 in
            let pl = t.5 ∙ ap (holder_offer p) (sym (put_else at.phase o ph p ne)) in
            dite (ℕ_discrete j g)
            (λ w. (d, t.1, rw w here, f, x'.1 w ∙ (ap (λ (y : ChannelRec). y.post) (sym (is_mine j t.0 t.2 w)) ∙ t.4), pl))
            (λ nj. (t.0, t.1, stays j t.0 nj t.2, f, t.4, pl)));
        waits = λ p j l e q. dite (ℕ_discrete p o)
            (λ w. let t = X.wait j (sym (put_here at.phase o ph p w) ∙ q) in (
              t.0,
              subst (λ i. Next code b j Send (value.Object i ∷ t.0 ∷ [])) (sym w) t.1,
              subst (λ i. slice_index more (cell i 0) ≡ encode t.0) (sym w)
                  (cell_stays o 0 k on (some_cell k.capacity) ∙ t.2),
            ))
            (λ ne. let r = sym (put_else at.phase o ph p ne) ∙ q in
            let l' = ⊎_elim (λ u. absurd (ne u.0)) (λ u. u.1) (on_was p l e) in
            let t = K.waits p j l l' r in
            let x' = X.others p j l ne l' (subst (λ y. OfferOf y j) (sym r) refl) in (
              t.0,
              next_same code s b j Send (value.Object p ∷ t.0 ∷ []) x'.0 t.1,
              cell_stays p 0 l l' (some_cell l.capacity) ∙ t.2,
            ));
      }
        where
          moved : (j a : ℕ) (y : ChannelRec) → slice_get recs j ≡ Some y → y.post ≡ Offering a
              → (OfferOf (at.phase o) j → OfferOf ph j)
              → (p : ℕ) × (l : Chan) × On b p l × (place p ≡ a) × OfferOf (put_at at.phase o ph p) j
          moved j a y e q keeps =
              let t = K.posts j a y e q in
              dite (ℕ_discrete t.0 o)
              (λ w. (
                o,
                z,
                on_here,
                ap place (sym w) ∙ t.3,
                rw (put_here at.phase o ph o refl) (keeps (subst (λ p. OfferOf (at.phase p) j) w t.4)),
              ))
              (λ ne. (t.0, t.1, on_else t.0 t.1 ne t.2, t.3, rw (put_else at.phase o ph t.0 ne) t.4))

    -- the record knows more or less of channels, and holds what it held
    module _ (to : (a n : ℕ) → HoldsAt d.hold a n → HoldsAt c.hold a n)
        (fro : (a n : ℕ) → HoldsAt c.hold a n → HoldsAt d.hold a n)
        (in_cell : (a i v : ℕ) → InCell d.hold a i v → (o : ℕ) × (k : Chan) × On s o k × (place o ≡ a)
        × (i < extent k.capacity) × (slice_index words (cell o i) ≡ v))
        (size : (a n : ℕ) → d.size ≡ Sized a n → (o : ℕ) × (k : Chan) × On s o k × (place o ≡ a) × (k.capacity ≡ n))
        (reach : (a i w : ℕ) → d.reach ≡ Reached a i w → (o : ℕ) × (k : Chan) × On s o k × (place o ≡ a)
        × (i < extent k.capacity) × (cell o i ≡ w))
        (saw : (a : ℕ) → d.saw ≡ Shut a → (o : ℕ) × (k : Chan) × On s o k × (place o ≡ a) × (k.closed ≡ true))
        (strand : (a : ℕ) → d.saw ≡ Stranded a → (o : ℕ) × (k : Chan) × On s o k × (place o ≡ a) × (k.closed ≡ true)
        × (at.phase o ≡ Offered g))
        (post : d.post ≡ c.post) (know : (a : ℕ) → KnowsOf d a → IsAt code place s g d.post a) where
      pub record_step : Channels code page_words encode place cell words (slice_set recs g d) s at
      record_step = record {
        controls = K.controls;
        capacities = K.capacities;
        cells = K.cells;
        buffered = K.buffered;
        unbuffered = K.unbuffered;
        small = K.small;
        inside = K.inside;
        cells_inside = K.cells_inside;
        row = K.row;
        apart = K.apart;
        lockers = λ o j k on e. let q = K.lockers o j k on e in dite (ℕ_discrete j g)
            (λ w. (
              d,
              q.1,
              rw w here,
              fro (place o) q.1
                  (subst (λ (y : ChannelRec). HoldsAt y.hold (place o) q.1) (is_mine j q.0 q.2 w) q.3),
            ))
            (λ ne. (q.0, q.1, stays j q.0 ne q.2, q.3));
        locks = λ j a n y e q. ⊎_elim
            (λ (u : (j ≡ g) × (d ≡ y)). let t = K.locks g a n c mine
            (to a n (subst (λ (r : ChannelRec). HoldsAt r.hold a n) (sym u.1) q)) in
            (t.0, t.1, t.2, t.3, t.4 ∙ ap LockedBy (sym u.0), t.5))
            (λ (u : (j ≢ g) × (slice_get recs j ≡ Some y)). K.locks j a n y u.1 q)
            (recs_was j y e);
        in_cells = λ j a i v y e q. ⊎_elim
            (λ (u : (j ≡ g) × (d ≡ y)). in_cell a i v (subst (λ (r : ChannelRec). InCell r.hold a i v) (sym u.1) q))
            (λ (u : (j ≢ g) × (slice_get recs j ≡ Some y)). K.in_cells j a i v y u.1 q)
            (recs_was j y e);
        sizes = λ j a n y e q. ⊎_elim
            (λ (u : (j ≡ g) × (d ≡ y)). size a n (ap (λ (r : ChannelRec). r.size) u.1 ∙ q))
            (λ (u : (j ≢ g) × (slice_get recs j ≡ Some y)). K.sizes j a n y u.1 q)
            (recs_was j y e);
        reaches = λ j a i w y e q. ⊎_elim
            (λ (u : (j ≡ g) × (d ≡ y)). reach a i w (ap (λ (r : ChannelRec). r.reach) u.1 ∙ q))
            (λ (u : (j ≢ g) × (slice_get recs j ≡ Some y)). K.reaches j a i w y u.1 q)
            (recs_was j y e);
        saws = λ j a y e q. ⊎_elim
            (λ (u : (j ≡ g) × (d ≡ y)). saw a (ap (λ (r : ChannelRec). r.saw) u.1 ∙ q))
            (λ (u : (j ≢ g) × (slice_get recs j ≡ Some y)). K.saws j a y u.1 q)
            (recs_was j y e);
        strands = λ j a y e q. ⊎_elim
            (λ (u : (j ≡ g) × (d ≡ y)). rw u.0 (strand a (ap (λ (r : ChannelRec). r.saw) u.1 ∙ q)))
            (λ (u : (j ≢ g) × (slice_get recs j ≡ Some y)). K.strands j a y u.1 q)
            (recs_was j y e);
        knows = they_know s know (λ j y ne e free. (refl, refl));
        as_many = length_slice_set recs g d ∙ K.as_many;
        calm = λ j y h e f q. ⊎_elim
            (λ (u : (j ≡ g) × (d ≡ y)). K.calm g c h mine (rw (← u.0) f)
            (sym post ∙ (ap (λ (r : ChannelRec). r.post) u.1 ∙ q)))
            (λ (u : (j ≢ g) × (slice_get recs j ≡ Some y)). K.calm j y h u.1 f q)
            (recs_was j y e);
        posts = λ j a y e q. ⊎_elim
            (λ (u : (j ≡ g) × (d ≡ y)). rw u.0 (K.posts g a c mine
            (sym post ∙ (ap (λ (r : ChannelRec). r.post) u.1 ∙ q))))
            (λ (u : (j ≢ g) × (slice_get recs j ≡ Some y)). K.posts j a y u.1 q)
            (recs_was j y e);
        offers = λ o j k on q. let t = K.offers o j k on q in dite (ℕ_discrete j g)
            (λ w. (d, t.1, rw w here, t.3, post ∙ (ap (λ (y : ChannelRec). y.post) (sym (is_mine j t.0 t.2 w)) ∙ t.4), t.5))
            (λ ne. (t.0, t.1, stays j t.0 ne t.2, t.3, t.4, t.5));
        waits = K.waits;
      }

  -- a record that had locked channel o, and now knows of its offer alone
  pub freed : (g : ℕ) (c : ChannelRec) (mine : slice_get recs g ≡ Some c) (post : Post) (o n x : ℕ) → HoldsAt c.hold (place o) n
      → at.lock o ≡ LockedBy g
      → Told g c (record { hold = Free; size = Unknown; reach = Unreached; post = post; saw = Nothing }) mine o x Unlocked
  freed g c mine post o n x held locked = record {
    mine_lock = inr locked;
    only = λ a j q. one_hold c.hold (place o) n a j held q;
    lock = λ j q. absurd (let y : Unlocked ≡ LockedBy j = q in cc y);
    hold = λ a j q. absurd q;
    no_cell = λ a i u q. q;
    size = λ a j q. absurd (let y : Unknown ≡ Sized a j = q in cc y);
    reach = λ a i w q. absurd (let y : Unreached ≡ Reached a i w = q in cc y);
    saw = λ a q. absurd (let y : Nothing ≡ Shut a = q in cc y);
    strand = λ a q. absurd (let y : Nothing ≡ Stranded a = q in cc y);
  }

  -- a cell that holds nothing of the queue, and no offer, is stored by the goroutine that has locked the channel
  module _ (g : ℕ) (c : ChannelRec) (mine : slice_get recs g ≡ Some c) (o : ℕ) (k : Chan) (on : On s o k) (n : ℕ)
      (hold : HoldsAt c.hold (place o) n) (no_cell : (a i v : ℕ) → InCell c.hold a i v → ⊥) (i v : ℕ)
      (within : i < extent k.capacity)
      (no_queue : (j : ℕ) (u : Value) → slice_get k.queue j ≡ Some u → cell_of k (at.head o) j ≢ i)
      (no_offer : (j : ℕ) → at.phase o ≡ Offered j → 0 ≢ i) where
    abbrev stored : List ℕ
    stored = slice_set words (cell o i) v

    -- any other word of a channel
    keeps : (p j : ℕ) (l : Chan) → On s p l → j < 2 + extent l.capacity → (p ≡ o → j ≢ suc (suc i))
        → slice_index stored (word_of_channel place cell p j) ≡ slice_index words (word_of_channel place cell p j)
    keeps p j l x hj ne = get_or-set_other words (cell o i) (word_of_channel place cell p j) v 0
        (λ e. let t = K.apart p o j (suc (suc i)) l k x on hj (omega arith) e in ne t.0 t.1)

    keeps_cell : (p j : ℕ) (l : Chan) → On s p l → j < extent l.capacity → (p ≡ o → j ≢ i)
        → slice_index stored (cell p j) ≡ slice_index words (cell p j)
    keeps_cell p j l x hj ne = keeps p (suc (suc j)) l x (omega arith) (λ w e. ne w (omega arith))

    pub cell_step : Channels code page_words encode place cell stored recs s at
    cell_step = record {
      controls = λ p l x. keeps p 0 l x (omega arith) (λ w e. omega arith) ∙ K.controls p l x;
      capacities = λ p l x. keeps p 1 l x (omega arith) (λ w e. omega arith) ∙ K.capacities p l x;
      cells = λ p j u l x e. let t = place_in p j u l x e in
          keeps_cell p (cell_of l (at.head p) j) l x t.1
          (λ w y. let same : l ≡ k = same_chan s o l k (subst (λ q. On s q l) w x) on in
          no_queue j u (subst (λ (r : Chan). slice_get r.queue j ≡ Some u) same e)
          (ap (λ p. cell_of k (at.head p) j) (sym w) ∙ (ap (λ (r : Chan). cell_of r (at.head p) j) (sym same) ∙ y)))
          ∙ K.cells p j u l x e;
      buffered = K.buffered;
      unbuffered = K.unbuffered;
      small = K.small;
      inside = λ p l x. rw length-set (K.inside p l x);
      cells_inside = λ p j l x h. rw length-set (K.cells_inside p j l x h);
      row = K.row;
      apart = K.apart;
      lockers = K.lockers;
      locks = λ j a y z e q. let t = K.locks j a y z e q in (
        t.0,
        t.1,
        t.2,
        t.3,
        t.4,
        subst (λ a. slice_index stored a ≡ slice_index words a) t.3
            (keeps t.0 0 t.1 t.2 (omega arith) (λ w e. omega arith)) ∙ t.5,
      );
      in_cells = λ j a y u z e q. let t = K.in_cells j a y u z e q in
          let ne : t.0 ≢ o = λ w.
          let h = held z.hold a y u q in
          let l = K.locks j a h.0 z e h.1 in
          let same : l.0 ≡ o = one_place l.0 t.0 l.1 t.1 l.2 t.2 (l.3 ∙ sym t.3) ∙ w in
          let x = K.locks g (place o) n c mine hold in
          let same' : x.0 ≡ o = one_place x.0 o x.1 k x.2 on x.3 in
          let b : LockedBy j ≡ LockedBy g = sym (subst (λ p. at.lock p ≡ LockedBy j) same l.4) ∙ subst (λ p. at.lock p ≡ LockedBy g) same' x.4 in
          let jg : j ≡ g = cc b in
          let same_rec : z ≡ c = same_Some z c (sym e ∙ (ap (slice_get recs) jg ∙ mine)) in
          no_cell a y u (subst (λ (r : ChannelRec). InCell r.hold a y u) same_rec q) in (
            t.0,
            t.1,
            t.2,
            t.3,
            t.4,
            keeps_cell t.0 y t.1 t.2 t.4 (λ w. absurd (ne w)) ∙ t.5,
          );
      sizes = K.sizes;
      reaches = K.reaches;
      saws = K.saws;
      strands = K.strands;
      knows = K.knows;
      as_many = K.as_many;
      calm = K.calm;
      posts = K.posts;
      offers = K.offers;
      waits = λ p j l x e. let t = K.waits p j l x e in (
        t.0,
        t.1,
        keeps_cell p 0 l x (some_cell l.capacity) (λ w. no_offer j (ap at.phase (sym w) ∙ e)) ∙ t.2,
      );
    }

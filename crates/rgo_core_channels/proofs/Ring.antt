-- Channels that no goroutine uses: two values in a buffer for three, and in one for five that is spread. They show that the image can
-- hold at all, and where the words of each form are.
use Rattle.std.proofs.Common.{◌≡◌, ℕ, zero, suc, ◌+◌, ◌-◌, ◌<◌, ◌≤◌, false, true, List, [], ◌∷◌, length, Some, None, slice_get, slice_index, nat_lt, if◌then◌else◌, refl, ap, sym, subst, ◌∙◌, arith}
use Rattle.std.proofs.lemmas.Option.{same_Some}
use Rattle.rgo_sound.specs.Memory.Memory.{Object}
use Rattle.rgo_sound.specs.Memory.declared.values.Value.{Value}
use Rattle.rgo_sound.specs.Memory.declared.values.Value.TheVariants as value
use Rattle.rgo_sound.specs.Code.Code.{Code}
use Rattle.rgo_sound.specs.RegionMachine.States.{Holder, NoOffer, RegionState}
use Rattle.rgo_core_channels.specs.Channels.{Calm, Chan, Channels, LockedBy, Offered, On, Places, Unlocked, cell_of, channel, count, word_of_channel}
use Rattle.rgo_core_channels.specs.Controls.{bit, control, extent, tail_words, spreads}
use Rattle.rgo_core_channels.specs.Examples.{LongIsShown, RingIsShown, spread_buffer, long_cell, long_words, ring, ring_words}
use Rattle.rgo_core_channels.specs.Records.{HoldsAt, InCell, KnowsOf, Nothing, Nowhere, Offering, Reached, ChannelRec, Shut, Sized, Stranded, Unknown, Unreached, at_rest}
use Rattle.rgo_core_channels.proofs.Opening.{only}
use Rattle.rgo_core_channels.proofs.Steps.{rest_knows, same_channel}

-- words of one open channel, with a buffer, in which its oldest value is in that cell
pub record Words (page_words : ℕ) (encode : Value → ℕ) (k : Chan) (cell : ℕ → ℕ) (words : List ℕ) (head : ℕ) : Type 0 where
  pub control_is : slice_index words 0 ≡ 0 + control (bit k.closed) (count k Calm) head
  pub capacity_is : slice_index words 1 ≡ k.capacity
  pub value_is : (i : ℕ) (v : Value) → slice_get k.queue i ≡ Some v → slice_index words (cell (cell_of k head i)) ≡ encode v
  pub buffer : 0 < k.capacity
  pub room : length k.queue ≤ k.capacity
  pub headed : head < k.capacity
  pub small : k.capacity < 1073741820
  pub inside : 2 + tail_words page_words k.capacity ≤ length words
  pub cells_inside : (i : ℕ) → i < extent k.capacity → cell i < length words
  pub row : (i : ℕ) → spreads page_words k.capacity ≡ false → i < extent k.capacity → cell i ≡ 2 + i
  pub apart : (i j : ℕ) → i < 2 + extent k.capacity → j < 2 + extent k.capacity
      → word_of_channel (λ o. 0) (λ o. cell) 0 i ≡ word_of_channel (λ o. 0) (λ o. cell) 0 j → i ≡ j

module _ (code : Code) (page_words : ℕ) (encode : Value → ℕ) (cell : ℕ → ℕ) (words : List ℕ) (s : RegionState) (h : Holder)
    (one : Chan) (head : ℕ) (heap : s.plain.memory.heap ≡ channel one ∷ []) (holders : s.holders ≡ h ∷ [])
    (no_offer : h.offer ≡ NoOffer) (W : Words page_words encode one cell words head) where
  first : (o : ℕ) (k : Chan) → slice_get (channel one ∷ []) o ≡ Some (channel k) → (o ≡ 0) × (one ≡ k)
  first zero k e = (refl, same_channel one k (same_Some (channel one) (channel k) e))
  first (suc o) k e = absurd (let z : None ≡ Some (channel k) = e in cc z)

  only_one : (o : ℕ) (k : Chan) → On s o k → (o ≡ 0) × (one ≡ k)
  only_one o k on = first o k (subst (λ (l : List Object). slice_get l o ≡ Some (channel k)) heap on.0)

  -- it is the only channel, so what holds of it holds of each
  of_one : (P : Chan → Type 0) → P one → (o : ℕ) (k : Chan) → On s o k → P k
  of_one P p o k on = subst P (only_one o k on).1 p

  only_holder : (g : ℕ) (k : Holder) → slice_get (h ∷ []) g ≡ Some k → h ≡ k
  only_holder zero k e = same_Some h k e
  only_holder (suc g) k e = absurd (let z : None ≡ Some k = e in cc z)

  word_here : (o i : ℕ) → word_of_channel (λ o. 0) (λ o. cell) o i ≡ word_of_channel (λ o. 0) (λ o. cell) 0 i
  word_here o zero = refl
  word_here o (suc zero) = refl
  word_here o (suc (suc i)) = refl

  abbrev at : Places
  at = record { head = λ o. head; lock = λ o. Unlocked; phase = λ o. Calm }

  pub shown : Channels code page_words encode (λ o. 0) (λ o. cell) words (at_rest ∷ []) s at
  shown = record {
    controls = of_one (λ k. slice_index words 0 ≡ 0 + control (bit k.closed) (count k Calm) head) W.control_is;
    capacities = of_one (λ k. slice_index words 1 ≡ k.capacity) W.capacity_is;
    cells = λ o i v k on. of_one (λ k. slice_get k.queue i ≡ Some v
        → slice_index words (cell (cell_of k head i)) ≡ encode v) (W.value_is i v) o k on;
    buffered = λ o k on room. of_one (λ k. (Calm ≡ Calm) × (length k.queue ≤ k.capacity) × (head < k.capacity))
        (refl, W.room, W.headed) o k on;
    unbuffered = λ o k on none. let z : one.capacity ≡ 0 = ap (λ (k : Chan). k.capacity) (only_one o k on).1 ∙ none in
        let b = W.buffer in absurd (omega arith);
    small = of_one (λ k. k.capacity < 1073741820) W.small;
    inside = of_one (λ k. 2 + tail_words page_words k.capacity ≤ length words) W.inside;
    cells_inside = λ o i k on. of_one (λ k. i < extent k.capacity → cell i < length words) (W.cells_inside i) o k on;
    row = λ o i k on. of_one (λ k. spreads page_words k.capacity ≡ false → i < extent k.capacity → cell i ≡ 2 + i)
        (W.row i) o k on;
    apart = λ o p i j k l on on' hi hj e. let a = only_one o k on in let b = only_one p l on' in (
      a.0 ∙ sym b.0,
      W.apart i j (subst (λ (c : Chan). i < 2 + extent c.capacity) (sym a.1) hi)
          (subst (λ (c : Chan). j < 2 + extent c.capacity) (sym b.1) hj)
          (sym (word_here o i) ∙ (e ∙ word_here p j)),
    );
    lockers = λ o g k on q. absurd (let z : Unlocked ≡ LockedBy g = q in cc z);
    locks = λ g a n y e q. absurd (subst (λ (r : ChannelRec). HoldsAt r.hold a n) (sym (only g y e)) q);
    in_cells = λ g a i x y e q. absurd (subst (λ (r : ChannelRec). InCell r.hold a i x) (sym (only g y e)) q);
    sizes = λ g a n y e q. absurd (let z : Unknown ≡ Sized a n = ap (λ (r : ChannelRec). r.size) (only g y e) ∙ q in cc z);
    reaches = λ g a i w y e q. absurd (let z : Unreached ≡ Reached a i w = ap (λ (r : ChannelRec). r.reach) (only g y e) ∙ q in cc z);
    saws = λ g a y e q. absurd (let z : Nothing ≡ Shut a = ap (λ (r : ChannelRec). r.saw) (only g y e) ∙ q in cc z);
    strands = λ g a y e q. absurd (let z : Nothing ≡ Stranded a = ap (λ (r : ChannelRec). r.saw) (only g y e) ∙ q in cc z);
    knows = λ g a y e q. absurd (rest_knows a (subst (λ (r : ChannelRec). KnowsOf r a) (sym (only g y e)) q));
    as_many = ap length (sym holders);
    calm = λ g y k e f q. ap (λ (r : Holder). r.offer) (sym (only_holder g k
        (subst (λ (l : List Holder). slice_get l g ≡ Some k) holders f))) ∙ no_offer;
    posts = λ g a y e q. absurd (let z : Nowhere ≡ Offering a = ap (λ (r : ChannelRec). r.post) (only g y e) ∙ q in cc z);
    offers = λ o g k on q. absurd q;
    waits = λ o g k on q. absurd (let z : Calm ≡ Offered g = q in cc z);
  }

-- ---- a ring of three in a page

ring_values : (encode : Value → ℕ) (i : ℕ) (v : Value) → slice_get ring.queue i ≡ Some v
    → slice_index (ring_words encode) (2 + cell_of ring 1 i) ≡ encode v
ring_values encode zero v e = ap encode (same_Some (value.Bool true) v e)
ring_values encode (suc zero) v e = ap encode (same_Some value.Nil v e)
ring_values encode (suc (suc i)) v e = absurd (let z : None ≡ Some v = e in cc z)

ring_word : (i : ℕ) → word_of_channel (λ o. 0) (λ o i. 2 + i) 0 i ≡ i
ring_word zero = refl
ring_word (suc zero) = refl
ring_word (suc (suc i)) = omega arith

pub ring_is_shown : RingIsShown
ring_is_shown code encode s h heap holders no_offer =
    shown code 256 encode (λ i. 2 + i) (ring_words encode) s h ring 1 heap holders no_offer (record {
      control_is = refl;
      capacity_is = refl;
      value_is = ring_values encode;
      buffer = omega arith;
      room = omega arith;
      headed = omega arith;
      small = omega arith;
      inside = omega arith;
      cells_inside = λ i h. omega arith;
      row = λ i e h. refl;
      apart = λ i j hi hj e. sym (ring_word i) ∙ (e ∙ ring_word j);
    })

-- ---- one of five over two data pages

long_values : (encode : Value → ℕ) (i : ℕ) (v : Value) → slice_get spread_buffer.queue i ≡ Some v
    → slice_index (long_words encode) (long_cell 0 (cell_of spread_buffer 3 i)) ≡ encode v
long_values encode zero v e = ap encode (same_Some (value.Bool true) v e)
long_values encode (suc zero) v e = ap encode (same_Some value.Nil v e)
long_values encode (suc (suc i)) v e = absurd (let z : None ≡ Some v = e in cc z)

-- back from a word to its number
abbrev long_back : ℕ → ℕ
long_back w = if nat_lt w 2 then w else (if nat_lt w 8 then 6 else w - 6)

long_word : (i : ℕ) → i < 7 → long_back (word_of_channel (λ o. 0) long_cell 0 i) ≡ i
long_word zero h = refl
long_word (suc zero) h = refl
long_word (suc (suc zero)) h = refl
long_word (suc (suc (suc zero))) h = refl
long_word (suc (suc (suc (suc zero)))) h = refl
long_word (suc (suc (suc (suc (suc zero))))) h = refl
long_word (suc (suc (suc (suc (suc (suc zero)))))) h = refl
long_word (suc (suc (suc (suc (suc (suc (suc i))))))) h = absurd (omega arith)

long_inside : (i : ℕ) → i < 5 → long_cell 0 i < 12
long_inside zero h = omega arith
long_inside (suc zero) h = omega arith
long_inside (suc (suc zero)) h = omega arith
long_inside (suc (suc (suc zero))) h = omega arith
long_inside (suc (suc (suc (suc zero)))) h = omega arith
long_inside (suc (suc (suc (suc (suc i))))) h = absurd (omega arith)

pub long_is_shown : LongIsShown
long_is_shown code encode s h heap holders no_offer =
    shown code 4 encode (long_cell 0) (long_words encode) s h spread_buffer 3 heap holders no_offer (record {
      control_is = refl;
      capacity_is = refl;
      value_is = long_values encode;
      buffer = omega arith;
      room = omega arith;
      headed = omega arith;
      small = omega arith;
      inside = omega arith;
      cells_inside = long_inside;
      row = λ i e h. absurd (let z : true ≡ false = e in cc z);
      apart = λ i j hi hj e. sym (long_word i hi) ∙ (ap long_back e ∙ long_word j hj);
    })

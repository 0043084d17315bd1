-- Loads of a channel's control, capacity and cells, the lock, and the store of a cell: the region machine makes no step. So frames stay,
-- and memory too, since it does not determine these words. What changes is what the record knows of the channel.
use Rattle.std.proofs.Common.{◌≡◌, ℕ, suc, ◌+◌, ◌-◌, ◌/◌, ◌%◌, ◌^◌, ◌<◌, ◌≤◌, ◌==◌, if◌then◌else◌, List, length, map, None, slice_get, slice_set, slice_index, Some, refl, ap, sym, subst, arith, inl, inr, ◌⊎◌, ◌∙◌}
use Rattle.rgo_sound.specs.RegionMachine.Objects.{object_words as words_in}
use Rattle.rgo_core_channels.specs.Channels.{Accepted, Calm, Chan, Offered, OfferOf, On, Phase, Places, channel, phase_number}
use Rattle.rgo_core_channels.specs.Controls.{count_of, extent, tail_words, head_of}
use Rattle.rgo_core_channels.specs.Moments.{LoadsWord, Moment}
use Rattle.rgo_core_channels.specs.Records.{Offering, ChannelRec as SideRec, Sized, with_hold, with_lock, with_look, with_own_look, with_reach, with_size, Read, Wrote}
use Rattle.rgo_core_channels.proofs.Lists.{set_own}
use Rattle.rgo_core_channels.proofs.Locks.{capacity_is, cell_load_is, cell_store_is, control_is, lock_is_taken, own_control_is, shown}
use Rattle.rgo_core_channels.proofs.Steps.{no_buffer}
use Rattle.rgo_core_memory.specs.Encoding.{content}
use Rattle.rgo_core_memory.specs.Ground.{ground_of}
use Rattle.rgo_core_memory.specs.Image.{StateImage, word_at}
use Rattle.rgo_core_memory.specs.Words.{all_words, base, cell_at}
use Rattle.rgo_core_memory.proofs.image.Channels.{untold}
use Rattle.rgo_core.specs.ties.AtChannels.{knows}
use Rattle.rgo_core.specs.moves.Channels.{CapacityMove, CellLoadMove, CellStoreMove, ControlMove, LockMove, OwnControlMove, PageNumberMove}
use Rattle.rgo_core.specs.Core.{Situation, Setup, layout}
use Rattle.rgo_core_channels.specs.Positions.{PositionsAgree, Layout, place_at}
use Rattle.rgo_core_channels.specs.Locking.{IsCell}
use Rattle.rgo_core_channels.proofs.Positions.{layout_is, page_number_is}
use Rattle.rgo_core.specs.Image.{ChannelsIn}
use Rattle.rgo_core.specs.Records.{Record, memory_of, side_of}
use Rattle.rgo_core.specs.Steps.{MakesNoStep}
use Rattle.rgo_core.proofs.channel_steps.AtChannels.{Reaches, at_channel, reaches}
use Rattle.rgo_core.proofs.channel_steps.Leaving.{channel_stands, channel_word}
use Rattle.rgo_core.proofs.image.Parts.{frame_stays, image_with, memory_stays}
use Rattle.rgo_core.proofs.image.Standing.{side_at}
use Rattle.rgo_core.specs.ties.Moments.{moment}
use Rattle.rgo_core_memory.specs.Owed.{claimed_for}
use Rattle.rgo_core.proofs.accesses.Links.{ClaimsStay, Waits, all_kept, claims_high, fixed_shown, links_with}
use Rattle.rgo_core.proofs.steps.Lift.{moves_by}

module _ {T : Setup} {g : ℕ} {c : Record} (x : Situation T g c) where
  -- only what the record knows of channels changes, and a word that memory does not determine
  pub side_stays : (words : List ℕ) (side : SideRec) (at : Places)
      → StateImage (layout T) words (map memory_of x.recs) x.s x.core.image.places
      → ChannelsIn T.code (layout T) x.core.image.places words
      (slice_set (map side_of x.recs) g side) x.s at
      → ClaimsStay x words → MakesNoStep x words (knows c side)
  side_stays words side at m k claims = record {
    counted = refl;
    same = record { prints = refl; first = refl; children = refl; refused = refl };
    image = image_with x words (knows c side) x.s x.core.image.places at x.core.image.addresses x.core.image.addressed
        (frame_stays x x.s x.core.image.places.slot x.core.image.addresses x.core.image.frames)
        (memory_stays x words x.s x.core.image.places m) k;
    links = links_with x words (fixed_shown x words (map memory_of x.recs) m) claims (knows c side) (all_kept refl refl refl refl) (Waits refl refl refl);
  }

  -- a word is loaded
  pub loaded : (i : ℕ) (side : SideRec)
      → ChannelsIn T.code (layout T) x.core.image.places
      (slice_set x.words i (slice_index x.words i)) (slice_set (map side_of x.recs) g side) x.s x.core.image.at
      → MakesNoStep x (slice_set x.words i (slice_index x.words i)) (knows c side)
  loaded i side k =
      side_stays (slice_set x.words i (slice_index x.words i)) side x.core.image.at
      (subst (λ (w : List ℕ). StateImage (layout T) w (map memory_of x.recs) x.s x.core.image.places)
      (sym (set_own x.words i)) x.core.image.memory) k
      (λ r. ap (λ (w : List ℕ). claimed_for (layout T) w r) (set_own x.words i))

  -- word i of a channel, which is not its capacity, becomes v
  module _ (o : ℕ) (k : Chan) (on : On x.s o k) where
    pub written : (i v : ℕ) → i < words_in (channel k) → content (channel k) i ≡ None
        → StateImage (layout T) (slice_set x.words (word_at (layout T) x.core.image.places o i) v) (map memory_of x.recs) x.s
        x.core.image.places
    written i v low none =
        untold (layout T) x.words (map memory_of x.recs) (ground_of x.s) x.core.image.places x.core.image.memory o (channel k)
        (channel_stands x.s o k on).0 (channel_stands x.s o k on).1 i v low none

    -- its control is where it begins
    pub control_at : word_at (layout T) x.core.image.places o 0 ≡ place_at (layout T) x.core.image.places o
    control_at = sym (channel_word (layout T) x.words (map memory_of x.recs) x.s x.core.image.places x.core.image.memory o 0 k on (omega arith))

  -- the control of a channel is a cell
  pub above : {control : ℕ} → Reaches x control → base (layout T) ≤ control
  above r = let e = r.place_is in omega (arith, e)

  -- and is after the first words
  pub high : {control : ℕ} → Reaches x control → 32 ≤ control
  high r = let e = r.place_is in omega (arith, e)

pub control_move : ControlMove
control_move T g c a r =
    moves_by T g c a (λ n. n) (λ n. knows c (with_look c.side a n))
    (λ n d. (d ≡ knows c (with_look c.side a n)) × (n + 4 < 2 ^ 64)
    × ((size : ℕ) → c.side.size ≡ Sized a size → head_of n < extent size)) (λ n. refl) (λ x. high x (reaches x r))
    (λ x small. inr (loaded x a (with_look c.side a (slice_index x.words a)) (is x).0)) (λ x. (refl, (is x).1, (is x).2))
  where
    is : (x : Situation T g c) → LoadsWord (moment x) g a (with_look c.side a) × (slice_index x.words a + 4 < 2 ^ 64)
        × ((size : ℕ) → c.side.size ≡ Sized a size → head_of (slice_index x.words a) < extent size)
    is x = control_is (moment x) g c.side (side_at x) a (at_channel x r)

-- the phase of the channel at which a goroutine's offer is
own_phase : (M : Moment) (g : ℕ) (c : SideRec) → slice_get M.recs g ≡ Some c → (a : ℕ) → c.post ≡ Offering a
    → (count_of (slice_index M.words a) ≡ 1) ⊎ (count_of (slice_index M.words a) ≡ 2)
own_phase M g c mine a post =
    let t = M.channels.posts g a c mine post in
    subst (λ b. (count_of (slice_index M.words b) ≡ 1) ⊎ (count_of (slice_index M.words b) ≡ 2)) t.3
    (by t.0 t.1 t.2 (M.at.phase t.0) refl t.4)
  where
    is : (o : ℕ) (k : Chan) → On M.state o k → OfferOf (M.at.phase o) g
        → count_of (slice_index M.words (M.place o)) ≡ phase_number (M.at.phase o)
    is o k on own =
        let n = (shown M g c mine o k on).1 in
        let none = no_buffer M.code M.page_words M.encode M.place M.cell M.words M.recs M.state M.at M.channels o g k on own in
        let l : length k.queue ≡ 0 = ap length (M.channels.unbuffered o k on none).0 in
        omega arith

    by : (o : ℕ) (k : Chan) → On M.state o k → (p : Phase) → M.at.phase o ≡ p → OfferOf (M.at.phase o) g
        → (count_of (slice_index M.words (M.place o)) ≡ 1) ⊎ (count_of (slice_index M.words (M.place o)) ≡ 2)
    by o k on Calm e own = absurd (subst (λ p. OfferOf p g) e own)
    by o k on (Offered j) e own = inl (is o k on own ∙ ap phase_number e)
    by o k on (Accepted j) e own = inr (is o k on own ∙ ap phase_number e)

pub own_control_move : OwnControlMove
own_control_move T g c a r =
    moves_by T g c a (λ n. n) (λ n. knows c (with_own_look c.side a n))
    (λ n d. (d ≡ knows c (with_own_look c.side a n)) × (n + 4 < 2 ^ 64) × ((count_of n ≡ 1) ⊎ (count_of n ≡ 2)))
    (λ n. refl) (λ x. high x (reaches x (inr r)))
    (λ x small. inr (loaded x a (with_own_look c.side a (slice_index x.words a)) (is x).0))
    (λ x. (refl, (is x).1, own_phase (moment x) g c.side (side_at x) a r))
  where
    is : (x : Situation T g c) → LoadsWord (moment x) g a (with_own_look c.side a) × (slice_index x.words a + 4 < 2 ^ 64)
    is x = own_control_is (moment x) g c.side (side_at x) a r

pub capacity_move : CapacityMove
capacity_move T g c a r =
    moves_by T g c (a + 1) (λ n. n) (λ n. knows c (with_size c.side a n))
    (λ n d. (d ≡ knows c (with_size c.side a n)) × (n < 1073741820) × (a + 2 + tail_words T.sizes.page_words n ≤ all_words (layout T))) (λ n. refl)
    (λ x. let h = high x (reaches x r) in omega (arith, h))
    (λ x small. inr (loaded x (a + 1) (with_size c.side a (slice_index x.words (a + 1))) (is x).0))
    (λ x. (refl, (is x).2, subst (λ n. a + 2 + tail_words T.sizes.page_words (slice_index x.words (a + 1)) ≤ n) x.core.image.memory.shows.wide (is x).1))
  where
    is : (x : Situation T g c) → LoadsWord (moment x) g (a + 1) (with_size c.side a)
        × (a + 2 + tail_words T.sizes.page_words (slice_index x.words (a + 1)) ≤ length x.words) × (slice_index x.words (a + 1) < 1073741820)
    is x = capacity_is (moment x) g c.side (side_at x) a (at_channel x r)

pub lock_move : LockMove
lock_move T g c a n r even free =
    moves_by T g c a (λ w. if w == n then suc n else w) (λ w. knows c (with_lock c.side a n w))
    (λ w d. d ≡ knows c (with_lock c.side a n w)) (λ w. refl) (λ x. high x (reaches x r)) (λ x small. inr (by x)) (λ x. refl)
  where
    by : (x : Situation T g c) → MakesNoStep x (slice_set x.words a (if slice_index x.words a == n then suc n else slice_index x.words a))
        (knows c (with_lock c.side a n (slice_index x.words a)))
    by x =
        let k = lock_is_taken (moment x) g c.side (side_at x) a n (at_channel x r) even free in
        let q = reaches x r in
        side_stays x (slice_set x.words a (if slice_index x.words a == n then suc n else slice_index x.words a))
        (with_lock c.side a n (slice_index x.words a)) k.0
        (subst (λ i. StateImage (layout T)
        (slice_set x.words i (if slice_index x.words a == n then suc n else slice_index x.words a))
        (map memory_of x.recs) x.s x.core.image.places) (control_at x q.object q.chan q.on ∙ q.place_is)
        (written x q.object q.chan q.on 0 (if slice_index x.words a == n then suc n else slice_index x.words a) (omega arith) refl))
        k.1 (claims_high x a (if slice_index x.words a == n then suc n else slice_index x.words a) (above x q))

-- ---- cells

module _ {T : Setup} {g : ℕ} {c : Record} (x : Situation T g c) (a i size : ℕ) (sized : c.side.size ≡ Sized a size) (within : i < extent size) where
  abbrev its : (o : ℕ) × (k : Chan) × On x.s o k × (place_at (layout T) x.core.image.places o ≡ a) × (k.capacity ≡ size)
  its = x.core.image.channels.sizes g a size c.side (side_at x) sized

  abbrev lie : Layout (layout T) x.words x.s x.core.image.places
  lie = layout_is (layout T) x.words (map memory_of x.recs) x.s x.core.image.places x.core.image.memory

  in_object : 2 + i < words_in (channel its.1)
  in_object = rw its.4 (omega (arith, within))

  in_cells : i < extent its.1.capacity
  in_cells = rw its.4 within

  -- the word is the cell
  pub cell_is : (p : ℕ) → IsCell T.sizes.page_words c.side a size i p → word_at (layout T) x.core.image.places its.0 (2 + i) ≡ p
  cell_is p (inl t) =
      let e = lie.row its.0 i its.1 its.2 (rw its.4 t.0) in_cells in
      let q = its.3 in let w = t.1 in omega (arith, e, q, w)
  cell_is p (inr reach) =
      let r = x.core.image.channels.reaches g a i p c.side (side_at x) reach in
      let same = (x.core.image.channels.apart its.0 r.0 0 0 its.1 r.1 its.2 r.2 (omega arith) (omega arith) (its.3 ∙ sym r.3)).0 in
      ap (λ o. word_at (layout T) x.core.image.places o (2 + i)) same ∙ r.5

  pub cell_above : (p : ℕ) → IsCell T.sizes.page_words c.side a size i p → base (layout T) ≤ p
  cell_above p is = let e = cell_is p is in omega (arith, e)

  untold_cell : content (channel its.1) (2 + i) ≡ None
  untold_cell = let e : suc (suc i) ≡ 2 + i = omega arith in subst (λ (j : ℕ). content (channel its.1) j ≡ None) e refl

  pub cell_written : (p v : ℕ) → IsCell T.sizes.page_words c.side a size i p
      → StateImage (layout T) (slice_set x.words p v) (map memory_of x.recs) x.s x.core.image.places
  cell_written p v is =
      subst (λ (j : ℕ). StateImage (layout T) (slice_set x.words j v) (map memory_of x.recs) x.s x.core.image.places)
      (cell_is p is) (written x its.0 its.1 its.2 (2 + i) v in_object untold_cell)

  -- a channel is above the first words
  pub begins_high : 32 ≤ a
  begins_high = let e = its.3 in omega (arith, e)

-- the moment of channels is that of the memory
laid_moment : {T : Setup} {g : ℕ} {c : Record} (x : Situation T g c) → PositionsAgree (moment x) (layout T) (map memory_of x.recs) x.core.image.places
laid_moment x = record { memory = x.core.image.memory; place = λ o k on. refl; cell = λ o i k on l. refl }

pub page_number_move : PageNumberMove
page_number_move T g c a i size sized spread within =
    moves_by T g c (a + 2 + i / T.sizes.page_words) (λ w. w)
    (λ w. knows c (with_reach c.side a i (cell_at (layout T) (w - 1) (i % T.sizes.page_words))))
    (λ w d. (d ≡ knows c (with_reach c.side a i (cell_at (layout T) (w - 1) (i % T.sizes.page_words)))) × (0 < w)
    × (cell_at (layout T) (w - 1) (i % T.sizes.page_words) < all_words (layout T))) (λ w. refl)
    (λ x. let h = begins_high x a i size sized within in omega (arith, h))
    (λ x small. inr (loaded x (a + 2 + i / T.sizes.page_words)
    (with_reach c.side a i (cell_at (layout T) (slice_index x.words (a + 2 + i / T.sizes.page_words) - 1) (i % T.sizes.page_words))) (is x).0))
    (λ x. (
      refl,
      (is x).2,
      subst (λ n. cell_at (layout T) (slice_index x.words (a + 2 + i / T.sizes.page_words) - 1) (i % T.sizes.page_words) < n)
          x.core.image.memory.shows.wide (is x).3,
    ))
  where
    is : (x : Situation T g c)
        → LoadsWord (moment x) g (a + 2 + i / T.sizes.page_words)
        (λ w. with_reach c.side a i (cell_at (layout T) (w - 1) (i % T.sizes.page_words)))
        × (a + 2 + i / T.sizes.page_words < length x.words)
        × (0 < slice_index x.words (a + 2 + i / T.sizes.page_words))
        × (cell_at (layout T) (slice_index x.words (a + 2 + i / T.sizes.page_words) - 1) (i % T.sizes.page_words) < length x.words)
    is x = page_number_is (moment x) g c.side (side_at x) (layout T) (map memory_of x.recs) x.core.image.places a i size (laid_moment x) sized spread within

pub cell_load_move : CellLoadMove
cell_load_move T g c a n i size p hold sized within is =
    moves_by T g c p (λ w. w) (λ w. knows c (with_hold c.side (Read a n i w)))
    (λ w d. d ≡ knows c (with_hold c.side (Read a n i w))) (λ w. refl)
    (λ x. let h = cell_above x a i size sized within p is in omega (arith, h))
    (λ x small. inr (loaded x p (with_hold c.side (Read a n i (slice_index x.words p)))
    (cell_load_is (moment x) g c.side (side_at x) a n i size p hold sized within is))) (λ x. refl)

pub cell_store_move : CellStoreMove
cell_store_move T g c a n i size p v hold sized spare is =
    moves_by T g c p (λ w. v) (λ w. knows c (with_hold c.side (Wrote a n i v)))
    (λ w d. d ≡ knows c (with_hold c.side (Wrote a n i v))) (λ w. refl)
    (λ x. let h = cell_above x a i size sized spare.0 p is in omega (arith, h))
    (λ x small. inr (by x)) (λ x. refl)
  where
    by : (x : Situation T g c) → MakesNoStep x (slice_set x.words p v) (knows c (with_hold c.side (Wrote a n i v)))
    by x =
        let k = cell_store_is (moment x) g c.side (side_at x) a n i size p v hold sized spare is in
        side_stays x (slice_set x.words p v) (with_hold c.side (Wrote a n i v)) k.0
        (cell_written x a i size sized spare.0 p v is) k.1 (claims_high x p v (cell_above x a i size sized spare.0 p is))

-- Where the memory of a table has the words of channels, and how a page number leads to a cell. A channel is an object, so its words
-- are those of the image of memory. Left is the arithmetic of spread ones: cell i is word i + 2.
use Rattle.std.proofs.Common.{◌≡◌, ℕ, zero, suc, ◌+◌, ◌-◌, ◌*◌, ◌/◌, ◌%◌, ◌<◌, ◌≤◌, Bool, false, true, List, length, max, if◌then◌else◌}
use Rattle.std.proofs.Common.{Option, None, Some, slice_get, slice_index, refl, ap, sym, subst, ◌∙◌, arith}
use Rattle.std.proofs.Math.Nat.{div-mul-le_self}
use Rattle.std.proofs.lemmas.Nat.{le-div}
use mathlib.Core.Logic.{dite}
use native.Mathlib.Decide.{ℕ_discrete}
use Rattle.rgo_sound.specs.RegionMachine.Objects.{data_pages, may_touch, owner_live, object_words as words_of}
use Rattle.rgo_sound.specs.RegionMachine.Regions.{is_live}
use Rattle.rgo_sound.specs.RegionMachine.States.{RegionState}
use Rattle.rgo_sound.specs.RegionMachine.declared.regions.Region.{Region}
use Rattle.rgo_sound.proofs.Tests.{split}
use Rattle.rgo_core_memory.specs.declared.layout.TableSizes.{TableSizes}
use Rattle.rgo_core_memory.specs.Encoding.{Spot, address}
use Rattle.rgo_core_memory.specs.Facts.{StandsIn}
use Rattle.rgo_core_memory.specs.Ground.{ground_of}
use Rattle.rgo_core_memory.specs.Image.{StateImage, Where, word_at}
use Rattle.rgo_core_memory.specs.Records.{Rec as MemoryRec}
use Rattle.rgo_core_memory.specs.Spread.{table_words, words_before}
use Rattle.rgo_core_memory.specs.Words.{base, cell_at}
use Rattle.rgo_core_memory.proofs.objects.Addresses.{word_inside, words_apart}
use Rattle.rgo_core_memory.proofs.image.Facts.{follow, spread_follow}
use Rattle.rgo_core_memory.proofs.objects.Spreads.{in_table, number_spot, spread_data}
use Rattle.rgo_core_memory.proofs.Writes.{in_pages}
use Rattle.rgo_core_channels.specs.Channels.{Chan, On, channel, word_of_channel}
use Rattle.rgo_core_channels.specs.Controls.{extent, tail_words, spreads}
use Rattle.rgo_core_channels.specs.Positions.{LayoutLaw, PageNumberLaw, cell_place, place_at}
use Rattle.rgo_core_channels.specs.Moments.{LoadsWord}
use Rattle.rgo_core_channels.specs.Records.{with_reach}
use Rattle.rgo_core_channels.proofs.Locks.{number_looks}

owner_of : (s : RegionState) (o : ℕ) → may_touch s (Some o) ≡ true
    → (r : Region) × (slice_get s.owners o ≡ Some r) × (is_live s.regions r ≡ true)
owner_of s o live = go (slice_get s.owners o) refl live
  where
    go : (r : Option Region) → slice_get s.owners o ≡ r → owner_live s r ≡ true
        → (r : Region) × (slice_get s.owners o ≡ Some r) × (is_live s.regions r ≡ true)
    go None e q = absurd (let z : false ≡ true = q in cc z)
    go (Some r) e q = (r, e, q)

pub channel_stands : (s : RegionState) (o : ℕ) (k : Chan) → On s o k → (r : Region) × StandsIn s o (channel k) r
channel_stands s o k on = let t = owner_of s o on.1 in (t.0, record { there = on.0; owner = t.1; live = t.2 })

-- a channel has two words before its cells
two_before : (n : ℕ) → (2 + max 1 n) - max 1 n ≡ 2
two_before n = omega arith

some_extent : (n : ℕ) → 0 < extent n
some_extent n = omega arith

-- the page of a cell is one of the data pages
pub page_low : (m i n : ℕ) → 0 < m → i < n → i / m < (n - 1) / m + 1
page_low m i n some l =
    let a = div-mul-le_self i m in
    let b : i / m ≤ (n - 1) / m = le-div (i / m) (n - 1) m some (omega (arith, a, l)) in
    omega (arith, b)

module _ (z : TableSizes) (words : List ℕ) (recs : List MemoryRec) (s : RegionState) (places : Where)
    (M : StateImage z words recs s places) where
  module _ (o : ℕ) (k : Chan) (on : On s o k) where
    abbrev pub region : Region
    region = (channel_stands s o k on).0

    pub stands : StandsIn s o (channel k) region
    stands = (channel_stands s o k on).1

    pub word_low : (i : ℕ) → i < 2 + extent k.capacity → word_at z places o i < length words
    word_low i l =
        let a = word_inside z words recs (ground_of s) places M o i (channel k) region stands
        (in_table z.page_words (channel k) i l) in
        let w = M.shows.wide in
        omega (arith, a, w)

    -- a page has at least one word
    some_page : 0 < z.page_words
    some_page =
        let e = some_extent k.capacity in
        let t = M.lies.inside o 0 (channel k) region stands (in_table z.page_words (channel k) 0 (omega (arith, e))) in
        let l = t.1 in omega (arith, l)

    row_is : (i : ℕ) → spreads z.page_words k.capacity ≡ false → i < 2 + extent k.capacity
        → word_at z places o i ≡ place_at z places o + i
    row_is i whole l =
        let a = (follow z words recs s places M o i (channel k) region stands whole l).0 in omega (arith, a)

    -- the first two words
    pub low_is : (i : ℕ) → i < 2 → word_at z places o i ≡ place_at z places o + i
    low_is i l = split (spreads z.page_words k.capacity)
        (λ sp.
        let t = spread_follow z words recs s places M o (channel k) region stands sp in
        let b = two_before k.capacity in
        let a = t.1 i (omega (arith, b, l)) in
        omega (arith, a))
        (λ whole. row_is i whole (omega (arith, l)))

    -- page numbers are in the table
    number_low : (j : ℕ) → spreads z.page_words k.capacity ≡ true → j < data_pages z.page_words (channel k)
        → place_at z places o + 2 + j < length words
    number_low j sp l =
        let over = M.lies.spread o (channel k) region stands sp in
        let m : words_of (channel k) + j < table_words z.page_words (channel k) = omega (arith, l) in
        let e = (over.1).laid (words_of (channel k) + j) m ∙ number_spot z.page_words (channel k) over.0 j in
        let t = M.lies.inside o (words_of (channel k) + j) (channel k) region stands m in
        let b = in_pages z.pages (places.spot o (words_of (channel k) + j)).page z.page_words
        (places.spot o (words_of (channel k) + j)).offset t.0 t.1 in
        let f = (over.1).begins in
        let p : (places.spot o (words_of (channel k) + j)).page * z.page_words ≡ (places.start o).page * z.page_words =
        ap (λ (y : Spot). y.page * z.page_words) e ∙ ap (λ (y : Spot). y.page * z.page_words) (sym f) in
        let q : (places.spot o (words_of (channel k) + j)).offset ≡ ((2 + max 1 k.capacity) - max 1 k.capacity) + j = ap Spot.offset e in
        let q0 : (places.start o).offset ≡ 0 = ap Spot.offset f in
        let two = two_before k.capacity in
        let w = M.shows.wide in
        omega (arith, b, p, q, q0, two, w)

    inside_is : place_at z places o + 2 + tail_words z.page_words k.capacity ≤ length words
    inside_is = go (spreads z.page_words k.capacity) refl
      where
        go : (b : Bool) → spreads z.page_words k.capacity ≡ b
            → place_at z places o + 2 + (if b then data_pages z.page_words (channel k) else extent k.capacity) ≤ length words
        go true sp =
            let d = spread_data z.page_words (channel k) sp in
            let l = number_low (data_pages z.page_words (channel k) - 1) sp (omega (arith, d)) in
            omega (arith, l, d)
        go false whole =
            let e = some_extent k.capacity in
            let a = row_is (1 + extent k.capacity) whole (omega arith) in
            let b = word_low (1 + extent k.capacity) (omega arith) in
            omega (arith, a, b, e)

    pub words_is : (i : ℕ) → i < 2 + extent k.capacity
        → word_of_channel (place_at z places) (cell_place z places) o i ≡ word_at z places o i
    words_is zero l = let a = low_is 0 (omega arith) in omega (arith, a)
    words_is (suc zero) l = sym (low_is 1 (omega arith))
    words_is (suc (suc i)) l = ap (word_at z places o) (two_more i)
      where
        two_more : (i : ℕ) → 2 + i ≡ suc (suc i)
        two_more i = omega arith

    -- which page number leads to a cell
    pub number_leads : (i : ℕ) → spreads z.page_words k.capacity ≡ true → i < extent k.capacity
        → (p : ℕ) × (slice_index words (place_at z places o + 2 + i / z.page_words) ≡ suc p)
        × (cell_place z places o i ≡ cell_at z p (i % z.page_words))
        × (place_at z places o + 2 + i / z.page_words < length words)
    number_leads i sp l =
        let t = spread_follow z words recs s places M o (channel k) region stands sp in
        let d = spread_data z.page_words (channel k) sp in
        let low = page_low z.page_words i (extent k.capacity) some_page l in
        let j : i / z.page_words < data_pages z.page_words (channel k) = omega (arith, d, low) in
        let two = two_before k.capacity in
        let at : place_at z places o + 2 + i / z.page_words
        ≡ base z + (address z places.start o + (words_before (channel k) + i / z.page_words)) = omega (arith, two) in
        let next : i / z.page_words + 1 ≡ suc (i / z.page_words) = omega arith in (
          slice_index t.0 (suc (i / z.page_words)),
          ap (slice_index words) at ∙ t.2 (i / z.page_words) j,
          ap (λ n. word_at z places o (n + i)) (sym two)
              ∙ (t.3 i l ∙ ap (λ n. cell_at z (slice_index t.0 n) (i % z.page_words)) next),
          number_low (i / z.page_words) sp j,
        )

  pub apart_is : (o p i j : ℕ) (k l : Chan) → On s o k → On s p l → i < 2 + extent k.capacity → j < 2 + extent l.capacity
      → word_of_channel (place_at z places) (cell_place z places) o i ≡ word_of_channel (place_at z places) (cell_place z places) p j
      → (o ≡ p) × (i ≡ j)
  apart_is o p i j k l on on' hi hj e =
      let same : word_at z places o i ≡ word_at z places p j = sym (words_is o k on i hi) ∙ (e ∙ words_is p l on' j hj) in
      let differ = λ (no : o ≡ p → i ≡ j → ⊥). words_apart z words recs (ground_of s) places M o p i j (channel k)
      (channel l) (region o k on) (region p l on') (stands o k on) (stands p l on') (in_table z.page_words (channel k) i hi)
      (in_table z.page_words (channel l) j hj) no same in
      dite (ℕ_discrete o p)
      (λ a. dite (ℕ_discrete i j) (λ b. (a, b)) (λ ne. absurd (differ (λ x y. ne y))))
      (λ ne. absurd (differ (λ x y. ne x)))

pub layout_is : LayoutLaw
layout_is z words recs s places M = record {
  inside = inside_is z words recs s places M;
  cells_inside = λ o i k on l. word_low z words recs s places M o k on (2 + i) (omega arith);
  row = λ o i k on whole l.
      let a = row_is z words recs s places M o k on (2 + i) whole (omega arith) in omega (arith, a);
  words_are = λ o i k on l. words_is z words recs s places M o k on i l;
  apart = apart_is z words recs s places M;
}

pub page_number_is : PageNumberLaw
page_number_is T g c mine z recs places a i size laid sizing sp within = (
  subst (λ p. LoadsWord T g (a + 2 + i / z.page_words) (λ w. with_reach c a i p)) cell_is (t.6 (a + 2 + i / z.page_words)),
  subst (λ p. p < length T.words) here n.3,
  let e = found in omega (arith, e),
  subst (λ p. p < length T.words) cell_is t.5,
)
  where
    t : (o : ℕ) × (k : Chan) × On T.state o k × (T.place o ≡ a) × (k.capacity ≡ size) × (T.cell o i < length T.words)
        × ((j : ℕ) → LoadsWord T g j (λ w. with_reach c a i (T.cell o i)))
    t = number_looks T g c mine a i size sizing within

    inside : i < extent t.1.capacity
    inside = rw t.4 within

    n : (p : ℕ) × (slice_index T.words (place_at z places t.0 + 2 + i / z.page_words) ≡ suc p)
        × (cell_place z places t.0 i ≡ cell_at z p (i % z.page_words))
        × (place_at z places t.0 + 2 + i / z.page_words < length T.words)
    n = number_leads z T.words recs T.state places laid.memory t.0 t.1 t.2 i (rw t.4 sp) inside

    here : place_at z places t.0 + 2 + i / z.page_words ≡ a + 2 + i / z.page_words
    here = ap (λ p. p + 2 + i / z.page_words) (sym (laid.place t.0 t.1 t.2) ∙ t.3)

    found : slice_index T.words (a + 2 + i / z.page_words) ≡ suc n.0
    found = ap (slice_index T.words) (sym here) ∙ n.1

    less : (p : ℕ) → suc p - 1 ≡ p
    less p = omega arith

    cell_is : T.cell t.0 i ≡ cell_at z (slice_index T.words (a + 2 + i / z.page_words) - 1) (i % z.page_words)
    cell_is = laid.cell t.0 i t.1 t.2 inside
        ∙ (n.2 ∙ ap (λ p. cell_at z p (i % z.page_words)) (sym (ap (λ w. w - 1) found ∙ less n.0)))

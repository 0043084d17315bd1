-- Spread objects: how many words they take, and where these are. It is arithmetic of quotients and remainders: two cells in one place
-- have the same quotient and the same remainder. The page numbers have room in the lead page, by the bound on data pages.
use Rattle.std.proofs.Common.{◌≡◌, ℕ, zero, suc, ◌+◌, ◌-◌, ◌/◌, ◌%◌, ◌<◌, ◌≤◌, Bool, true, false, List, [], ◌∷◌, length}
use Rattle.std.proofs.Common.{Some, refl, sym, ap, ◌∙◌, nat_lt, if◌then◌else◌, arith, max, min, ◌*◌}
use Rattle.std.proofs.Common.{slice_get, slice_index}
use Rattle.std.proofs.lemmas.Bool.Decides.{nat_tests}
use Rattle.std.proofs.lemmas.Nat.{le-div}
use Rattle.std.proofs.Math.Nat.{div-add-mod, div-mul-le_self, div-zero, mod-lt}
use Rattle.rgo_sound.proofs.steps.HeapGrows.{SameSize}
use Rattle.rgo_sound.proofs.Tests.{split}
use Rattle.rgo_sound.specs.Memory.Memory.{Object, StructObject, SliceObject, Channel}
use Rattle.rgo_sound.specs.RegionMachine.Objects.{cells, data_pages, is_spread, is_too_large, most_data_pages, object_words}
use Rattle.rgo_sound.specs.RegionMachine.Room.{pages_of}
use Rattle.rgo_core_memory.specs.declared.layout.TableSizes.{TableSizes}
use Rattle.rgo_core_memory.specs.Encoding.{Spot}
use Rattle.rgo_core_memory.specs.Parts.{SpreadOver}
use Rattle.rgo_core_memory.specs.Records.{Within}
use Rattle.rgo_core_memory.specs.Spread.{cell_spot, lead_spot, spread_spot, table_words, words_before}

-- ---- objects of one size

pub same_spread : (page_words : ℕ) (was object : Object) → SameSize was object
    → is_spread page_words object ≡ is_spread page_words was
same_spread page_words was object same = ap (λ n. nat_lt page_words n) same.0

pub same_data : (page_words : ℕ) (was object : Object) → SameSize was object
    → data_pages page_words object ≡ data_pages page_words was
same_data page_words was object same =
    ap (λ w. if nat_lt page_words w then (cells object - 1) / page_words + 1 else 0) same.0
    ∙ ap (λ k. if nat_lt page_words (object_words was) then (k - 1) / page_words + 1 else 0) same.1

pub same_table : (page_words : ℕ) (was object : Object) → SameSize was object
    → table_words page_words object ≡ table_words page_words was
same_table page_words was object same =
    ap (λ n. object_words object + n) (same_data page_words was object same)
    ∙ ap (λ n. n + data_pages page_words was) same.0

-- by the numbers of words and of cells
abbrev spot_by : (page_words : ℕ) → List ℕ → ℕ → (words cells : ℕ) → Spot
spot_by page_words pages i w k =
    if nat_lt i (w - k) then lead_spot pages i
    else (if nat_lt i w then cell_spot page_words pages (i - (w - k)) else lead_spot pages ((w - k) + (i - w)))

pub same_spot : (page_words : ℕ) (was object : Object) (pages : List ℕ) (i : ℕ) → SameSize was object
    → spread_spot page_words object pages i ≡ spread_spot page_words was pages i
same_spot page_words was object pages i same =
    ap (λ w. spot_by page_words pages i w (cells object)) same.0
    ∙ ap (λ k. spot_by page_words pages i (object_words was) k) same.1

-- ---- how many words

pub in_table : (page_words : ℕ) (object : Object) (i : ℕ) → i < object_words object → i < table_words page_words object
in_table page_words object i l = omega (arith, l)

pub whole_data : (page_words : ℕ) (object : Object) → is_spread page_words object ≡ false
    → data_pages page_words object ≡ 0
whole_data page_words object w = ap (λ b. if b then (cells object - 1) / page_words + 1 else 0) w

pub spread_data : (page_words : ℕ) (object : Object) → is_spread page_words object ≡ true
    → data_pages page_words object ≡ (cells object - 1) / page_words + 1
spread_data page_words object w = ap (λ b. if b then (cells object - 1) / page_words + 1 else 0) w

pub in_whole : (page_words : ℕ) (object : Object) (i : ℕ) → is_spread page_words object ≡ false
    → i < table_words page_words object → i < object_words object
in_whole page_words object i w l = let e = whole_data page_words object w in omega (arith, l, e)

-- what fits in a page is not spread
pub whole_of : (page_words : ℕ) (object : Object) → object_words object ≤ page_words → is_spread page_words object ≡ false
whole_of page_words object l = go (object_words object) page_words l
  where
    go : (n m : ℕ) → n ≤ m → nat_lt m n ≡ false
    go n m l = grind (arith, nat_tests)

-- ---- the pages of a spread object

index_within : (pages : List ℕ) (k : ℕ) → k < length pages → Within (slice_index pages k) pages
index_within [] k l = absurd (omega (arith, l))
index_within (p ∷ ps) zero l = (0, refl)
index_within (p ∷ ps) (suc k) l = let w = index_within ps k (omega (arith, l)) in (suc w.0, w.1)

-- what holds of one object holds of another one of the same size
pub spread_same : (z : TableSizes) (cell cell2 : ℕ → ℕ → ℕ) (spots : ℕ → Spot) (start : Spot) (was object : Object)
    (pages : List ℕ)
    → SameSize was object
    → ((i : ℕ) → object_words was ≤ i → i < table_words z.page_words was
    → cell2 (spots i).page (spots i).offset ≡ cell (spots i).page (spots i).offset)
    → SpreadOver z cell spots start was pages → SpreadOver z cell2 spots start object pages
spread_same z cell cell2 spots start was object pages same cells k = record {
  begins = k.begins;
  many = k.many ∙ ap (λ n. n + 1) (sym (same_data z.page_words was object same));
  laid = λ i l.
      let e = same_table z.page_words was object same in
      k.laid i (omega (arith, e, l)) ∙ sym (same_spot z.page_words was object pages i same);
  numbers = λ j l.
      let d = same_data z.page_words was object same in
      ap (λ w. cell2 (spots (w + j)).page (spots (w + j)).offset) same.0
      ∙ cells (object_words was + j) (omega arith) (omega (arith, d, l)) ∙ k.numbers j (omega (arith, d, l));
}

-- the quotients of smaller numbers
div_mono : (m n k : ℕ) → 0 < k → m ≤ n → m / k ≤ n / k
div_mono m n k some l = let a = div-mul-le_self m k in le-div (m / k) n k some (omega (arith, a, l))

-- no more cells than words
cells_fit : (object : Object) → cells object ≤ object_words object
cells_fit (StructObject fields) = le_max (length fields)
  where
    le_max : (n : ℕ) → n ≤ max 1 n
    le_max n = omega arith
cells_fit (SliceObject elements) = omega arith
cells_fit (Channel capacity queue closed) = omega arith

-- a word of a spread object is in one of its pages
pub spread_within : (page_words : ℕ) (object : Object) (pages : List ℕ) (i : ℕ) → is_spread page_words object ≡ true
    → length pages ≡ pages_of page_words object → i < table_words page_words object
    → Within (spread_spot page_words object pages i).page pages
spread_within page_words object pages i sp many l = by (nat_lt i (words_before object)) (nat_lt i (object_words object)) refl refl
  where
    lead : Within (slice_index pages 0) pages
    lead = index_within pages 0 (omega (arith, many))

    lt_of : (m n : ℕ) → nat_lt m n ≡ true → m < n
    lt_of m n e = grind (arith, nat_tests)

    cell : nat_lt i (object_words object) ≡ true
        → Within (slice_index pages ((i - words_before object) / page_words + 1)) pages
    cell e = index_within pages ((i - words_before object) / page_words + 1) (small page_words refl)
      where
        small : (p : ℕ) → page_words ≡ p → (i - words_before object) / page_words + 1 < length pages
        small zero z =
            let a : (i - words_before object) / page_words ≡ 0 =
            ap (λ k. (i - words_before object) / k) z ∙ div-zero (i - words_before object) in
            let d = spread_data page_words object sp in
            omega (arith, a, d, many)
        small (suc p) z =
            let a = div_mono (i - words_before object) (cells object - 1) page_words (omega (arith, z))
            (let c = cells_fit object in let w = lt_of i (object_words object) e in omega (arith, c, w)) in
            let d = spread_data page_words object sp in
            omega (arith, a, d, many)

    by : (b c : Bool) → nat_lt i (words_before object) ≡ b → nat_lt i (object_words object) ≡ c
        → Within (Spot.page (if b then lead_spot pages i else (if c then cell_spot page_words pages
        (i - words_before object) else lead_spot pages (words_before object + (i - object_words object))))) pages
    by true c eb ec = lead
    by false true eb ec = cell ec
    by false false eb ec = lead

-- ---- where a word is

-- before the cells, a cell, or a page number
pub data View (page_words : ℕ) (object : Object) (pages : List ℕ) (i : ℕ) : Type 0 where
  Before : i < words_before object → spread_spot page_words object pages i ≡ lead_spot pages i
      → View page_words object pages i
  Cell : (k : ℕ) → i ≡ words_before object + k → k < cells object
      → spread_spot page_words object pages i ≡ cell_spot page_words pages k → View page_words object pages i
  Number : (j : ℕ) → i ≡ object_words object + j
      → spread_spot page_words object pages i ≡ lead_spot pages (words_before object + j)
      → View page_words object pages i

lt_is : (m n : ℕ) → nat_lt m n ≡ true → m < n
lt_is m n e = grind (arith, nat_tests)

lt_not : (m n : ℕ) → nat_lt m n ≡ false → n ≤ m
lt_not m n e = grind (arith, nat_tests)

pub view : (page_words : ℕ) (object : Object) (pages : List ℕ) (i : ℕ) → View page_words object pages i
view page_words object pages i =
    split (nat_lt i (words_before object))
    (λ t. Before (lt_is i (words_before object) t) (first t))
    (λ f. split (nat_lt i (object_words object))
    (λ t. Cell (i - words_before object)
    (let a = lt_not i (words_before object) f in omega (arith, a))
    (let a = lt_not i (words_before object) f in let b = lt_is i (object_words object) t in let c = cells_fit object in
    omega (arith, a, b, c))
    (second f ∙ third t))
    (λ g. Number (i - object_words object) (let a = lt_not i (object_words object) g in omega (arith, a)) (second f ∙ fourth g)))
  where
    first : nat_lt i (words_before object) ≡ true → spread_spot page_words object pages i ≡ lead_spot pages i
    first t = ap (λ b. if b then lead_spot pages i
        else (if nat_lt i (object_words object) then cell_spot page_words pages (i - words_before object)
        else lead_spot pages (words_before object + (i - object_words object)))) t

    second : nat_lt i (words_before object) ≡ false → spread_spot page_words object pages i
        ≡ (if nat_lt i (object_words object) then cell_spot page_words pages (i - words_before object)
        else lead_spot pages (words_before object + (i - object_words object)))
    second f = ap (λ b. if b then lead_spot pages i
        else (if nat_lt i (object_words object) then cell_spot page_words pages (i - words_before object)
        else lead_spot pages (words_before object + (i - object_words object)))) f

    third : nat_lt i (object_words object) ≡ true → (if nat_lt i (object_words object) then cell_spot page_words pages
        (i - words_before object) else lead_spot pages (words_before object + (i - object_words object)))
        ≡ cell_spot page_words pages (i - words_before object)
    third t = ap (λ b. if b then cell_spot page_words pages (i - words_before object)
        else lead_spot pages (words_before object + (i - object_words object))) t

    fourth : nat_lt i (object_words object) ≡ false → (if nat_lt i (object_words object) then cell_spot page_words pages
        (i - words_before object) else lead_spot pages (words_before object + (i - object_words object)))
        ≡ lead_spot pages (words_before object + (i - object_words object))
    fourth f = ap (λ b. if b then cell_spot page_words pages (i - words_before object)
        else lead_spot pages (words_before object + (i - object_words object))) f

few_before : (object : Object) → words_before object ≤ 2
few_before (StructObject fields) = few (length fields)
  where
    few : (n : ℕ) → max 1 n - n ≤ 2
    few n = omega arith
few_before (SliceObject elements) = omega arith
few_before (Channel capacity queue closed) = omega arith

-- the page numbers have room in the lead page
numbers_fit : (page_words : ℕ) (object : Object) → is_too_large page_words object ≡ false
    → data_pages page_words object ≤ page_words - 2
numbers_fit page_words object small =
    let a = lt_not (most_data_pages page_words) (data_pages page_words object) small in
    let b = least 64 (page_words - 2) in
    omega (arith, a, b)
  where
    least : (m n : ℕ) → min m n ≤ n
    least m n = omega arith

pub spread_offset : (page_words : ℕ) (object : Object) (pages : List ℕ) (i : ℕ) → is_spread page_words object ≡ true
    → is_too_large page_words object ≡ false → i < table_words page_words object
    → (spread_spot page_words object pages i).offset < page_words
spread_offset page_words object pages i sp small l = by (view page_words object pages i)
  where
    some : 2 < page_words
    some =
        let a = spread_data page_words object sp in
        let b = numbers_fit page_words object small in
        omega (arith, a, b)

    by : View page_words object pages i → (spread_spot page_words object pages i).offset < page_words
    by (Before m e) = let a = ap Spot.offset e in let b = few_before object in omega (arith, a, b, m, some)
    by (Cell k e m s) = let a = ap Spot.offset s in let b = mod-lt k (below_some page_words some) in omega (arith, a, b)
      where
        below_some : (n : ℕ) → 2 < n → 0 < n
        below_some n l = omega (arith, l)
    by (Number j e s) =
        let a = ap Spot.offset s in
        let b = few_before object in
        let c = numbers_fit page_words object small in
        omega (arith, a, b, c, e, l, some)

-- pages that differ
abbrev pub AreDistinct : List ℕ → Type 0
AreDistinct pages = (k l p : ℕ) → slice_get pages k ≡ Some p → slice_get pages l ≡ Some p → k ≡ l

index_get : (pages : List ℕ) (k : ℕ) → k < length pages → slice_get pages k ≡ Some (slice_index pages k)
index_get [] k l = absurd (omega (arith, l))
index_get (p ∷ ps) zero l = refl
index_get (p ∷ ps) (suc k) l = index_get ps k (omega (arith, l))

distinct_index : (pages : List ℕ) (k l : ℕ) → AreDistinct pages → k < length pages → l < length pages
    → slice_index pages k ≡ slice_index pages l → k ≡ l
distinct_index pages k l d a b e =
    d k l (slice_index pages l) (index_get pages k a ∙ ap Some e) (index_get pages l b)

-- no two words are in one place
pub spread_apart : (page_words : ℕ) (object : Object) (pages : List ℕ) (i j : ℕ) → is_spread page_words object ≡ true
    → length pages ≡ pages_of page_words object → AreDistinct pages → i < table_words page_words object
    → j < table_words page_words object
    → (spread_spot page_words object pages i).page ≡ (spread_spot page_words object pages j).page
    → (spread_spot page_words object pages i).offset ≡ (spread_spot page_words object pages j).offset → i ≡ j
spread_apart page_words object pages i j sp many d l m p o = by (view page_words object pages i) (view page_words object pages j)
  where
    lead : 0 < length pages
    lead = omega (arith, many)

    -- a cell is in a data page
    data_in : (k : ℕ) → k < cells object → k / page_words + 1 < length pages
    data_in k a = go page_words refl
      where
        go : (w : ℕ) → page_words ≡ w → k / page_words + 1 < length pages
        go zero z =
            let x : k / page_words ≡ 0 = ap (λ w. k / w) z ∙ div-zero k in
            let y = spread_data page_words object sp in
            omega (arith, x, y, many)
        go (suc w) z =
            let x = div_mono k (cells object - 1) page_words (omega (arith, z)) (omega (arith, a)) in
            let y = spread_data page_words object sp in
            omega (arith, x, y, many)

    not_lead : (k : ℕ) → k < cells object → slice_index pages 0 ≡ slice_index pages (k / page_words + 1) → ⊥
    not_lead k a e =
        let x = distinct_index pages 0 (k / page_words + 1) d lead (data_in k a) e in
        omega (arith, x)

    by : View page_words object pages i → View page_words object pages j → i ≡ j
    by (Before a e) (Before b f) = sym (ap Spot.offset e) ∙ o ∙ ap Spot.offset f
    by (Before a e) (Cell k f b s) =
        absurd (not_lead k b (sym (ap Spot.page e) ∙ p ∙ ap Spot.page s))
    by (Before a e) (Number n f s) =
        let x = sym (ap Spot.offset e) ∙ o ∙ ap Spot.offset s in absurd (omega (arith, a, x))
    by (Cell k e a s) (Before b f) =
        absurd (not_lead k a (sym (ap Spot.page f) ∙ sym p ∙ ap Spot.page s))
    by (Cell k e a s) (Number n f t) =
        absurd (not_lead k a (sym (ap Spot.page t) ∙ sym p ∙ ap Spot.page s))
    by (Number n e s) (Before b f) =
        let x = sym (ap Spot.offset f) ∙ sym o ∙ ap Spot.offset s in absurd (omega (arith, b, x))
    by (Number n e s) (Cell k f b t) =
        absurd (not_lead k b (sym (ap Spot.page s) ∙ p ∙ ap Spot.page t))
    by (Number n e s) (Number q f t) =
        let x = sym (ap Spot.offset s) ∙ o ∙ ap Spot.offset t in omega (arith, e, f, x)
    by (Cell k e a s) (Cell q f b t) =
        let x : k / page_words + 1 ≡ q / page_words + 1 =
        distinct_index pages (k / page_words + 1) (q / page_words + 1) d (data_in k a) (data_in q b)
        (sym (ap Spot.page s) ∙ p ∙ ap Spot.page t) in
        let y : k % page_words ≡ q % page_words = sym (ap Spot.offset s) ∙ o ∙ ap Spot.offset t in
        let z : k / page_words ≡ q / page_words = omega (arith, x) in
        let u = div-add-mod k page_words in
        let v = div-add-mod q page_words in
        let w : page_words * (k / page_words) ≡ page_words * (q / page_words) = ap (λ n. page_words * n) z in
        omega (arith, e, f, u, v, w, y)

-- the first word of the lead page: one before the cells, or the first page number
pub lead_word : (page_words : ℕ) (object : Object) (pages : List ℕ) → is_spread page_words object ≡ true → (i : ℕ)
    × (i < table_words page_words object) × (spread_spot page_words object pages i ≡ lead_spot pages 0)
lead_word page_words object pages sp = split (nat_lt 0 (words_before object)) before after
  where
    before : nat_lt 0 (words_before object) ≡ true → (i : ℕ) × (i < table_words page_words object)
        × (spread_spot page_words object pages i ≡ lead_spot pages 0)
    before t = (
      0,
      let a = lt_is 0 (words_before object) t in let d = spread_data page_words object sp in omega (arith, a, d),
      ap (λ b. if b then lead_spot pages 0
          else (if nat_lt 0 (object_words object) then cell_spot page_words pages (0 - words_before object)
          else lead_spot pages (words_before object + (0 - object_words object)))) t,
    )

    after : nat_lt 0 (words_before object) ≡ false → (i : ℕ) × (i < table_words page_words object)
        × (spread_spot page_words object pages i ≡ lead_spot pages 0)
    after f = (
      object_words object,
      let d = spread_data page_words object sp in omega (arith, d),
      by (view page_words object pages (object_words object)),
    )
      where
        none : words_before object ≡ 0
        none = let a = lt_not 0 (words_before object) f in omega (arith, a)

        by : View page_words object pages (object_words object)
            → spread_spot page_words object pages (object_words object) ≡ lead_spot pages 0
        by (Before a e) = absurd (let n = none in omega (arith, a, n))
        by (Cell k e a s) = absurd (let c = cells_fit object in let n = none in omega (arith, a, e, c, n))
        by (Number j e s) = s ∙ ap (lead_spot pages) (let n = none in omega (arith, e, n))

-- ---- the three kinds of words

words_split : (object : Object) → words_before object + cells object ≡ object_words object
words_split object = let c = cells_fit object in omega (arith, c)

pub before_spot : (page_words : ℕ) (object : Object) (pages : List ℕ) (i : ℕ) → i < words_before object
    → spread_spot page_words object pages i ≡ lead_spot pages i
before_spot page_words object pages i l = by (view page_words object pages i)
  where
    by : View page_words object pages i → spread_spot page_words object pages i ≡ lead_spot pages i
    by (Before a e) = e
    by (Cell k e a s) = absurd (omega (arith, l, e))
    by (Number j e s) = absurd (let w = words_split object in omega (arith, l, e, w))

pub number_spot : (page_words : ℕ) (object : Object) (pages : List ℕ) (j : ℕ)
    → spread_spot page_words object pages (object_words object + j) ≡ lead_spot pages (words_before object + j)
number_spot page_words object pages j = by (view page_words object pages (object_words object + j))
  where
    by : View page_words object pages (object_words object + j)
        → spread_spot page_words object pages (object_words object + j) ≡ lead_spot pages (words_before object + j)
    by (Before a e) = absurd (let w = words_split object in omega (arith, a, w))
    by (Cell k e a s) = absurd (let w = words_split object in omega (arith, a, e, w))
    by (Number q e s) = s ∙ ap (λ n. lead_spot pages (words_before object + n)) (omega (arith, e))

pub cells_spot : (page_words : ℕ) (object : Object) (pages : List ℕ) (i : ℕ) → i < cells object
    → spread_spot page_words object pages (words_before object + i) ≡ cell_spot page_words pages i
cells_spot page_words object pages i l = by (view page_words object pages (words_before object + i))
  where
    by : View page_words object pages (words_before object + i)
        → spread_spot page_words object pages (words_before object + i) ≡ cell_spot page_words pages i
    by (Before a e) = absurd (omega (arith, a))
    by (Cell k e a s) = s ∙ ap (cell_spot page_words pages) (omega (arith, e))
    by (Number q e s) = absurd (let w = words_split object in omega (arith, l, e, w))

pub cell_in_table : (page_words : ℕ) (object : Object) (i : ℕ) → i < cells object
    → words_before object + i < table_words page_words object
cell_in_table page_words object i l = let w = words_split object in omega (arith, l, w)

pub before_in_table : (page_words : ℕ) (object : Object) (i : ℕ) → i < words_before object
    → i < table_words page_words object
before_in_table page_words object i l = let w = words_split object in omega (arith, l, w)

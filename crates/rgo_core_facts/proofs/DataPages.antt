-- How many data pages an object has, and how many words follow its address: by cases over the three kinds of objects.
use Rattle.std.proofs.Common.{◌≡◌, ℕ, zero, suc, ◌+◌, ◌-◌, ◌/◌, ◌<◌, ◌≤◌, true, false, length, max, nat_lt, if◌then◌else◌, ap, ◌∙◌, arith}
use Rattle.std.proofs.lemmas.Bool.Decides.{nat_tests}
use Rattle.std.proofs.lemmas.Nat.{le-div}
use Rattle.std.proofs.Math.Nat.{div-mul-le_self, div-zero}
use Rattle.rgo_sound.proofs.Tests.{split}
use Rattle.rgo_sound.specs.Memory.Memory.{Channel, Object, SliceObject, StructObject}
use Rattle.rgo_sound.specs.RegionMachine.Objects.{cells, data_pages, is_spread, object_words as words_of}
use Rattle.rgo_core.specs.Memory.Spread.{words_before}
use Rattle.rgo_core.proofs.Memory.objects.Spreads.{spread_data, whole_of}
use Rattle.rgo_core.specs.ties.Bounds.{row_words}
use Rattle.rgo_core.proofs.image.Bounds.{spread_row, whole_row}
use Rattle.rgo_core_facts.specs.MemoryObjects.{data_pages_of}

pub less : (m n : ℕ) → m < n → nat_lt m n ≡ true
less m n low = grind (arith, nat_tests, low)

pub not_less : (m n : ℕ) → n ≤ m → nat_lt m n ≡ false
not_less m n low = grind (arith, nat_tests, low)

-- ---- how many data pages

pub cells_fit : (object : Object) → cells object ≤ words_of object
cells_fit (StructObject fields) = le_max (length fields)
  where
    le_max : (n : ℕ) → n ≤ max 1 n
    le_max n = omega arith
cells_fit (SliceObject elements) = omega arith
cells_fit (Channel capacity queue closed) = omega arith

-- all cells but one, by the words
cells_but_one : (object : Object) (words before : ℕ) → words_of object ≡ words → (1 < words → cells object + before ≡ words)
    → cells object - 1 ≡ words - before - 1
cells_but_one object zero before many parts = let c = cells_fit object in omega (arith, c, many)
cells_but_one object (suc zero) before many parts = let c = cells_fit object in omega (arith, c, many)
cells_but_one object (suc (suc n)) before many parts = let e = parts (omega arith) in omega (arith, e)

pub pages_so : (page_words : ℕ) (object : Object) (words before : ℕ) → words_of object ≡ words → (1 < words → cells object + before ≡ words)
    → data_pages page_words object ≡ data_pages_of page_words words before
pages_so page_words object words before many parts =
    ap (λ (w : ℕ). if nat_lt page_words w then (cells object - 1) / page_words + 1 else 0) many
    ∙ ap (λ (k : ℕ). if nat_lt page_words words then k / page_words + 1 else 0) (cells_but_one object words before many parts)

-- ---- how many words follow its address

div_mono : (m n k : ℕ) → m ≤ n → m / k ≤ n / k
div_mono m n zero low = let a = div-zero m in omega (arith, a)
div_mono m n (suc k) low = let a = div-mul-le_self m (suc k) in le-div (m / suc k) n (suc k) (omega arith) (omega (arith, a, low))

-- the number of the data page that has a cell is one of them
pub number_in_row : (page_words : ℕ) (object : Object) (before cell : ℕ) → is_spread page_words object ≡ true → before ≤ words_before object
    → cell < cells object → suc (before + cell / page_words) ≤ row_words page_words object
number_in_row page_words object before cell spread low within =
    let r = spread_row page_words object spread in
    let d = spread_data page_words object spread in
    let q = div_mono cell (cells object - 1) page_words (omega (arith, within)) in
    omega (arith, r, d, q, low)

-- words before the cells, and one more
pub row_least : (page_words : ℕ) (object : Object) → words_before object < words_of object
    → suc (words_before object) ≤ row_words page_words object
row_least page_words object more = split (is_spread page_words object)
    (λ spread. let r = spread_row page_words object spread in let d = spread_data page_words object spread in omega (arith, r, d))
    (λ whole. let r = whole_row page_words object whole in omega (arith, r, more))

-- all of them, if it fits a page
pub row_whole : (page_words : ℕ) (object : Object) → words_of object ≤ page_words → row_words page_words object ≡ words_of object
row_whole page_words object fits = whole_row page_words object (whole_of page_words object fits)

-- How large an object is that is about to be made, and how many pages are taken before it: by its cells and words alone, since the code
-- has to know this before the object exists.
use Rattle.std.specs.Prelude.{◌≡◌, ℕ, ◌+◌, ◌-◌, ◌/◌, Bool, true, false, Option, Some, None, nat_lt, if◌then◌else◌}
use Rattle.rgo_memory.specs.Memory.{Object}
use Rattle.rgo_region_machine.specs.Objects.{cells, fits_in_page, most_data_pages, object_words}
use Rattle.rgo_region_interpreter.specs.declared.objects.Extent.{Extent}

-- the object has this extent
pub record IsExtentOf (extent : Extent) (object : Object) : Type 0 where
  pub words : object_words object ≡ extent.words
  pub cells : cells object ≡ extent.cells

abbrev pub extent_is_spread : (page_words : ℕ) → Extent → Bool
extent_is_spread page_words extent = nat_lt page_words extent.words

abbrev pub extent_data_pages : (page_words : ℕ) → Extent → ℕ
extent_data_pages page_words extent = if extent_is_spread page_words extent then (extent.cells - 1) / page_words + 1 else 0

abbrev pub extent_is_too_large : (page_words : ℕ) → Extent → Bool
extent_is_too_large page_words extent = nat_lt (most_data_pages page_words) (extent_data_pages page_words extent)

-- how many pages are to be taken before it, if `reserved` are reserved and `used` words are used of the own page
abbrev pub pages_wanted : (page_words reserved : ℕ) → (used : Option ℕ) → Extent → ℕ
pages_wanted page_words reserved used extent =
    if extent_is_spread page_words extent
    then (extent_data_pages page_words extent + 1) - reserved
    else if fits_in_page page_words used extent.words then 0 else 1

-- ---- examples: slices and pages of 256 words

abbrev pub slice_of_elements : (elements : ℕ) → Extent
slice_of_elements n = record { cells = n; words = 1 + n }

pub record ExtentExamples : Type 0 where
  -- 255 elements are just a page; 256 have a data page, and 257 have two
  pub within : extent_data_pages 256 (slice_of_elements 255) ≡ 0
  pub one_more : extent_data_pages 256 (slice_of_elements 256) ≡ 1
  pub two_more : extent_data_pages 256 (slice_of_elements 257) ≡ 2
  -- 64 data pages, and 65
  pub largest : extent_is_too_large 256 (slice_of_elements 16384) ≡ false
  pub too_large : extent_is_too_large 256 (slice_of_elements 16385) ≡ true
  -- three pages for a lead page and two data pages, whatever is used of the own page
  pub none_reserved : pages_wanted 256 0 (Some 8) (slice_of_elements 257) ≡ 3
  pub some_reserved : pages_wanted 256 1 None (slice_of_elements 257) ≡ 2
  pub all_reserved : pages_wanted 256 3 None (slice_of_elements 257) ≡ 0
  -- an object that just fits what is left of the own page, and one of a word more
  pub fits_own : pages_wanted 256 0 (Some 249) (slice_of_elements 6) ≡ 0
  pub needs_own : pages_wanted 256 0 (Some 250) (slice_of_elements 6) ≡ 1

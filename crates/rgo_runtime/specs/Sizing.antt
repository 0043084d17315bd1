-- Tables that are smaller than a run may have. A run in one must be a run that the larger table allows, which a lack of room is not.
use Rattle.std.specs.Prelude.{◌≡◌, ◌≤◌, ◌<◌}
use Rattle.rgo_sound.specs.Machine.declared.ends.RunEnd.{RunEnd}
use Rattle.rgo_sound.specs.Machine.declared.ends.RunEnd.TheVariants as run_end
use Rattle.rgo_sound.specs.Machine.declared.limits.Sizes.{Sizes}
use Rattle.rgo_sound.specs.Machine.declared.limits.Shortage.TheVariants as shortage

-- No more pages, of the same size, and no more regions. Pages of another size would hold objects in another way.
pub record IsNarrower (few sizes : Sizes) : Type 0 where
  pub page_words : few.page_words ≡ sizes.page_words
  pub some : 0 < few.pages
  pub pages : few.pages ≤ sizes.pages
  pub regions : few.regions ≤ sizes.regions

-- Want of room in a smaller table counts as want of memory: the larger one may have had room, and a run that has no memory claims nothing
-- about its end.
abbrev pub unless_short : RunEnd → RunEnd
unless_short (run_end.NoRoom why) = run_end.NoMemory
unless_short end = end

abbrev wide : Sizes
wide = record { page_words = 256; pages = 4096; regions = 65536 }

pub record SizingExamples : Type 0 where
  pub one_page : IsNarrower (record { page_words = 256; pages = 1; regions = 1 }) wide
  -- its pages are smaller
  pub short_pages : IsNarrower (record { page_words = 16; pages = 1; regions = 1 }) wide → ⊥
  -- a table has at least one page
  pub no_page : IsNarrower (record { page_words = 256; pages = 0; regions = 1 }) wide → ⊥
  pub lacked : unless_short (run_end.NoRoom shortage.Pages) ≡ run_end.NoMemory
  pub stuck : unless_short run_end.Deadlock ≡ run_end.Deadlock

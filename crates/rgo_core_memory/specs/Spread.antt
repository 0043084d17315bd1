-- Where the words of a spread object are. The numbers of its data pages, which its lead page has, come after its other words, in the
-- numbering of words: so the object has the same numbers for its own words, spread or not.
use Rattle.std.specs.Prelude.{ℕ, suc, ◌+◌, ◌-◌, ◌/◌, ◌%◌, List, nat_lt, slice_index, if◌then◌else◌}
use Rattle.rgo_sound.specs.Memory.Memory.{Object}
use Rattle.rgo_sound.specs.RegionMachine.Objects.{cells, data_pages, object_words}
use Rattle.rgo_core_memory.specs.Encoding.{Spot, content, opening_word}

-- how many words of pages an object takes, those of page numbers included
abbrev pub table_words : (page_words : ℕ) → Object → ℕ
table_words page_words object = object_words object + data_pages page_words object

-- the words of an object before its cells
abbrev pub words_before : Object → ℕ
words_before object = object_words object - cells object

-- ---- an object that is spread over these pages, the lead page first

abbrev pub lead_spot : List ℕ → ℕ → Spot
lead_spot pages i = record { page = slice_index pages 0; offset = i }

-- where cell i is: the quotient picks the data page
abbrev pub cell_spot : (page_words : ℕ) → List ℕ → ℕ → Spot
cell_spot page_words pages i = record { page = slice_index pages (i / page_words + 1); offset = i % page_words }

-- where word i is: it is before the cells, a cell, or a page number
abbrev pub spread_spot : (page_words : ℕ) → Object → List ℕ → ℕ → Spot
spread_spot page_words object pages i =
    if nat_lt i (words_before object) then lead_spot pages i
    else
    (if nat_lt i (object_words object)
    then cell_spot page_words pages (i - words_before object)
    else lead_spot pages (words_before object + (i - object_words object)))

-- The first value of word i. A page number is stored plus 1, as everywhere in a table, so that 0 is none.
abbrev pub spread_opening : Object → List ℕ → ℕ → ℕ
spread_opening object pages i =
    if nat_lt i (object_words object) then opening_word (content object i) else suc (slice_index pages (i - object_words object + 1))

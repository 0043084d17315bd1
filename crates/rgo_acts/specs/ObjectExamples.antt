-- The definitions of new objects, each where it holds and where it must not.
use Rattle.std.specs.Prelude.{◌≡◌, ℕ, List, [], ◌∷◌, None, Some}
use Rattle.rgo_core.specs.examples.Channels.{with_words}
use Rattle.rgo_core.specs.Core.{Setup}
use Rattle.rgo_core_facts.specs.MemoryExamples.{making_slices, before_three}
use Rattle.rgo_core.specs.Records.{Record}
use Rattle.rgo_core.specs.Rule.Views.{number_of}
use Rattle.rgo_sound.specs.Machine.declared.limits.Limits.{Limits}
use Rattle.rgo_holding.specs.declared.entries.Page.{Page}
use Rattle.rgo_acts.specs.DutyExamples.{one_taken}
use Rattle.rgo_acts.specs.Objects.{HasNoPage, HasNoRoomIn, IsPlacedInPage, IsSpreadOverPages, IsSmall, most_steps, opens}
use Rattle.rgo_acts.specs.Runs.{Run}
use Rattle.rgo_acts.specs.declared.actors.Actor.{Actor}
use Rattle.rgo_acts.specs.declared.objects.New.{New}

-- a page of four words, two of which are filled
abbrev pub half_full_page : Page
half_full_page = record { page = 1; fill = 2 }

abbrev pub empty_page : Page
empty_page = record { page = 1; fill = 0 }

-- a slice of three elements
abbrev pub three_elements : New
three_elements = record { key = record { 0 = 0 }; words = 4; before = 1; place = 0; value = 3 }

-- before it is made, with an own page in Global
abbrev pub with_own : (fill : ℕ) → Record
with_own n = record before_three { memory = record before_three.memory { fills = record { slot = 1; page = 1; fill = n } ∷ [] } }

-- a slice of five elements, for which two of these pages are data pages
abbrev pub five_elements : New
five_elements = record { key = record { 0 = 0 }; words = 6; before = 1; place = 0; value = 5 }

abbrev pub its_pages : List ℕ
its_pages = 2 ∷ 0 ∷ 1 ∷ []

-- before it is made, with these pages reserved
abbrev pub five : List ℕ → Record
five ps = record (with_words (5 ∷ 0 ∷ [])) { memory = record (with_words (5 ∷ 0 ∷ [])).memory { reserved = record { slot = 1; pages = ps } } }

abbrev pub making_in_three : Limits → Setup
making_in_three limits = record (making_slices limits) { sizes = record { page_words = 4; pages = 3; regions = 1 } }

pub record PlacementExamples : Type 0 where
  pub first : opens 1 5 1 ≡ 5
  pub other : opens 1 5 0 ≡ 0
  pub no_page : HasNoRoomIn 4 1 None
  pub no_room : HasNoRoomIn 4 3 (Some half_full_page)
  pub room : HasNoRoomIn 4 2 (Some half_full_page) → ⊥
  -- it has changed the word of slot 1
  pub moved : (r : Run) (a b : Actor) (none : HasNoPage r a b) → number_of a.seat.me ≡ 1 → none.acted.es ≡ one_taken → ⊥
  pub placed : (limits : Limits) → IsPlacedInPage (making_slices limits) (with_own 0) 1 empty_page three_elements
  -- the page has too few words left
  pub overfull : (limits : Limits) → IsPlacedInPage (making_slices limits) (with_own 2) 1 half_full_page three_elements → ⊥
  -- an object of four words fits a page of four; one of seven takes a lead page and two data pages, each after a look at both pages
  pub few_steps : (limits : Limits) → most_steps (making_slices limits) 4 1 ≡ 8
  pub more_steps : (limits : Limits) → most_steps (making_slices limits) 7 1 ≡ 21
  -- in pages of four words an object has two data pages at the most
  pub small : (limits : Limits) → IsSmall (making_slices limits) 9 1
  pub large : (limits : Limits) → IsSmall (making_slices limits) 10 1 → ⊥
  pub apart : (limits : Limits) → IsSpreadOverPages (making_in_three limits) (five its_pages) its_pages five_elements
  -- a data page too few
  pub too_few : (limits : Limits) (c : Record) → IsSpreadOverPages (making_in_three limits) c (2 ∷ 0 ∷ []) five_elements → ⊥
  -- it would fit a page
  pub not_spread : (limits : Limits) (c : Record) (ps : List ℕ) → IsSpreadOverPages (making_in_three limits) c ps three_elements → ⊥

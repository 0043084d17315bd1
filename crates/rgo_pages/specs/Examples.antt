-- The definitions of claims and of chains that are returned, each where it holds and where it must not.
use Rattle.std.specs.Prelude.{◌≡◌, List, [], ◌∷◌, Some}
use Rattle.rgo_sound.specs.Code.Code.{Do}
use Rattle.rgo_sound.specs.Machine.declared.limits.Limits.{Limits}
use Rattle.rgo_sound.specs.Typed.declared.actions.Action.TheVariants as action
use Rattle.rgo_core.specs.examples.Channels.{with_words}
use Rattle.rgo_core.specs.Rule.Histories.{access}
use Rattle.rgo_core.specs.Rule.Views.{Me}
use Rattle.rgo_core.specs.Rule.declared.accesses.Kind.TheVariants.{FreePage, LoadNext}
use Rattle.rgo_core.specs.Frames.goroutines.Opening.{no_record}
use Rattle.rgo_core.specs.Memory.Records.{Gave, Idle}
use Rattle.rgo_core.specs.Memory.declared.layout.TableSizes.{TableSizes}
use Rattle.rgo_core.specs.Core.{Setup}
use Rattle.rgo_core.specs.Records.{Record, begins_with}
use Rattle.rgo_core_steps.specs.MemoryExamples.{doing_setup}
use Rattle.rgo_pages.specs.Claiming.{PageClaimed, has_claimed}
use Rattle.rgo_pages.specs.Releasing.{ChainGivenBack, Freed, LinksLeadTo, freeing, gave_back, giving}

-- two pages of a chain, the second of which is the last
abbrev pub two_page_chain : List Freed
two_page_chain = record { page = 2; next = 5; state = 7 } ∷ record { page = 4; next = 0; state = 7 } ∷ []

-- ten pages of four words, three slots
abbrev pub ten_pages : TableSizes
ten_pages = record { pages = 10; page_words = 4; slots = 3; variables = 0 }

-- a record with two pages to free
abbrev pub owing_two : Record
owing_two = record (begins_with no_record) { clock = record (begins_with no_record).clock { owed = 2 } }

-- `main` makes a slice, with as many elements as its first variable says, where pages have four words
abbrev pub slicing_setup : Limits → Setup
slicing_setup limits = doing_setup (Do (Some 1) action.Slice (0 ∷ []) []) (record { page_words = 4; pages = 10; regions = 3 }) limits

-- of three elements, which fits a page, and of nine
abbrev pub small_slice : Record
small_slice = with_words (3 ∷ 0 ∷ [])

abbrev pub spread_slice : Record
spread_slice = with_words (9 ∷ 0 ∷ [])

pub record PageExamples : Type 0 where
  pub chain : LinksLeadTo 3 two_page_chain 0
  -- it begins with another page
  pub elsewhere : LinksLeadTo 4 two_page_chain 0 → ⊥
  -- its last page is linked to another one
  pub unended : LinksLeadTo 3 two_page_chain 1 → ⊥
  -- the next word of a page is loaded before the page is freed
  pub order : freeing ten_pages two_page_chain 6 ≡ access 6 LoadNext 60 5 5 ∷ access 6 FreePage 34 7 0 ∷ access 6 LoadNext 62 0 0
      ∷ access 6 FreePage 36 7 0 ∷ []
  pub half : (giving owing_two 1 1 5).clock.owed ≡ 1
  pub returned : (gave_back owing_two 1).clock.share.returned ≡ 2
  pub none_owed : (gave_back owing_two 1).clock.owed ≡ 0
  pub given : (gave_back owing_two 1).memory.give ≡ Gave 1
  -- one access for the head at either end, and two for each page
  pub accesses : (gave_back owing_two 1).clock.accesses ≡ 6
  pub linked : (T : Setup) → (has_claimed T owing_two 3 1).memory.claim ≡ Idle
  pub taken : (T : Setup) → (has_claimed T owing_two 3 1).clock.share.taken ≡ 1
  pub three : (T : Setup) → (has_claimed T owing_two 3 1).clock.accesses ≡ 3
  -- the page for an object that fits a page is an own page; one for a spread object is reserved, and nobody's own
  pub own : (limits : Limits) → (has_claimed (slicing_setup limits) small_slice 3 1).memory.fills ≡ record { slot = 1; page = 3; fill = 0 } ∷ []
  pub unreserved : (limits : Limits) → (has_claimed (slicing_setup limits) small_slice 3 1).memory.reserved.pages ≡ []
  pub reserved : (limits : Limits) → (has_claimed (slicing_setup limits) spread_slice 3 1).memory.reserved.pages ≡ 3 ∷ []
  pub not_own : (limits : Limits) → (has_claimed (slicing_setup limits) spread_slice 3 1).memory.fills ≡ []
  pub also_linked : (limits : Limits) → (has_claimed (slicing_setup limits) spread_slice 3 1).memory.claim ≡ Idle
  pub also_three : (limits : Limits) → (has_claimed (slicing_setup limits) spread_slice 3 1).clock.accesses ≡ 3
  -- a page that the table does not have
  pub outside : (T : Setup) (c : Record) (m w : Me Record) → PageClaimed T ten_pages 1 c 10 m w → ⊥
  -- three pages of a chain that ends with its head
  pub too_many : (T : Setup) (c : Record) (m w : Me Record) (back : ChainGivenBack T ten_pages 1 c 3 m w) → back.head ≡ 0 → ⊥

-- States of the region machine that violate a definition of region safety, and states that satisfy them all. Each violating state
-- differs from a safe one in a single point, so it shows that the part of the definition about that point says something. No run
-- reaches these states; the code is that of the examples of `rgo_region_machine`.
use Rattle.std.specs.Prelude.{◌≡◌, ℕ, false, pos, replicate, List, [], ◌∷◌, Some, None}
use Rattle.rgo_memory.specs.Memory.{Channel, Object, SliceObject, StructObject}
use Rattle.rgo_memory.specs.declared.values.Value.TheVariants as value
use Rattle.rgo_machine.specs.declared.limits.Sizes.{Sizes}
use Rattle.rgo_machine.specs.declared.limits.Shortage.TheVariants as shortage
use Rattle.rgo_tac.specs.declared.regions.Class.TheVariants.{NoClass}
use Rattle.rgo_tac.specs.Frames.{TacFrame}
use Rattle.rgo_code.specs.Code.{Code}
use Rattle.rgo_region_machine.specs.declared.regions.Region.{Region}
use Rattle.rgo_region_machine.specs.declared.regions.Region.TheVariants.{Numbered}
use Rattle.rgo_region_machine.specs.Examples.{long_slice, aliased_object, taking_pages}
use Rattle.rgo_region_machine.specs.Machine.{Attend, Event, region_run, region_start}
use Rattle.rgo_region_machine.specs.Regions.{Bindings, RegionInfo}
use Rattle.rgo_region_machine.specs.States.{Duty, Holder, NoOffer, RegionState, Remove, Taken}
use Rattle.rgo_sound.specs.Safety.{CountsFit, IsSafe}
use Rattle.rgo_region_machine.specs.Room.{LacksIn}
use Rattle.rgo_sound.specs.RegionRuns.{NamesLive}

-- ---- parts of states

-- `main` of `aliased_object` before its instruction `next`
abbrev pub main_at : (next : ℕ) → List TacFrame
main_at next = record {
  function = 0;
  next = next;
  variables = value.Nil ∷ value.Nil ∷ value.Nil ∷ [];
} ∷ []

-- a goroutine with these stakes, these bindings of names to regions, and these duties
abbrev pub holder : List ℕ → Bindings → List Duty → Holder
holder stakes names duties = record {
  stakes = stakes;
  pending = [];
  environments = record { lent = NoClass; names = names; protections = [] } ∷ [];
  base = [];
  fills = [];
  reserved = 0;
  duties = duties;
  offer = NoOffer;
}

abbrev pub region : (stakes pages : ℕ) → RegionInfo
region stakes pages = record { stakes = stakes; pages = pages }

-- `main` alone, at these frames, with these objects in these regions
abbrev pub one_goroutine_state : List TacFrame → List Object → List Region → List RegionInfo → Holder → RegionState
one_goroutine_state frames heap owners regions main = record {
  plain =
      record { memory = record { heap = heap; variables = [] }; goroutines = frames ∷ []; printed = []; ended = None };
  owners = owners;
  regions = regions;
  global_pages = 0;
  holders = main ∷ [];
  steps = 1;
  mark = None;
}

-- the same before its first instruction
abbrev pub one_goroutine_start : List Object → List Region → List RegionInfo → Holder → RegionState
one_goroutine_start heap owners regions main = one_goroutine_state (main_at 0) heap owners regions main

-- ---- states

-- an object of region 0, which is live, that points into its own region
abbrev pub at_home : RegionState
at_home =
    one_goroutine_start (StructObject (value.Object 0 ∷ []) ∷ []) (Numbered 0 ∷ []) (region 1 1 ∷ [])
    (holder (0 ∷ []) ((0, Numbered 0) ∷ []) [])

-- an object of region 0 points into region 1
abbrev pub astray : RegionState
astray =
    one_goroutine_start (StructObject (value.Object 1 ∷ []) ∷ StructObject [] ∷ []) (Numbered 0 ∷ Numbered 1 ∷ [])
    (region 1 1 ∷ region 1 1 ∷ []) (holder (0 ∷ 1 ∷ []) ((0, Numbered 0) ∷ (1, Numbered 1) ∷ []) [])

-- one goroutine has a stake, and two are counted: the region would outlive its last stake
abbrev pub overcounted : RegionState
overcounted = one_goroutine_start [] [] (region 2 0 ∷ []) (holder (0 ∷ []) ((0, Numbered 0) ∷ []) [])

-- a stake that no name keeps, so nobody could end it; and one that two names keep, so it could end twice
abbrev pub unnamed_stake : RegionState
unnamed_stake = one_goroutine_start [] [] (region 1 0 ∷ []) (holder (0 ∷ []) [] [])

abbrev pub named_twice : RegionState
named_twice = one_goroutine_start [] [] (region 1 0 ∷ []) (holder (0 ∷ []) ((0, Numbered 0) ∷ (1, Numbered 0) ∷ []) [])

-- two pages, with no object and one goroutine
abbrev pub too_many_pages : RegionState
too_many_pages = one_goroutine_start [] [] (region 1 2 ∷ []) (holder (0 ∷ []) ((0, Numbered 0) ∷ []) [])

-- a slice of 40 elements in a region with this number of pages; the next object is a struct
abbrev pub with_pages : (pages : ℕ) → RegionState
with_pages pages =
    one_goroutine_start (SliceObject (replicate 40 (value.Int (pos 0))) ∷ []) (Numbered 0 ∷ []) (region 1 pages ∷ [])
    (holder (0 ∷ []) ((0, Numbered 0) ∷ []) [])

-- a region is removed next: it is live; it has been removed before; it is live only by another goroutine's stake
abbrev pub removing_live : RegionState
removing_live = one_goroutine_start [] [] (region 1 0 ∷ []) (holder (0 ∷ []) ((0, Numbered 0) ∷ []) (Remove 0 ∷ []))

abbrev pub removing_twice : RegionState
removing_twice = one_goroutine_start [] [] (region 0 0 ∷ []) (holder [] ((0, Numbered 0) ∷ []) (Remove 0 ∷ []))

abbrev pub removing_anothers : RegionState
removing_anothers = one_goroutine_start [] [] (region 1 0 ∷ []) (holder [] ((0, Numbered 0) ∷ []) (Remove 0 ∷ []))

-- `main` before its load of the first field of an object, with these regions and stakes
abbrev pub before_load : List RegionInfo → List ℕ → RegionState
before_load regions stakes =
    one_goroutine_state (record {
      function = 0;
      next = 2;
      variables = value.Object 0 ∷ value.Object 0 ∷ value.Nil ∷ [];
    } ∷ []) (StructObject (value.Nil ∷ []) ∷ []) (Numbered 0 ∷ []) regions (holder stakes ((0, Numbered 0) ∷ []) [])

-- the region of the object is live; it has been removed
abbrev pub loading_live : RegionState
loading_live = before_load (region 1 1 ∷ []) (0 ∷ [])

abbrev pub loading_removed : RegionState
loading_removed = before_load (region 0 1 ∷ []) []

-- an offer was taken on a channel whose region has been removed: its acknowledgement would write to the channel
abbrev pub acknowledging_removed : RegionState
acknowledging_removed =
    one_goroutine_start (Channel 0 [] false ∷ []) (Numbered 0 ∷ []) (region 0 1 ∷ [])
    (record (holder [] [] []) { offer = Taken 0 })

pub record StateExamples : Type 0 where
  pub safe : IsSafe aliased_object 16 at_home
  pub astray : IsSafe aliased_object 16 astray → ⊥
  pub overcounted : IsSafe aliased_object 16 overcounted → ⊥
  pub unnamed : IsSafe aliased_object 16 unnamed_stake → ⊥
  pub named_twice : IsSafe aliased_object 16 named_twice → ⊥
  pub too_many_pages : IsSafe aliased_object 16 too_many_pages → ⊥
  -- The slice has a lead page and three data pages, and its goroutine may have taken as many more for a next object; in a page that has
  -- room for all of it, it counts for one page.
  pub spread_pages : CountsFit aliased_object 16 (with_pages 8)
  pub too_many_spread : IsSafe aliased_object 16 (with_pages 9) → ⊥
  pub whole_pages : CountsFit aliased_object 41 (with_pages 2)
  pub too_many_whole : IsSafe aliased_object 41 (with_pages 3) → ⊥
  pub removing : NamesLive aliased_object removing_live
  pub removing_twice : NamesLive aliased_object removing_twice → ⊥
  pub removing_anothers : NamesLive aliased_object removing_anothers → ⊥
  -- an object is made, or read
  pub making : NamesLive aliased_object at_home
  pub loading : NamesLive aliased_object loading_live
  pub loading_removed : NamesLive aliased_object loading_removed → ⊥
  pub acknowledging : NamesLive aliased_object acknowledging_removed → ⊥

-- ---- room

abbrev pub sizes : (page_words pages regions : ℕ) → Sizes
sizes page_words pages regions = record { page_words = page_words; pages = pages; regions = regions }

-- its region is created
abbrev pub region_created : List Event
region_created = Attend 0 ∷ []

-- these events lead to a state with this property
abbrev pub Comes : Code → (page_words : ℕ) → List Event → (RegionState → Type 0) → Type 0
Comes code page_words events Holds =
    (s : RegionState) × (region_run code page_words events ≡ Some s) × Holds s

-- The run of `aliased_object` creates a region, and then takes a page in it: at each step one kind of room can be missing.
pub record RoomExamples : Type 0 where
  pub no_region : LacksIn aliased_object (sizes 16 1 0) shortage.Regions (region_start aliased_object)
  pub one_region : LacksIn aliased_object (sizes 16 1 1) shortage.Regions (region_start aliased_object) → ⊥
  pub no_page : Comes aliased_object 16 region_created (LacksIn aliased_object (sizes 16 0 1) shortage.Pages)
  pub one_page : Comes aliased_object 16 region_created (λ s. LacksIn aliased_object (sizes 16 1 1) shortage.Pages s → ⊥)
  -- no page is needed before the region exists
  pub no_page_yet : LacksIn aliased_object (sizes 16 0 1) shortage.Pages (region_start aliased_object) → ⊥
  -- a slice that is spread over three pages lacks the third one, and needs none after it
  pub no_data_page : Comes (long_slice 17 16 15) 16 (taking_pages 2) (LacksIn (long_slice 17 16 15) (sizes 16 2 1) shortage.Pages)
  pub all_pages : Comes (long_slice 17 16 15) 16 (taking_pages 3)
      (λ s. LacksIn (long_slice 17 16 15) (sizes 16 3 1) shortage.Pages s → ⊥)
  -- a lead page of 16 words has the numbers of 14 data pages
  pub longest : Comes (long_slice 224 0 0) 16 (taking_pages 0)
      (λ s. LacksIn (long_slice 224 0 0) (sizes 16 1 1) shortage.ObjectSize s → ⊥)
  pub too_long : Comes (long_slice 225 0 0) 16 (taking_pages 0) (LacksIn (long_slice 225 0 0) (sizes 16 1 1) shortage.ObjectSize)
  -- the object has two words, so in pages of one word it would be spread, and a lead page of one word has no room for a page number
  pub one_word : Comes aliased_object 1 region_created (LacksIn aliased_object (sizes 1 1 1) shortage.ObjectSize)
  pub two_words : Comes aliased_object 2 region_created (λ s. LacksIn aliased_object (sizes 2 1 1) shortage.ObjectSize s → ⊥)

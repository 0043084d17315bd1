-- New objects: what an act leaves that makes one, and what is known of it before its words are stored. Pages that were claimed for a spread
-- object are part of what is left, since a claim shows.
use Rattle.std.specs.Prelude.{◌≡◌, ◌+◌, ◌*◌, ◌<◌, ◌≤◌, ◌==◌, ℕ, suc, List, Option, Some, None, [], if◌then◌else◌, length, slice_index}
use Rattle.rgo_core.specs.Channels.Records.{at_rest}
use Rattle.rgo_core_facts.specs.MemoryObjects.{PageHasNoRoom, NewObject, data_pages_of}
use Rattle.rgo_core.specs.Memory.Records.{Rest, page_of}
use Rattle.rgo_core.specs.Rule.Views.{number_of}
use Rattle.rgo_core.specs.Core.{Setup}
use Rattle.rgo_core.specs.Records.{Record}
use Rattle.rgo_core_steps.specs.Ends.{GoroutineEndsRun}
use Rattle.rgo_holding.specs.Holds.{region_of_key}
use Rattle.rgo_holding.specs.Known.{own_page, slot_or_global}
use Rattle.rgo_holding.specs.declared.entries.Page.{Page}
use Rattle.rgo_holding.specs.declared.holding.Holding.{Holding}
use Rattle.rgo_sound.specs.Code.Code.{CodeFn}
use Rattle.rgo_sound.specs.Code.Names.{class_of}
use Rattle.rgo_sound.specs.RegionMachine.Objects.{most_data_pages}
use Rattle.rgo_sound.specs.RegionMachine.Regions.{class_region}
use Rattle.rgo_sound.specs.RegionMachine.States.{Stopped, top_names}
use Rattle.rgo_sound.specs.RegionMachine.declared.limits.Limit.TheVariants.{ObjectSize}
use Rattle.rgo_sound.specs.RegionMachine.declared.regions.Region.{Region}
use Rattle.rgo_body.specs.declared.bodies.Body.{Body}
use Rattle.rgo_body.specs.declared.nexts.Next.{Next}
use Rattle.rgo_acts.specs.Actors.{ActorActed, IsUnmoved, now}
use Rattle.rgo_acts.specs.Ready.{ActorIsBefore}
use Rattle.rgo_acts.specs.Runs.{Run}
use Rattle.rgo_acts.specs.Shortages.{LacksPage}
use Rattle.rgo_acts.specs.Traps.{IsAtTrap}
use Rattle.rgo_acts.specs.declared.actors.Actor.{Actor}
use Rattle.rgo_acts.specs.declared.objects.Made.{Made}
use Rattle.rgo_acts.specs.declared.objects.Made.TheVariants as made
use Rattle.rgo_acts.specs.declared.objects.New.{New}

-- ---- what comes of it

-- The object has more data pages than an object may have, which is a cause to end the run.
pub record IsTooLarge (r : Run) (a b : Actor) : Type 0 where
  pub acted : ActorActed r a b 0 [] []
  pub ends : GoroutineEndsRun r.setup (number_of b.seat.me) (now r.setup b) (Stopped ObjectSize)

-- body d is b, but for the room in its list of reserved pages
abbrev pub IsAsBefore : (before after : Body) → Type 0
IsAsBefore b d = d ≡ record b { reserved = record b.reserved { room = d.reserved.room } }

-- It needs a page, and each was found in use. It is as it was, and has changed no word.
pub record HasNoPage (r : Run) (a b : Actor) : Type 0 where
  pub acted : ActorActed r a b 0 [] []
  pub unmoved : IsUnmoved r.setup a b acted.es
  pub body : IsAsBefore a.body b.body
  pub lacks : LacksPage r.setup (number_of a.seat.me) (now r.setup b) acted.es

-- It has claimed pages for a spread object. It needs one more, and each was found in use. It has moved: the pages that it claimed are
-- used by nobody else, so a pass that counts them must see them.
pub record HasTooFewPages (r : Run) (a b : Actor) : Type 0 where
  pub acted : ActorActed r a b 0 [] []
  pub lacks : LacksPage r.setup (number_of a.seat.me) (now r.setup b) acted.es

-- Memory ran out before it had made an access.
pub record HasNoMemory (r : Run) (a b : Actor) : Type 0 where
  pub acted : ActorActed r a b 0 [] []
  pub seat : b.seat ≡ a.seat
  pub body : IsAsBefore a.body b.body

abbrev pub ActorMakes : (r : Run) (a b : Actor) → Made → Type 0
ActorMakes r a b made.Done = ActorActed r a b 1 [] []
ActorMakes r a b (made.Trap trap) = IsAtTrap r a b trap
ActorMakes r a b made.TooLarge = IsTooLarge r a b
ActorMakes r a b made.Short = HasNoPage r a b
ActorMakes r a b made.Partly = HasTooFewPages r a b
ActorMakes r a b made.NoMemory = HasNoMemory r a b

-- How many accesses it takes at the most to make an object of this many words, `before` of which precede its cells: a search and a
-- claim for each of its pages, and a store of each of its words and page numbers.
abbrev pub most_steps : Setup → (words before : ℕ) → ℕ
most_steps T words before = (data_pages_of T.sizes.page_words words before + 1) * (T.sizes.pages + 2)
    + (words + data_pages_of T.sizes.page_words words before)

-- ---- the object

-- the word at this place first holds this value, and all others hold 0
abbrev pub opens : (place value i : ℕ) → ℕ
opens place value i = if i == place then value else 0

-- the next instruction makes this object, in a region that is known by its key
pub record IsNextObject (T : Setup) (c : Record) (k : Holding) (new : New) : Type 0 where
  pub region : Region
  pub at_key : region_of_key k new.key ≡ Some region
  pub low : slot_or_global T.sizes.regions region ≤ T.sizes.regions
  pub few : new.before ≤ 2
  pub object : NewObject T c (slot_or_global T.sizes.regions region) new.words new.before (opens new.place new.value)

-- an object of this many words, `before` of which precede its cells, has at most as many data pages as an object may have
abbrev pub IsSmall : Setup → (words before : ℕ) → Type 0
IsSmall T words before = data_pages_of T.sizes.page_words words before ≤ most_data_pages T.sizes.page_words

-- What the next instruction makes for variable `to` of its function, in the region of the variable's class: an object of this many
-- words, if it has not too many data pages; or else there is a cause to end the run.
pub record Wants (T : Setup) (g : ℕ) (c : Record) (fn : CodeFn) (to words before place value : ℕ) : Type 0 where
  pub region : Region
  pub in_class : class_region (top_names c.frame.holder.environments) (class_of fn to) ≡ Some region
  pub low : slot_or_global T.sizes.regions region ≤ T.sizes.regions
  pub some : 0 < words
  pub few : before ≤ 2
  pub fits : IsSmall T words before → NewObject T c (slot_or_global T.sizes.regions region) words before (opens place value)
  pub large : most_data_pages T.sizes.page_words < data_pages_of T.sizes.page_words words before → GoroutineEndsRun T g c (Stopped ObjectSize)

-- this is the object that the next instruction makes, and it is not too large
pub record CanMake (r : Run) (a : Actor) (new : New) : Type 0 where
  pub is_new : IsNextObject r.setup (now r.setup a) a.body.holding new
  pub small : IsSmall r.setup new.words new.before
  pub some : 0 < new.words

-- ---- its page

-- the own page, if there is one, has no room for this many words
abbrev pub HasNoRoomIn : (page_words words : ℕ) → Option Page → Type 0
HasNoRoomIn n words None = Unit {0}
HasNoRoomIn n words (Some page) = n < page.fill + words

-- the goroutine has no own page with room for it
abbrev pub HasNoRoomHere : (r : Run) (a : Actor) → New → Type 0
HasNoRoomHere r a new = (region : Region) → region_of_key a.body.holding new.key ≡ Some region
    → PageHasNoRoom r.setup.sizes.page_words new.words (page_of (slot_or_global r.setup.sizes.regions region) (now r.setup a).memory.fills)

-- The words of the next object go after what is filled of this page, its own one for this slot.
pub record IsPlacedInPage (T : Setup) (c : Record) (slot : ℕ) (page : Page) (new : New) : Type 0 where
  pub object : NewObject T c slot new.words new.before (opens new.place new.value)
  pub is_page : page_of slot c.memory.fills ≡ Some (own_page slot page)
  pub room : page.fill + new.words ≤ T.sizes.page_words
  pub low : page.page < T.sizes.pages
  pub rests : c.side ≡ at_rest
  pub make : c.memory.make ≡ Rest
  pub some : 0 < new.words

-- The goroutine is before its instruction, and this is the page for the object.
pub record HasPage (r : Run) (a b : Actor) (next : Next) (new : New) (page : Page) : Type 0 where
  pub before : ActorIsBefore r b next
  pub acted : ActorActed r a b 0 [] []
  -- that one object more can be counted was tested before the page was claimed
  pub objects : b.body.counts.objects ≡ a.body.counts.objects
  pub region : Region
  pub at_key : region_of_key b.body.holding new.key ≡ Some region
  pub placed : IsPlacedInPage r.setup (now r.setup b) (slot_or_global r.setup.sizes.regions region) page new

-- ---- the pages of a spread object

-- The goroutine is before its instruction, and n pages more are reserved for the object.
pub record HasReserved (r : Run) (a b : Actor) (next : Next) (new : New) (n : ℕ) : Type 0 where
  pub before : ActorIsBefore r b next
  pub acted : ActorActed r a b 0 [] []
  pub is_new : IsNextObject r.setup (now r.setup b) b.body.holding new
  pub pages : length b.body.reserved.pages ≡ length a.body.reserved.pages + n
  pub room : b.body.reserved.room + n ≡ a.body.reserved.room
  pub taken : b.body.counts.taken ≡ a.body.counts.taken + n
  pub objects : b.body.counts.objects ≡ a.body.counts.objects

-- The words of the next object, which is spread, go into these pages, the lead page first. All of them are reserved.
pub record IsSpreadOverPages (T : Setup) (c : Record) (pages : List ℕ) (new : New) : Type 0 where
  pub slot : ℕ
  pub object : NewObject T c slot new.words new.before (opens new.place new.value)
  pub spread : T.sizes.page_words < new.words
  pub small : IsSmall T new.words new.before
  pub few : new.before ≤ 2
  pub reserved : c.memory.reserved.pages ≡ pages
  pub all : length pages ≡ suc (data_pages_of T.sizes.page_words new.words new.before)
  pub low : (i : ℕ) → i < length pages → slice_index pages i < T.sizes.pages
  pub rests : c.side ≡ at_rest
  pub make : c.memory.make ≡ Rest

-- All pages of the next object, which is spread, are reserved, and the goroutine is before its instruction.
pub record HasAllPages (r : Run) (a b : Actor) (next : Next) (new : New) : Type 0 where
  pub before : ActorIsBefore r b next
  pub acted : ActorActed r a b 0 [] []
  pub is_new : IsNextObject r.setup (now r.setup b) b.body.holding new
  pub all : length b.body.reserved.pages ≡ suc (data_pages_of r.setup.sizes.page_words new.words new.before)
  pub objects : b.body.counts.objects ≡ a.body.counts.objects

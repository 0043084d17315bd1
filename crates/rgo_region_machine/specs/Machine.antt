-- The region machine: three-address code that runs with its regions. One event is one instruction, two that meet, or one
-- step with a region. No event touches a region that is not live.
-- A run is a list of events, in any order that has a step for each. So a law on every run is a law on every schedule, and nothing
-- here says which goroutine is next.
use Rattle.std.specs.Prelude.{ℕ, ◌+◌, ◌&&◌, List, [], ◌∷◌, Option, Some, None}
use Rattle.std.specs.Prelude.{slice_get, option_and_then, if◌then◌else◌}
use Rattle.rgo_memory.specs.Memory.{Object}
use Rattle.rgo_machine.specs.declared.picks.Pick.{Pick}
use Rattle.rgo_machine.specs.declared.picks.Pick.TheVariants.{One}
use Rattle.rgo_machine.specs.Runs.{run}
use Rattle.rgo_tac.specs.declared.regions.Class.TheVariants.{NoClass}
use Rattle.rgo_tac.specs.Frames.{TacFrame}
use Rattle.rgo_tac.specs.Tac.{TacState, tac_start, tac_step}
use Rattle.rgo_code.specs.Code.{CodeInstr, Code}
use Rattle.rgo_code.specs.Erasure.{erased}
use Rattle.rgo_region_machine.specs.declared.limits.Limit.{Limit}
use Rattle.rgo_region_machine.specs.declared.regions.Region.{Region}
use Rattle.rgo_region_machine.specs.declared.regions.Region.TheVariants.{Global as GlobalRegion, Numbered}
use Rattle.rgo_region_machine.specs.Duties.{attended, may_go, attend}
use Rattle.rgo_region_machine.specs.Instructions.{has_none, instruct}
use Rattle.rgo_region_machine.specs.Objects.{making_region, new_object, wants_page, with_page, fill_of}
use Rattle.rgo_region_machine.specs.Offers.{make_offer, acknowledge}
use Rattle.rgo_region_machine.specs.Owed.{function_at, current, next_duties}
use Rattle.rgo_region_machine.specs.Regions.{is_live, with_info, one_page_more}
use Rattle.rgo_region_machine.specs.States.{Holder, NoOffer, Mark, Stopped, RegionState, frames_of, environment_of, top_names}

-- One event. Goroutines are identified by their numbers; an event with a number that no goroutine has has no step.
pub data Event : Type 0 where
  -- an instruction, or two that meet
  Instruct : Pick → Event
  -- the first of a goroutine's duties
  Attend : (goroutine : ℕ) → Event
  TakePage : (goroutine : ℕ) → Event
  MakeOffer : (goroutine : ℕ) → Event
  Acknowledge : (goroutine : ℕ) → Event
  -- an end that no instruction causes: a limit was reached
  Finish : Limit → Event

-- the step of the three-address machine, which runs the code without its regions
abbrev pub plain_step : Code → TacState → Pick → Option TacState
plain_step code p pick = tac_step (erased code) p pick

-- ---- pages

-- a page more in a region; h is the holder after it; no object is made yet, so the page may stay unused if the run ends here
abbrev pub page_taken : RegionState → ℕ → Holder → Region → RegionState
page_taken s g h GlobalRegion = record (attended s g h) { global_pages = s.global_pages + 1 }
page_taken s g h (Numbered r) = record (attended s g h) { regions = with_info s.regions r one_page_more }

-- the object that the step to `next` makes; none if there is no step, or it makes no object
abbrev pub object_made : RegionState → Option TacState → Option Object
object_made s None = None
object_made s (Some next) = new_object s.plain next

-- The object that a goroutine's next instruction makes, found by trying the step of the three-address machine: so the size for
-- which pages are taken is that of the object which the step then makes.
abbrev pub next_object : Code → RegionState → ℕ → Option Object
next_object code s g = object_made s (plain_step code s.plain (One g))

-- The goroutine owes nothing, and wants a page in this region for the object that it makes next. Duties come first: the region of
-- the object may be one that they create.
abbrev pub page_before : (page_words : ℕ) → RegionState → ℕ → Holder → Region → Object → Option RegionState
page_before page_words s g h r object =
    if has_none h.duties && may_go h.offer && is_live s.regions r
    && wants_page page_words h.reserved (fill_of h.fills r) object
    then Some (page_taken s g (with_page page_words h r object) r) else None

-- the state after the goroutine has taken a page in this region for the object that it makes next; none if it wants no page there
abbrev pub takes_page : Code → ℕ → RegionState → ℕ → Holder → Region → Option RegionState
takes_page code page_words s g h r = option_and_then (page_before page_words s g h r) (next_object code s g)

-- the same in the region in which instruction i makes its object; none if it makes no object
abbrev pub page_for : Code → ℕ → RegionState → ℕ → Holder → TacFrame → CodeInstr → Option RegionState
page_for code page_words s g h frame i =
    option_and_then (takes_page code page_words s g h)
    (making_region (function_at code frame) (top_names h.environments) i.op)

-- the same for a goroutine with these frames, by the instruction at which the newest one is
abbrev pub take_page : Code → ℕ → RegionState → ℕ → Holder → List TacFrame → Option RegionState
take_page code page_words s g h [] = None
take_page code page_words s g h (frame ∷ callers) =
    option_and_then (page_for code page_words s g h frame) (current code frame)

-- ---- the end

-- the mark after a limit was reached: if there is one already, it stays
abbrev pub kept_mark : Option Mark → Limit → Option Mark
kept_mark None limit = Some (Stopped limit)
kept_mark (Some first) limit = Some first

-- the state after this limit was reached
abbrev pub finished : RegionState → Limit → RegionState
finished s limit = record s { mark = kept_mark s.mark limit }

-- ---- the machine

-- the state after an event, if it has a step; pages have this many words
abbrev pub region_step : Code → (page_words : ℕ) → RegionState → Event → Option RegionState
region_step code page_words s (Instruct pick) =
    option_and_then (instruct code page_words s pick) (plain_step code s.plain pick)
region_step code page_words s (Attend g) =
    option_and_then (λ (h : Holder). attend s g h h.duties) (slice_get s.holders g)
region_step code page_words s (TakePage g) =
    option_and_then (λ h. take_page code page_words s g h (frames_of s.plain g)) (slice_get s.holders g)
region_step code page_words s (MakeOffer g) =
    option_and_then (λ h. make_offer code s g h (frames_of s.plain g)) (slice_get s.holders g)
region_step code page_words s (Acknowledge g) =
    option_and_then (λ (h : Holder). acknowledge s g h h.offer) (slice_get s.holders g)
region_step code page_words s (Finish limit) = Some (finished s limit)

-- `main` has no parameters, so it starts with no name and no stake, and owes what comes before its first instruction
abbrev pub main_holder : Code → List TacFrame → Holder
main_holder code frames = record {
  stakes = [];
  pending = [];
  environments = environment_of NoClass [] ∷ [];
  base = [];
  fills = [];
  reserved = 0;
  duties = next_duties code frames;
  offer = NoOffer;
}

-- the state in which a run begins: goroutine 0 alone, and no region but Global
abbrev pub region_start : Code → RegionState
region_start code = record {
  plain = tac_start (erased code);
  owners = [];
  regions = [];
  global_pages = 0;
  holders = main_holder code (frames_of (tac_start (erased code)) 0) ∷ [];
  steps = 0;
  mark = None;
}

-- the state after these events, if each has a step in its turn
abbrev pub region_run : Code → (page_words : ℕ) → List Event → Option RegionState
region_run code page_words events = run (region_step code page_words) (region_start code) events

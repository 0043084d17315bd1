-- States of the region machine: the state of the three-address machine, and beside it the regions that were created, each
-- goroutine's stakes in them, and what each goroutine has to do before its next instruction.
-- Nothing is deleted: a removed region keeps its number and its entry, and its objects keep their contents. So the laws can state
-- that no step reads, writes or removes a region after its removal.
use Rattle.std.specs.Prelude.{ℕ, List, [], ◌∷◌, Option, Some, None, slice_get}
use Rattle.rgo_machine.specs.declared.picks.End.{End}
use Rattle.rgo_tac.specs.declared.regions.Class.{Class}
use Rattle.rgo_tac.specs.Frames.{TacFrame}
use Rattle.rgo_tac.specs.Tac.{TacState}
use Rattle.rgo_region_machine.specs.declared.limits.Limit.{Limit}
use Rattle.rgo_region_machine.specs.declared.regions.Region.{Region}
use Rattle.rgo_region_machine.specs.Regions.{RegionInfo, Bindings}

-- A step with a region that a goroutine owes before its next instruction. Each is an event of its own: other goroutines may act
-- between any two of them, as they do in a run on several workers.
pub data Duty : Type 0 where
  Create : (name : ℕ) → Duty
  Share : (name : ℕ) → Duty
  Protect : (name : ℕ) → Duty
  Unprotect : (name : ℕ) → Duty
  Remove : (name : ℕ) → Duty
  -- The end of a protection in the goroutine's base, and the removal of its region. It carries the region, since it is owed when
  -- every frame, and with it every name, is gone.
  EndBase : Region → Duty

-- A goroutine's offer on a channel without a buffer: none; one that is open; one that a receiver has taken and the sender
-- has not acknowledged. The last state exists because in a run on workers the receiver cannot advance the sender: between the
-- meeting and the acknowledgement the sender may not step.
pub data Offer : Type 0 where
  NoOffer : Offer
  Standing : (channel : ℕ) → Offer
  Taken : (channel : ℕ) → Offer

-- What a frame knows of regions: the class of its function's result, whose region the caller lends; the region that each of
-- its names denotes; and the regions that its call protects. A region is listed once for each protection, since two protected
-- names may denote one region, and each of the two ends by a duty of its own.
pub record RegionEnvironment : Type 0 where
  pub lent : Class
  pub names : Bindings
  pub protections : List Region

-- what a goroutine has of the regions, and what it owes
pub record Holder : Type 0 where
  -- the regions in which it has a stake
  pub stakes : List ℕ
  -- the regions in which it has taken a stake for a goroutine that it is about to start
  pub pending : List ℕ
  -- one for each frame, the newest first
  pub environments : List RegionEnvironment
  -- The regions passed at two positions when it started. Two names denote such a region, and the goroutine has one stake; so it is
  -- protected until the goroutine's function has returned.
  pub base : List Region
  -- how many words are used of the page that it fills in a region; goroutines share no page, so nobody else changes this
  pub fills : List (Region × ℕ)
  -- how many pages it has taken so far for the spread object that its next instruction makes
  pub reserved : ℕ
  -- what it owes before its next instruction
  pub duties : List Duty
  pub offer : Offer

-- why a run is over
pub data Mark : Type 0 where
  Ended : (end : End) → Mark
  Stopped : (limit : Limit) → Mark

-- A state of a run with regions. `plain` never has an end, since goroutines may step after the end of the run; `mark` has it.
pub record RegionState : Type 0 where
  pub plain : TacState
  -- the region of each object, by the number of the object; it never changes
  pub owners : List Region
  -- the regions that were created, by number, but for Global; removed ones stay
  pub regions : List RegionInfo
  -- Global has no entry among the regions: it needs no stakes, since it is never removed
  pub global_pages : ℕ
  -- one for each goroutine, by its number
  pub holders : List Holder
  -- how many instructions were done; a meeting counts as one
  pub steps : ℕ
  -- The first end is kept. Steps may follow it, since other goroutines notice an end only when they look; they print nothing.
  pub mark : Option Mark

-- ---- the three-address machine's state

-- the end of the program; none if a limit stopped the run, since the three-address machine knows no limits
abbrev pub end_in : Option Mark → Option End
end_in (Some (Ended end)) = Some end
end_in (Some (Stopped limit)) = None
end_in None = None

-- the three-address machine's state, with this print and the end that marks the run, which `plain` itself does not have
abbrev pub plain_at : RegionState → List ℕ → TacState
plain_at s printed = record s.plain { printed = printed; ended = end_in s.mark }

-- ---- frames

-- the frames of a goroutine that was looked up; none if there is no such goroutine
abbrev pub frames_in : Option (List TacFrame) → List TacFrame
frames_in None = []
frames_in (Some frames) = frames

-- the frames of goroutine g, the newest first; none if it has returned
abbrev pub frames_of : TacState → ℕ → List TacFrame
frames_of s g = frames_in (slice_get s.goroutines g)

-- ---- environments

-- the environment of a function that was just called: it protects nothing yet
abbrev pub environment_of : Class → Bindings → RegionEnvironment
environment_of lent names = record { lent = lent; names = names; protections = [] }

-- the names of the newest frame
abbrev pub top_names : List RegionEnvironment → Bindings
top_names [] = []
top_names (e ∷ es) = e.names

-- the environments, with these names for the newest frame
abbrev pub with_top : List RegionEnvironment → Bindings → List RegionEnvironment
with_top [] names = []
with_top (e ∷ es) names = record e { names = names } ∷ es

-- the environments of the callers, which are left when the newest frame returns
abbrev pub below : List RegionEnvironment → List RegionEnvironment
below [] = []
below (e ∷ es) = es

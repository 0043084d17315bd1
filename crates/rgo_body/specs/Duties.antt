-- What a duty of a body does, with an access and without one. Whether it needs one depends on the holder of the record, which no body
-- has; so the tests of the code are compared with tests of any holder that the holding shows.
use Rattle.std.specs.List.{list_any}
use Rattle.std.specs.Prelude.{◌≡◌, ◌+◌, ℕ, suc, Bool, true, List, ◌∷◌, Some, nat_eq}
use Rattle.rgo_core.specs.Memory.Records.{Fill}
use Rattle.rgo_holding.specs.Changes.{without_name}
use Rattle.rgo_holding.specs.Holds.{IsHoldingOf, region_of_key}
use Rattle.rgo_holding.specs.declared.holding.Holding.{Holding}
use Rattle.rgo_body.specs.declared.queues.Duty.{Duty as DutyOf}
use Rattle.rgo_body.specs.declared.queues.Duty.TheVariants as duty
use Rattle.rgo_holding.specs.declared.keys.Key.{Key}
use Rattle.rgo_sound.specs.RegionMachine.Duties.{guards}
use Rattle.rgo_sound.specs.RegionMachine.States.{Duty, RegionEnvironment, Holder}
use Rattle.rgo_sound.specs.RegionMachine.declared.regions.Region.{Region}
use Rattle.rgo_sound.specs.RegionMachine.declared.regions.Region.TheVariants.{Global as GlobalRegion, Numbered}
use Rattle.rgo_core.specs.Core.{Situation, Setup}
use Rattle.rgo_core.specs.Records.{Record}
use Rattle.rgo_core.specs.moves.Regions.{left_stake}
use Rattle.rgo_core_steps.specs.Counts.{IsSharing, ending}
use Rattle.rgo_body.specs.Programs.{CompactProgram}
use Rattle.rgo_body.specs.Shows.{BodyShows}
use Rattle.rgo_body.specs.Steps.{TakesLocal}
use Rattle.rgo_body.specs.declared.bodies.Body.{Body}

abbrev pub OwesFirst : Body → Duty → Type 0
OwesFirst b d = (ds : List Duty) × (b.queue.duties ≡ d ∷ ds)

-- The first duty in its queue is done. Nothing else has changed but what it has of regions and what it has counted.
pub record HasDoneDuty (b d : Body) : Type 0 where
  pub first : Duty
  pub queue : b.queue.duties ≡ first ∷ d.queue.duties
  pub rest : d ≡ record b { holding = d.holding; queue = d.queue; counts = d.counts }

-- its first duty was a local step
abbrev pub DoesLocal : CompactProgram → (before after : Body) → Type 0
DoesLocal p b d = TakesLocal p 1 b d × HasDoneDuty b d × (d.counts ≡ b.counts)

-- a stake is to be taken in the region of this key, whatever record the body shows: the premise of the access that takes it
pub record SharesIn (p : CompactProgram) (b : Body) (key : Key) : Type 0 where
  pub slot : ℕ
  pub region : region_of_key b.holding key ≡ Some (Numbered slot)
  pub shares : (T : Setup) (g : ℕ) (c : Record) → Situation T g c → BodyShows T p b c → IsSharing c slot

-- its stake is to end in the region of this key
pub record LeavesIn (p : CompactProgram) (b : Body) (key : Key) : Type 0 where
  pub slot : ℕ
  pub region : region_of_key b.holding key ≡ Some (Numbered slot)
  pub ends : (T : Setup) (g : ℕ) (c : Record) → Situation T g c → BodyShows T p b c → (k : Holder) × (ending c ≡ Some (slot, k))

-- The stake has ended in a slot, and some goroutine has the record after that.
abbrev pub StakeHasEnded : CompactProgram → (before after : Body) → Type 0
StakeHasEnded p b d = (T : Setup) (g : ℕ) (c e : Record) (slot : ℕ) (k : Holder) → Situation T g c → BodyShows T p b c
    → ending c ≡ Some (slot, k) → Situation T g e → e.frame ≡ (left_stake c k slot).frame → BodyShows T p d (left_stake c k slot)

-- the record after a region was removed, all of whose pages were returned
abbrev pub without_region : Record → (pages : ℕ) → Record
without_region c pages = record c {
  clock = record c.clock {
    share = record c.clock.share { removed = suc c.clock.share.removed; returned = c.clock.share.returned + pages };
  };
}

-- ---- which duties need no access

-- no stake in the region is to be taken for a coming child
abbrev pub has_share : (pending : List ℕ) → Region → Bool
has_share pending GlobalRegion = true
has_share pending (Numbered p) = list_any (nat_eq p) pending

-- no stake in the region ends where one of its names is removed
abbrev pub is_kept : (base : List Region) → List RegionEnvironment → Region → Bool
is_kept base es GlobalRegion = true
is_kept base es (Numbered p) = guards base es (Numbered p)

-- ---- what a duty that ends a stake does to names and protections

-- names and protections of the newest frame, or the protections since the start, are as the duty leaves them
abbrev pub Forgets : Holding → Holding → DutyOf → Type 0
Forgets k l (duty.Remove name) = (slots : ℕ) (h : Holder) (fills : List Fill) → IsHoldingOf slots k h fills
    → IsHoldingOf slots l (without_name h name) fills
Forgets k l (duty.EndBase region) = (slots : ℕ) (h : Holder) (fills : List Fill) (r : Region) (rest : List Region)
    → IsHoldingOf slots k h fills → h.base ≡ r ∷ rest → IsHoldingOf slots l (record h { base = rest }) fills
Forgets k l (duty.Create name) = Unit {0}
Forgets k l (duty.Share name) = Unit {0}
Forgets k l (duty.Protect name) = Unit {0}
Forgets k l (duty.Unprotect name) = Unit {0}

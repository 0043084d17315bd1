-- What an event leaves as it was: the frames and the holders of goroutines that take no part in it, and most offers. The proof of
-- the table needs it: there each goroutine's part is in words that only its own turn writes.
use Rattle.std.specs.Prelude.{◌≡◌, ◌⊎◌, ℕ, List, Some, slice_get}
use Rattle.rgo_code.specs.Code.{Code}
use Rattle.rgo_machine.specs.declared.picks.Pick.TheVariants.{Meet, One}
use Rattle.rgo_region_machine.specs.Machine.{Acknowledge, Attend, Event, Finish, Instruct, MakeOffer, TakePage}
use Rattle.rgo_region_machine.specs.Machine.{region_step}
use Rattle.rgo_region_machine.specs.States.{Holder, RegionState}
use Rattle.rgo_tac.specs.Frames.{TacFrame}

-- goroutine j takes part in the event
abbrev pub TakesPart : Event → ℕ → Type 0
TakesPart (Instruct (One g)) j = j ≡ g
TakesPart (Instruct (Meet receiver sender)) j = (j ≡ receiver) ⊎ (j ≡ sender)
TakesPart (Attend g) j = j ≡ g
TakesPart (TakePage g) j = j ≡ g
TakesPart (MakeOffer g) j = j ≡ g
TakesPart (Acknowledge g) j = j ≡ g
TakesPart (Finish limit) j = ⊥

-- from s to t no goroutine has changed that takes no part in the event; new ones may have been added
pub record LeavesOthers (s t : RegionState) (event : Event) : Type 0 where
  pub frames : (j : ℕ) (frames : List TacFrame) → (TakesPart event j → ⊥) → slice_get s.plain.goroutines j ≡ Some frames
      → slice_get t.plain.goroutines j ≡ Some frames
  pub holders : (j : ℕ) (h : Holder) → (TakesPart event j → ⊥) → slice_get s.holders j ≡ Some h
      → slice_get t.holders j ≡ Some h

-- every step leaves the others
abbrev pub OthersStay : Type 0
OthersStay = (code : Code) (page_words : ℕ) (s t : RegionState) (event : Event)
    → region_step code page_words s event ≡ Some t → LeavesOthers s t event

-- the event is goroutine j's alone, and concerns no offer
abbrev pub ActsAlone : Event → ℕ → Type 0
ActsAlone (Instruct (One g)) j = j ≡ g
ActsAlone (Instruct (Meet receiver sender)) j = ⊥
ActsAlone (Attend g) j = j ≡ g
ActsAlone (TakePage g) j = j ≡ g
ActsAlone (MakeOffer g) j = ⊥
ActsAlone (Acknowledge g) j = ⊥
ActsAlone (Finish limit) j = ⊥

-- such a step leaves the goroutine's offer as it was
abbrev pub OffersStay : Type 0
OffersStay = (code : Code) (page_words : ℕ) (s t : RegionState) (event : Event) (g : ℕ) (h : Holder)
    → region_step code page_words s event ≡ Some t → ActsAlone event g → slice_get s.holders g ≡ Some h
    → (k : Holder) × (slice_get t.holders g ≡ Some k) × (k.offer ≡ h.offer)

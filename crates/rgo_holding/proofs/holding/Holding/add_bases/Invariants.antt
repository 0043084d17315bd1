use Rattle.std.proofs.Common.{◌≡◌, ℕ, List, [], map, nat_eq, reverse, take}
use Rattle.std.specs.HashMap.{get}
use Rattle.rgo_sound.specs.RegionMachine.declared.regions.Region.TheVariants.{Numbered}
use Rattle.rgo_holding.specs.Changes.{SameRegions}
use Rattle.rgo_holding.specs.Learning.{ShowsFresh, SlotsKnown, Tracks}
use Rattle.rgo_holding.proofs.holding.Holding.add_bases.Given as goal

abbrev pub invariant-loop-slot : goal.invariant-loop-slot
invariant-loop-slot l =
    ((slots : ℕ) (stakes : List ℕ) → Tracks l.fn.self (get nat_eq l.known) → ShowsFresh slots l.fn.self [] stakes
    → SlotsKnown slots (get nat_eq l.known) l.found → Tracks l.self (get nat_eq l.known)
    × ShowsFresh slots l.self (map Numbered (reverse (take l.slot-index l.found))) stakes)
    × SameRegions l.fn.self l.self
    × (l.self.slots ≡ l.fn.self.slots) × (l.self.frames ≡ l.fn.self.frames)

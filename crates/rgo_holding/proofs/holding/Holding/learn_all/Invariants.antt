use Rattle.std.proofs.Common.{◌≡◌, ℕ, List, [], nat_eq, take}
use Rattle.std.specs.HashMap.{get}
use Rattle.rgo_holding.specs.Learning.{AreGiven, Learned, ShowsFresh, Tracks}
use Rattle.rgo_holding.proofs.holding.Holding.learn_all.Given as goal

abbrev pub invariant-loop-region : goal.invariant-loop-region
invariant-loop-region l =
    ((slots : ℕ) (stakes : List ℕ) → Tracks l.fn.self (get nat_eq l.fn.known) → ShowsFresh slots l.fn.self [] stakes
    → AreGiven slots stakes l.given → Learned slots stakes l.self (get nat_eq l.known) l.keys.items (take l.region-index l.given))
    × (l.self.slots ≡ l.fn.self.slots) × (l.self.frames ≡ l.fn.self.frames)

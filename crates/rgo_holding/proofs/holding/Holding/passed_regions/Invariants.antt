use Rattle.std.proofs.Common.{◌≡◌, ℕ, List, take}
use Rattle.rgo_core_memory.specs.Records.{Fill}
use Rattle.rgo_sound.specs.RegionMachine.Owed.{passed_regions}
use Rattle.rgo_sound.specs.RegionMachine.States.{Holder, top_names}
use Rattle.rgo_holding.specs.Holds.{IsHoldingOf}
use Rattle.rgo_holding.proofs.holding.Holding.passed_regions.Given as goal

abbrev pub invariant-loop-class : goal.invariant-loop-class
invariant-loop-class l = (slots : ℕ) (h : Holder) (fills : List Fill) → IsHoldingOf slots l.self h fills
    → l.regions.items ≡ passed_regions (top_names h.environments) (take l.class-index l.passes)

use Rattle.std.proofs.Common.{◌≡◌, ◌≤◌, ◌+◌, ◌++◌, ℕ, List, drop, length, map}
use Rattle.rgo_core.specs.Memory.Records.{Fill}
use Rattle.rgo_holding.specs.Holds.{IsHoldingOf}
use Rattle.rgo_sound.specs.RegionMachine.States.{EndBase, Holder}
use Rattle.rgo_body.proofs.calls.put_base.Given as goal

-- the ends of the regions from the i-th on are put
abbrev pub invariant-loop-i : goal.invariant-loop-i
invariant-loop-i l = (h : Holder) (fills : List Fill) (slots : ℕ) → IsHoldingOf slots l.holding h fills
    → (l.i ≤ length h.base) × (l.queue.duties ≡ map EndBase (drop l.i h.base) ++ l.initial.queue.duties)
    × (l.queue.room + length h.base ≡ l.initial.queue.room + l.i)

abbrev pub decreases-loop-i : goal.decreases-loop-i
decreases-loop-i l = l.i

-- Replays: the picks of a journal, taken one after the other on the three-address machine.
use Rattle.std.specs.Prelude.{◌≡◌, ◌<◌, ℕ, Bool, true, false, List, take, length, Option, None, Some, IfSome, slice_get, Result, Ok, Err}
use Rattle.std.specs.Io.KnownBytes.{Appends}
use Rattle.std.specs.declared.alloc.AllocError.{AllocError}
use Rattle.rgo_machine.specs.Deadlocks.{IsDeadlock}
use Rattle.rgo_machine.specs.Runs.{Leads}
use Rattle.rgo_tac.specs.Code.{Tac}
use Rattle.rgo_tac.specs.Tac.{TacState, tac, tac_start}
use Rattle.rgo_journal.specs.declared.picks.TacPick.{TacPick}
use Rattle.rgo_journal.specs.declared.replays.ReplayEnd.{ReplayEnd}
use Rattle.rgo_journal.specs.declared.replays.ReplayEnd.TheVariants.{Ended, Deadlock, Unfinished, Foreign, WriteFault, NoMemory}
use Rattle.rgo_journal.specs.Picks.{taken}

-- all of these picks are taken, each with a step in its turn, and lead from the start of the code to this state
abbrev pub TakesPicks : Tac → List TacPick → TacState → Type 0
TakesPicks code picks s = Leads (taken code) (tac_start code) picks s

-- the first n are taken
abbrev pub TakesFirstPicks : Tac → List TacPick → (n : ℕ) → TacState → Type 0
TakesFirstPicks code picks n s = TakesPicks code (take n picks) s

-- why a replay of these picks ended so, after the picks that led to this state
abbrev pub ReplayEndsAs : Tac → List TacPick → TacState → ReplayEnd → Type 0
ReplayEndsAs code picks s (Ended e) = TakesPicks code picks s × (s.ended ≡ Some e)
ReplayEndsAs code picks s Deadlock = TakesPicks code picks s × IsDeadlock (tac code) s
ReplayEndsAs code picks s Unfinished = TakesPicks code picks s × (s.ended ≡ None) × (IsDeadlock (tac code) s → ⊥)
-- the pick of this number, from 0, has no step after those before it, or one of those ended the run
ReplayEndsAs code picks s (Foreign index) =
    (index < length picks) × TakesFirstPicks code picks index s × IfSome (slice_get picks index) (λ p. taken code s p ≡ None)
ReplayEndsAs code picks s WriteFault = (n : ℕ) × TakesFirstPicks code picks n s
ReplayEndsAs code picks s NoMemory = (n : ℕ) × TakesFirstPicks code picks n s

-- the sink took what was printed; the first bytes of it, some or all, if a write failed
abbrev pub ReplayPrints : ReplayEnd → List ℕ → (old new : Option (List ℕ)) → Type 0
ReplayPrints WriteFault print old new = (n : ℕ) × Appends old new (take n print)
ReplayPrints _ print old new = Appends old new print

-- the picks were replayed so, and what they printed was written, after the last of them
pub record Replays (code : Tac) (picks : List TacPick) (end : ReplayEnd) (old new : Option (List ℕ)) : Type 0 where
  pub state : TacState
  pub ends : ReplayEndsAs code picks state end
  pub gives : ReplayPrints end state.printed old new

-- one pick was taken, or has no step; if it has none, and on allocation failure, nothing changed
abbrev pub Takes1 : Result Bool AllocError → (before after : TacState) → Option TacState → Type 0
Takes1 (Ok true) before after next = next ≡ Some after
Takes1 (Ok false) before after next = (next ≡ None) × (after ≡ before)
Takes1 (Err e) before after next = after ≡ before

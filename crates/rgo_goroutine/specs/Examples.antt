-- Goroutines and turns that meet their definitions, and some that do not.
use Rattle.std.specs.Prelude.{◌≡◌, ◌<◌, ◌≤◌, ℕ, true, false, List, [], ◌∷◌, length}
use Rattle.rgo_core.specs.Core.{Setup}
use Rattle.rgo_core.specs.Records.{Record, begins_with}
use Rattle.rgo_core_steps.specs.Seats.{mine}
use Rattle.rgo_core.specs.Frames.Records.{FramesRec as FrameRec}
use Rattle.rgo_core.specs.Channels.Records.{Free}
use Rattle.rgo_core.specs.Frames.shown.WordFrames.{WordFrame}
use Rattle.rgo_core.specs.Rule.Histories.{access}
use Rattle.rgo_core.specs.Rule.Views.{number_of}
use Rattle.rgo_core.specs.Rule.declared.accesses.Access.{Access}
use Rattle.rgo_core.specs.Rule.declared.accesses.Kind.TheVariants.{ClaimPage, EndRun}
use Rattle.rgo_sound.specs.Machine.declared.limits.Shortage.TheVariants as shortage
use Rattle.rgo_sound.specs.RegionMachine.States.{Duty}
use Rattle.rgo_acts.specs.Actors.{now}
use Rattle.rgo_acts.specs.Runs.{Run}
use Rattle.rgo_acts.specs.declared.prints.Print.{Print}
use Rattle.rgo_goroutine.specs.Acting.{MayMakeInstructions}
use Rattle.rgo_goroutine.specs.Goroutines.{IsChild, IsOf, IsTidy, all_seen, printed_byte_count, numbers, rows_of_children, valid}
use Rattle.rgo_goroutine.specs.Instructions.{IsNear}
use Rattle.rgo_goroutine.specs.Passing.{Adopts, AreBorn, Gathers}
use Rattle.rgo_goroutine.specs.Turns.{FoundEnd, HasTurned, HasFinished, LacksFor, TurnStops, GoroutineTurns}
use Rattle.rgo_goroutine.specs.declared.goroutine.Child.{Child}
use Rattle.rgo_goroutine.specs.declared.goroutine.Goroutine.{Goroutine}
use Rattle.rgo_goroutine.specs.declared.turning.TableTurnEnd.TheVariants as stop
use Rattle.rgo_goroutine.specs.declared.turning.Turned.{Turned}

-- goroutine 1 has set the end mark, when this was the clock
abbrev pub end_at : ℕ → List Access
end_at clock = access 1 EndRun 0 clock clock ∷ []

pub record TurnExamples : Type 0 where
  -- a turn makes an access of its own
  pub no_access : (r : Run) (go : Goroutine) (n : ℕ) (es : List Access) → GoroutineTurns r go go n es → ⊥
  -- and no more instructions than it was given
  pub too_many : (r : Run) (old new : Goroutine) (slice : ℕ) (turned : Turned) → slice < turned.steps → HasTurned r old new slice turned → ⊥
  -- it has made all its instructions, or its list of changes is full
  pub used_up : (r : Run) (go : Goroutine) → TurnStops r go go 10 10 0 [] stop.Went
  pub told_all : (r : Run) (go : Goroutine) → TurnStops r go go 10 3 6 [] stop.Went
  -- or it has printed much
  pub printed_much : (r : Run) (go : Goroutine) → 65536 ≤ printed_byte_count go.prints.items → TurnStops r go go 10 3 0 [] stop.Went
  -- it has made fewer, has printed little, and nothing ended
  pub too_early : (r : Run) (old new : Goroutine) → printed_byte_count new.prints.items < 65536 → TurnStops r old new 10 3 0 [] stop.Went → ⊥
  -- the run had ended: bit 63 of the clock was set
  pub found_end : FoundEnd 1 (end_at 9223372036854775813)
  pub found_none : FoundEnd 1 (end_at 5) → ⊥
  pub of_another : FoundEnd 0 (end_at 9223372036854775813) → ⊥
  -- it has a frame, or owes a duty
  pub in_call : (c : Record) (w : WordFrame) (ws : List WordFrame) → c.frame.frames ≡ w ∷ ws → HasFinished c → ⊥
  pub owing : (c : Record) (d : Duty) (ds : List Duty) → c.frame.holder.duties ≡ d ∷ ds → HasFinished c → ⊥
  pub locked : (c : Record) → (c.side.hold ≡ Free → ⊥) → IsTidy c → ⊥
  -- it is near as it is, or has changed a word since
  pub near : (r : Run) (go : Goroutine) (left : ℕ) → MayMakeInstructions r go left → go.actor.behind < 4611686018427387904 → IsNear r go go left
  pub changed : (r : Run) (old new : Goroutine) (left : ℕ) (near : IsNear r old new left) → number_of old.actor.seat.me ≡ 1
      → near.es ≡ access 1 EndRun 0 5 6 ∷ [] → ⊥
  -- it has claimed a page, even if it then lacks the next one
  pub claimed : (r : Run) (old new : Goroutine) (slice : ℕ) (turned : Turned) (h : HasTurned r old new slice turned)
      → number_of old.actor.seat.me ≡ 1 → h.es ≡ access 1 ClaimPage 40 0 1 ∷ [] → turned.moved ≡ false → ⊥
  -- the size of an object is not a shortage
  pub too_large : (T : Setup) (g : ℕ) (c : Record) (es : List Access) → LacksFor shortage.ObjectSize T g c es → ⊥

pub record ChildExamples : Type 0 where
  -- the newest is the first in a record
  pub newest_first : (a b : Child) → numbers (a ∷ b ∷ []) ≡ b.number ∷ a.number ∷ []
  -- the oldest is the first in a driver's seat
  pub oldest_first : (T : Setup) (a b : Child)
      → rows_of_children T (a ∷ b ∷ []) ≡ (a.number, mine T a.actor.seat.me) ∷ (b.number, mine T b.actor.seat.me) ∷ []
  pub not_newest_first : (T : Setup) (a b : Child) → (a.number ≡ b.number → ⊥) → rows_of_children T (a ∷ b ∷ []) ≡ rows_of_children T (b ∷ a ∷ []) → ⊥
  pub each_has_seen : (a b : Child) → all_seen (a ∷ b ∷ []) ≡ a.actor.seat.me.0.seen ∷ b.actor.seat.me.0.seen ∷ []
  pub none_left_out : (a b : Child) → all_seen (a ∷ b ∷ []) ≡ a.actor.seat.me.0.seen ∷ [] → ⊥
  -- one that begins is at nothing; one that has locked a channel does not begin
  pub begins_tidy : (frame : FrameRec) → IsTidy (begins_with frame)
  pub begins_locked : (r : Run) (child : Child) → ((now r.setup child.actor).side.hold ≡ Free → ⊥) → IsChild r child → ⊥
  -- a print counts with all its bytes, void or not
  pub all_bytes : (p q : Print) → length p.bytes.items ≡ 3 → length q.bytes.items ≡ 4 → printed_byte_count (p ∷ q ∷ []) ≡ 7
  pub not_one_each : (p q : Print) → length p.bytes.items ≡ 3 → printed_byte_count (p ∷ q ∷ []) ≡ 2 → ⊥
  -- a void print is left out
  pub one_void : (p q : Print) → p.is_void ≡ true → q.is_void ≡ false → valid (p ∷ q ∷ []) ≡ q ∷ []
  -- one child was left behind
  pub left_behind : (r : Run) (old new : Goroutine) (list longer_list : List Goroutine) (n : ℕ) (child : Child) (later : List Child)
      → new.children.items ≡ child ∷ later → Adopts r old new list longer_list n → ⊥
  -- one goroutine more than there were children
  pub one_more : (r : Run) (go : Goroutine) → AreBorn r [] (go ∷ []) → ⊥
  -- the prints come after those that were there
  pub swapped : (old new : Goroutine) (p q : Print) → (p ≡ q → ⊥) → p.is_void ≡ false → old.prints.items ≡ p ∷ []
      → Gathers old new (q ∷ []) (p ∷ q ∷ []) 1 → ⊥
  -- its record has local steps to take
  pub behind : (r : Run) (go : Goroutine) → (go.actor.behind ≡ 0 → ⊥) → IsOf r go → ⊥

-- Why a goroutine ends the run, by its record, and the record after it has set the end mark. The record must show the cause, since the mark
-- is set at a moment that the goroutine does not choose.
use Rattle.std.specs.Prelude.{◌≡◌, ◌⊎◌, ◌≤◌, ◌^◌, ℕ, true, List, [], ◌∷◌, Option, Some, None, length, unwrap_or}
use Rattle.rgo_sound.specs.Ast.declared.ops.BinaryOp.{BinaryOp}
use Rattle.rgo_sound.specs.Ast.declared.ops.BinaryOp.TheVariants.{Div, Rem}
use Rattle.rgo_sound.specs.Code.Code.{Call, Code, CodeFn, Do, Go}
use Rattle.rgo_core.specs.Channels.Records.{Shut, Stranded, at_rest}
use Rattle.rgo_core.specs.Frames.steps.Local.{local}
use Rattle.rgo_core.specs.Frames.steps.Quiet.{is_exit}
use Rattle.rgo_core.specs.Frames.Records.{FramesRec as FrameRec}
use Rattle.rgo_core.specs.Frames.shown.WordFrames.{frame_word}
use Rattle.rgo_sound.specs.Machine.Limits.{deepest}
use Rattle.rgo_sound.specs.Machine.declared.picks.End.{End}
use Rattle.rgo_sound.specs.Machine.declared.picks.End.TheVariants as the_end
use Rattle.rgo_sound.specs.Memory.declared.traps.Trap.{Trap}
use Rattle.rgo_sound.specs.Memory.declared.traps.Trap.TheVariants.{BadSize, CloseClosed, CloseNil, DivideZero, IndexRange, NilPointer, SendClosed}
use Rattle.rgo_sound.specs.RegionMachine.Owed.{code_function}
use Rattle.rgo_sound.specs.RegionMachine.States.{Ended, Mark, Stopped}
use Rattle.rgo_sound.specs.RegionMachine.declared.limits.Limit.{Limit}
use Rattle.rgo_sound.specs.RegionMachine.declared.limits.Limit.TheVariants as limit
use Rattle.rgo_sound.specs.Tac.declared.regions.Class.{Class}
use Rattle.rgo_sound.specs.Typed.declared.actions.Action.{Action}
use Rattle.rgo_sound.specs.Typed.declared.actions.Action.TheVariants as action
use Rattle.rgo_core.specs.ties.AtChannels.{Operates}
use Rattle.rgo_core.specs.runs.Causes.{ReachesLimit as StopsBy}
use Rattle.rgo_core.specs.moves.Commits.{IsAtSend}
use Rattle.rgo_core.specs.Core.{Situation, Setup}
use Rattle.rgo_core.specs.moves.ElementTraps.{HasNoElement}
use Rattle.rgo_core.specs.Next.{IsAtOp}
use Rattle.rgo_core.specs.Records.{Record, instructed, with_end}
use Rattle.rgo_core_steps.specs.After.{next_place}
use Rattle.rgo_core_steps.specs.declared.clock.Mark.{Mark as Given}
use Rattle.rgo_core_steps.specs.declared.clock.Mark.TheVariants as given

-- the mark that a call is given
abbrev pub mark_of : Given → Mark
mark_of (given.Ended end) = Ended end
mark_of (given.Stopped limit) = Stopped limit

-- ---- the record after the mark was set, for which the clock was n

-- `main` has returned; at a trap the goroutine stays where it is
abbrev pub ended_frame : Code → FrameRec → End → FrameRec
ended_frame code r the_end.Exit = unwrap_or (local code r) r
ended_frame code r (the_end.Trap trap place) = r

-- An end by the instruction counts the instruction; an end by a limit does not, since the instruction was not made. The record changes in
-- the same way if another goroutine had ended the run before: the machine goes on after an end.
abbrev pub ending : Code → Record → (clock : ℕ) → Mark → Record
ending code c n (Ended end) = record c {
  clock = with_end (instructed c.clock) n (Ended end);
  frame = ended_frame code c.frame end;
}
ending code c n (Stopped limit) = record c { clock = with_end c.clock n (Stopped limit) }

-- ---- traps

-- the next instruction traps
pub data InstrTraps (T : Setup) (c : Record) (trap : Trap) : Type 0 where
  -- a send on a channel that was found closed
  Sends : (to : Option ℕ) (sent at : ℕ) → Operates T c to action.Send (sent ∷ []) at → c.side.saw ≡ Shut at
      → trap ≡ SendClosed → InstrTraps T c trap
  -- the same with the offer of the goroutine there
  Offers : (at : ℕ) → IsAtSend T c → c.side.saw ≡ Stranded at → trap ≡ SendClosed → InstrTraps T c trap
  -- a close of a channel that was found closed
  Closes : (to : Option ℕ) (at : ℕ) → Operates T c to action.Close [] at → c.side.saw ≡ Shut at
      → trap ≡ CloseClosed → InstrTraps T c trap
  ClosesNil : (to : Option ℕ) (channel : ℕ) (removes : List ℕ) (a : IsAtOp T.code c (Do to action.Close (channel ∷ []) removes))
      → frame_word a.w channel ≡ 0 → trap ≡ CloseNil → InstrTraps T c trap
  -- a load or a store of an element that the slice does not have
  Loads : (d p q : ℕ) (removes : List ℕ) (a : IsAtOp T.code c (Do (Some d) action.At (p ∷ q ∷ []) removes)) → c.side ≡ at_rest
      → HasNoElement c a.w p q → trap ≡ IndexRange → InstrTraps T c trap
  Stores : (p q r : ℕ) (removes : List ℕ) (a : IsAtOp T.code c (Do None action.Put (p ∷ q ∷ r ∷ []) removes)) → c.side ≡ at_rest
      → HasNoElement c a.w p q → trap ≡ IndexRange → InstrTraps T c trap
  -- a load or a store of a field of nil
  LoadsNil : (d k p : ℕ) (removes : List ℕ) (a : IsAtOp T.code c (Do (Some d) (action.Load k) (p ∷ []) removes)) → c.side ≡ at_rest
      → frame_word a.w p ≡ 0 → trap ≡ NilPointer → InstrTraps T c trap
  StoresNil : (k p q : ℕ) (removes : List ℕ) (a : IsAtOp T.code c (Do None (action.Store k) (p ∷ q ∷ []) removes)) → c.side ≡ at_rest
      → frame_word a.w p ≡ 0 → trap ≡ NilPointer → InstrTraps T c trap
  -- a quotient or a remainder by zero
  Divides : (op : BinaryOp) (d p q : ℕ) (removes : List ℕ) (a : IsAtOp T.code c (Do (Some d) (action.Binary op) (p ∷ q ∷ []) removes))
      → (op ≡ Div) ⊎ (op ≡ Rem) → c.side ≡ at_rest → frame_word a.w q ≡ 0 → trap ≡ DivideZero → InstrTraps T c trap
  -- a new slice or channel of a negative size
  HasBadSize : (act : Action) (d p : ℕ) (removes : List ℕ) (a : IsAtOp T.code c (Do (Some d) act (p ∷ []) removes))
      → (act ≡ action.Slice) ⊎ (act ≡ action.Chan) → c.side ≡ at_rest → 2 ^ 63 ≤ frame_word a.w p → trap ≡ BadSize → InstrTraps T c trap

-- ---- ends

pub data GoroutineEndsRun (T : Setup) (g : ℕ) (c : Record) (mark : Mark) : Type 0 where
  -- `main` returns
  Exits : (e : FrameRec) → c.side ≡ at_rest → c.frame.holder.duties ≡ [] → local T.code c.frame ≡ Some e
      → is_exit g e.frames ≡ true → mark ≡ Ended the_end.Exit → GoroutineEndsRun T g c mark
  Trapped : (trap : Trap) → InstrTraps T c trap → mark ≡ Ended (the_end.Trap trap (next_place T.code c)) → GoroutineEndsRun T g c mark
  -- a call of a goroutine that has as many frames as it may
  IsTooDeep : (to : Option ℕ) (f : ℕ) (callee : CodeFn) (from : List ℕ) (passes : List Class) (protects removes : List ℕ)
      → IsAtOp T.code c (Call to f from passes protects removes) → code_function T.code f ≡ Some callee
      → length c.frame.frames ≡ deepest → mark ≡ Stopped limit.Calls → GoroutineEndsRun T g c mark
  -- a start of a goroutine for which a number was refused
  IsFull : (f : ℕ) (callee : CodeFn) (from : List ℕ) (passes : List Class) (removes : List ℕ)
      → IsAtOp T.code c (Go f from passes removes) → code_function T.code f ≡ Some callee
      → c.clock.refused ≡ true → mark ≡ Stopped limit.Goroutines → GoroutineEndsRun T g c mark
  -- memory has run out
  WantsMemory : mark ≡ Stopped limit.Memory → GoroutineEndsRun T g c mark
  -- Any limit that the run meets whatever the rest of the table is. An object of too many data pages comes this way.
  Meets : (why : Limit) → ((x : Situation T g c) → StopsBy T.code T.sizes T.limits why x.s) → mark ≡ Stopped why → GoroutineEndsRun T g c mark

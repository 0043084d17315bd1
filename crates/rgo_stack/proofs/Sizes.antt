-- The frames of a stack are at instructions of its functions, and have a word for each of their variables. By induction over the callers,
-- each of which ends where the frame above it begins.
use Rattle.std.proofs.Common.{◌≡◌, ℕ, List, Option, Some, None, zero, suc, arith, length, take, drop, get_or}
use Rattle.std.proofs.lemmas.List.{length-drop, length-take-le}
use Rattle.std.specs.List.{AllByRecursion}
use Rattle.rgo_core.specs.Frames.shown.Stacks.{stack_frames}
use Rattle.rgo_compact.specs.declared.positions.Caller.{Caller}
use Rattle.rgo_compact.specs.declared.positions.Position.{Position}
use Rattle.rgo_compact.specs.Functions.{CompactFn}
use Rattle.rgo_compact.specs.Runs.{frame_at}
use Rattle.rgo_compact.specs.Stack.{HasCallers, HasFrame, callers_in, no_caller}
use Rattle.rgo_stack.specs.Stacks.{BelongsAt, FramesLaw, IsFrameOf, frames_at}

-- a frame whose words are the last ones of a list
last : (fs : List CompactFn) (words : List ℕ) (function next base top : ℕ) → HasFrame fs function next base top
    → length words ≡ top → IsFrameOf fs (frame_at function next (drop base words))
last fs words function next base top has many =
    let size = has.size in
    let len = length-drop base words in
    record { f = has.f; known = has.known; at = has.at; size = omega (arith, size, len, many) }

-- the words below it
below : (fs : List CompactFn) (words : List ℕ) (function next base top : ℕ) → HasFrame fs function next base top
    → length words ≡ top → length (take base words) ≡ base
below fs words function next base top has many =
    let size = has.size in
    length-take-le base words (omega (arith, size, many))

callers_sized : (fs : List CompactFn) (words : List ℕ) (callers : List Caller) (d top : ℕ) → HasCallers fs callers d top
    → length words ≡ top → AllByRecursion (IsFrameOf fs) (stack_frames words (callers_in callers d))
callers_sized fs words callers zero top has many = tt
callers_sized fs words callers (suc d) top has many =
    let c = get_or callers d no_caller in (
      last fs words c.function c.next c.base top has.0.frame many,
      callers_sized fs (take c.base words) callers d c.base has.1 (below fs words c.function c.next c.base top has.0.frame many),
    )

frames_sized : (fs : List CompactFn) (words : List ℕ) (callers : List Caller) (at : Option Position)
    → BelongsAt fs words callers at → AllByRecursion (IsFrameOf fs) (frames_at words callers at)
frames_sized fs words callers None b = tt
frames_sized fs words callers (Some p) b =
    let many = length-take-le p.top words b.1 in (
      last fs (take p.top words) p.function p.next p.base p.top b.0.newest many,
      callers_sized fs (take p.base (take p.top words)) callers p.depth p.base b.0.below
          (below fs (take p.top words) p.function p.next p.base p.top b.0.newest many),
    )

pub frames : FramesLaw
frames fs s b = frames_sized fs s.words s.callers s.at b.frames

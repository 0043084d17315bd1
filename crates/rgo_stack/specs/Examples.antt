-- Where the definitions hold and where they do not.
use Rattle.std.specs.Prelude.{List, None, Some, [], ℕ, ◌∷◌, ◌≡◌}
use Rattle.rgo_sound.specs.Code.Code.{Call, Code, CodeFn, Return}
use Rattle.rgo_sound.specs.RegionMachine.Examples.{small_code, int_slot, main_of, plain_instr}
use Rattle.rgo_core.specs.Frames.shown.WordFrames.{WordFrame}
use Rattle.rgo_compact.specs.declared.operations.Operation.TheVariants as op
use Rattle.rgo_compact.specs.Functions.{CompactFn}
use Rattle.rgo_compact.specs.Runs.{frame_at}
use Rattle.rgo_stack.specs.Places.{CanAdvance, CanReturn, IsFrameAtCall, IsCalledFor, IsPlace, FunctionTakes}
use Rattle.rgo_stack.specs.Stacks.{Belongs, Stack, caller_place, frames_of_stack, newest_place, newest_word, words_from}
use Rattle.rgo_stack.specs.Steps.{frames_after_call, after_jump, frames_after_return, after_word}

-- func main() { v0 = main(); return }, of two variables
abbrev pub calling_fn : CodeFn
calling_fn = main_of (int_slot ∷ int_slot ∷ []) (plain_instr (Call (Some 0) 0 [] [] [] []) ∷ plain_instr (Return None) ∷ [])

abbrev pub calling_code : Code
calling_code = small_code [] (calling_fn ∷ [])

abbrev pub compact_calling : List CompactFn
compact_calling = record { operations = op.Call 0 0 ∷ op.Leave ∷ []; size = 2; arguments = [] ∷ [] ∷ [] } ∷ []

-- `main` has called itself; the last word has no meaning
abbrev pub nested_stack : (caller_next next : ℕ) → Stack
nested_stack caller_next next = record {
  words = 1 ∷ 2 ∷ 3 ∷ 4 ∷ 9 ∷ [];
  callers = record { function = 0; next = caller_next; base = 0 } ∷ [];
  at = Some (record { function = 0; next = next; base = 2; top = 4; depth = 1 });
}

abbrev pub outer_frame : (next : ℕ) → WordFrame
outer_frame next = frame_at 0 next (1 ∷ 2 ∷ [])

abbrev pub inner_frame : (next : ℕ) → WordFrame
inner_frame next = frame_at 0 next (3 ∷ 4 ∷ [])

abbrev pub both_frames : List WordFrame
both_frames = inner_frame 1 ∷ outer_frame 0 ∷ []

pub record StackExamples : Type 0 where
  -- what a stack shows
  pub shows : frames_of_stack (nested_stack 0 1) ≡ both_frames
  pub returned : frames_of_stack (record { words = 1 ∷ []; callers = []; at = None }) ≡ []
  pub newest : newest_place both_frames ≡ Some (record { function = 0; next = 1 })
  pub caller : caller_place both_frames ≡ Some (record { function = 0; next = 0 })
  pub no_caller : caller_place (outer_frame 0 ∷ []) ≡ None
  pub word : newest_word both_frames 1 ≡ 4
  -- stacks of some code, and others
  pub belongs : Belongs compact_calling (nested_stack 0 1)
  pub past_the_end : Belongs compact_calling (nested_stack 0 2) → ⊥
  pub at_a_return : Belongs compact_calling (nested_stack 1 1) → ⊥
  -- what is asked of the code
  pub place : IsPlace compact_calling 0 1
  pub no_place : IsPlace compact_calling 0 2 → ⊥
  pub takes : FunctionTakes compact_calling 0 2
  pub takes_fewer : FunctionTakes compact_calling 0 3 → ⊥
  pub at_call : IsFrameAtCall compact_calling (outer_frame 0)
  pub not_at_call : IsFrameAtCall compact_calling (outer_frame 1) → ⊥
  pub advances : CanAdvance compact_calling (Some 1) (outer_frame 0 ∷ [])
  pub no_variable : CanAdvance compact_calling (Some 2) (outer_frame 0 ∷ []) → ⊥
  pub last : CanAdvance compact_calling (Some 1) (outer_frame 1 ∷ []) → ⊥
  pub returns : CanReturn compact_calling (Some 1) (Some 0) both_frames
  pub returns_no_variable : CanReturn compact_calling (Some 2) (Some 0) both_frames → ⊥
  pub called_for : IsCalledFor calling_code (Some 0) both_frames
  pub called_for_another : IsCalledFor calling_code (Some 1) both_frames → ⊥
  -- the frames after an operation
  pub after_words : after_word (Some 0) 7 both_frames ≡ frame_at 0 2 (7 ∷ 4 ∷ []) ∷ outer_frame 0 ∷ []
  pub after_none : after_word None 7 both_frames ≡ inner_frame 2 ∷ outer_frame 0 ∷ []
  pub after_jumps : after_jump 0 both_frames ≡ inner_frame 0 ∷ outer_frame 0 ∷ []
  pub after_calls : frames_after_call calling_fn 0 (1 ∷ []) both_frames ≡ frame_at 0 0 (4 ∷ 0 ∷ []) ∷ both_frames
  pub after_returns : frames_after_return calling_code (Some 1) both_frames ≡ frame_at 0 1 (4 ∷ 2 ∷ []) ∷ []
  pub after_last : frames_after_return calling_code None (outer_frame 1 ∷ []) ≡ []
  pub gathers : words_from both_frames (1 ∷ 0 ∷ 1 ∷ []) ≡ 4 ∷ 3 ∷ 4 ∷ []

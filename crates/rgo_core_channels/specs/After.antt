-- Channels after an operation, and states of the region machine after an event at a channel. They are written out, so that the images
-- of memory and of frames can be proved about the same state.
use Rattle.std.specs.Prelude.{ℕ, ◌+◌, List, ◌∷◌, [], ◌++◌, Some, None, true, false, slice_set}
use Rattle.rgo_sound.specs.Typed.declared.actions.Action.{Action}
use Rattle.rgo_sound.specs.Typed.declared.actions.Action.TheVariants.{Recv, Send}
use Rattle.rgo_sound.specs.Memory.Memory.{Memory}
use Rattle.rgo_sound.specs.Memory.declared.traps.Trap.{Trap}
use Rattle.rgo_sound.specs.Memory.declared.values.Value.{Value}
use Rattle.rgo_sound.specs.Memory.declared.values.Value.TheVariants as value
use Rattle.rgo_sound.specs.Machine.declared.picks.End.TheVariants as the_end
use Rattle.rgo_sound.specs.Code.Code.{Code}
use Rattle.rgo_sound.specs.RegionMachine.Instructions.{mark_with_end}
use Rattle.rgo_sound.specs.RegionMachine.States.{Taken, RegionState}
use Rattle.rgo_core_channels.specs.Channels.{Chan}
use Rattle.rgo_core_channels.specs.Standing.{Next, passed_frames, passed_holder}

-- One value more. Only an open channel takes one, so `closed` is false without a test.
abbrev pub pushed : Value → Chan → Chan
pushed v k = record { capacity = k.capacity; queue = k.queue ++ v ∷ []; closed = false }

abbrev pub popped : Chan → List Value → Chan
popped k queue = record k { queue = queue }

abbrev pub closed_now : Chan → Chan
closed_now k = record k { closed = true }

-- the state after the instruction of one goroutine, with this memory and this value
abbrev pub after : {code : Code} {s : RegionState} {g : ℕ} {action : Action} {operands : List Value}
    → Next code s g action operands → Memory → Value → RegionState
after {s = s} {g = g} n m v = record s {
  plain = record s.plain { memory = m; goroutines = slice_set s.plain.goroutines g (passed_frames n v); ended = None };
  holders = slice_set s.holders g (passed_holder n v);
  steps = s.steps + 1;
}

abbrev pub after_trap : RegionState → Trap → (place : ℕ) → RegionState
after_trap s trap at = record s {
  plain = record s.plain { ended = None };
  steps = s.steps + 1;
  mark = mark_with_end s.mark (Some (the_end.Trap trap at));
}

-- A receiver has taken the offer of a sender. One instruction is counted, for both.
abbrev pub after_meeting : {code : Code} {s : RegionState} {r t : ℕ} {taken sent : List Value} → (o : ℕ)
    → Next code s r Recv taken → Next code s t Send sent → Value → RegionState
after_meeting {s = s} {r = r} {t = t} o n k v = record s {
  plain = record s.plain {
    goroutines = slice_set (slice_set s.plain.goroutines r (passed_frames n v)) t (passed_frames k value.Nil);
    ended = None;
  };
  holders =
      slice_set (slice_set s.holders r (passed_holder n v)) t
      (record (passed_holder k value.Nil) { offer = Taken o });
  steps = s.steps + 1;
}

-- Why a run may end in a state of the region machine. The cause is required in the state at the mark, which no goroutine knows. So it must
-- follow from the record of the one that sets the mark, in every state.
use Rattle.rgo_sound.specs.Code.Code.{Code}
use Rattle.rgo_sound.specs.Code.Erasure.{erased}
use Rattle.rgo_sound.specs.Machine.Limits.{IsFull, IsCallTooDeep}
use Rattle.rgo_sound.specs.Machine.declared.limits.Limits.{Limits}
use Rattle.rgo_sound.specs.Machine.declared.limits.Sizes.{Sizes}
use Rattle.rgo_sound.specs.Machine.declared.limits.Shortage.TheVariants as shortage
use Rattle.rgo_sound.specs.RegionMachine.Room.{LacksIn}
use Rattle.rgo_sound.specs.RegionMachine.States.{Ended, Mark, RegionState, Stopped}
use Rattle.rgo_sound.specs.RegionMachine.declared.limits.Limit.{Limit}
use Rattle.rgo_sound.specs.RegionMachine.declared.limits.Limit.TheVariants as limit
use Rattle.rgo_sound.specs.Tac.Tac.{tac}

module _ (code : Code) (sizes : Sizes) (limits : Limits) where
  -- A goroutine lacks a page or a region, or makes an object of too many data pages; calls a function though it has as many
  -- frames as it may; or starts a goroutine though there are as many. Memory may run out in any state.
  abbrev pub ReachesLimit : Limit → RegionState → Type 0
  ReachesLimit limit.Pages s = LacksIn code sizes shortage.Pages s
  ReachesLimit limit.Regions s = LacksIn code sizes shortage.Regions s
  ReachesLimit limit.ObjectSize s = LacksIn code sizes shortage.ObjectSize s
  ReachesLimit limit.Calls s = IsCallTooDeep (tac (erased code)) s.plain
  ReachesLimit limit.Goroutines s = IsFull (tac (erased code)) limits s.plain
  ReachesLimit limit.Memory s = Unit {0}

  -- If an instruction ends the run, it is itself the cause.
  abbrev pub IsCause : Mark → RegionState → Type 0
  IsCause (Ended end) s = Unit {0}
  IsCause (Stopped why) s = ReachesLimit why s

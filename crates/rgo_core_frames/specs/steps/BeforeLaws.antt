-- When a goroutine is before an instruction, by its record.
use Rattle.rgo_sound.specs.Code.Code.{CodeInstr}
use Rattle.rgo_sound.specs.RegionMachine.Duties.{may_go}
use Rattle.rgo_sound.specs.RegionMachine.Owed.{current}
use Rattle.rgo_sound.specs.RegionMachine.States.{Holder, NoOffer}
use Rattle.std.specs.Prelude.{List, Some, [], slice_get, true, ◌∷◌, ◌≡◌, ◌⊎◌}
use Rattle.rgo_core_frames.specs.steps.Before.{IsBefore}
use Rattle.rgo_core_frames.specs.States.{Here}
use Rattle.rgo_core_frames.specs.shown.WordFrames.{WordFrame, bare}

-- Its record has no offer; or it has one that was not taken, which only the words of the channel show. If it was taken, the goroutine
-- is past its send, and its record does not represent its frames.
abbrev pub MayGo : Here → Type 0
MayGo x =
    (x.c.holder.offer ≡ NoOffer) ⊎ ((h : Holder) → slice_get x.s.holders x.g ≡ Some h → may_go h.offer ≡ true)

abbrev pub BeforeLaw : Type 0
BeforeLaw =
    (x : Here) (w : WordFrame) (ws : List WordFrame) (instr : CodeInstr) → x.c.frames ≡ w ∷ ws
    → current x.code (bare w) ≡ Some instr → x.c.holder.duties ≡ [] → MayGo x
    → IsBefore x.code x.slot_of x.addresses x.s x.g x.c w ws instr

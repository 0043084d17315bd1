-- How records represent the goroutines of the region machine. It is an equation for all but frames, so that an instruction does to a
-- record what the machine does to a holder; and frames need to agree only in what is live.
use Rattle.rgo_sound.specs.Code.Code.{Code, CodeInstr, Do}
use Rattle.rgo_sound.specs.Memory.declared.values.Value.TheVariants.{Nil}
use Rattle.rgo_sound.specs.RegionMachine.Duties.{may_go}
use Rattle.rgo_sound.specs.RegionMachine.Instructions.{holder_after}
use Rattle.rgo_sound.specs.RegionMachine.Owed.{current}
use Rattle.rgo_sound.specs.RegionMachine.Regions.{RegionInfo, is_live}
use Rattle.rgo_sound.specs.RegionMachine.States.{Holder, RegionState, Standing, Taken}
use Rattle.rgo_sound.specs.RegionMachine.declared.regions.Region.TheVariants.{Numbered}
use Rattle.rgo_sound.specs.RegionMachine.declared.regions.Region.{Region}
use Rattle.rgo_sound.specs.Tac.Frames.{TacFrame, frame_after_instr}
use Rattle.rgo_sound.specs.Typed.declared.actions.Action.TheVariants.{Send}
use Rattle.std.specs.Prelude.{List, Option, Some, [], length, slice_get, true, ℕ, ◌∷◌, ◌≡◌, ◌⊎◌}
use Rattle.rgo_core_frames.specs.Records.{FramesRec}
use Rattle.rgo_core_frames.specs.shown.Variables.{FramesShow}
use Rattle.rgo_core_frames.specs.regions.Slots.{slotted}

-- a goroutine with these frames, which has nothing to acknowledge, and its record
pub record IsShown
    (code : Code) (slot_of : ℕ → ℕ) (addresses : List ℕ) (frames : List TacFrame) (h : Holder) (c : FramesRec) : Type 0 where
  pub calm : may_go h.offer ≡ true
  pub shown : FramesShow code addresses frames c.frames
  pub holder : c.holder ≡ slotted slot_of h

-- A goroutine whose offer was taken is past its send; its record is still before it. This is the one moment at which a record lags
-- behind the state: the receiver has made the step, and cannot change the sender's record. `before` is the holder as it was, so that
-- the acknowledgement can repeat the step on the record.
pub record IsPast
    (code : Code) (slot_of : ℕ → ℕ) (addresses : List ℕ) (frames : List TacFrame) (h : Holder) (c : FramesRec) : Type 0 where
  pub frame : TacFrame
  pub callers : List TacFrame
  pub before : Holder
  pub instr : CodeInstr
  pub at : current code frame ≡ Some instr
  pub to : Option ℕ
  pub channel : ℕ
  pub sent : ℕ
  pub removes : List ℕ
  pub is : instr.op ≡ Do to Send (channel ∷ sent ∷ []) removes
  pub offer : ℕ
  -- it was at its send with an open offer, so nothing else of it can have changed
  pub owes_nothing : before.duties ≡ []
  pub stood : before.offer ≡ Standing offer
  pub frames_are : frames ≡ frame_after_instr frame to Nil ∷ callers
  pub holder_is : h ≡ record (holder_after code before frame callers instr.op frames) { offer = Taken offer }
  pub shown : IsShown code slot_of addresses (frame ∷ callers) before c

-- the record c represents goroutine g
pub record RecordFits (code : Code) (slot_of : ℕ → ℕ) (addresses : List ℕ) (s : RegionState) (g : ℕ) (c : FramesRec) : Type 0 where
  pub frames : List TacFrame
  pub at : slice_get s.plain.goroutines g ≡ Some frames
  pub h : Holder
  pub there : slice_get s.holders g ≡ Some h
  pub fits : IsShown code slot_of addresses frames h c ⊎ IsPast code slot_of addresses frames h c

-- Two live regions have two slots. For all regions this is false: a slot serves again.
abbrev pub SlotsDiffer : (slot_of : ℕ → ℕ) → List RegionInfo → Type 0
SlotsDiffer slot_of regions =
    (r q : ℕ) → is_live regions (Numbered r) ≡ true → is_live regions (Numbered q) ≡ true → slot_of r ≡ slot_of q → r ≡ q

-- an object whose region is live
abbrev pub IsOfLive : List RegionInfo → (owners : List Region) → ℕ → Type 0
IsOfLive regions owners o = (r : Region) × (slice_get owners o ≡ Some r) × (is_live regions r ≡ true)

-- Two of them have two addresses. The address of an object whose region was removed may belong to another one, so the comparison of two
-- pointers needs that both lead into live regions.
abbrev pub ObjectsDiffer : (addresses : List ℕ) → List RegionInfo → (owners : List Region) → Type 0
ObjectsDiffer addresses regions owners =
    (o p a : ℕ) → IsOfLive regions owners o → IsOfLive regions owners p → slice_get addresses o ≡ Some a
    → slice_get addresses p ≡ Some a → o ≡ p

-- The records represent the goroutines of the state. `laid` ties a new object to the last address.
pub record RecordsFit (code : Code) (slot_of : ℕ → ℕ) (addresses : List ℕ) (s : RegionState) (records : List FramesRec) : Type 0 where
  -- the list of records has no gap: a goroutine without a record could not be shown to wait
  pub as_many : length records ≡ length s.holders
  pub each : (g : ℕ) (c : FramesRec) → slice_get records g ≡ Some c → RecordFits code slot_of addresses s g c
  pub laid : length addresses ≡ length s.plain.memory.heap
  -- without these two a record's slots and addresses would not determine regions and objects
  pub slots_differ : SlotsDiffer slot_of s.regions
  pub addresses_differ : ObjectsDiffer addresses s.regions s.owners

-- Each definition where it holds and where it must not, and local steps of a small code, computed.
use Rattle.std.specs.Option.{option_map}
use Rattle.std.specs.Prelude.{FitsSigned, List, None, Option, Some, [], false, negsuc, option_and_then, pos, replicate, slice_get, true, ℕ, ℤ, ◌+◌, ◌∷◌, ◌≡◌}
use Rattle.std.specs.Int.{w64}
use Rattle.rgo_sound.specs.Ast.declared.ops.BinaryOp.TheVariants.{Add, Div, Sub}
use Rattle.rgo_sound.specs.Typed.declared.actions.Action.TheVariants as action
use Rattle.rgo_sound.specs.Memory.Memory.{Channel, SliceObject, StructObject}
use Rattle.rgo_sound.specs.Memory.declared.values.Value.TheVariants as value
use Rattle.rgo_sound.specs.Machine.declared.picks.End.TheVariants.{Exit}
use Rattle.rgo_sound.specs.Tac.declared.regions.Class.TheVariants.{NoClass}
use Rattle.rgo_sound.specs.WellFormed.TypeRules.{bool}
use Rattle.rgo_sound.specs.Code.Code.{Code, Do}
use Rattle.rgo_sound.specs.RegionMachine.declared.regions.Region.{Region}
use Rattle.rgo_sound.specs.RegionMachine.declared.regions.Region.TheVariants.{Global as GlobalRegion, Numbered}
use Rattle.rgo_sound.specs.RegionMachine.Examples.{small_code, int_slot, main_of, passed_twice, plain_instr}
use Rattle.rgo_sound.specs.Machine.declared.picks.Pick.TheVariants.{One}
use Rattle.rgo_sound.specs.RegionMachine.Machine.{Attend, Instruct, TakePage, region_start}
use Rattle.rgo_sound.specs.RegionMachine.Owed.{code_function}
use Rattle.rgo_sound.specs.RegionMachine.Regions.{RegionInfo}
use Rattle.rgo_sound.specs.RegionMachine.States.{Create, Duty, Holder, RegionState, Remove, Share, Standing}
use Rattle.rgo_core_frames.specs.regions.Creations.{GivesSlot}
use Rattle.rgo_core_frames.specs.Fits.{RecordsFit, ObjectsDiffer, SlotsDiffer}
use Rattle.rgo_core_frames.specs.shown.Ints.{ValueFitsWord, ObjectIntsFit}
use Rattle.rgo_core_frames.specs.steps.Local.{local_duty}
use Rattle.rgo_core_frames.specs.shown.Constants.{ConstantsFit}
use Rattle.rgo_core_frames.specs.steps.LocalLaws.{end_by_frames}
use Rattle.rgo_core_frames.specs.shown.NameTables.{NameTable, TableShows}
use Rattle.rgo_core_frames.specs.goroutines.Opening.{main_record}
use Rattle.rgo_core_frames.specs.shown.Operators.{computed}
use Rattle.rgo_core_frames.specs.regions.Pages.{page_after}
use Rattle.rgo_core_frames.specs.steps.Prints.{typed_value}
use Rattle.rgo_core_frames.specs.steps.Quiet.{quiets}
use Rattle.rgo_core_frames.specs.Records.{FramesRec}
use Rattle.rgo_core_frames.specs.regions.Reserved.{IsReached}
use Rattle.rgo_core_frames.specs.shown.Variables.{FramesShow, IsAlike}
use Rattle.rgo_core_frames.specs.regions.Slots.{slotted}
use Rattle.rgo_core_frames.specs.shown.Stacks.{stack_frames}
use Rattle.rgo_core_frames.specs.regions.Stakes.{stake_ended, stake_shared}
use Rattle.rgo_core_frames.specs.States.{Here}
use Rattle.rgo_core_frames.specs.steps.Bookkept.{steps_after}
use Rattle.rgo_core_frames.specs.shown.WordFrames.{WordFrame, frame_word, word_going}
use Rattle.rgo_core_frames.specs.shown.Words.{AllShow, Shows}

-- the variables of the newest frame, its next instruction, and what is owed
abbrev pub Seen : Type 0
Seen = List ℕ × ℕ × List Duty

abbrev pub seen_in : List WordFrame → List Duty → Seen
seen_in [] ds = ([], 0, ds)
seen_in (w ∷ ws) ds = (w.variables, w.next, ds)

abbrev pub seen_of_record : FramesRec → Seen
seen_of_record c = seen_in c.frames c.holder.duties

abbrev pub main_record_at : Code → ℕ → Option FramesRec
main_record_at code n = option_map (main_record code n) (code_function code n)

abbrev pub Sees : Code → ℕ → ℕ → List ℕ → ℕ → List Duty → Type 0
Sees code n q variables next duties =
    option_map seen_of_record (option_and_then (quiets code 0 q) (main_record_at code n)) ≡ Some (variables, next, duties)

-- ---- small things

-- two regions, of which the second is live or not
abbrev pub two_regions : ℕ → List RegionInfo
two_regions n = record { stakes = 1; pages = 0 } ∷ record { stakes = n; pages = 0 } ∷ []

-- one object in each of them
abbrev pub two_owners : List Region
two_owners = Numbered 0 ∷ Numbered 1 ∷ []

-- a goroutine with a stake in region 0, to which name 3 is bound, and which it protects or does not; it has filled 5 words of its
-- own page there, and has reserved two pages
abbrev pub one_name : List Region → Holder
one_name protections = record {
  stakes = 0 ∷ [];
  pending = [];
  environments = record { lent = NoClass; names = (3, Numbered 0) ∷ []; protections = [] }
      ∷ record { lent = NoClass; names = []; protections = protections } ∷ [];
  base = [];
  fills = (Numbered 0, 5) ∷ [];
  reserved = 2;
  duties = [];
  offer = Standing 7;
}

-- goroutine 0 as above has taken a page of 4 words in Global, for a slice of this many elements
abbrev pub after_one : Code → (elements : ℕ) → RegionState
after_one code elements =
    page_after 4 (region_start code) 0 (one_name []) GlobalRegion (SliceObject (replicate elements value.Nil))

-- its own pages, and how many it has reserved
abbrev pub pages_in : RegionState → Option (List (Region × ℕ) × ℕ)
pages_in s = option_map (λ (h : Holder). (h.fills, h.reserved)) (slice_get s.holders 0)

-- a frame of two variables before instruction 4 of function 1
abbrev pub some_frame : WordFrame
some_frame = record { function = 1; next = 4; variables = 5 ∷ 0 ∷ [] }

-- name 1 is bound to region 5
abbrev pub small_table : NameTable
small_table = None ∷ Some (Numbered 5) ∷ []

-- ---- values and operators

pub record WordExamples : Type 0 where
  pub an_int : Shows [] (value.Int (pos 7)) 7
  pub other_int : Shows [] (value.Int (pos 7)) 8 → ⊥
  pub truth : Shows [] (value.Bool true) 1
  pub falsehood : Shows [] (value.Bool true) 0 → ⊥
  -- the object of number 1 is at address 9
  pub object : Shows (5 ∷ 9 ∷ []) (value.Object 1) 10
  pub address : Shows (5 ∷ 9 ∷ []) (value.Object 1) 9 → ⊥
  pub unmade : (w : ℕ) → Shows (5 ∷ 9 ∷ []) (value.Object 2) w → ⊥
  pub all : AllShow [] (value.Nil ∷ value.Bool false ∷ []) (0 ∷ 0 ∷ [])
  pub fewer : AllShow [] (value.Nil ∷ []) [] → ⊥
  pub adds : computed (action.Binary Add) (3 ∷ 4 ∷ []) ≡ Some 7
  -- -1
  pub subtracts : computed (action.Binary Sub) (3 ∷ 4 ∷ []) ≡ Some 18446744073709551615
  pub traps : computed (action.Binary Div) (3 ∷ 0 ∷ []) ≡ None
  pub touches : computed (action.Load 0) (5 ∷ []) ≡ None
  pub prints : typed_value (Some (record { ty = bool; class = NoClass })) 1 ≡ value.Bool true
  pub prints_none : typed_value None 1 ≡ value.Nil

-- ---- frames and what is held

pub record FrameRecordExamples : Type 0 where
  pub reads : frame_word some_frame 0 ≡ 5
  pub goes : word_going some_frame (Some 1) 8 ≡ record { function = 1; next = 5; variables = 5 ∷ 8 ∷ [] }
  -- equally many words and variables, whatever the two values are
  pub alike : IsAlike (record { function = 1; next = 4; variables = value.Nil ∷ value.Nil ∷ [] }) some_frame
  pub elsewhere : IsAlike (record { function = 1; next = 5; variables = value.Nil ∷ value.Nil ∷ [] }) some_frame → ⊥
  pub callers : (code : Code) → FramesShow code [] [] (some_frame ∷ []) → ⊥
  -- by slots: region 0 has slot 6, and which channel has the offer is not said
  pub slots : (slotted (λ r. r + 6) (one_name [])).stakes ≡ 6 ∷ []
  pub offers : (slotted (λ r. r + 6) (one_name [])).offer ≡ Standing 0
  -- pages are a matter of the memory's part
  pub fills : (slotted (λ r. r + 6) (one_name [])).fills ≡ []
  pub reserved : (slotted (λ r. r + 6) (one_name [])).reserved ≡ 0
  pub one_slot : SlotsDiffer (λ r. 0) (two_regions 1) → ⊥
  -- the slot of a region that was removed is used again
  pub slot_again : SlotsDiffer (λ r. 0) (two_regions 0)
  pub one_address : ObjectsDiffer (9 ∷ 9 ∷ []) (two_regions 1) two_owners → ⊥
  pub address_again : ObjectsDiffer (9 ∷ 9 ∷ []) (two_regions 0) two_owners
  -- a goroutine without a record
  pub missing : (code : Code) (slot_of : ℕ → ℕ) → RecordsFit code slot_of [] (region_start code) [] → ⊥
  -- the removal of name 3 ends the stake, unless a caller protects the region
  pub ends : option_map (λ (x : ℕ × Holder). x.0) (stake_ended (one_name []) (Remove 3)) ≡ Some 0
  pub spares : stake_ended (one_name (Numbered 0 ∷ [])) (Remove 3) ≡ None
  pub spared : option_map (λ (h : Holder). h.stakes) (local_duty (one_name (Numbered 0 ∷ [])) (Remove 3)) ≡ Some (0 ∷ [])
  pub not_spared : local_duty (one_name []) (Remove 3) ≡ None
  pub shares : option_map (λ (x : ℕ × Holder). x.1.pending) (stake_shared (one_name []) (Share 3)) ≡ Some (0 ∷ [])
  -- the return of `main` is an end, its duties after it are none, nor is that of another goroutine
  pub exits : end_by_frames 0 [] [] ≡ Some Exit
  pub owes : end_by_frames 0 (Remove 3 ∷ []) [] ≡ None
  pub returns : end_by_frames 2 [] [] ≡ None
  -- an instruction is counted, a duty is not
  pub counts : steps_after 4 (Instruct (One 0)) ≡ 5
  pub counts_none : steps_after 4 (Attend 0) ≡ 4
  pub stack : stack_frames (1 ∷ 2 ∷ 3 ∷ [])
      (record { function = 1; next = 4; base = 2 } ∷ record { function = 0; next = 9; base = 0 } ∷ [])
      ≡ record { function = 1; next = 4; variables = 3 ∷ [] }
      ∷ record { function = 0; next = 9; variables = 1 ∷ 2 ∷ [] } ∷ []
  pub table : TableShows ((1, Numbered 5) ∷ []) small_table
  pub other_table : TableShows ((1, Numbered 5) ∷ []) (None ∷ None ∷ []) → ⊥
  pub gives : (code : Code) → GivesSlot (region_start code) (λ r. 0) (λ r. 2) 2
  pub keeps : (code : Code) → GivesSlot (region_start code) (λ r. 0) (λ r. 2) 3 → ⊥
  -- for a slice of 5 elements one more page is reserved, and for one of 3 the page is its own; never both
  pub reserves : (code : Code) → pages_in (after_one code 5) ≡ Some ((Numbered 0, 5) ∷ [], 3)
  pub owns : (code : Code) → pages_in (after_one code 3) ≡ Some ((Numbered 0, 5) ∷ (GlobalRegion, 0) ∷ [], 2)
  pub both : (code : Code) → pages_in (after_one code 5) ≡ Some ((Numbered 0, 5) ∷ (GlobalRegion, 0) ∷ [], 3) → ⊥
  -- no event leads to the first state; nothing is reached by a page of a goroutine that never started
  pub reached : (x : Here) → x.s ≡ region_start x.code → IsReached x []
  pub unreached : (x : Here) → IsReached x (TakePage 7 ∷ []) → ⊥

-- ---- local steps

-- a code whose one instruction is a constant
abbrev pub one_constant : ℤ → Code
one_constant k = small_code [] (main_of (int_slot ∷ []) (plain_instr (Do (Some 0) (action.Int k) [] []) ∷ []) ∷ [])

-- `main` of a code that passes one object twice: an int, and then a region is owed, whose creation is not a local step
pub record LocalExamples : Type 0 where
  pub begins : Sees passed_twice 1 0 (0 ∷ 0 ∷ 0 ∷ []) 0 []
  pub computes : Sees passed_twice 1 1 (21 ∷ 0 ∷ 0 ∷ []) 1 (Create 0 ∷ [])
  pub waits : option_and_then (quiets passed_twice 0 2) (main_record_at passed_twice 1) ≡ None
  pub constants : (k : ℤ) → FitsSigned w64 k → ConstantsFit (one_constant k)
  pub unfit : (k : ℤ) → (FitsSigned w64 k → ⊥) → ConstantsFit (one_constant k) → ⊥

-- ---- ints

pub record IntExamples : Type 0 where
  pub largest : ValueFitsWord (value.Int (pos 9223372036854775807))
  pub larger : ValueFitsWord (value.Int (pos 9223372036854775808)) → ⊥
  pub smallest : ValueFitsWord (value.Int (negsuc 9223372036854775807))
  pub smaller : ValueFitsWord (value.Int (negsuc 9223372036854775808)) → ⊥
  pub pointer : ValueFitsWord (value.Object 9223372036854775808)
  pub slice : ObjectIntsFit (SliceObject (value.Int (pos 3) ∷ value.Nil ∷ []))
  pub wide_cell : ObjectIntsFit (StructObject (value.Int (pos 9223372036854775808) ∷ [])) → ⊥
  pub wide_channel : ObjectIntsFit (Channel 9223372036854775808 [] false) → ⊥

pub record FrameExamples : Type 0 where
  pub words : WordExamples
  pub ints : IntExamples
  pub records : FrameRecordExamples
  pub steps : LocalExamples

-- Where the definitions hold and where they do not.
use denote.Ref.{Bor}
use Rattle.std.specs.Prelude.{◌≡◌, ◌∷◌, [], ℕ, List, None, Some, length, pos, refl, suc, true, false}
use Rattle.rgo_compact.specs.Examples.{adding, adding_code}
use Rattle.rgo_compact.specs.Runs.{frame_at}
use Rattle.rgo_core.specs.Core.{Setup}
use Rattle.rgo_core.specs.Next.{IsAtOp}
use Rattle.rgo_core.specs.Records.{Record, begins_with, looked}
use Rattle.rgo_core.specs.Channels.Records.{at_rest, offering_record}
use Rattle.rgo_core.specs.Frames.goroutines.Opening.{no_record}
use Rattle.rgo_core.specs.Frames.shown.WordFrames.{WordFrame}
use Rattle.rgo_core.specs.Memory.Opening.{first_record}
use Rattle.rgo_core.specs.Memory.Records.{Owes, with_give}
use Rattle.rgo_core_facts.specs.MemoryWords.{PointerHasField}
use Rattle.rgo_sound.specs.Code.Code.{CodeOp}
use Rattle.rgo_sound.specs.RegionMachine.Examples.{int_slot, main_of, node_struct}
use Rattle.rgo_sound.specs.RegionMachine.States.{RegionEnvironment, NoOffer, Standing}
use Rattle.rgo_sound.specs.RegionMachine.States as machine
use Rattle.rgo_sound.specs.RegionMachine.declared.regions.Region.TheVariants.{Global as GlobalRegion, Numbered}
use Rattle.rgo_sound.specs.Tally.{no_share}
use Rattle.rgo_sound.specs.Tac.Code as tac
use Rattle.rgo_sound.specs.Tac.declared.ops.Op.TheVariants as op
use Rattle.rgo_sound.specs.Tac.declared.ops.Operands.TheVariants.{Zero}
use Rattle.rgo_sound.specs.Tac.declared.regions.Class.TheVariants.{NoClass}
use Rattle.rgo_sound.specs.Typed.declared.actions.Action.TheVariants as action
use Rattle.rgo_body.specs.Bodies.{CanCount, frames_of_body}
use Rattle.rgo_body.specs.Duties.{has_share, is_kept, without_region}
use Rattle.rgo_body.specs.Fields.{PointsToFields}
use Rattle.rgo_body.specs.Nexts.{AreNexts, FollowsOn, FrameHasNoNext, IsDecoded, IsDo, IsNextOf, IsReturn, removes_at, action_target}
use Rattle.rgo_body.specs.Programs.{CompactProgram, most_fields}
use Rattle.rgo_body.specs.Queues.{duties_of}
use Rattle.rgo_body.specs.Shows.{IsMemoryCalm, LooksLike, BodyShows, SideShows}
use Rattle.rgo_body.specs.declared.bodies.Body.{Body}
use Rattle.rgo_body.specs.declared.bodies.Side.TheVariants as side
use Rattle.rgo_body.specs.declared.nexts.Next.{Next}
use Rattle.rgo_body.specs.declared.queues.Duty.TheVariants as duty

-- a reference to an empty list
abbrev empty : {X : Type 0} → Bor (List X)
empty = record { ref_ptr = (0, 0); now = [] }

-- `v1 := 5` is the first instruction of the function
abbrev pub first_next : Next
first_next = record {
  function = main_of (int_slot ∷ int_slot ∷ int_slot ∷ []) adding;
  at = 0;
  op = op.Do (Some 1) (action.Int (pos 5)) Zero;
  creates = empty;
  passes = empty;
  protects = empty;
  removes = empty;
  otherwise = empty;
  creates_are = refl;
  passes_are = refl;
  protects_are = refl;
  removes_are = refl;
  otherwise_are = refl;
}

abbrev pub at_start : List WordFrame
at_start = frame_at 0 0 (7 ∷ 0 ∷ 0 ∷ []) ∷ []

abbrev pub nobody : Record
nobody = begins_with no_record

-- this body after it has reserved pages 3 and 7
abbrev pub with_two_reserved : Body → Body
with_two_reserved b = record b { reserved = record { pages = 3 ∷ 7 ∷ []; room = 0 } }

-- this record with these reserved pages, claimed for slot 5
abbrev pub with_reserved_pages : Record → List ℕ → Record
with_reserved_pages c pages = record c { memory = record c.memory { reserved = record { slot = 5; pages = pages } } }

-- a frame whose call protects the region of slot 3
abbrev pub guarding : RegionEnvironment
guarding = record { lent = NoClass; names = []; protections = Numbered 3 ∷ [] }

pub record BodyExamples : Type 0 where
  -- what is known of channels
  pub rests : SideShows side.AtRest at_rest NoOffer
  pub offers_at_rest : SideShows side.AtRest at_rest (Standing 0) → ⊥
  pub offers : SideShows (side.Offering 700) (offering_record 700) (Standing 0)
  pub offers_elsewhere : SideShows (side.Offering 700) (offering_record 703) (Standing 0) → ⊥
  pub tried : SideShows side.Tried at_rest NoOffer
  pub offers_when_tried : SideShows side.Tried (offering_record 700) NoOffer → ⊥
  pub calm : IsMemoryCalm first_record 0
  pub owing_pages : IsMemoryCalm first_record 2 → ⊥
  pub giving_back : IsMemoryCalm (with_give first_record (Owes 3)) 0 → ⊥
  -- what no body shows
  pub access : LooksLike nobody (looked nobody)
  pub instruction : LooksLike nobody (record nobody { clock = record nobody.clock { share = record no_share { steps = 1 } } }) → ⊥
  pub slot : LooksLike nobody (with_reserved_pages nobody [])
  pub page : LooksLike nobody (with_reserved_pages nobody (3 ∷ [])) → ⊥
  -- reserved pages, whatever else is shown
  pub two : (T : Setup) (p : CompactProgram) (b : Body) (c : Record) → BodyShows T p b c → BodyShows T p (with_two_reserved b) (with_reserved_pages c (3 ∷ 7 ∷ []))
  pub other_order : (T : Setup) (p : CompactProgram) (b : Body) (c : Record) → BodyShows T p (with_two_reserved b) (with_reserved_pages c (7 ∷ 3 ∷ [])) → ⊥
  pub no_page : (T : Setup) (p : CompactProgram) (b : Body) (c : Record) → BodyShows T p (with_two_reserved b) (with_reserved_pages c []) → ⊥
  pub gone : (without_region nobody 4).clock.share.returned ≡ 4
  pub removed : (without_region nobody 4).clock.share.removed ≡ 1
  -- counts
  pub few : CanCount no_share
  pub many : CanCount (record no_share { steps = 18446744073709551615 }) → ⊥
  pub most_pages : CanCount (record no_share { taken = 18446744073709551550 })
  pub too_many_pages : CanCount (record no_share { taken = 18446744073709551551 }) → ⊥
  -- fields
  pub most : most_fields (node_struct ∷ record node_struct { fields = [] } ∷ []) ≡ 2
  pub no_struct : most_fields [] ≡ 0
  pub a_field_more : (T : Setup) (p : CompactProgram) (b : Body) (c : Record) (next : Next) (op : CodeOp) (a : IsAtOp T.code c op) (v k : ℕ)
      (f : PointerHasField T c a v k) → BodyShows T p b c → IsNextOf p.code (frames_of_body b) next
      → PointsToFields p next v (suc (length f.struct.fields)) → ⊥
  -- queues: the first duty is the last of the list
  pub order : duties_of (duty.Create 4 ∷ duty.Remove 3 ∷ []) ≡ machine.Remove 3 ∷ machine.Create 4 ∷ []
  -- duties without an access
  pub global_shared : has_share [] GlobalRegion ≡ true
  pub shared : has_share (2 ∷ 3 ∷ []) (Numbered 3) ≡ true
  pub not_shared : has_share (2 ∷ 3 ∷ []) (Numbered 4) ≡ false
  pub global_kept : is_kept [] [] GlobalRegion ≡ true
  pub kept : is_kept [] (guarding ∷ []) (Numbered 3) ≡ true
  pub not_kept : is_kept [] (guarding ∷ []) (Numbered 4) ≡ false
  -- the next instruction
  pub next : IsNextOf adding_code at_start first_next
  pub elsewhere : IsNextOf adding_code (frame_at 0 1 (7 ∷ 5 ∷ 0 ∷ []) ∷ []) first_next → ⊥
  pub without_frame : IsNextOf adding_code [] first_next → ⊥
  pub none : FrameHasNoNext adding_code []
  pub past : FrameHasNoNext adding_code (frame_at 0 3 (7 ∷ 5 ∷ 0 ∷ []) ∷ [])
  pub some : FrameHasNoNext adding_code at_start → ⊥
  -- a table of instructions
  pub decoded : IsDecoded adding_code (record { function = 0; next = 0 }) (Some first_next)
  pub at_another : IsDecoded adding_code (record { function = 0; next = 1 }) (Some first_next) → ⊥
  pub forgotten : IsDecoded adding_code (record { function = 0; next = 0 }) None → ⊥
  pub beyond : IsDecoded adding_code (record { function = 0; next = 3 }) None
  pub no_function : IsDecoded adding_code (record { function = 1; next = 0 }) None
  pub no_table : AreNexts adding_code [] → ⊥
  pub removes : removes_at first_next ≡ []
  pub target : action_target (tac.Do (Some 1) (action.Int (pos 5)) []) ≡ Some 1
  pub does : IsDo (tac.Do None (action.Store 0) (1 ∷ 2 ∷ []))
  pub jumps : IsDo (tac.Jump 4) → ⊥
  pub returns : IsReturn (tac.Return None)
  pub goes_on : FollowsOn (tac.Go 1 [])
  pub leaves : FollowsOn (tac.Return None) → ⊥

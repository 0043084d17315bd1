-- Small code with regions, its runs, and the room that they use. Beside each example that has a step is one that has none, so
-- that a definition which allows too much fails here as well as one that allows too little.
use Rattle.std.specs.Prelude.{◌≡◌, ℕ, false, true, List, [], ◌∷◌, ◌++◌, Option, Some, None, IfSome, pos, replicate}
use Rattle.std.specs.Prelude.{option_and_then, codes, slice_get}
use Rattle.rgo_region_machine.specs.declared.regions.Region.{Region}
use Rattle.rgo_region_machine.specs.declared.regions.Region.TheVariants.{Numbered}
use Rattle.rgo_ast.specs.declared.ops.BinaryOp.TheVariants.{Add}
use Rattle.rgo_typed.specs.declared.actions.Action.TheVariants as action
use Rattle.rgo_typed.specs.declared.programs.Struct.{Struct}
use Rattle.rgo_typed.specs.declared.statements.Piece.TheVariants as piece
use Rattle.rgo_typed.specs.declared.types.Type.{«Type»}
use Rattle.rgo_wellformed.specs.TypeRules.{int, pointer_to, slice_of, chan_of}
use Rattle.rgo_memory.specs.declared.values.Value.TheVariants as value
use Rattle.rgo_memory.specs.Memory.{Channel, SliceObject}
use Rattle.rgo_machine.specs.declared.limits.Sizes.{Sizes}
use Rattle.rgo_machine.specs.declared.picks.End.TheVariants.{Exit}
use Rattle.rgo_machine.specs.declared.picks.Pick.TheVariants.{One, Meet}
use Rattle.rgo_machine.specs.declared.limits.Shortage.{Shortage}
use Rattle.rgo_machine.specs.declared.limits.Shortage.TheVariants as shortage
use Rattle.rgo_machine.specs.Lines.{printed_line}
use Rattle.rgo_tac.specs.declared.regions.Class.{Class}
use Rattle.rgo_tac.specs.declared.regions.Class.TheVariants.{NoClass, Name}
use Rattle.rgo_code.specs.declared.code.Undeclared.{Undeclared}
use Rattle.rgo_code.specs.Code.{Slot, CodeOp, CodeInstr, CodeFn, Code, Do, Call, Go, Print, Return}
use Rattle.rgo_region_machine.specs.Counts.{Counts, counts_of}
use Rattle.rgo_region_machine.specs.Machine.{Event, Instruct, Attend, TakePage, MakeOffer, Acknowledge, region_run}
use Rattle.rgo_region_machine.specs.Objects.{data_pages, is_too_large}
use Rattle.rgo_region_machine.specs.Room.{StateFitsIn, LacksIn, enough_pages, live_regions, pages_in_use, roomy_run}
use Rattle.rgo_region_machine.specs.States.{Mark, Ended, Holder, RegionState}

-- ---- code

abbrev pub int_slot : Slot
int_slot = record { ty = int; class = NoClass }

abbrev pub slot_in_class : «Type» → Class → Slot
slot_in_class ty class = record { ty = ty; class = class }

-- struct N { v int; next *N }
abbrev pub node_struct : Struct
node_struct = record { name = codes "N"; fields = int ∷ pointer_to 0 ∷ [] }

abbrev pub node_slot : Class → Slot
node_slot c = slot_in_class (pointer_to 0) c

abbrev pub creating_instr : List ℕ → CodeOp → CodeInstr
creating_instr creates op = record { creates = creates; op = op; place = 0 }

abbrev pub plain_instr : CodeOp → CodeInstr
plain_instr op = creating_instr [] op

abbrev pub printing_instr : ℕ → CodeInstr
printing_instr v = plain_instr (Print (piece.Value ∷ []) (v ∷ []) [])

abbrev pub no_undeclared : Undeclared
no_undeclared = record { structs = []; variables = []; functions = [] }

abbrev pub small_code : List Struct → List CodeFn → Code
small_code structs functions = record {
  structs = structs;
  variables = [];
  functions = functions;
  undeclared = no_undeclared;
}

abbrev pub main_of : List Slot → List CodeInstr → CodeFn
main_of variables body = record {
  name = codes "main";
  params = 0;
  result = None;
  variables = variables;
  entry = [];
  body = body;
}

-- x := new(N); y := x; fmt.Println(y.v)
abbrev pub aliased_object : Code
aliased_object = small_code (node_struct ∷ []) (main_of (node_slot (Name 0) ∷ node_slot (Name 0) ∷ int_slot ∷ []) (
    creating_instr (0 ∷ []) (Do (Some 0) (action.New 0) [] [])
    ∷ plain_instr (Do (Some 1) action.Copy (0 ∷ []) [])
    ∷ plain_instr (Do (Some 2) (action.Load 0) (1 ∷ []) (0 ∷ []))
    ∷ printing_instr 2
    ∷ plain_instr (Return None) ∷ []) ∷ [])

-- func f(a, b *N) int { return a.v + b.v }, and a `main` that passes one object twice: x := &N{21, nil}; f(x, x)
abbrev pub passed_twice : Code
passed_twice = small_code (node_struct ∷ []) (
    record {
      name = codes "f";
      params = 2;
      result = Some int_slot;
      variables = node_slot (Name 0) ∷ node_slot (Name 1) ∷ int_slot ∷ int_slot ∷ int_slot ∷ [];
      entry = [];
      body =
          plain_instr (Do (Some 2) (action.Load 0) (0 ∷ []) (0 ∷ []))
          ∷ plain_instr (Do (Some 3) (action.Load 0) (1 ∷ []) (1 ∷ []))
          ∷ plain_instr (Do (Some 4) (action.Binary Add) (2 ∷ 3 ∷ []) [])
          ∷ plain_instr (Return (Some 4)) ∷ [];
    }
    ∷ main_of (int_slot ∷ node_slot (Name 0) ∷ int_slot ∷ []) (
    plain_instr (Do (Some 0) (action.Int (pos 21)) [] [])
    ∷ creating_instr (0 ∷ []) (Do (Some 1) (action.New 0) [] [])
    ∷ plain_instr (Do None (action.Store 0) (1 ∷ 0 ∷ []) [])
    ∷ plain_instr (Call (Some 2) 0 (1 ∷ 1 ∷ []) (Name 0 ∷ Name 0 ∷ []) (0 ∷ []) (0 ∷ []))
    ∷ printing_instr 2
    ∷ plain_instr (Return None) ∷ []) ∷ [])

-- func s(c chan int) { c <- 5 }, and a `main` that starts it and receives
abbrev pub sender_and_receiver : Code
sender_and_receiver = small_code [] (
    main_of (int_slot ∷ slot_in_class (chan_of int) (Name 0) ∷ int_slot ∷ []) (
    plain_instr (Do (Some 0) (action.Int (pos 0)) [] [])
    ∷ creating_instr (0 ∷ []) (Do (Some 1) action.Chan (0 ∷ []) [])
    ∷ plain_instr (Go 1 (1 ∷ []) (Name 0 ∷ []) [])
    ∷ plain_instr (Do (Some 2) action.Recv (1 ∷ []) (0 ∷ []))
    ∷ printing_instr 2
    ∷ plain_instr (Return None) ∷ [])
    ∷ record {
      name = codes "s";
      params = 1;
      result = None;
      variables = slot_in_class (chan_of int) (Name 0) ∷ int_slot ∷ [];
      entry = [];
      body =
          plain_instr (Do (Some 1) (action.Int (pos 5)) [] [])
          ∷ plain_instr (Do None action.Send (0 ∷ 1 ∷ []) (0 ∷ []))
          ∷ plain_instr (Return None) ∷ [];
    } ∷ [])

-- func f(a, b *N) {} without a use, and a `main` that starts it with one region at both positions
abbrev pub started_twice : Code
started_twice = small_code (node_struct ∷ []) (
    main_of (node_slot (Name 0) ∷ []) (
    creating_instr (0 ∷ []) (Do (Some 0) (action.New 0) [] [])
    ∷ plain_instr (Go 1 (0 ∷ 0 ∷ []) (Name 0 ∷ Name 0 ∷ []) (0 ∷ []))
    ∷ plain_instr (Do (Some 0) action.Nil [] [])
    ∷ plain_instr (Return None) ∷ [])
    ∷ record {
      name = codes "f";
      params = 2;
      result = None;
      variables = node_slot (Name 0) ∷ node_slot (Name 1) ∷ [];
      entry = 0 ∷ 1 ∷ [];
      body = plain_instr (Return None) ∷ [];
    } ∷ [])

-- an index outside of a slice, which traps before the removal of its region
abbrev pub trapping : Code
trapping = small_code [] (main_of (slot_in_class (slice_of int) (Name 0) ∷ int_slot ∷ int_slot ∷ []) (
    plain_instr (Do (Some 1) (action.Int (pos 0)) [] [])
    ∷ creating_instr (0 ∷ []) (Do (Some 0) action.Slice (1 ∷ []) [])
    ∷ plain_instr (Do (Some 2) action.At (0 ∷ 1 ∷ []) (0 ∷ []))
    ∷ plain_instr (Return None) ∷ []) ∷ [])

-- x := new(N); y := new(N), each in a region of its own. What the first instruction removes is gone before the second creates.
abbrev pub two_objects : (removes : List ℕ) → Code
two_objects removes = small_code (node_struct ∷ []) (main_of (node_slot (Name 0) ∷ node_slot (Name 1) ∷ []) (
    creating_instr (0 ∷ []) (Do (Some 0) (action.New 0) [] removes)
    ∷ creating_instr (1 ∷ []) (Do (Some 1) (action.New 0) [] [])
    ∷ plain_instr (Return None) ∷ []) ∷ [])

abbrev pub both_live : Code
both_live = two_objects []

abbrev pub one_live : Code
one_live = two_objects (0 ∷ [])

-- s := make([]int, n); s[last] = 9; fmt.Println(s[last], s[other])
abbrev pub long_slice : (n last other : ℕ) → Code
long_slice n last other = small_code [] (main_of (slot_in_class (slice_of int) (Name 0) ∷ int_slot ∷ int_slot ∷ int_slot ∷ []) (
    plain_instr (Do (Some 1) (action.Int (pos n)) [] [])
    ∷ creating_instr (0 ∷ []) (Do (Some 0) action.Slice (1 ∷ []) [])
    ∷ plain_instr (Do (Some 1) (action.Int (pos last)) [] [])
    ∷ plain_instr (Do (Some 2) (action.Int (pos 9)) [] [])
    ∷ plain_instr (Do None action.Put (0 ∷ 1 ∷ 2 ∷ []) [])
    ∷ plain_instr (Do (Some 2) action.At (0 ∷ 1 ∷ []) [])
    ∷ plain_instr (Do (Some 1) (action.Int (pos other)) [] [])
    ∷ plain_instr (Do (Some 3) action.At (0 ∷ 1 ∷ []) (0 ∷ []))
    ∷ plain_instr (Print (piece.Value ∷ piece.Value ∷ []) (2 ∷ 3 ∷ []) [])
    ∷ plain_instr (Return None) ∷ []) ∷ [])

-- c := make(chan int, n); c <- n; fmt.Println(<-c)
abbrev pub long_channel : (n : ℕ) → Code
long_channel n = small_code [] (main_of (slot_in_class (chan_of int) (Name 0) ∷ int_slot ∷ []) (
    plain_instr (Do (Some 1) (action.Int (pos n)) [] [])
    ∷ creating_instr (0 ∷ []) (Do (Some 0) action.Chan (1 ∷ []) [])
    ∷ plain_instr (Do None action.Send (0 ∷ 1 ∷ []) [])
    ∷ plain_instr (Do (Some 1) action.Recv (0 ∷ []) (0 ∷ []))
    ∷ printing_instr 1
    ∷ plain_instr (Return None) ∷ []) ∷ [])

-- x := new(N); s := make([]int, n); x = new(N), all in one region
abbrev pub slice_between : (n : ℕ) → Code
slice_between n = small_code (node_struct ∷ []) (main_of (node_slot (Name 0) ∷ slot_in_class (slice_of int) (Name 0) ∷ int_slot ∷ []) (
    creating_instr (0 ∷ []) (Do (Some 0) (action.New 0) [] [])
    ∷ plain_instr (Do (Some 2) (action.Int (pos n)) [] [])
    ∷ plain_instr (Do (Some 1) action.Slice (2 ∷ []) [])
    ∷ plain_instr (Do (Some 0) (action.New 0) [] (0 ∷ []))
    ∷ plain_instr (Return None) ∷ []) ∷ [])

-- func f() { s := make([]int, n) }, and a `main` that starts it and returns
abbrev pub left_alone : (n : ℕ) → Code
left_alone n = small_code [] (
    main_of [] (plain_instr (Go 1 [] [] []) ∷ plain_instr (Return None) ∷ [])
    ∷ record {
      name = codes "f";
      params = 0;
      result = None;
      variables = slot_in_class (slice_of int) (Name 0) ∷ int_slot ∷ [];
      entry = [];
      body =
          plain_instr (Do (Some 1) (action.Int (pos n)) [] [])
          ∷ creating_instr (0 ∷ []) (Do (Some 0) action.Slice (1 ∷ []) (0 ∷ []))
          ∷ plain_instr (Return None) ∷ [];
    } ∷ [])

-- ---- runs

abbrev pub step : Event
step = Instruct (One 0)

abbrev pub one_object_run : List Event
one_object_run = Attend 0 ∷ TakePage 0 ∷ step ∷ step ∷ step ∷ Attend 0 ∷ step ∷ step ∷ []

-- The call comes after its protection. The two removals in the callee do nothing, since the caller protects the region; the
-- caller's own one removes it.
abbrev pub passed_twice_run : List Event
passed_twice_run =
    step ∷ Attend 0 ∷ TakePage 0 ∷ step ∷ step ∷ Attend 0 ∷ step
    ∷ step ∷ Attend 0 ∷ step ∷ Attend 0 ∷ step ∷ step
    ∷ Attend 0 ∷ Attend 0 ∷ step ∷ step ∷ []

abbrev pub unprotected_run : List Event
unprotected_run = step ∷ Attend 0 ∷ TakePage 0 ∷ step ∷ step ∷ step ∷ []

abbrev pub before_the_meeting : List Event
before_the_meeting = step ∷ Attend 0 ∷ TakePage 0 ∷ step ∷ Attend 0 ∷ step ∷ Instruct (One 1) ∷ []

abbrev pub meeting_run : List Event
meeting_run = before_the_meeting
    ++ (MakeOffer 1 ∷ Instruct (Meet 0 1) ∷ Acknowledge 1 ∷ Attend 1 ∷ Instruct (One 1) ∷ Attend 0 ∷ step ∷ step ∷ [])

-- the print comes before the sender's acknowledgement: the receiver does not wait for it
abbrev pub other_meeting_run : List Event
other_meeting_run = before_the_meeting
    ++ (MakeOffer 1 ∷ Instruct (Meet 0 1) ∷ Attend 0 ∷ step ∷ Acknowledge 1 ∷ Attend 1 ∷ step ∷ [])

-- The child's two removals do nothing, since its region was passed at two positions and is in its base; the region is removed when
-- the child has returned.
abbrev pub started_twice_run : List Event
started_twice_run =
    Attend 0 ∷ TakePage 0 ∷ step ∷ Attend 0 ∷ Attend 0 ∷ step ∷ Attend 0
    ∷ Attend 1 ∷ Attend 1 ∷ Instruct (One 1) ∷ []

-- both regions are live in the end
abbrev pub both_live_run : List Event
both_live_run = Attend 0 ∷ TakePage 0 ∷ step ∷ Attend 0 ∷ TakePage 0 ∷ step ∷ []

-- the first region is removed before the second is created
abbrev pub one_live_run : List Event
one_live_run = Attend 0 ∷ TakePage 0 ∷ step ∷ Attend 0 ∷ Attend 0 ∷ TakePage 0 ∷ step ∷ []

-- the size is computed, the region is created, and n pages are taken for the object
abbrev pub taking_pages : (pages : ℕ) → List Event
taking_pages pages = step ∷ Attend 0 ∷ replicate pages (TakePage 0)

abbrev pub long_slice_run : (pages : ℕ) → List Event
long_slice_run pages = taking_pages pages ++ (replicate 7 step ++ (Attend 0 ∷ step ∷ step ∷ []))

abbrev pub long_channel_run : (pages : ℕ) → List Event
long_channel_run pages = taking_pages pages ++ (step ∷ step ∷ step ∷ Attend 0 ∷ step ∷ step ∷ [])

-- the second structure goes into the page of the first one: the pages of the slice between them are not the own page
abbrev pub slice_between_run : (pages : ℕ) → List Event
slice_between_run pages = Attend 0 ∷ TakePage 0 ∷ step ∷ step ∷ (replicate pages (TakePage 0) ++ (step ∷ step ∷ []))

-- `main` returns after f has taken one of its pages: the object is never made, and the page stays with its region
abbrev pub left_alone_run : List Event
left_alone_run = step ∷ Instruct (One 1) ∷ Attend 1 ∷ TakePage 1 ∷ step ∷ []

-- ---- what they print, how they end, and what they have made

abbrev pub outcome : RegionState → List ℕ × Option Mark × Counts
outcome s = (s.plain.printed, s.mark, counts_of s)

-- the number, printed
abbrev pub line_of_one : ℕ → List ℕ
line_of_one n = printed_line (piece.Value ∷ []) (value.Int (pos n) ∷ [])

abbrev pub GivesIn : (page_words : ℕ) → Code → List Event → List ℕ → Option Mark → Counts → Type 0
GivesIn page_words code events print mark counts =
    option_and_then (λ s. Some (outcome s)) (region_run code page_words events) ≡ Some (print, mark, counts)

abbrev pub EventsLeadTo : Code → List Event → List ℕ → Option Mark → Counts → Type 0
EventsLeadTo = GivesIn 16

abbrev pub region_counts : (made removed taken returned steps objects goroutines : ℕ) → Counts
region_counts made removed taken returned steps objects goroutines = record {
  made = made;
  removed = removed;
  taken = taken;
  returned = returned;
  steps = steps;
  objects = objects;
  goroutines = goroutines;
}

pub record RegionExamples : Type 0 where
  pub one : EventsLeadTo aliased_object one_object_run (line_of_one 0) (Some (Ended Exit)) (region_counts 1 1 1 1 5 1 1)
  pub twice : EventsLeadTo passed_twice passed_twice_run (line_of_one 42) (Some (Ended Exit)) (region_counts 1 1 1 1 10 1 1)
  pub meets : EventsLeadTo sender_and_receiver meeting_run (line_of_one 5) (Some (Ended Exit)) (region_counts 1 1 1 1 8 1 2)
  pub meets_otherwise
      : EventsLeadTo sender_and_receiver other_meeting_run (line_of_one 5) (Some (Ended Exit)) (region_counts 1 1 1 1 7 1 2)
  pub before_base : EventsLeadTo started_twice started_twice_run [] None (region_counts 1 0 1 0 3 1 2)
  pub after_base : EventsLeadTo started_twice (started_twice_run ++ (Attend 1 ∷ [])) [] None (region_counts 1 1 1 1 3 1 2)
  -- no object is made before its region exists and a page is taken for it
  pub no_region : region_run aliased_object 16 (step ∷ []) ≡ None
  pub no_page : region_run aliased_object 16 (Attend 0 ∷ step ∷ []) ≡ None
  -- in pages of one word every spread object is too large, since a lead page has no room for a page number
  pub too_large : region_run aliased_object 1 (Attend 0 ∷ TakePage 0 ∷ []) ≡ None
  -- the protection is owed before the call
  pub unprotected : region_run passed_twice 16 unprotected_run ≡ None
  -- a receiver cannot meet a sender that has not offered
  pub no_offer : region_run sender_and_receiver 16 (before_the_meeting ++ (Instruct (Meet 0 1) ∷ [])) ≡ None
  -- the acknowledgement comes before what the sender owes
  pub no_acknowledgement
      : region_run sender_and_receiver 16
      (before_the_meeting ++ (MakeOffer 1 ∷ Instruct (Meet 0 1) ∷ Attend 0 ∷ Attend 1 ∷ [])) ≡ None
  -- after a trap nothing is owed
  pub trap : region_run trapping 16 (step ∷ Attend 0 ∷ TakePage 0 ∷ step ∷ step ∷ Attend 0 ∷ []) ≡ None

-- the fills of the first goroutine, and the number of pages that it has reserved
abbrev pub page_state : RegionState → Option (List (Region × ℕ) × ℕ)
page_state s = option_and_then (λ (h : Holder). Some (h.fills, h.reserved)) (slice_get s.holders 0)

abbrev pub HasPages : Code → List Event → List (Region × ℕ) → (reserved : ℕ) → Type 0
HasPages code events fills reserved = option_and_then page_state (region_run code 16 events) ≡ Some (fills, reserved)

-- the numbers, printed with a space between them
abbrev pub line_of_two : ℕ → ℕ → List ℕ
line_of_two m n = printed_line (piece.Value ∷ piece.Value ∷ []) (value.Int (pos m) ∷ value.Int (pos n) ∷ [])

pub record SpreadExamples : Type 0 where
  -- 257 cells in pages of 256 words: a lead page and two data pages
  pub slice : GivesIn 256 (long_slice 257 256 255) (long_slice_run 3) (line_of_two 9 0) (Some (Ended Exit))
      (region_counts 1 1 3 3 10 1 1)
  pub channel : GivesIn 256 (long_channel 300) (long_channel_run 3) (line_of_one 300) (Some (Ended Exit))
      (region_counts 1 1 3 3 6 1 1)
  -- 255 elements and the length fill a page
  pub within_a_page : GivesIn 256 (long_slice 255 254 253) (long_slice_run 1) (line_of_two 9 0) (Some (Ended Exit))
      (region_counts 1 1 1 1 10 1 1)
  -- 256 elements fill a data page
  pub one_data_page : GivesIn 256 (long_slice 256 255 254) (long_slice_run 2) (line_of_two 9 0) (Some (Ended Exit))
      (region_counts 1 1 2 2 10 1 1)
  -- an object is made when all of its pages are taken, and no more are taken for it
  pub too_few : region_run (long_slice 257 256 255) 256 (taking_pages 2 ++ (step ∷ [])) ≡ None
  pub too_many : region_run (long_slice 257 256 255) 256 (taking_pages 4) ≡ None
  -- a page of 16 words has room for 14 page numbers after two words
  pub most : EventsLeadTo (long_slice 224 223 222) (long_slice_run 15) (line_of_two 9 0) (Some (Ended Exit))
      (region_counts 1 1 15 15 10 1 1)
  pub over_most : region_run (long_slice 225 224 223) 16 (taking_pages 1) ≡ None
  -- no object has more than 64 data pages
  pub longest : is_too_large 256 (Channel 16384 [] false) ≡ false
  pub over_longest : is_too_large 256 (Channel 16385 [] false) ≡ true
  pub longest_pages : data_pages 256 (SliceObject (replicate 16384 value.Nil)) ≡ 64
  pub over_longest_pages : data_pages 256 (SliceObject (replicate 16385 value.Nil)) ≡ 65
  -- the own page stays as it is before the object is made and after that; the second structure goes there
  pub reserved : HasPages (slice_between 17) (Attend 0 ∷ TakePage 0 ∷ step ∷ step ∷ TakePage 0 ∷ TakePage 0 ∷ [])
      ((Numbered 0, 2) ∷ []) 2
  pub own_page_filled : HasPages (slice_between 17) (slice_between_run 3) ((Numbered 0, 4) ∷ []) 0
  pub own_page : EventsLeadTo (slice_between 17) (slice_between_run 3) [] None (region_counts 1 0 4 0 4 3 1)
  -- pages that were taken for an object that is not made stay in its region
  pub left : EventsLeadTo (left_alone 17) left_alone_run [] (Some (Ended Exit)) (region_counts 1 0 1 0 3 0 2)

-- ---- the room that they use

abbrev pub small_sizes : (pages regions : ℕ) → Sizes
small_sizes pages regions = record { page_words = 16; pages = pages; regions = regions }

abbrev pub used : RegionState → ℕ × ℕ
used s = (pages_in_use s, live_regions s)

-- after these events, this many pages are in use, and this many regions are live
abbrev pub Uses : Code → List Event → (pages regions : ℕ) → Type 0
Uses code events pages regions =
    option_and_then (λ s. Some (used s)) (region_run code 16 events) ≡ Some (pages, regions)

-- each of these events has a step with room
abbrev pub HasRoomIn : Sizes → Code → List Event → Type 0
HasRoomIn sizes code events = roomy_run code sizes events ≡ region_run code 16 events

-- after these events, this many pages are enough for what the run has made and makes next
abbrev pub IsEnough : Code → List Event → (pages : ℕ) → Type 0
IsEnough code events pages =
    option_and_then (λ s. Some (enough_pages code 16 s)) (region_run code 16 events) ≡ Some pages

-- after these events some room is lacking
abbrev pub Lacks : Sizes → Code → Shortage → List Event → Type 0
Lacks sizes code short events = IfSome (region_run code 16 events) (LacksIn code sizes short)

-- the state after these events fits
abbrev pub FitsAfter : Sizes → Code → List Event → Type 0
FitsAfter sizes code events = IfSome (region_run code 16 events) (StateFitsIn sizes)

pub record RegionRoomExamples : Type 0 where
  pub one : Uses aliased_object (Attend 0 ∷ TakePage 0 ∷ []) 1 1
  -- the pages of a removed region are not in use
  pub none : Uses aliased_object one_object_run 0 0
  pub first_removed : Uses one_live one_live_run 1 1
  pub both : Uses both_live both_live_run 2 2
  pub room_for_one : HasRoomIn (small_sizes 1 1) aliased_object one_object_run
  pub room_again : HasRoomIn (small_sizes 1 1) one_live one_live_run
  pub room_for_both : HasRoomIn (small_sizes 2 2) both_live both_live_run
  -- the second page, or the second region, is one more than the sizes allow
  pub no_page : roomy_run both_live (small_sizes 1 2) both_live_run ≡ None
  pub no_region : roomy_run both_live (small_sizes 2 1) both_live_run ≡ None
  pub fits : FitsAfter (small_sizes 2 2) both_live both_live_run
  pub too_many_pages : FitsAfter (small_sizes 1 2) both_live both_live_run → ⊥
  pub too_many_regions : FitsAfter (small_sizes 2 1) both_live both_live_run → ⊥
  -- if nothing is spread, objects and goroutines together
  pub enough_for_one : IsEnough aliased_object one_object_run 2
  pub enough_for_both : IsEnough both_live both_live_run 3
  -- three pages for the object that is made next; once it is made, three for it and three for a next one of its size
  pub enough_before : IsEnough (long_slice 17 16 15) (taking_pages 3) 3
  pub enough_after : IsEnough (long_slice 17 16 15) (long_slice_run 3) 6
  -- a spread object needs room for all of its pages
  pub room_for_spread : HasRoomIn (small_sizes 3 1) (long_slice 17 16 15) (long_slice_run 3)
  pub no_room_for_spread : roomy_run (long_slice 17 16 15) (small_sizes 2 1) (taking_pages 3) ≡ None
  pub lacks_pages : Lacks (small_sizes 2 1) (long_slice 17 16 15) shortage.Pages (taking_pages 2)
  -- an object is too large before any page is taken for it
  pub lacks_size : Lacks (small_sizes 99 1) (long_slice 225 224 223) shortage.ObjectSize (taking_pages 0)
  pub has_size : Lacks (small_sizes 99 1) (long_slice 224 223 222) shortage.ObjectSize (taking_pages 0) → ⊥

-- What the steps of instructions are, unfolded once: of one goroutine (`OneDone`), and of two that meet (`MeetDone`). A step of the
-- machine is a nest of tests; these records have all that was tested as fields, and each part of the invariant starts from them.
use Rattle.std.proofs.Common.{◌≡◌, ℕ, ◌+◌, Bool, true, false, ◌&&◌, List, [], ◌∷◌, ◌++◌, map, Option, Some, None, refl}
use Rattle.std.proofs.Common.{sym, ap, ◌∙◌, subst, nat_eq, if◌then◌else◌, true≢false, slice_get, slice_set, option_map}
use Rattle.std.proofs.Common.{option_and_then, Contains}
use Rattle.std.proofs.lemmas.Option.{slice_get-map}
use Rattle.rgo_sound.proofs.Places.{contains_here, get_set_other, get_set_same}
use Rattle.rgo_sound.proofs.Tests.{and_split, nat_ne_sym}
use Rattle.rgo_sound.proofs.plain.Steps.{Yields, yields_if, yields_none, yields_itself, yields_with, yields_where}
use Rattle.rgo_code.specs.Code.{Branch, Call, Code, CodeFn, CodeInstr, CodeOp, Do, Go, Jump, Print, Return}
use Rattle.rgo_code.specs.Erasure.{erased, erased_fn, erased_instr, erased_op}
use Rattle.rgo_code.specs.Names.{edges}
use Rattle.rgo_machine.specs.Machines.{AtCall, AtClose, AtReceive, AtSend, AtStart, Elsewhere, Stand}
use Rattle.rgo_machine.specs.Machines.{alone as machine_alone, met, met_by, picked, unless_ended, with_frames}
use Rattle.rgo_machine.specs.declared.picks.End.{End}
use Rattle.rgo_machine.specs.declared.picks.Pick.TheVariants.{Meet, One}
use Rattle.rgo_memory.specs.Channels.{meets_at}
use Rattle.rgo_memory.specs.Memory.{Object}
use Rattle.rgo_memory.specs.declared.values.Value.{Value}
use Rattle.rgo_region_machine.specs.Duties.{may_go}
use Rattle.rgo_region_machine.specs.Instructions.{both_instructed, has_none, holder_after, instruct, instructed}
use Rattle.rgo_region_machine.specs.Instructions.{instructed_with, is_ready, one_instructed, plain_after, side_after}
use Rattle.rgo_region_machine.specs.Instructions.{side_by, some_instructed, standing_at, taken_offer, touches}
use Rattle.rgo_region_machine.specs.Machine.{Instruct, region_step}
use Rattle.rgo_region_machine.specs.Objects.{allotted, fill_of, making_region, may_touch, new_object, placed, touched}
use Rattle.rgo_region_machine.specs.Objects.{is_spread, spread_out}
use Rattle.rgo_region_machine.specs.Owed.{current, current_in, function_at, next_duties, removes_behind}
use Rattle.rgo_region_machine.specs.States.{Duty, Holder, RegionState, Remove, frames_in, frames_of, top_names}
use Rattle.rgo_region_machine.specs.declared.regions.Region.{Region}
use Rattle.rgo_sound.proofs.steps.Acting.{after, Acted, alone, alone_is}
use Rattle.rgo_tac.specs.Frames.{TacFrame, frame_after_instr, moved_to, value_at, operand_values}
use Rattle.rgo_tac.specs.Code.{TacFn}
use Rattle.rgo_tac.specs.Steps.{at_tac_function, instr_of, tac_stand, stand_at_instr, stand_before_op}
use Rattle.rgo_tac.specs.Tac.{TacState, tac}
use Rattle.rgo_typed.specs.declared.actions.Action.{Action}
use Rattle.rgo_typed.specs.declared.actions.Action.TheVariants.{At, Binary, Bool as BoolConstant, Chan, Close, Copy}
use Rattle.rgo_typed.specs.declared.actions.Action.TheVariants.{Get, Int, IsNil, Len, Load, Neg, New, Nil, Not, Put}
use Rattle.rgo_typed.specs.declared.actions.Action.TheVariants.{Recv, Send, Set, Slice, Store}
use Rattle.rgo_memory.specs.declared.values.Value.TheVariants as value

-- k differs from h in the fills of pages and in how many are reserved, and in nothing else: that is all that placing an object changes
pub record SameHolder (h k : Holder) : Type 0 where
  pub fills : List (Region × ℕ)
  pub reserved : ℕ
  pub same : k ≡ record h { fills = fills; reserved = reserved }

pub none_owed : (ds : List Duty) → has_none ds ≡ true → ds ≡ []
none_owed [] e = refl
none_owed (d ∷ ds) e = cc

-- ---- the owners that an instruction adds: the region of the object that it made, or none

abbrev pub Allots : Option Region → Option Object → List Region → Type 0
Allots region None given = given ≡ []
Allots None (Some object) given = ⊥
Allots (Some r) (Some object) given = given ≡ r ∷ []

-- an instruction that neither calls, starts nor returns
abbrev pub IsSimple : CodeOp → Type 0
IsSimple (Do to action from removes) = Unit {0}
IsSimple (Call to n from passes protects removes) = ⊥
IsSimple (Go n from passes removes) = ⊥
IsSimple (Print pieces from removes) = Unit {0}
IsSimple (Jump j removes) = Unit {0}
IsSimple (Branch v j removes k others) = Unit {0}
IsSimple (Return value) = ⊥

-- a frame's instruction in the erased code
pub current_erased : (code : Code) (frame : TacFrame) → instr_of (erased code) frame
    ≡ option_map erased_instr (current code frame)
current_erased code frame = ap (option_and_then (λ f. slice_get f.body frame.next))
    (slice_get-map erased_fn code.functions frame.function) ∙ go (slice_get code.functions frame.function)
  where
    go : (o : Option CodeFn) → option_and_then (λ f. slice_get f.body frame.next) (option_map erased_fn o)
        ≡ option_map erased_instr (current_in o frame.next)
    go None = refl
    go (Some fn) = slice_get-map erased_instr fn.body frame.next

-- ---- a goroutine at a channel

-- the goroutine is to receive on c
pub record ReceivesAt (code : Code) (frames : List TacFrame) (c : Value) (go_on : Value → List TacFrame) : Type 0 where
  pub frame : TacFrame
  pub callers : List TacFrame
  pub at : frames ≡ frame ∷ callers
  pub instr : CodeInstr
  pub cur : current code frame ≡ Some instr
  pub to : Option ℕ
  pub channel : ℕ
  pub removes : List ℕ
  pub is : instr.op ≡ Do to Recv (channel ∷ []) removes
  pub channel_is : c ≡ value_at frame channel
  pub goes : (v : Value) → go_on v ≡ frame_after_instr frame to v ∷ callers

-- the goroutine is to send v on c
pub record SendsAt (code : Code) (frames : List TacFrame) (c v : Value) (next : List TacFrame) : Type 0 where
  pub frame : TacFrame
  pub callers : List TacFrame
  pub at : frames ≡ frame ∷ callers
  pub instr : CodeInstr
  pub cur : current code frame ≡ Some instr
  pub to : Option ℕ
  pub channel : ℕ
  pub sent : ℕ
  pub removes : List ℕ
  pub is : instr.op ≡ Do to Send (channel ∷ sent ∷ []) removes
  pub channel_is : c ≡ value_at frame channel
  pub sent_is : v ≡ value_at frame sent
  pub goes : next ≡ frame_after_instr frame to value.Nil ∷ callers

abbrev pub StandsAt : Code → TacFrame → List TacFrame → Stand TacFrame → Type 0
StandsAt code frame callers (AtReceive c blank go_on) = ReceivesAt code (frame ∷ callers) c (λ v. go_on v ∷ callers)
StandsAt code frame callers (AtSend c v place next) = SendsAt code (frame ∷ callers) c v (next ∷ callers)
StandsAt code frame callers (AtClose c place next) = Unit {0}
StandsAt code frame callers (AtCall next callee) = Unit {0}
StandsAt code frame callers (AtStart next child) = Unit {0}
StandsAt code frame callers Elsewhere = Unit {0}

-- if the three-address machine is about to receive or to send, so is the instruction of the code with regions
pub stands_at_channel : (code : Code) (frame : TacFrame) (callers : List TacFrame)
    → StandsAt code frame callers (tac_stand (erased code) frame)
stands_at_channel code frame callers = subst (λ o. StandsAt code frame callers (stand_at_instr (erased code) frame o))
    (sym (current_erased code frame)) (go (current code frame) refl)
  where
    go : (o : Option CodeInstr) → current code frame ≡ o → StandsAt code frame callers
        (stand_at_instr (erased code) frame (option_map erased_instr o))
    go None q = tt
    go (Some instr) q = by instr.op refl
      where
        by : (op : CodeOp) → instr.op ≡ op → StandsAt code frame callers
            (stand_before_op (erased code) frame (erased_op op) instr.place)
        by (Do to action from removes) is = channel action from is
          where
            channel : (action : Action) (from : List ℕ) → instr.op ≡ Do to action from removes
                → StandsAt code frame callers (stand_before_op (erased code) frame (erased_op (Do to action from removes))
                instr.place)
            channel (Int k) from is = tt
            channel (BoolConstant b) from is = tt
            channel Nil from is = tt
            channel Copy from is = tt
            channel (Binary o) from is = tt
            channel Neg from is = tt
            channel Not from is = tt
            channel IsNil from is = tt
            channel Len from is = tt
            channel (Load k) from is = tt
            channel (Store k) from is = tt
            channel At from is = tt
            channel Put from is = tt
            channel (New n) from is = tt
            channel Slice from is = tt
            channel Chan from is = tt
            channel Recv [] is = tt
            channel Recv (c ∷ []) is = record {
              frame = frame;
              callers = callers;
              at = refl;
              instr = instr;
              cur =
                  q;
              to = to;
              channel = c;
              removes = removes;
              is = is;
              channel_is = refl;
              goes = λ v. refl;
            }
            channel Recv (c ∷ d ∷ more) is = tt
            channel Send [] is = tt
            channel Send (c ∷ []) is = tt
            channel Send (c ∷ v ∷ []) is = record {
              frame = frame;
              callers = callers;
              at = refl;
              instr = instr;
              cur =
                  q;
              to = to;
              channel = c;
              sent = v;
              removes = removes;
              is = is;
              channel_is = refl;
              sent_is = refl;
              goes =
                  refl;
            }
            channel Send (c ∷ v ∷ w ∷ more) is = tt
            channel Close [] is = tt
            channel Close (c ∷ []) is = tt
            channel Close (c ∷ d ∷ more) is = tt
            channel (Get n) from is = tt
            channel (Set n) from is = tt
        by (Call to n from passes protects removes) is = called_there (slice_get (erased code).functions n)
          where
            called_there : (o : Option TacFn) → StandsAt code frame callers
                (at_tac_function (AtCall frame) n (operand_values frame from) o)
            called_there None = tt
            called_there (Some fn) = tt
        by (Go n from passes removes) is = started_there (slice_get (erased code).functions n)
          where
            started_there : (o : Option TacFn) → StandsAt code frame callers
                (at_tac_function (AtStart (moved_to frame (frame.next + 1))) n (operand_values frame from) o)
            started_there None = tt
            started_there (Some fn) = tt
        by (Print pieces from removes) is = tt
        by (Jump j removes) is = tt
        by (Branch v j removes k others) is = tt
        by (Return value) is = tt

-- the frames continue along an edge of a simple instruction
pub record OnFrom (code : Code) (frames next : List TacFrame) : Type 0 where
  pub frame : TacFrame
  pub callers : List TacFrame
  pub at : frames ≡ frame ∷ callers
  pub instr : CodeInstr
  pub cur : current code frame ≡ Some instr
  pub simple : IsSimple instr.op
  pub frame' : TacFrame
  pub next_is : next ≡ frame' ∷ callers
  pub function : frame'.function ≡ frame.function
  pub edge : Contains {X = ℕ × List ℕ} (edges instr.op frame.next) (frame'.next, removes_behind frame instr.op)

action_edge : (op : CodeOp) (frame : TacFrame) (to : Option ℕ) (action : Action) (from removes : List ℕ) → op
    ≡ Do to action from removes → Contains {X = ℕ × List ℕ} (edges op frame.next)
    (frame.next + 1, removes_behind frame op)
action_edge op frame to action from removes is = subst (λ (o : CodeOp).
    Contains {X = ℕ × List ℕ} (edges o frame.next) (frame.next + 1, removes_behind frame o)) (sym is)
    (contains_here {X = ℕ × List ℕ} (frame.next + 1, removes) [])

-- a receive continues along an edge
pub receive_goes : {code : Code} → {frames : List TacFrame} → {c : Value} → {go_on : Value → List TacFrame}
    → ReceivesAt code frames c go_on → (v : Value) → OnFrom code frames (go_on v)
receive_goes x v =
    record {
      frame = x.frame;
      callers = x.callers;
      at = x.at;
      instr = x.instr;
      cur = x.cur;
      simple =
          subst IsSimple (sym x.is) tt;
      frame' = frame_after_instr x.frame x.to v;
      next_is = x.goes v;
      function = refl;
      edge =
          action_edge x.instr.op x.frame x.to Recv (x.channel ∷ []) x.removes x.is;
    }

-- a send continues along an edge
pub send_goes : {code : Code} → {frames : List TacFrame} → {c v : Value} → {next : List TacFrame}
    → SendsAt code frames c v next → OnFrom code frames next
send_goes x =
    record {
      frame = x.frame;
      callers = x.callers;
      at = x.at;
      instr = x.instr;
      cur = x.cur;
      simple =
          subst IsSimple (sym x.is) tt;
      frame' = frame_after_instr x.frame x.to value.Nil;
      next_is = x.goes;
      function = refl;
      edge =
          action_edge x.instr.op x.frame x.to Send (x.channel ∷ x.sent ∷ []) x.removes x.is;
    }

-- what a goroutine owes after an instruction that neither calls, starts nor returns
pub after_simple : (code : Code) (h : Holder) (frame : TacFrame) (callers : List TacFrame) (op : CodeOp) (next : List TacFrame)
    → IsSimple op → holder_after code h frame callers op next
    ≡ record h { duties = map Remove (removes_behind frame op) ++ next_duties code next }
after_simple code h frame callers (Do to action from removes) next simple = refl
after_simple code h frame callers (Call to n from passes protects removes) next simple = absurd simple
after_simple code h frame callers (Go n from passes removes) next simple = absurd simple
after_simple code h frame callers (Print pieces from removes) next simple = refl
after_simple code h frame callers (Jump j removes) next simple = refl
after_simple code h frame callers (Branch v j removes k others) next simple = refl
after_simple code h frame callers (Return value) next simple = absurd simple

-- the holder of one side
abbrev pub gone_on : {code : Code} → {frames next : List TacFrame} → OnFrom code frames next → Holder → Holder
gone_on {code} x h = record h {
  duties = map Remove (removes_behind x.frame x.instr.op)
      ++ next_duties code (x.frame' ∷ x.callers);
}

-- what a goroutine owes after its side of a meeting
pub side_is : (code : Code) (h : Holder) (frames next : List TacFrame) (x : OnFrom code frames next)
    → side_after code h frames next ≡ gone_on x h
side_is code h frames next x =
    ap (λ f. side_after code h f next) x.at
    ∙ ap (side_by code h x.frame x.callers next) x.cur
    ∙ after_simple code h x.frame x.callers x.instr.op next x.simple
    ∙ ap (λ n. record h { duties = map Remove (removes_behind x.frame x.instr.op) ++ next_duties code n }) x.next_is

pub allotted_is : (page_words : ℕ) (h : Holder) (region : Option Region) (object : Option Object)
    → Yields (λ (given : Holder × List Region). SameHolder h given.0 × Allots region object given.1)
    (allotted page_words h region object)
allotted_is page_words h region None =
    record { fact = (record { fills = h.fills; reserved = h.reserved; same = refl }, refl) }
allotted_is page_words h None (Some object) = record { fact = tt }
allotted_is page_words h (Some r) (Some object) =
    yields_if (is_spread page_words object) (spread_out page_words h r object)
    (placed page_words h r object (fill_of h.fills r)) (by _ h.fills 0) (go (fill_of h.fills r))
  where
    by : (b : Bool) (fills : List (Region × ℕ)) (reserved : ℕ) → Yields (λ (given : Holder × List Region).
        SameHolder h given.0 × Allots (Some r) (Some object) given.1)
        (if b then Some (record h { fills = fills; reserved = reserved }, r ∷ []) else None)
    by true fills reserved = record { fact = (record { fills = fills; reserved = reserved; same = refl }, refl) }
    by false fills reserved = record { fact = tt }

    go : (o : Option ℕ) → Yields (λ (given : Holder × List Region). SameHolder h given.0
        × Allots (Some r) (Some object) given.1) (placed page_words h r object o)
    go None = record { fact = tt }
    go (Some used) = by _ _ h.reserved

-- what is ready owes nothing, has no offer to acknowledge, and touches what is live
pub record Ready (s : RegionState) (h : Holder) (frame : TacFrame) (instr : CodeInstr) : Type 0 where
  pub none : h.duties ≡ []
  pub free : may_go h.offer ≡ true
  pub live : may_touch s (touched frame instr.op) ≡ true

-- what the machine's test says that a goroutine is ready
pub ready_is : (code : Code) (s : RegionState) (h : Holder) (frame : TacFrame) (callers : List TacFrame) (instr : CodeInstr)
    → current code frame ≡ Some instr → is_ready code s h (frame ∷ callers) ≡ true → Ready s h frame instr
ready_is code s h frame callers instr cur r = go (has_none h.duties) refl (may_go h.offer) refl
    (ap (λ o. has_none h.duties && may_go h.offer && touches s frame o) (sym cur) ∙ r)
  where
    go : (a : Bool) → has_none h.duties ≡ a → (b : Bool) → may_go h.offer ≡ b
        → (a && b && may_touch s (touched frame instr.op)) ≡ true → Ready s h frame instr
    go true ea true eb l = record { none = none_owed h.duties ea; free = eb; live = l }
    go true ea false eb l = absurd (true≢false (sym l))
    go false ea b eb l = absurd (true≢false (sym l))

-- an instruction of one goroutine
pub record OneDone (code : Code) (page_words : ℕ) (s : RegionState) (g : ℕ) (t : RegionState) : Type 0 where
  pub running : s.plain.ended ≡ None
  pub h : Holder
  pub there : slice_get s.holders g ≡ Some h
  pub frame : TacFrame
  pub callers : List TacFrame
  pub at : slice_get s.plain.goroutines g ≡ Some (frame ∷ callers)
  pub instr : CodeInstr
  pub cur : current code frame ≡ Some instr
  pub ready : Ready s h frame instr
  pub a : Acted
  pub acts : alone (erased code) s.plain.memory (frame ∷ callers) ≡ Some a
  pub given : Holder × List Region
  pub same : SameHolder h given.0
  pub allots : Allots (making_region (function_at code frame) (top_names h.environments) instr.op)
      (new_object s.plain (after s.plain g a)) given.1
  pub fits : allotted page_words h (making_region (function_at code frame) (top_names h.environments) instr.op)
      (new_object s.plain (after s.plain g a)) ≡ Some given
  pub is : t ≡ instructed_with code s g frame callers instr (after s.plain g a) given

-- a step of one goroutine, unfolded
pub one_done : (code : Code) (page_words : ℕ) (s : RegionState) (g : ℕ)
    → Yields (OneDone code page_words s g) (region_step code page_words s (Instruct (One g)))
one_done code page_words s g = runs s.plain.ended refl
  where
    holder : s.plain.ended ≡ None → (frames : List TacFrame) → slice_get s.plain.goroutines g ≡ Some frames → (a : Acted)
        → alone (erased code) s.plain.memory frames ≡ Some a → (o : Option Holder) → slice_get s.holders g ≡ o
        → Yields (OneDone code page_words s g) (one_instructed code page_words s g o frames (after s.plain g a))
    holder e0 frames q a e None w = yields_none
    holder e0 [] q a e (Some h) w = yields_none
    holder e0 (frame ∷ callers) q a e (Some h) w =
        yields_where (is_ready code s h (frame ∷ callers)) _ (λ r. at (current code frame) refl r)
      where
        at : (o : Option CodeInstr) → current code frame ≡ o → is_ready code s h (frame ∷ callers) ≡ true
            → Yields (OneDone code page_words s g) (option_and_then
            (instructed code page_words s g h frame callers (after s.plain g a)) o)
        at None c r = yields_none
        at (Some instr) c r =
            yields_with (λ (given : Holder × List Region). (SameHolder h given.0
            × Allots (making_region (function_at code frame) (top_names h.environments) instr.op)
            (new_object s.plain (after s.plain g a)) given.1)
            × (allotted page_words h (making_region (function_at code frame) (top_names h.environments) instr.op)
            (new_object s.plain (after s.plain g a)) ≡ Some given))
            (some_instructed code s g frame callers instr (after s.plain g a)) _
            (yields_itself _ (allotted_is page_words h (making_region (function_at code frame)
            (top_names h.environments) instr.op) (new_object s.plain (after s.plain g a))))
            (λ given x. record {
              fact = record {
                running = e0;
                h = h;
                there = w;
                frame = frame;
                callers = callers;
                at =
                    q;
                instr = instr;
                cur = c;
                ready = ready_is code s h frame callers instr c r;
                a = a;
                acts = e;
                given =
                    given;
                same = x.0.0;
                allots = x.0.1;
                fits = x.1;
                is = refl;
              };
            })

    acted : s.plain.ended ≡ None → (frames : List TacFrame) → slice_get s.plain.goroutines g ≡ Some frames
        → (o : Option Acted) → alone (erased code) s.plain.memory frames ≡ o
        → Yields (OneDone code page_words s g) (option_and_then (instruct code page_words s (One g))
        (option_map (after s.plain g) o))
    acted e0 frames q None e = yields_none
    acted e0 frames q (Some a) e = subst (λ x. Yields (OneDone code page_words s g)
        (one_instructed code page_words s g (slice_get s.holders g) x (after s.plain g a))) (sym (ap frames_in q))
        (holder e0 frames q a e (slice_get s.holders g) refl)

    go : s.plain.ended ≡ None → (o : Option (List TacFrame)) → slice_get s.plain.goroutines g ≡ o
        → Yields (OneDone code page_words s g) (option_and_then (instruct code page_words s (One g))
        (option_and_then (machine_alone (tac (erased code)) s.plain g) o))
    go e0 None q = yields_none
    go e0 (Some frames) q =
        subst (λ x. Yields (OneDone code page_words s g) (option_and_then (instruct code page_words s (One g)) x))
        (sym (alone_is (erased code) s.plain g e0 frames q))
        (acted e0 frames q (alone (erased code) s.plain.memory frames) refl)

    runs : (ended : Option End) → s.plain.ended ≡ ended → Yields (OneDone code page_words s g)
        (option_and_then (instruct code page_words s (One g))
        (unless_ended ended (picked (tac (erased code)) s.plain (One g))))
    runs None e0 = go e0 (slice_get s.plain.goroutines g) refl
    runs (Some x) e0 = yields_none

-- ---- a meeting

-- the state of the three-address machine after it: both have other frames
abbrev pub met_with : TacState → ℕ → ℕ → List TacFrame → List TacFrame → TacState
met_with p r u receiver sender = with_frames (with_frames p r receiver) u sender

-- a meeting that was done, with all that was tested
pub record MeetDone (code : Code) (s : RegionState) (r u : ℕ) (t : RegionState) : Type 0 where
  pub running : s.plain.ended ≡ None
  pub apart : nat_eq r u ≡ false
  pub h : Holder
  pub k : Holder
  pub there_h : slice_get s.holders r ≡ Some h
  pub there_k : slice_get s.holders u ≡ Some k
  pub receiver : List TacFrame
  pub sender : List TacFrame
  pub at_r : slice_get s.plain.goroutines r ≡ Some receiver
  pub at_u : slice_get s.plain.goroutines u ≡ Some sender
  pub c : Value
  pub d : Value
  pub v : Value
  pub go_on : Value → List TacFrame
  pub next : List TacFrame
  pub receives : ReceivesAt code receiver c go_on
  pub sends : SendsAt code sender d v next
  pub meets : meets_at s.plain.memory c d ≡ true
  pub ready_h : Ready s h receives.frame receives.instr
  pub ready_k : Ready s k sends.frame sends.instr
  pub standing : standing_at k.offer ≡ true
  pub plain : t.plain ≡ plain_after s (met_with s.plain r u (go_on v) next)
  pub owners : t.owners ≡ s.owners
  pub regions : t.regions ≡ s.regions
  pub global_pages : t.global_pages ≡ s.global_pages
  pub steps : t.steps ≡ s.steps + 1
  pub holders : t.holders ≡ slice_set (slice_set s.holders r (gone_on (receive_goes receives v) h)) u
      (record (gone_on (send_goes sends) k) { offer = taken_offer k.offer })

-- a meeting, unfolded
pub meet_done : (code : Code) (page_words : ℕ) (s : RegionState) (r u : ℕ)
    → Yields (MeetDone code s r u) (region_step code page_words s (Instruct (Meet r u)))
meet_done code page_words s r u = runs s.plain.ended refl
  where
    both : s.plain.ended ≡ None → nat_eq r u ≡ false → (a b : List TacFrame) → slice_get s.plain.goroutines r ≡ Some a
        → slice_get s.plain.goroutines u ≡ Some b → (c d v : Value) (go_on : Value → List TacFrame) (next : List TacFrame)
        (x : ReceivesAt code a c go_on) (y : SendsAt code b d v next) → meets_at s.plain.memory c d ≡ true
        → (o p : Option Holder) → slice_get s.holders r ≡ o → slice_get s.holders u ≡ p
        → Yields (MeetDone code s r u) (both_instructed code s r u o p (met_with s.plain r u (go_on v) next))
    both e0 ne a b qa qb c d v go_on next x y m None p e e' = yields_none
    both e0 ne a b qa qb c d v go_on next x y m (Some h) None e e' = yields_none
    both e0 ne a b qa qb c d v go_on next x y m (Some h) (Some k) e e' =
        yields_where (is_ready code s h (frames_of s.plain r) && is_ready code s k (frames_of s.plain u) && standing_at
        k.offer) _ (λ w.
        let w1 = and_split (is_ready code s h (frames_of s.plain r) && is_ready code s k (frames_of s.plain u))
        (standing_at k.offer) w in
        let w2 = and_split (is_ready code s h (frames_of s.plain r)) (is_ready code s k (frames_of s.plain u)) w1.0 in
        record {
          fact = record {
            running = e0;
            apart = ne;
            h = h;
            k = k;
            there_h = e;
            there_k = e';
            receiver = a;
            sender = b;
            at_r = qa;
            at_u = qb;
            c = c;
            d = d;
            v = v;
            go_on = go_on;
            next = next;
            receives = x;
            sends = y;
            meets = m;
            ready_h = ready_is code s h x.frame x.callers x.instr x.cur
                (subst (λ f. is_ready code s h f ≡ true) (ap frames_in qa ∙ x.at) w2.0);
            ready_k = ready_is code s k y.frame y.callers y.instr y.cur
                (subst (λ f. is_ready code s k f ≡ true) (ap frames_in qb ∙ y.at) w2.1);
            standing = w1.1;
            plain = refl;
            owners = refl;
            regions = refl;
            global_pages = refl;
            steps = refl;
            holders = ap (λ z. slice_set (slice_set s.holders r z) u
                (record (side_after code k (frames_of s.plain u) (frames_of (met_with s.plain r u (go_on v) next) u))
                { offer = taken_offer k.offer })) receiver_side
                ∙ ap (λ (z : Holder). slice_set (slice_set s.holders r (gone_on (receive_goes x v) h)) u
                (record z { offer = taken_offer k.offer })) sender_side;
          };
        })
      where
        sender_there : slice_get (slice_set s.plain.goroutines r (go_on v)) u ≡ Some b
        sender_there = get_set_other s.plain.goroutines r u (go_on v) ne ∙ qb

        receiver_side : side_after code h (frames_of s.plain r) (frames_of (met_with s.plain r u (go_on v) next) r)
            ≡ gone_on (receive_goes x v) h
        receiver_side =
            ap (λ f. side_after code h f (frames_of (met_with s.plain r u (go_on v) next) r)) (ap frames_in qa)
            ∙ ap (side_after code h a) (ap frames_in (get_set_other (slice_set s.plain.goroutines r (go_on v)) u r next
            (nat_ne_sym r u ne) ∙ get_set_same s.plain.goroutines r a (go_on v) qa))
            ∙ side_is code h a (go_on v) (receive_goes x v)

        sender_side : side_after code k (frames_of s.plain u) (frames_of (met_with s.plain r u (go_on v) next) u)
            ≡ gone_on (send_goes y) k
        sender_side =
            ap (λ f. side_after code k f (frames_of (met_with s.plain r u (go_on v) next) u)) (ap frames_in qb)
            ∙ ap (side_after code k b) (ap frames_in (get_set_same (slice_set s.plain.goroutines r (go_on v)) u b next
            sender_there))
            ∙ side_is code k b next (send_goes y)

    met_from : s.plain.ended ≡ None → nat_eq r u ≡ false → (a b : List TacFrame) → slice_get s.plain.goroutines r ≡ Some a
        → slice_get s.plain.goroutines u ≡ Some b → Yields (MeetDone code s r u)
        (option_and_then (instruct code page_words s (Meet r u)) (met_by (tac (erased code)) s.plain r u a b))
    met_from e0 ne [] b qo qp = yields_none
    met_from e0 ne (f ∷ fs) [] qo qp = yields_none
    met_from e0 ne (f ∷ fs) (h ∷ hs) qo qp = meets (tac_stand (erased code) f) (tac_stand (erased code) h)
        (stands_at_channel code f fs) (stands_at_channel code h hs)
      where
        meets : (x y : Stand TacFrame) → StandsAt code f fs x → StandsAt code h hs y
            → Yields (MeetDone code s r u) (option_and_then (instruct code page_words s (Meet r u))
            (met s.plain r u fs hs x y))
        meets (AtReceive c blank go_on) (AtSend d v place sender) ha hb = by (meets_at s.plain.memory c d) refl
          where
            by : (x : Bool) → meets_at s.plain.memory c d ≡ x
                → Yields (MeetDone code s r u) (option_and_then (instruct code page_words s (Meet r u))
                (if x then Some (met_with s.plain r u (go_on v ∷ fs) (sender ∷ hs)) else None))
            by true m = both e0 ne (f ∷ fs) (h ∷ hs) qo qp c d v (λ w. go_on w ∷ fs) (sender ∷ hs) ha hb m
                (slice_get s.holders r) (slice_get s.holders u) refl refl
            by false m = yields_none
        meets (AtReceive c blank go_on) (AtReceive d blank' go_on') ha hb = yields_none
        meets (AtReceive c blank go_on) (AtClose d place next) ha hb = yields_none
        meets (AtReceive c blank go_on) (AtCall next callee) ha hb = yields_none
        meets (AtReceive c blank go_on) (AtStart next child) ha hb = yields_none
        meets (AtReceive c blank go_on) Elsewhere ha hb = yields_none
        meets (AtSend c v place sender) y ha hb = yields_none
        meets (AtClose c place next) y ha hb = yields_none
        meets (AtCall next callee) y ha hb = yields_none
        meets (AtStart next child) y ha hb = yields_none
        meets Elsewhere y ha hb = yields_none

    go : s.plain.ended ≡ None → (b : Bool) → nat_eq r u ≡ b → (o p : Option (List TacFrame))
        → slice_get s.plain.goroutines r ≡ o → slice_get s.plain.goroutines u ≡ p
        → Yields (MeetDone code s r u) (option_and_then (instruct code page_words s (Meet r u))
        (if b then None else option_and_then (λ receivers. option_and_then
        (met_by (tac (erased code)) s.plain r u receivers) p) o))
    go e0 true e o p qo qp = yields_none
    go e0 false e None p qo qp = yields_none
    go e0 false e (Some a) None qo qp = yields_none
    go e0 false e (Some a) (Some b) qo qp = met_from e0 e a b qo qp

    runs : (ended : Option End) → s.plain.ended ≡ ended → Yields (MeetDone code s r u)
        (option_and_then (instruct code page_words s (Meet r u))
        (unless_ended ended (picked (tac (erased code)) s.plain (Meet r u))))
    runs None e0 = go e0 (nat_eq r u) refl (slice_get s.plain.goroutines r) (slice_get s.plain.goroutines u) refl refl
    runs (Some x) e0 = yields_none

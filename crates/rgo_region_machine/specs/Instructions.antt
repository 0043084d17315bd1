-- An instruction with its regions, of one goroutine or of two that meet. It has a step only if nothing is owed and what it touches
-- is live. So no run of this machine accesses a removed region, by definition; what has to be proved of checked code is that
-- this test never keeps a goroutine from stepping (`no_step_missing` of rgo_sound).
use Rattle.std.specs.Prelude.{ℕ, ◌+◌, Bool, true, false, ◌&&◌, List, [], ◌∷◌, ◌++◌, map, Option, Some, None}
use Rattle.std.specs.Prelude.{slice_get, slice_set, option_and_then, if◌then◌else◌}
use Rattle.rgo_machine.specs.declared.picks.End.{End}
use Rattle.rgo_machine.specs.declared.picks.End.TheVariants.{Exit, Trap}
use Rattle.rgo_machine.specs.declared.picks.Pick.{Pick}
use Rattle.rgo_machine.specs.declared.picks.Pick.TheVariants.{One, Meet}
use Rattle.rgo_tac.specs.Frames.{TacFrame}
use Rattle.rgo_tac.specs.Tac.{TacState}
use Rattle.rgo_code.specs.Code.{CodeOp, CodeInstr, Code, Call, Go, Return, Do, Print, Jump, Branch}
use Rattle.rgo_region_machine.specs.declared.regions.Region.{Region}
use Rattle.rgo_region_machine.specs.Duties.{may_go}
use Rattle.rgo_region_machine.specs.Objects.{making_region, new_object, touched, may_touch, allotted}
use Rattle.rgo_region_machine.specs.Owed.{code_function, function_at, current, entry_removes, formals_of, function_result_class}
use Rattle.rgo_region_machine.specs.Owed.{next_duties, removes_behind, caller_duties}
use Rattle.rgo_region_machine.specs.Owed.{passed, passed_regions, given_names, twice}
use Rattle.rgo_region_machine.specs.Regions.{without_all}
use Rattle.rgo_region_machine.specs.States.{Duty, Remove, Offer, NoOffer, Standing, Taken, Holder, Mark, Ended, RegionState}
use Rattle.rgo_region_machine.specs.States.{frames_of, environment_of, top_names, with_top, below}

-- ---- whether it can be done

-- whether nothing is owed
abbrev pub has_none : List Duty → Bool
has_none [] = true
has_none (d ∷ ds) = false

-- whether what the next instruction touches is live; false at the end of a body, where no instruction is next
abbrev pub touches : RegionState → TacFrame → Option CodeInstr → Bool
touches s frame None = false
touches s frame (Some i) = may_touch s (touched frame i.op)

-- whether the goroutine owes nothing, has no offer to acknowledge, and touches only what is live
abbrev pub is_ready : Code → RegionState → Holder → List TacFrame → Bool
is_ready code s h [] = false
is_ready code s h (frame ∷ callers) =
    has_none h.duties && may_go h.offer && touches s frame (current code frame)

-- ---- what is owed after it, and the regions of names

-- The holder after an instruction of a frame that neither calls, starts nor returns. Its removals come before the creations of the
-- next instruction, so that a loop which creates a region in each pass needs room for one.
abbrev pub holder_behind : Code → Holder → TacFrame → CodeOp → (next : List TacFrame) → Holder
holder_behind code h frame op next =
    record h { duties = map Remove (removes_behind frame op) ++ next_duties code next }

-- The holder after an instruction of a frame, by the frames after it. A call takes from the caller the names that it gives: the
-- callee removes them, and with them the stakes. After a `go` nothing is pending, since the child has those stakes. A
-- return drops the environment of the frame; checked code has no name left in it that keeps a stake (rule 14).
abbrev pub holder_after : Code → Holder → TacFrame → (callers : List TacFrame) → CodeOp → (next : List TacFrame) → Holder
holder_after code h frame callers (Call to n from passes protects removes) next =
    record h {
      environments =
          environment_of (function_result_class (code_function code n))
          (passed (formals_of (code_function code n)) (passed_regions (top_names h.environments) passes))
          ∷ with_top h.environments
          (without_all (top_names h.environments)
          (given_names (function_result_class (code_function code n)) (formals_of (code_function code n)) passes protects));
      duties = map Remove (entry_removes (code_function code n)) ++ next_duties code next;
    }
holder_after code h frame callers (Go n from passes removes) next =
    record h { pending = []; duties = map Remove removes ++ next_duties code next }
holder_after code h frame callers (Return value) next =
    record h {
      environments = below h.environments;
      duties = caller_duties code h callers ++ next_duties code next;
    }
holder_after code h frame callers (Do to action from removes) next =
    holder_behind code h frame (Do to action from removes) next
holder_after code h frame callers (Print pieces from removes) next =
    holder_behind code h frame (Print pieces from removes) next
holder_after code h frame callers (Jump target removes) next = holder_behind code h frame (Jump target removes) next
holder_after code h frame callers (Branch test target removes other otherwise) next =
    holder_behind code h frame (Branch test target removes other otherwise) next

-- The holder of the goroutine that an instruction starts, if it starts one. The pending stakes become its own, and are not taken
-- by the child itself: until its first step the regions that it was passed must not end.
abbrev pub child_holder : Code → Holder → CodeOp → (child : List TacFrame) → List Holder
child_holder code h (Go n from passes removes) child =
    let given = passed_regions (top_names h.environments) passes in
    record {
      stakes = h.pending;
      pending = [];
      environments =
          environment_of (function_result_class (code_function code n)) (passed (formals_of (code_function code n)) given) ∷ [];
      base = twice given;
      fills = [];
      reserved = 0;
      duties = map Remove (entry_removes (code_function code n)) ++ next_duties code child;
      offer = NoOffer;
    } ∷ []
child_holder code h (Do to action from removes) child = []
child_holder code h (Call to n from passes protects removes) child = []
child_holder code h (Print pieces from removes) child = []
child_holder code h (Jump target removes) child = []
child_holder code h (Branch test target removes other otherwise) child = []
child_holder code h (Return value) child = []

-- the frames of the last goroutine, which after a `go` is the one that it started
abbrev pub last_frames : List (List TacFrame) → List TacFrame
last_frames [] = []
last_frames (f ∷ []) = f
last_frames (f ∷ g ∷ fs) = last_frames (g ∷ fs)

-- a trap leaves the holder as it was: the instruction has taken none of its ways, so nothing is owed after it
abbrev pub unless_trapped : Option End → (before after : Holder) → Holder
unless_trapped None before after = after
unless_trapped (Some Exit) before after = after
unless_trapped (Some (Trap trap place)) before after = before

-- ---- the end

-- the first end is kept: what goroutines do after it does not change how the run ended
abbrev pub mark_with_end : Option Mark → Option End → Option Mark
mark_with_end (Some mark) new = Some mark
mark_with_end None None = None
mark_with_end None (Some end) = Some (Ended end)

-- the new print, or the old one if the run has already ended
abbrev pub printed_if : Option Mark → (old new : List ℕ) → List ℕ
printed_if None old new = new
printed_if (Some mark) old new = old

-- The three-address machine after an instruction. What is printed after the end is dropped. Its own `ended` is cleared, since the
-- machine has no step once that is set, and here other goroutines may still step; the end is in the mark.
abbrev pub plain_after : RegionState → TacState → TacState
plain_after s next = record next { printed = printed_if s.mark s.plain.printed next.printed; ended = None }

-- ---- one goroutine

-- The state after an instruction, by the holder and the owner after the object that it made was placed. The child is built from the
-- holder before the instruction, which still has the pending stakes.
abbrev pub instructed_with
    : Code → RegionState → ℕ → TacFrame → List TacFrame → CodeInstr → TacState → Holder × List Region → RegionState
instructed_with code s g frame callers i next given = record s {
  plain = plain_after s next;
  owners = s.owners ++ given.1;
  holders =
      slice_set s.holders g
      (unless_trapped next.ended given.0 (holder_after code given.0 frame callers i.op (frames_of next g)))
      ++ child_holder code given.0 i.op (last_frames next.goroutines);
  steps = s.steps + 1;
  mark = mark_with_end s.mark next.ended;
}

-- the same as an option, for `option_and_then`
abbrev pub some_instructed
    : Code → RegionState → ℕ → TacFrame → List TacFrame → CodeInstr → TacState → Holder × List Region → Option RegionState
some_instructed code s g frame callers i next given = Some (instructed_with code s g frame callers i next given)

-- The state after instruction i of goroutine g, with holder h, where `next` is the three-address machine's state after it; none if the
-- instruction makes an object that has no region or not all its pages yet.
abbrev pub instructed
    : Code → ℕ → RegionState → ℕ → Holder → TacFrame → List TacFrame → TacState → CodeInstr → Option RegionState
instructed code page_words s g h frame callers next i =
    option_and_then (some_instructed code s g frame callers i next)
    (allotted page_words h (making_region (function_at code frame) (top_names h.environments) i.op)
    (new_object s.plain next))

-- the same for the instruction at which the frame is; none at the end of a body
abbrev pub instructed_at
    : Code → ℕ → RegionState → ℕ → Holder → TacFrame → List TacFrame → TacState → Option RegionState
instructed_at code page_words s g h frame callers next =
    option_and_then (instructed code page_words s g h frame callers next) (current code frame)

-- the same for any goroutine; none if it does not exist, has returned or is not ready
abbrev pub one_instructed
    : Code → ℕ → RegionState → ℕ → Option Holder → List TacFrame → TacState → Option RegionState
one_instructed code page_words s g None frames next = None
one_instructed code page_words s g (Some h) [] next = None
one_instructed code page_words s g (Some h) (frame ∷ callers) next =
    if is_ready code s h (frame ∷ callers) then instructed_at code page_words s g h frame callers next else None

-- ---- two that meet

-- whether an offer is open, and not taken yet
abbrev pub standing_at : Offer → Bool
standing_at (Standing channel) = true
standing_at NoOffer = false
standing_at (Taken channel) = false

-- the offer, after a receiver has taken it
abbrev pub taken_offer : Offer → Offer
taken_offer (Standing channel) = Taken channel
taken_offer NoOffer = NoOffer
taken_offer (Taken channel) = Taken channel

-- the holder of one of the two after the meeting, by the instruction at which its frame was; without one it stays as it is
abbrev pub side_by : Code → Holder → TacFrame → List TacFrame → List TacFrame → Option CodeInstr → Holder
side_by code h frame callers next None = h
side_by code h frame callers next (Some i) = holder_after code h frame callers i.op next

-- the holder of one of the two after the meeting
abbrev pub side_after : Code → Holder → List TacFrame → List TacFrame → Holder
side_after code h [] next = h
side_after code h (frame ∷ callers) next = side_by code h frame callers next (current code frame)

-- A meeting takes the sender's open offer: a receiver cannot meet a sender that has not offered. It makes no object, so owners and
-- pages stay.
abbrev pub both_instructed
    : Code → RegionState → (r t : ℕ) → (receiver sender : Option Holder) → TacState → Option RegionState
both_instructed code s r t (Some receiver) (Some sender) next =
    let receiver_frames = frames_of s.plain r in
    let sender_frames = frames_of s.plain t in
    if is_ready code s receiver receiver_frames && is_ready code s sender sender_frames && standing_at sender.offer
    then
    Some (record s {
      plain = plain_after s next;
      holders =
          slice_set (slice_set s.holders r (side_after code receiver receiver_frames (frames_of next r)))
          t (record (side_after code sender sender_frames (frames_of next t)) { offer = taken_offer sender.offer });
      steps = s.steps + 1;
      mark = mark_with_end s.mark next.ended;
    })
    else None
both_instructed code s r t _ _ next = None

-- an instruction, by the state to which the three-address machine's step leads; a pick without such a step never comes here
abbrev pub instruct : Code → ℕ → RegionState → Pick → TacState → Option RegionState
instruct code page_words s (One g) next =
    one_instructed code page_words s g (slice_get s.holders g) (frames_of s.plain g) next
instruct code page_words s (Meet r t) next =
    both_instructed code s r t (slice_get s.holders r) (slice_get s.holders t) next

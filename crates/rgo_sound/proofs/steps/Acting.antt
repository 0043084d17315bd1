-- What one goroutine does alone, as one record: frames, memory, a started goroutine, printed bytes, a trap.
-- `alone` is a function of a memory and of frames, and of no other goroutine; so two memories can be compared, as the bound on pages
-- and the interpreter with its reduced memory need it. That it is the machine's step is `alone_is`.
use Rattle.std.proofs.Common.{◌≡◌, ℕ, zero, suc, ◌+◌, List, [], ◌∷◌, ◌++◌, Option, Some, None, refl, sym, ap, ◌∙◌}
use Rattle.std.proofs.Common.{slice_get, slice_set, if◌then◌else◌}
use Rattle.std.proofs.lemmas.Option.{same_Some}
use Rattle.std.specs.Option.{option_map}
use Rattle.std.proofs.lemmas.List.{append-nil}
use Rattle.rgo_typed.specs.declared.actions.Action.{Action}
use Rattle.rgo_typed.specs.declared.actions.Action.TheVariants as action
use Rattle.rgo_typed.specs.declared.programs.Struct.{Struct}
use Rattle.rgo_typed.specs.declared.types.Type.{«Type»}
use Rattle.rgo_memory.specs.declared.values.Value.{Value}
use Rattle.rgo_memory.specs.declared.values.Value.TheVariants as value
use Rattle.rgo_memory.specs.Channels.{receive, send, close}
use Rattle.rgo_memory.specs.Effects.{Does, Traps, Effect}
use Rattle.rgo_memory.specs.Memory.{Memory}
use Rattle.rgo_memory.specs.Perform.{perform}
use Rattle.rgo_memory.specs.Values.{zero_of}
use Rattle.rgo_machine.specs.declared.picks.End.{End}
use Rattle.rgo_machine.specs.declared.picks.End.TheVariants.{Exit, Trap}
use Rattle.rgo_machine.specs.Actions.{is_true, at_channel, effected as machine_effected}
use Rattle.rgo_machine.specs.Lines.{printed_line}
use Rattle.rgo_machine.specs.Machines as machine
use Rattle.rgo_machine.specs.Machines.{AtCall, AtStart, Elsewhere}
use Rattle.rgo_tac.specs.Code.{Op, Do, Call, Go, Print, Jump, Branch, Return, Instr, TacFn, Tac}
use Rattle.rgo_tac.specs.Frames.{TacFrame, value_at, operand_values, moved_to, frame_after_instr, new_tac_frame}
use Rattle.rgo_tac.specs.Steps.{instr_of, destination_type, tac_resumed, stand_at_instr, stand_before_op, at_tac_function, act_of_op, done_at}
use Rattle.rgo_tac.specs.Tac.{TacState, tac}

pub record Acted : Type 0 where
  pub memory : Memory
  pub frames : List TacFrame
  pub started : List (List TacFrame)
  pub printed : List ℕ
  pub trap : Option End

-- the end that an act causes: its trap, or the exit when `main` has returned
abbrev pub end_by : ℕ → List TacFrame → Option End → Option End
end_by g frames (Some e) = Some e
end_by zero [] None = Some Exit
end_by zero (f ∷ fs) None = None
end_by (suc g) frames None = None

-- the state of the machine after goroutine g has done this
abbrev pub after : TacState → ℕ → Acted → TacState
after s g a = record {
  memory = a.memory;
  goroutines = slice_set s.goroutines g a.frames ++ a.started;
  printed = s.printed ++ a.printed;
  ended = end_by g a.frames a.trap;
}

-- ---- acts

-- other memory and frames, and nothing else
abbrev pub moves : Memory → List TacFrame → Option Acted
moves m frames = Some (record { memory = m; frames = frames; started = []; printed = []; trap = None })

-- a goroutine is started
abbrev pub starts : Memory → List TacFrame → List TacFrame → Option Acted
starts m frames child =
    Some (record { memory = m; frames = frames; started = child ∷ []; printed = []; trap = None })

-- bytes are printed
abbrev pub prints : Memory → List TacFrame → List ℕ → Option Acted
prints m frames bytes = Some (record { memory = m; frames = frames; started = []; printed = bytes; trap = None })

-- the run ends
abbrev pub traps : Memory → List TacFrame → End → Option Acted
traps m frames e = Some (record { memory = m; frames = frames; started = []; printed = []; trap = Some e })

-- without the value that it returns
abbrev pub silent : Effect → Effect
silent (Does m v) = Does m value.Nil
silent (Traps trap) = Traps trap

-- what an action does with these operands, an operation on a channel included
abbrev pub performed : List Struct → Action → «Type» → List Value → Memory → Option Effect
performed structs action.Recv ty (c ∷ []) m = receive m c (zero_of ty)
performed structs action.Send ty (c ∷ v ∷ []) m = option_map silent (send m c v)
performed structs action.Close ty (c ∷ []) m = Some (silent (close m c))
performed structs action ty values m = Some (perform structs action ty values m)

-- the effect of an action on the frame that does it
abbrev pub effected : Memory → TacFrame → List TacFrame → Option ℕ → ℕ → Option Effect → Option Acted
effected m frame callers to place None = None
effected m frame callers to place (Some (Does m' v)) = moves m' (frame_after_instr frame to v ∷ callers)
effected m frame callers to place (Some (Traps trap)) = traps m (frame ∷ callers) (Trap trap place)

-- the place of its trap; a receive never traps
abbrev pub trap_place : Action → ℕ → ℕ
trap_place action.Recv place = 0
trap_place action place = place

abbrev pub call : Memory → TacFrame → List TacFrame → ℕ → List Value → Option TacFn → Option Acted
call m frame callers n arguments None = moves m (moved_to frame (frame.next + 1) ∷ callers)
call m frame callers n arguments (Some fn) = moves m (new_tac_frame fn n arguments ∷ frame ∷ callers)

abbrev pub start : Memory → TacFrame → List TacFrame → ℕ → List Value → Option TacFn → Option Acted
start m frame callers n arguments None = moves m (moved_to frame (frame.next + 1) ∷ callers)
start m frame callers n arguments (Some fn) =
    starts m (moved_to frame (frame.next + 1) ∷ callers) (new_tac_frame fn n arguments ∷ [])

abbrev pub returned : Tac → Memory → Option Value → List TacFrame → Option Acted
returned code m value [] = moves m []
returned code m value (caller ∷ callers) = moves m (tac_resumed code caller value ∷ callers)

-- one instruction of a frame
abbrev pub act : Tac → Memory → Op → ℕ → TacFrame → List TacFrame → Option Acted
act code m (Do to action from) place frame callers =
    effected m frame callers to (trap_place action place)
    (performed code.structs action (destination_type code frame to) (operand_values frame from) m)
act code m (Call to n from) place frame callers =
    call m frame callers n (operand_values frame from) (slice_get code.functions n)
act code m (Go n from) place frame callers =
    start m frame callers n (operand_values frame from) (slice_get code.functions n)
act code m (Print pieces from) place frame callers =
    prints m (moved_to frame (frame.next + 1) ∷ callers) (printed_line pieces (operand_values frame from))
act code m (Jump target) place frame callers = moves m (moved_to frame target ∷ callers)
act code m (Branch test target other) place frame callers =
    moves m (moved_to frame (if is_true (value_at frame test) then target else other) ∷ callers)
act code m (Return value) place frame callers = returned code m (option_map (value_at frame) value) callers

abbrev pub act_at : Tac → Memory → Option Instr → TacFrame → List TacFrame → Option Acted
act_at code m None frame callers = moves m (frame ∷ callers)
act_at code m (Some i) frame callers = act code m i.op i.place frame callers

-- what the next instruction of these frames does
abbrev pub alone : Tac → Memory → List TacFrame → Option Acted
alone code m [] = None
alone code m (frame ∷ callers) = act_at code m (instr_of code frame) frame callers

-- ---- the machine's step, as an act

pub set_same : {X : Type 0} (xs : List X) (i : ℕ) (x : X) → slice_get xs i ≡ Some x → slice_set xs i x ≡ xs
set_same [] i x e = refl
set_same (y ∷ ys) zero x e = ap (λ z. z ∷ ys) (same_Some x y (sym e))
set_same (y ∷ ys) (suc i) x e = ap (λ zs. y ∷ zs) (set_same ys i x e)

-- a goroutine that has frames has not ended the run
pub no_end : (g : ℕ) (f : TacFrame) (fs : List TacFrame) → end_by g (f ∷ fs) None ≡ None
no_end zero f fs = refl
no_end (suc g) f fs = refl

module _ (code : Tac) (s : TacState) (g : ℕ) where
  returned_end : machine.end_of_return g ≡ end_by g [] None
  returned_end = go g
    where
      go : (g : ℕ) → machine.end_of_return g ≡ end_by g [] None
      go zero = refl
      go (suc g) = refl

  module _ (running : s.ended ≡ None) where
    on : (m : Memory) (f : TacFrame) (fs : List TacFrame) (started : List (List TacFrame)) (bytes : List ℕ)
        → (goroutines : List (List TacFrame)) → goroutines ≡ slice_set s.goroutines g (f ∷ fs) ++ started
        → (printed : List ℕ) → printed ≡ s.printed ++ bytes
        → ◌≡◌ {A = TacState} (record { memory = m; goroutines = goroutines; printed = printed; ended = s.ended })
        (after s g (record { memory = m; frames = f ∷ fs; started = started; printed = bytes; trap = None }))
    on m f fs started bytes goroutines p printed q = λ i. record {
      memory = m;
      goroutines = p i;
      printed = q i;
      ended = (running ∙ sym (no_end g f fs)) i;
    }

    goes_on : (m : Memory) (f : TacFrame) (fs : List TacFrame)
        → ◌≡◌ {A = TacState} (record (machine.with_frames s g (f ∷ fs)) { memory = m })
        (after s g (record { memory = m; frames = f ∷ fs; started = []; printed = []; trap = None }))
    goes_on m f fs =
        on m f fs [] [] _ (sym (append-nil (slice_set s.goroutines g (f ∷ fs)))) _ (sym (append-nil s.printed))

    stays : (frames : List TacFrame) (e : End) → slice_get s.goroutines g ≡ Some frames
        → ◌≡◌ {A = TacState} (record s { ended = Some e })
        (after s g (record { memory = s.memory; frames = frames; started = []; printed = []; trap = Some e }))
    stays frames e at = λ i. record {
      memory = s.memory;
      goroutines = (sym (set_same s.goroutines g frames at) ∙ sym (append-nil (slice_set s.goroutines g frames))) i;
      printed = sym (append-nil s.printed) i;
      ended = Some e;
    }

    -- ---- by the instruction

    module _ (frame : TacFrame) (callers : List TacFrame) (at : slice_get s.goroutines g ≡ Some (frame ∷ callers)) where
      -- what it does by itself
      effects : (to : Option ℕ) (place : ℕ) (effect : Effect)
          → Some (machine.acted (tac code) s g callers (machine_effected (frame_after_instr frame to) place effect))
          ≡ option_map (after s g) (effected s.memory frame callers to place (Some effect))
      effects to place (Does m v) = ap Some (goes_on m (frame_after_instr frame to v) callers)
      effects to place (Traps trap) = ap Some (stays (frame ∷ callers) (Trap trap place) at)

      -- an operation on a channel
      operates : (to : Option ℕ) (place : ℕ) (effect : Option Effect)
          → option_map (machine.operated s g callers (frame_after_instr frame to) place) effect
          ≡ option_map (after s g) (effected s.memory frame callers to place effect)
      operates to place None = refl
      operates to place (Some (Does m v)) = ap Some (goes_on m (frame_after_instr frame to v) callers)
      operates to place (Some (Traps trap)) = ap Some (stays (frame ∷ callers) (Trap trap place) at)

      operates_silent : (to : Option ℕ) (place : ℕ) (effect : Option Effect)
          → option_map (machine.operated s g callers (λ _. frame_after_instr frame to value.Nil) place) effect
          ≡ option_map (after s g) (effected s.memory frame callers to place (option_map silent effect))
      operates_silent to place None = refl
      operates_silent to place (Some (Does m v)) = ap Some (goes_on m (frame_after_instr frame to value.Nil) callers)
      operates_silent to place (Some (Traps trap)) = ap Some (stays (frame ∷ callers) (Trap trap place) at)

      elsewhere : (o : Option Instr) → instr_of code frame ≡ o
          → machine.stepped (tac code) s g frame callers Elsewhere
          ≡ Some (machine.acted (tac code) s g callers (done_at code s.memory frame o))
      elsewhere o q = ap (λ i. Some (machine.acted (tac code) s g callers (done_at code s.memory frame i))) q

      module _ (i : Instr) (q : instr_of code frame ≡ Some i) where
        -- an action
        module _ (to : Option ℕ) (from : List ℕ) where
          other : (a : Action) → i.op ≡ Do to a from → (vs : List Value) → operand_values frame from ≡ vs
              → machine.stepped (tac code) s g frame callers Elsewhere
              ≡ option_map (after s g) (effected s.memory frame callers to i.place
              (Some (perform code.structs a (destination_type code frame to) vs s.memory)))
          other a is vs e =
              elsewhere (Some i) q
              ∙ ap (λ op. Some (machine.acted (tac code) s g callers (act_of_op code s.memory frame op i.place))) is
              ∙ ap (λ us. Some (machine.acted (tac code) s g callers (machine_effected (frame_after_instr frame to) i.place
              (perform code.structs a (destination_type code frame to) us s.memory)))) e
              ∙ effects to i.place (perform code.structs a (destination_type code frame to) vs s.memory)

          acts : (a : Action) → i.op ≡ Do to a from → (vs : List Value) → operand_values frame from ≡ vs
              → machine.stepped (tac code) s g frame callers
              (at_channel a (zero_of (destination_type code frame to)) i.place (frame_after_instr frame to) vs)
              ≡ option_map (after s g) (effected s.memory frame callers to (trap_place a i.place)
              (performed code.structs a (destination_type code frame to) vs s.memory))
          acts (action.Int k) is vs e = other _ is vs e
          acts (action.Bool b) is vs e = other _ is vs e
          acts action.Nil is vs e = other _ is vs e
          acts action.Copy is vs e = other _ is vs e
          acts (action.Binary op) is vs e = other _ is vs e
          acts action.Neg is vs e = other _ is vs e
          acts action.Not is vs e = other _ is vs e
          acts action.IsNil is vs e = other _ is vs e
          acts action.Len is vs e = other _ is vs e
          acts (action.Load k) is vs e = other _ is vs e
          acts (action.Store k) is vs e = other _ is vs e
          acts action.At is vs e = other _ is vs e
          acts action.Put is vs e = other _ is vs e
          acts (action.New n) is vs e = other _ is vs e
          acts action.Slice is vs e = other _ is vs e
          acts action.Chan is vs e = other _ is vs e
          acts action.Recv is [] e = other _ is [] e
          acts action.Recv is (c ∷ []) e = operates to 0 (receive s.memory c (zero_of (destination_type code frame to)))
          acts action.Recv is (c ∷ d ∷ []) e = other _ is (c ∷ d ∷ []) e
          acts action.Recv is (c ∷ d ∷ v ∷ []) e = other _ is (c ∷ d ∷ v ∷ []) e
          acts action.Recv is (c ∷ d ∷ v ∷ w ∷ vs) e = other _ is (c ∷ d ∷ v ∷ w ∷ vs) e
          acts action.Send is [] e = other _ is [] e
          acts action.Send is (c ∷ []) e = other _ is (c ∷ []) e
          acts action.Send is (c ∷ v ∷ []) e = operates_silent to i.place (send s.memory c v)
          acts action.Send is (c ∷ v ∷ w ∷ vs) e = other _ is (c ∷ v ∷ w ∷ vs) e
          acts action.Close is [] e = other _ is [] e
          acts action.Close is (c ∷ []) e = operates_silent to i.place (Some (close s.memory c))
          acts action.Close is (c ∷ d ∷ vs) e = other _ is (c ∷ d ∷ vs) e
          acts (action.Get n) is vs e = other _ is vs e
          acts (action.Set n) is vs e = other _ is vs e

        -- what it does by itself, if it is neither at a call nor at a start
        by_itself : (op : Op) → i.op ≡ op
            → machine.stepped (tac code) s g frame callers Elsewhere
            ≡ Some (machine.acted (tac code) s g callers (act_of_op code s.memory frame op i.place))
        by_itself op is =
            elsewhere (Some i) q
            ∙ ap (λ op. Some (machine.acted (tac code) s g callers (act_of_op code s.memory frame op i.place))) is

        calls : (to : Option ℕ) (n : ℕ) (from : List ℕ) → i.op ≡ Call to n from → (o : Option TacFn)
            → machine.stepped (tac code) s g frame callers
            (at_tac_function (AtCall frame) n (operand_values frame from) o)
            ≡ option_map (after s g) (call s.memory frame callers n (operand_values frame from) o)
        calls to n from is None =
            by_itself (Call to n from) is ∙ ap Some (goes_on s.memory (moved_to frame (frame.next + 1)) callers)
        calls to n from is (Some fn) =
            ap Some (goes_on s.memory (new_tac_frame fn n (operand_values frame from)) (frame ∷ callers))

        goes : (n : ℕ) (from : List ℕ) → i.op ≡ Go n from → (o : Option TacFn)
            → machine.stepped (tac code) s g frame callers
            (at_tac_function (AtStart (moved_to frame (frame.next + 1))) n (operand_values frame from) o)
            ≡ option_map (after s g) (start s.memory frame callers n (operand_values frame from) o)
        goes n from is None =
            by_itself (Go n from) is ∙ ap Some (goes_on s.memory (moved_to frame (frame.next + 1)) callers)
        goes n from is (Some fn) =
            ap Some (on s.memory (moved_to frame (frame.next + 1)) callers
            ((new_tac_frame fn n (operand_values frame from) ∷ []) ∷ []) [] _ refl _ (sym (append-nil s.printed)))

        returns : (value : Option Value) (callers' : List TacFrame)
            → Some (machine.state_after_return (tac code) s g callers' value)
            ≡ option_map (after s g) (returned code s.memory value callers')
        returns value [] = ap Some (λ j. record {
          memory = s.memory;
          goroutines = sym (append-nil (slice_set s.goroutines g [])) j;
          printed = sym (append-nil s.printed) j;
          ended = returned_end j;
        })
        returns value (caller ∷ callers') = ap Some (goes_on s.memory (tac_resumed code caller value) callers')

        by_op : (op : Op) → i.op ≡ op
            → machine.stepped (tac code) s g frame callers (stand_before_op code frame op i.place)
            ≡ option_map (after s g) (act code s.memory op i.place frame callers)
        by_op (Do to a from) is = acts to from a is (operand_values frame from) refl
        by_op (Call to n from) is = calls to n from is (slice_get code.functions n)
        by_op (Go n from) is = goes n from is (slice_get code.functions n)
        by_op (Print pieces from) is =
            by_itself (Print pieces from) is
            ∙ ap Some (on s.memory (moved_to frame (frame.next + 1)) callers [] (printed_line pieces (operand_values frame from))
            _ (sym (append-nil (slice_set s.goroutines g (moved_to frame (frame.next + 1) ∷ callers)))) _ refl)
        by_op (Jump target) is =
            by_itself (Jump target) is ∙ ap Some (goes_on s.memory (moved_to frame target) callers)
        by_op (Branch test target other) is =
            by_itself (Branch test target other) is
            ∙ ap Some (goes_on s.memory (moved_to frame (if is_true (value_at frame test) then target else other))
            callers)
        by_op (Return value) is =
            by_itself (Return value) is ∙ returns (option_map (value_at frame) value) callers

      by : (o : Option Instr) → instr_of code frame ≡ o
          → machine.stepped (tac code) s g frame callers (stand_at_instr code frame o)
          ≡ option_map (after s g) (act_at code s.memory o frame callers)
      by None q = elsewhere None q ∙ ap Some (goes_on s.memory frame callers)
      by (Some i) q = by_op i q i.op refl

    -- the step of one goroutine alone is what it does
    pub alone_is : (frames : List TacFrame) → slice_get s.goroutines g ≡ Some frames
        → machine.alone (tac code) s g frames ≡ option_map (after s g) (alone code s.memory frames)
    alone_is [] at = refl
    alone_is (frame ∷ callers) at = by frame callers at (instr_of code frame) refl

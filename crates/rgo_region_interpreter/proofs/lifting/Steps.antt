-- A step of the three-address machine over what the code keeps of the memory is its step over the whole memory, if it touches no object
-- of a removed region. It goes both ways: neither has a step that the other lacks, so a wait or a deadlock of the code is one of the
-- machine.
use Rattle.std.proofs.Common.{◌≡◌, ℕ, ◌≤◌, Bool, true, false, List, [], ◌∷◌, ◌++◌, length, Option, Some, None, refl}
use Rattle.std.proofs.Common.{sym, ap, ◌∙◌, subst, nat_eq, nat_lt, arith, if◌then◌else◌, slice_get, slice_set}
use Rattle.std.proofs.Common.{option_map, option_and_then}
use Rattle.std.specs.Prelude.{◌==◌}
use Rattle.std.proofs.lemmas.List.{append-nil}
use Rattle.rgo_typed.specs.declared.actions.Action.TheVariants.{Recv}
use Rattle.rgo_memory.specs.declared.values.Value.{Value}
use Rattle.rgo_memory.specs.declared.values.Value.TheVariants as value
use Rattle.rgo_memory.specs.Channels.{is_meeting_at, meets_at}
use Rattle.rgo_memory.specs.Effects.{Does, Effect, Traps}
use Rattle.rgo_memory.specs.Memory.{Memory}
use Rattle.rgo_machine.specs.declared.picks.End.{End}
use Rattle.rgo_machine.specs.declared.picks.Pick.{Pick}
use Rattle.rgo_machine.specs.declared.picks.Pick.TheVariants.{One, Meet}
use Rattle.rgo_machine.specs.Machines.{Stand, AtReceive, AtSend, AtClose, AtCall, AtStart, Elsewhere}
use Rattle.rgo_machine.specs.Machines.{alone as machine_alone, meet, met, met_by, unless_ended, with_frames}
use Rattle.rgo_tac.specs.Code.{TacFn}
use Rattle.rgo_tac.specs.Frames.{TacFrame, value_at, operand_values}
use Rattle.rgo_tac.specs.Steps.{tac_stand, destination_type}
use Rattle.rgo_tac.specs.Tac.{TacState, tac, tac_step}
use Rattle.rgo_code.specs.Code.{CodeInstr, CodeOp, Code, Do, Call, Go, Print, Jump, Branch, Return}
use Rattle.rgo_code.specs.Erasure.{erased, erased_instr, erased_op}
use Rattle.rgo_region_machine.specs.declared.regions.Region.{Region}
use Rattle.rgo_region_machine.specs.declared.regions.Region.TheVariants.{Global as GlobalRegion, Numbered}
use Rattle.rgo_region_machine.specs.Objects.{may_touch, owner_live, touched, touched_by}
use Rattle.rgo_region_machine.specs.Owed.{current}
use Rattle.rgo_region_machine.specs.Regions.{RegionInfo, has_stakes, is_live}
use Rattle.rgo_region_machine.specs.States.{RegionState}
use Rattle.rgo_sound.proofs.steps.Acting.{Acted, act, act_at, after, alone, alone_is, call, effected, moves, returned, start}
use Rattle.rgo_sound.proofs.steps.OneStep.{ReceivesAt, StandsAt, current_erased, stands_at_channel}
use Rattle.rgo_region_interpreter.specs.Tables.{is_gone, is_gone_in, kept_memory}
use Rattle.rgo_region_interpreter.proofs.lifting.Memory.{IsSafe, NoneGone, Steady, kept_get, kept_more, stays_steady}
use Rattle.rgo_region_interpreter.proofs.lifting.Actions.{AlikeIf, IsSafeValue, SteadyIf, lifted, performed_alike}

-- ---- what is said

-- the state of the machine with what the code keeps of the memory; its print may be another
pub record Keeps (regions : List RegionInfo) (owners : List Region) (whole kept : TacState) : Type 0 where
  pub memory : kept.memory ≡ kept_memory regions owners whole.memory
  pub goroutines : kept.goroutines ≡ whole.goroutines
  pub ended : kept.ended ≡ whole.ended

-- what the next instruction of goroutine g touches is in no region that is gone
pub record TouchesKept (code : Code) (regions : List RegionInfo) (owners : List Region) (whole : TacState) (g : ℕ)
    : Type 0 where
  pub safe : (frame : TacFrame) (callers : List TacFrame) (instr : CodeInstr) (o : ℕ)
      → slice_get whole.goroutines g ≡ Some (frame ∷ callers) → current code frame ≡ Some instr
      → touched frame instr.op ≡ Some o → IsSafe regions owners o

-- From `whole` a step leads to `next`, and from what is kept of it to `v`. An object that the step made is kept: its
-- owner may be added to the owners, where its region is not gone (`keeps_more`).
pub record GoesAlike (regions : List RegionInfo) (owners : List Region) (whole kept next v : TacState) : Type 0 where
  pub keeps : Keeps regions owners next v
  pub bytes : List ℕ
  pub prints : next.printed ≡ whole.printed ++ bytes
  pub prints_kept : v.printed ≡ kept.printed ++ bytes
  pub steady : Steady regions owners whole.memory next.memory

-- both have a step, or neither has
abbrev pub StepsAlike
    : List RegionInfo → List Region → (whole kept : TacState) → (next v : Option TacState) → Type 0
StepsAlike regions owners whole kept None None = Unit {0}
StepsAlike regions owners whole kept None (Some v) = ⊥
StepsAlike regions owners whole kept (Some next) None = ⊥
StepsAlike regions owners whole kept (Some next) (Some v) = GoesAlike regions owners whole kept next v

-- the goroutine whose object a step touches: the one that steps, and of two that meet the receiver
abbrev pub toucher : Pick → ℕ
toucher (One g) = g
toucher (Meet r t) = r

-- ---- what follows from it

module _ (regions : List RegionInfo) (owners : List Region) (whole kept : TacState) where
  pub none_of_whole : (o p : Option TacState) → StepsAlike regions owners whole kept o p → p ≡ None → o ≡ None
  none_of_whole None p x e = refl
  none_of_whole (Some next) None x e = absurd x
  none_of_whole (Some next) (Some v) x e = cc

  pub none_of_kept : (o p : Option TacState) → StepsAlike regions owners whole kept o p → o ≡ None → p ≡ None
  none_of_kept o None x e = refl
  none_of_kept None (Some v) x e = absurd x
  none_of_kept (Some next) (Some v) x e = cc

  pub step_of_whole : (o p : Option TacState) (v : TacState) → StepsAlike regions owners whole kept o p → p ≡ Some v
      → (next : TacState) × (o ≡ Some next) × GoesAlike regions owners whole kept next v
  step_of_whole o None v x e = cc
  step_of_whole None (Some w) v x e = absurd x
  step_of_whole (Some next) (Some w) v x e =
      (next, refl, subst (GoesAlike regions owners whole kept next) (the_state w v e) x)
    where
      the_state : (x y : TacState) → Some x ≡ Some y → x ≡ y
      the_state x y e = cc

  pub step_of_kept : (o p : Option TacState) (next : TacState) → StepsAlike regions owners whole kept o p
      → o ≡ Some next → (v : TacState) × (p ≡ Some v) × GoesAlike regions owners whole kept next v
  step_of_kept None p next x e = cc
  step_of_kept (Some n) None next x e = absurd x
  step_of_kept (Some n) (Some v) next x e =
      (v, refl, subst (λ y. GoesAlike regions owners whole kept y v) (the_state n next e) x)
    where
      the_state : (x y : TacState) → Some x ≡ Some y → x ≡ y
      the_state x y e = cc

  -- with the owners of new objects
  pub keeps_more : (more : List Region) → NoneGone regions more → Keeps regions owners whole kept
      → Keeps regions (owners ++ more) whole kept
  keeps_more more none k = record {
    memory = k.memory
        ∙ ap (λ heap. record whole.memory { heap = heap }) (sym (kept_more regions owners more whole.memory.heap none));
    goroutines = k.goroutines;
    ended = k.ended;
  }

-- ---- if what is touched is live

pub live_not_gone : (regions : List RegionInfo) (r : Region) → is_live regions r ≡ true → is_gone regions r ≡ false
live_not_gone regions GlobalRegion live = refl
live_not_gone regions (Numbered r) live = go (slice_get regions r) live
  where
    no_stake : (n : ℕ) → nat_lt 0 n ≡ true → nat_eq n 0 ≡ false
    no_stake n e = grind arith

    go : (o : Option RegionInfo) → has_stakes o ≡ true → is_gone_in o ≡ false
    go None e = refl
    go (Some info) e = no_stake info.stakes e

pub may_touch_safe : (s : RegionState) (o : ℕ) → may_touch s (Some o) ≡ true → IsSafe s.regions s.owners o
may_touch_safe s o may r at = live_not_gone s.regions r (ap (owner_live s) (sym at) ∙ may)

pub touches_live : (code : Code) (s : RegionState) (whole : TacState) (g : ℕ)
    → ((frame : TacFrame) (callers : List TacFrame) (instr : CodeInstr)
    → slice_get whole.goroutines g ≡ Some (frame ∷ callers) → current code frame ≡ Some instr
    → may_touch s (touched frame instr.op) ≡ true)
    → TouchesKept code s.regions s.owners whole g
touches_live code s whole g may = record {
  safe = λ frame callers instr o at cur t.
      may_touch_safe s o (ap (may_touch s) (sym t) ∙ may frame callers instr at cur);
}

-- ---- one goroutine

module _ (code : Code) (regions : List RegionInfo) (owners : List Region) (m : Memory)
    (fits : length owners ≤ length m.heap) where
  abbrev rest : Memory
  rest = kept_memory regions owners m

  abbrev lifted_act : Acted → Acted
  lifted_act a = record a { memory = kept_memory regions owners a.memory }

  abbrev SteadyAct : Option Acted → Type 0
  SteadyAct None = Unit {0}
  SteadyAct (Some a) = Steady regions owners m a.memory

  record ActsAlike (whole kept : Option Acted) : Type 0 where
    is : kept ≡ option_map lifted_act whole
    steady : SteadyAct whole

  moves_alike : (frames : List TacFrame) → ActsAlike (moves m frames) (moves rest frames)
  moves_alike frames = record { is = refl; steady = stays_steady regions owners m }

  effected_alike : (frame : TacFrame) (callers : List TacFrame) (to : Option ℕ) (place : ℕ) (whole kept : Option Effect)
      → AlikeIf regions owners m whole kept
      → ActsAlike (effected m frame callers to place whole) (effected rest frame callers to place kept)
  effected_alike frame callers to place whole kept x = record {
    is = ap (effected rest frame callers to place) x.is ∙ by whole;
    steady = steady whole x.steady;
  }
    where
      by : (o : Option Effect) → effected rest frame callers to place (option_map (lifted regions owners) o)
          ≡ option_map lifted_act (effected m frame callers to place o)
      by None = refl
      by (Some (Does n v)) = refl
      by (Some (Traps trap)) = refl

      steady : (o : Option Effect) → SteadyIf regions owners m o → SteadyAct (effected m frame callers to place o)
      steady None x = tt
      steady (Some (Does n v)) x = x
      steady (Some (Traps trap)) x = stays_steady regions owners m

  call_alike : (frame : TacFrame) (callers : List TacFrame) (n : ℕ) (arguments : List Value) (o : Option TacFn)
      → ActsAlike (call m frame callers n arguments o) (call rest frame callers n arguments o)
  call_alike frame callers n arguments None = moves_alike _
  call_alike frame callers n arguments (Some fn) = moves_alike _

  start_alike : (frame : TacFrame) (callers : List TacFrame) (n : ℕ) (arguments : List Value) (o : Option TacFn)
      → ActsAlike (start m frame callers n arguments o) (start rest frame callers n arguments o)
  start_alike frame callers n arguments None = moves_alike _
  start_alike frame callers n arguments (Some fn) = record { is = refl; steady = stays_steady regions owners m }

  return_alike : (value : Option Value) (callers : List TacFrame)
      → ActsAlike (returned (erased code) m value callers) (returned (erased code) rest value callers)
  return_alike value [] = moves_alike []
  return_alike value (caller ∷ callers) = moves_alike _

  act_alike : (op : CodeOp) (place : ℕ) (frame : TacFrame) (callers : List TacFrame)
      → ((o : ℕ) → touched frame op ≡ Some o → IsSafe regions owners o)
      → ActsAlike (act (erased code) m (erased_op op) place frame callers)
      (act (erased code) rest (erased_op op) place frame callers)
  act_alike (Do to action from removes) place frame callers safe =
      effected_alike frame callers to _ _ _
      (performed_alike regions owners m fits code.structs action (destination_type (erased code) frame to) (operand_values frame from)
      safe)
  act_alike (Call to n from passes protects removes) place frame callers safe =
      call_alike frame callers n (operand_values frame from) (slice_get (erased code).functions n)
  act_alike (Go n from passes removes) place frame callers safe =
      start_alike frame callers n (operand_values frame from) (slice_get (erased code).functions n)
  act_alike (Print pieces from removes) place frame callers safe =
      record { is = refl; steady = stays_steady regions owners m }
  act_alike (Jump target removes) place frame callers safe = moves_alike _
  act_alike (Branch test target removes other otherwise) place frame callers safe = moves_alike _
  act_alike (Return value) place frame callers safe = return_alike _ callers

  alone_alike : (frames : List TacFrame) → ((frame : TacFrame) (callers : List TacFrame) (instr : CodeInstr) (o : ℕ)
      → frames ≡ frame ∷ callers → current code frame ≡ Some instr → touched frame instr.op ≡ Some o
      → IsSafe regions owners o)
      → ActsAlike (alone (erased code) m frames) (alone (erased code) rest frames)
  alone_alike [] safe = record { is = refl; steady = tt }
  alone_alike (frame ∷ callers) safe =
      subst (λ o. ActsAlike (act_at (erased code) m o frame callers) (act_at (erased code) rest o frame callers))
      (sym (current_erased code frame)) (go (current code frame) refl)
    where
      go : (o : Option CodeInstr) → current code frame ≡ o
          → ActsAlike (act_at (erased code) m (option_map erased_instr o) frame callers)
          (act_at (erased code) rest (option_map erased_instr o) frame callers)
      go None e = moves_alike (frame ∷ callers)
      go (Some instr) e = act_alike instr.op instr.place frame callers (λ o t. safe frame callers instr o refl e t)

-- ---- steps

module _ (code : Code) (regions : List RegionInfo) (owners : List Region) (p q : TacState)
    (k : Keeps regions owners p q) where
  abbrev Both : (next v : Option TacState) → Type 0
  Both next v = StepsAlike regions owners p q next v

  -- after the end there is no step
  unless_both : (o u : Option TacState) → (p.ended ≡ None → Both o u)
      → Both (unless_ended p.ended o) (unless_ended q.ended u)
  unless_both o u next = subst (λ e. Both (unless_ended p.ended o) (unless_ended e u)) (sym k.ended) (go p.ended refl)
    where
      go : (e : Option End) → p.ended ≡ e → Both (unless_ended e o) (unless_ended e u)
      go None z = next z
      go (Some e) z = tt

  -- what one goroutine does
  acted_both : (g : ℕ) (fits : length owners ≤ length p.memory.heap) (a b : Option Acted)
      → ActsAlike code regions owners p.memory fits a b → Both (option_map (after p g) a) (option_map (after q g) b)
  acted_both g fits a b x =
      subst (λ c. Both (option_map (after p g) a) (option_map (after q g) c)) (sym x.is) (go a x.steady)
    where
      go : (a : Option Acted) → SteadyAct code regions owners p.memory fits a → Both (option_map (after p g) a)
          (option_map (after q g) (option_map (lifted_act code regions owners p.memory fits) a))
      go None s = tt
      go (Some a) s = record {
        keeps = record {
          memory = refl;
          goroutines = ap (λ gs. slice_set gs g a.frames ++ a.started) k.goroutines;
          ended = refl;
        };
        bytes = a.printed;
        prints = refl;
        prints_kept = refl;
        steady = s;
      }

  alone_both : (g : ℕ) (frames : List TacFrame) → length owners ≤ length p.memory.heap → p.ended ≡ None
      → slice_get p.goroutines g ≡ Some frames → TouchesKept code regions owners p g
      → Both (machine_alone (tac (erased code)) p g frames) (machine_alone (tac (erased code)) q g frames)
  alone_both g frames fits running at touches =
      subst (λ x. Both x (machine_alone (tac (erased code)) q g frames))
      (sym (alone_is (erased code) p g running frames at))
      (subst (λ x. Both (option_map (after p g) (alone (erased code) p.memory frames)) x)
      (sym (alone_is (erased code) q g (k.ended ∙ running) frames (ap (λ gs. slice_get gs g) k.goroutines ∙ at)))
      (subst (λ n. Both (option_map (after p g) (alone (erased code) p.memory frames))
      (option_map (after q g) (alone (erased code) n frames))) (sym k.memory)
      (acted_both g fits _ _ (alone_alike code regions owners p.memory fits frames (λ frame callers instr o is cur t.
      touches.safe frame callers instr o (at ∙ ap Some is) cur t)))))

  one_both : (g : ℕ) → length owners ≤ length p.memory.heap → TouchesKept code regions owners p g
      → Both (tac_step (erased code) p (One g)) (tac_step (erased code) q (One g))
  one_both g fits touches = unless_both _ _ (λ running.
      subst (λ gs. Both (option_and_then (machine_alone (tac (erased code)) p g) (slice_get p.goroutines g))
      (option_and_then (machine_alone (tac (erased code)) q g) (slice_get gs g))) (sym k.goroutines)
      (go running (slice_get p.goroutines g) refl))
    where
      go : p.ended ≡ None → (o : Option (List TacFrame)) → slice_get p.goroutines g ≡ o
          → Both (option_and_then (machine_alone (tac (erased code)) p g) o)
          (option_and_then (machine_alone (tac (erased code)) q g) o)
      go running None at = tt
      go running (Some frames) at = alone_both g frames fits running at touches

  -- ---- two that meet

  meets_kept : (c d : Value) → IsSafeValue regions owners c → meets_at q.memory c d ≡ meets_at p.memory c d
  meets_kept c d safe = ap (λ n. meets_at n c d) k.memory ∙ go c d safe
    where
      go : (c d : Value) → IsSafeValue regions owners c
          → meets_at (kept_memory regions owners p.memory) c d ≡ meets_at p.memory c d
      go (value.Int i) d safe = refl
      go (value.Bool b) d safe = refl
      go value.Nil d safe = refl
      go (value.Object n) (value.Int i) safe = refl
      go (value.Object n) (value.Bool b) safe = refl
      go (value.Object n) value.Nil safe = refl
      go (value.Object n) (value.Object j) safe =
          ap (λ o. if n == j then is_meeting_at o else false) (kept_get regions owners p.memory.heap n safe)

  receiver_safe : (r : ℕ) (frames : List TacFrame) (c : Value) (go_on : Value → List TacFrame)
      → slice_get p.goroutines r ≡ Some frames → TouchesKept code regions owners p r → ReceivesAt code frames c go_on
      → IsSafeValue regions owners c
  receiver_safe r frames c go_on at touches x = go c x.channel_is
    where
      go : (c : Value) → c ≡ value_at x.frame x.channel → IsSafeValue regions owners c
      go (value.Int i) e = tt
      go (value.Bool b) e = tt
      go value.Nil e = tt
      go (value.Object o) e = touches.safe x.frame x.callers x.instr o (at ∙ ap Some x.at) x.cur
          (ap (touched x.frame) x.is ∙ ap (λ v. touched_by Recv (v ∷ [])) (sym e))

  met_both : (r t : ℕ) (f h : TacFrame) (fs hs : List TacFrame) → slice_get p.goroutines r ≡ Some (f ∷ fs)
      → TouchesKept code regions owners p r → (x y : Stand TacFrame) → StandsAt code f fs x
      → Both (met p r t fs hs x y) (met q r t fs hs x y)
  met_both r t f h fs hs at touches (AtReceive c blank go_on) (AtSend d v place sender) x =
      subst (λ b. Both (if meets_at p.memory c d then Some (together p) else None)
      (if b then Some (together q) else None))
      (sym (meets_kept c d (receiver_safe r (f ∷ fs) c (λ v. go_on v ∷ fs) at touches x)))
      (go (meets_at p.memory c d))
    where
      together : TacState → TacState
      together s = with_frames (with_frames s r (go_on v ∷ fs)) t (sender ∷ hs)

      go : (b : Bool) → Both (if b then Some (together p) else None) (if b then Some (together q) else None)
      go true = record {
        keeps = record {
          memory = k.memory;
          goroutines = ap (λ gs. slice_set (slice_set gs r (go_on v ∷ fs)) t (sender ∷ hs)) k.goroutines;
          ended = k.ended;
        };
        bytes = [];
        prints = sym (append-nil p.printed);
        prints_kept = sym (append-nil q.printed);
        steady = stays_steady regions owners p.memory;
      }
      go false = tt
  met_both r t f h fs hs at touches (AtReceive c blank go_on) (AtReceive d other next) x = tt
  met_both r t f h fs hs at touches (AtReceive c blank go_on) (AtClose d place next) x = tt
  met_both r t f h fs hs at touches (AtReceive c blank go_on) (AtCall next callee) x = tt
  met_both r t f h fs hs at touches (AtReceive c blank go_on) (AtStart next child) x = tt
  met_both r t f h fs hs at touches (AtReceive c blank go_on) Elsewhere x = tt
  met_both r t f h fs hs at touches (AtSend c v place next) y x = tt
  met_both r t f h fs hs at touches (AtClose c place next) y x = tt
  met_both r t f h fs hs at touches (AtCall next callee) y x = tt
  met_both r t f h fs hs at touches (AtStart next child) y x = tt
  met_both r t f h fs hs at touches Elsewhere y x = tt

  meet_both : (r t : ℕ) → TouchesKept code regions owners p r
      → Both (tac_step (erased code) p (Meet r t)) (tac_step (erased code) q (Meet r t))
  meet_both r t touches = unless_both _ _ (λ running. apart (r == t))
    where
      there : (o u : Option (List TacFrame)) → slice_get p.goroutines r ≡ o
          → Both (option_and_then (λ f. option_and_then (met_by (tac (erased code)) p r t f) u) o)
          (option_and_then (λ f. option_and_then (met_by (tac (erased code)) q r t f) u) o)
      there None u at = tt
      there (Some f) None at = tt
      there (Some []) (Some h) at = tt
      there (Some (f ∷ fs)) (Some []) at = tt
      there (Some (f ∷ fs)) (Some (h ∷ hs)) at =
          met_both r t f h fs hs at touches (tac_stand (erased code) f) (tac_stand (erased code) h)
          (stands_at_channel code f fs)

      apart : (b : Bool) → Both (if b then None else meet (tac (erased code)) p r t)
          (if b then None else meet (tac (erased code)) q r t)
      apart true = tt
      apart false =
          subst (λ gs. Both (meet (tac (erased code)) p r t)
          (option_and_then (λ f. option_and_then (met_by (tac (erased code)) q r t f) (slice_get gs t))
          (slice_get gs r))) (sym k.goroutines)
          (there (slice_get p.goroutines r) (slice_get p.goroutines t) refl)

-- the step over what is kept is the step over the whole memory
pub steps_alike : (code : Code) (regions : List RegionInfo) (owners : List Region) (whole kept : TacState) (pick : Pick)
    → Keeps regions owners whole kept → length owners ≤ length whole.memory.heap
    → TouchesKept code regions owners whole (toucher pick)
    → StepsAlike regions owners whole kept (tac_step (erased code) whole pick) (tac_step (erased code) kept pick)
steps_alike code regions owners whole kept (One g) k fits touches =
    one_both code regions owners whole kept k g fits touches
steps_alike code regions owners whole kept (Meet r t) k fits touches =
    meet_both code regions owners whole kept k r t touches

-- Steps do not look at what was printed before, so that the print only grows.
use Rattle.std.proofs.Common.{◌≡◌, ℕ, Bool, true, false, List, [], ◌∷◌, ◌++◌, Option, Some, None}
use Rattle.std.proofs.Common.{slice_get, option_map, refl, ap, sym, ◌∙◌, append_assoc, append-nil}
use Rattle.std.specs.Prelude.{option_and_then, if◌then◌else◌, ◌==◌}
use Rattle.rgo_memory.specs.declared.values.Value.{Value}
use Rattle.rgo_memory.specs.Channels.{receive, send, close, meets_at}
use Rattle.rgo_memory.specs.Effects.{Effect, Does}
use Rattle.rgo_memory.specs.Effects as effect
use Rattle.rgo_machine.specs.declared.picks.End.{End}
use Rattle.rgo_machine.specs.declared.picks.Pick.{Pick}
use Rattle.rgo_machine.specs.declared.picks.Pick.TheVariants.{One, Meet}
use Rattle.rgo_machine.specs.declared.limits.Limits.{Limits}
use Rattle.rgo_machine.specs.Growing.{PrintGrows}
use Rattle.rgo_machine.specs.Limits.{if_within, is_within, limited_step, LeadsWithin}
use Rattle.rgo_machine.specs.Machines.{Act, Moves, Returns, Prints, Traps}
use Rattle.rgo_machine.specs.Machines.{Stand, AtReceive, AtSend, AtClose, AtCall, AtStart, Elsewhere}
use Rattle.rgo_machine.specs.Machines.{Machine, State, acted, operated, state_after_return, stepped, alone, met, met_by, picked}
use Rattle.rgo_machine.specs.Machines.{unless_ended, step_by}
use Rattle.rgo_machine.specs.Runs.{run}

-- ---- steps do not look at the print

-- the state with these bytes printed before
abbrev pub with_before : {F : Type 0} → List ℕ → State F → State F
with_before before s = record s { printed = before ++ s.printed }

module _ {F : Type 0} (machine : Machine F) (before : List ℕ) where
  returned_before : (s : State F) (g : ℕ) (callers : List F) (v : Option Value)
      → state_after_return machine (with_before before s) g callers v ≡ with_before before (state_after_return machine s g callers v)
  returned_before s g [] v = refl
  returned_before s g (f ∷ callers) v = refl

  acted_before : (s : State F) (g : ℕ) (callers : List F) (a : Act F)
      → acted machine (with_before before s) g callers a ≡ with_before before (acted machine s g callers a)
  acted_before s g callers (Moves m f) = refl
  acted_before s g callers (Returns v) = returned_before s g callers v
  acted_before s g callers (Prints f bytes) =
      ap (λ p. record (acted machine s g callers (Prints f bytes)) { printed = p })
      (append_assoc before s.printed bytes)
  acted_before s g callers (Traps trap place) = refl

  operated_before : (s : State F) (g : ℕ) (callers : List F) (go_on : Value → F) (place : ℕ) (e : Effect)
      → operated (with_before before s) g callers go_on place e
      ≡ with_before before (operated s g callers go_on place e)
  operated_before s g callers go_on place (Does m v) = refl
  operated_before s g callers go_on place (effect.Traps trap) = refl

  each_before : (s : State F) (g : ℕ) (callers : List F) (go_on : Value → F) (place : ℕ) (o : Option Effect)
      → option_map (operated (with_before before s) g callers go_on place) o
      ≡ option_map (with_before before) (option_map (operated s g callers go_on place) o)
  each_before s g callers go_on place None = refl
  each_before s g callers go_on place (Some e) = ap Some (operated_before s g callers go_on place e)

  stepped_before : (s : State F) (g : ℕ) (f : F) (callers : List F) (stand : Stand F)
      → stepped machine (with_before before s) g f callers stand
      ≡ option_map (with_before before) (stepped machine s g f callers stand)
  stepped_before s g f callers (AtReceive channel blank go_on) =
      each_before s g callers go_on 0 (receive s.memory channel blank)
  stepped_before s g f callers (AtSend channel v place next) =
      each_before s g callers (λ _. next) place (send s.memory channel v)
  stepped_before s g f callers (AtClose channel place next) =
      ap Some (operated_before s g callers (λ _. next) place (close s.memory channel))
  stepped_before s g f callers (AtCall next callee) = refl
  stepped_before s g f callers (AtStart next child) = refl
  stepped_before s g f callers Elsewhere = ap Some (acted_before s g callers (machine.act s.memory f))

  alone_before : (s : State F) (g : ℕ) (o : Option (List F))
      → option_and_then (alone machine (with_before before s) g) o
      ≡ option_map (with_before before) (option_and_then (alone machine s g) o)
  alone_before s g None = refl
  alone_before s g (Some []) = refl
  alone_before s g (Some (f ∷ callers)) = stepped_before s g f callers (machine.stand f)

  if_before : (b : Bool) (s : State F)
      → (if b then Some (with_before before s) else None) ≡ option_map (with_before before) (if b then Some s else None)
  if_before true s = refl
  if_before false s = refl

  met_before : (s : State F) (r t : ℕ) (rs ts : List F) (a b : Stand F)
      → met (with_before before s) r t rs ts a b ≡ option_map (with_before before) (met s r t rs ts a b)
  met_before s r t rs ts (AtReceive c blank go_on) (AtSend d v place next) = if_before (meets_at s.memory c d) _
  met_before s r t rs ts (AtReceive c blank go_on) (AtReceive d other next) = refl
  met_before s r t rs ts (AtReceive c blank go_on) (AtClose d place next) = refl
  met_before s r t rs ts (AtReceive c blank go_on) (AtCall next callee) = refl
  met_before s r t rs ts (AtReceive c blank go_on) (AtStart next child) = refl
  met_before s r t rs ts (AtReceive c blank go_on) Elsewhere = refl
  met_before s r t rs ts (AtSend c v place next) b = refl
  met_before s r t rs ts (AtClose c place next) b = refl
  met_before s r t rs ts (AtCall next callee) b = refl
  met_before s r t rs ts (AtStart next child) b = refl
  met_before s r t rs ts Elsewhere b = refl

  meet_before : (s : State F) (r t : ℕ) (o p : Option (List F))
      → option_and_then (λ f. option_and_then (met_by machine (with_before before s) r t f) p) o
      ≡ option_map (with_before before) (option_and_then (λ f. option_and_then (met_by machine s r t f) p) o)
  meet_before s r t None p = refl
  meet_before s r t (Some rs) None = refl
  meet_before s r t (Some []) (Some ts) = refl
  meet_before s r t (Some (f ∷ rs)) (Some []) = refl
  meet_before s r t (Some (f ∷ rs)) (Some (h ∷ ts)) = met_before s r t rs ts (machine.stand f) (machine.stand h)

  unless_same : (b : Bool) (o p : Option (State F)) → o ≡ option_map (with_before before) p
      → (if b then None else o) ≡ option_map (with_before before) (if b then None else p)
  unless_same true o p e = refl
  unless_same false o p e = e

  picked_before : (s : State F) (pick : Pick)
      → picked machine (with_before before s) pick ≡ option_map (with_before before) (picked machine s pick)
  picked_before s (One g) = alone_before s g (slice_get s.goroutines g)
  picked_before s (Meet r t) =
      unless_same (r == t) _ _ (meet_before s r t (slice_get s.goroutines r) (slice_get s.goroutines t))

  unless_ended_before : (ended : Option End) (o p : Option (State F)) → o ≡ option_map (with_before before) p
      → unless_ended ended o ≡ option_map (with_before before) (unless_ended ended p)
  unless_ended_before None o p e = e
  unless_ended_before (Some end) o p e = refl

  -- a step is the same whatever was printed before
  pub step_before : (s : State F) (pick : Pick)
      → step_by machine (with_before before s) pick ≡ option_map (with_before before) (step_by machine s pick)
  step_before s pick = unless_ended_before s.ended _ _ (picked_before s pick)

-- ---- runs

-- a change that commutes with a step commutes with a run
module _ {S E : Type 0} (step : S → E → Option S) (change : S → S)
    (commutes : (s : S) (e : E) → step (change s) e ≡ option_map change (step s e)) where
  then_run : (o : Option S) (es : List E) → ((t : S) → run step (change t) es ≡ option_map change (run step t es))
      → option_and_then (λ t. run step t es) (option_map change o)
      ≡ option_map change (option_and_then (λ t. run step t es) o)
  then_run None es h = refl
  then_run (Some t) es h = h t

  pub run_changed : (s : S) (es : List E) → run step (change s) es ≡ option_map change (run step s es)
  run_changed s [] = refl
  run_changed s (e ∷ es) =
      ap (option_and_then (λ t. run step t es)) (commutes s e)
      ∙ then_run (step s e) es (λ t. run_changed t es)

module _ {F : Type 0} (machine : Machine F) (limits : Limits) (before : List ℕ) where
  within_before : (o : Option (State F))
      → option_and_then (if_within limits) (option_map (with_before before) o)
      ≡ option_map (with_before before) (option_and_then (if_within limits) o)
  within_before None = refl
  within_before (Some s) = if_before machine before (is_within limits s) s

  -- the same for a step within the limits
  pub limited_before : (s : State F) (pick : Pick)
      → limited_step machine limits (with_before before s) pick
      ≡ option_map (with_before before) (limited_step machine limits s pick)
  limited_before s pick =
      ap (option_and_then (if_within limits)) (step_before machine before s pick)
      ∙ within_before (step_by machine s pick)

  -- a run is the same whatever was printed before
  pub prefixed : (s t : State F) (picks : List Pick) → LeadsWithin machine limits s picks t
      → LeadsWithin machine limits (record s { printed = before ++ s.printed }) picks
      (record t { printed = before ++ t.printed })
  prefixed s t picks leads =
      run_changed (limited_step machine limits) (with_before before) limited_before s picks
      ∙ ap (option_map (with_before before)) leads

-- ---- the print only grows

module _ {F : Type 0} (machine : Machine F) where
  abbrev printed_of : Option (State F) → List ℕ
  printed_of None = []
  printed_of (Some s) = s.printed

  grown_by : (before : List ℕ) (o : Option (State F)) (t : State F) → option_map (with_before before) o ≡ Some t
      → (bytes : List ℕ) × (t.printed ≡ before ++ bytes)
  grown_by before None t e = cc
  grown_by before (Some u) t e = (u.printed, sym (ap printed_of e))

  -- what was printed first, and nothing
  parted : (s : State F) (picks : List Pick)
      → run (step_by machine) s picks
      ≡ option_map (with_before s.printed) (run (step_by machine) (record s { printed = [] }) picks)
  parted s picks =
      ap (λ p. run (step_by machine) (record s { printed = p }) picks) (sym (append-nil s.printed))
      ∙ run_changed (step_by machine) (with_before s.printed) (step_before machine s.printed)
      (record s { printed = [] }) picks

  pub print_grows : PrintGrows machine
  print_grows picks s t leads = grown_by s.printed _ t (sym (parted s picks) ∙ leads)

-- Steps that stay within the limits, and where a limit is met. Only a call adds a frame and only a start adds a goroutine, and the code
-- tests both before the step; every other step stays within the limits because there are no more of either.
use Rattle.std.proofs.Common.{◌≡◌, ℕ, zero, suc, Bool, true, false, List, [], ◌∷◌, ◌++◌, length, Option, Some, None}
use Rattle.std.proofs.Common.{slice_get, slice_set, option_map, refl, ap, sym, ◌∙◌, subst, arith, length-set}
use Rattle.std.proofs.Common.{length-append}
use Rattle.std.specs.Prelude.{option_and_then, nat_le, ◌&&◌, if◌then◌else◌}
use Rattle.std.specs.List.{list_all}
use Rattle.std.proofs.lemmas.Bool.{and_parts, and_from}
use Rattle.std.proofs.lemmas.Bool.Decides.{nat_tests}
use Rattle.std.proofs.lemmas.List.Folds.{list_all-append}
use Rattle.rgo_memory.specs.declared.values.Value.{Value}
use Rattle.rgo_memory.specs.Channels.{receive, send, close}
use Rattle.rgo_memory.specs.Effects.{Effect, Does}
use Rattle.rgo_memory.specs.Effects as effect
use Rattle.rgo_machine.specs.declared.limits.Limits.{Limits}
use Rattle.rgo_interpreter.specs.declared.machines.Stand.{Stand as CodeStand}
use Rattle.rgo_machine.specs.declared.picks.Pick.TheVariants.{One}
use Rattle.rgo_interpreter.specs.declared.turns.TurnEnd.{TurnEnd}
use Rattle.rgo_interpreter.specs.declared.turns.TurnEnd.TheVariants as stop
use Rattle.rgo_interpreter.specs.Acting.{stand_of, newest_stand, standing}
use Rattle.rgo_machine.specs.Limits.{deepest, most_goroutines, is_within_depth, is_within}
use Rattle.rgo_machine.specs.Machines.{Act, Moves, Returns, Prints, Traps}
use Rattle.rgo_machine.specs.Machines.{Stand, AtReceive, AtSend, AtClose, AtCall, AtStart, Elsewhere}
use Rattle.rgo_machine.specs.Machines.{Machine, State, acted, operated, state_after_return, stepped, alone, picked}
use Rattle.rgo_interpreter.specs.Turning.{depth_of, depth_in, limit_at}

-- ---- lists of goroutines

module _ {F : Type 0} where
  -- the frames of each are few enough, also after one has others
  all_set : (l : List (List F)) (g : ℕ) (frames : List F) → list_all is_within_depth l ≡ true → is_within_depth frames ≡ true
      → list_all is_within_depth (slice_set l g frames) ≡ true
  all_set [] g frames e room = refl
  all_set (x ∷ l) zero frames e room =
      and_from (is_within_depth frames) (list_all is_within_depth l) room (and_parts (is_within_depth x) (list_all is_within_depth l) e).1
  all_set (x ∷ l) (suc g) frames e room =
      let parts : (is_within_depth x ≡ true) × (list_all is_within_depth l ≡ true) = and_parts (is_within_depth x) (list_all is_within_depth l) e in
      and_from (is_within_depth x) (list_all is_within_depth (slice_set l g frames)) parts.0 (all_set l g frames parts.1 room)

  abbrev room_in : Option (List F) → Bool
  room_in None = true
  room_in (Some frames) = is_within_depth frames

  room_of : (l : List (List F)) (g : ℕ) (frames : List F) → list_all is_within_depth l ≡ true → slice_get l g ≡ Some frames
      → is_within_depth frames ≡ true
  room_of [] g frames e there = cc
  room_of (x ∷ l) zero frames e there =
      ap room_in (sym there) ∙ (and_parts (is_within_depth x) (list_all is_within_depth l) e).0
  room_of (x ∷ l) (suc g) frames e there = room_of l g frames (and_parts (is_within_depth x) (list_all is_within_depth l) e).1 there

-- ---- a step of one goroutine

not_met : (b : Bool) (x : TurnEnd) → (if b then Some x else None) ≡ None → b ≡ false
not_met true x e = cc
not_met false x e = refl

one_more : (n most : ℕ) → nat_le most n ≡ false → nat_le (suc n) most ≡ true
one_more n most e = grind (arith, nat_tests)

some_stand : (a b : CodeStand) → Some a ≡ Some b → a ≡ b
some_stand a b e = cc

module _ {F : Type 0} (machine : Machine F) (limits : Limits) (s : State F) (g : ℕ) (within : is_within limits s
    ≡ true) where
  parts : (nat_le (length s.goroutines) (most_goroutines limits) ≡ true) × (list_all is_within_depth s.goroutines ≡ true)
  parts = and_parts (nat_le (length s.goroutines) (most_goroutines limits)) (list_all is_within_depth s.goroutines) within

  -- another list of frames that are few enough
  pub set_within : (frames : List F) → is_within_depth frames ≡ true
      → (nat_le (length (slice_set s.goroutines g frames)) (most_goroutines limits)
      && list_all is_within_depth (slice_set s.goroutines g frames)) ≡ true
  set_within frames room =
      and_from (nat_le (length (slice_set s.goroutines g frames)) (most_goroutines limits))
      (list_all is_within_depth (slice_set s.goroutines g frames))
      (ap (λ n. nat_le n (most_goroutines limits)) (length-set s.goroutines g frames) ∙ parts.0)
      (all_set s.goroutines g frames parts.1 room)

  -- one goroutine more
  added_within : (l : List (List F)) (child : F) → nat_le (most_goroutines limits) (length l) ≡ false
      → list_all is_within_depth l ≡ true
      → (nat_le (length (l ++ (child ∷ []) ∷ [])) (most_goroutines limits)
      && list_all is_within_depth (l ++ (child ∷ []) ∷ [])) ≡ true
  added_within l child free room =
      let longer : length (l ++ (child ∷ []) ∷ []) ≡ suc (length l) =
      omega (arith, length-append l ((child ∷ []) ∷ [])) in
      and_from (nat_le (length (l ++ (child ∷ []) ∷ [])) (most_goroutines limits))
      (list_all is_within_depth (l ++ (child ∷ []) ∷ []))
      (ap (λ n. nat_le n (most_goroutines limits)) longer ∙ one_more (length l) (most_goroutines limits) free)
      (list_all-append is_within_depth l ((child ∷ []) ∷ []) ∙ and_from (list_all is_within_depth l) true room refl)

  abbrev Within : State F → Type 0
  Within t = is_within limits t ≡ true

  abbrev WithinIfAny : Option (State F) → Type 0
  WithinIfAny None = Unit {0}
  WithinIfAny (Some t) = Within t

  module _ (f : F) (callers : List F) (room : is_within_depth (f ∷ callers) ≡ true) where
    same_depth : (h : F) → is_within_depth (h ∷ callers) ≡ true
    same_depth h = room

    returned_within : (cs : List F) (v : Option Value) → is_within_depth (f ∷ cs) ≡ true → Within (state_after_return machine s g cs v)
    returned_within [] v r = set_within [] (grind (arith, nat_tests))
    returned_within (c ∷ cs) v r = set_within (machine.resume c v ∷ cs) (shorter f c cs (machine.resume c v) r) where
      shorter : (f c : F) (cs : List F) (d : F) → is_within_depth (f ∷ c ∷ cs) ≡ true → is_within_depth (d ∷ cs) ≡ true
      shorter f c cs d r = grind (arith, nat_tests)

    acted_within : (a : Act F) → Within (acted machine s g callers a)
    acted_within (Moves m h) = set_within (h ∷ callers) room
    acted_within (Returns v) = returned_within callers v room
    acted_within (Prints h bytes) = set_within (h ∷ callers) room
    acted_within (Traps trap place) = within

    operated_within : (go_on : Value → F) (place : ℕ) (e : Effect) → Within (operated s g callers go_on place e)
    operated_within go_on place (Does m v) = set_within (go_on v ∷ callers) room
    operated_within go_on place (effect.Traps trap) = within

    each_within : (go_on : Value → F) (place : ℕ) (o : Option Effect)
        → WithinIfAny (option_map (operated s g callers go_on place) o)
    each_within go_on place None = tt
    each_within go_on place (Some e) = operated_within go_on place e

    stepped_within : (stand : Stand F) → slice_get s.goroutines g ≡ Some (f ∷ callers)
        → limit_at limits s g (stand_of stand) ≡ None → WithinIfAny (stepped machine s g f callers stand)
    stepped_within (AtReceive c blank go_on) there free = each_within go_on 0 (receive s.memory c blank)
    stepped_within (AtSend c v place next) there free = each_within (λ _. next) place (send s.memory c v)
    stepped_within (AtClose c place next) there free = operated_within (λ _. next) place (close s.memory c)
    stepped_within (AtCall next callee) there free =
        set_within (callee ∷ next ∷ callers)
        (one_more (length (f ∷ callers)) deepest
        (ap (λ o. nat_le deepest (depth_in o)) (sym there) ∙ not_met (nat_le deepest (depth_of s g)) stop.TooDeep free))
    stepped_within (AtStart next child) there free =
        added_within (slice_set s.goroutines g (next ∷ callers)) child
        (ap (λ n. nat_le (most_goroutines limits) n) (length-set s.goroutines g (next ∷ callers))
        ∙ not_met (nat_le (most_goroutines limits) (length s.goroutines)) stop.Full free)
        (all_set s.goroutines g (next ∷ callers) parts.1 room)
    stepped_within Elsewhere there free = acted_within (machine.act s.memory f)

  alone_within : (o : Option (List F)) → slice_get s.goroutines g ≡ o → (stand : CodeStand)
      → option_and_then (newest_stand machine) o ≡ Some stand → limit_at limits s g stand ≡ None
      → WithinIfAny (option_and_then (alone machine s g) o)
  alone_within None there stand is free = tt
  alone_within (Some []) there stand is free = tt
  alone_within (Some (f ∷ callers)) there stand is free =
      stepped_within f callers (room_of s.goroutines g (f ∷ callers) parts.1 there) (machine.stand f) there
      (ap (limit_at limits s g) (some_stand (stand_of (machine.stand f)) stand is) ∙ free)

  -- where no limit is met, a step stays within the limits
  pub stays_within : (stand : CodeStand) → standing machine s g ≡ Some stand → limit_at limits s g stand ≡ None
      → (t : State F) → picked machine s (One g) ≡ Some t → is_within limits t ≡ true
  stays_within stand is free t e =
      subst WithinIfAny e (alone_within (slice_get s.goroutines g) refl stand is free)

-- ---- what a state within the limits has

pub few_at : {F : Type 0} (limits : Limits) (s : State F) → is_within limits s ≡ true
    → nat_le (length s.goroutines) (most_goroutines limits) ≡ true
few_at limits s within =
    (and_parts (nat_le (length s.goroutines) (most_goroutines limits)) (list_all is_within_depth s.goroutines) within).0

pub room_at : {F : Type 0} (limits : Limits) (s : State F) (g : ℕ) (frames : List F) → is_within limits s ≡ true
    → slice_get s.goroutines g ≡ Some frames → is_within_depth frames ≡ true
room_at limits s g frames within there =
    room_of s.goroutines g frames
    (and_parts (nat_le (length s.goroutines) (most_goroutines limits)) (list_all is_within_depth s.goroutines) within).1 there

-- The step of one goroutine alone, in the state: what Going shows of the goroutine that was lent is put back into the list that it is from.
use Rattle.std.proofs.Common.{◌≡◌, ◌<◌, ◌≤◌, ℕ, List, [], ◌∷◌, ◌++◌, length, Option, Some, None, Result, Ok}
use Rattle.std.proofs.Common.{option_map, slice_get, slice_set, get_or, refl, ap, sym, ◌∙◌, subst}
use Rattle.std.specs.Prelude.{option_and_then}
use Rattle.std.specs.declared.alloc.AllocError.{AllocError}
use Rattle.std.proofs.lemmas.Option.{slice_get-get_or, slice_get_past}
use Rattle.rgo_memory.specs.Memory.{Memory}
use Rattle.rgo_interpreter.proofs.InPlace.{set_same}
use Rattle.rgo_interpreter.specs.declared.goroutines.Happened.{Happened}
use Rattle.rgo_interpreter.specs.declared.goroutines.Happened.TheVariants as happened
use Rattle.rgo_interpreter.specs.declared.machines.Stand.{Stand as CodeStand}
use Rattle.rgo_interpreter.specs.declared.machines.Stand.TheVariants as code
use Rattle.rgo_machine.specs.declared.picks.End.{End}
use Rattle.rgo_machine.specs.declared.picks.Pick.TheVariants.{One}
use Rattle.rgo_interpreter.specs.Acting.{stand_of, entered_frames, newest_stand, standing}
use Rattle.rgo_interpreter.specs.Alone.{GoroutineSteps, Happens, StepsAlone, ChangesAt, KeepsPrint, entered_by, onto, with_child_goroutine}
use Rattle.rgo_machine.specs.Machines.{Machine, State, Stand, AtReceive, AtSend, AtClose, AtCall, AtStart, Elsewhere}
use Rattle.rgo_machine.specs.Machines.{alone, stepped, picked}

-- the goroutine that was lent
pub there : {X : Type 0} (l : List X) (g : ℕ) (x : X) → g < length l → x ≡ get_or l g x → slice_get l g ≡ Some x
there l g x within is = slice_get-get_or l g x within ∙ ap Some (sym is)

module _ {F : Type 0} (machine : Machine F) (s : State F) (g : ℕ) where
  -- where it stands
  pub stands : (before : List F) (stand : CodeStand) → slice_get s.goroutines g ≡ Some before
      → standing machine s g ≡ Some stand → newest_stand machine before ≡ Some stand
  stands before stand found is = ap (option_and_then (newest_stand machine)) (sym found) ∙ is

  -- who stands anywhere exists
  pub exists : (stand : CodeStand) → length s.goroutines ≤ g → standing machine s g ≡ Some stand → ⊥
  exists stand past is =
      let none : standing machine s g ≡ None =
      ap (option_and_then (newest_stand machine)) (slice_get_past s.goroutines g past) in cc

  -- who stands nowhere has no step alone
  nowhere : (o : Option (List F)) → option_and_then (newest_stand machine) o ≡ None
      → option_and_then (alone machine s g) o ≡ None
  nowhere None e = refl
  nowhere (Some []) e = refl
  nowhere (Some (f ∷ callers)) e = cc

  pub not_standing : standing machine s g ≡ None → picked machine s (One g) ≡ None
  not_standing e = nowhere (slice_get s.goroutines g) e

  module _ (before after : List F) (n : Memory) (new : List ℕ) (run : s.ended ≡ None)
      (found : slice_get s.goroutines g ≡ Some before) where
    abbrev left : Option End → State F
    left ended = record { memory = n; goroutines = slice_set s.goroutines g after; printed = new; ended = ended }

    as_running : picked machine s (One g) ≡ alone machine (record s { ended = None }) g before
    as_running =
        ap (option_and_then (alone machine s g)) found
        ∙ ap (λ ended. alone machine (record s { ended = ended }) g before) run

    goes_so : (ended : Option End) → GoroutineSteps machine g ended s.memory n before after s.printed new
        → picked machine s (One g) ≡ Some (left ended)
    goes_so ended goes = as_running ∙ goes s.goroutines found

    same_so : (n ≡ s.memory) × (after ≡ before) × (new ≡ s.printed) → left s.ended ≡ s
    same_so same = λ i. record {
      memory = same.0 i;
      goroutines = (ap (slice_set s.goroutines g) same.1 ∙ set_same s.goroutines g before found) i;
      printed = same.2 i;
      ended = s.ended;
    }

    running_so : GoroutineSteps machine g None s.memory n before after s.printed new
        → (picked machine s (One g) ≡ Some (left s.ended)) × (s.ended ≡ None)
    running_so goes = (goes_so None goes ∙ ap (λ ended. Some (left ended)) (sym run), run)

    -- the run ended
    pub ends : (r : Happened) (e : End) → r ≡ happened.Ends e
        → Happens machine g (Ok r) s.memory n before after s.printed new
        → StepsAlone (Ok r) s (left (Some e)) (picked machine s (One g))
    ends r e is happens =
        let P = λ (r : Happened). StepsAlone (Ok r) s (left (Some e)) (picked machine s (One g)) in
        let Q = λ (r : Happened). Happens machine g (Ok r) s.memory n before after s.printed new in
        subst P (sym is) (goes_so (Some e) (subst Q is happens), refl)

    -- it continues, or waits
    pub continues : (r : Happened) → ((e : End) → r ≡ happened.Ends e → ⊥)
        → Happens machine g (Ok r) s.memory n before after s.printed new
        → StepsAlone (Ok r) s (left s.ended) (picked machine s (One g))
    continues happened.Waits not_over happens =
        (as_running ∙ happens.0 s.goroutines, same_so (happens.1, happens.2, happens.3))
    continues happened.Moves not_over happens = running_so happens
    continues happened.Prints not_over happens = running_so happens
    continues (happened.Operates k) not_over happens = running_so happens
    continues (happened.Ends e) not_over happens = absurd (not_over e refl)

    -- there was no memory
    pub fails : (n ≡ s.memory) × (after ≡ before) × (new ≡ s.printed) → left s.ended ≡ s
    fails same = same_so same

  -- ---- starts

  abbrev added : List F × List F → State F
  added both = record s { goroutines = slice_set s.goroutines g both.0 ++ both.1 ∷ [] }

  starts_at : (f : F) (callers : List F) (stand : Stand F) (both : List F × List F) → stand_of stand ≡ code.Start
      → option_map with_child_goroutine (option_map (onto callers) (entered_frames stand)) ≡ Some both
      → stepped machine s g f callers stand ≡ Some (added both)
  starts_at f callers (AtStart next child) both is e = ap (option_map added) e
  starts_at f callers (AtReceive channel blank go_on) both is e = cc
  starts_at f callers (AtSend channel v place next) both is e = cc
  starts_at f callers (AtClose channel place next) both is e = cc
  starts_at f callers (AtCall next callee) both is e = cc
  starts_at f callers Elsewhere both is e = cc

  some_stand : (a b : CodeStand) → Some a ≡ Some b → a ≡ b
  some_stand a b e = cc

  alone_starts : (before : List F) (both : List F × List F) → newest_stand machine before ≡ Some code.Start
      → option_map with_child_goroutine (entered_by machine before) ≡ Some both → alone machine s g before ≡ Some (added both)
  alone_starts [] both is e = cc
  alone_starts (f ∷ callers) both is e = starts_at f callers (machine.stand f) both (some_stand _ _ is) e

  pub starts : (before after child : List F) → s.ended ≡ None → slice_get s.goroutines g ≡ Some before
      → newest_stand machine before ≡ Some code.Start
      → option_map with_child_goroutine (entered_by machine before) ≡ Some (after, child)
      → (picked machine s (One g) ≡ Some (record s { goroutines = slice_set s.goroutines g after ++ child ∷ [] }))
      × (s.ended ≡ None)
  starts before after child run found is e =
      (ap (option_and_then (alone machine s g)) found ∙ alone_starts before (after, child) is e, run)

  not_entered : (callers : List F) (stand : Stand F) → stand_of stand ≡ code.Start
      → option_map (onto callers) (entered_frames stand) ≡ None → ⊥
  not_entered callers (AtStart next child) is e = cc
  not_entered callers (AtReceive channel blank go_on) is e = cc
  not_entered callers (AtSend channel v place next) is e = cc
  not_entered callers (AtClose channel place next) is e = cc
  not_entered callers (AtCall next callee) is e = cc
  not_entered callers Elsewhere is e = cc

  -- who stands before a start enters
  pub always_enters : (before : List F) → newest_stand machine before ≡ Some code.Start
      → entered_by machine before ≡ None → ⊥
  always_enters [] is e = cc
  always_enters (f ∷ callers) is e = not_entered callers (machine.stand f) (some_stand _ _ is) e

  -- the state with the goroutine as it was
  pub unchanged : (before after : List F) → slice_get s.goroutines g ≡ Some before → after ≡ before
      → record s { goroutines = slice_set s.goroutines g after } ≡ s
  unchanged before after found same =
      ap (λ l. record s { goroutines = l }) (ap (slice_set s.goroutines g) same ∙ set_same s.goroutines g before found)

-- ---- of the code's state

module _ {F : Type 0} (machine : Machine F) (u s : State F) (view : u ≡ s) where
  pub seen : (g : ℕ) (r : Happened) (left : State F) → StepsAlone (Ok r) u left (picked machine u (One g))
      → StepsAlone (Ok r) s left (picked machine s (One g))
  seen g r left steps = subst (λ (x : State F). StepsAlone (Ok r) x left (picked machine x (One g))) view steps

module _ {F : Type 0} (u s : State F) (view : u ≡ s) where
  pub changes_seen : (answer : Result Happened AllocError) (n : Memory) → ChangesAt answer u.memory n
      → ChangesAt answer s.memory n
  changes_seen answer n changes = subst (λ (x : State F). ChangesAt answer x.memory n) view changes

  pub print_seen : (answer : Result Happened AllocError) (new : List ℕ) → KeepsPrint answer u.printed new
      → KeepsPrint answer s.printed new
  print_seen answer new keeps = subst (λ (x : State F). KeepsPrint answer x.printed new) view keeps

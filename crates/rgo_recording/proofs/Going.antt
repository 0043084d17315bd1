-- A run that lacks room for what some goroutine does next is in no deadlock: without its regions that goroutine has a step.
-- The same is true before a call and before the start of a goroutine.
use Rattle.std.proofs.Common.{◌≡◌, ℕ, zero, suc, List, [], ◌∷◌, drop, Option, Some, None, IsSome}
use Rattle.std.proofs.Common.{refl, sym, ap, ◌∙◌, subst, arith, true≢false, slice_get, option_and_then}
use Rattle.std.proofs.lemmas.Option.{slice_get_within}
use Rattle.rgo_memory.specs.Memory.{Memory}
use Rattle.rgo_machine.specs.declared.limits.Limits.{Limits}
use Rattle.rgo_machine.specs.declared.limits.Sizes.{Sizes}
use Rattle.rgo_machine.specs.declared.picks.End.{End}
use Rattle.rgo_machine.specs.declared.picks.Pick.TheVariants.{One}
use Rattle.rgo_machine.specs.declared.limits.Shortage.{Shortage}
use Rattle.rgo_machine.specs.declared.limits.Shortage.TheVariants as shortage
use Rattle.rgo_machine.specs.Deadlocks.{HasReturnedOrWaits, IsDeadlock, WaitsAt}
use Rattle.rgo_machine.specs.Limits.{IsAtCall, IsAtStart, IsFull, IsCallTooDeep}
use Rattle.rgo_machine.specs.Machines.{Machine, Stand, State, alone, step_by, unless_ended}
use Rattle.rgo_machine.specs.Machines.{AtCall, AtClose, AtReceive, AtSend, AtStart, Elsewhere}
use Rattle.rgo_machine.proofs.Waiting.{deadlocks_wait, no_step}
use Rattle.rgo_tac.specs.Frames.{TacFrame}
use Rattle.rgo_tac.specs.Steps.{tac_stand}
use Rattle.rgo_tac.specs.Tac.{TacState, tac}
use Rattle.rgo_code.specs.Checked.{IsChecked}
use Rattle.rgo_code.specs.Code.{Code}
use Rattle.rgo_code.specs.Erasure.{erased}
use Rattle.rgo_region_machine.specs.declared.regions.Region.{Region}
use Rattle.rgo_region_machine.specs.Machine.{TakePage, object_made, page_before, page_for, page_taken, plain_step}
use Rattle.rgo_region_machine.specs.Machine.{region_step, take_page, takes_page}
use Rattle.rgo_region_machine.specs.Objects.{new_object, with_page}
use Rattle.rgo_region_machine.specs.Owed.{current, next_duties}
use Rattle.rgo_region_machine.specs.States.{Create, Duty, RegionState, frames_in, frames_of}
use Rattle.rgo_region_machine.specs.States as spec
use Rattle.rgo_sound.proofs.plain.Steps.{Yields, yields, yields_if, yields_none, yields_then}
use Rattle.rgo_sound.proofs.Places.{get_some}
use Rattle.rgo_sound.proofs.steps.OneStep.{StandsAt, stands_at_channel}
use Rattle.rgo_machine.specs.declared.ends.RunEnd.TheVariants as run_end
use Rattle.rgo_region_interpreter.specs.declared.worlds.World.{World}
use Rattle.rgo_region_interpreter.specs.Worlds.{WorldLacks, OwesNext, IsWorldAt}
use Rattle.rgo_region_interpreter.proofs.stepping.Meeting.{receiver_owes_none, sender_owes_none}
use Rattle.rgo_recording.specs.declared.recording.Recorded.{Recorded}
use Rattle.rgo_recording.specs.Recordings.{Records}

-- ---- a goroutine that goes on

module _ {F : Type 0} (machine : Machine F) (s : State F) where
  -- some goroutine has not returned, and does not wait at a channel
  record Goes : Type 0 where
    goroutine : ℕ
    frames : List F
    there : slice_get s.goroutines goroutine ≡ Some frames
    goes : HasReturnedOrWaits machine s.memory frames → ⊥

  no_deadlock : Goes → IsDeadlock machine s → ⊥
  no_deadlock x dead = x.goes (deadlocks_wait machine s dead x.goroutine x.frames x.there)

  call_goes : (m : Memory) (at : Stand F) → IsAtCall at → WaitsAt m at → ⊥
  call_goes m (AtCall next callee) is waits = waits
  call_goes m (AtReceive channel blank next) is waits = is
  call_goes m (AtSend channel value place next) is waits = is
  call_goes m (AtClose channel place next) is waits = is
  call_goes m (AtStart next child) is waits = is
  call_goes m Elsewhere is waits = is

  start_goes : (m : Memory) (at : Stand F) → IsAtStart at → WaitsAt m at → ⊥
  start_goes m (AtStart next child) is waits = waits
  start_goes m (AtReceive channel blank next) is waits = is
  start_goes m (AtSend channel value place next) is waits = is
  start_goes m (AtClose channel place next) is waits = is
  start_goes m (AtCall next callee) is waits = is
  start_goes m Elsewhere is waits = is

  pub deep_goes_on : IsCallTooDeep machine s → IsDeadlock machine s → ⊥
  deep_goes_on deep = no_deadlock (record {
    goroutine = deep.goroutine;
    frames = deep.frame ∷ deep.callers;
    there = deep.frames;
    goes = call_goes s.memory (machine.stand deep.frame) deep.calls;
  })

  pub full_goes_on : (limits : Limits) → IsFull machine limits s → IsDeadlock machine s → ⊥
  full_goes_on limits full = no_deadlock (record {
    goroutine = full.goroutine;
    frames = full.frame ∷ full.callers;
    there = full.frames;
    goes = start_goes s.memory (machine.stand full.frame) full.starts;
  })

  -- one that has a step alone
  step_goes : (g : ℕ) (next : State F) → step_by machine s (One g) ≡ Some next → Goes
  step_goes g next steps = by (slice_get s.goroutines g) refl
    where
      over : (ended : Option End) → unless_ended {F = F} ended None ≡ None
      over None = refl
      over (Some end) = refl

      by : (o : Option (List F)) → slice_get s.goroutines g ≡ o → Goes
      by None there =
          let none = ap (λ p. unless_ended s.ended (option_and_then (alone machine s g) p)) there ∙ over s.ended in
          absurd (let both = sym none ∙ steps in cc)
      by (Some frames) there = record {
        goroutine = g;
        frames = frames;
        there = there;
        goes = λ waits. let both = sym (no_step machine s g frames there waits) ∙ steps in cc;
      }

-- ---- pages: the next instruction makes an object

some_of : {X : Type 0} (Q : Type 0) (o : Option X) → Yields (λ _. Q) o → IsSome o → Q
some_of Q None y is = absurd (true≢false (sym is))
some_of Q (Some x) y is = y.fact

module _ (code : Code) (page_words : ℕ) (s : RegionState) (g : ℕ) where
  abbrev Steps : Type 0
  Steps = (next : TacState) × (plain_step code s.plain (One g) ≡ Some next)

  makes : (h : spec.Holder) (r : Region) (o : Option TacState) → plain_step code s.plain (One g) ≡ o
      → Yields (λ _. Steps) (option_and_then (page_before page_words s g h r) (object_made s o))
  makes h r None is = record { fact = tt }
  makes h r (Some next) is = yields_then (page_before page_words s g h r) (new_object s.plain next)
      (λ object. yields_if _ _ _ (yields (page_taken s g (with_page page_words h r object) r) (next, is)) yields_none)

  page_steps : (h : spec.Holder) (frames : List TacFrame) → Yields (λ _. Steps) (take_page code page_words s g h frames)
  page_steps h [] = record { fact = tt }
  page_steps h (frame ∷ callers) = yields_then (page_for code page_words s g h frame) (current code frame)
      (λ i. yields_then (takes_page code page_words s g h) _
      (λ r. makes h r (plain_step code s.plain (One g)) refl))

  taking_steps : IsSome (region_step code page_words s (TakePage g)) → Steps
  taking_steps = some_of Steps (region_step code page_words s (TakePage g))
      (yields_then (λ h. take_page code page_words s g h (frames_of s.plain g)) (slice_get s.holders g)
      (λ h. page_steps h (frames_of s.plain g)))

-- ---- regions: a goroutine that owes a creation is before no receive or send, since these create nothing

module _ (code : Code) (checked : IsChecked code) where
  waits_owes : (m : Memory) (frame : TacFrame) (callers : List TacFrame) (at : Stand TacFrame) → StandsAt code frame callers at
      → WaitsAt m at → next_duties code (frame ∷ callers) ≡ []
  waits_owes m frame callers (AtReceive channel blank next) x waits =
      receiver_owes_none code checked (frame ∷ callers) channel (λ v. next v ∷ callers) x
  waits_owes m frame callers (AtSend channel value place next) x waits =
      sender_owes_none code checked (frame ∷ callers) channel value (next ∷ callers) x
  waits_owes m frame callers (AtClose channel place next) x waits = absurd waits
  waits_owes m frame callers (AtCall next callee) x waits = absurd waits
  waits_owes m frame callers (AtStart next child) x waits = absurd waits
  waits_owes m frame callers Elsewhere x waits = absurd waits

  -- who owes something before the next instruction neither has returned nor waits
  owing_goes : (p : TacState) (g : ℕ) → (next_duties code (frames_of p g) ≡ [] → ⊥) → Goes (tac (erased code)) p
  owing_goes p g owes = by (slice_get p.goroutines g) refl
    where
      at : (frames : List TacFrame) → HasReturnedOrWaits (tac (erased code)) p.memory frames → next_duties code frames ≡ []
      at [] waits = refl
      at (frame ∷ callers) waits =
          waits_owes p.memory frame callers (tac_stand (erased code) frame) (stands_at_channel code frame callers) waits

      by : (o : Option (List TacFrame)) → slice_get p.goroutines g ≡ o → Goes (tac (erased code)) p
      by None there = absurd (owes (ap (λ o. next_duties code (frames_in o)) there))
      by (Some frames) there = record {
        goroutine = g;
        frames = frames;
        there = there;
        goes = λ waits. owes (ap (λ o. next_duties code (frames_in o)) there ∙ at frames waits);
      }

none_left : {X : Type 0} (n : ℕ) (xs : List X) → xs ≡ [] → drop n xs ≡ []
none_left zero xs e = e
none_left (suc n) xs e = ap (drop (suc n)) e

-- ---- a world that lacks room

module _ (w : World) (given : List ℕ) (p : TacState) (running : p.ended ≡ None) where
  unmarked : (at : IsWorldAt w given p) → at.reaches.state.mark ≡ None
  unmarked at = at.unstopped (sym (ap (λ v. v.ended) at.reaches.is) ∙ running)

  creating_goes : (at : IsWorldAt w given p) (g k : ℕ) (h : spec.Holder) (duties : List Duty)
      → slice_get at.reaches.state.holders g ≡ Some h → h.duties ≡ Create k ∷ duties
      → Goes (tac (erased w.code.now)) at.reaches.state.plain
  creating_goes at g k h duties there owed =
      let s = at.reaches.state in
      let within = slice_get_within s.holders g h there in
      let as_many = (at.shown.holders (unmarked at)).as_many in
      let c = get_some w.holders.items g (omega (arith, within, as_many)) in
      let owes : OwesNext w.code.now s g c.0 h = at.owes (unmarked at) g c.0 h c.1 there in
      owing_goes w.code.now at.reaches.checked s.plain g
      (λ none. let left = sym owed ∙ owes.left ∙ none_left c.0.done _ none in cc)

  lacking_goes : (why : Shortage) (lacks : WorldLacks w why given p) → Goes (tac (erased w.code.now)) lacks.0.reaches.state.plain
  lacking_goes shortage.Pages lacks =
      let s = lacks.0.reaches.state in
      let x = taking_steps w.code.now w.sizes.page_words s lacks.1.0 lacks.1.1 in
      step_goes (tac (erased w.code.now)) s.plain lacks.1.0 x.0 x.1
  lacking_goes shortage.Regions lacks =
      creating_goes lacks.0 lacks.1.0 lacks.1.1 lacks.1.2 lacks.1.3 lacks.1.4 lacks.1.5
  lacking_goes shortage.ObjectSize lacks =
      step_goes (tac (erased w.code.now)) lacks.0.reaches.state.plain lacks.1.0 lacks.1.1 lacks.1.2

-- whatever was given out and printed before
lacking_goes_on : (w : World) (given print : List ℕ) (why : Shortage) (t : TacState)
    → WorldLacks w why given (record t { printed = print }) → IsDeadlock (tac (erased w.code.now)) t → ⊥
lacking_goes_on w given print why t lacks dead =
    let x = lacking_goes w given (record t { printed = print }) dead.0 why lacks in
    x.goes (subst (λ m. HasReturnedOrWaits (tac (erased w.code.now)) m x.frames)
    (ap (λ v. v.memory) lacks.0.reaches.is)
    (deadlocks_wait (tac (erased w.code.now)) t dead x.goroutine x.frames
    (ap (λ v. slice_get v.goroutines x.goroutine) lacks.0.reaches.is ∙ x.there)))

-- a recorded run that ended since there was no room is not in a deadlock
pub recorded_goes_on : (code : Code) (sizes : Sizes) (limits : Limits) (old new : Option (List ℕ)) (r : Recorded)
    (records : Records code sizes limits old new r) (why : Shortage) → r.end ≡ run_end.NoRoom why
    → IsDeadlock (tac (erased code)) records.runs.runs.state → ⊥
recorded_goes_on code sizes limits old new r records why is dead =
    lacking_goes_on r.world records.runs.before r.world.state.printed why records.runs.runs.state
    (records.runs.left.lacks why is)
    (subst (λ c. IsDeadlock (tac (erased c)) records.runs.runs.state) (λ i. (sym records.fixed i).0) dead)

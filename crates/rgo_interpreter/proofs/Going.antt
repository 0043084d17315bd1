-- What one goroutine does, as a step of the machine: one lemma for each thing that it can be before. Each is about `alone` among any other
-- goroutines, so the list of goroutines is not looked into. The hard case is a return, which ends the run if it is the last of `main`.
use Rattle.std.proofs.Common.{◌≡◌, ℕ, zero, suc, Bool, true, false, List, [], ◌∷◌, Option, Some, None, Result, Ok}
use Rattle.std.proofs.Common.{option_map, slice_set, refl, ap, sym, ◌∙◌, subst, ◌+◌, length, reverse, drop, get_or}
use Rattle.std.specs.declared.alloc.AllocError.{AllocError}
use Rattle.rgo_interpreter.specs.declared.effects.Effect.{Effect as CodeEffect}
use Rattle.rgo_interpreter.specs.declared.effects.Effect.TheVariants as effect
use Rattle.rgo_memory.specs.declared.traps.Trap.{Trap}
use Rattle.rgo_memory.specs.declared.values.Value.{Value}
use Rattle.rgo_memory.specs.declared.values.Value.TheVariants as value
use Rattle.rgo_memory.specs.Channels.{receive, send, close, SameChannels}
use Rattle.rgo_memory.specs.Effects.{Effect, Does, Traps}
use Rattle.rgo_memory.specs.Memory.{Memory}
use Rattle.rgo_interpreter.specs.Views.{LeavesOutcome, LeavesIfReady}
use Rattle.rgo_interpreter.proofs.InPlace.{set_same}
use Rattle.rgo_interpreter.proofs.Operating.{ChangesOnly}
use Rattle.rgo_interpreter.proofs.Newest.{newest, renewed}
use Rattle.rgo_interpreter.specs.declared.goroutines.Happened.{Happened}
use Rattle.rgo_interpreter.specs.declared.goroutines.Happened.TheVariants as happened
use Rattle.rgo_interpreter.specs.declared.machines.Did.TheVariants as did
use Rattle.rgo_interpreter.specs.declared.machines.Stand.{Stand as CodeStand}
use Rattle.rgo_interpreter.specs.declared.machines.Stand.TheVariants as code
use Rattle.rgo_machine.specs.declared.picks.End.TheVariants as the_end
use Rattle.rgo_interpreter.specs.Acting.{stand_of, frame_after_operation, entered_frames, newest_stand, FrameActs}
use Rattle.rgo_interpreter.specs.Alone.{happened_by, ChangesAt, after_effect, after_return, ended_by_return, after_call}
use Rattle.rgo_interpreter.specs.Alone.{onto, with_callee}
use Rattle.rgo_interpreter.specs.Alone.{running, GoroutineSteps, Happens, Calls}
use Rattle.rgo_machine.specs.Machines.{Machine, State, Stand, AtReceive, AtSend, AtClose, AtCall, AtStart, Elsewhere}
use Rattle.rgo_machine.specs.Machines.{Act, alone, stepped, operated, acted, state_after_return}
use Rattle.rgo_machine.specs.Machines as machines

-- ---- operations on channels

abbrev is_at_channel : CodeStand → Bool
is_at_channel (code.Receive channel blank) = true
is_at_channel (code.Send channel v place) = true
is_at_channel (code.Close channel place) = true
is_at_channel _ = false

-- none where the channel is not ready
abbrev operation : Memory → CodeStand → Option Effect
operation m (code.Receive channel blank) = receive m channel blank
operation m (code.Send channel v place) = send m channel v
operation m (code.Close channel place) = Some (close m channel)
operation m _ = None

abbrev place_of : CodeStand → ℕ
place_of (code.Send channel v place) = place
place_of (code.Close channel place) = place
place_of _ = 0

-- which channels change by what happens
pub changes : (e : CodeEffect) (c : Value) (place : ℕ) (m n : Memory) (outcome : Effect) → LeavesOutcome e m n outcome
    → ChangesOnly c m n → ChangesAt (Ok (happened_by e c place)) m n
changes (effect.Gives v) (value.Object k) place m n outcome leaves only = only
changes (effect.Gives v) (value.Int z) place m n outcome leaves only = only
changes (effect.Gives v) (value.Bool b) place m n outcome leaves only = only
changes (effect.Gives v) value.Nil place m n outcome leaves only = only
changes (effect.Traps trap) c place m n outcome leaves only =
    let P : Memory → Type 0 = SameChannels m in subst P (sym leaves.1) (λ k channel e. e)

-- the same where the channel may not be ready
pub changes_ready : (e : CodeEffect) (c : Value) (place : ℕ) (m n : Memory) (outcome : Option Effect)
    → LeavesIfReady (Some e) m n outcome → ChangesOnly c m n → ChangesAt (Ok (happened_by e c place)) m n
changes_ready (effect.Gives v) c place m n outcome leaves only = changes (effect.Gives v) c place m n (Does n v) refl
    only
changes_ready (effect.Traps trap) c place m n outcome leaves only =
    changes (effect.Traps trap) c place m n (Traps trap) (refl, leaves.1) only

pub changes_of : (e : CodeEffect) (c : Value) (place : ℕ) (m n : Memory) (outcome : Option Effect) (result : Happened)
    → LeavesIfReady (Some e) m n outcome → ChangesOnly c m n → result ≡ happened_by e c place
    → ChangesAt (Ok result) m n
changes_of e c place m n outcome result leaves only is =
    subst (λ (r : Happened). ChangesAt (Ok r) m n) (sym is) (changes_ready e c place m n outcome leaves only)

-- what is always ready
pub ready : (e : CodeEffect) (m n : Memory) (outcome : Effect) → LeavesOutcome e m n outcome
    → LeavesIfReady (Some e) m n (Some outcome)
ready (effect.Gives v) m n outcome leaves = ap Some leaves
ready (effect.Traps trap) m n outcome leaves = (ap Some leaves.0, leaves.1)

module _ {F : Type 0} (machine : Machine F) where
  stepped_at : (s : State F) (g : ℕ) (f : F) (callers : List F) (stand : Stand F)
      → is_at_channel (stand_of stand) ≡ true
      → stepped machine s g f callers stand
      ≡ option_map (operated s g callers (λ v. frame_after_operation f v stand) (place_of (stand_of stand)))
      (operation s.memory (stand_of stand))
  stepped_at s g f callers (AtReceive channel blank go_on) there = refl
  stepped_at s g f callers (AtSend channel v place next) there = refl
  stepped_at s g f callers (AtClose channel place next) there = refl
  stepped_at s g f callers (AtCall next callee) there = cc
  stepped_at s g f callers (AtStart next child) there = cc
  stepped_at s g f callers Elsewhere there = cc

  some_stand : (a b : CodeStand) → Some a ≡ Some b → a ≡ b
  some_stand a b e = cc

  -- the step of a goroutine that stands at a channel
  at_channel : (s : State F) (g : ℕ) (f : F) (callers : List F) (stand : CodeStand)
      → newest_stand machine (f ∷ callers) ≡ Some stand → is_at_channel stand ≡ true
      → alone machine s g (f ∷ callers)
      ≡ option_map (operated s g callers (λ v. frame_after_operation f v (machine.stand f)) (place_of stand))
      (operation s.memory stand)
  at_channel s g f callers stand is there =
      let same : stand_of (machine.stand f) ≡ stand = some_stand _ _ is in
      stepped_at s g f callers (machine.stand f) (ap is_at_channel same ∙ there)
      ∙ ap (λ x. option_map (operated s g callers (λ v. frame_after_operation f v (machine.stand f)) (place_of x))
      (operation s.memory x)) same

  module _ (g : ℕ) (m n : Memory) (old : List ℕ) (stand : CodeStand) (there : is_at_channel stand ≡ true) where
    -- it waits
    pub waits_at : (frames : List F) → newest_stand machine frames ≡ Some stand
        → (operation m stand ≡ None) × (n ≡ m) → Happens machine g (Ok happened.Waits) m n frames frames old old
    waits_at [] is none = cc
    waits_at (f ∷ callers) is none = (
      λ goroutines. at_channel (running m goroutines old) g f callers stand is there
          ∙ ap (option_map (operated (running m goroutines old) g callers (λ v. frame_after_operation f v (machine.stand f))
          (place_of stand))) none.0,
      none.1,
      refl,
      refl,
    )

    gives : (f : F) (callers : List F) (v : Value) → newest_stand machine (f ∷ callers) ≡ Some stand
        → operation m stand ≡ Some (Does n v)
        → GoroutineSteps machine g None m n (f ∷ callers) (frame_after_operation f v (machine.stand f) ∷ callers) old old
    gives f callers v is leaves =
        λ goroutines found.
        at_channel (running m goroutines old) g f callers stand is there
        ∙ ap (option_map (operated (running m goroutines old) g callers (λ v. frame_after_operation f v (machine.stand f))
        (place_of stand))) leaves

    -- it operates, or traps
    pub operates_at : (frames : List F) (e : CodeEffect) (c : Value) → newest_stand machine frames ≡ Some stand
        → LeavesIfReady (Some e) m n (operation m stand)
        → Happens machine g (Ok (happened_by e c (place_of stand))) m n frames (after_effect machine e frames) old old
    operates_at [] e c is leaves = cc
    operates_at (f ∷ callers) (effect.Gives v) (value.Object k) is leaves = gives f callers v is leaves
    operates_at (f ∷ callers) (effect.Gives v) (value.Int z) is leaves = gives f callers v is leaves
    operates_at (f ∷ callers) (effect.Gives v) (value.Bool b) is leaves = gives f callers v is leaves
    operates_at (f ∷ callers) (effect.Gives v) value.Nil is leaves = gives f callers v is leaves
    operates_at (f ∷ callers) (effect.Traps trap) c is leaves =
        λ goroutines found.
        at_channel (running m goroutines old) g f callers stand is there
        ∙ ap (option_map (operated (running m goroutines old) g callers (λ v. frame_after_operation f v (machine.stand f))
        (place_of stand))) leaves.0
        ∙ (λ i. Some (record {
          memory = sym leaves.1 i;
          goroutines = sym (set_same goroutines g (f ∷ callers) found) i;
          printed = old;
          ended = Some (the_end.Trap trap (place_of stand));
        }))

  -- ---- calls

  calls_at : (s : State F) (g : ℕ) (f : F) (callers after : List F) (stand : Stand F) → stand_of stand ≡ code.Call
      → option_map with_callee (option_map (onto callers) (entered_frames stand)) ≡ Some after
      → stepped machine s g f callers stand ≡ Some (machines.with_frames s g after)
  calls_at s g f callers after (AtCall next callee) is e = ap (option_map (machines.with_frames s g)) e
  calls_at s g f callers after (AtReceive channel blank go_on) is e = cc
  calls_at s g f callers after (AtSend channel v place next) is e = cc
  calls_at s g f callers after (AtClose channel place next) is e = cc
  calls_at s g f callers after (AtStart next child) is e = cc
  calls_at s g f callers after Elsewhere is e = cc

  pub called : (g : ℕ) (m : Memory) (before after : List F) (old : List ℕ)
      → newest_stand machine before ≡ Some code.Call
      → Calls machine (Ok true) before after → Happens machine g (Ok happened.Moves) m m before after old old
  called g m [] after old is calls = cc
  called g m (f ∷ callers) after old is calls =
      λ goroutines found. calls_at (running m goroutines old) g f callers after (machine.stand f) (some_stand _ _ is)
      calls

  enters_there : (stand : Stand F) (callers : List F) → stand_of stand ≡ code.Call
      → option_map with_callee (option_map (onto callers) (entered_frames stand)) ≡ None → ⊥
  enters_there (AtCall next callee) callers is e = cc
  enters_there (AtReceive channel blank go_on) callers is e = cc
  enters_there (AtSend channel v place next) callers is e = cc
  enters_there (AtClose channel place next) callers is e = cc
  enters_there (AtStart next child) callers is e = cc
  enters_there Elsewhere callers is e = cc

  -- who stands before a call enters
  pub never_waits : (before : List F) → newest_stand machine before ≡ Some code.Call
      → after_call machine before ≡ None → ⊥
  never_waits [] is e = cc
  never_waits (f ∷ callers) is e = enters_there (machine.stand f) callers (some_stand _ _ is) e

  -- ---- acts

  acts_at : (s : State F) (g : ℕ) (f : F) (callers : List F) (stand : Stand F) → stand_of stand ≡ code.Elsewhere
      → stepped machine s g f callers stand ≡ Some (acted machine s g callers (machine.act s.memory f))
  acts_at s g f callers Elsewhere is = refl
  acts_at s g f callers (AtReceive channel blank go_on) is = cc
  acts_at s g f callers (AtSend channel v place next) is = cc
  acts_at s g f callers (AtClose channel place next) is = cc
  acts_at s g f callers (AtCall next callee) is = cc
  acts_at s g f callers (AtStart next child) is = cc

  module _ (g : ℕ) (m n : Memory) (f h : F) (callers : List F) (old new : List ℕ)
      (is : newest_stand machine (f ∷ callers) ≡ Some code.Elsewhere) where
    acts : (a : Act F) → machine.act m f ≡ a → (goroutines : List (List F))
        → alone machine (running m goroutines old) g (f ∷ callers)
        ≡ Some (acted machine (running m goroutines old) g callers a)
    acts a act goroutines =
        acts_at (running m goroutines old) g f callers (machine.stand f) (some_stand _ _ is)
        ∙ ap (λ a. Some (acted machine (running m goroutines old) g callers a)) act

    pub moves : FrameActs (Ok did.Moves) m n f h old new (machine.act m f)
        → Happens machine g (Ok happened.Moves) m n (f ∷ callers) (h ∷ callers) old new
    moves did = λ goroutines found.
        acts (machines.Moves n h) did.0 goroutines
        ∙ ap (λ p. Some (record {
          memory = n;
          goroutines = slice_set goroutines g (h ∷ callers);
          printed = p;
          ended = None;
        }))
        (sym did.1)

    pub prints : FrameActs (Ok did.Prints) m n f h old new (machine.act m f)
        → Happens machine g (Ok happened.Prints) m n (f ∷ callers) (h ∷ callers) old new
    prints did = λ goroutines found.
        acts (machines.Prints h did.0) did.1 goroutines
        ∙ (λ i. Some (record {
          memory = sym did.2 i;
          goroutines = slice_set goroutines g (h ∷ callers);
          printed = sym did.3 i;
          ended = None;
        }))

    pub traps : (trap : Trap) (at : ℕ) → FrameActs (Ok (did.Traps trap at)) m n f h old new (machine.act m f)
        → Happens machine g (Ok (happened.Ends (the_end.Trap trap at))) m n (f ∷ callers) (h ∷ callers) old new
    traps trap at did = λ goroutines found.
        acts (machines.Traps trap at) did.0 goroutines
        ∙ (λ i. Some (record {
          memory = sym did.1 i;
          goroutines = (sym (set_same goroutines g (f ∷ callers) found)
              ∙ ap (λ x. slice_set goroutines g (x ∷ callers)) (sym did.2)) i;
          printed = sym did.3 i;
          ended = Some (the_end.Trap trap at);
        }))

    returns_at : (v : Option Value) → FrameActs (Ok (did.Returns v)) m n f h old new (machine.act m f)
        → (goroutines : List (List F))
        → alone machine (running m goroutines old) g (f ∷ callers)
        ≡ Some (state_after_return machine (running n goroutines new) g callers v)
    returns_at v did goroutines =
        acts (machines.Returns v) did.0 goroutines
        ∙ (λ i. Some (state_after_return machine (running (sym did.1 i) goroutines (sym did.3 i)) g callers v))

  -- a return, by whether there is a caller, and whether it is `main`
  pub returns : (g : ℕ) (m n : Memory) (f h : F) (callers : List F) (old new : List ℕ)
      → newest_stand machine (f ∷ callers) ≡ Some code.Elsewhere → (v : Option Value)
      → FrameActs (Ok (did.Returns v)) m n f h old new (machine.act m f)
      → Happens machine g (Ok (ended_by_return g (after_return machine v (f ∷ callers)))) m n (f ∷ callers)
      (after_return machine v (f ∷ callers)) old new
  returns zero m n f h [] old new is v did =
      λ goroutines found. returns_at zero m n f h [] old new is v did goroutines
  returns (suc g) m n f h [] old new is v did =
      λ goroutines found. returns_at (suc g) m n f h [] old new is v did goroutines
  returns zero m n f h (caller ∷ callers) old new is v did =
      λ goroutines found. returns_at zero m n f h (caller ∷ callers) old new is v did goroutines
  returns (suc g) m n f h (caller ∷ callers) old new is v did =
      λ goroutines found. returns_at (suc g) m n f h (caller ∷ callers) old new is v did goroutines

  -- ---- the same, of the frames of a goroutine

  module _ (g : ℕ) (m m' : Memory) (l goroutine : List F) (view : reverse l ≡ goroutine) (f h : F) (n : ℕ)
      (e : n + 1 ≡ length l) (is : f ≡ get_or l n f) (old new : List ℕ)
      (stands : newest_stand machine goroutine ≡ Some code.Elsewhere) where
    abbrev callers : List F
    callers = drop 1 (reverse l)

    before_is : f ∷ callers ≡ goroutine
    before_is = sym (newest l f n e is) ∙ view

    stands_so : newest_stand machine (f ∷ callers) ≡ Some code.Elsewhere
    stands_so = ap (newest_stand machine) before_is ∙ stands

    placed : (r : Result Happened AllocError) → Happens machine g r m m' (f ∷ callers) (h ∷ callers) old new
        → Happens machine g r m m' goroutine (reverse (slice_set l n h)) old new
    placed r happens =
        subst (λ (a : List F). Happens machine g r m m' goroutine a old new) (sym (renewed l h n e))
        (subst (λ (b : List F). Happens machine g r m m' b (h ∷ callers) old new) before_is happens)

    pub act_moves : FrameActs (Ok did.Moves) m m' f h old new (machine.act m f)
        → Happens machine g (Ok happened.Moves) m m' goroutine (reverse (slice_set l n h)) old new
    act_moves did = placed (Ok happened.Moves) (moves g m m' f h callers old new stands_so did)

    pub act_prints : FrameActs (Ok did.Prints) m m' f h old new (machine.act m f)
        → Happens machine g (Ok happened.Prints) m m' goroutine (reverse (slice_set l n h)) old new
    act_prints did = placed (Ok happened.Prints) (prints g m m' f h callers old new stands_so did)

    pub act_traps : (trap : Trap) (at : ℕ) → FrameActs (Ok (did.Traps trap at)) m m' f h old new (machine.act m f)
        → Happens machine g (Ok (happened.Ends (the_end.Trap trap at))) m m' goroutine (reverse (slice_set l n h)) old
        new
    act_traps trap at did =
        placed (Ok (happened.Ends (the_end.Trap trap at))) (traps g m m' f h callers old new stands_so trap at did)

    -- the frames are as they were
    kept_so : h ≡ f → reverse (slice_set l n h) ≡ goroutine
    kept_so same = renewed l h n e ∙ ap (λ x. x ∷ callers) same ∙ before_is

    pub act_keeps : h ≡ f → reverse (slice_set l n h) ≡ goroutine
    act_keeps same = kept_so same

    pub act_returns : (v : Option Value) (after : List F) → FrameActs (Ok (did.Returns v)) m m' f h old new (machine.act m f)
        → after ≡ after_return machine v (reverse (slice_set l n h))
        → Happens machine g (Ok (ended_by_return g after)) m m' goroutine after old new
    act_returns v after did is_after =
        let same : after ≡ after_return machine v goroutine = is_after ∙ ap (after_return machine v) (kept_so did.2) in
        subst (λ (a : List F). Happens machine g (Ok (ended_by_return g a)) m m' goroutine a old new) (sym same)
        (subst (λ (b : List F). Happens machine g (Ok (ended_by_return g (after_return machine v b))) m m' b
        (after_return machine v b) old new)
        before_is (returns g m m' f h callers old new stands_so v did))

  -- an operation on a channel that has had an effect
  pub operates : (g : ℕ) (m n : Memory) (before after : List F) (old : List ℕ) (stand : CodeStand) (e : CodeEffect)
      (c : Value) (result : Happened) → is_at_channel stand ≡ true → newest_stand machine before ≡ Some stand
      → LeavesIfReady (Some e) m n (operation m stand) → result ≡ happened_by e c (place_of stand)
      → after ≡ after_effect machine e before → Happens machine g (Ok result) m n before after old old
  operates g m n before after old stand e c result there is leaves result_is after_is =
      subst (λ (a : List F). Happens machine g (Ok result) m n before a old old) (sym after_is)
      (subst (λ (r : Happened). Happens machine g (Ok r) m n before (after_effect machine e before) old old)
      (sym result_is)
      (operates_at g m n old stand there before e c is leaves))

-- A step of one goroutine leaves the frames of all others, and a meeting leaves those of a third one. With the channels that did not change
-- (Sleepers) this is all that a goroutine's having no step depends on.
use Rattle.std.proofs.Common.{◌≡◌, ◌<◌, ◌≤◌, ◌⊎◌, inl, inr, ℕ, zero, suc, Bool, true, false, List, [], ◌∷◌, ◌++◌}
use Rattle.std.proofs.Common.{length, Option, Some, None}
use Rattle.std.proofs.Common.{refl, ap, subst, ◌∙◌, arith, replicate, length-append, length-set}
use Rattle.std.specs.Prelude.{option_and_then, option_map, if◌then◌else◌, ◌==◌, slice_get, slice_set, ⊤}
use Rattle.rgo_memory.specs.declared.values.Value.{Value}
use Rattle.rgo_memory.specs.Channels.{receive, send, close, meets_at}
use Rattle.rgo_memory.specs.Effects.{Effect, Does}
use Rattle.rgo_memory.specs.Effects as effect
use Rattle.rgo_machine.specs.declared.limits.Limits.{Limits}
use Rattle.rgo_machine.specs.declared.picks.End.{End}
use Rattle.rgo_machine.specs.declared.picks.Pick.TheVariants.{One, Meet}
use Rattle.rgo_machine.specs.Limits.{LeadsWithin, limited_step, is_within}
use Rattle.rgo_machine.specs.Machines.{Act, Moves, Returns, Prints, Traps, Machine, State, with_frames}
use Rattle.rgo_machine.specs.Machines.{Stand, AtReceive, AtSend, AtClose, AtCall, AtStart, Elsewhere}
use Rattle.rgo_machine.specs.Machines.{acted, operated, stepped, alone, met, met_by, meet, picked, unless_ended}
use Rattle.rgo_machine.specs.Machines.{step_by}
use Rattle.rgo_machine.specs.Runs.{run}
use Rattle.std.proofs.lemmas.Option.{same_Some, slice_get_past}
use Rattle.rgo_machine.proofs.Items.{other_item}
use Rattle.rgo_interpreter.proofs.Limited.{room_at, set_within}
use Rattle.rgo_machine.proofs.Runs.{is_step}

-- ---- lists

module _ {X : Type 0} where
  get_before : (l m : List X) (h : ℕ) → h < length l → slice_get (l ++ m) h ≡ slice_get l h
  get_before [] m h lt = absurd (omega (arith, lt))
  get_before (x ∷ l) m zero lt = refl
  get_before (x ∷ l) m (suc h) lt = get_before l m h (omega (arith, lt))

-- ---- one goroutine alone

abbrev pub Only : ℕ → ℕ → Type 0
Only g h = h ≡ g

abbrev pub Either : ℕ → ℕ → ℕ → Type 0
Either r t h = (h ≡ r) ⊎ (h ≡ t)

-- nothing is lost of goroutines other than those
pub record Spares {F : Type 0} (turns : ℕ → Type 0) (s t : State F) : Type 0 where
  pub longer : length s.goroutines ≤ length t.goroutines
  pub same : (h : ℕ) → (turns h → ⊥) → h < length s.goroutines → slice_get t.goroutines h ≡ slice_get s.goroutines h

module _ {F : Type 0} where
  abbrev SparesIf : ℕ → State F → Option (State F) → Type 0
  SparesIf g s None = ⊤
  SparesIf g s (Some t) = Spares (Only g) s t

  spares_itself : (g : ℕ) (s : State F) → Spares (Only g) s s
  spares_itself g s = record { longer = omega arith; same = λ h other lt. refl }

  spares_set : (g : ℕ) (s : State F) (frames : List F) → Spares (Only g) s (with_frames s g frames)
  spares_set g s frames = record {
    longer = omega (arith, length-set s.goroutines g frames);
    same = λ h other lt. other_item s.goroutines g h frames other;
  }

  spares_start : (g : ℕ) (s t : State F) (frames child : List F)
      → t.goroutines ≡ slice_set s.goroutines g frames ++ child ∷ [] → Spares (Only g) s t
  spares_start g s t frames child is = record {
    longer = omega (
      arith,
      ap (λ l. length l) is,
      length-append (slice_set s.goroutines g frames) (child ∷ []),
      length-set s.goroutines g frames,
    );
    same = λ h other lt.
        ap (λ l. slice_get l h) is
        ∙ get_before (slice_set s.goroutines g frames) (child ∷ []) h (omega
        (arith, lt, length-set s.goroutines g frames))
        ∙ other_item s.goroutines g h frames other;
  }

  -- what it does to the rest of the state does not matter
  alike : (g : ℕ) (s t u : State F) → u.goroutines ≡ t.goroutines → Spares (Only g) s t → Spares (Only g) s u
  alike g s t u e h = record {
    longer = omega (arith, h.longer, ap (λ l. length l) e);
    same = λ k other lt. ap (λ l. slice_get l k) e ∙ h.same k other lt;
  }

module _ {F : Type 0} (machine : Machine F) (s : State F) (g : ℕ) where
  acts : (callers : List F) (a : Act F) → Spares (Only g) s (acted machine s g callers a)
  acts callers (Moves m f) = alike g s _ _ refl (spares_set g s (f ∷ callers))
  acts [] (Returns value) = alike g s _ _ refl (spares_set g s [])
  acts (caller ∷ callers) (Returns value) = spares_set g s (machine.resume caller value ∷ callers)
  acts callers (Prints f bytes) = alike g s _ _ refl (spares_set g s (f ∷ callers))
  acts callers (Traps trap place) = alike g s s _ refl (spares_itself g s)

  operates : (callers : List F) (go_on : Value → F) (place : ℕ) (e : Effect)
      → Spares (Only g) s (operated s g callers go_on place e)
  operates callers go_on place (Does m v) = alike g s _ _ refl (spares_set g s (go_on v ∷ callers))
  operates callers go_on place (effect.Traps trap) = alike g s s _ refl (spares_itself g s)

  operates_if : (callers : List F) (go_on : Value → F) (place : ℕ) (o : Option Effect)
      → SparesIf g s (option_map (operated s g callers go_on place) o)
  operates_if callers go_on place None = tt
  operates_if callers go_on place (Some e) = operates callers go_on place e

  steps_alone : (f : F) (callers : List F) (stand : Stand F) → SparesIf g s (stepped machine s g f callers stand)
  steps_alone f callers (AtReceive channel blank go_on) = operates_if callers go_on 0 (receive s.memory channel blank)
  steps_alone f callers (AtSend channel v place next) = operates_if callers (λ _. next) place (send s.memory channel v)
  steps_alone f callers (AtClose channel place next) = operates callers (λ _. next) place (close s.memory channel)
  steps_alone f callers (AtCall next callee) = spares_set g s (callee ∷ next ∷ callers)
  steps_alone f callers (AtStart next child) = spares_start g s _ (next ∷ callers) (child ∷ []) refl
  steps_alone f callers Elsewhere = acts callers (machine.act s.memory f)

  goes_alone : (o : Option (List F)) → SparesIf g s (option_and_then (alone machine s g) o)
  goes_alone None = tt
  goes_alone (Some []) = tt
  goes_alone (Some (f ∷ callers)) = steps_alone f callers (machine.stand f)

  unless : (e : Option End) (o : Option (State F)) → SparesIf g s o → SparesIf g s (unless_ended e o)
  unless None o h = h
  unless (Some e) o h = tt

  pub step_spares : (t : State F) → step_by machine s (One g) ≡ Some t → Spares (Only g) s t
  step_spares t e = subst (SparesIf g s) e (unless s.ended _ (goes_alone (slice_get s.goroutines g)))

module _ {F : Type 0} (g : ℕ) where
  pub spares_on : (s t u : State F) → Spares (Only g) s t → Spares (Only g) t u → Spares (Only g) s u
  spares_on s t u p q = record {
    longer = omega (arith, p.longer, q.longer);
    same = λ h other lt. q.same h other (omega (arith, lt, p.longer)) ∙ p.same h other lt;
  }

module _ {F : Type 0} (machine : Machine F) (s : State F) where
  -- a goroutine that does not exist has no step
  pub beyond : (h : ℕ) → length s.goroutines ≤ h → step_by machine s (One h) ≡ None
  beyond h past = over s.ended (ap (option_and_then (alone machine s h)) (slice_get_past s.goroutines h past)) where
    over : (e : Option End) → picked machine s (One h) ≡ None → unless_ended e (picked machine s (One h)) ≡ None
    over None q = q
    over (Some e) q = refl

module _ {F : Type 0} (machine : Machine F) (limits : Limits) (g : ℕ) where
  -- so do several
  pub turn_spares : (n : ℕ) (s t : State F) → LeadsWithin machine limits s (replicate n (One g)) t → Spares (Only g) s t
  turn_spares zero s t e = subst (Spares (Only g) s) (same_Some s t e) (spares_itself g s)
  turn_spares (suc n) s t e =
      first (limited_step machine limits s (One g)) (λ u q. (is_step machine limits s u (One g) q).0)
      (λ u e. turn_spares n u t e) e where
        first : (o : Option (State F)) → ((u : State F) → o ≡ Some u → step_by machine s (One g) ≡ Some u)
            → ((u : State F) → run (limited_step machine limits) u (replicate n (One g)) ≡ Some t → Spares (Only g) u t)
            → option_and_then (λ u. run (limited_step machine limits) u (replicate n (One g))) o ≡ Some t
            → Spares (Only g) s t
        first None is more e = cc
        first (Some u) is more e = spares_on g s u t (step_spares machine s g u (is u refl)) (more u e)

-- ---- meetings

module _ {F : Type 0} where
  -- a meeting changes nothing but the frames of two
  pub record Met (limits : Limits) (r t : ℕ) (s u : State F) : Type 0 where
    pub ended : u.ended ≡ s.ended
    pub memory : u.memory ≡ s.memory
    pub printed : u.printed ≡ s.printed
    pub count : length u.goroutines ≡ length s.goroutines
    pub spares : Spares (Either r t) s u
    pub within : is_within limits s ≡ true → is_within limits u ≡ true

  abbrev MetIf : Limits → ℕ → ℕ → State F → Option (State F) → Type 0
  MetIf limits r t s None = ⊤
  MetIf limits r t s (Some u) = Met limits r t s u

module _ {F : Type 0} (machine : Machine F) (limits : Limits) (s : State F) (r t : ℕ) where
  within_two : (f x h y : F) (rs ts : List F) → slice_get s.goroutines r ≡ Some (f ∷ rs)
      → slice_get s.goroutines t ≡ Some (h ∷ ts) → is_within limits s ≡ true
      → is_within limits (with_frames (with_frames s r (x ∷ rs)) t (y ∷ ts)) ≡ true
  within_two f x h y rs ts p q w =
      let one : is_within limits (with_frames s r (x ∷ rs)) ≡ true =
      set_within machine limits s r w (x ∷ rs) (room_at limits s r (f ∷ rs) w p) in
      set_within machine limits (with_frames s r (x ∷ rs)) t one (y ∷ ts) (room_at limits s t (h ∷ ts) w q)

  spares_two : (rs ts : List F) → Spares (Either r t) s (with_frames (with_frames s r rs) t ts)
  spares_two rs ts = record {
    longer = omega (arith, length-set (slice_set s.goroutines r rs) t ts, length-set s.goroutines r rs);
    same = λ h other lt.
        other_item (slice_set s.goroutines r rs) t h ts (λ e. other (inr e))
        ∙ other_item s.goroutines r h rs (λ e. other (inl e));
  }

  met_two : (f x h y : F) (rs ts : List F) → slice_get s.goroutines r ≡ Some (f ∷ rs)
      → slice_get s.goroutines t ≡ Some (h ∷ ts)
      → Met limits r t s (with_frames (with_frames s r (x ∷ rs)) t (y ∷ ts))
  met_two f x h y rs ts p q = record {
    ended = refl;
    memory = refl;
    printed = refl;
    count = length-set (slice_set s.goroutines r (x ∷ rs)) t (y ∷ ts) ∙ length-set s.goroutines r (x ∷ rs);
    spares = spares_two (x ∷ rs) (y ∷ ts);
    within = within_two f x h y rs ts p q;
  }

  where_true : (b : Bool) (u : State F) → Met limits r t s u → MetIf limits r t s (if b then Some u else None)
  where_true true u h = h
  where_true false u h = tt

  meets : (f h : F) (rs ts : List F) (a b : Stand F) → slice_get s.goroutines r ≡ Some (f ∷ rs)
      → slice_get s.goroutines t ≡ Some (h ∷ ts) → MetIf limits r t s (met s r t rs ts a b)
  meets f h rs ts (AtReceive c blank go_on) (AtSend d v place next) p q =
      where_true (meets_at s.memory c d) _ (met_two f (go_on v) h next rs ts p q)
  meets f h rs ts (AtReceive c blank go_on) (AtReceive d other more) p q = tt
  meets f h rs ts (AtReceive c blank go_on) (AtClose d place next) p q = tt
  meets f h rs ts (AtReceive c blank go_on) (AtCall next callee) p q = tt
  meets f h rs ts (AtReceive c blank go_on) (AtStart next child) p q = tt
  meets f h rs ts (AtReceive c blank go_on) Elsewhere p q = tt
  meets f h rs ts (AtSend c v place next) b p q = tt
  meets f h rs ts (AtClose c place next) b p q = tt
  meets f h rs ts (AtCall next callee) b p q = tt
  meets f h rs ts (AtStart next child) b p q = tt
  meets f h rs ts Elsewhere b p q = tt

  two_meet : (o p : Option (List F)) → slice_get s.goroutines r ≡ o → slice_get s.goroutines t ≡ p
      → MetIf limits r t s (option_and_then (λ f. option_and_then (met_by machine s r t f) p) o)
  two_meet None p a b = tt
  two_meet (Some rs) None a b = tt
  two_meet (Some []) (Some ts) a b = tt
  two_meet (Some (f ∷ rs)) (Some []) a b = tt
  two_meet (Some (f ∷ rs)) (Some (h ∷ ts)) a b = meets f h rs ts (machine.stand f) (machine.stand h) a b

  where_false : (b : Bool) (o : Option (State F)) → MetIf limits r t s o → MetIf limits r t s (if b then None else o)
  where_false true o h = tt
  where_false false o h = h

  met_unless : (e : Option End) (o : Option (State F)) → MetIf limits r t s o → MetIf limits r t s (unless_ended e o)
  met_unless None o h = h
  met_unless (Some e) o h = tt

  pub meeting_is : (u : State F) → step_by machine s (Meet r t) ≡ Some u → Met limits r t s u
  meeting_is u e =
      subst (MetIf limits r t s) e
      (met_unless s.ended _ (where_false (r == t) (meet machine s r t)
      (two_meet (slice_get s.goroutines r) (slice_get s.goroutines t) refl refl)))

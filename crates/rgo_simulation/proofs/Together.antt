-- If the goroutines of two states do the same next, a pick has a step in both or in neither, to states that match. `Both` is this "in both
-- or in neither" for results that may be missing, so each kind of step needs one statement and not four.
use Rattle.std.proofs.Common.{◌≡◌, ℕ, zero, suc, Bool, true, false, List, [], ◌∷◌, ◌++◌, Option, Some, None}
use Rattle.std.proofs.Common.{slice_get, slice_set, option_map, refl, ap, sym, subst}
use Rattle.std.specs.Prelude.{option_and_then, if◌then◌else◌, ◌==◌}
use Rattle.rgo_memory.specs.declared.values.Value.{Value}
use Rattle.rgo_memory.specs.Channels.{receive, send, close, meets_at}
use Rattle.rgo_memory.specs.Effects.{Effect, Does}
use Rattle.rgo_memory.specs.Effects as effect
use Rattle.rgo_machine.specs.declared.picks.End.{End}
use Rattle.rgo_machine.specs.declared.picks.End.TheVariants as the_end
use Rattle.rgo_machine.specs.declared.picks.Pick.{Pick}
use Rattle.rgo_machine.specs.declared.picks.Pick.TheVariants.{One, Meet}
use Rattle.rgo_machine.specs.Machines.{Act, Moves, Returns, Prints, Traps}
use Rattle.rgo_machine.specs.Machines.{Stand, AtReceive, AtSend, AtClose, AtCall, AtStart, Elsewhere}
use Rattle.rgo_machine.specs.Machines.{Machine, State, acted, operated, state_after_return, stepped, alone, met, met_by, meet}
use Rattle.rgo_machine.specs.Machines.{with_frames, picked, unless_ended, step_by}
use Rattle.rgo_simulation.specs.Follows.{ReturnAlike, ActAlike, StandAlike, Together}
use Rattle.rgo_simulation.specs.Simulations.{AllMatched, SameStates}

-- ---- options

pub some_injective : {X : Type 0} (x y : X) → Some x ≡ Some y → x ≡ y
some_injective x y e = cc

module _ {X Y : Type 0} (R : X → Y → Type 0) where
  -- both have something, and these are related, or neither has
  abbrev pub Both : Option X → Option Y → Type 0
  Both None None = Unit {0}
  Both (Some x) (Some y) = R x y
  Both _ _ = ⊥

  pub no_second : (o : Option X) (q : Option Y) → Both o q → o ≡ None → q ≡ None
  no_second None None b e = refl
  no_second (Some x) (Some y) b e = cc
  no_second _ _ b e = absurd b

  pub no_first : (o : Option X) (q : Option Y) → Both o q → q ≡ None → o ≡ None
  no_first None None b e = refl
  no_first (Some x) (Some y) b e = cc
  no_first _ _ b e = absurd b

  pub second : (o : Option X) (q : Option Y) (x : X) → Both o q → o ≡ Some x → (y : Y) × (q ≡ Some y) × R x y
  second (Some z) (Some y) x b e = (y, refl, subst (λ w. R w y) (some_injective z x e) b)
  second None None x b e = cc
  second _ _ x b e = absurd b

  pub first : (o : Option X) (q : Option Y) (y : Y) → Both o q → q ≡ Some y → (x : X) × (o ≡ Some x) × R x y
  first (Some x) (Some z) y b e = (x, refl, subst (R x) (some_injective z y e) b)
  first None None y b e = cc
  first _ _ y b e = absurd b

module _ {F G : Type 0} (high : Machine F) (low : Machine G) (Matched : List F → List G → Type 0) where
  abbrev pub Same : State F → State G → Type 0
  Same = SameStates high low Matched

  abbrev pub AllSame : List (List F) → List (List G) → Type 0
  AllSame = AllMatched high low Matched

  -- ---- lists of goroutines

  pub all_get : (fs : List (List F)) (gs : List (List G)) (n : ℕ) → AllSame fs gs
      → Both Matched (slice_get fs n) (slice_get gs n)
  all_get [] [] n h = tt
  all_get (f ∷ fs) (g ∷ gs) zero h = h.0
  all_get (f ∷ fs) (g ∷ gs) (suc n) h = all_get fs gs n h.1
  all_get _ _ n h = absurd h

  all_set : (fs : List (List F)) (gs : List (List G)) (n : ℕ) (f : List F) (g : List G) → AllSame fs gs → Matched f g
      → AllSame (slice_set fs n f) (slice_set gs n g)
  all_set [] [] n f g h k = tt
  all_set (x ∷ fs) (y ∷ gs) zero f g h k = (k, h.1)
  all_set (x ∷ fs) (y ∷ gs) (suc n) f g h k = (h.0, all_set fs gs n f g h.1 k)
  all_set _ _ n f g h k = absurd h

  all_append : (fs hs : List (List F)) (gs is : List (List G)) → AllSame fs gs → AllSame hs is
      → AllSame (fs ++ hs) (gs ++ is)
  all_append [] hs [] is h k = k
  all_append (f ∷ fs) hs (g ∷ gs) is h k = (h.0, all_append fs hs gs is h.1 k)
  all_append _ hs _ is h k = absurd h

  -- goroutines that do the same next, or have returned
  abbrev pub TogetherFrames : List F → List G → Type 0
  TogetherFrames [] [] = Unit {0}
  TogetherFrames (f ∷ callers) (g ∷ lows) = Together high low Matched callers lows f g
  TogetherFrames _ _ = ⊥

  module _ (s : State F) (t : State G) (same : Same s t) where
    framed : (g : ℕ) (fs : List F) (gs : List G) → Matched fs gs → Same (with_frames s g fs) (with_frames t g gs)
    framed g fs gs k = record {
      memory = same.memory;
      printed = same.printed;
      ended = same.ended;
      goroutines = all_set s.goroutines t.goroutines g fs gs same.goroutines k;
    }

    -- ---- one goroutine alone

    module _ (g : ℕ) where
      returned_same : (v : Option Value) (callers : List F) (lows : List G) → ReturnAlike high low Matched v callers lows
          → Same (state_after_return high s g callers v) (state_after_return low t g lows v)
      returned_same v [] [] k = record {
        memory = same.memory;
        printed = same.printed;
        ended = refl;
        goroutines = all_set s.goroutines t.goroutines g [] [] same.goroutines k;
      }
      returned_same v (f ∷ callers) (h ∷ lows) k = framed g (high.resume f v ∷ callers) (low.resume h v ∷ lows) k
      returned_same v _ _ k = absurd k

      module _ (callers : List F) (lows : List G) where
        acted_same : (a : Act F) (b : Act G) → ActAlike high low Matched callers lows a b
            → Same (acted high s g callers a) (acted low t g lows b)
        acted_same (Moves m f) (Moves n h) k = record {
          memory = k.0;
          printed = same.printed;
          ended = same.ended;
          goroutines = all_set s.goroutines t.goroutines g (f ∷ callers) (h ∷ lows) same.goroutines k.1;
        }
        acted_same (Returns v) (Returns w) k =
            subst (λ z. Same (state_after_return high s g callers v) (state_after_return low t g lows z)) (sym k.0)
            (returned_same v callers lows k.1)
        acted_same (Prints f bytes) (Prints h others) k = record {
          memory = same.memory;
          printed = λ i. same.printed i ++ k.0 i;
          ended = same.ended;
          goroutines = all_set s.goroutines t.goroutines g (f ∷ callers) (h ∷ lows) same.goroutines k.1;
        }
        acted_same (Traps trap place) (Traps other at) k = record {
          memory = same.memory;
          printed = same.printed;
          ended = λ i. Some (the_end.Trap (k.0 i) (k.1 i));
          goroutines = same.goroutines;
        }
        acted_same _ _ k = absurd k

        module _ (next : Value → F) (below : Value → G)
            (matched : (v : Value) → Matched (next v ∷ callers) (below v ∷ lows)) (place at : ℕ) (is : at ≡ place) where
          operated_same : (e : Effect) → Same (operated s g callers next place e) (operated t g lows below at e)
          operated_same (Does m v) = record {
            memory = refl;
            printed = same.printed;
            ended = same.ended;
            goroutines =
                all_set s.goroutines t.goroutines g (next v ∷ callers) (below v ∷ lows) same.goroutines (matched v);
          }
          operated_same (effect.Traps trap) = record {
            memory = same.memory;
            printed = same.printed;
            ended = ap (λ n. Some (the_end.Trap trap n)) is;
            goroutines = same.goroutines;
          }

          operated_alike : (e e2 : Effect) → e2 ≡ e
              → Same (operated s g callers next place e) (operated t g lows below at e2)
          operated_alike e e2 q =
              subst (λ z. Same (operated s g callers next place e) (operated t g lows below at z)) (sym q)
              (operated_same e)

          each_same : (o : Option Effect)
              → Both Same (option_map (operated s g callers next place) o) (option_map (operated t g lows below at) o)
          each_same None = tt
          each_same (Some e) = operated_same e

          each_alike : (o o2 : Option Effect) → o2 ≡ o
              → Both Same (option_map (operated s g callers next place) o) (option_map (operated t g lows below at) o2)
          each_alike o o2 q =
              subst
              (λ z. Both Same (option_map (operated s g callers next place) o) (option_map (operated t g lows below at) z))
              (sym q) (each_same o)

        stepped_both : (f : F) (h : G) (x : Stand F) (y : Stand G) → StandAlike high low Matched callers lows x y
            → (x ≡ Elsewhere → ActAlike high low Matched callers lows (high.act s.memory f) (low.act t.memory h))
            → Both Same (stepped high s g f callers x) (stepped low t g h lows y)
        stepped_both f h (AtReceive c blank k) (AtReceive d other l) a acts =
            each_alike k l a.2 0 0 refl (receive s.memory c blank) (receive t.memory d other)
            (λ i. receive (same.memory i) (a.0 i) (a.1 i))
        stepped_both f h (AtSend c v place k) (AtSend d w at l) a acts =
            each_alike (λ _. k) (λ _. l) (λ _. a.3) place at a.2 (send s.memory c v) (send t.memory d w)
            (λ i. send (same.memory i) (a.0 i) (a.1 i))
        stepped_both f h (AtClose c place k) (AtClose d at l) a acts =
            operated_alike (λ _. k) (λ _. l) (λ _. a.2) place at a.1 (close s.memory c) (close t.memory d)
            (λ i. close (same.memory i) (a.0 i))
        stepped_both f h (AtCall k callee) (AtCall l other) a acts = framed g (callee ∷ k ∷ callers) (other ∷ l ∷ lows) a
        stepped_both f h (AtStart k child) (AtStart l other) a acts = record {
          memory = same.memory;
          printed = same.printed;
          ended = same.ended;
          goroutines =
              all_append (slice_set s.goroutines g (k ∷ callers)) ((child ∷ []) ∷ [])
              (slice_set t.goroutines g (l ∷ lows)) ((other ∷ []) ∷ [])
              (all_set s.goroutines t.goroutines g (k ∷ callers) (l ∷ lows) same.goroutines a.0) (a.1, tt);
        }
        stepped_both f h Elsewhere Elsewhere a acts =
            acted_same (high.act s.memory f) (low.act t.memory h) (acts refl)
        stepped_both f h _ _ a acts = absurd a

      alone_both : (fs : List F) (gs : List G) → TogetherFrames fs gs → Both Same (alone high s g fs) (alone low t g gs)
      alone_both [] [] k = tt
      alone_both (f ∷ callers) (h ∷ lows) k =
          stepped_both callers lows f h (high.stand f) (low.stand h) k.stands
          (λ e. subst (λ m. ActAlike high low Matched callers lows (high.act m f) (low.act t.memory h)) same.memory
          (k.acts e t.memory))
      alone_both _ _ k = absurd k

      one_both : (o : Option (List F)) (q : Option (List G)) → Both TogetherFrames o q
          → Both Same (option_and_then (alone high s g) o) (option_and_then (alone low t g) q)
      one_both None None k = tt
      one_both (Some fs) (Some gs) k = alone_both fs gs k
      one_both _ _ k = absurd k

    -- ---- two that meet

    module _ (r q : ℕ) where
      if_both : (b b2 : Bool) → b2 ≡ b → (u : State F) (v : State G) → Same u v
          → Both Same (if b then Some u else None) (if b2 then Some v else None)
      if_both true true e u v k = k
      if_both false false e u v k = tt
      if_both true false e u v k = cc
      if_both false true e u v k = cc

      both_framed : (rs qs : List F) (rl ql : List G) → Matched rs rl → Matched qs ql
          → Same (with_frames (with_frames s r rs) q qs) (with_frames (with_frames t r rl) q ql)
      both_framed rs qs rl ql k l = record {
        memory = same.memory;
        printed = same.printed;
        ended = same.ended;
        goroutines =
            all_set (slice_set s.goroutines r rs) (slice_set t.goroutines r rl) q qs ql
            (all_set s.goroutines t.goroutines r rs rl same.goroutines k) l;
      }

      module _ (rs : List F) (rl : List G) (qs : List F) (ql : List G) where
        received : (c blank d other : Value) (k : Value → F) (l : Value → G) (x : Stand F) (y : Stand G) → d ≡ c
            → ((v : Value) → Matched (k v ∷ rs) (l v ∷ rl)) → StandAlike high low Matched qs ql x y
            → Both Same (met s r q rs qs (AtReceive c blank k) x) (met t r q rl ql (AtReceive d other l) y)
        received c blank d other k l (AtSend e v place next) (AtSend e2 w at below) is matched a =
            if_both (meets_at s.memory c e) (meets_at t.memory d e2) (λ i. meets_at (same.memory i) (is i) (a.0 i))
            (with_frames (with_frames s r (k v ∷ rs)) q (next ∷ qs))
            (with_frames (with_frames t r (l w ∷ rl)) q (below ∷ ql))
            (both_framed (k v ∷ rs) (next ∷ qs) (l w ∷ rl) (below ∷ ql)
            (subst (λ z. Matched (k v ∷ rs) (l z ∷ rl)) (sym a.1) (matched v)) a.3)
        received c blank d other k l (AtReceive e b2 k2) (AtReceive e2 b3 l2) is matched a = tt
        received c blank d other k l (AtClose e place k2) (AtClose e2 at l2) is matched a = tt
        received c blank d other k l (AtCall next callee) (AtCall l2 c2) is matched a = tt
        received c blank d other k l (AtStart next child) (AtStart l2 c2) is matched a = tt
        received c blank d other k l Elsewhere Elsewhere is matched a = tt
        received c blank d other k l _ _ is matched a = absurd a

        met_both : (x : Stand F) (y : Stand G) (x2 : Stand F) (y2 : Stand G) → StandAlike high low Matched rs rl x y
            → StandAlike high low Matched qs ql x2 y2 → Both Same (met s r q rs qs x x2) (met t r q rl ql y y2)
        met_both (AtReceive c blank k) (AtReceive d other l) x2 y2 a b = received c blank d other k l x2 y2 a.0 a.2 b
        met_both (AtSend c v place k) (AtSend d w at l) x2 y2 a b = tt
        met_both (AtClose c place k) (AtClose d at l) x2 y2 a b = tt
        met_both (AtCall k callee) (AtCall l other) x2 y2 a b = tt
        met_both (AtStart k child) (AtStart l other) x2 y2 a b = tt
        met_both Elsewhere Elsewhere x2 y2 a b = tt
        met_both _ _ x2 y2 a b = absurd a

      met_by_both : (rs : List F) (rl : List G) (qs : List F) (ql : List G) → TogetherFrames rs rl → TogetherFrames qs ql
          → Both Same (met_by high s r q rs qs) (met_by low t r q rl ql)
      met_by_both [] [] qs ql k l = tt
      met_by_both (f ∷ rs) (h ∷ rl) [] [] k l = tt
      met_by_both (f ∷ rs) (h ∷ rl) (f2 ∷ qs) (h2 ∷ ql) k l =
          met_both rs rl qs ql (high.stand f) (low.stand h) (high.stand f2) (low.stand h2) k.stands l.stands
      met_by_both (f ∷ rs) (h ∷ rl) _ _ k l = absurd l
      met_by_both _ _ qs ql k l = absurd k

      meet_both : (o : Option (List F)) (p : Option (List G)) (o2 : Option (List F)) (p2 : Option (List G))
          → Both TogetherFrames o p → Both TogetherFrames o2 p2
          → Both Same (option_and_then (λ f. option_and_then (met_by high s r q f) o2) o)
          (option_and_then (λ f. option_and_then (met_by low t r q f) p2) p)
      meet_both None None o2 p2 k l = tt
      meet_both (Some rs) (Some rl) None None k l = tt
      meet_both (Some rs) (Some rl) (Some qs) (Some ql) k l = met_by_both rs rl qs ql k l
      meet_both (Some rs) (Some rl) _ _ k l = absurd l
      meet_both _ _ o2 p2 k l = absurd k

    -- ---- steps

    unless_both : (b : Bool) (o : Option (State F)) (p : Option (State G)) → Both Same o p
        → Both Same (if b then None else o) (if b then None else p)
    unless_both true o p k = tt
    unless_both false o p k = k

    over_both : (e : Option End) (o : Option (State F)) (p : Option (State G)) → Both Same o p
        → Both Same (unless_ended e o) (unless_ended e p)
    over_both None o p k = k
    over_both (Some e) o p k = tt

    -- this goroutine does the same in both
    abbrev pub TogetherAt : ℕ → Type 0
    TogetherAt g = Both TogetherFrames (slice_get s.goroutines g) (slice_get t.goroutines g)

    -- those that a pick names
    abbrev pub PickTogether : Pick → Type 0
    PickTogether (One g) = TogetherAt g
    PickTogether (Meet r q) = TogetherAt r × TogetherAt q

    pub each_pick : ((g : ℕ) → TogetherAt g) → (pick : Pick) → PickTogether pick
    each_pick all (One g) = all g
    each_pick all (Meet r q) = (all r, all q)

    picked_both : (pick : Pick) → PickTogether pick → Both Same (picked high s pick) (picked low t pick)
    picked_both (One g) k = one_both g (slice_get s.goroutines g) (slice_get t.goroutines g) k
    picked_both (Meet r q) k =
        unless_both (r == q) (meet high s r q) (meet low t r q)
        (meet_both r q (slice_get s.goroutines r) (slice_get t.goroutines r) (slice_get s.goroutines q)
        (slice_get t.goroutines q) k.0 k.1)

    pub step_both : (pick : Pick) → PickTogether pick → Both Same (step_by high s pick) (step_by low t pick)
    step_both pick k =
        subst (λ e. Both Same (step_by high s pick) (unless_ended e (picked low t pick))) (sym same.ended)
        (over_both s.ended (picked high s pick) (picked low t pick) (picked_both pick k))

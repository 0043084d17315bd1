-- The local steps of a goroutine since its last access are in the run directly before its next one. The rule has this for one change
-- without an access. Here it is repeated q times, from the last one back.
use Rattle.std.specs.Option.{option_map_or}
use Rattle.std.proofs.Common.{◌≡◌, ℕ, zero, suc, List, [], ◌∷◌, ◌++◌, Option, Some, set, inl, inr, ⊎_elim, ap, refl, sym, subst, ◌∙◌, append_assoc}
use Rattle.atomic_table.proofs.Lists.{set_here}
use Rattle.rgo_core.specs.Frames.steps.Quiet.{quiet}
use Rattle.rgo_core.specs.Frames.Records.{FramesRec as FrameRec}
use Rattle.rgo_core.specs.Rule.Views.{Me, number_of}
use Rattle.rgo_core.proofs.Rule.Lists.{at_below, set_twice}
use Rattle.rgo_core.proofs.Rule.Still.{still_move, still_same, still_then}
use Rattle.rgo_core.specs.Core.{Core, Setup}
use Rattle.rgo_core.specs.Laws.{clock_after}
use Rattle.rgo_core.specs.Records.{ClockRec, Record, accesses}
use Rattle.rgo_core.specs.Steps.{IsStill, Moves, MovesEither}
use Rattle.rgo_core.proofs.steps.Local.{local_still}
use Rattle.rgo_sound.specs.RegionMachine.States.{Duty}
use Rattle.rgo_sound.proofs.Places.{length_set}
use Rattle.rgo_core_steps.specs.Seats.{NextIsLocal, Settles, SettlesBy, mine, settled, settled_by, settled_once}

-- a change of a record without an access may happen just before an access that may start a goroutine
pub still_either : (T : Setup) (g : ℕ) (c d : Record) (i : ℕ) (f : ℕ → ℕ) (tells : ℕ → Record → Type 0) (tells_child : ℕ → Record → Record → Type 0)
    → IsStill T g c d → accesses d ≡ accesses c → MovesEither T g d i f tells tells_child → MovesEither T g c i f tells tells_child
still_either T g c d i f tells tells_child still same move words recs run explains at fits =
    let r = still words recs run explains at in
    ⊎_elim
    (λ q. inl (record {
      after = q.after;
      gain = r.0 ++ q.gain;
      explains = rw (← set_twice recs g d q.after, ← append_assoc run r.0 q.gain) q.explains;
      counts = q.counts ∙ ap suc same;
      tells_so = q.tells_so;
    }))
    (λ q. inr (record {
      after = q.after;
      child = q.child;
      gain = r.0 ++ q.gain;
      explains = rw (← set_twice recs g d q.after, ← append_assoc run r.0 q.gain) q.explains;
      counts = q.counts ∙ ap suc same;
      new = q.new;
      number = q.number ∙ length_set recs g d;
      tells_so = q.tells_so;
    }))
    (move words (set recs g d) (run ++ r.0) r.1 (set_here recs g d (at_below recs g c at)) fits)

-- ---- one step

pub once_is : (T : Setup) (g : ℕ) (c : Record) (e : FrameRec) → quiet T.code g c.frame ≡ Some e
    → settled_once T g c ≡ record c { clock = clock_after c.frame.holder.duties c.clock; frame = e }
once_is T g c e is =
    ap (λ (o : Option FrameRec). option_map_or (λ (d : FrameRec). record c { clock = clock_after c.frame.holder.duties c.clock; frame = d }) o c) is

once_still : (T : Setup) (g : ℕ) (c : Record) → NextIsLocal T g c → IsStill T g c (settled_once T g c)
once_still T g c q =
    subst (λ (d : Record). IsStill T g c d) (sym (once_is T g c q.next q.is)) (local_still T g c q.next q.rests q.is q.shallow)

clock_counts : (duties : List Duty) (c : ClockRec) → (clock_after duties c).accesses ≡ c.accesses
clock_counts [] c = refl
clock_counts (d ∷ ds) c = refl

once_counts : (T : Setup) (g : ℕ) (c : Record) → NextIsLocal T g c → accesses (settled_once T g c) ≡ accesses c
once_counts T g c q = ap accesses (once_is T g c q.next q.is) ∙ clock_counts c.frame.holder.duties c.clock

-- ---- several

pub settled_still : (T : Setup) (g q : ℕ) (c : Record) → SettlesBy T g q c → IsStill T g c (settled_by T g q c)
settled_still T g zero c s = still_same accesses (Core T) g c
settled_still T g (suc q) c s =
    still_then accesses (Core T) g c (settled_once T g c) (settled_by T g q (settled_once T g c))
    (once_still T g c s.0) (settled_still T g q (settled_once T g c) s.1)

pub settled_counts : (T : Setup) (g q : ℕ) (c : Record) → SettlesBy T g q c → accesses (settled_by T g q c) ≡ accesses c
settled_counts T g zero c s = refl
settled_counts T g (suc q) c s = settled_counts T g q (settled_once T g c) s.1 ∙ once_counts T g c s.0

-- an access that the goroutine may make after its local steps it may make before them, with the steps in its gain
pub settles : (T : Setup) (q : ℕ) (m : Me Record) (i : ℕ) (f : ℕ → ℕ) (tells : ℕ → Record → Type 0) → Settles T q m
    → Moves T (number_of m) (settled T q m) i f tells → Moves T (number_of m) (mine T m) i f tells
settles T q m i f tells s =
    still_move accesses (Core T) (number_of m) (mine T m) (settled T q m) i f tells
    (settled_still T (number_of m) q (mine T m) s) (settled_counts T (number_of m) q (mine T m) s)

pub settles_either : (T : Setup) (q : ℕ) (m : Me Record) (i : ℕ) (f : ℕ → ℕ) (tells : ℕ → Record → Type 0)
    (tells_child : ℕ → Record → Record → Type 0) → Settles T q m
    → MovesEither T (number_of m) (settled T q m) i f tells tells_child → MovesEither T (number_of m) (mine T m) i f tells tells_child
settles_either T q m i f tells tells_child s =
    still_either T (number_of m) (mine T m) (settled T q m) i f tells tells_child
    (settled_still T (number_of m) q (mine T m) s) (settled_counts T (number_of m) q (mine T m) s)

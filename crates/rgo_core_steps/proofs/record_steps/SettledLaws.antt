-- Records after local steps: a local step leaves a possible record possible, so all facts go by induction over the number of steps.
use Rattle.std.specs.Option.{option_map_or}
use Rattle.std.proofs.Common.{◌≡◌, ℕ, zero, suc, ◌+◌, List, [], ◌∷◌, Option, None, Some, refl, ap, sym, subst, ◌∙◌, arith}
use Rattle.rgo_core.specs.Frames.steps.Quiet.{quiet}
use Rattle.rgo_core.specs.Frames.Records.{FramesRec as FrameRec}
use Rattle.rgo_sound.specs.RegionMachine.States.{Duty}
use Rattle.rgo_core.specs.Core.{Setup}
use Rattle.rgo_core.specs.Laws.{clock_after}
use Rattle.rgo_core.specs.Records.{ClockRec, Record}
use Rattle.rgo_core.proofs.runs.Possible.{still_possible}
use Rattle.rgo_core_steps.specs.Seats.{SettlesBy, settled_by, settled_once}
use Rattle.rgo_core_steps.specs.Settled.{IsLocal, SettledLaws, with_steps}
use Rattle.rgo_core_steps.proofs.record_steps.Settling.{once_is, settled_still}

same : (c : Record) → IsLocal c c
same c = record { memory = refl; side = refl; clock = refl }

both : (c d e : Record) → IsLocal c d → IsLocal d e → IsLocal c e
both c d e k l = record {
  memory = l.memory ∙ k.memory;
  side = l.side ∙ k.side;
  clock = l.clock ∙ ap (λ (x : ClockRec). with_steps x e.clock.share.steps) k.clock;
}

clock_local : (duties : List Duty) (c : ClockRec) → clock_after duties c ≡ with_steps c (clock_after duties c).share.steps
clock_local [] c = refl
clock_local (d ∷ ds) c = refl

once : (T : Setup) (g : ℕ) (c : Record) → IsLocal c (settled_once T g c)
once T g c = by (quiet T.code g c.frame)
  where
    by : (o : Option FrameRec)
        → IsLocal c (option_map_or (λ (e : FrameRec). record c { clock = clock_after c.frame.holder.duties c.clock; frame = e }) o c)
    by None = same c
    by (Some e) = record { memory = refl; side = refl; clock = clock_local c.frame.holder.duties c.clock }

pub settled_kept : (T : Setup) (g q : ℕ) (c : Record) → IsLocal c (settled_by T g q c)
settled_kept T g zero c = same c
settled_kept T g (suc q) c =
    both c (settled_once T g c) (settled_by T g q (settled_once T g c)) (once T g c) (settled_kept T g q (settled_once T g c))

later : (p q : ℕ) → suc p + q ≡ suc (p + q)
later p q = omega arith

pub settled_more : (T : Setup) (g p q : ℕ) (c : Record) → settled_by T g (p + q) c ≡ settled_by T g q (settled_by T g p c)
settled_more T g zero q c = let e : 0 + q ≡ q = omega arith in ap (λ n. settled_by T g n c) e
settled_more T g (suc p) q c = ap (λ n. settled_by T g n c) (later p q) ∙ settled_more T g p q (settled_once T g c)

pub settles_more : (T : Setup) (g p q : ℕ) (c : Record) → SettlesBy T g p c → SettlesBy T g q (settled_by T g p c) → SettlesBy T g (p + q) c
settles_more T g zero q c s t = let e : q ≡ 0 + q = omega arith in subst (λ n. SettlesBy T g n c) e t
settles_more T g (suc p) q c s t =
    subst (λ n. SettlesBy T g n c) (sym (later p q)) (s.0, settles_more T g p q (settled_once T g c) s.1 t)

pub settled_laws : SettledLaws
settled_laws = record {
  possible = λ T g q c possible s. still_possible T g c (settled_by T g q c) possible (settled_still T g q c s);
  kept = settled_kept;
  more = settled_more;
  settles = settles_more;
  instruction = λ T g c e rests is shallow none. (
    record { rests = rests; next = e; is = is; shallow = shallow },
    once_is T g c e is ∙ ap (λ (l : List Duty). record c { clock = clock_after l c.clock; frame = e }) none,
  );
  duty = λ T g c e d ds rests is shallow some. (
    record { rests = rests; next = e; is = is; shallow = shallow },
    once_is T g c e is ∙ ap (λ (l : List Duty). record c { clock = clock_after l c.clock; frame = e }) some,
  );
}

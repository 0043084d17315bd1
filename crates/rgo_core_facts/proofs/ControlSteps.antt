-- What the first duty of a goroutine does: by computation, with the name and the tests as premises.
use Rattle.std.proofs.Common.{◌≡◌, ◌∙◌, ℕ, zero, suc, Bool, false, List, [], ◌∷◌, map, Option, Some, None, option_map, option_and_then, if◌then◌else◌, refl, sym, ap}
use Rattle.std.specs.Option.{option_map_or}
use Rattle.rgo_core.specs.Channels.Records.{at_rest}
use Rattle.rgo_core.specs.Frames.steps.Local.{local_by, local_duty, not_removed, not_shared}
use Rattle.rgo_core.specs.Frames.steps.Quiet.{is_exit, quiet, unless_exit}
use Rattle.rgo_core.specs.Frames.Records.{FramesRec as FrameRec}
use Rattle.rgo_core.specs.Frames.regions.Stakes.{ended, shared_in}
use Rattle.rgo_core.specs.Frames.shown.WordFrames.{WordFrame}
use Rattle.rgo_sound.specs.RegionMachine.Duties.{guards, unprotected, with_protection}
use Rattle.rgo_sound.specs.RegionMachine.Regions.{Bindings, without}
use Rattle.rgo_sound.specs.RegionMachine.States.{Create, Duty, EndBase, RegionEnvironment, Holder, Protect, Remove, Share, Unprotect, with_top}
use Rattle.rgo_sound.specs.RegionMachine.declared.regions.Region.{Region}
use Rattle.rgo_sound.specs.RegionMachine.declared.regions.Region.TheVariants.{Numbered}
use Rattle.rgo_core.specs.Core.{Situation, Setup}
use Rattle.rgo_core.specs.Laws.{clock_after}
use Rattle.rgo_core.specs.Records.{Record}
use Rattle.rgo_core.proofs.image.Parts.{shallow}
use Rattle.rgo_core_facts.specs.ControlDuties.{CanAttend}
use Rattle.rgo_core_facts.specs.ControlSteps.{DutyLaws, LocalDuty, NoneAfterExit, LocalStepTo, unbased, unnamed}
use Rattle.rgo_core_facts.proofs.ControlBase.{main_has_no_base}
use Rattle.rgo_core_facts.proofs.ControlDuties.{duties_at_end, duties_known}
use Rattle.rgo_core_facts.proofs.ControlView.{seen}

-- ---- no duty after the return of `main`

with_frame : (g : ℕ) (w : WordFrame) (ws frames : List WordFrame) → frames ≡ w ∷ ws → is_exit g frames ≡ false
with_frame zero w ws frames e = ap (is_exit 0) e
with_frame (suc g) w ws frames e = refl

no_duty : (d : Duty) (ds : List Duty) → d ∷ ds ≡ [] → ⊥
no_duty d ds e = cc

no_slot : (f : _) (rs : List Region) → rs ≡ [] → map {B = Region} f rs ≡ []
no_slot f rs e = ap (map f) e

at_end : (T : Setup) (g : ℕ) (c : Record) (d : Duty) (ds : List Duty) → Situation T g c → c.frame.holder.duties ≡ d ∷ ds → c.frame.frames ≡ []
    → is_exit g c.frame.frames ≡ false
at_end T (suc g) c d ds x owed gone = refl
at_end T zero c d ds x owed gone =
    let v = seen x in
    let none : v.h.base ≡ [] = main_has_no_base T.code T.sizes.page_words T.limits x.events x.s x.core.story.leads 0 v.h v.there refl in
    let base : c.frame.holder.base ≡ [] = v.base ∙ no_slot _ v.h.base none in
    absurd (no_duty d ds (sym owed ∙ (duties_at_end T 0 c x gone ∙ ap (map EndBase) base)))

pub none_after_exit : NoneAfterExit
none_after_exit T g c d ds x owed = by d (duties_known T g c x d ds owed)
  where
    by : (e : Duty) → CanAttend T c e → is_exit g c.frame.frames ≡ false
    by (Create k) a = with_frame g a.newest.w a.newest.ws c.frame.frames a.newest.frames
    by (Share k) a = with_frame g a.newest.w a.newest.ws c.frame.frames a.newest.frames
    by (Protect k) a = with_frame g a.newest.w a.newest.ws c.frame.frames a.newest.frames
    by (Unprotect k) a = with_frame g a.named.newest.w a.named.newest.ws c.frame.frames a.named.newest.frames
    by (Remove k) a = with_frame g a.named.newest.w a.named.newest.ws c.frame.frames a.named.newest.frames
    by (EndBase r) a = at_end T g c d ds x owed a.frames

-- ---- a local duty

module _ (T : Setup) (g : ℕ) (c : Record) (d : Duty) (ds : List Duty) (k : Holder) (x : Situation T g c) (rests : c.side ≡ at_rest)
    (owed : c.frame.holder.duties ≡ d ∷ ds) (does : local_duty (record c.frame.holder { duties = ds }) d ≡ Some k) where
  abbrev after : FrameRec
  after = record c.frame { holder = k }

  is_quiet : quiet T.code g c.frame ≡ Some after
  is_quiet =
      ap (λ l. option_and_then (unless_exit g) (local_by T.code c.frame l)) owed
      ∙ ap (λ (o : Option Holder). option_and_then (unless_exit g) (option_map (λ h. record c.frame { holder = h }) o)) does
      ∙ ap (λ (b : Bool). if b then None else Some after) (none_after_exit T g c d ds x owed)

  pub steps_to : LocalStepTo T g c k
  steps_to = record {
    settles = (record { rests = rests; next = after; is = is_quiet; shallow = shallow x }, tt);
    becomes =
        ap (λ (o : Option FrameRec). option_map_or (λ (e : FrameRec). record c { clock = clock_after c.frame.holder.duties c.clock; frame = e }) o c) is_quiet
        ∙ ap (λ l. record c { clock = clock_after l c.clock; frame = after }) owed;
  }

pub local_duty_steps : LocalDuty
local_duty_steps T g c d ds k x rests owed does = steps_to T g c d ds k x rests owed does

-- ---- holders

guards_same : (base : List Region) (es : List RegionEnvironment) (names : Bindings) (r : Region) → guards base (with_top es names) r ≡ guards base es r
guards_same base [] names r = refl
guards_same base (e ∷ es) names r = refl

pub duty_laws : DutyLaws
duty_laws = record {
  protect = λ h k r b. ap (option_map (λ q. record h { environments = with_protection h.environments q })) b;
  unprotect = λ h k r b. ap (option_map (unprotected h)) b;
  share_global = λ h k b. ap (option_and_then (not_shared h)) b;
  share_again = λ h k p b l. ap (option_and_then (not_shared h)) b ∙ ap (λ (t : Bool). if t then Some h else None) l;
  share_first = λ h k p b l. ap (option_and_then (shared_in h)) b
      ∙ ap (λ (t : Bool). if t then None else Some (p, record h { pending = p ∷ h.pending })) l;
  remove_global = λ h k b. ap (option_and_then (not_removed (unnamed h k))) b;
  remove_guarded = λ h k p b l. ap (option_and_then (not_removed (unnamed h k))) b
      ∙ ap (λ (t : Bool). if t then Some (unnamed h k) else None) (guards_same h.base h.environments _ (Numbered p) ∙ l);
  remove_last = λ h k p b l. ap (option_and_then (ended (unnamed h k))) b
      ∙ ap (λ (t : Bool). if t then None else Some (p, record (unnamed h k) { stakes = without p h.stakes }))
      (guards_same h.base h.environments _ (Numbered p) ∙ l);
  end_global = λ h. refl;
  end_guarded = λ h p l. ap (λ (t : Bool). if t then Some (unbased h (Numbered p)) else None) l;
  end_last = λ h p l. ap (λ (t : Bool). if t then None else Some (p, record (unbased h (Numbered p)) { stakes = without p h.stakes })) l;
}

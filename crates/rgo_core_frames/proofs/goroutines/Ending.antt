-- Ends of a run, and what local steps keep of stakes. After a trap the goroutine has not moved, so its record fits as before.
use Rattle.std.proofs.Common.{◌≡◌, ℕ, Bool, true, false, List, [], ◌∷◌, ◌++◌, Option, Some, None, refl, sym, ap, ◌∙◌, subst, inl}
use Rattle.std.proofs.Common.{slice_get, slice_set, append-nil, nat_eq, if◌then◌else◌}
use Rattle.std.proofs.lemmas.Option.{same_Some}
use Rattle.std.specs.List.{list_any}
use Rattle.rgo_sound.specs.Machine.declared.picks.End.TheVariants.{Trap as TrapEnd}
use Rattle.rgo_sound.specs.Machine.declared.picks.Pick.TheVariants.{One}
use Rattle.rgo_sound.specs.Typed.declared.actions.Action.{Action}
use Rattle.rgo_sound.specs.Memory.declared.traps.Trap.{Trap}
use Rattle.rgo_sound.specs.Memory.Effects.{Traps}
use Rattle.rgo_sound.specs.Tac.Frames.{operand_values}
use Rattle.rgo_sound.specs.Tac.Steps.{destination_type}
use Rattle.rgo_sound.specs.Code.Checked.{IsChecked}
use Rattle.rgo_sound.specs.Good.{AllGood}
use Rattle.rgo_sound.specs.Code.Code.{Branch, Call, Code, CodeInstr, CodeOp, Do, Go, Jump, Print, Return}
use Rattle.rgo_sound.specs.Code.Erasure.{erased, erased_op}
use Rattle.rgo_sound.specs.RegionMachine.declared.regions.Region.{Region}
use Rattle.rgo_sound.specs.RegionMachine.declared.regions.Region.TheVariants.{Global as GlobalRegion, Numbered}
use Rattle.rgo_sound.specs.RegionMachine.Duties.{guards, unprotected, with_protection}
use Rattle.rgo_sound.specs.RegionMachine.Instructions.{child_holder, holder_after, instructed_with, last_frames, mark_with_end, printed_if}
use Rattle.rgo_sound.specs.RegionMachine.Machine.{Instruct, finished, Finish, region_step}
use Rattle.rgo_sound.specs.RegionMachine.Objects.{making_region}
use Rattle.rgo_sound.specs.RegionMachine.Owed.{current, function_at}
use Rattle.rgo_sound.specs.RegionMachine.Regions.{bound, removed_once, unbind}
use Rattle.rgo_sound.specs.RegionMachine.States.{Create, Duty, EndBase, Holder, Protect, RegionState, Remove, Share, Unprotect, top_names, with_top}
use Rattle.rgo_sound.proofs.steps.Acting.{Acted, act, after, effected, performed, trap_place}
use Rattle.rgo_core_frames.specs.steps.Before.{IsBefore}
use Rattle.rgo_core_frames.specs.steps.Ends.{FinishLaw, TrapLaw}
use Rattle.rgo_core_frames.specs.Fits.{RecordsFit, RecordFits, IsShown}
use Rattle.rgo_core_frames.specs.steps.Local.{local_by, local_duty, local_frames, local_instr, local_op, not_removed, not_shared}
use Rattle.rgo_core_frames.specs.steps.LocalLaws.{KeepsStakes, StakesStay}
use Rattle.rgo_core_frames.specs.Records.{FramesRec, after_op}
use Rattle.rgo_core_frames.specs.shown.Variables.{FramesShow}
use Rattle.rgo_core_frames.specs.shown.WordFrames.{WordFrame, bare, bare_all}
use Rattle.rgo_core_frames.proofs.steps.ActionSteps.{ready_now}
use Rattle.rgo_core_frames.proofs.steps.Instructing.{IsReady, instructs, none_allotted}
use Rattle.rgo_core_frames.proofs.Keeping.{all_fit_kept}
use Rattle.rgo_sound.proofs.steps.Acting.{set_same}
use Rattle.rgo_core_frames.proofs.steps.LocalActs.{chained, mapped}
use Rattle.rgo_core_frames.proofs.Leaving.{has_step, print_stays}
use Rattle.rgo_sound.specs.Running.{IsRunning}
use Rattle.rgo_core_frames.specs.steps.Bookkept.{HasStep}

-- ---- a trap

module _ (code : Code) (page_words : ℕ) (checked : IsChecked code) (slot_of : ℕ → ℕ) (addresses : List ℕ) (s : RegionState)
    (good : AllGood code s) (running : IsRunning s) (records : List FramesRec) (all : RecordsFit code slot_of addresses s records) (g : ℕ)
    (c : FramesRec) (is_c : slice_get records g ≡ Some c) (w : WordFrame) (ws : List WordFrame) (instr : CodeInstr)
    (b : IsBefore code slot_of addresses s g c w ws instr) where
  ready : IsReady code s g b.h b.frame b.callers instr
  ready = ready_now code page_words checked slot_of addresses [] s good running records all g c is_c w ws instr b

  module _ (to : Option ℕ) (action : Action) (from removes : List ℕ) (trap : Trap)
      (is : instr.op ≡ Do to action from removes)
      (traps : performed code.structs action (destination_type (erased code) b.frame to) (operand_values b.frame from) s.plain.memory
      ≡ Some (Traps trap)) where
    abbrev did : Acted
    did = record {
      memory = s.plain.memory;
      frames = b.frame ∷ b.callers;
      started = [];
      printed = [];
      trap = Some (TrapEnd trap (trap_place action instr.place));
    }

    abbrev trapped : RegionState
    trapped = instructed_with code s g b.frame b.callers instr (after s.plain g did) (b.h, [])

    no_child : child_holder code b.h instr.op (last_frames (after s.plain g did).goroutines) ≡ []
    no_child = subst (λ (o : CodeOp). child_holder code b.h o (last_frames (after s.plain g did).goroutines) ≡ []) (sym is) refl

    stands : IsShown code slot_of addresses (b.frame ∷ b.callers) b.h c
    stands = record {
      calm = b.free;
      shown = subst (FramesShow code addresses (b.frame ∷ b.callers)) (sym b.frames_are) (b.newest, b.waiting);
      holder = b.holder;
    }

    step_is : region_step code page_words s (Instruct (One g)) ≡ Some trapped
    step_is = instructs ready page_words did (b.h, [])
        (ap (λ (o : CodeOp). act (erased code) s.plain.memory (erased_op o) instr.place b.frame b.callers) is
        ∙ ap (effected s.plain.memory b.frame b.callers to (trap_place action instr.place)) traps)
        (none_allotted page_words b.h (making_region (function_at code b.frame) (top_names b.h.environments) instr.op)
        s.plain g did refl)

    pub traps_so : HasStep code page_words slot_of addresses s (Instruct (One g)) s.regions
        (mark_with_end s.mark (Some (TrapEnd trap (trap_place action instr.place)))) records
    traps_so =
        has_step code page_words slot_of addresses s (Instruct (One g)) s.regions
        (mark_with_end s.mark (Some (TrapEnd trap (trap_place action instr.place)))) records trapped step_is
        (subst (RecordsFit code slot_of addresses trapped) (set_same records g c is_c)
        (all_fit_kept code slot_of addresses s trapped g (b.frame ∷ b.callers) b.h (b.frame ∷ b.callers) b.h b.at b.there
        (record { goroutines = refl; holders = ap (λ ks. slice_set s.holders g b.h ++ ks) no_child })
        refl refl (append-nil s.owners) records c c all is_c (inl stands)))
        (record {
          memory = refl;
          printed = ap (printed_if s.mark s.plain.printed) (append-nil s.plain.printed)
              ∙ print_stays s.mark s.plain.printed;
          owners = append-nil s.owners;
          global_pages = refl;
        })
        refl refl refl

pub trap_law : TrapLaw
trap_law x to action from removes trap is traps =
    let y = x.here in
    traps_so y.code y.page_words y.sound.checked y.slot_of y.addresses y.s y.sound.good y.sound.running y.records y.all y.g
    y.c y.is_c x.w x.ws x.instr x.before to action from removes trap is traps

-- ---- another end

pub finish_law : FinishLaw
finish_law x limit =
    has_step x.code x.page_words x.slot_of x.addresses x.s (Finish limit) x.s.regions (finished x.s limit).mark x.records
    (finished x.s limit) refl (record {
      as_many = x.all.as_many;
      each = λ g c e. again g c (x.all.each g c e);
      laid = x.all.laid;
      slots_differ = x.all.slots_differ;
      addresses_differ = x.all.addresses_differ;
    })
    (record { memory = refl; printed = refl; owners = refl; global_pages = refl }) refl refl refl
  where
    again : (g : ℕ) (c : FramesRec) → RecordFits x.code x.slot_of x.addresses x.s g c
        → RecordFits x.code x.slot_of x.addresses (finished x.s limit) g c
    again g c f = record { frames = f.frames; at = f.at; h = f.h; there = f.there; fits = f.fits }

-- ---- stakes

record Keeps (h k : Holder) : Type 0 where
  stakes : k.stakes ≡ h.stakes
  pending : k.pending ≡ h.pending
  offer : k.offer ≡ h.offer

kept : (h k : Holder) → h ≡ k → Keeps h k
kept h k e = record {
  stakes = sym (ap (λ (x : Holder). x.stakes) e);
  pending = sym (ap (λ (x : Holder). x.pending) e);
  offer = sym (ap (λ (x : Holder). x.offer) e);
}

op_keeps : (code : Code) (h : Holder) (f : WordFrame) (callers : List WordFrame) (op : CodeOp) (next : List WordFrame)
    → local_op code f callers op ≡ Some next
    → Keeps h (holder_after code h (bare f) (bare_all callers) op (bare_all next))
op_keeps code h f callers (Do to action from removes) next e = record { stakes = refl; pending = refl; offer = refl }
op_keeps code h f callers (Call to n from passes protects removes) next e = record { stakes = refl; pending = refl; offer = refl }
op_keeps code h f callers (Go n from passes removes) next e = absurd (nothing next e)
  where
    nothing : (next : List WordFrame) → None ≡ Some next → ⊥
    nothing next e = cc
op_keeps code h f callers (Print pieces from removes) next e = record { stakes = refl; pending = refl; offer = refl }
op_keeps code h f callers (Jump target removes) next e = record { stakes = refl; pending = refl; offer = refl }
op_keeps code h f callers (Branch test target removes other otherwise) next e = record { stakes = refl; pending = refl; offer = refl }
op_keeps code h f callers (Return value) next e = record { stakes = refl; pending = refl; offer = refl }

if_then : (t : Bool) (h k : Holder) → (if t then Some h else None) ≡ Some k → h ≡ k
if_then true h k e = same_Some h k e
if_then false h k e = cc

removed_is : (h : Holder) (r : Region) (k : Holder) → not_removed h r ≡ Some k → h ≡ k
removed_is h GlobalRegion k e = same_Some h k e
removed_is h (Numbered r) k e = if_then (guards h.base h.environments (Numbered r)) h k e

shared_is : (h : Holder) (r : Region) (k : Holder) → not_shared h r ≡ Some k → h ≡ k
shared_is h GlobalRegion k e = same_Some h k e
shared_is h (Numbered r) k e = if_then (list_any (nat_eq r) h.pending) h k e

duty_keeps : (h : Holder) (d : Duty) (k : Holder) → local_duty h d ≡ Some k → Keeps h k
duty_keeps h (Create n) k e = absurd (nothing k e)
  where
    nothing : (k : Holder) → None ≡ Some k → ⊥
    nothing k e = cc
duty_keeps h (Share n) k e =
    let x = chained (not_shared h) (bound (top_names h.environments) n) k e in kept h k (shared_is h x.0 k x.2)
duty_keeps h (Protect n) k e =
    let x = mapped (λ r. record h { environments = with_protection h.environments r }) (bound (top_names h.environments) n) k e in
    let y = kept (record h { environments = with_protection h.environments x.0 }) k x.2 in
    record { stakes = y.stakes; pending = y.pending; offer = y.offer }
duty_keeps h (Unprotect n) k e =
    let x = mapped (unprotected h) (bound (top_names h.environments) n) k e in
    let y = kept (unprotected h x.0) k x.2 in
    record { stakes = y.stakes; pending = y.pending; offer = y.offer }
duty_keeps h (Remove n) k e =
    let x = chained (not_removed (record h { environments = with_top h.environments (unbind (top_names h.environments) n) }))
    (bound (top_names h.environments) n) k e in
    let y = kept (record h { environments = with_top h.environments (unbind (top_names h.environments) n) }) k
    (removed_is (record h { environments = with_top h.environments (unbind (top_names h.environments) n) }) x.0 k x.2) in
    record { stakes = y.stakes; pending = y.pending; offer = y.offer }
duty_keeps h (EndBase r) k e =
    let y = kept (record h { base = removed_once r h.base }) k (removed_is (record h { base = removed_once r h.base }) r k e) in
    record { stakes = y.stakes; pending = y.pending; offer = y.offer }

pub stakes_stay : StakesStay
stakes_stay code c d e = by c.holder.duties e
  where
    of_instr : (fs : List WordFrame) → local_frames code c.holder fs ≡ Some d → KeepsStakes c d
    of_instr [] e = cc
    of_instr (f ∷ callers) e =
        let x = chained (local_instr code c.holder f callers) (current code (bare f)) d e in
        let y = mapped (after_op code c.holder f callers x.0.op) (local_op code f callers x.0.op) d x.2 in
        let k = op_keeps code c.holder f callers x.0.op y.0 y.1 in
        subst (KeepsStakes c) y.2 (record { stakes = k.stakes; pending = k.pending; offer = k.offer })

    by : (ds : List Duty) → local_by code c ds ≡ Some d → KeepsStakes c d
    by [] e = of_instr c.frames e
    by (x ∷ ds) e =
        let y = mapped (λ (h : Holder). record c { holder = h }) (local_duty (record c.holder { duties = ds }) x) d e in
        let k = duty_keeps (record c.holder { duties = ds }) x y.0 y.1 in
        subst (KeepsStakes c) y.2 (record { stakes = k.stakes; pending = k.pending; offer = k.offer })

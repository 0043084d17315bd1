-- A local step of a record is a step of the region machine, after which the records fit again. An instruction goes by `LocalActs`, a duty
-- by `LocalDuties`. A sender whose offer was taken has no local step: its record is at a send.
use Rattle.std.proofs.Common.{◌≡◌, ◌⊎◌, ℕ, zero, suc, List, [], ◌∷◌, ◌++◌, Option, Some, None, refl, sym, ap, ◌∙◌, subst, inl, inr}
use Rattle.std.proofs.Common.{slice_get, slice_set, append-nil, Contains}
use Rattle.std.proofs.lemmas.Option.{same_Some}
use Rattle.rgo_sound.specs.Typed.declared.actions.Action.TheVariants as action
use Rattle.rgo_sound.specs.Memory.declared.values.Value.TheVariants as value
use Rattle.rgo_sound.specs.Machine.declared.picks.Pick.TheVariants.{One}
use Rattle.rgo_sound.specs.Tac.Flow.{reads}
use Rattle.rgo_sound.specs.Tac.Frames.{TacFrame, value_at}
use Rattle.rgo_sound.specs.Code.Checked.{IsChecked}
use Rattle.rgo_sound.specs.Code.Code.{Branch, Call, Code, CodeInstr, CodeOp, Do, Go, Jump, Print, Return}
use Rattle.rgo_sound.specs.Code.Erasure.{erased_op}
use Rattle.rgo_sound.specs.RegionMachine.Duties.{attended, may_go}
use Rattle.rgo_sound.specs.RegionMachine.Instructions.{child_holder, last_frames, mark_with_end, printed_if}
use Rattle.rgo_sound.specs.RegionMachine.Machine.{Attend, Event, Instruct, region_step}
use Rattle.rgo_sound.specs.RegionMachine.Objects.{making_region}
use Rattle.rgo_sound.specs.RegionMachine.Owed.{current, function_at, removes_behind}
use Rattle.rgo_sound.specs.RegionMachine.States.{Duty, Holder, RegionState, top_names}
use Rattle.rgo_sound.proofs.steps.Acting.{Acted, after, end_by}
use Rattle.rgo_sound.specs.Good.{AllGood}
use Rattle.rgo_core_frames.specs.Fits.{RecordsFit, RecordFits, IsOfLive, IsPast, IsShown}
use Rattle.rgo_core_frames.specs.steps.Local.{local, local_by, local_duty, local_frames, local_instr, local_op}
use Rattle.rgo_core_frames.specs.shown.Constants.{ConstantsFit}
use Rattle.rgo_core_frames.specs.steps.LocalLaws.{LocalLaw, event_by, event_of, end_by_frames, end_of}
use Rattle.rgo_core_frames.specs.Records.{FramesRec, after_op}
use Rattle.rgo_core_frames.specs.shown.Variables.{CallersShow, FramesShow, NewestShows}
use Rattle.rgo_core_frames.specs.regions.Slots.{slot_duties, slot_duty, slotted}
use Rattle.rgo_core_frames.specs.steps.Bookkept.{StaysElse, HasStep, RegionStepsTo, steps_after}
use Rattle.rgo_core_frames.specs.shown.WordFrames.{WordFrame, bare}
use Rattle.rgo_core_frames.proofs.regions.Bookkeeping.{current_alike, same_removes}
use Rattle.rgo_core_frames.proofs.steps.Instructing.{IsReady, changes, done_state, instructs, next_holder, none_allotted, shown_after}
use Rattle.rgo_core_frames.proofs.Keeping.{Changes, all_fit_kept}
use Rattle.rgo_sound.proofs.steps.Acting.{set_same}
use Rattle.rgo_core_frames.proofs.steps.LocalActs.{ActsAlike, acts_alike, chained, mapped, test_shows}
use Rattle.rgo_core_frames.proofs.steps.LocalDuties.{attends_alike}
use Rattle.rgo_sound.specs.Running.{IsRunning}
use Rattle.rgo_core_frames.proofs.Standing.{reads_stand, touched_live}
use Rattle.rgo_sound.specs.Machine.declared.picks.End.{End}
use Rattle.rgo_core_frames.proofs.Leaving.{has_step, mark_stays, print_stays}

-- ---- what local instructions are not

module _ (code : Code) (w : WordFrame) (ws : List WordFrame) (after : List WordFrame) where
  starts_none : (h : Holder) (op : CodeOp) → local_op code w ws op ≡ Some after → (child : List TacFrame)
      → child_holder code h op child ≡ []
  starts_none h (Do to a from removes) e child = refl
  starts_none h (Call to n from passes protects removes) e child = refl
  starts_none h (Go n from passes removes) e child = cc
  starts_none h (Print pieces from removes) e child = refl
  starts_none h (Jump target removes) e child = refl
  starts_none h (Branch test target removes other otherwise) e child = refl
  starts_none h (Return value) e child = refl

-- ---- a step

-- the run ends exactly if the record shows it
ends_alike : (code : Code) (addresses : List ℕ) (g : ℕ) (frames : List TacFrame) (ws : List WordFrame)
    → FramesShow code addresses frames ws → end_by g frames None ≡ end_by_frames g [] ws
ends_alike code addresses zero [] [] f = refl
ends_alike code addresses zero [] (w ∷ ws) f = absurd f
ends_alike code addresses zero (frame ∷ callers) [] f = absurd f
ends_alike code addresses zero (frame ∷ callers) (w ∷ ws) f = refl
ends_alike code addresses (suc g) frames ws f = refl

no_end_owed : (g : ℕ) (x : Duty) (ds : List Duty) (ws : List WordFrame) → end_by_frames g (x ∷ ds) ws ≡ None
no_end_owed zero x ds ws = refl
no_end_owed (suc g) x ds ws = refl

module _ (code : Code) (page_words : ℕ) (checked : IsChecked code) (constants : ConstantsFit code) (slot_of : ℕ → ℕ)
    (addresses : List ℕ) (s : RegionState) (good : AllGood code s) (running : IsRunning s) (records : List FramesRec)
    (all : RecordsFit code slot_of addresses s records) (g : ℕ) (c d : FramesRec) (is_c : slice_get records g ≡ Some c)
    (frames : List TacFrame) (h : Holder) (at : slice_get s.plain.goroutines g ≡ Some frames)
    (there : slice_get s.holders g ≡ Some h) (shown : IsShown code slot_of addresses frames h c) where
  abbrev hs : Holder
  hs = slotted slot_of h

  abbrev Steps : Event → Option End → Type 0
  Steps event end =
      HasStep code page_words slot_of addresses s event s.regions (mark_with_end s.mark end) (slice_set records g d)

  -- from the machine's step and what it leaves
  steps_to : (event : Event) (end : Option End) (t : RegionState) → region_step code page_words s event ≡ Some t
      → (frames' : List TacFrame) (h' : Holder) → Changes s t g frames' h' [] [] → (same : StaysElse s t)
      → t.regions ≡ s.regions → t.mark ≡ mark_with_end s.mark end → t.steps ≡ steps_after s.steps event
      → IsShown code slot_of addresses frames' h' d → Steps event end
  steps_to event end t e frames' h' changes same regions mark counted shows =
      has_step code page_words slot_of addresses s event s.regions (mark_with_end s.mark end) (slice_set records g d) t e
      (all_fit_kept code slot_of addresses s t g frames h frames' h' at there changes same.memory regions same.owners
      records c d all is_c (inl shows)) same regions mark counted

  -- ---- an instruction

  module _ (none : h.duties ≡ []) (frame : TacFrame) (callers : List TacFrame) (is : frames ≡ frame ∷ callers)
      (w : WordFrame) (ws : List WordFrame) (t : NewestShows code addresses frame w) (waiting : CallersShow code addresses callers ws)
      (instr : CodeInstr) (cur_w : current code (bare w) ≡ Some instr) (next : List WordFrame)
      (local_is : local_op code w ws instr.op ≡ Some next) (d_is : after_op code c.holder w ws instr.op next ≡ d) where
    cur : current code frame ≡ Some instr
    cur = sym (current_alike code frame w t.alike) ∙ cur_w

    at_frames : slice_get s.plain.goroutines g ≡ Some (frame ∷ callers)
    at_frames = at ∙ ap Some is

    standing : (v o : ℕ) → Contains (reads (erased_op instr.op)) v → value_at frame v ≡ value.Object o
        → IsOfLive s.regions s.owners o
    standing = reads_stand code s g h frame callers instr checked good.good there at_frames cur

    a : ActsAlike code addresses s.plain.memory frame callers instr next
    a = acts_alike code checked constants addresses s all.addresses_differ good.good.typed.kinds s.plain.memory frame callers w ws
        (good.good.typed.frames g (frame ∷ callers) at_frames) instr cur t waiting standing instr.op refl next local_is

    ready : IsReady code s g h frame callers instr
    ready = record {
      there = there;
      at = at_frames;
      cur = cur;
      none = none;
      free = shown.calm;
      live = touched_live code s g h frame callers instr checked good.good there at_frames cur;
      running = running;
    }

    same_tests : removes_behind (bare w) instr.op ≡ removes_behind frame instr.op
    same_tests = same_removes frame w instr.op (λ test target other removes otherwise q.
        test_shows code checked constants addresses s all.addresses_differ good.good.typed.kinds s.plain.memory frame callers w ws
        (good.good.typed.frames g (frame ∷ callers) at_frames) instr cur t waiting standing test target other removes otherwise q)

    abbrev moved : Acted
    moved = record { memory = s.plain.memory; frames = a.next; started = []; printed = []; trap = None }

    abbrev after_state : RegionState
    after_state = done_state ready moved refl (h, [])

    abbrev after_holder : Holder
    after_holder = next_holder ready moved refl (h, [])

    only_one : Changes s after_state g a.next after_holder [] []
    only_one =
        let x = changes ready moved refl (h, []) in
        record {
          goroutines = x.goroutines;
          holders = x.holders ∙ ap (λ ks. slice_set s.holders g after_holder ++ ks)
              (starts_none code w ws next h instr.op local_is (last_frames (after s.plain g moved).goroutines));
        }

    stays : StaysElse s after_state
    stays = record {
      memory = refl;
      printed = ap (printed_if s.mark s.plain.printed) (append-nil s.plain.printed)
          ∙ print_stays s.mark s.plain.printed;
      owners = append-nil s.owners;
      global_pages = refl;
    }

    shows : IsShown code slot_of addresses a.next after_holder (after_op code c.holder w ws instr.op next)
    shows = shown_after ready moved refl (h, []) slot_of addresses (record { fills = h.fills; reserved = h.reserved; same = refl })
        c shown.holder w ws waiting same_tests addresses next a.shown

    instructs_alike : Steps (Instruct (One g)) (end_by_frames g [] d.frames)
    instructs_alike =
        steps_to (Instruct (One g)) (end_by_frames g [] d.frames) after_state
        (instructs ready page_words moved (h, []) a.acts
        (none_allotted page_words h (making_region (function_at code frame) (top_names h.environments) instr.op) s.plain g
        moved refl))
        a.next after_holder only_one stays refl
        (ap (mark_with_end s.mark) (ends_alike code addresses g a.next next a.shown
        ∙ ap (λ (r : FramesRec). end_by_frames g [] r.frames) d_is))
        refl
        (subst (IsShown code slot_of addresses a.next after_holder) d_is shows)

  instruction : h.duties ≡ [] → (fs : List TacFrame) (us : List WordFrame) → frames ≡ fs → FramesShow code addresses fs us
      → local_frames code c.holder us ≡ Some d → Steps (Instruct (One g)) (end_by_frames g [] d.frames)
  instruction none [] [] is f e = cc
  instruction none [] (w ∷ ws) is f e = absurd f
  instruction none (frame ∷ callers) [] is f e = absurd f
  instruction none (frame ∷ callers) (w ∷ ws) is f e =
      let x = chained (local_instr code c.holder w ws) (current code (bare w)) d e in
      let y = mapped (after_op code c.holder w ws x.0.op) (local_op code w ws x.0.op) d x.2 in
      instructs_alike none frame callers is w ws f.0 f.1 x.0 x.1 y.0 y.1 y.2

  -- ---- a duty

  duty : (x : Duty) (ds : List Duty) → h.duties ≡ x ∷ ds
      → local_by code (record { frames = c.frames; holder = hs }) (slot_duty slot_of x ∷ slot_duties slot_of ds) ≡ Some d
      → Steps (Attend g) (end_by_frames g (slot_duty slot_of x ∷ slot_duties slot_of ds) d.frames)
  duty x ds owed e =
      let y = mapped (λ (k : Holder). record { frames = c.frames; holder = k })
      (local_duty (slotted slot_of (record h { duties = ds })) (slot_duty slot_of x)) d e in
      let z = attends_alike code slot_of s good.good.fine all.slots_differ g h there x ds owed shown.calm page_words y.0 y.1 in
      steps_to (Attend g) (end_by_frames g (slot_duty slot_of x ∷ slot_duties slot_of ds) d.frames)
      (attended s g z.after) z.does frames z.after
      (record {
        goroutines = sym (set_same s.plain.goroutines g frames at) ∙ sym (append-nil _);
        holders = sym (append-nil _);
      })
      (record { memory = refl; printed = refl; owners = refl; global_pages = refl }) refl
      (sym (ap (mark_with_end s.mark) (no_end_owed g (slot_duty slot_of x) (slot_duties slot_of ds) d.frames)
      ∙ mark_stays s.mark))
      refl
      (subst (IsShown code slot_of addresses frames z.after) y.2
      (record { calm = ap may_go z.same_offer ∙ shown.calm; shown = shown.shown; holder = z.slots }))

  -- ---- either

  by_duties : (ds : List Duty) → h.duties ≡ ds
      → local_by code (record { frames = c.frames; holder = hs }) (slot_duties slot_of ds) ≡ Some d
      → Steps (event_by g (slot_duties slot_of ds)) (end_by_frames g (slot_duties slot_of ds) d.frames)
  by_duties [] owed e = instruction owed frames c.frames refl shown.shown
      (ap (λ (k : Holder). local_frames code k c.frames) shown.holder ∙ e)
  by_duties (x ∷ ds) owed e = duty x ds owed e

  pub shown_steps : local code c ≡ Some d → Steps (event_of g c) (end_of g c d)
  shown_steps e =
      subst (λ (k : Holder). Steps (event_by g k.duties) (end_by_frames g k.duties d.frames)) (sym shown.holder)
      (by_duties h.duties refl
      (ap (λ (k : Holder). local_by code (record { frames = c.frames; holder = k }) k.duties) (sym shown.holder) ∙ e))

-- a sender whose offer was taken has no local step
past_stays : (code : Code) (slot_of : ℕ → ℕ) (addresses : List ℕ) (frames : List TacFrame) (h : Holder) (c d : FramesRec)
    → IsPast code slot_of addresses frames h c → local code c ≡ Some d → ⊥
past_stays code slot_of addresses frames h c d p e =
    from p.shown.shown (ap (λ (ds : List Duty). local_by code c ds) (sym owes) ∙ e)
  where
    owes : c.holder.duties ≡ []
    owes = ap (λ (k : Holder). k.duties) p.shown.holder ∙ ap (slot_duties slot_of) p.owes_nothing

    from : FramesShow code addresses (p.frame ∷ p.callers) c.frames → local_frames code c.holder c.frames ≡ Some d → ⊥
    from f e = by c.frames f e
      where
        by : (us : List WordFrame) → FramesShow code addresses (p.frame ∷ p.callers) us → local_frames code c.holder us ≡ Some d → ⊥
        by [] f e = absurd f
        by (w ∷ ws) f e =
            let x = chained (local_instr code c.holder w ws) (current code (bare w)) d e in
            let same : x.0 ≡ p.instr = same_instr (sym x.1 ∙ current_alike code p.frame w f.0.alike ∙ p.at) in
            let y = mapped (after_op code c.holder w ws x.0.op) (local_op code w ws x.0.op) d x.2 in
            no_send w ws y.0 (ap (local_op code w ws) (sym (ap (λ (i : CodeInstr). i.op) same ∙ p.is)) ∙ y.1)
          where
            same_instr : {i j : CodeInstr} → Some i ≡ Some j → i ≡ j
            same_instr {i} {j} e = same_Some i j e

            no_send : (w : WordFrame) (ws after : List WordFrame)
                → local_op code w ws (Do p.to action.Send (p.channel ∷ p.sent ∷ []) p.removes) ≡ Some after → ⊥
            no_send w ws after e = cc

pub local_law : LocalLaw
local_law x d constants e = go f.fits
  where
    f : RecordFits x.code x.slot_of x.addresses x.s x.g x.c
    f = x.all.each x.g x.c x.is_c

    go : IsShown x.code x.slot_of x.addresses f.frames f.h x.c ⊎ IsPast x.code x.slot_of x.addresses f.frames f.h x.c
        → RegionStepsTo x (event_of x.g x.c) x.s.regions (mark_with_end x.s.mark (end_of x.g x.c d)) (slice_set x.records x.g d)
    go (inl shown) = shown_steps x.code x.page_words x.sound.checked constants x.slot_of x.addresses x.s x.sound.good
        x.sound.running x.records x.all x.g x.c d x.is_c f.frames f.h f.at f.there shown e
    go (inr past) = absurd (past_stays x.code x.slot_of x.addresses f.frames f.h x.c d past e)

-- The start of a goroutine: its record fits it. The child's holder is computed from the parent's by the machine's function, which
-- commutes with slots. Its frame is that of a call.
use Rattle.std.proofs.Common.{◌≡◌, ℕ, ◌+◌, true, List, [], ◌∷◌, ◌++◌, length, map, Option, Some, None, refl, sym, ap, ◌∙◌, subst, inl}
use Rattle.std.proofs.Common.{slice_get, slice_set, append-nil, Contains}
use Rattle.std.proofs.lemmas.Option.{same_Some, slice_get_within}
use Rattle.rgo_sound.specs.Memory.declared.values.Value.TheVariants as value
use Rattle.rgo_sound.specs.Tac.declared.regions.Class.{Class}
use Rattle.rgo_sound.specs.Tac.declared.regions.Class.TheVariants.{Global, Name, NoClass}
use Rattle.rgo_sound.specs.Tac.Flow.{reads, writes}
use Rattle.rgo_sound.specs.Tac.Frames.{TacFrame, new_tac_frame, moved_to, operand_values}
use Rattle.rgo_sound.specs.Code.Checked.{IsChecked}
use Rattle.rgo_sound.specs.Code.Code.{Code, CodeFn, CodeInstr, CodeOp, Go}
use Rattle.rgo_sound.specs.Code.Erasure.{erased, erased_fn, erased_op}
use Rattle.rgo_sound.specs.Code.Names.{edges}
use Rattle.rgo_sound.specs.RegionMachine.declared.regions.Region.{Region}
use Rattle.rgo_sound.specs.RegionMachine.declared.regions.Region.TheVariants.{Global as GlobalRegion}
use Rattle.rgo_sound.specs.RegionMachine.Instructions.{child_holder, last_frames, mark_with_end}
use Rattle.rgo_sound.specs.RegionMachine.Objects.{making_region}
use Rattle.rgo_sound.specs.RegionMachine.Owed.{entry_removes, formals_of, function_at, code_function, next_duties, passed, passed_regions, removes_behind, function_result_class, twice}
use Rattle.rgo_sound.specs.RegionMachine.Regions.{Bindings, class_region, is_live}
use Rattle.rgo_sound.specs.RegionMachine.States.{Holder, NoOffer, RegionState, Remove, environment_of, top_names}
use Rattle.rgo_sound.proofs.steps.Acting.{Acted, act, after, no_end, start}
use Rattle.rgo_sound.proofs.names.Stakes.{name_staked}
use Rattle.rgo_sound.proofs.Places.{contains_here, get_append_left, get_set_same}
use Rattle.rgo_sound.proofs.names.Ruled.{erased_found}
use Rattle.rgo_sound.proofs.calls.Starts.{last_frames_snoc}
use Rattle.rgo_sound.specs.Good.{AllGood}
use Rattle.rgo_core_frames.specs.steps.Before.{IsBefore}
use Rattle.rgo_core_frames.specs.goroutines.Children.{GoLaw, child_records}
use Rattle.rgo_core_frames.specs.Fits.{RecordsFit, IsShown, ObjectsDiffer}
use Rattle.rgo_core_frames.specs.Records.{FramesRec, after_op}
use Rattle.rgo_core_frames.specs.shown.Variables.{FramesShow, NewestShows}
use Rattle.rgo_core_frames.specs.regions.Slots.{slotted_region, slot_environments, slotted}
use Rattle.rgo_core_frames.specs.steps.Bookkept.{HasInstruction}
use Rattle.rgo_core_frames.specs.shown.WordFrames.{WordFrame, bare, bare_all, word_called, word_moved, words_of}
use Rattle.rgo_core_frames.proofs.steps.ActionSteps.{fills_after, ready_now, reserved_after}
use Rattle.rgo_core_frames.proofs.regions.Bookkeeping.{front_slot, passed_is}
use Rattle.rgo_core_frames.proofs.steps.Instructing.{changes, done_state, instructs, next_holder, none_allotted, shown_after}
use Rattle.rgo_core_frames.proofs.Keeping.{Changes, all_fit_child}
use Rattle.rgo_core_frames.proofs.Leaving.{leaves_rest, mark_stays}
use Rattle.rgo_sound.specs.Running.{IsRunning}
use Rattle.rgo_core_frames.proofs.shown.Showing.{all_reads_show, enters, goes_on}
use Rattle.rgo_core_frames.proofs.regions.SlotLemmas.{PassedLive, passes_slot, top_slot, twice_slot}
use Rattle.rgo_sound.proofs.Progress.{live_of}
use Rattle.rgo_sound.specs.RegionMachine.Machine.{Instruct, region_step}
use Rattle.rgo_sound.specs.Machine.declared.picks.Pick.TheVariants.{One}

-- the holder of a goroutine that starts
abbrev child_of : Code → Holder → ℕ → List Class → List TacFrame → Holder
child_of code h n passes child = record {
  stakes = h.pending;
  pending = [];
  environments =
      environment_of (function_result_class (code_function code n))
      (passed (formals_of (code_function code n)) (passed_regions (top_names h.environments) passes)) ∷ [];
  base = twice (passed_regions (top_names h.environments) passes);
  fills = [];
  reserved = 0;
  duties = map Remove (entry_removes (code_function code n)) ++ next_duties code child;
  offer = NoOffer;
}

module _ (code : Code) (page_words : ℕ) (checked : IsChecked code) (slot_of : ℕ → ℕ) (addresses : List ℕ) (s : RegionState)
    (good : AllGood code s) (running : IsRunning s) (records : List FramesRec) (all : RecordsFit code slot_of addresses s records) (g : ℕ)
    (c : FramesRec) (is_c : slice_get records g ≡ Some c) (w : WordFrame) (ws : List WordFrame) (instr : CodeInstr)
    (b : IsBefore code slot_of addresses s g c w ws instr) (n : ℕ) (callee : CodeFn) (from : List ℕ) (passes : List Class)
    (removes : List ℕ) (is : instr.op ≡ Go n from passes removes) (found : code_function code n ≡ Some callee) where
  abbrev entered : TacFrame
  entered = new_tac_frame (erased_fn callee) n (operand_values b.frame from)

  abbrev word_entered : WordFrame
  word_entered = word_called callee n (words_of w from)

  abbrev next : List TacFrame
  next = moved_to b.frame (b.frame.next + 1) ∷ b.callers

  abbrev word_next : List WordFrame
  word_next = word_moved w (w.next + 1) ∷ ws

  abbrev did : Acted
  did = record { memory = s.plain.memory; frames = next; started = (entered ∷ []) ∷ []; printed = []; trap = None }

  acts : act (erased code) s.plain.memory (erased_op instr.op) instr.place b.frame b.callers ≡ Some did
  acts =
      ap (λ (o : CodeOp). act (erased code) s.plain.memory (erased_op o) instr.place b.frame b.callers) is
      ∙ ap (start s.plain.memory b.frame b.callers n (operand_values b.frame from)) (erased_found code n callee found)

  edge : Contains {X = ℕ × List ℕ} (edges instr.op b.frame.next) (b.frame.next + 1, removes)
  edge = subst (λ (o : CodeOp). Contains {X = ℕ × List ℕ} (edges o b.frame.next) (b.frame.next + 1, removes)) (sym is)
      (contains_here {X = ℕ × List ℕ} (b.frame.next + 1, removes) [])

  shows : FramesShow code addresses next word_next
  shows = (
    subst (λ n. NewestShows code addresses (moved_to b.frame (b.frame.next + 1)) (word_moved w n))
        (ap (λ n. n + 1) (sym b.newest.alike.next))
        (goes_on addresses code b.frame w instr b.cur b.newest None value.Nil 0 (b.frame.next + 1) removes edge
        (ap (λ o. writes (erased_op o)) is) refl),
    b.waiting,
  )

  abbrev state_after : RegionState
  state_after = done_state (ready_now code page_words checked slot_of addresses [] s good running records all g c is_c w ws instr b) did refl (b.h, [])

  abbrev holder_next : Holder
  holder_next = next_holder (ready_now code page_words checked slot_of addresses [] s good running records all g c is_c w ws instr b) did refl (b.h, [])

  stands : IsShown code slot_of addresses next holder_next (after_op code c.holder w ws instr.op word_next)
  stands = shown_after (ready_now code page_words checked slot_of addresses [] s good running records all g c is_c w ws instr b) did refl
      (b.h, []) slot_of addresses (record { fills = b.h.fills; reserved = b.h.reserved; same = refl }) c b.holder w ws b.waiting
      (subst (λ (o : CodeOp). removes_behind (bare w) o ≡ removes_behind b.frame o) (sym is) refl) addresses word_next shows

  abbrev children : List Holder
  children = child_holder code b.h instr.op (last_frames (after s.plain g did).goroutines)

  changed : Changes s state_after g next holder_next ((entered ∷ []) ∷ []) children
  changed = changes (ready_now code page_words checked slot_of addresses [] s good running records all g c is_c w ws instr b) did refl (b.h, [])

  one_child : children ≡ child_of code b.h n passes (entered ∷ []) ∷ []
  one_child =
      ap (child_holder code b.h instr.op) (last_frames_snoc (slice_set s.plain.goroutines g next) (entered ∷ []))
      ∙ ap (λ (o : CodeOp). child_holder code b.h o (entered ∷ [])) is

  -- ---- the child's record

  abbrev child : FramesRec
  child = record { frames = word_entered ∷ []; holder = child_of code c.holder n passes (bare_all (word_entered ∷ [])) }

  child_shows : FramesShow code addresses (entered ∷ []) (word_entered ∷ [])
  child_shows = (
    enters addresses code callee n (operand_values b.frame from) (words_of w from)
        (all_reads_show addresses code b.frame w instr b.cur b.newest from
        (λ v m. subst (λ (o : CodeOp). Contains (reads (erased_op o)) v) (sym is) m)),
    tt,
  )

  passed_live : (cs : List Class) → PassedLive slot_of s.regions all.slots_differ (passed_regions (top_names b.h.environments) cs)
  passed_live [] = tt
  passed_live (x ∷ cs) = by (class_region (top_names b.h.environments) x) refl (passed_live cs)
    where
      live : (x : Class) (r : Region) → class_region (top_names b.h.environments) x ≡ Some r → is_live s.regions r ≡ true
      live NoClass r e = cc
      live Global r e = ap (is_live s.regions) (sym (same_Some GlobalRegion r e))
      live (Name k) r e = live_of s b.h r (name_staked code s g b.h k r good.good.fine b.there e)

      by : (o : Option Region) → class_region (top_names b.h.environments) x ≡ o
          → PassedLive slot_of s.regions all.slots_differ (passed_regions (top_names b.h.environments) cs)
          → PassedLive slot_of s.regions all.slots_differ (o ∷ passed_regions (top_names b.h.environments) cs)
      by None e k = k
      by (Some r) e k = (live x r e, k)

  base_is : twice (passed_regions (top_names (slot_environments slot_of b.h.environments)) passes)
      ≡ map (slotted_region slot_of) (twice (passed_regions (top_names b.h.environments) passes))
  base_is =
      ap (λ (ns : Bindings). twice (passed_regions ns passes)) (top_slot slot_of b.h.environments)
      ∙ ap twice (passes_slot slot_of (top_names b.h.environments) passes)
      ∙ twice_slot slot_of s.regions all.slots_differ (passed_regions (top_names b.h.environments) passes) (passed_live passes)

  child_holder_is : child_of code c.holder n passes (bare_all (word_entered ∷ []))
      ≡ slotted slot_of (child_of code b.h n passes (entered ∷ []))
  child_holder_is =
      ap (λ (k : Holder). child_of code k n passes (bare_all (word_entered ∷ []))) b.holder
      ∙ (λ i. record {
        stakes = map slot_of b.h.pending;
        pending = [];
        environments = record {
          lent = function_result_class (code_function code n);
          names = sym (passed_is slot_of code addresses b.h (formals_of (code_function code n)) passes) i;
          protections = [];
        } ∷ [];
        base = base_is i;
        fills = [];
        reserved = 0;
        duties = sym (front_slot slot_of code addresses b.h addresses (entry_removes (code_function code n)) (entered ∷ []) (word_entered ∷ [])
            child_shows) i;
        offer = NoOffer;
      })

  child_stands : IsShown code slot_of addresses (entered ∷ []) (child_of code b.h n passes (entered ∷ [])) child
  child_stands = record { calm = refl; shown = child_shows; holder = child_holder_is }

  -- ---- both

  next_there : slice_get state_after.holders g ≡ Some holder_next
  next_there =
      let q = get_set_same s.holders g b.h holder_next b.there in
      ap (λ hs. slice_get hs g) changed.holders
      ∙ get_append_left (slice_set s.holders g holder_next) children g
      (slice_get_within (slice_set s.holders g holder_next) g holder_next q) ∙ q

  fills_are : (h : Holder) → slice_get state_after.holders g ≡ Some h → h.fills ≡ b.h.fills
  fills_are h e =
      ap (λ (k : Holder). k.fills) (same_Some h holder_next (sym e ∙ next_there))
      ∙ fills_after code b.h b.frame b.callers instr.op next

  reserved_is : (h : Holder) → slice_get state_after.holders g ≡ Some h → h.reserved ≡ b.h.reserved
  reserved_is h e =
      ap (λ (k : Holder). k.reserved) (same_Some h holder_next (sym e ∙ next_there))
      ∙ reserved_after code b.h b.frame b.callers instr.op next

  abbrev left : FramesRec
  left = after_op code c.holder w ws instr.op word_next

  both_fit : RecordsFit code slot_of addresses state_after (slice_set records g left ++ child ∷ [])
  both_fit =
      subst (λ l. RecordsFit code slot_of l state_after (slice_set records g left ++ child ∷ [])) (append-nil addresses)
      (all_fit_child code slot_of addresses [] s state_after g (b.frame ∷ b.callers) b.h next holder_next ((entered ∷ []) ∷ [])
      children b.at b.there changed records c left all is_c
      (inl (subst (λ l. IsShown code slot_of l next holder_next left) (sym (append-nil addresses)) stands))
      (entered ∷ []) (child_of code b.h n passes (entered ∷ [])) child refl one_child (sym good.good.fine.as_many)
      (subst (λ l. IsShown code slot_of l (entered ∷ []) (child_of code b.h n passes (entered ∷ [])) child) (sym (append-nil addresses))
      child_stands)
      (ap length (append-nil addresses) ∙ all.laid) all.slots_differ
      (subst (λ l. ObjectsDiffer l s.regions (s.owners ++ [])) (sym (append-nil addresses))
      (subst (ObjectsDiffer addresses s.regions) (sym (append-nil s.owners)) all.addresses_differ)))

  step_is : region_step code page_words s (Instruct (One g)) ≡ Some state_after
  step_is =
      instructs (ready_now code page_words checked slot_of addresses [] s good running records all g c is_c w ws instr b)
      page_words did (b.h, []) acts
      (none_allotted page_words b.h (making_region (function_at code b.frame) (top_names b.h.environments) instr.op) s.plain
      g did refl)

  pub started : HasInstruction code page_words slot_of addresses s g s.plain.memory [] (b.h, [])
      (slice_set records g left ++ child_records code c.holder instr.op (word_entered ∷ []))
  started = record {
    state = state_after;
    steps = step_is;
    rest = leaves_rest code page_words s state_after (Instruct (One g)) step_is;
    fit = subst (λ rs. RecordsFit code slot_of addresses state_after (slice_set records g left ++ rs))
        (sym (ap (λ (o : CodeOp). child_records code c.holder o (word_entered ∷ [])) is)) both_fit;
    memory_is = refl;
    printed = refl;
    owners = refl;
    regions = refl;
    global_pages = refl;
    mark = ap (mark_with_end s.mark) (no_end g (moved_to b.frame (b.frame.next + 1)) b.callers) ∙ mark_stays s.mark;
    counted = refl;
    fills = fills_are;
    reserved = reserved_is;
  }

pub go_law : GoLaw
go_law x n callee from passes removes is found =
    let y = x.here in
    started y.code y.page_words y.sound.checked y.slot_of y.addresses y.s y.sound.good y.sound.running y.records y.all y.g
    y.c y.is_c x.w x.ws x.instr x.before n callee from passes removes is found

-- The steps of actions that touch words, and of prints. All tests of the machine pass by what is known before an instruction, so its
-- step is computed, and the record after it is the machine's bookkeeping over slots.
use Rattle.std.specs.Int.{from_bool}
use Rattle.std.proofs.Common.{◌≡◌, ℕ, ◌+◌, Bool, true, false, not, ◌&&◌, List, [], ◌∷◌, ◌++◌, length, Option, Some, None, refl, sym, ap, ◌∙◌, subst, inl}
use Rattle.std.proofs.Common.{nat_le, nat_lt, slice_get, slice_set, append-nil, Contains, true≢false, if◌then◌else◌, option_map}
use Rattle.std.proofs.lemmas.Option.{same_Some, slice_get-map}
use Rattle.rgo_sound.specs.Typed.declared.actions.Action.{Action}
use Rattle.rgo_sound.specs.Typed.declared.types.Type.{«Type»}
use Rattle.rgo_sound.specs.Typed.Types.{is_pointer_like}
use Rattle.rgo_sound.specs.Memory.declared.values.Value.{Value}
use Rattle.rgo_sound.specs.Memory.declared.values.Value.TheVariants as value
use Rattle.rgo_sound.specs.Memory.Effects.{Does}
use Rattle.rgo_sound.specs.Memory.Memory.{Memory, Object}
use Rattle.rgo_sound.specs.Tac.Steps.{destination_type}
use Rattle.rgo_sound.specs.Machine.Lines.{printed_line}
use Rattle.rgo_sound.specs.Tac.Flow.{reads, writes}
use Rattle.rgo_sound.specs.Tac.Frames.{TacFrame, frame_after_instr, moved_to, value_at, operand_values}
use Rattle.rgo_sound.specs.Code.Checked.{IsChecked}
use Rattle.rgo_sound.specs.Code.Code.{Branch, Call, Code, CodeFn, CodeInstr, CodeOp, Do, Go, Jump, Print, Return, Slot}
use Rattle.rgo_sound.specs.Code.Erasure.{erased, erased_fn, erased_op}
use Rattle.rgo_sound.specs.Code.Names.{edges}
use Rattle.rgo_sound.specs.Code.Types.{VariableHasType}
use Rattle.rgo_sound.specs.RegionMachine.declared.regions.Region.{Region}
use Rattle.rgo_sound.specs.RegionMachine.Instructions.{child_holder, holder_after, last_frames, mark_with_end}
use Rattle.rgo_sound.specs.RegionMachine.Objects.{allotted, data_pages, fill_of, is_spread, is_too_large, making_region, placed, spread_out, object_words}
use Rattle.rgo_sound.specs.RegionMachine.Owed.{function_at, code_function, removes_behind}
use Rattle.rgo_sound.specs.RegionMachine.States.{Holder, RegionState, top_names}
use Rattle.rgo_sound.proofs.steps.Acting.{Acted, act, after, effected, no_end, performed, trap_place}
use Rattle.rgo_sound.proofs.steps.OneStep.{SameHolder}
use Rattle.rgo_sound.proofs.Places.{contains_here, contains_there, get_set_same}
use Rattle.rgo_sound.proofs.types.Steps.{types, var_kind}
use Rattle.rgo_sound.specs.Good.{AllGood}
use Rattle.rgo_sound.specs.Types.{HasKind}
use Rattle.rgo_core_frames.specs.steps.Actions.{ActionLaw, after_action}
use Rattle.rgo_core_frames.specs.steps.Before.{IsBefore}
use Rattle.rgo_core_frames.specs.Fits.{RecordsFit, IsShown, ObjectsDiffer}
use Rattle.rgo_core_frames.specs.steps.Prints.{PrintLaw, printed_values, typed_in, typed_value}
use Rattle.rgo_core_frames.specs.Records.{FramesRec, after_op}
use Rattle.rgo_core_frames.specs.shown.Variables.{CallersShow, FramesShow, NewestShows}
use Rattle.rgo_core_frames.specs.steps.Bookkept.{HasInstruction}
use Rattle.rgo_core_frames.specs.shown.WordFrames.{WordFrame, bare, is_set, frame_word, word_going, word_moved}
use Rattle.rgo_core_frames.specs.shown.Words.{Shows}
use Rattle.rgo_core_frames.proofs.steps.Instructing.{IsReady, changes, done_state, instructs, next_holder, none_allotted, shown_after}
use Rattle.rgo_core_frames.proofs.Keeping.{Changes, all_fit_after, frames_more}
use Rattle.rgo_core_frames.proofs.Leaving.{leaves_rest, mark_stays}
use Rattle.rgo_sound.specs.Running.{IsRunning}
use Rattle.rgo_core_frames.proofs.shown.Showing.{goes_on}
use Rattle.rgo_core_frames.proofs.Standing.{touched_live}
use Rattle.rgo_sound.specs.RegionMachine.Machine.{Instruct, region_step}
use Rattle.rgo_sound.specs.Machine.declared.picks.Pick.TheVariants.{One}
use Rattle.rgo_sound.specs.Typed.declared.statements.Piece.{Piece}

-- an object is allotted in an own page, or in reserved pages: only these change
pub allotted_same : (page_words : ℕ) (h : Holder) (region : Option Region) (object : Option Object)
    (given : Holder × List Region) → allotted page_words h region object ≡ Some given → SameHolder h given.0
allotted_same page_words h region None given e =
    subst (λ (x : Holder × List Region). SameHolder h x.0) (same_Some (h, []) given e)
    (record { fills = h.fills; reserved = h.reserved; same = refl })
allotted_same page_words h None (Some object) given e = cc
allotted_same page_words h (Some r) (Some object) given e = spread_or (is_spread page_words object) e
  where
    by : (b : Bool) (fills : List (Region × ℕ)) (reserved : ℕ)
        → (if b then Some (record h { fills = fills; reserved = reserved }, r ∷ []) else None) ≡ Some given
        → SameHolder h given.0
    by true fills reserved e = subst (λ (x : Holder × List Region). SameHolder h x.0)
        (same_Some (record h { fills = fills; reserved = reserved }, r ∷ []) given e)
        (record { fills = fills; reserved = reserved; same = refl })
    by false fills reserved e = cc

    go : (o : Option ℕ) → placed page_words h r object o ≡ Some given → SameHolder h given.0
    go None e = cc
    go (Some used) e = by (nat_le (used + object_words object) page_words) _ h.reserved e

    spread_or : (b : Bool) → (if b then spread_out page_words h r object else placed page_words h r object (fill_of h.fills r))
        ≡ Some given → SameHolder h given.0
    spread_or true e = by (not (is_too_large page_words object) && nat_lt (data_pages page_words object) h.reserved) h.fills 0 e
    spread_or false e = go (fill_of h.fills r) e

-- an instruction leaves the own pages
pub fills_after : (code : Code) (h : Holder) (frame : TacFrame) (callers : List TacFrame) (op : CodeOp) (next : List TacFrame)
    → (holder_after code h frame callers op next).fills ≡ h.fills
fills_after code h frame callers (Do to a from removes) next = refl
fills_after code h frame callers (Call to n from passes protects removes) next = refl
fills_after code h frame callers (Go n from passes removes) next = refl
fills_after code h frame callers (Print pieces from removes) next = refl
fills_after code h frame callers (Jump target removes) next = refl
fills_after code h frame callers (Branch test target removes other otherwise) next = refl
fills_after code h frame callers (Return value) next = refl

-- and the reserved ones
pub reserved_after : (code : Code) (h : Holder) (frame : TacFrame) (callers : List TacFrame) (op : CodeOp) (next : List TacFrame)
    → (holder_after code h frame callers op next).reserved ≡ h.reserved
reserved_after code h frame callers (Do to a from removes) next = refl
reserved_after code h frame callers (Call to n from passes protects removes) next = refl
reserved_after code h frame callers (Go n from passes removes) next = refl
reserved_after code h frame callers (Print pieces from removes) next = refl
reserved_after code h frame callers (Jump target removes) next = refl
reserved_after code h frame callers (Branch test target removes other otherwise) next = refl
reserved_after code h frame callers (Return value) next = refl

module _ (code : Code) (page_words : ℕ) (checked : IsChecked code) (slot_of : ℕ → ℕ) (addresses more : List ℕ) (s : RegionState)
    (good : AllGood code s) (running : IsRunning s) (records : List FramesRec) (all : RecordsFit code slot_of addresses s records) (g : ℕ)
    (c : FramesRec) (is_c : slice_get records g ≡ Some c) (w : WordFrame) (ws : List WordFrame) (instr : CodeInstr)
    (b : IsBefore code slot_of addresses s g c w ws instr) where
  pub ready_now : IsReady code s g b.h b.frame b.callers instr
  ready_now = record {
    there = b.there;
    at = b.at;
    cur = b.cur;
    none = b.none;
    free = b.free;
    live = touched_live code s g b.h b.frame b.callers instr checked good.good b.there b.at b.cur;
    running = running;
  }

  -- frames continue: those of other goroutines do not change
  module _ (memory : Memory) (bytes : List ℕ) (f : TacFrame) (fs : List TacFrame) (given : Holder × List Region)
      (next : List WordFrame)
      (acts : act (erased code) s.plain.memory (erased_op instr.op) instr.place b.frame b.callers
      ≡ Some (record { memory = memory; frames = f ∷ fs; started = []; printed = bytes; trap = None }))
      (allots : allotted page_words b.h (making_region (function_at code b.frame) (top_names b.h.environments) instr.op)
      (slice_get memory.heap (length s.plain.memory.heap)) ≡ Some given)
      (shows : FramesShow code (addresses ++ more) (f ∷ fs) next)
      (tests : removes_behind (bare w) instr.op ≡ removes_behind b.frame instr.op)
      (no_child : (child : List TacFrame) → child_holder code given.0 instr.op child ≡ []) where
    abbrev did : Acted
    did = record { memory = memory; frames = f ∷ fs; started = []; printed = bytes; trap = None }

    abbrev state_after : RegionState
    state_after = done_state ready_now did refl given

    abbrev holder_next : Holder
    holder_next = next_holder ready_now did refl given

    stands : IsShown code slot_of (addresses ++ more) (f ∷ fs) holder_next (after_op code c.holder w ws instr.op next)
    stands = shown_after ready_now did refl given slot_of addresses
        (allotted_same page_words b.h (making_region (function_at code b.frame) (top_names b.h.environments) instr.op)
        (slice_get memory.heap (length s.plain.memory.heap)) given allots)
        c b.holder w ws b.waiting tests (addresses ++ more) next shows

    changed : Changes s state_after g (f ∷ fs) holder_next []
        (child_holder code given.0 instr.op (last_frames (after s.plain g did).goroutines))
    changed = changes ready_now did refl given

    none_started : child_holder code given.0 instr.op (last_frames (after s.plain g did).goroutines) ≡ []
    none_started = no_child (last_frames (after s.plain g did).goroutines)

    next_there : slice_get state_after.holders g ≡ Some holder_next
    next_there =
        ap (λ hs. slice_get hs g) (changed.holders ∙ ap (λ ks. slice_set s.holders g holder_next ++ ks) none_started
        ∙ append-nil _) ∙ get_set_same s.holders g b.h holder_next b.there

    fills_are : (h : Holder) → slice_get state_after.holders g ≡ Some h → h.fills ≡ given.0.fills
    fills_are h e =
        ap (λ (k : Holder). k.fills) (same_Some h holder_next (sym e ∙ next_there))
        ∙ fills_after code given.0 b.frame b.callers instr.op (f ∷ fs)

    reserved_is : (h : Holder) → slice_get state_after.holders g ≡ Some h → h.reserved ≡ given.0.reserved
    reserved_is h e =
        ap (λ (k : Holder). k.reserved) (same_Some h holder_next (sym e ∙ next_there))
        ∙ reserved_after code given.0 b.frame b.callers instr.op (f ∷ fs)

    step_is : region_step code page_words s (Instruct (One g)) ≡ Some state_after
    step_is = instructs ready_now page_words did given acts allots

    pub instruction_done : length (addresses ++ more) ≡ length memory.heap
        → ObjectsDiffer (addresses ++ more) s.regions (s.owners ++ given.1)
        → HasInstruction code page_words slot_of (addresses ++ more) s g memory bytes given
        (slice_set records g (after_op code c.holder w ws instr.op next))
    instruction_done laid places = record {
      state = state_after;
      steps = step_is;
      rest = leaves_rest code page_words s state_after (Instruct (One g)) step_is;
      fit = all_fit_after code slot_of addresses more s state_after g (b.frame ∷ b.callers) b.h (f ∷ fs) holder_next []
          (child_holder code given.0 instr.op (last_frames (after s.plain g did).goroutines)) b.at b.there changed records
          c (after_op code c.holder w ws instr.op next) all is_c (inl stands) refl none_started laid all.slots_differ places;
      memory_is = refl;
      printed = refl;
      owners = refl;
      regions = refl;
      global_pages = refl;
      mark = ap (mark_with_end s.mark) (no_end g f fs) ∙ mark_stays s.mark;
      counted = refl;
      fills = fills_are;
      reserved = reserved_is;
    }

  -- ---- an action

  newest_more : NewestShows code (addresses ++ more) b.frame w
  newest_more = (frames_more code slot_of addresses more (b.frame ∷ b.callers) (w ∷ ws) (b.newest, b.waiting)).0

  callers_still : CallersShow code (addresses ++ more) b.callers ws
  callers_still = (frames_more code slot_of addresses more (b.frame ∷ b.callers) (w ∷ ws) (b.newest, b.waiting)).1

  going_shows : (to : Option ℕ) (v : Value) (word : ℕ) (removes : List ℕ)
      → Contains {X = ℕ × List ℕ} (edges instr.op b.frame.next) (b.frame.next + 1, removes)
      → writes (erased_op instr.op) ≡ to → Shows (addresses ++ more) v word
      → NewestShows code (addresses ++ more) (frame_after_instr b.frame to v) (word_going w to word)
  going_shows to v word removes edge wr sh =
      subst (λ n. NewestShows code (addresses ++ more) (frame_after_instr b.frame to v)
      (record { function = w.function; next = n; variables = (word_going w to word).variables }))
      (ap (λ n. n + 1) (sym b.newest.alike.next))
      (goes_on (addresses ++ more) code b.frame w instr b.cur newest_more to v word (b.frame.next + 1) removes edge wr sh)

  pub action_done : (to : Option ℕ) (action : Action) (from removes : List ℕ) (memory : Memory) (v : Value) (word : ℕ)
      (given : Holder × List Region) → instr.op ≡ Do to action from removes
      → performed code.structs action (destination_type (erased code) b.frame to) (operand_values b.frame from) s.plain.memory
      ≡ Some (Does memory v)
      → allotted page_words b.h (making_region (function_at code b.frame) (top_names b.h.environments) instr.op)
      (slice_get memory.heap (length s.plain.memory.heap)) ≡ Some given
      → Shows (addresses ++ more) v word → length (addresses ++ more) ≡ length memory.heap
      → ObjectsDiffer (addresses ++ more) s.regions (s.owners ++ given.1)
      → HasInstruction code page_words slot_of (addresses ++ more) s g memory [] given
      (slice_set records g (after_action code c w ws instr to word))
  action_done to action from removes memory v word given is performs allots sh laid places =
      instruction_done memory [] (frame_after_instr b.frame to v) b.callers given (word_going w to word ∷ ws)
      (ap (λ (o : CodeOp). act (erased code) s.plain.memory (erased_op o) instr.place b.frame b.callers) is
      ∙ ap (effected s.plain.memory b.frame b.callers to (trap_place action instr.place)) performs)
      allots (
        going_shows to v word removes
            (subst (λ (o : CodeOp). Contains {X = ℕ × List ℕ} (edges o b.frame.next) (b.frame.next + 1, removes)) (sym is)
            (contains_here {X = ℕ × List ℕ} (b.frame.next + 1, removes) []))
            (ap (λ o. writes (erased_op o)) is) sh,
        callers_still,
      )
      (subst (λ (o : CodeOp). removes_behind (bare w) o ≡ removes_behind b.frame o) (sym is) refl)
      (λ child. subst (λ (o : CodeOp). child_holder code given.0 o child ≡ []) (sym is) refl)
      laid places

-- ---- a print

is_set_of : (t : Bool) → is_set (from_bool t) ≡ t
is_set_of true = refl
is_set_of false = refl

-- a word shows an int or a bool by its type
typed_is : (addresses : List ℕ) (kinds : List «Type») (slot : Slot) (v : Value) (word : ℕ) → is_pointer_like slot.ty ≡ false
    → HasKind kinds slot.ty v → Shows addresses v word → v ≡ typed_value (Some slot) word
typed_is addresses kinds slot (value.Int z) word p k sh =
    ap (λ x. value.Int x) sh.1 ∙ ap (λ (t : «Type»). typed_in t.layers t.base word) (sym k)
typed_is addresses kinds slot (value.Bool t) word p k sh =
    ap (λ x. value.Bool x) (sym (is_set_of t)) ∙ ap (λ n. value.Bool (is_set n)) (sym sh)
    ∙ ap (λ (t : «Type»). typed_in t.layers t.base word) (sym k)
typed_is addresses kinds slot value.Nil word p k sh = absurd (true≢false (sym k ∙ p))
typed_is addresses kinds slot (value.Object o) word p k sh = absurd (true≢false (sym k.1 ∙ p))

pub action_law : ActionLaw
action_law x more to action from removes memory v word given is performs allots sh laid places =
    let y = x.here in
    action_done y.code y.page_words y.sound.checked y.slot_of y.addresses more y.s y.sound.good y.sound.running y.records
    y.all y.g y.c y.is_c x.w x.ws x.instr x.before to action from removes memory v word given is performs allots sh laid
    places

module _ (code : Code) (page_words : ℕ) (checked : IsChecked code) (slot_of : ℕ → ℕ) (addresses : List ℕ) (s : RegionState)
    (good : AllGood code s) (running : IsRunning s) (records : List FramesRec) (all : RecordsFit code slot_of addresses s records)
    (g : ℕ) (c : FramesRec) (is_c : slice_get records g ≡ Some c) (w : WordFrame) (ws : List WordFrame) (instr : CodeInstr)
    (b : IsBefore code slot_of addresses s g c w ws instr) (fn : CodeFn) (pieces : List Piece) (from removes : List ℕ)
    (is : instr.op ≡ Print pieces from removes) (is_fn : code_function code w.function ≡ Some fn) where
  at_fn : function_at code b.frame ≡ Some fn
  at_fn = ap (code_function code) (sym b.newest.alike.function) ∙ is_fn

  edge : Contains {X = ℕ × List ℕ} (edges instr.op b.frame.next) (b.frame.next + 1, removes)
  edge = subst (λ (o : CodeOp). Contains {X = ℕ × List ℕ} (edges o b.frame.next) (b.frame.next + 1, removes)) (sym is)
      (contains_here {X = ℕ × List ℕ} (b.frame.next + 1, removes) [])

  shows : FramesShow code addresses (moved_to b.frame (b.frame.next + 1) ∷ b.callers) (word_moved w (w.next + 1) ∷ ws)
  shows = (
    subst (λ n. NewestShows code addresses (moved_to b.frame (b.frame.next + 1)) (word_moved w n))
        (ap (λ n. n + 1) (sym b.newest.alike.next))
        (goes_on addresses code b.frame w instr b.cur b.newest None value.Nil 0 (b.frame.next + 1) removes edge
        (ap (λ o. writes (erased_op o)) is) refl),
    b.waiting,
  )

  values_are : (vs : List ℕ) → ((v : ℕ) → Contains vs v → Contains from v)
      → operand_values b.frame vs ≡ printed_values fn w vs
  values_are [] k = refl
  values_are (v ∷ vs) k = λ i. one i ∷ values_are vs (λ u m. k u (contains_there v vs u m)) i
    where
      one : value_at b.frame v ≡ typed_value (slice_get fn.variables v) (frame_word w v)
      one = by (slice_get fn.variables v) refl
        where
          fits : (t : «Type») × VariableHasType (erased_fn fn) v t × (is_pointer_like t ≡ false)
          fits = types code checked b.frame fn instr at_fn b.cur (Print pieces from removes) is v (k v (contains_here v vs))

          type_is : slice_get (erased_fn fn).variables v ≡ option_map (λ (x : Slot). x.ty) (slice_get fn.variables v)
          type_is = slice_get-map (λ (x : Slot). x.ty) fn.variables v

          by : (o : Option Slot) → slice_get fn.variables v ≡ o → value_at b.frame v ≡ typed_value o (frame_word w v)
          by None q = let z : Some fits.0 ≡ None = sym fits.1 ∙ type_is ∙ ap (option_map (λ (x : Slot). x.ty)) q in cc
          by (Some slot) q =
              let ty : slot.ty ≡ fits.0 = same_Some slot.ty fits.0
              (sym (type_is ∙ ap (option_map (λ (x : Slot). x.ty)) q) ∙ fits.1) in
              let same : b.typed.0.0 ≡ fn = same_Some b.typed.0.0 fn (sym b.typed.0.1 ∙ at_fn) in
              let have : VariableHasType (erased_fn b.typed.0.0) v fits.0 =
              subst (λ (f : CodeFn). VariableHasType (erased_fn f) v fits.0) (sym same) fits.1 in
              typed_is addresses b.kinds slot (value_at b.frame v) (frame_word w v) (ap is_pointer_like ty ∙ fits.2)
              (subst (λ t. HasKind b.kinds t (value_at b.frame v)) (sym ty)
              (var_kind b.kinds (erased_fn b.typed.0.0) b.frame b.typed.0.2 v fits.0 have))
              (b.shown v (subst (λ (o : CodeOp). Contains (reads (erased_op o)) v) (sym is) (k v (contains_here v vs))))

  acts : act (erased code) s.plain.memory (erased_op instr.op) instr.place b.frame b.callers
      ≡ Some (record {
        memory = s.plain.memory;
        frames = moved_to b.frame (b.frame.next + 1) ∷ b.callers;
        started = [];
        printed = printed_line pieces (printed_values fn w from);
        trap = None;
      })
  acts =
      ap (λ (o : CodeOp). act (erased code) s.plain.memory (erased_op o) instr.place b.frame b.callers) is
      ∙ ap (λ vs. Some (record {
        memory = s.plain.memory;
        frames = moved_to b.frame (b.frame.next + 1) ∷ b.callers;
        started = [];
        printed = printed_line pieces vs;
        trap = None;
      })) (values_are from (λ v m. m))

  prints : HasInstruction code page_words slot_of addresses s g s.plain.memory (printed_line pieces (printed_values fn w from))
      (b.h, []) (slice_set records g (after_op code c.holder w ws instr.op (word_moved w (w.next + 1) ∷ ws)))
  prints =
      subst (λ l. HasInstruction code page_words slot_of l s g s.plain.memory (printed_line pieces (printed_values fn w from)) (b.h, [])
      (slice_set records g (after_op code c.holder w ws instr.op (word_moved w (w.next + 1) ∷ ws)))) (append-nil addresses)
      (instruction_done code page_words checked slot_of addresses [] s good running records all g c is_c w ws instr b s.plain.memory
      (printed_line pieces (printed_values fn w from)) (moved_to b.frame (b.frame.next + 1)) b.callers (b.h, [])
      (word_moved w (w.next + 1) ∷ ws) acts
      (none_allotted page_words b.h (making_region (function_at code b.frame) (top_names b.h.environments) instr.op) s.plain g
      (record { memory = s.plain.memory; frames = []; started = []; printed = []; trap = None }) refl)
      (subst (λ l. FramesShow code l (moved_to b.frame (b.frame.next + 1) ∷ b.callers) (word_moved w (w.next + 1) ∷ ws))
      (sym (append-nil addresses)) shows)
      (subst (λ (o : CodeOp). removes_behind (bare w) o ≡ removes_behind b.frame o) (sym is) refl)
      (λ child. subst (λ (o : CodeOp). child_holder code b.h o child ≡ []) (sym is) refl)
      (ap length (append-nil addresses) ∙ all.laid)
      (subst (λ l. ObjectsDiffer l s.regions (s.owners ++ [])) (sym (append-nil addresses))
      (subst (ObjectsDiffer addresses s.regions) (sym (append-nil s.owners)) all.addresses_differ)))

pub print_law : PrintLaw
print_law x fn pieces from removes is is_fn =
    let y = x.here in
    prints y.code y.page_words y.sound.checked y.slot_of y.addresses y.s y.sound.good y.sound.running y.records y.all y.g
    y.c y.is_c x.w x.ws x.instr x.before fn pieces from removes is is_fn

-- Frames of words that show frames: after a write, along an edge of the code, in a called function, and in a caller that
-- continues. What is live after an edge was live before it or was written, so liveness goes backwards and the proof forwards.
use Rattle.std.proofs.Common.{◌≡◌, ◌≢◌, ℕ, zero, suc, ◌+◌, List, [], ◌∷◌, ◌++◌, map, length, drop, get_or, Option, Some, None}
use Rattle.std.proofs.Common.{option_map, refl, sym, ap, ◌∙◌, subst, arith, slice_set, Contains, pow_pos}
use Rattle.std.proofs.lemmas.Option.{same_Some}
use Rattle.rgo_sound.specs.Typed.declared.types.Base.{Base}
use Rattle.rgo_sound.specs.Typed.declared.types.Base.TheVariants as base
use Rattle.rgo_sound.specs.Typed.declared.types.Layer.{Layer}
use Rattle.rgo_sound.specs.Typed.declared.types.Type.{«Type»}
use Rattle.rgo_sound.specs.Memory.declared.values.Value.{Value}
use Rattle.rgo_sound.specs.Memory.declared.values.Value.TheVariants as value
use Rattle.rgo_sound.specs.Memory.Values.{base_zero, zero_in, zero_of}
use Rattle.rgo_sound.specs.Tac.Flow.{reads, writes}
use Rattle.rgo_sound.specs.Tac.Frames.{TacFrame, assigned_variables, new_tac_frame, value_at, operand_values}
use Rattle.rgo_sound.specs.Tac.Steps.{tac_resumed, resumed_at, resumed_by, target_of}
use Rattle.rgo_sound.specs.Code.Code.{Branch, Call, Code, CodeFn, CodeInstr, CodeOp, Do, Go, Jump, Print, Return, Slot}
use Rattle.rgo_sound.specs.Code.Erasure.{erased, erased_fn, erased_instr, erased_op}
use Rattle.rgo_sound.specs.Code.Names.{edges}
use Rattle.rgo_sound.specs.RegionMachine.Owed.{current, current_in, function_at}
use Rattle.rgo_sound.proofs.pointers.Variables.{live_read, continued}
use Rattle.rgo_sound.proofs.steps.OneStep.{current_erased}
use Rattle.rgo_sound.proofs.Places.{contains_here, contains_there, length_set}
use Rattle.rgo_sound.proofs.names.Edges.{live_back}
use Rattle.rgo_sound.specs.Invariant.{HasInstr}
use Rattle.rgo_sound.specs.Values.{call_target}
use Rattle.rgo_core_frames.specs.shown.Variables.{CallerShows, NewestShows}
use Rattle.rgo_core_frames.specs.shown.WordFrames.{WordFrame, bare, frame_word, word_called, word_resumed_at, word_resumed_by, words_of, written}
use Rattle.rgo_core_frames.specs.shown.Words.{AllShow, Shows}
use Rattle.rgo_core_frames.proofs.regions.Bookkeeping.{current_alike}

-- ---- lists of words

none_some : (x : ℕ) → None ≡ Some x → ⊥
none_some x e = cc

module _ (addresses : List ℕ) where
  -- after a write on both sides
  set_shows : (vs : List Value) (ws : List ℕ) (d x : ℕ) (v : Value) (w : ℕ) → length ws ≡ length vs → Shows addresses v w
      → (d ≢ x → Shows addresses (get_or vs x value.Nil) (get_or ws x 0))
      → Shows addresses (get_or (slice_set vs d v) x value.Nil) (get_or (slice_set ws d w) x 0)
  set_shows [] [] d x v w l new old = refl
  set_shows [] (u ∷ ws) d x v w l new old = absurd (omega (arith, l))
  set_shows (u ∷ vs) [] d x v w l new old = absurd (omega (arith, l))
  set_shows (u ∷ vs) (z ∷ ws) zero zero v w l new old = new
  set_shows (u ∷ vs) (z ∷ ws) zero (suc x) v w l new old = old (λ e. omega (arith, e))
  set_shows (u ∷ vs) (z ∷ ws) (suc d) zero v w l new old = old (λ e. omega (arith, e))
  set_shows (u ∷ vs) (z ∷ ws) (suc d) (suc x) v w l new old =
      set_shows vs ws d x v w (omega (arith, l)) new (λ n. old (λ e. n (omega (arith, e))))

  some_is : (d x : ℕ) → Some d ≡ Some x → d ≡ x
  some_is d x e = same_Some d x e

  pub assigned_shows : (to : Option ℕ) (vs : List Value) (ws : List ℕ) (x : ℕ) (v : Value) (w : ℕ)
      → length ws ≡ length vs → Shows addresses v w → (to ≢ Some x → Shows addresses (get_or vs x value.Nil) (get_or ws x 0))
      → Shows addresses (get_or (assigned_variables vs to v) x value.Nil) (get_or (written ws to w) x 0)
  assigned_shows None vs ws x v w l new old = old (none_some x)
  assigned_shows (Some d) vs ws x v w l new old = set_shows vs ws d x v w l new (λ n. old (λ e. n (some_is d x e)))

  pub assigned_long : (to : Option ℕ) (vs : List Value) (ws : List ℕ) (v : Value) (w : ℕ) → length ws ≡ length vs
      → length (written ws to w) ≡ length (assigned_variables vs to v)
  assigned_long None vs ws v w l = l
  assigned_long (Some d) vs ws v w l = length_set ws d w ∙ l ∙ sym (length_set vs d v)

  -- ---- zeros

  pub zero_shows : (ty : «Type») → Shows addresses (zero_of ty) 0
  zero_shows ty = by_layers ty.layers ty.base
    where
      by_base : (b : Base) → Shows addresses (base_zero b) 0
      by_base base.Int = (pow_pos 64, refl)
      by_base base.Bool = refl
      by_base (base.Pointer n) = refl

      by_layers : (layers : List Layer) (b : Base) → Shows addresses (zero_in layers b) 0
      by_layers [] b = by_base b
      by_layers (l ∷ layers) b = refl

  abbrev zeros : List Slot → List Value
  zeros slots = map zero_of (map (λ (s : Slot). s.ty) slots)

  abbrev zero_words : List Slot → List ℕ
  zero_words slots = map (λ (s : Slot). 0) slots

  zeros_show : (slots : List Slot) (x : ℕ) → Shows addresses (get_or (zeros slots) x value.Nil) (get_or (zero_words slots) x 0)
  zeros_show [] x = refl
  zeros_show (s ∷ slots) zero = zero_shows s.ty
  zeros_show (s ∷ slots) (suc x) = zeros_show slots x

  zeros_long : (slots : List Slot) → length (zero_words slots) ≡ length (zeros slots)
  zeros_long [] = refl
  zeros_long (s ∷ slots) = ap suc (zeros_long slots)

  -- ---- the variables of a called function

  entered_shows : (vs : List Value) (ws : List ℕ) (slots : List Slot) (x : ℕ) → AllShow addresses vs ws
      → Shows addresses (get_or (vs ++ drop (length vs) (zeros slots)) x value.Nil)
      (get_or (ws ++ drop (length ws) (zero_words slots)) x 0)
  entered_shows [] [] slots x h = zeros_show slots x
  entered_shows [] (w ∷ ws) slots x h = absurd h
  entered_shows (v ∷ vs) [] slots x h = absurd h
  entered_shows (v ∷ vs) (w ∷ ws) slots zero h = h.0
  entered_shows (v ∷ vs) (w ∷ ws) [] (suc x) h = rest vs ws x h.1
    where
      rest : (vs : List Value) (ws : List ℕ) (x : ℕ) → AllShow addresses vs ws
          → Shows addresses (get_or (vs ++ []) x value.Nil) (get_or (ws ++ []) x 0)
      rest [] [] x h = refl
      rest [] (w ∷ ws) x h = absurd h
      rest (v ∷ vs) [] x h = absurd h
      rest (v ∷ vs) (w ∷ ws) zero h = h.0
      rest (v ∷ vs) (w ∷ ws) (suc x) h = rest vs ws x h.1
  entered_shows (v ∷ vs) (w ∷ ws) (s ∷ slots) (suc x) h = entered_shows vs ws slots x h.1

  all_long : (vs : List Value) (ws : List ℕ) → AllShow addresses vs ws → length ws ≡ length vs
  all_long [] [] h = refl
  all_long [] (w ∷ ws) h = absurd h
  all_long (v ∷ vs) [] h = absurd h
  all_long (v ∷ vs) (w ∷ ws) h = ap suc (all_long vs ws h.1)

  entered_long : (vs : List Value) (ws : List ℕ) (slots : List Slot) → AllShow addresses vs ws
      → length (ws ++ drop (length ws) (zero_words slots)) ≡ length (vs ++ drop (length vs) (zeros slots))
  entered_long [] [] slots h = zeros_long slots
  entered_long [] (w ∷ ws) slots h = absurd h
  entered_long (v ∷ vs) [] slots h = absurd h
  entered_long (v ∷ vs) (w ∷ ws) [] h = ap suc (ap length (append_nil_words ws) ∙ all_long vs ws h.1 ∙ sym (ap length (append_nil_values vs)))
    where
      append_nil_words : (ws : List ℕ) → ws ++ [] ≡ ws
      append_nil_words [] = refl
      append_nil_words (w ∷ ws) = ap (λ (zs : List ℕ). w ∷ zs) (append_nil_words ws)

      append_nil_values : (vs : List Value) → vs ++ [] ≡ vs
      append_nil_values [] = refl
      append_nil_values (v ∷ vs) = ap (λ (zs : List Value). v ∷ zs) (append_nil_values vs)
  entered_long (v ∷ vs) (w ∷ ws) (s ∷ slots) h = ap suc (entered_long vs ws slots h.1)

  module _ (code : Code) where
    -- ---- one instruction of the newest frame

    module _ (frame : TacFrame) (w : WordFrame) (instr : CodeInstr) (cur : current code frame ≡ Some instr)
        (t : NewestShows code addresses frame w) where
      here : (fn : CodeFn) → function_at code frame ≡ Some fn → HasInstr fn frame.next instr
      here fn is = sym (ap (λ o. current_in o frame.next) is) ∙ cur

      -- the frame has a function
      pub in_function : (fn : CodeFn) × (function_at code frame ≡ Some fn)
      in_function = go (function_at code frame) refl
        where
          go : (o : Option CodeFn) → function_at code frame ≡ o → (fn : CodeFn) × (function_at code frame ≡ Some fn)
          go None q = let z : None ≡ Some instr = sym (ap (λ o. current_in o frame.next) q) ∙ cur in cc
          go (Some fn) q = (fn, q)

      -- what it reads shows its value
      pub reads_show : (v : ℕ) → Contains (reads (erased_op instr.op)) v → Shows addresses (value_at frame v) (frame_word w v)
      reads_show v r =
          let f = in_function in
          t.shows f.0 f.1 v (none_some v) (live_read f.0 frame.next v instr (here f.0 f.1) r)

      pub all_reads_show : (from : List ℕ) → ((v : ℕ) → Contains from v → Contains (reads (erased_op instr.op)) v)
          → AllShow addresses (operand_values frame from) (words_of w from)
      all_reads_show [] h = tt
      all_reads_show (v ∷ from) h =
          (reads_show v (h v (contains_here v from)), all_reads_show from (λ x c. h x (contains_there v from x c)))

      -- the frame continues along an edge, and one variable may be written
      pub goes_on : (to : Option ℕ) (v : Value) (word i : ℕ) (removes : List ℕ)
          → Contains {X = ℕ × List ℕ} (edges instr.op frame.next) (i, removes) → writes (erased_op instr.op) ≡ to
          → Shows addresses v word → NewestShows code addresses (continued frame to v i)
          (record { function = w.function; next = i; variables = written w.variables to word })
      goes_on to v word i removes edge wr s = record {
        alike = record {
          function = t.alike.function;
          next = refl;
          as_many = assigned_long to frame.variables w.variables v word t.alike.as_many;
        };
        shows = λ fn is x but live. assigned_shows to frame.variables w.variables x v word t.alike.as_many s
            (λ n. t.shows fn is x (none_some x)
            (live_back fn frame.next i x instr removes (here fn is) edge (λ e. n (sym wr ∙ e)) live));
      }

      -- it waits at a call
      pub waits : (to : Option ℕ) (n : ℕ) (from : List ℕ) (passes : List _) (protects removes : List ℕ)
          → instr.op ≡ Call to n from passes protects removes → CallerShows code addresses frame w
      waits to n from passes protects removes is = record {
        alike = t.alike;
        shows = λ call cur' fn is_fn x but live. t.shows fn is_fn x (none_some x)
            (live_back fn frame.next (frame.next + 1) x instr removes (here fn is_fn)
            (subst (λ (op : CodeOp). Contains {X = ℕ × List ℕ} (edges op frame.next) (frame.next + 1, removes)) (sym is)
            (contains_here {X = ℕ × List ℕ} (frame.next + 1, removes) []))
            (λ e. but (ap (λ (i : CodeInstr). call_target i.op) (same_Some call instr (sym cur' ∙ cur))
            ∙ ap call_target is ∙ sym (ap (λ op. writes (erased_op op)) is) ∙ e)) live);
      }

    -- a function is called with words that show the arguments
    pub enters : (callee : CodeFn) (n : ℕ) (vs : List Value) (ws : List ℕ) → AllShow addresses vs ws
        → NewestShows code addresses (new_tac_frame (erased_fn callee) n vs) (word_called callee n ws)
    enters callee n vs ws h = record {
      alike = record { function = refl; next = refl; as_many = entered_long vs ws callee.variables h };
      shows = λ fn is x but live. entered_shows vs ws callee.variables x h;
    }

    -- ---- a caller continues

    target : (op : CodeOp) → target_of (erased_op op) ≡ call_target op
    target (Call to n from passes protects removes) = refl
    target (Do to action from removes) = refl
    target (Go n from passes removes) = refl
    target (Print pieces from removes) = refl
    target (Jump j removes) = refl
    target (Branch v j removes k others) = refl
    target (Return back) = refl

    module _ (caller : TacFrame) (w : WordFrame) (c : CallerShows code addresses caller w) (call : CodeInstr)
        (cur : current code caller ≡ Some call) where
      is_resumed : (value : Option Value) → tac_resumed (erased code) caller value ≡ resumed_by caller (erased_op call.op) value
      is_resumed value = ap (λ o. resumed_at caller o value) (current_erased code caller ∙ ap (option_map erased_instr) cur)

      word_is_resumed : (word : Option ℕ) → word_resumed_at w (current code (bare w)) word ≡ word_resumed_by w call.op word
      word_is_resumed word = ap (λ o. word_resumed_at w o word) (current_alike code caller w c.alike ∙ cur)

      next_is : w.next + 1 ≡ caller.next + 1
      next_is = ap (λ n. n + 1) c.alike.next

      -- with a value
      continues_with : (v : Value) (word : ℕ) → Shows addresses v word
          → NewestShows code addresses (resumed_by caller (erased_op call.op) (Some v)) (word_resumed_by w call.op (Some word))
      continues_with v word s = record {
        alike = record {
          function = c.alike.function;
          next = next_is;
          as_many = ap length (ap (λ to. written w.variables to word) (sym (target call.op)))
              ∙ assigned_long (target_of (erased_op call.op)) caller.variables w.variables v word c.alike.as_many;
        };
        shows = λ fn is x but live. subst
            (λ to. Shows addresses (get_or (assigned_variables caller.variables to v) x value.Nil) (get_or (written w.variables (call_target call.op) word) x 0))
            (sym (target call.op))
            (assigned_shows (call_target call.op) caller.variables w.variables x v word c.alike.as_many s
            (λ n. c.shows call cur fn is x n live));
      }

      -- without one, if none is waited for
      continues : call_target call.op ≡ None
          → NewestShows code addresses (resumed_by caller (erased_op call.op) None) (word_resumed_by w call.op None)
      continues none = record {
        alike = record { function = c.alike.function; next = next_is; as_many = c.alike.as_many };
        shows = λ fn is x but live. c.shows call cur fn is x (λ e. none_some x (sym none ∙ e)) live;
      }

      pub resumes_with : (v : Value) (word : ℕ) → Shows addresses v word
          → NewestShows code addresses (tac_resumed (erased code) caller (Some v)) (word_resumed_at w (current code (bare w)) (Some word))
      resumes_with v word s =
          subst (λ f. NewestShows code addresses f (word_resumed_at w (current code (bare w)) (Some word))) (sym (is_resumed (Some v)))
          (subst (NewestShows code addresses (resumed_by caller (erased_op call.op) (Some v))) (sym (word_is_resumed (Some word)))
          (continues_with v word s))

      pub resumes : call_target call.op ≡ None
          → NewestShows code addresses (tac_resumed (erased code) caller None) (word_resumed_at w (current code (bare w)) None)
      resumes none =
          subst (λ f. NewestShows code addresses f (word_resumed_at w (current code (bare w)) None)) (sym (is_resumed None))
          (subst (NewestShows code addresses (resumed_by caller (erased_op call.op) None)) (sym (word_is_resumed None))
          (continues none))

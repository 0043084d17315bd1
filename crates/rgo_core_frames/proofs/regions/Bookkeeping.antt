-- What an instruction does to a goroutine's regions, it does to their slots. The machine's function reads of frames only places in the
-- code and the tests of branches, and these agree.
use Rattle.std.proofs.Common.{◌≡◌, ℕ, zero, suc, List, [], ◌∷◌, ◌++◌, map, Option, Some, None, refl, sym, ap, ◌∙◌, get_or}
use Rattle.std.proofs.Common.{if◌then◌else◌}
use Rattle.rgo_sound.specs.Machine.Actions.{is_true}
use Rattle.rgo_sound.specs.Memory.declared.values.Value.TheVariants as value
use Rattle.rgo_sound.specs.Tac.declared.regions.Class.{Class}
use Rattle.rgo_sound.specs.Tac.Frames.{TacFrame, value_at}
use Rattle.rgo_sound.specs.Code.Code.{Branch, Call, Code, CodeInstr, CodeOp, Do, Go, Jump, Print, Return}
use Rattle.rgo_sound.specs.RegionMachine.Instructions.{holder_after}
use Rattle.rgo_sound.specs.RegionMachine.Owed.{caller_duties, current, current_in, duties_before, duties_behind, duties_behind_call, duties_of_op}
use Rattle.rgo_sound.specs.RegionMachine.Owed.{entry_removes, formals_of, code_function, given_names, next_duties, passed, passed_regions, regions_named, removes_behind, function_result_class}
use Rattle.rgo_sound.specs.RegionMachine.Regions.{Bindings, without_all}
use Rattle.rgo_sound.specs.RegionMachine.States.{Create, Duty, Holder, Remove, Unprotect, top_names, with_top}
use Rattle.rgo_core_frames.specs.shown.Variables.{CallersShow, FramesShow, IsAlike}
use Rattle.rgo_core_frames.specs.regions.Slots.{slot_duties, slot_environments, slot_names, slotted}
use Rattle.rgo_core_frames.specs.shown.WordFrames.{WordFrame, bare, bare_all, is_set, frame_word}
use Rattle.rgo_core_frames.proofs.regions.SlotLemmas.{below_slot, creates_slot, ends_slot, map_append, passed_slot, passes_slot, protects_slot, removes_slot, shares_slot, top_slot, unprotects_slot, with_top_slot, without_all_slot}

-- ---- the same place of the code

pub current_alike : (code : Code) (frame : TacFrame) (w : WordFrame) → IsAlike frame w → current code (bare w) ≡ current code frame
current_alike code frame w a = λ i. current_in (code_function code (a.function i)) (a.next i)

pub next_alike : (code : Code) (addresses : List ℕ) (frames : List TacFrame) (ws : List WordFrame) → FramesShow code addresses frames ws
    → next_duties code (bare_all ws) ≡ next_duties code frames
next_alike code addresses [] [] h = refl
next_alike code addresses [] (w ∷ ws) h = absurd h
next_alike code addresses (frame ∷ callers) [] h = absurd h
next_alike code addresses (frame ∷ callers) (w ∷ ws) h = ap duties_before (current_alike code frame w h.0.alike)

-- ---- what is owed

module _ (slot_of : ℕ → ℕ) where
  before_slot : (o : Option CodeInstr) → slot_duties slot_of (duties_before o) ≡ duties_before o
  before_slot None = refl
  before_slot (Some i) =
      map_append _ (map Create i.creates) (duties_of_op i.op) ∙ (λ t. creates_slot slot_of i.creates t ++ of_op i.op t)
    where
      of_op : (op : CodeOp) → slot_duties slot_of (duties_of_op op) ≡ duties_of_op op
      of_op (Do to action from removes) = refl
      of_op (Call to n from passes protects removes) = protects_slot slot_of protects
      of_op (Go n from passes removes) = shares_slot slot_of (regions_named passes)
      of_op (Print pieces from removes) = refl
      of_op (Jump target removes) = refl
      of_op (Branch test target removes other otherwise) = refl
      of_op (Return value) = refl

  pub next_slot : (code : Code) (frames : List TacFrame) → slot_duties slot_of (next_duties code frames) ≡ next_duties code frames
  next_slot code [] = refl
  next_slot code (frame ∷ callers) = before_slot (current code frame)

  behind_slot : (o : Option CodeInstr) → slot_duties slot_of (duties_behind_call o) ≡ duties_behind_call o
  behind_slot None = refl
  behind_slot (Some i) = of_op i.op
    where
      of_op : (op : CodeOp) → slot_duties slot_of (duties_behind op) ≡ duties_behind op
      of_op (Do to action from removes) = refl
      of_op (Call to n from passes protects removes) =
          map_append _ (map Unprotect protects) (map Remove removes)
          ∙ (λ t. unprotects_slot slot_of protects t ++ removes_slot slot_of removes t)
      of_op (Go n from passes removes) = refl
      of_op (Print pieces from removes) = refl
      of_op (Jump target removes) = refl
      of_op (Branch test target removes other otherwise) = refl
      of_op (Return value) = refl

  module _ (code : Code) (addresses : List ℕ) (h : Holder) where
    caller_slot : (callers : List TacFrame) (ws : List WordFrame) → CallersShow code addresses callers ws
        → slot_duties slot_of (caller_duties code h callers) ≡ caller_duties code (slotted slot_of h) (bare_all ws)
    caller_slot [] [] s = ends_slot slot_of h.base
    caller_slot [] (w ∷ ws) s = absurd s
    caller_slot (caller ∷ callers) [] s = absurd s
    caller_slot (caller ∷ callers) (w ∷ ws) s =
        behind_slot (current code caller) ∙ ap duties_behind_call (sym (current_alike code caller w s.0.alike))

    pub front_slot : (addresses' : List ℕ) (ks : List ℕ) (next : List TacFrame) (wnext : List WordFrame) → FramesShow code addresses' next wnext
        → slot_duties slot_of (map Remove ks ++ next_duties code next) ≡ map Remove ks ++ next_duties code (bare_all wnext)
    front_slot addresses' ks next wnext n =
        map_append _ (map Remove ks) (next_duties code next)
        ∙ (λ t. removes_slot slot_of ks t ++ (next_slot code next ∙ sym (next_alike code addresses' next wnext n)) t)

    names_is : top_names (slot_environments slot_of h.environments) ≡ slot_names slot_of (top_names h.environments)
    names_is = top_slot slot_of h.environments

    pub passed_is : (formals passes : List Class)
        → slot_names slot_of (passed formals (passed_regions (top_names h.environments) passes))
        ≡ passed formals (passed_regions (top_names (slot_environments slot_of h.environments)) passes)
    passed_is formals passes =
        sym (ap (λ (ns : Bindings). passed formals (passed_regions ns passes)) names_is
        ∙ ap (passed formals) (passes_slot slot_of (top_names h.environments) passes)
        ∙ passed_slot slot_of formals (passed_regions (top_names h.environments) passes))

    left_is : (ks : List ℕ) → slot_environments slot_of (with_top h.environments (without_all (top_names h.environments) ks))
        ≡ with_top (slot_environments slot_of h.environments)
        (without_all (top_names (slot_environments slot_of h.environments)) ks)
    left_is ks =
        sym (ap (λ (ns : Bindings). with_top (slot_environments slot_of h.environments) (without_all ns ks)) names_is
        ∙ ap (with_top (slot_environments slot_of h.environments)) (without_all_slot slot_of ks (top_names h.environments))
        ∙ with_top_slot slot_of h.environments (without_all (top_names h.environments) ks))

    -- the holder after an instruction
    module _ (frame : TacFrame) (callers : List TacFrame) (w : WordFrame) (ws : List WordFrame)
        (alike : CallersShow code addresses callers ws) (next : List TacFrame) (addresses' : List ℕ) (wnext : List WordFrame)
        (shown : FramesShow code addresses' next wnext) where
      same_duties : (op : CodeOp) → removes_behind (bare w) op ≡ removes_behind frame op
          → slot_duties slot_of (map Remove (removes_behind frame op) ++ next_duties code next)
          ≡ map Remove (removes_behind (bare w) op) ++ next_duties code (bare_all wnext)
      same_duties op e =
          front_slot addresses' (removes_behind frame op) next wnext shown
          ∙ ap (λ ks. map Remove ks ++ next_duties code (bare_all wnext)) (sym e)

      with_duties : (ds es : List Duty) → ds ≡ es
          → ◌≡◌ {A = Holder} (record (slotted slot_of h) { duties = ds }) (record (slotted slot_of h) { duties = es })
      with_duties ds es e = λ t. record (slotted slot_of h) { duties = e t }

      pub after_slot : (op : CodeOp) → removes_behind (bare w) op ≡ removes_behind frame op
          → slotted slot_of (holder_after code h frame callers op next)
          ≡ holder_after code (slotted slot_of h) (bare w) (bare_all ws) op (bare_all wnext)
      after_slot (Do to action from removes) e = with_duties _ _ (same_duties (Do to action from removes) e)
      after_slot (Call to n from passes protects removes) e = λ t. record (slotted slot_of h) {
        environments =
            record {
              lent = function_result_class (code_function code n);
              names = passed_is (formals_of (code_function code n)) passes t;
              protections = [];
            }
            ∷ left_is (given_names (function_result_class (code_function code n)) (formals_of (code_function code n)) passes protects) t;
        duties = front_slot addresses' (entry_removes (code_function code n)) next wnext shown t;
      }
      after_slot (Go n from passes removes) e = λ t. record (slotted slot_of h) {
        pending = [];
        duties = front_slot addresses' removes next wnext shown t;
      }
      after_slot (Print pieces from removes) e = with_duties _ _ (same_duties (Print pieces from removes) e)
      after_slot (Jump target removes) e = with_duties _ _ (same_duties (Jump target removes) e)
      after_slot (Branch test target removes other otherwise) e =
          with_duties _ _ (same_duties (Branch test target removes other otherwise) e)
      after_slot (Return value) e = λ t. record (slotted slot_of h) {
        environments = sym (below_slot slot_of h.environments) t;
        duties =
            (map_append _ (caller_duties code h callers) (next_duties code next)
            ∙ (λ u. caller_slot callers ws alike u ++ (next_slot code next ∙ sym (next_alike code addresses' next wnext shown)) u)) t;
      }

-- ---- the test of a branch

pub bare_test : (w : WordFrame) (test : ℕ) → is_true (value_at (bare w) test) ≡ is_set (frame_word w test)
bare_test w test = go w.variables test
  where
    go : (ws : List ℕ) (n : ℕ) → is_true (get_or (map (λ x. value.Bool (is_set x)) ws) n value.Nil) ≡ is_set (get_or ws n 0)
    go [] n = refl
    go (x ∷ xs) zero = refl
    go (x ∷ xs) (suc n) = go xs n

-- an instruction that is not a branch has the same removals
pub same_removes : (frame : TacFrame) (w : WordFrame) (op : CodeOp)
    → ((test target other : ℕ) (removes otherwise : List ℕ) → op ≡ Branch test target removes other otherwise
    → is_set (frame_word w test) ≡ is_true (value_at frame test)) → removes_behind (bare w) op ≡ removes_behind frame op
same_removes frame w (Do to action from removes) h = refl
same_removes frame w (Call to n from passes protects removes) h = refl
same_removes frame w (Go n from passes removes) h = refl
same_removes frame w (Print pieces from removes) h = refl
same_removes frame w (Jump target removes) h = refl
same_removes frame w (Branch test target removes other otherwise) h =
    ap (λ b. if b then removes else otherwise) (bare_test w test ∙ h test target other removes otherwise refl)
same_removes frame w (Return value) h = refl

-- Calls and returns of the newest frame. The steps are those of `rgo_compact`; new are the limit of frames, and a return to a caller at a
-- stop, where only the variable of the result matters of the caller's instruction.
use Rattle.std.proofs.Common.{◌≡◌, ◌+◌, ◌<◌, ◌≤◌, ◌∙◌, ◌++◌, ◌∷◌, ◌⊎◌, inl, inr, ℕ, List, [], Option, Some, None, zero, suc, refl, ap, sym, subst, arith}
use Rattle.std.proofs.Common.{length, take, drop, get_or, slice_get}
use Rattle.std.proofs.lemmas.List.{length-set, length-take-le, take-take}
use Rattle.std.proofs.lemmas.Option.{same_Some}
use Rattle.std.specs.Option.{option_map}
use Rattle.std.specs.Prelude.{IfSome}
use Rattle.rgo_sound.specs.Code.Code.{Call, Code, CodeFn, CodeOp}
use Rattle.rgo_sound.specs.RegionMachine.Owed.{code_function}
use Rattle.rgo_sound.specs.Values.{call_target}
use Rattle.rgo_core.specs.Frames.shown.Stacks.{stack_frames, newest}
use Rattle.rgo_core.specs.Frames.shown.WordFrames.{WordFrame, frame_word, word_called, word_going, word_resumed_at, word_resumed_by, words_of}
use Rattle.rgo_core.proofs.Frames.shown.Stacking.{stack_laws}
use Rattle.rgo_compact.specs.Bounds.{IsTarget}
use Rattle.rgo_compact.specs.declared.positions.Caller.{Caller}
use Rattle.rgo_compact.specs.declared.positions.Position.{Position}
use Rattle.rgo_compact.specs.Functions.{CompactFn, IsCompact}
use Rattle.rgo_compact.specs.Runs.{frame_at}
use Rattle.rgo_compact.specs.Stack.{StackEnters, HasCallers, IsStackFull, IsStack, caller_frame, callers_in, given_back, no_caller, resumed_position, shown_frames, stack_frame}
use Rattle.rgo_compact.proofs.Transferring.{back_shows, callers_grow, enters_stack, same_callee, same_value}
use Rattle.rgo_stack.specs.Places.{FrameCanCall, CanReturn, IsCalledFor, IsPlace, FunctionTakes}
use Rattle.rgo_stack.specs.Steps.{frames_after_call, frames_after_return}
use Rattle.rgo_stack.proofs.Frames.{among_words, below_top}

-- ---- calls

pub enters_shows : (code : Code) (fs : List CompactFn) (fn : CodeFn) (n : ℕ) (p q : Position) (arguments old new : List ℕ)
    (callers kept : List Caller) → IsCompact code fs → code_function code n ≡ Some fn → p.top ≤ length old
    → StackEnters fs n p q arguments old new callers kept
    → shown_frames new kept q ≡ frames_after_call fn n arguments (shown_frames old callers p)
enters_shows code fs fn n p q arguments old new callers kept compact known within e =
    let f = frame_at p.function p.next (drop p.base (take p.top old)) in
    let bs = stack_frame p.function p.next p.base ∷ callers_in callers p.depth in
    let given = words_of f arguments in
    let s : Caller = record { function = p.function; next = p.next; base = p.base } in
    let made = e.above fn.variables (same_callee code n e.callee fn (compact.each n e.callee e.known) known) in
    ap (λ (x : Position). shown_frames new kept x) e.is
    ∙ (λ i. stack_frames (made i) (stack_frame n 0 p.top ∷ callers_grow callers kept p.depth s e.room e.keeps i))
    ∙ (λ i. stack_frames (take p.top old ++ (word_called fn n given).variables)
    (stack_frame n 0 (sym (length-take-le p.top old within) i) ∷ bs))
    ∙ stack_laws.calls (take p.top old) bs fn n given

-- the stack after it
pub entered : (fs : List CompactFn) (n : ℕ) (p q : Position) (arguments old new : List ℕ) (callers kept : List Caller)
    → IsStack fs callers p → FrameCanCall fs n (length arguments) (shown_frames old callers p)
    → StackEnters fs n p q arguments old new callers kept → IsStack fs kept q
entered fs n p q arguments old new callers kept stack can e =
    enters_stack fs n p q arguments old new callers kept can.0.f can.0.call stack can.0.known can.0.at can.0.waits e

pub as_many_callers : (fs : List CompactFn) (n : ℕ) (p q : Position) (arguments old new : List ℕ) (callers kept : List Caller)
    → StackEnters fs n p q arguments old new callers kept → length kept ≡ length callers
as_many_callers fs n p q arguments old new callers kept e =
    ap length e.keeps ∙ length-set callers p.depth (record { function = p.function; next = p.next; base = p.base })

-- there is room
pub not_full : (fs : List CompactFn) (n : ℕ) (f : CompactFn) (arguments : List ℕ) (words callers : ℕ) (p : Position)
    → slice_get fs n ≡ Some f → FunctionTakes fs n (length arguments) → p.top + f.size ≤ words → p.depth < callers
    → IsStackFull fs n arguments words callers p → ⊥
not_full fs n f arguments words callers p known takes room depth full =
    by (full f known fits)
  where
    fits : length arguments ≤ f.size
    fits =
        let same : takes.f ≡ f = same_Some takes.f f (sym takes.known ∙ known) in
        subst (λ (k : CompactFn). length arguments ≤ k.size) same takes.fits

    by : (words < p.top + f.size) ⊎ (callers ≤ p.depth) → ⊥
    by (inl few) = omega (arith, few, room)
    by (inr few) = omega (arith, few, depth)

-- ---- returns

-- an entry of the list does not depend on the default
pub any_default : (callers : List Caller) (k : ℕ) (c d : Caller) → k < length callers → get_or callers k c ≡ get_or callers k d
any_default [] k c d within = absurd (omega (arith, within))
any_default (x ∷ callers) zero c d within = refl
any_default (x ∷ callers) (suc k) c d within = any_default callers k c d (omega (arith, within))

target_among : (words : List ℕ) (base top : ℕ) (v : Option ℕ) → IsTarget (length (drop base (take top words))) v
    → IfSome v (λ a. base + a < length words)
target_among words base top None within = tt
target_among words base top (Some a) within = among_words words base top a within

target_below : (words : List ℕ) (base top : ℕ) (v : Option ℕ) → IsTarget (length (drop base (take top words))) v
    → (a : ℕ) → v ≡ Some a → base + a < top
target_below words base top None within a e = cc
target_below words base top (Some b) within a e =
    let below = below_top words base top b within in
    let same : b ≡ a = same_Some b a e in
    omega (arith, below, same)

-- What a caller is given depends on its instruction by the variable of the result alone, so the compact call may be replaced by the code's.
resumed_for : (f : WordFrame) (op : CodeOp) (to w : Option ℕ) → call_target op ≡ to
    → word_resumed_by f op w ≡ word_resumed_by f (Call to 0 [] [] [] []) w
resumed_for f op to None e = refl
resumed_for f op to (Some w) e = ap (λ t. word_going f t w) e

module _ (fs : List CompactFn) (words : List ℕ) (callers : List Caller) (p : Position) (d : ℕ) (depth_is : p.depth ≡ suc d)
    (stack : IsStack fs callers p) (value to : Option ℕ) (can : CanReturn fs value to (shown_frames words callers p)) where
  abbrev pub s : Caller
  s = get_or callers d no_caller

  abbrev pub f : WordFrame
  f = frame_at p.function p.next (drop p.base (take p.top words))

  abbrev pub caller : WordFrame
  caller = newest (take p.base words) (caller_frame s)

  abbrev pub below : List WordFrame
  below = stack_frames (take s.base (take p.base words)) (callers_in callers d)

  within : p.base ≤ p.top
  within = let size = stack.newest.size in omega (arith, size)

  here : shown_frames words callers p ≡ f ∷ caller ∷ below
  here =
      (λ i. stack_frames (take p.top words) (stack_frame p.function p.next p.base ∷ callers_in callers (depth_is i)))
      ∙ (λ i. f ∷ stack_frames (take-take p.base p.top words within i) (caller_frame s ∷ callers_in callers d))

  both : CanReturn fs value to (f ∷ caller ∷ below)
  both = subst (CanReturn fs value to) here can

  pub reads : IfSome value (λ a. p.base + a < length words)
  reads = target_among words p.base p.top value both.0

  pub writes : IfSome to (λ v. s.base + v < length words)
  writes = target_among words s.base p.base to both.1.0

  pub resumes : IsPlace fs s.function (s.next + 1)
  resumes = both.1.1

  -- the frames
  pub returned_shows : (code : Code) → IsCalledFor code to (shown_frames words callers p)
      → shown_frames (given_back words s.base to (option_map (λ a. get_or words (p.base + a) 0) value)) callers (resumed_position p s d)
      ≡ frames_after_return code value (shown_frames words callers p)
  returned_shows code for =
      let waits = subst (IsCalledFor code to) here for in
      let w = option_map (λ a. get_or words (p.base + a) 0) value in
      back_shows words s p.base 0 [] (callers_in callers d) to w (target_below words s.base p.base to both.1.0)
      ∙ ap (λ (g : WordFrame). g ∷ below) (
      sym (resumed_for caller waits.0.op to w waits.2)
      ∙ ap (word_resumed_by caller waits.0.op)
      (sym (same_value words p.function p.next p.base p.top value (target_below words p.base p.top value both.0)))
      ∙ ap (λ found. word_resumed_at caller found (option_map (frame_word f) value)) (sym waits.1)
      )
      ∙ ap (frames_after_return code value) (sym here)

  -- the stack
  pub returned_stack : IsStack fs callers (resumed_position p s d)
  returned_stack =
      let has = subst (λ k. HasCallers fs callers k p.base) depth_is stack.below in
      let same : has.0.frame.f ≡ resumes.f = same_Some has.0.frame.f resumes.f (sym has.0.frame.known ∙ resumes.known) in
      let depth = stack.depth in
      let is = depth_is in
      record {
        newest = record {
          f = resumes.f;
          known = resumes.known;
          at = resumes.within;
          size = ap (λ (k : CompactFn). s.base + k.size) (sym same) ∙ has.0.frame.size;
        };
        below = has.1;
        depth = omega (arith, depth, is);
      }

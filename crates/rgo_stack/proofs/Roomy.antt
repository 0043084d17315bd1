-- A stack with more room shows the same frames: both lists only grow at their ends, above all that is shown.
use Rattle.std.proofs.Common.{◌≡◌, ◌<◌, ◌≤◌, ◌∙◌, ◌∷◌, ℕ, List, Some, zero, suc, refl, ap, sym, subst, arith, length, take, get_or}
use Rattle.std.proofs.lemmas.List.{get_or-take, take-take}
use Rattle.rgo_sound.specs.Machine.Limits.{deepest}
use Rattle.rgo_core.specs.Frames.shown.Stacks.{stack_frames}
use Rattle.rgo_compact.specs.declared.positions.Caller.{Caller}
use Rattle.rgo_compact.specs.declared.positions.Position.{Position}
use Rattle.rgo_compact.specs.Functions.{CompactFn}
use Rattle.rgo_compact.specs.Stack.{HasCaller, HasCallers, IsStack, caller_frame, callers_in, no_caller, shown_frames, stack_frame}
use Rattle.rgo_stack.specs.Stacks.{Belongs, BelongsAt, Stack, frames_at, frames_of_stack}
use Rattle.rgo_stack.proofs.Frames.{belongs_at, seen}

-- ---- more words

wider : (old new : List ℕ) (top : ℕ) → take (length old) new ≡ old → top ≤ length old → take top new ≡ take top old
wider old new top kept within = sym (take-take top (length old) new within) ∙ ap (take top) kept

-- ---- more callers

same_caller : (old new : List Caller) (d : ℕ) → take (length old) new ≡ old → d < length old
    → get_or new d no_caller ≡ get_or old d no_caller
same_caller old new d kept within =
    sym (get_or-take (length old) new d no_caller within) ∙ ap (λ (l : List Caller). get_or l d no_caller) kept

same_callers : (old new : List Caller) (d : ℕ) → take (length old) new ≡ old → d ≤ length old
    → callers_in new d ≡ callers_in old d
same_callers old new zero kept within = refl
same_callers old new (suc d) kept within =
    let less : d ≤ length old = omega (arith, within) in
    let at : d < length old = omega (arith, within) in
    λ i. caller_frame (same_caller old new d kept at i) ∷ same_callers old new d kept less i

still_has : (fs : List CompactFn) (old new : List Caller) (d top : ℕ) → take (length old) new ≡ old → d ≤ length old
    → HasCallers fs old d top → HasCallers fs new d top
still_has fs old new zero top kept within has = tt
still_has fs old new (suc d) top kept within has =
    let less : d ≤ length old = omega (arith, within) in
    let at : d < length old = omega (arith, within) in
    subst (λ (c : Caller). HasCaller fs c top × HasCallers fs new d c.base) (sym (same_caller old new d kept at))
    (has.0, still_has fs old new d (get_or old d no_caller).base kept less has.1)

-- ---- both

same_shown : (old new : List ℕ) (callers more : List Caller) (p : Position) → take (length old) new ≡ old
    → take (length callers) more ≡ callers → p.top ≤ length old → p.depth ≤ length callers
    → shown_frames new more p ≡ shown_frames old callers p
same_shown old new callers more p words kept top depth =
    λ i. stack_frames (wider old new p.top words top i)
    (stack_frame p.function p.next p.base ∷ same_callers callers more p.depth kept depth i)

still_stack : (fs : List CompactFn) (callers more : List Caller) (p : Position) → take (length callers) more ≡ callers
    → length callers ≤ length more → IsStack fs callers p → IsStack fs more p
still_stack fs callers more p kept longer s =
    let depth = s.depth in
    record {
      newest = s.newest;
      below = still_has fs callers more p.depth p.base kept s.depth s.below;
      depth = omega (arith, depth, longer);
    }

-- a stack with more room
module _ (fs : List CompactFn) (s t : Stack) (p : Position) (at : s.at ≡ Some p) (same : s ≡ t) (b : Belongs fs t)
    (words : List ℕ) (callers : List Caller) (kept_words : take (length s.words) words ≡ s.words)
    (kept_callers : take (length s.callers) callers ≡ s.callers) (wider_is : length s.words ≤ length words)
    (deeper_is : length s.callers ≤ length callers) (room : length callers < deepest) where
  was : IsStack fs s.callers p × (p.top ≤ length s.words)
  was = belongs_at fs s t p at same b

  pub grown_frames : frames_at words callers s.at ≡ frames_of_stack t
  grown_frames =
      ap (frames_at words callers) at
      ∙ same_shown s.words words s.callers callers p kept_words kept_callers was.1 was.0.depth ∙ seen s t p at same

  pub grown_belongs : Belongs fs (record { words = words; callers = callers; at = s.at })
  grown_belongs =
      let top = was.1 in
      record {
        frames = subst (BelongsAt fs words callers) (sym at) (
          still_stack fs s.callers callers p kept_callers deeper_is was.0,
          omega (arith, top, wider_is),
        );
        room = room;
      }

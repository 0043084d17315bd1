use Rattle.std.proofs.Common.{◌≡◌, ◌<◌, ◌≤◌, ◌∙◌, List, ℕ, ap, arith, drop, length, refl, subst, sym}
use Rattle.std.proofs.lemmas.List.{take_at}
use Rattle.std.proofs.lemmas.Option.{slice_get_within}
use Rattle.rgo_compact.specs.declared.positions.Caller.{Caller}
use Rattle.rgo_compact.specs.Functions.{CompactFn}
use Rattle.rgo_compact.specs.Stack.{StackEnters, IsStack, shown_frames}
use Rattle.rgo_stack.specs.Places.{FrameCanCall}
use Rattle.rgo_stack.specs.Stacks.{Stack}
use Rattle.rgo_stack.specs.Steps.{frames_after_call}
use Rattle.rgo_stack.proofs.Calling.{as_many_callers, entered, enters_shows}
use Rattle.rgo_stack.proofs.Frames.{as_deep, belongs_at, seen}
use Rattle.rgo_stack.proofs.stacks.Stack.call.Goals as goal

pub returns-then-p-eq-DEEPEST-clause-deep : goal.returns-then-p-eq-DEEPEST-clause-deep
returns-then-p-eq-DEEPEST-clause-deep c = (
  λ e. as_deep _ c.args.self.now c.in-Some.p c.in-Some.is c.self.view_is ∙ c.if-p-eq-DEEPEST.true,
  λ e. refl,
)

pub function_of-requires : goal.function_of-requires
function_of-requires c =
    let a = c.args in
    let was = seen _ a.self.now c.in-Some.p c.in-Some.is c.self.view_is in
    let can = subst (FrameCanCall a.compact.now a.n (length a.from.now)) (sym was) c.requires.can in
    subst (λ (fs : List CompactFn). a.n < length fs) (sym c.functions-functions.ensures)
    (slice_get_within a.compact.now a.n can.1.f can.1.known)

pub returns-in-Err-clause-deep : goal.returns-in-Err-clause-deep
returns-in-Err-clause-deep c = (
  λ e. cc,
  λ e. absurd (c.if-p-eq-DEEPEST.false (sym (as_deep _ c.args.self.now c.in-Some.p c.in-Some.is c.self.view_is) ∙ e)),
)

pub returns : goal.returns
returns c =
    let a = c.args in
    let fs = a.compact.now in
    let p = c.in-Some.p in
    let q = c.in-Some-enter.q in
    let here = c.self-2.inside in
    let words = c.enter.new.words in
    let callers = c.enter.new.callers in
    let at = ap (λ (s : Stack). s.at) c.self-2.view_is ∙ c.make_room.ensures.at ∙ ap (λ (s : Stack). s.at) (sym c.self.view_is)
    ∙ c.in-Some.is in
    let many : length words ≡ here.words.len = c.enter.ensures.len ∙ c.deref_mut.ensures.len in
    let deep : length callers ≡ here.callers.len = c.enter.ensures.callers ∙ c.deref_mut-2.ensures.len in
    let is_words = take_at words (drop (length words) here.words.items) here.words.len many in
    let is_callers = take_at callers (drop (length callers) here.callers.items) here.callers.len deep in
    let was = seen _ c.make_room.new.self p at c.self-2.view_is ∙ c.make_room.ensures.frames in
    let b = belongs_at fs _ c.make_room.new.self p at c.self-2.view_is c.make_room.ensures.belongs in
    let can = subst (FrameCanCall fs a.n (length a.from.now)) (sym was) c.requires.can in
    let enters : StackEnters fs a.n p q a.from.now here.words.items words here.callers.items callers =
    subst (λ (k : List CompactFn). StackEnters k a.n p q a.from.now here.words.items words here.callers.items callers)
    c.functions-functions.ensures
    (subst (λ (l : List ℕ). StackEnters c.functions-functions.result.now a.n p q a.from.now l words here.callers.items callers)
    c.deref_mut.ensures.value
    (subst (λ (k : List Caller). StackEnters c.functions-functions.result.now a.n p q a.from.now c.deref_mut.result.now words k callers)
    c.deref_mut-2.ensures.value c.in-Some-enter.ensures.enters.1)) in
    let top = c.in-Some-enter.ensures.enters.0 in
    let same = c.enter.ensures.len in
    let top_within : q.top ≤ length words = omega (arith, top, same) in
    let room = ap (λ (s : Stack). length s.callers) c.self-2.view_is in
    let few = c.make_room.ensures.belongs.room in
    let kept = as_many_callers fs a.n p q a.from.now here.words.items words here.callers.items callers enters in
    let all = ap length is_callers in
    record {
      called = λ code fn compact known.
          (λ i. shown_frames (is_words i) (is_callers i) q)
          ∙ enters_shows code fs fn a.n p q a.from.now here.words.items words here.callers.items callers compact known b.1 enters
          ∙ ap (frames_after_call fn a.n a.from.now) was;
      deep = (
        λ e. cc,
        λ e. absurd (c.if-p-eq-DEEPEST.false (sym (as_deep _ a.self.now p c.in-Some.is c.self.view_is) ∙ e)),
      );
      refused = tt;
      belongs = record {
        frames = (
          subst (λ (l : List Caller). IsStack fs l q) (sym is_callers)
              (entered fs a.n p q a.from.now here.words.items words here.callers.items callers b.0 can enters),
          subst (λ (l : List ℕ). q.top ≤ length l) (sym is_words) top_within,
        );
        room = omega (arith, all, kept, room, few);
      };
    }

use Rattle.std.proofs.Common.{◌≡◌, ◌<◌, ◌+◌, ◌-◌, ◌∙◌, ◌++◌, List, ℕ, suc, ap, arith, drop, get_or, length, subst, sym, take}
use Rattle.std.proofs.lemmas.List.{take_at}
use Rattle.std.specs.Option.{option_map}
use Rattle.std.specs.Prelude.{IfSome}
use Rattle.rgo_compact.specs.declared.positions.Caller.{Caller}
use Rattle.rgo_compact.specs.declared.positions.Position.{Position}
use Rattle.rgo_compact.specs.Stack.{IsStack, given_back, no_caller, resumed_position, shown_frames}
use Rattle.rgo_stack.specs.Places.{CanReturn, IsCalledFor}
use Rattle.rgo_stack.specs.Stacks.{Stack}
use Rattle.rgo_stack.specs.Steps.{frames_after_return}
use Rattle.rgo_stack.proofs.Calling.{any_default, returned_shows, returned_stack, writes}
use Rattle.rgo_stack.proofs.Frames.{belongs_at, seen}
use Rattle.rgo_stack.proofs.stacks.Stack.come_back.Goals as goal

pub give_back-requires : goal.give_back-requires
give_back-requires c =
    let a = c.args in
    let fs = a.compact.now in
    let p = c.in-Some.p in
    let here = c.self.inside in
    let callers = here.callers.items in
    let d = p.depth - 1 in
    let is : p.depth ≡ suc d = omega (arith, c.if-p-eq0.false) in
    let was = seen _ a.self.now p c.in-Some.is c.self.view_is in
    let b = belongs_at fs _ a.self.now p c.in-Some.is c.self.view_is c.requires.belongs in
    let can = subst (CanReturn fs a.value a.to) (sym was) c.requires.can in
    let depth = b.0.depth in
    let caller : c.index-caller.result.now ≡ get_or callers d no_caller =
    c.index-caller.ensures ∙ any_default callers d _ no_caller (omega (arith, depth, is)) in
    subst (λ (l : List ℕ). IfSome a.to (λ v. c.index-caller.result.now.base + v < length l)) (sym c.deref_mut.ensures.value)
    (subst (λ (k : Caller). IfSome a.to (λ v. k.base + v < length here.words.items)) (sym caller)
    (writes fs here.words.items callers p d is b.0 a.value a.to can))

pub returns : goal.returns
returns c =
    let a = c.args in
    let fs = a.compact.now in
    let p = c.in-Some.p in
    let here = c.self.inside in
    let old = here.words.items in
    let callers = here.callers.items in
    let d = p.depth - 1 in
    let is : p.depth ≡ suc d = omega (arith, c.if-p-eq0.false) in
    let was = seen _ a.self.now p c.in-Some.is c.self.view_is in
    let b = belongs_at fs _ a.self.now p c.in-Some.is c.self.view_is c.requires.belongs in
    let can = subst (CanReturn fs a.value a.to) (sym was) c.requires.can in
    let depth = b.0.depth in
    let s = get_or callers d no_caller in
    let caller : c.index-caller.result.now ≡ s =
    c.index-caller.ensures ∙ any_default callers d _ no_caller (omega (arith, depth, is)) in
    let given = c.give_back.new.words in
    let len : length given ≡ here.words.len = c.give_back.ensures.len ∙ c.deref_mut.ensures.len in
    let words : take here.words.len (given ++ drop (length given) old) ≡ given =
    take_at given (drop (length given) old) here.words.len len in
    let word = c.value_of-word.ensures
    ∙ ap (λ (l : List ℕ). option_map (λ v. get_or l (p.base + v) 0) a.value) c.deref.ensures.value in
    let is_given : given ≡ given_back old s.base a.to (option_map (λ v. get_or old (p.base + v) 0) a.value) =
    c.give_back.ensures.given ∙ (λ i. given_back (c.deref_mut.ensures.value i) (caller i).base a.to (word i)) in
    let next = c.following.ensures ∙ ap (λ (k : Caller). k.next + 1) caller in
    let position : Position = record {
      function = c.index-caller.result.now.function;
      next = c.following.result;
      base = c.index-caller.result.now.base;
      top = p.base;
      depth = d;
    } in
    let there : position ≡ resumed_position p s d =
    λ i. record { function = (caller i).function; next = next i; base = (caller i).base; top = p.base; depth = d } in
    let all = ap length words in
    let same = c.give_back.ensures.len in
    let old_len = ap length c.deref_mut.ensures.value in
    let top = b.1 in
    let size = b.0.newest.size in
    let few = c.requires.belongs.room in
    let room = ap (λ (t : Stack). length t.callers) c.self.view_is in
    record {
      frames = λ code for.
          (λ i. shown_frames ((words ∙ is_given) i) callers (there i))
          ∙ returned_shows fs old callers p d is b.0 a.value a.to can code (subst (IsCalledFor code a.to) (sym was) for)
          ∙ ap (frames_after_return code a.value) was;
      belongs = record {
        frames = (
          subst (IsStack fs callers) (sym there) (returned_stack fs old callers p d is b.0 a.value a.to can),
          omega (arith, all, same, old_len, top, size),
        );
        room = omega (arith, few, room);
      };
    }

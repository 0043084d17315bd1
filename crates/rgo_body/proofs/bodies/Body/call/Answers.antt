use Rattle.std.proofs.Common.{◌++◌, false, List, ℕ, length, map, sym, ap, ◌∙◌, refl, subst}
use Rattle.std.proofs.lemmas.List.{append-nil}
use Rattle.rgo_compact.specs.Functions.{IsCompact}
use Rattle.rgo_holding.specs.Holds.{IsHoldingOf}
use Rattle.rgo_holding.specs.Passing.{calling}
use Rattle.rgo_sound.specs.RegionMachine.Owed.{entry_removes, formals_of, code_function, function_result_class}
use Rattle.rgo_sound.specs.RegionMachine.States.{Remove}
use Rattle.rgo_stack.specs.Places.{FrameCanCall}
use Rattle.rgo_stack.specs.Stacks.{Belongs}
use Rattle.rgo_sound.specs.Tac.declared.regions.Class.{Class}
use Rattle.rgo_body.specs.Bodies.{frames_of_body}
use Rattle.rgo_body.specs.declared.bodies.Body.{Body}
use Rattle.rgo_body.proofs.Calling.{calls_shows}
use Rattle.rgo_body.proofs.Placing.{callee, can_call}
use Rattle.rgo_body.proofs.Showing.{at, stays_shows}
use Rattle.rgo_body.proofs.bodies.Body.call.Goals as goal

pub returns-in-Err-prepare_call-clause-stays : goal.returns-in-Err-prepare_call-clause-stays
returns-in-Err-prepare_call-clause-stays c T r s =
    stays_shows T c.args.program.now c.args.self.now r c.args.self.now.stack c.prepare_call.new.self c.reserve.new.self s refl s.belongs
    c.reserve.ensures.same (c.prepare_call.ensures.kept T.sizes.regions r.frame.holder r.memory.fills s.holds)

pub call-requires-clause-can : goal.call-requires-clause-can
call-requires-clause-can c =
    subst (λ fs. FrameCanCall fs c.args.function (length c.args.from.now) (frames_of_body c.args.self.now)) (sym c.compact.ensures.compact)
    (can_call c.args.program.now c.args.self.now c.args.next.now c.requires.possible c.fits.ensures c.requires.ready.is_next
    c.requires.calls.0 c.args.function c.args.from.now c.requires.calls.1)

pub returns-in-Err-call-clause-stays : goal.returns-in-Err-call-clause-stays
returns-in-Err-call-clause-stays c T r s =
    stays_shows T c.args.program.now c.args.self.now r c.call.new.self c.prepare_call.new.self c.reserve.new.self s
    c.in-Err-call.ensures.refused (subst (λ fs. Belongs fs c.call.new.self) c.compact.ensures.compact c.call.ensures.belongs)
    c.reserve.ensures.same (c.prepare_call.ensures.kept T.sizes.regions r.frame.holder r.memory.fills s.holds)

pub returns-clause-done : goal.returns-clause-done
returns-clause-done c T g r here s =
    let p = c.args.program.now in
    let b = c.args.self.now in
    let f = c.args.function in
    let n = c.requires.ready.is_next in
    let z = callee p b c.args.next.now c.requires.possible c.fits.ensures n c.requires.calls.0 f c.args.from.now c.requires.calls.1 in
    let x = at T p b r c.args.next.now s n in
    let d : Body = record b {
      stack = c.call.new.self;
      holding = c.enter.new.self;
      queue = c.put_all.new.self;
      is_expanded = false;
      counts = c.add_step.new.self;
    } in
    let code = sym s.code in
    let entered = c.enter.ensures.calls T.sizes.regions r.frame.holder r.memory.fills
    (c.prepare_call.ensures.kept T.sizes.regions r.frame.holder r.memory.fills s.holds) in
    calls_shows T p b d g r c.args.next.now s c.requires.ready c.requires.rests c.requires.calls.0 f c.args.from.now z.callee
    c.requires.calls.1 (ap (λ k. code_function k f) s.code ∙ z.found)
    (record {
      queue = c.put_all.ensures.put
          ∙ ap (λ (q : List ℕ × List _). map Remove q.0 ++ q.1)
          (λ i. ((c.entry-entry.ensures ∙ ap (λ k. entry_removes (code_function k f)) code) i, (c.reserve.ensures.same ∙ c.requires.ready.queue) i))
          ∙ append-nil (map Remove (entry_removes (code_function T.code f)));
      expanded = refl;
      side = refl;
      counts = c.add_step.ensures;
      prints = refl;
      reserved = refl;
      refused = refl;
    })
    (subst (λ fs. Belongs fs c.call.new.self) c.compact.ensures.compact c.call.ensures.belongs)
    (c.in-Ok-call.ensures.called p.code z.callee (subst (IsCompact p.code) (sym c.compact.ensures.compact) c.fits.ensures.compact) z.found)
    (subst (λ (q : Class × List Class × List Class × List ℕ).
    IsHoldingOf T.sizes.regions c.enter.new.self (calling r.frame.holder q.0 q.1 q.2 q.3) r.memory.fills)
    (λ i. (
      (c.result_class.ensures ∙ ap (λ k. function_result_class (code_function k f)) code) i,
      (c.formals-formals.ensures ∙ ap (λ k. formals_of (code_function k f)) code) i,
      (c.passes-passes.ensures ∙ sym x.passes) i,
      (c.protects-protects.ensures ∙ sym x.protects) i,
    )) entered)

use Rattle.std.proofs.Common.{[], ◌∷◌, length, sym, ap, ◌∙◌, subst}
use Rattle.rgo_sound.specs.Code.Code.{Go}
use Rattle.rgo_sound.specs.Code.Lists.{passes_of, removes_of}
use Rattle.rgo_compact.specs.Functions.{IsCompact}
use Rattle.rgo_core_facts.proofs.ControlPasses.{start_shares}
use Rattle.rgo_core.specs.Frames.shown.WordFrames.{word_called}
use Rattle.rgo_holding.specs.Passing.{AreRegionsPassed, ChildHoldingBegins}
use Rattle.rgo_sound.specs.RegionMachine.Owed.{formals_of, code_function, passed_regions}
use Rattle.rgo_sound.specs.RegionMachine.States.{top_names}
use Rattle.rgo_stack.specs.Places.{FunctionTakes}
use Rattle.rgo_stack.specs.Stacks.{Belongs, words_from}
use Rattle.rgo_body.specs.Bodies.{IsFresh}
use Rattle.rgo_body.proofs.Placing.{can_start, takes_started}
use Rattle.rgo_body.proofs.OpKinds.{go_of}
use Rattle.rgo_body.proofs.Showing.{at}
use Rattle.rgo_body.proofs.Starting.{are_passed, child_shows, if_ok, is_at}
use Rattle.rgo_body.proofs.bodies.Body.child.Goals as goal

pub new-requires : goal.new-requires
new-requires c =
    subst (λ fs. FunctionTakes fs c.args.function (length c.in_ok-arguments.arguments.items)) (sym c.compact.ensures.compact)
    (subst (λ ws. FunctionTakes c.args.program.now.compact c.args.function (length ws)) (sym c.in_ok-arguments.ensures)
    (takes_started c.args.program.now c.args.self.now c.args.next.now c.requires.possible c.compact.ensures.program
    c.requires.ready.is_next c.args.function c.args.from.now c.requires.starts))

pub returns : goal.returns
returns c =
    let p = c.args.program.now in
    let f = c.args.function in
    let from = c.args.from.now in
    let called = can_start p c.args.self.now c.args.next.now c.requires.possible c.compact.ensures.program c.requires.ready.is_next f from
    c.requires.starts in
    if_ok c.with_frame.result c.with_frame.ensures (λ b fresh T g r here s.
    let x = at T p c.args.self.now r c.args.next.now s c.requires.ready.is_next in
    let passes = passes_of x.instr.op in
    let a = is_at T p c.args.self.now r c.args.next.now s c.requires.ready c.requires.rests (Go f from passes (removes_of x.instr.op))
    (go_of x.instr.op f from (x.op ∙ c.requires.starts)) in
    let known = ap (λ code. code_function code f) s.code ∙ called.found in
    let given = x.passes ∙ sym c.passes.ensures in
    child_shows T p b _ _ s.code
    (subst (λ fs. Belongs fs c.in_ok-stack.stack) c.compact.ensures.compact c.in_ok-stack.ensures.belongs)
    r f called.callee from passes (removes_of x.instr.op) a known
    (subst (λ l. IsFresh c.in_ok-stack.stack c.in_ok-holding.holding l 0 b) c.entry.ensures fresh)
    (c.in_ok-stack.ensures.frames p.code called.callee
    (subst (IsCompact p.code) (sym c.compact.ensures.compact) c.compact.ensures.program.compact) called.found
    ∙ ap (λ ws. word_called called.callee f ws ∷ [])
    (c.in_ok-arguments.ensures ∙ ap (λ fs. words_from fs from) (sym s.frames ∙ a.frames)))
    (subst (λ l. ChildHoldingBegins T.sizes.regions c.in_ok-holding.holding r.frame.holder.pending l
    (passed_regions (top_names r.frame.holder.environments) passes))
    (c.formals.ensures ∙ ap (λ code. formals_of (code_function code f)) (sym s.code))
    (subst (λ ks. ChildHoldingBegins T.sizes.regions c.in_ok-holding.holding r.frame.holder.pending c.formals.result.now
    (passed_regions (top_names r.frame.holder.environments) ks)) (sym given)
    (c.in_ok-holding.ensures T.sizes.regions r.frame.holder r.memory.fills s.holds
    (subst (λ ks. AreRegionsPassed r.frame.holder.pending (passed_regions (top_names r.frame.holder.environments) ks)) given
    (are_passed r.frame.holder.pending (top_names r.frame.holder.environments) passes
    (λ i class slot e region. start_shares T g r here f from passes (removes_of x.instr.op) a i class slot e region)))))))

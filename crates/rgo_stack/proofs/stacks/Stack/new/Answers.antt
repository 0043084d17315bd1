use Rattle.std.proofs.Common.{◌≡◌, ◌∙◌, ◌∷◌, List, [], Some, ap, arith, slice_get, subst, sym}
use Rattle.std.proofs.lemmas.Option.{same_Some}
use Rattle.rgo_compact.specs.Functions.{CompactFn}
use Rattle.rgo_compact.specs.Runs.{frame_at}
use Rattle.rgo_compact.proofs.Transferring.{same_callee}
use Rattle.rgo_stack.proofs.Frames.{filled}
use Rattle.rgo_stack.proofs.stacks.Stack.new.Goals as goal

pub returns-clause-frames : goal.returns-clause-frames
returns-clause-frames c = λ code fn compact has.
    let a = c.args in
    let f = c.function_of.result.now in
    let known : slice_get a.compact.now a.n ≡ Some f =
    subst (λ (fs : List CompactFn). slice_get fs a.n ≡ Some f) c.functions.ensures c.function_of.ensures in
    let same : c.requires.f ≡ f = same_Some c.requires.f f (sym c.requires.known ∙ known) in
    let size = c.size-size.ensures.size in
    let sizes = ap (λ (k : CompactFn). k.size) same in
    let variables = same_callee code a.n f fn (compact.each a.n f known) has in
    let fits = c.requires.fits in
    let many = a.arguments.ok.0 in
    ap (λ l. frame_at a.n 0 l ∷ [])
    (filled a.arguments.items c.resize.new.self.items fn.variables c.size-size.result a.arguments.len (variables ∙ sym size)
    (omega (arith, many)) (omega (arith, fits, sizes, size, many)) c.in_ok-resize.ensures.items)

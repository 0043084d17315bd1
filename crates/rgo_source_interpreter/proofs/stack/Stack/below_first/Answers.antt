use Rattle.std.proofs.Common.{refl, ap, ◌∙◌, arith, drop, take, reverse}
use Rattle.rgo_source_interpreter.proofs.Stacks.{below_of}
use Rattle.rgo_source_interpreter.proofs.stack.Stack.below_first.Goals as goal

pub returns : goal.returns
returns g c =
    below_of c.deref.result.now _ _ c.args.count c.saturating_sub.result c.saturating_sub-2.result refl
    (omega (arith, c.deref.ensures.len)) c.saturating_sub-2.ensures refl
    ∙ ap (λ r. reverse (take c.args.count (drop 1 r))) (ap reverse c.deref.ensures.value ∙ c.self.view_is)

use Rattle.std.proofs.Common.{rules, arith}
use Rattle.rgo_source_interpreter.proofs.Stacks.{last_of}
use Rattle.rgo_source_interpreter.proofs.stack.Stack.last.Goals as goal

pub returns : goal.returns
returns g c =
    search (rules, last_of c.deref.result.now c.args.count c.saturating_sub.result (omega (arith, c.deref.ensures.len)))

use Rattle.std.proofs.Common.{rules, arith}
use Rattle.rgo_source_interpreter.proofs.Stacks.{more_of}
use Rattle.rgo_source_interpreter.proofs.stack.Stack.repeat.Goals as goal

pub returns : goal.returns
returns g c =
    search (rules, more_of c.self.inside.items.items c.args.count c.saturating_sub-from.result (omega arith))

use Rattle.std.proofs.Common.{rules, arith}
use Rattle.rgo_source_interpreter.proofs.Stacks.{older_of}
use Rattle.rgo_source_interpreter.proofs.stack.Stack.remove.Goals as goal

pub returns : goal.returns
returns g c = search (rules, older_of c.self.inside.items.items c.args.count c.saturating_sub.result (omega arith))

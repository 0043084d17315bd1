use Rattle.std.proofs.Common.{sym}
use Rattle.rgo_stack.proofs.Frames.{as_deep}
use Rattle.rgo_stack.proofs.stacks.Stack.depth.Goals as goal

pub returns-in-Some : goal.returns-in-Some
returns-in-Some c = sym (as_deep _ c.args.self.now c.in-Some.p c.in-Some.is c.self.view_is)

use Rattle.std.proofs.Common.{◌≡◌, List, ℕ, map, subst}
use Rattle.std.specs.Result.{IfOk}
use Rattle.rgo_compact.specs.Runs.{word_or_zero}
use Rattle.rgo_stack.proofs.stacks.Stack.words.Goals as goal

pub returns : goal.returns
returns c =
    subst (λ (l : List ℕ). IfOk c.gather.result (λ ws. ws.items ≡ map (word_or_zero l) c.args.from.now)) c.variables.ensures
    c.gather.ensures

use Rattle.std.proofs.Common.{ap, ◌∙◌, arith, reverse}
use Rattle.rgo_meaning.specs.Frames.{replaced}
use Rattle.rgo_source_interpreter.proofs.Stacks.{replaced_of}
use Rattle.rgo_source_interpreter.proofs.stack.Stack.replace.Goals as goal

pub returns-then-n-gt0 : goal.returns-then-n-gt0
returns-then-n-gt0 g c =
    ap reverse c.truncate.ensures.items
    ∙ replaced_of c.self.inside.items.items c.args.item c.args.count c.saturating_sub-kept.result
    (omega arith) (omega arith)
    ∙ ap (replaced c.args.item c.args.count) c.self.view_is

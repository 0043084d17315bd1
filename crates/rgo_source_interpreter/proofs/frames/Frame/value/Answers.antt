use Rattle.std.proofs.Common.{ap, sym, ◌∙◌}
use Rattle.rgo_meaning.specs.Frames.{value_below}
use Rattle.rgo_source_interpreter.proofs.Stacks.{none_there}
use Rattle.rgo_source_interpreter.proofs.frames.Frame.value.Goals as goal

pub returns-in-None : goal.returns-in-None
returns-in-None c =
    none_there c.self.inside.values c.args.newer _ (sym c.below.ensures ∙ c.in-None.is)
    ∙ ap (λ f. value_below f.values c.args.newer) c.self.view_is

use Rattle.std.proofs.Common.{map, drop, sym, ◌∙◌}
use Rattle.std.proofs.lemmas.List.{at_drop_all}
use Rattle.rgo_typing_rules.specs.Shapes.{has_misfit}
use Rattle.rgo_typing_rules.specs.Views.{shape_of, type_of_kind}
use Rattle.rgo_typing_rules.proofs.Misfits.{no_values}
use Rattle.rgo_typing_rules.proofs.values.has_misfit.Goals as goal

pub returns-else-i-given : goal.returns-else-i-given
returns-else-i-given c =
    sym (no_values _)
    ∙ sym (at_drop_all (λ ss. has_misfit (map type_of_kind (drop c.loop-i.i c.args.wanted.now)) (map shape_of ss)) c.args.given.now c.loop-i.i c.if-i-given.false)
    ∙ c.loop-i.invariant

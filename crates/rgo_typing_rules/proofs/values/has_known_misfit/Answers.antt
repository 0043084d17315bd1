use Rattle.std.proofs.Common.{map, drop, sym, ◌∙◌}
use Rattle.std.proofs.lemmas.List.{at_drop_all}
use Rattle.rgo_typing_rules.specs.Shapes.{has_known_misfit}
use Rattle.rgo_typing_rules.specs.Views.{shape_of, optional_kind_of}
use Rattle.rgo_typing_rules.proofs.Misfits.{no_known_values}
use Rattle.rgo_typing_rules.proofs.values.has_known_misfit.Goals as goal

pub returns-else-i-given : goal.returns-else-i-given
returns-else-i-given c =
    sym (no_known_values _)
    ∙ sym (at_drop_all (λ ss. has_known_misfit (map optional_kind_of (drop c.loop-i.i c.args.wanted.now)) (map shape_of ss)) c.args.given.now c.loop-i.i c.if-i-given.false)
    ∙ c.loop-i.invariant

use Rattle.std.proofs.Common.{[], ◌∷◌}
use Rattle.rgo_tac.specs.declared.regions.Member.TheVariants.{Result}
use Rattle.rgo_classes.specs.Classes.{variables_before}
use Rattle.rgo_classes.proofs.Named.{before_after, labels_named}
use Rattle.rgo_classes.proofs.names.name_outer.Goals as goal

pub returns : goal.returns
returns c =
    rw (c.new.ensures, before_after c.args.count (Result ∷ []))
    (labels_named c.args.labels.now c.args.function.now _ _ _ _
    (c.name_member-result.ensures.class (variables_before c.args.count []) c.add_missing.new.classes.items
    (c.in_ok-add_missing.ensures c.args.labels.now _ _ c.in_ok-variables.ensures.classes)))

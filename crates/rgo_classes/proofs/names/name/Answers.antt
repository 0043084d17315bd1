use Rattle.std.proofs.Common.{◌∙◌, length}
use Rattle.rgo_classes.proofs.Giving.{naming_none}
use Rattle.rgo_classes.proofs.names.name.Goals as goal

pub name_outer-requires-clause-none : goal.name_outer-requires-clause-none
name_outer-requires-clause-none c =
    rw (c.as_mut_slice.ensures.value ∙ c.in_ok-given.ensures.given)
    (naming_none c.args.labels.now c.args.function.now (length c.args.labels.now) c.in_ok-given.ensures.below)

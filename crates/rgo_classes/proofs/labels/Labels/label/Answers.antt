use Rattle.std.proofs.Common.{◌<◌, ◌∙◌, get_or, length, ap, arith}
use Rattle.std.proofs.lemmas.List.{get_or_default}
use Rattle.rgo_classes.specs.Labels.{member_index}
use Rattle.rgo_classes.specs.Moves.{member_rows}
use Rattle.rgo_classes.proofs.Rows.{label_below}
use Rattle.rgo_classes.proofs.labels.Labels.label.Goals as goal

pub returns-clause-below : goal.returns-clause-below
returns-clause-below c =
    let labels = c.self.inside.labels.items in
    let place = member_index c.args.member in
    let inside : place < length labels = rw c.self.view_is c.requires in
    let read = c.index.ensures ∙ ap (λ k. get_or labels k c.index.result.now) c.number_of.ensures
    ∙ get_or_default labels place c.index.result.now 0 inside in
    omega (
      arith,
      read,
      label_below labels (member_rows c.self.inside.members.items) place c.self.invariant inside,
      ap length c.self.view_is,
    )

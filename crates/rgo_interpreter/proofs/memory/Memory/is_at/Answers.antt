use Rattle.std.proofs.Common.{Some, ap, sym, ◌∙◌}
use Rattle.std.proofs.lemmas.Bool.{eqb-true}
use Rattle.rgo_interpreter.proofs.memory.Memory.is_at.Goals as goal

pub returns-in-Some : goal.returns-in-Some
returns-in-Some c same = (_, sym c.in-Some.ensures.entry ∙ ap (λ b. Some (b, c.in-Some.field-0-1.now)) (eqb-true _ _ same))

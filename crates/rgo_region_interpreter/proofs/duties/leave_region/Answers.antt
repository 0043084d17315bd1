use Rattle.std.proofs.Common.{ap, ◌∙◌}
use Rattle.rgo_region_interpreter.proofs.duties.leave_region.Goals as goal

pub returns-clause-memory : goal.returns-clause-memory
returns-clause-memory c = λ regions global_pages owners whole live shows made as_many memory.
    c.leave.ensures.memory regions global_pages owners whole live shows made as_many
    (ap (λ s. s.memory) c.state.view_is ∙ memory)

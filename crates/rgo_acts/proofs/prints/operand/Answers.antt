use Rattle.std.proofs.Common.{ap, inl, slice_get, sym, ◌∙◌}
use Rattle.rgo_body.specs.Bodies.{frames_of_body}
use Rattle.rgo_acts.proofs.before.Instructions.{has_variable}
use Rattle.rgo_acts.proofs.clock.Printing.{has_no_value, has_value}
use Rattle.rgo_acts.proofs.prints.operand.Goals as goal

pub word-requires : goal.word-requires
word-requires c =
    has_variable c.args.run.now c.args.actor.now c.args.next.now c.requires.before c.args.variable (inl c.requires.reads)

pub returns-in-Some : goal.returns-in-Some
returns-in-Some c =
    let n = c.requires.before.ready.is_next in
    c.value.ensures
    ∙ has_value c.args.next.now.function (frames_of_body c.args.actor.now.body) n.w n.ws c.args.variable c.word.result c.in-Some.ty.now n.are
    (c.word.ensures n.w n.ws n.are)
    (sym (ap (λ xs. slice_get xs c.args.variable) (c.variables.ensures ∙ ap (λ f. f.variables) c.tac.ensures)) ∙ c.in-Some.ensures)

pub returns-in-None : goal.returns-in-None
returns-in-None c =
    has_no_value c.args.next.now.function (frames_of_body c.args.actor.now.body) c.args.variable
    (sym (ap (λ xs. slice_get xs c.args.variable) (c.variables.ensures ∙ ap (λ f. f.variables) c.tac.ensures)) ∙ c.in-None.ensures)

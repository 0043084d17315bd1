use Rattle.std.proofs.Common.{◌∙◌, [], ◌∷◌, Some, ap, refl}
use Rattle.rgo_typed.specs.declared.actions.Action.TheVariants as action
use Rattle.rgo_interpreter.specs.Views.{memory_view}
use Rattle.rgo_tac.specs.Views.{op_of}
use Rattle.rgo_tac_interpreter.proofs.Making.{goes_on}
use Rattle.rgo_tac_interpreter.proofs.makes.make_object.Goals as goal

pub returns-in-New-clause-goes : goal.returns-in-New-clause-goes
returns-in-New-clause-goes c =
    let b = c.in-Some.next.body.now in
    rw c.has_moved.ensures
    (goes_on c.args.code.now (memory_view c.args.memory.now) (memory_view c.operate-did.new.memory) c.args.frame.now
    c.operate-did.new.frame (Some c.in-New.d) (action.New c.in-New.n) [] c.operate-did.result
    (c.in-Some.ensures.next ∙ ap (λ i. Some (op_of b.lists b.pieces i)) c.in-New.is) (λ place. refl)
    c.operate-did.ensures.acts)

pub returns-in-Slice-clause-goes : goal.returns-in-Slice-clause-goes
returns-in-Slice-clause-goes c =
    let b = c.in-Some.next.body.now in
    let did = c.operate-did-in-Slice in
    rw c.has_moved-in-Slice.ensures
    (goes_on c.args.code.now (memory_view c.args.memory.now) (memory_view did.new.memory) c.args.frame.now did.new.frame
    (Some c.in-Slice.d) action.Slice (c.in-Slice.n ∷ []) did.result
    (c.in-Some.ensures.next ∙ ap (λ i. Some (op_of b.lists b.pieces i)) c.in-Slice.is) (λ place. refl)
    did.ensures.acts)

pub returns-in-Chan-clause-goes : goal.returns-in-Chan-clause-goes
returns-in-Chan-clause-goes c =
    let b = c.in-Some.next.body.now in
    let did = c.operate-did-in-Chan in
    rw c.has_moved-in-Chan.ensures
    (goes_on c.args.code.now (memory_view c.args.memory.now) (memory_view did.new.memory) c.args.frame.now did.new.frame
    (Some c.in-Chan.d) action.Chan (c.in-Chan.n ∷ []) did.result
    (c.in-Some.ensures.next ∙ ap (λ i. Some (op_of b.lists b.pieces i)) c.in-Chan.is) (λ place. refl)
    did.ensures.acts)

use Rattle.std.proofs.Common.{◌≡◌, [], ◌∷◌, refl, ap, subst, sym}
use Rattle.rgo_typed.specs.declared.actions.Action.TheVariants as action
use Rattle.rgo_lower.specs.Emitted.{made_of, OpIsAdded, InstrEncodes, always, acts}
use Rattle.rgo_lower.proofs.Growing.{op_added, ok_map}
use Rattle.rgo_lower.proofs.builder.Builder.copy_to.Goals as goal
use Rattle.rgo_lower.proofs.builder.Builder.copy_to.Goals.{in-Some, in-None}

pub returns : goal.returns
returns c =
    let copies = acts action.Copy (c.args.from ∷ []) c.args.to in
    let a = made_of c.args.self.now in
    let b = made_of c.line.new.self in
    let i = c.match-get.instr in
    let same : made_of c.match-get.self ≡ a =
    elim c.match-get.branch [ in-Some w ↦ ap made_of w.self-is | in-None w ↦ ap made_of w.self-is ] in
    let encodes : InstrEncodes i copies =
    elim c.match-get.branch [
      | in-Some w ↦ subst (λ z. InstrEncodes z copies) (sym w.instr-is) w.copy_instr-instr.ensures
      | in-None w ↦ subst (λ z. InstrEncodes z copies) (sym w.instr-is) (λ leads lists pieces. refl)
    ] in
    ok_map c.line.result _ _
    (λ is. subst (λ z. OpIsAdded z (always copies) c.args.place b) same
    (op_added (made_of c.match-get.self) b i (always copies) c.args.place is
    (λ w k. encodes w.leads w.lists w.pieces)))
    c.line.ensures

use Rattle.std.proofs.Common.{◌<◌, length, sym, ◌∙◌, subst}
use Rattle.rgo_typed.specs.Views.{term_of}
use Rattle.rgo_lower.specs.Emitted.{made_of}
use Rattle.rgo_lower.proofs.StmtParts.{declare_emitted, declared}
use Rattle.rgo_lower.proofs.statements.declare.Goals as goal

-- what was made before keeps the slots
pub declare-requires : goal.declare-requires
declare-requires c =
    subst (λ z. c.args.n < length z) (sym (c.in_ok-variable.ensures.slots ∙ c.in_ok-d.ensures.slots))
    c.requires.number

pub returns : goal.returns
returns c =
    let a = made_of c.args.b.now in
    let b = made_of c.lower_term.new.b in
    let e = made_of c.give.new.self in
    let f = made_of c.declare.new.self in
    let x = c.in_ok-variable.variable in
    let inside : c.args.n < length e.slots =
    subst (λ z. c.args.n < length z) (sym (c.in_ok-variable.ensures.slots ∙ c.in_ok-d.ensures.slots))
    c.requires.number in
    λ l. declare_emitted c.args.n c.args.ty.now (term_of c.args.value.now) c.args.place c.in_ok-d.d x l a b e f
    c.in_ok-d.ensures c.in_ok-variable.ensures (declared c.args.n x e f inside c.declare.ensures)

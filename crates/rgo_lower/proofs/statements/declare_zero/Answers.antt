use Rattle.std.proofs.Common.{◌<◌, [], length, sym, subst}
use Rattle.rgo_lower.specs.Lowered.{zero_action}
use Rattle.rgo_lower.specs.Emitted.{made_of, ValueIsAdded, acts}
use Rattle.rgo_lower.proofs.StmtParts.{zero_emitted, declared}
use Rattle.rgo_lower.proofs.statements.declare_zero.Goals as goal

pub declare-requires : goal.declare-requires
declare-requires c = subst (λ z. c.args.n < length z) (sym c.in_ok-variable.ensures.slots) c.requires.number

pub returns : goal.returns
returns c =
    let a = made_of c.args.b.now in
    let b = made_of c.give.new.self in
    let e = made_of c.declare.new.self in
    let x = c.in_ok-variable.variable in
    let ty = c.args.ty.now in
    let value : ValueIsAdded a (acts (zero_action ty) []) ty c.args.place x b =
    subst (λ z. ValueIsAdded a (acts z []) ty c.args.place x b) c.zero_action.ensures c.in_ok-variable.ensures in
    let inside : c.args.n < length b.slots =
    subst (λ z. c.args.n < length z) (sym c.in_ok-variable.ensures.slots) c.requires.number in
    λ l. zero_emitted c.args.n ty c.args.place x l a b e value
    (declared c.args.n x b e inside c.declare.ensures)

use Rattle.std.proofs.Common.{◌≡◌, ◌+◌, ◌++◌, ◌&&◌, true, [], ◌∷◌, None, length, length-append, map, sym, ap, ◌∙◌, subst, arith}
use Rattle.rgo_typed.specs.Tree.{Change, terms_of}
use Rattle.rgo_typed.specs.Views.{term_of}
use Rattle.rgo_tac.specs.Code.{Do}
use Rattle.rgo_lower.specs.Shapes.{is_strict, returns_value, returns_nothing, how_many, term_fits, terms_fit}
use Rattle.rgo_lower.specs.Emitted.{made_of, OpIsAdded, ValueIsAdded, always, acts}
use Rattle.rgo_lower.proofs.Growing.{ok_map}
use Rattle.rgo_lower.proofs.StmtParts.{update_emitted}
use Rattle.rgo_lower.proofs.TermParts.{sides}
use Rattle.rgo_lower.proofs.statements.update.Goals as goal

-- the operands, and the new value
pub act-requires : goal.act-requires
act-requires c =
    let change = c.args.change.now in
    let operands = terms_of (map term_of change.operands.now.items) in
    let n = how_many operands in
    let ds = c.in_ok-from.from.items in
    let y = c.in_ok-after.after in
    let is : c.deref-2.result.now ≡ ds ++ y ∷ [] = c.deref-2.ensures.value ∙ c.in_ok-push.ensures.items in
    let values = c.in_ok-from.ensures.values in
    let one_more : length (ds ++ y ∷ []) ≡ n + 1 = omega (arith, length-append ds (y ∷ []), values) in
    let write = returns_nothing change.write (n + 1) in
    let compute = is_strict change.op && write in
    let value = term_fits (term_of change.value.now) && compute in
    let read = returns_value change.read n && value in
    let shape = sides (terms_fit operands) read c.requires.shape in
    let after_read = sides (returns_value change.read n) value shape.1 in
    let after_value = sides (term_fits (term_of change.value.now)) compute after_read.1 in
    subst (λ k. returns_nothing change.write k ≡ true) (sym (ap length is ∙ one_more))
    (sides (is_strict change.op) write after_value.1).1

pub returns : goal.returns
returns c =
    let change : Change = record {
      operands = terms_of (map term_of c.args.change.now.operands.now.items);
      read = c.args.change.now.read;
      ty = c.args.change.now.ty.now;
      read_at = c.args.change.now.read_at;
      op = c.args.change.now.op;
      value = term_of c.args.change.now.value.now;
      write = c.args.change.now.write;
      at = c.args.change.now.at;
    } in
    let ds = c.in_ok-from.from.items in
    let x = c.in_ok-before.before in
    let d = c.in_ok-d.d in
    let y = c.in_ok-after.after in
    let b0 = made_of c.args.b.now in
    let b1 = made_of c.lower_terms.new.b in
    let b2 = made_of c.give.new.self in
    let b3 = made_of c.lower_term.new.b in
    let b4 = made_of c.give-2.new.self in
    let b5 = made_of c.act.new.self in
    let first : c.deref.result.now ≡ ds = c.deref.ensures.value in
    let last : c.deref-2.result.now ≡ ds ++ y ∷ [] = c.deref-2.ensures.value ∙ c.in_ok-push.ensures.items in
    let read : ValueIsAdded b1 (acts change.read ds) change.ty change.read_at x b2 =
    subst (λ z. ValueIsAdded b1 (acts change.read z) change.ty change.read_at x b2) first c.in_ok-before.ensures in
    ok_map c.act.result _ _
    (λ h l. update_emitted change l ds x d y b0 b1 b2 b3 b4 b5 c.in_ok-from.ensures read c.in_ok-d.ensures
    c.in_ok-after.ensures (subst (λ z. OpIsAdded b4 (always (Do None change.write z)) change.at b5) last h))
    c.act.ensures

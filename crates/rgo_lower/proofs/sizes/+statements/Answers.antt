use Rattle.std.proofs.Common.{◌≡◌, ◌≤◌, List, length, map, subst, arith}
use Rattle.std.proofs.lemmas.List.{at_drop_all}
use Rattle.rgo_typed.specs.declared.statements.Stmt.{Stmt}
use Rattle.rgo_typed.specs.Tree.{stmts_of}
use Rattle.rgo_typed.specs.Views.{stmt_of}
use Rattle.rgo_lower.specs.Sizes.{stmts_size}
use Rattle.rgo_lower.proofs.sizes.+statements.Goals as goal

pub stmts_size-returns : goal.stmts_size-returns
stmts_size-returns t c =
    let xs = c.args.stmts.now.items in
    let i = c.loop-stmt.stmt-index in
    let same : c.deref-stmt-items.result.now ≡ xs = c.deref-stmt-items.ensures.value in
    let none =
    at_drop_all (λ (l : List Stmt). stmts_size (stmts_of (map stmt_of l))) xs i
    (subst (λ z. length z ≤ i) same c.loop-stmt-test.false) in
    omega (arith, none, c.loop-stmt.invariant.fits, c.loop-stmt.invariant.all)

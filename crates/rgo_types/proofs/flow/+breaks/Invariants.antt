use Rattle.std.proofs.Common.{◌≡◌, map, drop}
use Rattle.rgo_ast.specs.Tree.{stmts_of}
use Rattle.rgo_ast.specs.Views.{stmt_of}
use Rattle.rgo_types.specs.Flow.{stmts_break}
use Rattle.rgo_types.proofs.flow.+breaks.Given as goal

abbrev pub invariant-stmts_break-loop-s : goal.invariant-stmts_break-loop-s
invariant-stmts_break-loop-s l = stmts_break (stmts_of (map stmt_of (drop l.s-index l.all))) ≡ stmts_break (stmts_of (map stmt_of l.all))

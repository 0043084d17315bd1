-- A `break` in a block.
use Rattle.std.proofs.Common.{◌≡◌, ℕ, map, Vec, Global, arith}
use Rattle.rgo_ast.specs.Tree.{stmts_of}
use Rattle.rgo_ast.specs.Views.{stmt_of}
use Rattle.rgo_ast.specs.declared.statements.Stmt as code
use Rattle.rgo_types.specs.Flow.{stmts_break, stmt_breaks}
use Rattle.rgo_typing_statements.proofs.Trees.{sources}

pub block_breaks : (s : code.Stmt) (all : Vec code.Stmt Global) (at : ℕ) → s ≡ code.Block all at
    → stmt_breaks (stmt_of s) ≡ stmts_break (stmts_of (map stmt_of all.items))
block_breaks s all at is = grind (arith, sources)

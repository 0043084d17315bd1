use Rattle.std.proofs.Common.{◌≡◌, ◌+◌, ◌<◌, ◌^◌, suc, true, is_some, length, drop, map}
use Rattle.rgo_typed.specs.Tree.{stmts_of}
use Rattle.rgo_typed.specs.Views.{stmt_of}
use Rattle.rgo_lower.specs.Emitted.{BuilderParts, builder_size, made_of, StmtsAreEmitted}
use Rattle.rgo_lower.specs.Shapes.{stmts_fit}
use Rattle.rgo_lower.specs.Sizes.{stmts_size}
use Rattle.rgo_lower.proofs.Weights.{weight, weights}
use Rattle.rgo_lower.proofs.blocks.+statements.Given as goal

-- what emits the rest from here emits all from the beginning
abbrev pub invariant-lower_stmts-loop-stmt : goal.invariant-lower_stmts-loop-stmt
invariant-lower_stmts-loop-stmt l = record {
  small : builder_size (made_of l.b) + stmts_size (stmts_of (map stmt_of (drop l.stmt-index l.stmts.items))) < 2 ^ 32;
  shape :
      stmts_fit (length l.b.slots.items) (is_some l.innermost)
      (stmts_of (map stmt_of (drop l.stmt-index l.stmts.items))) ≡ true;
  rest :
      (new : BuilderParts)
      → StmtsAreEmitted (stmts_of (map stmt_of (drop l.stmt-index l.stmts.items))) l.innermost (made_of l.b) new
      → StmtsAreEmitted (stmts_of (map stmt_of l.stmts.items)) l.innermost (made_of l.fn.b) new;
}

abbrev pub decreases-lower_stmt : goal.decreases-lower_stmt
decreases-lower_stmt l = weight (stmt_of l.stmt.now)

abbrev pub decreases-lower_stmts : goal.decreases-lower_stmts
decreases-lower_stmts l = weights (stmts_of (map stmt_of l.stmts.now.items))

abbrev pub decreases-lower_if : goal.decreases-lower_if
decreases-lower_if l = suc (weights (stmts_of (map stmt_of l.body.now.items)))

abbrev pub decreases-lower_if_else : goal.decreases-lower_if_else
decreases-lower_if_else l =
    suc (weights (stmts_of (map stmt_of l.body.now.items)) + weights (stmts_of (map stmt_of l.other.now.items)))

abbrev pub decreases-lower_loop : goal.decreases-lower_loop
decreases-lower_loop l =
    suc (weights (stmts_of (map stmt_of l.body.now.items)) + weights (stmts_of (map stmt_of l.post.now.items)))

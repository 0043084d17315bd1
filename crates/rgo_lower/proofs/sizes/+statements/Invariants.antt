use Rattle.std.proofs.Common.{◌≡◌, ◌+◌, ◌-◌, ◌≤◌, ◌^◌, min, drop, map}
use Rattle.rgo_typed.specs.Tree.{stmts_of}
use Rattle.rgo_typed.specs.Views.{stmt_of}
use Rattle.rgo_lower.specs.Sizes.{stmts_size}
use Rattle.rgo_lower.proofs.sizes.+statements.Given as goal

-- with what the rest counts, it is what all count
abbrev pub invariant-stmts_size-loop-stmt : goal.invariant-stmts_size-loop-stmt
invariant-stmts_size-loop-stmt l = record {
  fits : l.size ≤ 2 ^ 64 - 1;
  all :
      min (l.size + stmts_size (stmts_of (map stmt_of (drop l.stmt-index l.stmts.items)))) (2 ^ 64 - 1)
      ≡ min (stmts_size (stmts_of (map stmt_of l.stmts.items))) (2 ^ 64 - 1);
}

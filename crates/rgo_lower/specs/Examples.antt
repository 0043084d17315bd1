-- Trees of a shape that can be lowered, and others.
use Rattle.std.specs.Prelude.{◌≡◌, true, false, [], ◌∷◌, None}
use Rattle.rgo_ast.specs.declared.ops.BinaryOp.TheVariants.{Add, And}
use Rattle.rgo_typed.specs.declared.actions.Action.TheVariants as action
use Rattle.rgo_typed.specs.Tree.{terms_of, stmts_of}
use Rattle.rgo_typed.specs.Tree as tree
use Rattle.rgo_wellformed.specs.TypeRules.{int, bool}
use Rattle.rgo_wellformed.specs.Examples.{literal_seven, true_term, read_local, applied_term, add_to_field}
use Rattle.rgo_lower.specs.Shapes.{stmt_fits}

-- in a function with four local variables, outside of loops
pub record ShapeExamples : Type 0 where
  -- x = x + 7; one operand less; `&&` as an operator
  pub added : stmt_fits 4 false (tree.Assign 0 (applied_term (action.Binary Add) (read_local 0 ∷ literal_seven ∷ []) int) 0) ≡ true
  pub one_operand : stmt_fits 4 false (tree.Assign 0 (applied_term (action.Binary Add) (read_local 0 ∷ []) int) 0) ≡ false
  pub and_as_operator : stmt_fits 4 false (tree.Assign 1 (applied_term (action.Binary And) (true_term ∷ true_term ∷ []) bool) 0) ≡ false
  -- p.next = p; its value, which it has not
  pub stored : stmt_fits 4 false (tree.Perform (action.Store 1) (terms_of (read_local 3 ∷ read_local 3 ∷ [])) 0) ≡ true
  pub value_of_store : stmt_fits 4 false (tree.Discard (applied_term (action.Store 1) (read_local 3 ∷ read_local 3 ∷ []) int)) ≡ false
  -- p.v += 7
  pub updated : stmt_fits 4 false (add_to_field literal_seven) ≡ true
  -- &S{next: p}; with two fields for one value
  pub built : stmt_fits 4 false (tree.Discard (tree.Build 0 (terms_of (read_local 3 ∷ [])) (1 ∷ []) 0)) ≡ true
  pub two_fields : stmt_fits 4 false (tree.Discard (tree.Build 0 (terms_of (read_local 3 ∷ [])) (0 ∷ 1 ∷ []) 0)) ≡ false
  -- the last local variable is declared; one more
  pub declared : stmt_fits 4 false (tree.Zero 3 int 0) ≡ true
  pub one_more : stmt_fits 4 false (tree.Zero 4 int 0) ≡ false
  -- for { break }; a `break` outside
  pub left : stmt_fits 4 false (tree.Loop None (stmts_of (tree.Break 0 ∷ [])) tree.no_stmts 0) ≡ true
  pub no_loop : stmt_fits 4 false (tree.Break 0) ≡ false
  -- a call of a function whose number has no more than 32 bits; one whose number has
  pub called : stmt_fits 4 false (tree.Invoke 4294967295 tree.no_terms 0) ≡ true
  pub too_high : stmt_fits 4 false (tree.Invoke 4294967296 tree.no_terms 0) ≡ false

-- Typed statements and programs that are well-formed, and some that are not. The second kind shows that the definition rules something
-- out: a law about well-formed trees would be worth little if every tree were one.
use Rattle.std.specs.Prelude.{ℕ, codes, pos, true, false, List, [], ◌∷◌, Some, None}
use Rattle.rgo_ast.specs.declared.ops.BinaryOp.TheVariants.{Add, Eq}
use Rattle.rgo_typed.specs.declared.actions.Action.{Action}
use Rattle.rgo_typed.specs.declared.actions.Action.TheVariants as action
use Rattle.rgo_typed.specs.declared.actions.Logical.TheVariants.{And}
use Rattle.rgo_typed.specs.declared.statements.Piece.TheVariants.{Value}
use Rattle.rgo_typed.specs.declared.types.Type.{«Type»}
use Rattle.rgo_typed.specs.Tree.{Term, Stmt, stmts_of, terms_of, Function, Typed}
use Rattle.rgo_typed.specs.Tree as tree
use Rattle.rgo_wellformed.specs.TypeRules.{int, bool, slice_of, pointer_to, Declared}
use Rattle.rgo_wellformed.specs.WellFormed.{Environment, InScope, IsStmt, AreStmts, IsWellFormed}

-- `type S struct { v int; next *S }`, `var count int`, `func f(n int) int`, `func g()`
abbrev pub declared_for_examples : Declared
declared_for_examples = record {
  structs = (int ∷ pointer_to 0 ∷ []) ∷ [];
  variables = int ∷ [];
  functions =
      record { params = int ∷ []; result_type = Some int } ∷ record { params = []; result_type = None } ∷ [];
}

-- in a function with an int result, whose local variables are 0 of type int, 1 bool, 2 []int, 3 *S
abbrev pub environment : Environment
environment = record {
  declared = declared_for_examples;
  locals = int ∷ bool ∷ slice_of int ∷ pointer_to 0 ∷ [];
  result_type = Some int;
  in_loop = false;
}

abbrev pub literal_seven : Term
literal_seven = tree.Apply (action.Int (pos 7)) tree.no_terms int 0

abbrev pub true_term : Term
true_term = tree.Apply (action.Bool true) tree.no_terms bool 0

abbrev pub nil : «Type» → Term
nil ty = tree.Apply action.Nil tree.no_terms ty 0

abbrev pub read_local : ℕ → Term
read_local n = tree.Local n

abbrev pub applied_term : Action → List Term → «Type» → Term
applied_term a parts ty = tree.Apply a (terms_of parts) ty 0

-- { x := 7 }
abbrev pub declaring_block : Stmt
declaring_block = tree.Block (stmts_of (tree.Declare 0 int literal_seven 0 ∷ []))

-- `+=` on the field v of local variable 3
abbrev pub add_to_field : Term → Stmt
add_to_field value = tree.Update (record {
  operands = terms_of (read_local 3 ∷ []);
  read = action.Load 0;
  ty = int;
  read_at = 0;
  op = Add;
  value = value;
  write = action.Store 0;
  at = 0;
})

-- with these variables in scope
abbrev pub Is : InScope → Stmt → Type 0
Is g s = IsStmt environment g s

abbrev pub Are : InScope → List Stmt → Type 0
Are g l = AreStmts environment g (stmts_of l)

abbrev pub IsNot : InScope → Stmt → Type 0
IsNot g s = Is g s → ⊥

abbrev pub AreNot : InScope → List Stmt → Type 0
AreNot g l = Are g l → ⊥

pub record WellFormedExamples : Type 0 where
  -- x := 7
  pub declared : Is [] (tree.Declare 0 int literal_seven 0)
  -- x = x + 7
  pub added : Is (0 ∷ []) (tree.Assign 0 (applied_term (action.Binary Add) (read_local 0 ∷ literal_seven ∷ []) int) 0)
  -- b = s == nil && x == 7
  pub compared : Is (0 ∷ 1 ∷ 2 ∷ []) (tree.Assign 1 (tree.Logic And (applied_term action.IsNil (read_local 2 ∷ []) bool)
      (applied_term (action.Binary Eq) (read_local 0 ∷ literal_seven ∷ []) bool) 0) 0)
  -- p = &S{next: p}
  pub built : Is (3 ∷ []) (tree.Assign 3 (tree.Build 0 (terms_of (read_local 3 ∷ [])) (1 ∷ []) 0) 0)
  -- p.next = nil
  pub stored : Is (3 ∷ []) (tree.Perform (action.Store 1) (terms_of (read_local 3 ∷ nil (pointer_to 0) ∷ [])) 0)
  -- p.v += 7
  pub updated : Is (3 ∷ []) (add_to_field literal_seven)
  -- return f(7)
  pub returned : Is [] (tree.Return (Some (tree.Call 0 (terms_of (literal_seven ∷ [])) int 0)) 0)
  -- go g()
  pub started : Is [] (tree.Go 1 tree.no_terms 0)
  -- for { break }
  pub left : Is [] (tree.Loop None (stmts_of (tree.Break 0 ∷ [])) tree.no_stmts 0)
  -- { x := 7 }; { x := 7 }
  pub again : Are [] (declaring_block ∷ declaring_block ∷ [])
  -- fmt.Println(x)
  pub printed : Is (0 ∷ []) (tree.Print (Value ∷ []) (terms_of (read_local 0 ∷ [])) 0)

pub record IllFormedExamples : Type 0 where
  -- a local variable that is not in scope, read or assigned, or no longer in scope after its block
  pub unread : IsNot [] (tree.Discard (read_local 0))
  pub undeclared : IsNot [] (tree.Assign 0 literal_seven 0)
  pub after_its_block : AreNot [] (declaring_block ∷ tree.Assign 0 literal_seven 0 ∷ [])
  -- declared while in scope, or with another type than its own
  pub twice : IsNot (0 ∷ []) (tree.Declare 0 int literal_seven 0)
  pub other_type : IsNot [] (tree.Declare 1 int literal_seven 0)
  -- a value of the wrong type; `nil` as an int
  pub bool_to_int : IsNot (0 ∷ []) (tree.Assign 0 true_term 0)
  pub nil_to_int : IsNot [] (tree.Declare 0 int (nil int) 0)
  -- operands of the wrong type; a comparison of slices
  pub bool_added : IsNot (1 ∷ []) (tree.Discard (applied_term (action.Binary Add) (read_local 1 ∷ literal_seven ∷ []) int))
  pub slices_compared : IsNot (2 ∷ []) (tree.Discard (applied_term (action.Binary Eq) (read_local 2 ∷ read_local 2 ∷ []) bool))
  pub int_and_bool : IsNot [] (tree.Discard (tree.Logic And literal_seven true_term 0))
  pub bool_added_to_field : IsNot (3 ∷ []) (add_to_field true_term)
  -- a condition that is not a bool
  pub int_condition : IsNot [] (tree.If literal_seven tree.no_stmts 0)
  pub int_loop : IsNot [] (tree.Loop (Some literal_seven) tree.no_stmts tree.no_stmts 0)
  -- a struct that does not exist
  pub no_struct : IsNot [] (tree.Discard (nil (pointer_to 1)))
  -- a field that does not exist; an int in the field next
  pub no_field : IsNot (3 ∷ []) (tree.Discard (applied_term (action.Load 2) (read_local 3 ∷ []) int))
  pub int_stored : IsNot (3 ∷ []) (tree.Perform (action.Store 1) (terms_of (read_local 3 ∷ literal_seven ∷ [])) 0)
  pub int_built : IsNot [] (tree.Discard (tree.Build 0 (terms_of (literal_seven ∷ [])) (1 ∷ []) 0))
  -- too few arguments; a function that does not exist; a call without result as a value, and `go` of one with a result
  pub no_argument : IsNot [] (tree.Discard (tree.Call 0 tree.no_terms int 0))
  pub no_function : IsNot [] (tree.Invoke 2 tree.no_terms 0)
  pub no_value : IsNot [] (tree.Discard (tree.Call 1 tree.no_terms int 0))
  pub with_result : IsNot [] (tree.Go 0 (terms_of (literal_seven ∷ [])) 0)
  -- a `return` without a value in a function with a result, or with one of the wrong type
  pub no_result : IsNot [] (tree.Return None 0)
  pub other_result : IsNot [] (tree.Return (Some true_term) 0)
  -- a `break` or `continue` outside a loop
  pub no_loop : IsNot [] (tree.Break 0)
  pub no_loop_to_continue : IsNot [] (tree.Continue 0)
  -- a pointer that is printed; a piece without its value
  pub pointer_printed : IsNot (3 ∷ []) (tree.Print (Value ∷ []) (terms_of (read_local 3 ∷ [])) 0)
  pub no_piece : IsNot [] (tree.Print (Value ∷ []) tree.no_terms 0)

-- ---- programs

-- a function without parameters and result, with these local variables
abbrev pub plain_function : List ℕ → List «Type» → List Stmt → Function
plain_function name locals body =
    record { name = name; params = 0; locals = locals; result_type = None; body = body; end = 0 }

abbrev pub of_functions : List Function → Typed
of_functions functions = record { structs = []; variables = []; functions = functions }

pub record ProgramExamples : Type 0 where
  -- func main() { x := 7; fmt.Println(x) }
  pub prints : IsWellFormed (of_functions (plain_function (codes "main") (int ∷ [])
      (tree.Declare 0 int literal_seven 0 ∷ tree.Print (Value ∷ []) (terms_of (read_local 0 ∷ [])) 0 ∷ []) ∷ []))
  -- no `main`, or one with a parameter
  pub no_main : IsWellFormed (of_functions (plain_function (codes "g") [] [] ∷ [])) → ⊥
  pub main_takes : IsWellFormed (of_functions (record {
    name = codes "main";
    params = 1;
    locals = int ∷ [];
    result_type = None;
    body = [];
    end = 0;
  } ∷ [])) → ⊥
  -- two functions with one name
  pub twice : IsWellFormed (of_functions (plain_function (codes "main") [] [] ∷ plain_function (codes "main") [] [] ∷ [])) → ⊥
  -- a local variable that points to a struct that does not exist
  pub no_struct : IsWellFormed (of_functions (plain_function (codes "main") (pointer_to 0 ∷ []) [] ∷ [])) → ⊥

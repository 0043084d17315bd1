-- Three-address code that is typed, and code that is not.
use Rattle.std.specs.Prelude.{ℕ, codes, pos, true, List, [], ◌∷◌, map, Option, Some, None}
use Rattle.rgo_typed.specs.declared.actions.Action.TheVariants as action
use Rattle.rgo_typed.specs.declared.statements.Piece.TheVariants.{Value}
use Rattle.rgo_typed.specs.declared.types.Type.{«Type»}
use Rattle.rgo_typed.specs.Tree as tree
use Rattle.rgo_typed.specs.Tree.{Typed, terms_of}
use Rattle.rgo_wellformed.specs.TypeRules.{int}
use Rattle.rgo_wellformed.specs.Examples.{plain_function, literal_seven, read_local, of_functions}
use Rattle.rgo_tac.specs.Code.{Op, TacFn, Tac, Do, Call, Go, Print, Jump, Return}
use Rattle.rgo_lower.specs.Lowered.{IsLowered}
use Rattle.rgo_code.specs.TypedCode.{IsTypedCode}

-- func main() { x := 7; fmt.Println(x) }
abbrev pub prints_seven : Typed
prints_seven = of_functions (plain_function (codes "main") (int ∷ [])
    (tree.Declare 0 int literal_seven 0 ∷ tree.Print (Value ∷ []) (terms_of (read_local 0 ∷ [])) 0 ∷ []) ∷ [])

-- a function without parameters, with these variables and instructions
abbrev pub fn_of_ops : List ℕ → Option «Type» → List «Type» → List Op → TacFn
fn_of_ops name result_type variables ops = record {
  name = name;
  params = 0;
  result_type = result_type;
  variables = variables;
  body = map (λ op. record { op = op; place = 0 }) ops;
}

abbrev pub code_of_functions : List TacFn → Tac
code_of_functions functions = record { structs = []; variables = []; functions = functions }

-- the function `main` alone, with one variable of type int
abbrev pub main_of_ops : List Op → Tac
main_of_ops ops = code_of_functions (fn_of_ops (codes "main") None (int ∷ []) ops ∷ [])

-- `main` with one instruction before its end, and a function with a result, which jumps to itself
abbrev pub main_and_int_function : Op → Tac
main_and_int_function op = code_of_functions (fn_of_ops (codes "main") None [] (op ∷ Return None ∷ [])
    ∷ fn_of_ops (codes "g") (Some int) [] (Jump 0 ∷ []) ∷ [])

-- the code of the program above
abbrev pub prints_code : Tac
prints_code = code_of_functions (fn_of_ops (codes "main") None (int ∷ int ∷ [])
    (Do (Some 0) (action.Int (pos 7)) [] ∷ Do (Some 1) action.Copy (0 ∷ []) ∷ Print (Value ∷ []) (1 ∷ [])
    ∷ Return None ∷ []) ∷ [])

abbrev pub IsUntyped : Tac → Type 0
IsUntyped code = IsTypedCode code → ⊥

pub record TypedExamples : Type 0 where
  pub is_lowered : IsLowered prints_seven prints_code
  pub typed : IsTypedCode prints_code
  -- no `main`, and no instruction
  pub no_main : IsUntyped (code_of_functions (fn_of_ops (codes "g") None [] (Return None ∷ []) ∷ []))
  pub no_instr : IsUntyped (main_of_ops [])
  -- the last instruction is followed by another, or a jump leads to none
  pub no_end : IsUntyped (main_of_ops (Do (Some 0) (action.Int (pos 7)) [] ∷ []))
  pub no_target : IsUntyped (main_of_ops (Jump 1 ∷ []))
  -- a variable that does not exist, or that is read before it is written
  pub no_variable : IsUntyped (main_of_ops (Do (Some 1) (action.Int (pos 7)) [] ∷ Return None ∷ []))
  pub unwritten : IsUntyped (main_of_ops (Print (Value ∷ []) (0 ∷ []) ∷ Return None ∷ []))
  -- a bool in a variable of type int; a call of a function with a result that has no target, and its start
  pub other_type : IsUntyped (main_of_ops (Do (Some 0) (action.Bool true) [] ∷ Return None ∷ []))
  pub no_call_target : IsUntyped (main_and_int_function (Call None 1 []))
  pub started : IsUntyped (main_and_int_function (Go 1 []))

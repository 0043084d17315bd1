-- The three-address code of the programs, written out. That it is their code is proved in Lowered.antt.
use Rattle.std.specs.Prelude.{ℕ, codes, pos, true, List, [], ◌∷◌, Option, Some, None}
use Rattle.rgo_ast.specs.declared.ops.BinaryOp.TheVariants.{Add, Eq, Lt, Sub}
use Rattle.rgo_typed.specs.declared.actions.Action.TheVariants as action
use Rattle.rgo_typed.specs.declared.programs.Struct.{Struct}
use Rattle.rgo_typed.specs.declared.statements.Piece.TheVariants as piece
use Rattle.rgo_typed.specs.declared.types.Type.{«Type»}
use Rattle.rgo_wellformed.specs.TypeRules.{int, bool, pointer_to, chan_of}
use Rattle.rgo_tac.specs.Code.{Op, Do, Call, Go, Print, Jump, Branch, Return, Instr, TacFn, Tac}
use Rattle.rgo_claim_examples.specs.Programs.{node, tree_node}

abbrev pub at : (place : ℕ) → Op → Instr
at place op = record { op = op; place = place }

abbrev pub code_fn : List ℕ → (params : ℕ) → Option «Type» → List «Type» → List Instr → TacFn
code_fn name params result_type variables body = record {
  name = name;
  params = params;
  result_type = result_type;
  variables = variables;
  body = body;
}

abbrev pub code_of : List Struct → List TacFn → Tac
code_of structs functions = record { structs = structs; variables = []; functions = functions }

-- the code of `one_object`
abbrev pub one_object_code : Tac
one_object_code = code_of (node ∷ []) (
    code_fn (codes "main") 0 None (pointer_to 0 ∷ pointer_to 0 ∷ int ∷ []) (
    at 94 (Do (Some 0) (action.New 0) [])
    ∷ at 91 (Do (Some 1) action.Copy (0 ∷ []))
    ∷ at 119 (Do (Some 2) (action.Load 0) (1 ∷ []))
    ∷ at 116 (Print (piece.Value ∷ []) (2 ∷ []))
    ∷ at 126 (Return None) ∷ []) ∷ [])

-- the code of `linked_list`
abbrev pub linked_list_code : Tac
linked_list_code = code_of (node ∷ []) (
    code_fn (codes "main") 0 None (
    pointer_to 0 ∷ int ∷ int ∷ int ∷ bool ∷ pointer_to 0 ∷ int ∷ int ∷ int ∷ int ∷ bool ∷ bool ∷ int ∷ int
    ∷ pointer_to 0 ∷ []) (
    at 93 (Do (Some 0) action.Nil [])
    ∷ at 114 (Do (Some 1) (action.Int (pos 1)) [])
    ∷ at 111 (Do (Some 2) action.Copy (1 ∷ []))
    ∷ at 121 (Do (Some 3) (action.Int (pos 4)) [])
    ∷ at 119 (Do (Some 4) (action.Binary Lt) (2 ∷ 3 ∷ []))
    ∷ at 105 (Branch 4 6 14)
    ∷ at 139 (Do (Some 5) (action.New 0) [])
    ∷ at 139 (Do None (action.Store 0) (5 ∷ 2 ∷ []))
    ∷ at 139 (Do None (action.Store 1) (5 ∷ 0 ∷ []))
    ∷ at 137 (Do (Some 0) action.Copy (5 ∷ []))
    ∷ at 125 (Do (Some 6) (action.Int (pos 1)) [])
    ∷ at 125 (Do (Some 7) (action.Binary Add) (2 ∷ 6 ∷ []))
    ∷ at 125 (Do (Some 2) action.Copy (7 ∷ []))
    ∷ at 105 (Jump 3)
    ∷ at 165 (Do (Some 8) (action.Int (pos 0)) [])
    ∷ at 162 (Do (Some 9) action.Copy (8 ∷ []))
    ∷ at 177 (Do (Some 10) action.IsNil (0 ∷ []))
    ∷ at 177 (Do (Some 11) action.Not (10 ∷ []))
    ∷ at 168 (Branch 11 19 25)
    ∷ at 200 (Do (Some 12) (action.Load 0) (0 ∷ []))
    ∷ at 192 (Do (Some 13) (action.Binary Add) (9 ∷ 12 ∷ []))
    ∷ at 192 (Do (Some 9) action.Copy (13 ∷ []))
    ∷ at 220 (Do (Some 14) (action.Load 1) (0 ∷ []))
    ∷ at 213 (Do (Some 0) action.Copy (14 ∷ []))
    ∷ at 168 (Jump 16)
    ∷ at 240 (Print (piece.Value ∷ []) (9 ∷ []))
    ∷ at 246 (Return None) ∷ []) ∷ [])

-- the code of `binary_tree`
abbrev pub binary_tree_code : Tac
binary_tree_code = code_of (tree_node ∷ []) (
    code_fn (codes "build") 1 (Some (pointer_to 0)) (
    int ∷ int ∷ bool ∷ pointer_to 0 ∷ int ∷ int ∷ pointer_to 0 ∷ int ∷ int ∷ pointer_to 0 ∷ pointer_to 0 ∷ []) (
    at 119 (Do (Some 1) (action.Int (pos 0)) [])
    ∷ at 116 (Do (Some 2) (action.Binary Eq) (0 ∷ 1 ∷ []))
    ∷ at 107 (Branch 2 3 5)
    ∷ at 132 (Do (Some 3) action.Nil [])
    ∷ at 125 (Return (Some 3))
    ∷ at 167 (Do (Some 4) (action.Int (pos 1)) [])
    ∷ at 165 (Do (Some 5) (action.Binary Sub) (0 ∷ 4 ∷ []))
    ∷ at 158 (Call (Some 6) 0 (5 ∷ []))
    ∷ at 185 (Do (Some 7) (action.Int (pos 1)) [])
    ∷ at 183 (Do (Some 8) (action.Binary Sub) (0 ∷ 7 ∷ []))
    ∷ at 176 (Call (Some 9) 0 (8 ∷ []))
    ∷ at 147 (Do (Some 10) (action.New 0) [])
    ∷ at 147 (Do None (action.Store 0) (10 ∷ 6 ∷ []))
    ∷ at 147 (Do None (action.Store 1) (10 ∷ 9 ∷ []))
    ∷ at 140 (Return (Some 10))
    ∷ at 189 (Jump 15) ∷ [])
    ∷ code_fn (codes "count") 1 (Some int) (
    pointer_to 0 ∷ bool ∷ int ∷ int ∷ pointer_to 0 ∷ int ∷ int ∷ pointer_to 0 ∷ int ∷ int ∷ []) (
    at 230 (Do (Some 1) action.IsNil (0 ∷ []))
    ∷ at 222 (Branch 1 2 4)
    ∷ at 248 (Do (Some 2) (action.Int (pos 0)) [])
    ∷ at 241 (Return (Some 2))
    ∷ at 261 (Do (Some 3) (action.Int (pos 1)) [])
    ∷ at 276 (Do (Some 4) (action.Load 0) (0 ∷ []))
    ∷ at 270 (Call (Some 5) 1 (4 ∷ []))
    ∷ at 263 (Do (Some 6) (action.Binary Add) (3 ∷ 5 ∷ []))
    ∷ at 295 (Do (Some 7) (action.Load 1) (0 ∷ []))
    ∷ at 289 (Call (Some 8) 1 (7 ∷ []))
    ∷ at 282 (Do (Some 9) (action.Binary Add) (6 ∷ 8 ∷ []))
    ∷ at 254 (Return (Some 9))
    ∷ at 302 (Jump 12) ∷ [])
    ∷ code_fn (codes "main") 0 None (int ∷ pointer_to 0 ∷ int ∷ []) (
    at 344 (Do (Some 0) (action.Int (pos 2)) [])
    ∷ at 343 (Call (Some 1) 0 (0 ∷ []))
    ∷ at 337 (Call (Some 2) 1 (1 ∷ []))
    ∷ at 331 (Print (piece.Value ∷ []) (2 ∷ []))
    ∷ at 349 (Return None) ∷ []) ∷ [])

-- the code of `sender`
abbrev pub sender_code : Tac
sender_code = code_of [] (
    code_fn (codes "send") 1 None (chan_of int ∷ int ∷ []) (
    at 58 (Do (Some 1) (action.Int (pos 7)) [])
    ∷ at 55 (Do None action.Send (0 ∷ 1 ∷ []))
    ∷ at 60 (Return None) ∷ [])
    ∷ code_fn (codes "main") 0 None (int ∷ chan_of int ∷ chan_of int ∷ int ∷ []) (
    at 83 (Do (Some 0) (action.Int (pos 0)) [])
    ∷ at 83 (Do (Some 1) action.Chan (0 ∷ []))
    ∷ at 80 (Do (Some 2) action.Copy (1 ∷ []))
    ∷ at 99 (Go 0 (2 ∷ []))
    ∷ at 123 (Do (Some 3) action.Recv (2 ∷ []))
    ∷ at 122 (Print (piece.Value ∷ []) (3 ∷ []))
    ∷ at 128 (Return None) ∷ []) ∷ [])

-- the code of `endless`
abbrev pub endless_code : Tac
endless_code = code_of [] (
    code_fn (codes "main") 0 None [] (
    at 29 (Jump 0)
    ∷ at 38 (Return None) ∷ []) ∷ [])

-- the code of `no_object`
abbrev pub no_object_code : Tac
no_object_code = code_of [] (
    code_fn (codes "main") 0 None (bool ∷ []) (
    at 55 (Do (Some 0) (action.Bool true) [])
    ∷ at 54 (Print (piece.Value ∷ []) (0 ∷ []))
    ∷ at 61 (Return None) ∷ []) ∷ [])

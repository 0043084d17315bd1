-- Small programs as typed trees, with the places that their nodes have in a text in the usual layout. The texts are in Texts.antt;
-- written as trees, programs can be used where a text would have to be lexed and parsed first.
use Rattle.std.specs.Prelude.{ℕ, codes, pos, true, List, [], ◌∷◌, Option, Some, None}
use Rattle.rgo_ast.specs.declared.ops.BinaryOp.TheVariants.{Add, Eq, Lt, Sub}
use Rattle.rgo_typed.specs.declared.actions.Action.{Action}
use Rattle.rgo_typed.specs.declared.actions.Action.TheVariants as action
use Rattle.rgo_typed.specs.declared.programs.Struct.{Struct}
use Rattle.rgo_typed.specs.declared.statements.Piece.TheVariants as piece
use Rattle.rgo_typed.specs.declared.types.Type.{«Type»}
use Rattle.rgo_typed.specs.Tree as tree
use Rattle.rgo_typed.specs.Tree.{Term, Stmt, stmts_of, terms_of, Function, Typed}
use Rattle.rgo_wellformed.specs.TypeRules.{int, bool, pointer_to, chan_of}

-- ---- parts

abbrev pub local_term : ℕ → Term
local_term n = tree.Local n

abbrev pub apply : Action → List Term → «Type» → (place : ℕ) → Term
apply action parts ty place = tree.Apply action (terms_of parts) ty place

abbrev pub number : ℕ → (place : ℕ) → Term
number n place = apply (action.Int (pos n)) [] int place

-- an object of a struct, with values for these fields
abbrev pub build_term : (struct : ℕ) → List Term → (fields : List ℕ) → (place : ℕ) → Term
build_term n parts fields place = tree.Build n (terms_of parts) fields place

abbrev pub call : (function : ℕ) → List Term → «Type» → (place : ℕ) → Term
call n arguments ty place = tree.Call n (terms_of arguments) ty place

abbrev pub example_function : List ℕ → (params : ℕ) → List «Type» → Option «Type» → List Stmt → (end : ℕ) → Function
example_function name params locals result_type body end = record {
  name = name;
  params = params;
  locals = locals;
  result_type = result_type;
  body = body;
  end = end;
}

abbrev pub example_program : List Struct → List Function → Typed
example_program structs functions = record { structs = structs; variables = []; functions = functions }

-- type Node struct { value int; next *Node }
abbrev pub node : Struct
node = record { name = codes "Node"; fields = int ∷ pointer_to 0 ∷ [] }

-- type Tree struct { left *Tree; right *Tree }
abbrev pub tree_node : Struct
tree_node = record { name = codes "Tree"; fields = pointer_to 0 ∷ pointer_to 0 ∷ [] }

abbrev pub print : Term → (place : ℕ) → Stmt
print t place = tree.Print (piece.Value ∷ []) (terms_of (t ∷ [])) place

-- ---- an object

-- func main() { x := new(Node); fmt.Println(x.value) }
abbrev pub one_object : Typed
one_object = example_program (node ∷ []) (example_function (codes "main") 0 (pointer_to 0 ∷ []) None (
    tree.Declare 0 (pointer_to 0) (apply (action.New 0) [] (pointer_to 0) 94) 91
    ∷ print (apply (action.Load 0) (local_term 0 ∷ []) int 119) 116 ∷ []) 126 ∷ [])

-- ---- a list

-- for i := 1; i < 4; i++ { list = &Node{i, list} }
abbrev pub list_loop : Stmt
list_loop = tree.Block (stmts_of (
    tree.Declare 1 int (number 1 114) 111
    ∷ tree.Loop (Some (apply (action.Binary Lt) (local_term 1 ∷ number 4 121 ∷ []) bool 119))
    (stmts_of (tree.Assign 0 (build_term 0 (local_term 1 ∷ local_term 0 ∷ []) (0 ∷ 1 ∷ []) 139) 137 ∷ []))
    (stmts_of (tree.Assign 1 (apply (action.Binary Add) (local_term 1 ∷ number 1 125 ∷ []) int 125) 125 ∷ [])) 105 ∷ []))

-- for list != nil { sum += list.value; list = list.next }
abbrev pub sum_loop : Stmt
sum_loop =
    tree.Loop (Some (apply action.Not (apply action.IsNil (local_term 0 ∷ []) bool 177 ∷ []) bool 177)) (stmts_of (
    tree.Assign 2
    (apply (action.Binary Add) (local_term 2 ∷ apply (action.Load 0) (local_term 0 ∷ []) int 200 ∷ []) int 192) 192
    ∷ tree.Assign 0 (apply (action.Load 1) (local_term 0 ∷ []) (pointer_to 0) 220) 213 ∷ [])) tree.no_stmts 168

-- The list of 3, 2 and 1, built and summed:
-- func main() { var list *Node; for ..; sum := 0; for ..; fmt.Println(sum) }
abbrev pub linked_list : Typed
linked_list = example_program (node ∷ []) (example_function (codes "main") 0 (pointer_to 0 ∷ int ∷ int ∷ []) None (
    tree.Zero 0 (pointer_to 0) 93
    ∷ list_loop
    ∷ tree.Declare 2 int (number 0 165) 162
    ∷ sum_loop
    ∷ print (local_term 2) 240 ∷ []) 246 ∷ [])

-- ---- a tree

-- build(depth - 1)
abbrev pub built_subtree : (call_at minus_at one_at : ℕ) → Term
built_subtree call_at minus_at one_at =
    call 0 (apply (action.Binary Sub) (local_term 0 ∷ number 1 one_at ∷ []) int minus_at ∷ []) (pointer_to 0) call_at

-- func build(depth int) *Tree { if depth == 0 { return nil }; return &Tree{build(depth - 1), build(depth - 1)} }
abbrev pub build_function : Function
build_function = example_function (codes "build") 1 (int ∷ []) (Some (pointer_to 0)) (
    tree.If (apply (action.Binary Eq) (local_term 0 ∷ number 0 119 ∷ []) bool 116)
    (stmts_of (tree.Return (Some (apply action.Nil [] (pointer_to 0) 132)) 125 ∷ [])) 107
    ∷ tree.Return (Some (build_term 0 (built_subtree 158 165 167 ∷ built_subtree 176 183 185 ∷ []) (0 ∷ 1 ∷ []) 147)) 140 ∷ []) 189

-- count of the field of this number
abbrev pub counted_subtree : (field call_at field_at : ℕ) → Term
counted_subtree field call_at field_at =
    call 1 (apply (action.Load field) (local_term 0 ∷ []) (pointer_to 0) field_at ∷ []) int call_at

-- func count(tree *Tree) int { if tree == nil { return 0 }; return 1 + count(tree.left) + count(tree.right) }
abbrev pub count_function : Function
count_function = example_function (codes "count") 1 (pointer_to 0 ∷ []) (Some int) (
    tree.If (apply action.IsNil (local_term 0 ∷ []) bool 230)
    (stmts_of (tree.Return (Some (number 0 248)) 241 ∷ [])) 222
    ∷ tree.Return (Some (apply (action.Binary Add) (
    apply (action.Binary Add) (number 1 261 ∷ counted_subtree 0 270 276 ∷ []) int 263
    ∷ counted_subtree 1 289 295 ∷ []) int 282)) 254 ∷ []) 302

-- A tree of three nodes, built and counted: func main() { fmt.Println(count(build(2))) }
abbrev pub binary_tree : Typed
binary_tree = example_program (tree_node ∷ []) (
    build_function
    ∷ count_function
    ∷ example_function (codes "main") 0 [] None (
    print (call 1 (call 0 (number 2 344 ∷ []) (pointer_to 0) 343 ∷ []) int 337) 331 ∷ []) 349 ∷ [])

-- ---- goroutines

-- A goroutine that sends, and one that receives:
-- func send(c chan int) { c <- 7 }
-- func main() { c := make(chan int); go send(c); fmt.Println(<-c) }
abbrev pub sender : Typed
sender = example_program [] (
    example_function (codes "send") 1 (chan_of int ∷ []) None (
    tree.Perform action.Send (terms_of (local_term 0 ∷ number 7 58 ∷ [])) 55 ∷ []) 60
    ∷ example_function (codes "main") 0 (chan_of int ∷ []) None (
    tree.Declare 0 (chan_of int) (apply action.Chan (number 0 83 ∷ []) (chan_of int) 83) 80
    ∷ tree.Go 0 (terms_of (local_term 0 ∷ [])) 99
    ∷ print (apply action.Recv (local_term 0 ∷ []) int 123) 122 ∷ []) 128 ∷ [])

-- ---- no object

-- func main() { fmt.Println(true) }
abbrev pub no_object : Typed
no_object =
    example_program [] (example_function (codes "main") 0 [] None (print (apply (action.Bool true) [] bool 55) 54 ∷ []) 61 ∷ [])

-- ---- no end

-- func main() { for {} }
abbrev pub endless : Typed
endless = example_program [] (example_function (codes "main") 0 [] None (
    tree.Loop None tree.no_stmts tree.no_stmts 29 ∷ []) 38 ∷ [])

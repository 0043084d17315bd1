-- Places of trees in a text: the one at which a fault of the tree is reported, and that of its first byte. They differ so that a fault
-- of an operation is at its operator, and one of a part of it is somewhere else.
use Rattle.std.specs.Prelude.{ℕ}
use Rattle.rgo_ast.specs.Tree.{TypeExpr, Named, Pointer, Slice, Chan, Expr, Select, Index, Called, Binary}
use Rattle.rgo_ast.specs.Tree.{Number, Text, Name, Paren, New, MakeSlice, MakeChan, Unary, Literal, Keyed}
use Rattle.rgo_ast.specs.Tree.{Stmt, Block, Plain, Send, Step, Assign, Define}
use Rattle.rgo_ast.specs.Tree.{If, For, Go, Var, Return, Break, Continue}

-- a type's first token
abbrev pub ty_place_of : TypeExpr → ℕ
ty_place_of (Named name) = name.at
ty_place_of (Pointer name at) = at
ty_place_of (Slice ty at) = at
ty_place_of (Chan ty at) = at

-- of a binary operation its operator, of a call its `(`, of an index its `[`, of a selector its
-- field, and else the first token
abbrev pub place_of : Expr → ℕ
place_of (Number n at) = at
place_of (Text bytes at) = at
place_of (Name name) = name.at
place_of (Paren e at) = at
place_of (New name at) = at
place_of (MakeSlice ty e at) = at
place_of (MakeChan ty room at) = at
place_of (Select e field) = field.at
place_of (Index a b at) = at
place_of (Called f args at) = at
place_of (Unary op e at) = at
place_of (Binary op a b at) = at
place_of (Literal name values at) = at
place_of (Keyed name values at) = at

-- an expression's first token
abbrev pub start_of : Expr → ℕ
start_of (Select e field) = start_of e
start_of (Index a b at) = start_of a
start_of (Called f args at) = start_of f
start_of (Binary op a b at) = start_of a
start_of e = place_of e

-- an expression's place; of other statements the operator, if there is one, or the first token
abbrev pub stmt_place_of : Stmt → ℕ
stmt_place_of (Block all at) = at
stmt_place_of (Plain e) = place_of e
stmt_place_of (Send a b at) = at
stmt_place_of (Step op e at) = at
stmt_place_of (Assign op a b at) = at
stmt_place_of (Define name e at) = at
stmt_place_of (If init test body other at) = at
stmt_place_of (For init test post body at) = at
stmt_place_of (Go name args at) = at
stmt_place_of (Var vars at) = at
stmt_place_of (Return value at) = at
stmt_place_of (Break at) = at
stmt_place_of (Continue at) = at

-- a statement's first token
abbrev pub stmt_start_of : Stmt → ℕ
stmt_start_of (Plain e) = start_of e
stmt_start_of (Send a b at) = start_of a
stmt_start_of (Step op e at) = start_of e
stmt_start_of (Assign op a b at) = start_of a
stmt_start_of (Define name e at) = name.at
stmt_start_of s = stmt_place_of s

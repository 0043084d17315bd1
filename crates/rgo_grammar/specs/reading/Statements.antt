-- Reading statements.
use Rattle.std.specs.Prelude.{ℕ, zero, suc, true, false, List, [], ◌∷◌, Option, Some, None}
use Rattle.rgo_ast.specs.declared.ops.AssignOp.TheVariants as assign_op
use Rattle.rgo_ast.specs.Tree as tree
use Rattle.rgo_ast.specs.Tree.{exprs_of, stmts_of, clause_of}
use Rattle.rgo_lexer.specs.{declared.terminals.Terminal.{Terminal, TheVariants.{Name, Arrow, Define, Assign, Step, OpenParen}}, declared.terminals.Terminal.TheVariants.{CloseParen, OpenBrace, CloseBrace, Comma}, declared.terminals.Terminal.TheVariants.{Semicolon, Var, Go, If, Else, For, Return, Break}, declared.terminals.Terminal.TheVariants.{Continue}, Lexemes.{Leaf, Lexeme, ident}}
use Rattle.rgo_grammar.specs.reading.{Read.{Reader, Read, Done, Failed, At, Starving, ◌>>=◌, yielding, next_lexeme, token, listed, several}, Read.{Reader, single}, Types.{a_type, typed_names, binding_with}, Expressions.{expr, exprs}}

-- Below, `value` reads an expression: that of a header if the statement is part of one.

-- the rest of a simple statement after its first expression
abbrev pub simple_by : Reader tree.Expr → tree.Expr → Terminal → Leaf → List Lexeme
    → List Lexeme → Read tree.Stmt
simple_by value a Arrow i l m = value m >>= yielding (λ b. tree.Send a b i.at)
simple_by value a (Step o) i l m = Done (tree.Step o a i.at) m
simple_by value a (Assign o) i l m = value m >>= yielding (λ b. tree.Assign o a b i.at)
simple_by value a _ i l m = Done (tree.Plain a) l

abbrev pub simple_on : Reader tree.Expr → tree.Expr → List Lexeme
    → Option (Lexeme × List Lexeme) → Read tree.Stmt
simple_on value a l None = Done (tree.Plain a) l
simple_on value a l (Some x) = simple_by value a x.0.terminal x.0.leaf l x.1

-- a simple statement that begins with an expression
abbrev pub valued : Reader tree.Expr → List Lexeme → Read tree.Stmt
valued value l = value l >>= λ a w. simple_on value a w (next_lexeme w)

-- after a name that begins a statement
abbrev pub named_by : Reader tree.Expr → Leaf → Terminal → Leaf → List Lexeme
    → List Lexeme → Read tree.Stmt
named_by value i Define j l m = value m >>= yielding (λ v. tree.Define (ident i) v j.at)
named_by value i _ j l m = valued value l

abbrev pub named_on : Reader tree.Expr → Leaf → List Lexeme
    → Option (Lexeme × List Lexeme) → Read tree.Stmt
named_on value i l None = valued value l
named_on value i l (Some x) = named_by value i x.0.terminal x.0.leaf l x.1

abbrev pub defining_by : Reader tree.Expr → Terminal → Leaf → List Lexeme
    → List Lexeme → Read tree.Stmt
defining_by value Name i l m = named_on value i l (next_lexeme m)
defining_by value _ i l m = valued value l

abbrev pub defining_on : Reader tree.Expr → List Lexeme
    → Option (Lexeme × List Lexeme) → Read tree.Stmt
defining_on value l None = Failed (At l)
defining_on value l (Some x) = defining_by value x.0.terminal x.0.leaf l x.1

-- a simple statement that may be a definition
abbrev pub defining : Reader tree.Expr → List Lexeme → Read tree.Stmt
defining value l = defining_on value l (next_lexeme l)

-- after the name of a single local variable and its type
abbrev pub initial_by : Reader tree.Expr → Leaf → tree.TypeExpr → Terminal → Leaf → List Lexeme
    → List Lexeme → Read tree.LocalVar
initial_by value i t (Assign assign_op.Plain) j l m =
    value m >>= yielding (λ v. tree.Typed (ident i) t v j.at)
initial_by value i t _ j l m = Done (tree.Zero (binding_with (ident i ∷ []) t)) l

abbrev pub initial : Reader tree.Expr → Leaf → tree.TypeExpr → List Lexeme
    → Option (Lexeme × List Lexeme) → Read tree.LocalVar
initial value i t l None = Done (tree.Zero (binding_with (ident i ∷ []) t)) l
initial value i t l (Some x) = initial_by value i t x.0.terminal x.0.leaf l x.1

-- after the first name of a declaration of local variables
abbrev pub local_var_by : ℕ → Reader tree.Expr → Leaf → Terminal → Leaf → List Lexeme
    → List Lexeme → Read tree.LocalVar
local_var_by n value i Comma j l m = typed_names n (ident i ∷ []) l >>= yielding tree.Zero
local_var_by n value i (Assign assign_op.Plain) j l m =
    value m >>= yielding (λ v. tree.Inferred (ident i) v j.at)
local_var_by n value i _ j l m = a_type n l >>= λ t w. initial value i t w (next_lexeme w)

abbrev pub local_var_on : ℕ → Reader tree.Expr → Leaf → List Lexeme
    → Option (Lexeme × List Lexeme) → Read tree.LocalVar
local_var_on n value i l None = Failed (At l)
local_var_on n value i l (Some x) = local_var_by n value i x.0.terminal x.0.leaf l x.1

abbrev pub local_var : ℕ → Reader tree.Expr → List Lexeme → Read tree.LocalVar
local_var n value l = token Name l >>= λ i w. local_var_on n value i w (next_lexeme w)

-- after `var`
abbrev pub vars_by : ℕ → Reader tree.Expr → Terminal → List Lexeme → List Lexeme
    → Read (List tree.LocalVar)
vars_by n value OpenParen l m =
    several Semicolon CloseParen (local_var n value) n [] m >>= yielding (λ x. x.0)
vars_by n value _ l m = single (local_var n value l)

abbrev pub vars_on : ℕ → Reader tree.Expr → List Lexeme → Option (Lexeme × List Lexeme)
    → Read (List tree.LocalVar)
vars_on n value l None = Failed (At l)
vars_on n value l (Some x) = vars_by n value x.0.terminal l x.1

abbrev pub vars : ℕ → Reader tree.Expr → Leaf → List Lexeme → Read tree.Stmt
vars n value i l = vars_on n value l (next_lexeme l) >>= yielding (λ vs. tree.Var vs i.at)

-- after `return`
abbrev pub return_by : Reader tree.Expr → Leaf → Terminal → List Lexeme → Read tree.Stmt
return_by value i Semicolon l = Done (tree.Return None i.at) l
return_by value i CloseBrace l = Done (tree.Return None i.at) l
return_by value i _ l = value l >>= yielding (λ v. tree.Return (Some v) i.at)

abbrev pub return_on : Reader tree.Expr → Leaf → List Lexeme
    → Option (Lexeme × List Lexeme) → Read tree.Stmt
return_on value i l None = Failed (At l)
return_on value i l (Some x) = return_by value i x.0.terminal l

-- after `go`
abbrev pub going : ℕ → Reader tree.Expr → Leaf → List Lexeme → Read tree.Stmt
going n value i l =
    token Name l >>= λ j w. token OpenParen w >>= λ _ u. exprs CloseParen n value u >>= yielding
    (λ x. tree.Go (ident j) (exprs_of x.0) i.at)

-- The header of an `if` or `for`, up to its block or its first `;`: a simple statement before a
-- `;`, or an expression before a block.
pub data Head : Type 0 where
  condition : tree.Expr → Head
  init : Option tree.Stmt → Head

abbrev pub head_before_block : tree.Stmt → List Lexeme → Read Head
head_before_block (tree.Plain v) l = Done (condition v) l
head_before_block _ l = Failed (At l)

abbrev pub head_end_by : tree.Stmt → Terminal → List Lexeme → List Lexeme → Read Head
head_end_by s OpenBrace l m = head_before_block s l
head_end_by s Semicolon l m = Done (init (Some s)) m
head_end_by s _ l m = Failed (At l)

abbrev pub head_end_on : tree.Stmt → List Lexeme → Option (Lexeme × List Lexeme) → Read Head
head_end_on s l None = Failed (At l)
head_end_on s l (Some x) = head_end_by s x.0.terminal l x.1

abbrev pub head_by : Reader tree.Expr → Terminal → List Lexeme → List Lexeme → Read Head
head_by value Semicolon l m = Done (init None) m
head_by value _ l m = defining value l >>= λ s w. head_end_on s w (next_lexeme w)

abbrev pub head_on : Reader tree.Expr → List Lexeme → Option (Lexeme × List Lexeme) → Read Head
head_on value l None = Failed (At l)
head_on value l (Some x) = head_by value x.0.terminal l x.1

abbrev pub head : Reader tree.Expr → List Lexeme → Read Head
head value l = head_on value l (next_lexeme l)

-- Below, `block` reads a block from its `{` on.

-- `else` and what follows it; `again` reads an `if` after its keyword
abbrev pub else_body_by : Reader (List tree.Stmt × Leaf) → (Leaf → Reader tree.Stmt) → Terminal
    → Leaf → List Lexeme → List Lexeme → Read (Option tree.Stmt)
else_body_by block again If i l m = again i m >>= yielding (λ s. Some s)
else_body_by block again _ i l m = block l >>= yielding (λ b. Some (tree.Block (stmts_of b.0) i.at))

abbrev pub else_body_on : Reader (List tree.Stmt × Leaf) → (Leaf → Reader tree.Stmt) → List Lexeme
    → Option (Lexeme × List Lexeme) → Read (Option tree.Stmt)
else_body_on block again l None = Failed (At l)
else_body_on block again l (Some x) = else_body_by block again x.0.terminal x.0.leaf l x.1

abbrev pub else_by : Reader (List tree.Stmt × Leaf) → (Leaf → Reader tree.Stmt) → Terminal
    → List Lexeme → List Lexeme → Read (Option tree.Stmt)
else_by block again Else l m = else_body_on block again m (next_lexeme m)
else_by block again _ l m = Done None l

abbrev pub else_on : Reader (List tree.Stmt × Leaf) → (Leaf → Reader tree.Stmt) → List Lexeme
    → Option (Lexeme × List Lexeme) → Read (Option tree.Stmt)
else_on block again l None = Done None l
else_on block again l (Some x) = else_by block again x.0.terminal l x.1

-- from the block of an `if` on
abbrev pub branches : Reader (List tree.Stmt × Leaf) → (Leaf → Reader tree.Stmt) → Leaf
    → Option tree.Stmt → tree.Expr → List Lexeme → Read tree.Stmt
branches block again i s c l =
    block l >>= λ b w. else_on block again w (next_lexeme w) >>= yielding
    (λ e. tree.If (clause_of s) c (stmts_of b.0) (clause_of e) i.at)

abbrev pub if_rest : Reader (List tree.Stmt × Leaf) → (Leaf → Reader tree.Stmt) → Reader tree.Expr
    → Leaf → Head → List Lexeme → Read tree.Stmt
if_rest block again value i (condition c) l = branches block again i None c l
if_rest block again value i (init s) l = value l >>= branches block again i s

-- the condition of a `for` and the `;` after it
abbrev pub condition_by : Reader tree.Expr → Terminal → List Lexeme → List Lexeme
    → Read (Option tree.Expr)
condition_by value Semicolon l m = Done None m
condition_by value _ l m = value l >>= λ v w. token Semicolon w >>= yielding (λ _. Some v)

abbrev pub condition_on : Reader tree.Expr → List Lexeme → Option (Lexeme × List Lexeme)
    → Read (Option tree.Expr)
condition_on value l None = Failed (At l)
condition_on value l (Some x) = condition_by value x.0.terminal l x.1

-- the post statement of a `for`, up to the block; it is read as a statement that may not be a definition
abbrev pub post_stmt_by : Reader tree.Expr → Terminal → List Lexeme → Read (Option tree.Stmt)
post_stmt_by value OpenBrace l = Done None l
post_stmt_by value _ l = valued value l >>= yielding (λ s. Some s)

abbrev pub post_stmt_on : Reader tree.Expr → List Lexeme → Option (Lexeme × List Lexeme)
    → Read (Option tree.Stmt)
post_stmt_on value l None = Failed (At l)
post_stmt_on value l (Some x) = post_stmt_by value x.0.terminal l

abbrev pub looped : Reader (List tree.Stmt × Leaf) → Leaf → Option tree.Stmt → Option tree.Expr
    → Option tree.Stmt → List Lexeme → Read tree.Stmt
looped block i s c p l =
    block l >>= yielding (λ b. tree.For (clause_of s) c (clause_of p) (stmts_of b.0) i.at)

abbrev pub for_rest : Reader (List tree.Stmt × Leaf) → Reader tree.Expr → Leaf → Head
    → List Lexeme → Read tree.Stmt
for_rest block value i (condition c) l = looped block i None (Some c) None l
for_rest block value i (init s) l =
    condition_on value l (next_lexeme l) >>= λ c w. post_stmt_on value w (next_lexeme w)
    >>= λ p. looped block i s c p

abbrev pub for_by : Reader (List tree.Stmt × Leaf) → Reader tree.Expr → Leaf → Terminal
    → List Lexeme → Read tree.Stmt
for_by block value i OpenBrace l = looped block i None None None l
for_by block value i _ l = head value l >>= for_rest block value i

abbrev pub for_on : Reader (List tree.Stmt × Leaf) → Reader tree.Expr → Leaf → List Lexeme
    → Option (Lexeme × List Lexeme) → Read tree.Stmt
for_on block value i l None = Failed (At l)
for_on block value i l (Some x) = for_by block value i x.0.terminal l

-- A statement as a list; the empty statement is the empty list, so that it leaves nothing in the tree.
abbrev pub stmt_by : ℕ → Reader (List tree.Stmt × Leaf) → Reader (List tree.Stmt × Leaf)
    → (Leaf → Reader tree.Stmt) → Terminal → Leaf → List Lexeme → List Lexeme
    → Read (List tree.Stmt)
stmt_by n block stmts ifs OpenBrace i l m =
    stmts m >>= yielding (λ b. tree.Block (stmts_of b.0) i.at ∷ [])
stmt_by n block stmts ifs If i l m = single (ifs i m)
stmt_by n block stmts ifs For i l m = single (for_on block (expr true n 1) i m (next_lexeme m))
stmt_by n block stmts ifs Go i l m = single (going n (expr false n 1) i m)
stmt_by n block stmts ifs Var i l m = single (vars n (expr false n 1) i m)
stmt_by n block stmts ifs Return i l m = single (return_on (expr false n 1) i m (next_lexeme m))
stmt_by n block stmts ifs Break i l m = Done (tree.Break i.at ∷ []) m
stmt_by n block stmts ifs Continue i l m = Done (tree.Continue i.at ∷ []) m
stmt_by n block stmts ifs Semicolon i l m = Done [] l
stmt_by n block stmts ifs _ i l m = single (defining (expr false n 1) l)

abbrev pub stmt_on : ℕ → Reader (List tree.Stmt × Leaf) → Reader (List tree.Stmt × Leaf)
    → (Leaf → Reader tree.Stmt) → List Lexeme → Option (Lexeme × List Lexeme)
    → Read (List tree.Stmt)
stmt_on n block stmts ifs l None = Failed (At l)
stmt_on n block stmts ifs l (Some x) = stmt_by n block stmts ifs x.0.terminal x.0.leaf l x.1

-- statements up to the `}` that closes them, by how one is read
abbrev pub stmts_by : Reader (List tree.Stmt) → ℕ → List Lexeme → Read (List tree.Stmt × Leaf)
stmts_by stmt n l = listed Semicolon CloseBrace stmt n [] l

abbrev pub block_by : Reader (List tree.Stmt) → ℕ → List Lexeme → Read (List tree.Stmt × Leaf)
block_by stmt n l = token OpenBrace l >>= λ _. stmts_by stmt n

unfoldable mutual
  pub stmt : ℕ → List Lexeme → Read (List tree.Stmt)
  stmt zero l = Failed Starving
  stmt (suc n) l = stmt_on n (block_by (stmt n) n) (stmts_by (stmt n) n) (if_stmt n) l (next_lexeme l)

  -- after `if`
  pub if_stmt : ℕ → Leaf → List Lexeme → Read tree.Stmt
  if_stmt zero i l = Failed Starving
  if_stmt (suc n) i l =
      head (expr true n 1) l >>= if_rest (block_by (stmt n) n) (if_stmt n) (expr true n 1) i

abbrev pub stmts : ℕ → List Lexeme → Read (List tree.Stmt × Leaf)
stmts n l = stmts_by (stmt n) n l

abbrev pub block : ℕ → List Lexeme → Read (List tree.Stmt × Leaf)
block n l = block_by (stmt n) n l

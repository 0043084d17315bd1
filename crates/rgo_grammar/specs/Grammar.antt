-- The grammar, with a case for each production: `IsProgram lexemes imports decls`. Each list of tokens includes its closing bracket;
-- a `;` before `)` or `}` may be left out. Why: docs/DECISIONS.md, "Grammar".
use Rattle.std.specs.Prelude.{◌≡◌, ℕ, ◌+◌, ◌≤◌, Bool, true, false, List, [], ◌∷◌, ◌++◌, Option, Some, None}
use Rattle.rgo_ast.specs.declared.ops.BinaryOp.{BinaryOp}
use Rattle.rgo_ast.specs.declared.ops.BinaryOp.TheVariants as op
use Rattle.rgo_ast.specs.declared.ops.UnaryOp.{UnaryOp}
use Rattle.rgo_ast.specs.declared.ops.UnaryOp.TheVariants as unary_op
use Rattle.rgo_ast.specs.declared.ops.AssignOp.{AssignOp}
use Rattle.rgo_ast.specs.declared.ops.AssignOp.TheVariants as assign_op
use Rattle.rgo_ast.specs.declared.ops.StepOp.{StepOp}
use Rattle.rgo_ast.specs.declared.names.Ident.{Ident}
use Rattle.rgo_ast.specs.declared.names.ImportPath.{ImportPath}
use Rattle.rgo_ast.specs.Tree as tree
use Rattle.rgo_ast.specs.Tree.{Binding, TypeSpec, Function, exprs_of, elements_of, stmts_of, clause_of}
use Rattle.rgo_lexer.specs.declared.terminals.Terminal.{Terminal}
use Rattle.rgo_lexer.specs.declared.terminals.Terminal.TheVariants.{Name, Main, New, Make, Number, Text, Binary, Bang}
use Rattle.rgo_lexer.specs.declared.terminals.Terminal.TheVariants.{Ampersand, Arrow, Define, Assign, Step, OpenParen}
use Rattle.rgo_lexer.specs.declared.terminals.Terminal.TheVariants.{CloseParen, OpenBracket, CloseBracket, OpenBrace}
use Rattle.rgo_lexer.specs.declared.terminals.Terminal.TheVariants.{CloseBrace, Comma, Semicolon, Colon, Dot, Package}
use Rattle.rgo_lexer.specs.declared.terminals.Terminal.TheVariants.{Import, TypeWord, Struct, Var, Func, Chan, Go, If}
use Rattle.rgo_lexer.specs.declared.terminals.Terminal.TheVariants.{Else, For, Return, Break, Continue}
use Rattle.rgo_lexer.specs.Strings.{string_of}
use Rattle.rgo_lexer.specs.Lexemes.{Leaf, Lexeme, tok, ident, path}

-- items with a separator between them, up to what closes them: the last separator may be left out
pub data Listed {A : Type 0} (Item : List Lexeme → A → Type 0) (separator closer : Terminal)
    : List Lexeme → List A → Type 0 where
  none : (j : Leaf) → Listed Item separator closer (tok closer j ∷ []) []
  last : (j : Leaf) {x : List Lexeme} {a : A} → Item x a
      → Listed Item separator closer (x ++ tok closer j ∷ []) (a ∷ [])
  more : (j : Leaf) {x y : List Lexeme} {a : A} {all : List A} → Item x a
      → Listed Item separator closer y all
      → Listed Item separator closer (x ++ tok separator j ∷ y) (a ∷ all)

-- Names = name { "," name } .
pub data IsNames : List Lexeme → List Ident → Type 0 where
  one : (i : Leaf) → IsNames (tok Name i ∷ []) (ident i ∷ [])
  more : (i j : Leaf) {x : List Lexeme} {ns : List Ident} → IsNames x ns
      → IsNames (tok Name i ∷ tok Comma j ∷ x) (ident i ∷ ns)

-- Type = name | "*" name | "[" "]" Type | "chan" Type .
pub data IsType : List Lexeme → tree.TypeExpr → Type 0 where
  named : (i : Leaf) → IsType (tok Name i ∷ []) (tree.Named (ident i))
  pointer : (i j : Leaf)
      → IsType (tok (Binary op.Mul) i ∷ tok Name j ∷ []) (tree.Pointer (ident j) i.at)
  slice : (i j : Leaf) {x : List Lexeme} {t : tree.TypeExpr} → IsType x t
      → IsType (tok OpenBracket i ∷ tok CloseBracket j ∷ x) (tree.Slice t i.at)
  chan : (i : Leaf) {x : List Lexeme} {t : tree.TypeExpr} → IsType x t
      → IsType (tok Chan i ∷ x) (tree.Chan t i.at)

-- Names Type
pub data IsBinding : List Lexeme → Binding → Type 0 where
  binding : {x y : List Lexeme} {ns : List Ident} {t : tree.TypeExpr} → IsNames x ns → IsType y t
      → IsBinding (x ++ y) (record { names = ns; ty = t })

-- how tightly an operator binds
abbrev pub level : BinaryOp → ℕ
level op.Mul = 5
level op.Div = 5
level op.Rem = 5
level op.Add = 4
level op.Sub = 4
level op.Eq = 3
level op.Ne = 3
level op.Lt = 3
level op.Le = 3
level op.Gt = 3
level op.Ge = 3
level op.And = 2
level op.Or = 1

-- the unary operator of a terminal, if it is one
abbrev pub sign : Terminal → Option UnaryOp
sign (Binary op.Add) = Some unary_op.Plus
sign (Binary op.Sub) = Some unary_op.Minus
sign Bang = Some unary_op.Not
sign Arrow = Some unary_op.Receive
sign _ = None

-- [ "," ] ")"
pub data IsMakeEnd : List Lexeme → Type 0 where
  plain : (j : Leaf) → IsMakeEnd (tok CloseParen j ∷ [])
  comma : (i j : Leaf) → IsMakeEnd (tok Comma i ∷ tok CloseParen j ∷ [])

-- `header`: the expression is between an `if` or `for` and its block, outside brackets.
mutual
  -- Expr = Unary | Expr binary Expr, whose operator binds at least as tightly as the level. All
  -- operators group to the left.
  pub data IsExpr : Bool → ℕ → List Lexeme → tree.Expr → Type 0 where
    unary : {header : Bool} {least : ℕ} {x : List Lexeme} {v : tree.Expr} → IsUnary header x v
        → IsExpr header least x v
    binary : {header : Bool} {least : ℕ} (o : BinaryOp) (i : Leaf) {x y : List Lexeme}
        {a b : tree.Expr} → least ≤ level o
        → IsExpr header (level o) x a → IsExpr header (level o + 1) y b
        → IsExpr header least (x ++ tok (Binary o) i ∷ y) (tree.Binary o a b i.at)

  -- Unary = ( "+" | "-" | "!" | "<-" ) Unary | "&" name "{" [ Elems [ "," ] ] "}" | Primary .
  pub data IsUnary : Bool → List Lexeme → tree.Expr → Type 0 where
    signed : {header : Bool} (k : Terminal) (o : UnaryOp) (i : Leaf) {x : List Lexeme}
        {v : tree.Expr} → sign k ≡ Some o
        → IsUnary header x v → IsUnary header (tok k i ∷ x) (tree.Unary o v i.at)
    literal : (i j k : Leaf) {y : List Lexeme} {vs : List tree.Expr} → IsExprs CloseBrace y vs
        → IsUnary false (tok Ampersand i ∷ tok Name j ∷ tok OpenBrace k ∷ y)
        (tree.Literal (ident j) (exprs_of vs) i.at)
    keyed : (i j k : Leaf) {y : List Lexeme} {e : Ident × tree.Expr} {es : List (Ident × tree.Expr)}
        → IsElements y (e ∷ es)
        → IsUnary false (tok Ampersand i ∷ tok Name j ∷ tok OpenBrace k ∷ y)
        (tree.Keyed (ident j) (elements_of (e ∷ es)) i.at)
    primary : {header : Bool} {x : List Lexeme} {v : tree.Expr} → IsPrimary x v → IsUnary header x v

  -- Primary = number | string | name | "(" Expr ")" | "new" "(" name ")"
  --     | "make" "(" ( "[" "]" Type "," Expr | "chan" Type [ "," Expr ] ) [ "," ] ")"
  --     | Primary "." name | Primary "[" Expr "]" | Primary "(" [ Args ] ")" .
  pub data IsPrimary : List Lexeme → tree.Expr → Type 0 where
    number : (n : ℕ) (i : Leaf) → IsPrimary (tok (Number n) i ∷ []) (tree.Number n i.at)
    text : (i : Leaf) → IsPrimary (tok Text i ∷ []) (tree.Text (string_of i.word) i.at)
    name : (i : Leaf) → IsPrimary (tok Name i ∷ []) (tree.Name (ident i))
    parens : (i j : Leaf) {x : List Lexeme} {v : tree.Expr} → IsExpr false 1 x v
        → IsPrimary (tok OpenParen i ∷ (x ++ tok CloseParen j ∷ [])) (tree.Paren v i.at)
    new : (i j k m : Leaf)
        → IsPrimary (tok New i ∷ tok OpenParen j ∷ tok Name k ∷ tok CloseParen m ∷ [])
        (tree.New (ident k) i.at)
    make_slice : (i j k m c : Leaf) {x y z : List Lexeme} {t : tree.TypeExpr} {v : tree.Expr}
        → IsType x t → IsExpr false 1 y v
        → IsMakeEnd z
        → IsPrimary (tok Make i ∷ tok OpenParen j ∷ tok OpenBracket k ∷ tok CloseBracket m
        ∷ (x ++ tok Comma c ∷ (y ++ z)))
        (tree.MakeSlice t v i.at)
    make_chan : (i j k : Leaf) {x z : List Lexeme} {t : tree.TypeExpr} → IsType x t → IsMakeEnd z
        → IsPrimary (tok Make i ∷ tok OpenParen j ∷ tok Chan k ∷ (x ++ z))
        (tree.MakeChan t tree.no_capacity i.at)
    make_sized : (i j k c : Leaf) {x y z : List Lexeme} {t : tree.TypeExpr} {v : tree.Expr}
        → IsType x t → IsExpr false 1 y v
        → IsMakeEnd z
        → IsPrimary (tok Make i ∷ tok OpenParen j ∷ tok Chan k ∷ (x ++ tok Comma c ∷ (y ++ z)))
        (tree.MakeChan t (tree.a_capacity v) i.at)
    select : (i j : Leaf) {x : List Lexeme} {v : tree.Expr} → IsPrimary x v
        → IsPrimary (x ++ tok Dot i ∷ tok Name j ∷ []) (tree.Select v (ident j))
    index : (i j : Leaf) {x y : List Lexeme} {v w : tree.Expr} → IsPrimary x v → IsExpr false 1 y w
        → IsPrimary (x ++ tok OpenBracket i ∷ (y ++ tok CloseBracket j ∷ [])) (tree.Index v w i.at)
    call : (i : Leaf) {x y : List Lexeme} {v : tree.Expr} {vs : List tree.Expr} → IsPrimary x v
        → IsExprs CloseParen y vs
        → IsPrimary (x ++ tok OpenParen i ∷ y) (tree.Called v (exprs_of vs) i.at)

  -- [ Expr { "," Expr } [ "," ] ] and what closes them
  pub data IsExprs : Terminal → List Lexeme → List tree.Expr → Type 0 where
    none : {closer : Terminal} (j : Leaf) → IsExprs closer (tok closer j ∷ []) []
    last : {closer : Terminal} (j : Leaf) {x : List Lexeme} {v : tree.Expr} → IsExpr false 1 x v
        → IsExprs closer (x ++ tok closer j ∷ []) (v ∷ [])
    more : {closer : Terminal} (j : Leaf) {x y : List Lexeme} {v : tree.Expr}
        {vs : List tree.Expr} → IsExpr false 1 x v
        → IsExprs closer y vs → IsExprs closer (x ++ tok Comma j ∷ y) (v ∷ vs)

  -- [ name ":" Expr { "," name ":" Expr } [ "," ] ] "}"
  pub data IsElements : List Lexeme → List (Ident × tree.Expr) → Type 0 where
    no_element : (j : Leaf) → IsElements (tok CloseBrace j ∷ []) []
    last_element : (i c j : Leaf) {x : List Lexeme} {v : tree.Expr} → IsExpr false 1 x v
        → IsElements (tok Name i ∷ tok Colon c ∷ (x ++ tok CloseBrace j ∷ [])) ((ident i, v) ∷ [])
    more_elements : (i c j : Leaf) {x y : List Lexeme} {v : tree.Expr}
        {vs : List (Ident × tree.Expr)}
        → IsExpr false 1 x v
        → IsElements y vs
        → IsElements (tok Name i ∷ tok Colon c ∷ (x ++ tok Comma j ∷ y)) ((ident i, v) ∷ vs)

-- Simple = [ Expr | Expr "<-" Expr | Expr ( "++" | "--" )
--     | Expr ( "=" | "+=" | "-=" | "*=" | "/=" | "%=" ) Expr | name ":=" Expr ] .
-- `defines`: the last one is allowed. The empty statement is left to the productions that contain it, since it has no tree.
pub data IsSimple : Bool → Bool → List Lexeme → tree.Stmt → Type 0 where
  plain : {header defines : Bool} {x : List Lexeme} {v : tree.Expr} → IsExpr header 1 x v
      → IsSimple header defines x (tree.Plain v)
  send : {header defines : Bool} (i : Leaf) {x y : List Lexeme}
      {a b : tree.Expr} → IsExpr header 1 x a
      → IsExpr header 1 y b
      → IsSimple header defines (x ++ tok Arrow i ∷ y) (tree.Send a b i.at)
  step : {header defines : Bool} (o : StepOp) (i : Leaf) {x : List Lexeme}
      {v : tree.Expr} → IsExpr header 1 x v
      → IsSimple header defines (x ++ tok (Step o) i ∷ []) (tree.Step o v i.at)
  assign : {header defines : Bool} (o : AssignOp) (i : Leaf) {x y : List Lexeme}
      {a b : tree.Expr} → IsExpr header 1 x a
      → IsExpr header 1 y b
      → IsSimple header defines (x ++ tok (Assign o) i ∷ y) (tree.Assign o a b i.at)
  define : {header : Bool} (i j : Leaf) {x : List Lexeme} {v : tree.Expr} → IsExpr header 1 x v
      → IsSimple header true (tok Name i ∷ tok Define j ∷ x) (tree.Define (ident i) v j.at)

-- a Simple of a header, which may be empty
pub data IsClause : Bool → List Lexeme → Option tree.Stmt → Type 0 where
  empty : {defines : Bool} → IsClause defines [] None
  some : {defines : Bool} {x : List Lexeme} {s : tree.Stmt} → IsSimple true defines x s
      → IsClause defines x (Some s)

-- [ Expr ] of a `for`
pub data IsCondition : List Lexeme → Option tree.Expr → Type 0 where
  none : IsCondition [] None
  some : {x : List Lexeme} {v : tree.Expr} → IsExpr true 1 x v → IsCondition x (Some v)

-- LVar = Names Type | name Type "=" Expr | name "=" Expr .
pub data IsLocalVar : List Lexeme → tree.LocalVar → Type 0 where
  zero : {x : List Lexeme} {b : Binding} → IsBinding x b → IsLocalVar x (tree.Zero b)
  typed : (i j : Leaf) {x y : List Lexeme} {t : tree.TypeExpr} {v : tree.Expr}
      → IsType x t → IsExpr false 1 y v
      → IsLocalVar (tok Name i ∷ (x ++ tok (Assign assign_op.Plain) j ∷ y))
      (tree.Typed (ident i) t v j.at)
  inferred : (i j : Leaf) {y : List Lexeme} {v : tree.Expr} → IsExpr false 1 y v
      → IsLocalVar (tok Name i ∷ tok (Assign assign_op.Plain) j ∷ y) (tree.Inferred (ident i) v j.at)

mutual
  -- Stmt = Block | Simple | If | For | "go" name "(" [ Args ] ")"
  --     | "var" ( LVar | "(" { LVar ";" } ")" ) | "return" [ Expr ] | "break" | "continue" .
  pub data IsStmt : List Lexeme → tree.Stmt → Type 0 where
    block : (i : Leaf) {y : List Lexeme} {b : List tree.Stmt} {end : Leaf} → IsStmts y b end
        → IsStmt (tok OpenBrace i ∷ y) (tree.Block (stmts_of b) i.at)
    simple : {x : List Lexeme} {s : tree.Stmt} → IsSimple false true x s → IsStmt x s
    if' : {x : List Lexeme} {s : tree.Stmt} → IsIf x s → IsStmt x s
    for' : {x : List Lexeme} {s : tree.Stmt} → IsFor x s → IsStmt x s
    go : (i j k : Leaf) {y : List Lexeme} {vs : List tree.Expr} → IsExprs CloseParen y vs
        → IsStmt (tok Go i ∷ tok Name j ∷ tok OpenParen k ∷ y)
        (tree.Go (ident j) (exprs_of vs) i.at)
    var : (i : Leaf) {x : List Lexeme} {v : tree.LocalVar} → IsLocalVar x v
        → IsStmt (tok Var i ∷ x) (tree.Var (v ∷ []) i.at)
    vars : (i j : Leaf) {y : List Lexeme} {vs : List tree.LocalVar}
        → Listed IsLocalVar Semicolon CloseParen y vs
        → IsStmt (tok Var i ∷ tok OpenParen j ∷ y) (tree.Var vs i.at)
    return : (i : Leaf) → IsStmt (tok Return i ∷ []) (tree.Return None i.at)
    returns : (i : Leaf) {x : List Lexeme} {v : tree.Expr} → IsExpr false 1 x v
        → IsStmt (tok Return i ∷ x) (tree.Return (Some v) i.at)
    break : (i : Leaf) → IsStmt (tok Break i ∷ []) (tree.Break i.at)
    continue : (i : Leaf) → IsStmt (tok Continue i ∷ []) (tree.Continue i.at)

  -- { [ Stmt ] ";" } "}"
  pub data IsStmts : List Lexeme → List tree.Stmt → Leaf → Type 0 where
    end : (j : Leaf) → IsStmts (tok CloseBrace j ∷ []) [] j
    empty : (i : Leaf) {y : List Lexeme} {b : List tree.Stmt} {j : Leaf} → IsStmts y b j
        → IsStmts (tok Semicolon i ∷ y) b j
    last : (j : Leaf) {x : List Lexeme} {s : tree.Stmt} → IsStmt x s
        → IsStmts (x ++ tok CloseBrace j ∷ []) (s ∷ []) j
    more : (i : Leaf) {x y : List Lexeme} {s : tree.Stmt} {b : List tree.Stmt} {j : Leaf}
        → IsStmt x s → IsStmts y b j
        → IsStmts (x ++ tok Semicolon i ∷ y) (s ∷ b) j

  -- If = "if" [ Simple ";" ] Expr Block [ "else" ( If | Block ) ] .
  pub data IsIf : List Lexeme → tree.Stmt → Type 0 where
    plain : (i k : Leaf) {x y z : List Lexeme} {c : tree.Expr} {b : List tree.Stmt}
        {e : Option tree.Stmt} {end : Leaf}
        → IsExpr true 1 x c → IsStmts y b end → IsElse z e
        → IsIf (tok If i ∷ (x ++ tok OpenBrace k ∷ (y ++ z)))
        (tree.If tree.no_clause c (stmts_of b) (clause_of e) i.at)
    with : (i j k : Leaf) {w x y z : List Lexeme} {s : Option tree.Stmt}
        {c : tree.Expr} {b : List tree.Stmt}
        {e : Option tree.Stmt} {end : Leaf}
        → IsClause true w s → IsExpr true 1 x c → IsStmts y b end → IsElse z e
        → IsIf (tok If i ∷ (w ++ tok Semicolon j ∷ (x ++ tok OpenBrace k ∷ (y ++ z))))
        (tree.If (clause_of s) c (stmts_of b) (clause_of e) i.at)

  -- [ "else" ( If | Block ) ]
  pub data IsElse : List Lexeme → Option tree.Stmt → Type 0 where
    none : IsElse [] None
    an_if : (i : Leaf) {x : List Lexeme} {s : tree.Stmt} → IsIf x s
        → IsElse (tok Else i ∷ x) (Some s)
    a_block : (i k : Leaf) {y : List Lexeme} {b : List tree.Stmt} {end : Leaf} → IsStmts y b end
        → IsElse (tok Else i ∷ tok OpenBrace k ∷ y) (Some (tree.Block (stmts_of b) k.at))

  -- For = "for" [ Expr ] Block | "for" Simple ";" [ Expr ] ";" Simple Block, whose last Simple is
  -- not a `:=` .
  pub data IsFor : List Lexeme → tree.Stmt → Type 0 where
    while : (i k : Leaf) {x y : List Lexeme} {c : Option tree.Expr} {b : List tree.Stmt}
        {end : Leaf} → IsCondition x c
        → IsStmts y b end
        → IsFor (tok For i ∷ (x ++ tok OpenBrace k ∷ y))
        (tree.For tree.no_clause c tree.no_clause (stmts_of b) i.at)
    three : (i j k m : Leaf) {u v w y : List Lexeme} {s p : Option tree.Stmt}
        {c : Option tree.Expr} {b : List tree.Stmt}
        {end : Leaf}
        → IsClause true u s → IsCondition v c → IsClause false w p → IsStmts y b end
        → IsFor (tok For i
        ∷ (u ++ tok Semicolon j ∷ (v ++ tok Semicolon k ∷ (w ++ tok OpenBrace m ∷ y))))
        (tree.For (clause_of s) c (clause_of p) (stmts_of b) i.at)

-- TSpec = name "struct" "{" { Names Type ";" } "}" .
pub data IsTypeSpec : List Lexeme → TypeSpec → Type 0 where
  struct : (i j k : Leaf) {y : List Lexeme} {fs : List Binding}
      → Listed IsBinding Semicolon CloseBrace y fs
      → IsTypeSpec (tok Name i ∷ tok Struct j ∷ tok OpenBrace k ∷ y)
      (record { name = ident i; fields = fs })

-- [ Type ] of a function
pub data IsResult : List Lexeme → Option tree.TypeExpr → Type 0 where
  none : IsResult [] None
  some : {x : List Lexeme} {t : tree.TypeExpr} → IsType x t → IsResult x (Some t)

-- Decl = "type" ( TSpec | "(" { TSpec ";" } ")" ) | "var" ( Names Type | "(" { Names Type ";" } ")"
-- )
--     | "func" name "(" [ Param { "," Param } [ "," ] ] ")" [ Type ] Block .
pub data IsDecl : List Lexeme → tree.Decl → Type 0 where
  type : (i : Leaf) {x : List Lexeme} {s : TypeSpec} → IsTypeSpec x s
      → IsDecl (tok TypeWord i ∷ x) (tree.Types (s ∷ []) i.at)
  types : (i j : Leaf) {y : List Lexeme} {ss : List TypeSpec}
      → Listed IsTypeSpec Semicolon CloseParen y ss
      → IsDecl (tok TypeWord i ∷ tok OpenParen j ∷ y) (tree.Types ss i.at)
  var : (i : Leaf) {x : List Lexeme} {b : Binding} → IsBinding x b
      → IsDecl (tok Var i ∷ x) (tree.Vars (b ∷ []) i.at)
  vars : (i j : Leaf) {y : List Lexeme} {bs : List Binding}
      → Listed IsBinding Semicolon CloseParen y bs
      → IsDecl (tok Var i ∷ tok OpenParen j ∷ y) (tree.Vars bs i.at)
  func : (i j k m end : Leaf) {x y z : List Lexeme} {ps : List Binding}
      {r : Option tree.TypeExpr} {b : List tree.Stmt}
      → Listed IsBinding Comma CloseParen x ps → IsResult y r → IsStmts z b end
      → IsDecl (tok Func i ∷ tok Name j ∷ tok OpenParen k ∷ (x ++ (y ++ tok OpenBrace m ∷ z)))
      (tree.Func (record
      { name = ident j; params = ps; result_type = r; body = b; at = i.at; end = end.at }))

-- string
pub data IsPath : List Lexeme → ImportPath → Type 0 where
  string : (i : Leaf) → IsPath (tok Text i ∷ []) (path i)

-- Import = "import" ( string | "(" { string ";" } ")" ) .
pub data IsImport : List Lexeme → tree.Import → Type 0 where
  one : (i : Leaf) {x : List Lexeme} {p : ImportPath} → IsPath x p
      → IsImport (tok Import i ∷ x) (record { paths = p ∷ []; at = i.at })
  group : (i j : Leaf) {y : List Lexeme} {ps : List ImportPath}
      → Listed IsPath Semicolon CloseParen y ps
      → IsImport (tok Import i ∷ tok OpenParen j ∷ y) (record { paths = ps; at = i.at })

-- { Item ";" }
pub data EachWithSemicolon {A : Type 0} (Item : List Lexeme → A → Type 0) : List Lexeme → List A → Type 0 where
  none : EachWithSemicolon Item [] []
  next : (j : Leaf) {x y : List Lexeme} {a : A} {all : List A} → Item x a → EachWithSemicolon Item y all
      → EachWithSemicolon Item (x ++ tok Semicolon j ∷ y) (a ∷ all)

-- Program = "package" "main" ";" { Import ";" } { Decl ";" } .
pub data IsProgram : List Lexeme → List tree.Import → List tree.Decl → Type 0 where
  program : (i j k : Leaf) {x y : List Lexeme} {imports : List tree.Import} {decls : List tree.Decl}
      → EachWithSemicolon IsImport x imports → EachWithSemicolon IsDecl y decls
      → IsProgram (tok Package i ∷ tok Main j ∷ tok Semicolon k ∷ (x ++ y)) imports decls

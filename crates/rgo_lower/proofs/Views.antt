-- Terms and statements of the code as plain data.
use Rattle.std.proofs.Common.{◌≡◌, ℕ, List, map, refl, ap, ◌∙◌}
use Rattle.std.specs.Prelude.{Option, Vec, Box}
use Rattle.std.specs.declared.alloc.Global.{Global}
use Rattle.rgo_typed.specs.declared.actions.Action.{Action}
use Rattle.rgo_typed.specs.declared.actions.Logical.{Logical}
use Rattle.rgo_typed.specs.declared.types.Type.{«Type»}
use Rattle.rgo_typed.specs.declared.terms.Term.{Term, Row_of-Term, end_of-Term, items_hidden-the_row-Term-0}
use Rattle.rgo_typed.specs.declared.terms.Term as code
use Rattle.rgo_typed.specs.declared.statements.Stmt.{Stmt, Row_of-Stmt, end_of-Stmt, items_hidden-the_row-Stmt-0}
use Rattle.rgo_typed.specs.declared.statements.Stmt as code_stmt
use Rattle.rgo_typed.specs.Tree as tree
use Rattle.rgo_typed.specs.Tree.{Terms, terms_of, Stmts, stmts_of}
use Rattle.rgo_typed.specs.Views.{term_of, terms_in, boxed_term_of, stmt_of, stmts_in}
use Rattle.rgo_typed.proofs.Rows.{terms_are, stmts_are}

-- ---- terms

abbrev row_of : Term → (n : _) × Row_of-Term n
row_of (code.Apply' action shape row ty place) = (_, row)
row_of (code.Build' n shape row fields place) = (_, row)
row_of (code.Call' n shape row ty place) = (_, row)
row_of _ = (_, end_of-Term)

parts_are : (n : _) (row : Row_of-Term n) (parts : Vec Term Global) → code.items-the_row-Term n row ≡ parts.items
    → terms_in row ≡ terms_of (map term_of parts.items)
parts_are n row parts is = terms_are n row ∙ ap (λ l. terms_of (map term_of l)) is

pub apply_is : (action : Action) (parts : Vec Term Global) (ty : «Type») (place : ℕ)
    → term_of (code.Apply action parts ty place) ≡ tree.Apply action (terms_of (map term_of parts.items)) ty place
apply_is action parts ty place =
    let row = row_of (code.Apply action parts ty place) in
    ap (λ (z : Terms). tree.Apply action z ty place) (parts_are row.0 row.1 parts (items_hidden-the_row-Term-0 parts))

pub logic_is : (logic : Logical) (left right : Box Term Global) (place : ℕ)
    → term_of (code.Logic logic left right place) ≡ tree.Logic logic (term_of left.value) (term_of right.value) place
logic_is logic left right place = refl

pub build_is : (n : ℕ) (parts : Vec Term Global) (fields : List ℕ) (place : ℕ)
    → term_of (code.Build n parts fields place) ≡ tree.Build n (terms_of (map term_of parts.items)) fields place
build_is n parts fields place =
    let row = row_of (code.Build n parts fields place) in
    ap (λ (z : Terms). tree.Build n z fields place) (parts_are row.0 row.1 parts (items_hidden-the_row-Term-0 parts))

pub call_is : (n : ℕ) (parts : Vec Term Global) (ty : «Type») (place : ℕ)
    → term_of (code.Call n parts ty place) ≡ tree.Call n (terms_of (map term_of parts.items)) ty place
call_is n parts ty place =
    let row = row_of (code.Call n parts ty place) in
    ap (λ (z : Terms). tree.Call n z ty place) (parts_are row.0 row.1 parts (items_hidden-the_row-Term-0 parts))

-- ---- statements

abbrev first_row : Stmt → (n : _) × Row_of-Stmt n
first_row (code_stmt.Block' shape all) = (_, all)
first_row (code_stmt.If' test shape body place) = (_, body)
first_row (code_stmt.IfElse' test shape body shape2 other place) = (_, body)
first_row (code_stmt.Loop' test shape body shape2 post place) = (_, body)
first_row _ = (_, end_of-Stmt)

abbrev second_row : Stmt → (n : _) × Row_of-Stmt n
second_row (code_stmt.IfElse' test shape body shape2 other place) = (_, other)
second_row (code_stmt.Loop' test shape body shape2 post place) = (_, post)
second_row _ = (_, end_of-Stmt)

body_is : (n : _) (row : Row_of-Stmt n) (all : Vec Stmt Global) → code_stmt.items-the_row-Stmt n row ≡ all.items
    → stmts_in row ≡ stmts_of (map stmt_of all.items)
body_is n row all is = stmts_are n row ∙ ap (λ l. stmts_of (map stmt_of l)) is

pub block_is : (all : Vec Stmt Global)
    → stmt_of (code_stmt.Block all) ≡ tree.Block (stmts_of (map stmt_of all.items))
block_is all =
    let row = first_row (code_stmt.Block all) in
    ap tree.Block (body_is row.0 row.1 all (items_hidden-the_row-Stmt-0 all))

pub if_is : (test : Box Term Global) (body : Vec Stmt Global) (place : ℕ)
    → stmt_of (code_stmt.If test body place)
    ≡ tree.If (term_of test.value) (stmts_of (map stmt_of body.items)) place
if_is test body place =
    let row = first_row (code_stmt.If test body place) in
    ap (λ (z : Stmts). tree.If (term_of test.value) z place)
    (body_is row.0 row.1 body (items_hidden-the_row-Stmt-0 body))

pub if_else_is : (test : Box Term Global) (body other : Vec Stmt Global) (place : ℕ)
    → stmt_of (code_stmt.IfElse test body other place)
    ≡ tree.IfElse (term_of test.value) (stmts_of (map stmt_of body.items)) (stmts_of (map stmt_of other.items)) place
if_else_is test body other place =
    let first = first_row (code_stmt.IfElse test body other place) in
    let second = second_row (code_stmt.IfElse test body other place) in
    let body_same = body_is first.0 first.1 body (items_hidden-the_row-Stmt-0 body) in
    let other_same = body_is second.0 second.1 other (items_hidden-the_row-Stmt-0 other) in
    λ i. tree.IfElse (term_of test.value) (body_same i) (other_same i) place

pub loop_is : (test : Option (Box Term Global)) (body post : Vec Stmt Global) (place : ℕ)
    → stmt_of (code_stmt.Loop test body post place)
    ≡ tree.Loop (boxed_term_of test) (stmts_of (map stmt_of body.items)) (stmts_of (map stmt_of post.items)) place
loop_is test body post place =
    let first = first_row (code_stmt.Loop test body post place) in
    let second = second_row (code_stmt.Loop test body post place) in
    let body_same = body_is first.0 first.1 body (items_hidden-the_row-Stmt-0 body) in
    let post_same = body_is second.0 second.1 post (items_hidden-the_row-Stmt-0 post) in
    λ i. tree.Loop (boxed_term_of test) (body_same i) (post_same i) place

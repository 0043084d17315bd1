-- One turn of each reader of statements, at a number of turns that is not 0, in the parts that the code reads at once: as in ExprTurns,
-- with headers and `else` read apart from their blocks.
use Rattle.std.proofs.Common.{◌≡◌, ℕ, zero, suc, ◌-◌, ◌<◌, true, false, List, [], ◌∷◌, Option, Some, None, refl, ap, ◌∙◌}
use Rattle.rgo_ast.specs.declared.statements.Stmt as code
use Rattle.rgo_ast.specs.Tree as tree
use Rattle.rgo_ast.proofs.Rows.{stmts_are, clause_is}
use Rattle.rgo_ast.specs.Tree.{stmts_of, clause_of}
use Rattle.rgo_lexer.specs.declared.terminals.Terminal.{Terminal}
use Rattle.rgo_lexer.specs.declared.terminals.Terminal.TheVariants.{OpenParen, OpenBrace, Semicolon, Var, Go, If, Else, For, Return, Break, Continue}
use Rattle.rgo_lexer.specs.Lexemes.{Leaf, Lexeme}
use Rattle.rgo_grammar.specs.reading.Read.{Read, Done, Failed, Starving, ◌>>=◌, yielding, next_lexeme, single}
use Rattle.rgo_grammar.specs.reading.Expressions.{expr}
use Rattle.rgo_grammar.specs.reading.Statements as r
use Rattle.rgo_grammar.specs.reading.Declarations.{group, group_by}
use Rattle.rgo_reader.specs.Agrees.{leaf_at}
use Rattle.rgo_parser.specs.Headers as headers
use Rattle.rgo_parser.specs.Statements as parts
use Rattle.rgo_parser.specs.Statements.{if_at, for_at}
use Rattle.rgo_parser.specs.declared.openings.Else.{Else as CodeElse}
use Rattle.rgo_parser.specs.declared.openings.Else.TheVariants as code_else
use Rattle.rgo_reader.proofs.TypeTurns.{turn}

-- Local variables are read as a group.

vars_by_are : (n : ℕ) (value : List Lexeme → Read tree.Expr) (k : Terminal) (l m : List Lexeme)
    → r.vars_by n value k l m ≡ group_by (r.local_var n value) n k l m
vars_by_are n value OpenParen l m = refl
vars_by_are n value _ l m = refl

vars_on_are : (n : ℕ) (value : List Lexeme → Read tree.Expr) (l : List Lexeme)
    → r.vars_on n value l (next_lexeme l) ≡ group (r.local_var n value) n l
vars_on_are n value [] = refl
vars_on_are n value (t ∷ l) = vars_by_are n value t.terminal (t ∷ l) l

pub vars_are : (n : ℕ) (value : List Lexeme → Read tree.Expr) (i : Leaf) (l : List Lexeme)
    → r.vars n value i l ≡ (group (r.local_var n value) n l >>= yielding (λ vs. tree.Var vs i.at))
vars_are n value i l = ap (λ e. e >>= yielding (λ vs. tree.Var vs i.at)) (vars_on_are n value l)

-- Headers.

abbrev Block : Type 0
Block = List Lexeme → Read (List tree.Stmt × Leaf)

abbrev Ifs : Type 0
Ifs = Leaf → List Lexeme → Read tree.Stmt

if_rest_is : (block : Block) (again : Ifs) (value : List Lexeme → Read tree.Expr) (i : Leaf) (h : Read r.Head)
    → (h >>= r.if_rest block again value i) ≡ ((h >>= headers.if_header_rest value) >>= λ x. r.branches block again i x.0 x.1)
if_rest_is block again value i (Done (r.condition c) l) = refl
if_rest_is block again value i (Done (r.init s) l) = value_is (value l)
  where
    value_is : (e : Read tree.Expr) → (e >>= r.branches block again i s) ≡ ((e >>= yielding (headers.if_parts s)) >>= λ x. r.branches block again i x.0 x.1)
    value_is (Done c w) = refl
    value_is (Failed f) = refl
if_rest_is block again value i (Failed s) = refl

post_is : (block : Block) (i : Leaf) (s : Option tree.Stmt) (c : Option tree.Expr) (e : Read (Option tree.Stmt))
    → (e >>= λ p. r.looped block i s c p) ≡ ((e >>= yielding (headers.for_parts s c)) >>= λ x. r.looped block i x.0 x.1 x.2)
post_is block i s c (Done p w) = refl
post_is block i s c (Failed f) = refl

condition_is : (block : Block) (value : List Lexeme → Read tree.Expr) (i : Leaf) (s : Option tree.Stmt) (e : Read (Option tree.Expr))
    → (e >>= λ c w. r.post_stmt_on value w (next_lexeme w) >>= λ p. r.looped block i s c p)
    ≡ ((e >>= λ c w. r.post_stmt_on value w (next_lexeme w) >>= yielding (headers.for_parts s c)) >>= λ x. r.looped block i x.0 x.1 x.2)
condition_is block value i s (Done c w) = post_is block i s c (r.post_stmt_on value w (next_lexeme w))
condition_is block value i s (Failed f) = refl

for_rest_is : (block : Block) (value : List Lexeme → Read tree.Expr) (i : Leaf) (h : Read r.Head)
    → (h >>= r.for_rest block value i) ≡ ((h >>= headers.for_header_rest value) >>= λ x. r.looped block i x.0 x.1 x.2)
for_rest_is block value i (Done (r.condition c) l) = refl
for_rest_is block value i (Done (r.init s) l) = condition_is block value i s (r.condition_on value l (next_lexeme l))
for_rest_is block value i (Failed s) = refl

for_by_is : (block : Block) (value : List Lexeme → Read tree.Expr) (i : Leaf) (k : Terminal) (l : List Lexeme)
    → r.for_by block value i k l ≡ (headers.for_header_by value k l >>= λ x. r.looped block i x.0 x.1 x.2)
for_by_is block value i OpenBrace l = refl
for_by_is block value i _ l = for_rest_is block value i (r.head value l)

for_is : (block : Block) (value : List Lexeme → Read tree.Expr) (i : Leaf) (l : List Lexeme)
    → r.for_on block value i l (next_lexeme l) ≡ (headers.for_header value l >>= λ x. r.looped block i x.0 x.1 x.2)
for_is block value i [] = refl
for_is block value i (t ∷ l) = for_by_is block value i t.terminal (t ∷ l)

-- After the block of an `if`.

abbrev pub else_after : Block → Ifs → CodeElse → List Lexeme → Read (Option tree.Stmt)
else_after block again code_else.None l = Done None l
else_after block again (code_else.If at) l = again (leaf_at at) l >>= yielding (λ s. Some s)
else_after block again (code_else.Block at) l = block l >>= yielding (λ b. Some (tree.Block (stmts_of b.0) at))

else_body_by_is : (block : Block) (n : ℕ) (k : Terminal) (i : Leaf) (l m : List Lexeme)
    → r.else_body_by block (if_at n) k i l m ≡ (parts.after_else_by k i l m >>= else_after block (if_at n))
else_body_by_is block n If i l m = refl
else_body_by_is block n _ i l m = refl

else_body_is : (block : Block) (n : ℕ) (l : List Lexeme)
    → r.else_body_on block (if_at n) l (next_lexeme l) ≡ (parts.after_else_on l (next_lexeme l) >>= else_after block (if_at n))
else_body_is block n [] = refl
else_body_is block n (t ∷ l) = else_body_by_is block n t.terminal t.leaf (t ∷ l) l

else_by_is : (block : Block) (n : ℕ) (k : Terminal) (l m : List Lexeme)
    → r.else_by block (if_at n) k l m ≡ (parts.else_word_by k l m >>= else_after block (if_at n))
else_by_is block n Else l m = else_body_is block n m
else_by_is block n _ l m = refl

pub else_is : (block : Block) (n : ℕ) (l : List Lexeme)
    → r.else_on block (if_at n) l (next_lexeme l) ≡ (parts.else_word l >>= else_after block (if_at n))
else_is block n [] = refl
else_is block n (t ∷ l) = else_by_is block n t.terminal (t ∷ l) l

-- Statements by what they begin with.

abbrev pub stmt_after : ℕ → parts.Leading → List Lexeme → Read (List tree.Stmt)
stmt_after n (parts.Whole all) l = Done all l
stmt_after n (parts.Block at) l = r.stmts n l >>= yielding (λ b. tree.Block (stmts_of b.0) at ∷ [])
stmt_after n (parts.IfAt at) l = single (if_at n (leaf_at at) l)
stmt_after n (parts.ForAt at) l = single (for_at n (leaf_at at) l)

one_is : (n : ℕ) (e : Read tree.Stmt) → single e ≡ ((e >>= yielding parts.one_leading) >>= stmt_after n)
one_is n (Done s w) = refl
one_is n (Failed f) = refl

stmt_by_is : (n : ℕ) (k : Terminal) (i : Leaf) (l m : List Lexeme)
    → r.stmt_by n (r.block n) (r.stmts n) (if_at n) k i l m ≡ (parts.leading_by n k i l m >>= stmt_after n)
stmt_by_is n OpenBrace i l m = refl
stmt_by_is n If i l m = refl
stmt_by_is n For i l m = ap single (for_is (r.block n) (expr true n 1) i m)
stmt_by_is n Go i l m = one_is n (r.going n (expr false n 1) i m)
stmt_by_is n Var i l m = one_is n (r.vars n (expr false n 1) i m)
stmt_by_is n Return i l m = one_is n (r.return_on (expr false n 1) i m (next_lexeme m))
stmt_by_is n Break i l m = refl
stmt_by_is n Continue i l m = refl
stmt_by_is n Semicolon i l m = refl
stmt_by_is n _ i l m = one_is n (r.defining (expr false n 1) l)

stmt_is : (n : ℕ) (l : List Lexeme)
    → r.stmt_on n (r.block n) (r.stmts n) (if_at n) l (next_lexeme l) ≡ (parts.leading n l >>= stmt_after n)
stmt_is n [] = refl
stmt_is n (t ∷ l) = stmt_by_is n t.terminal t.leaf (t ∷ l) l

-- The turns.

if_word : (n : ℕ) (i : Leaf) (l : List Lexeme) → r.if_stmt n i l ≡ if_at n i l
unfolding r.stmt
if_word zero i l = refl
if_word (suc n) i l = refl

if_words : (n : ℕ) → r.if_stmt n ≡ if_at n
if_words n = λ d i l. if_word n i l d

pub stmt_more : (n : ℕ) (l : List Lexeme) → 0 < n → r.stmt n l ≡ (parts.leading (n - 1) l >>= stmt_after (n - 1))
unfolding r.stmt
stmt_more n l h =
    ap (λ m. r.stmt m l) (turn n h)
    ∙ ap (λ ifs. r.stmt_on (n - 1) (r.block (n - 1)) (r.stmts (n - 1)) ifs l (next_lexeme l)) (if_words (n - 1))
    ∙ stmt_is (n - 1) l

pub if_more : (n : ℕ) (i : Leaf) (l : List Lexeme) → 0 < n
    → r.if_stmt n i l
    ≡ (headers.if_header (expr true (n - 1) 1) l >>= λ x. r.branches (r.block (n - 1)) (if_at (n - 1)) i x.0 x.1)
unfolding r.stmt
if_more n i l h =
    ap (λ m. r.if_stmt m i l) (turn n h)
    ∙ ap (λ ifs. r.head (expr true (n - 1) 1) l >>= r.if_rest (r.block (n - 1)) ifs (expr true (n - 1) 1) i) (if_words (n - 1))
    ∙ if_rest_is (r.block (n - 1)) (if_at (n - 1)) (expr true (n - 1) 1) i (r.head (expr true (n - 1) 1) l)

pub stmt_starved : (n : ℕ) (l : List Lexeme) → n ≡ 0 → r.stmt n l ≡ Failed Starving
unfolding r.stmt
stmt_starved n l e = rw e refl

pub if_starved : (n : ℕ) (i : Leaf) (l : List Lexeme) → n ≡ 0 → r.if_stmt n i l ≡ Failed Starving
unfolding r.stmt
if_starved n i l e = rw e refl

pub ruleset nodes = (stmts_are, clause_is, code.the_lemmas)

pub ruleset stmt_turns = (stmt_more, stmt_starved, nodes)

pub ruleset if_turns = (if_more, if_starved, nodes)

pub ruleset else_turns = (else_is, nodes)

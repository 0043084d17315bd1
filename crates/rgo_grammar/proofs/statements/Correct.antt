-- Reading statements and blocks is correct, by induction on the turns: the kinds of statements come from the other files, and here only
-- their cycle is closed.
use Rattle.std.proofs.Common.{◌≡◌, ℕ, ◌+◌, ◌<◌, ◌≤◌, ◌⊎◌, inl, inr, Bool, true, false, List, [], ◌∷◌, ◌++◌, length, refl, append_assoc, ap, arith, None, zero, suc, ◌*◌}
use Rattle.rgo_ast.specs.Tree.{stmts_of}
use Rattle.rgo_ast.specs.Tree as tree
use Rattle.rgo_lexer.specs.{declared.terminals.Terminal.{Terminal, TheVariants.{Name, OpenParen, CloseParen, OpenBrace, CloseBrace, Semicolon, Var, Go, If, For, Return, Break, Continue}}, Lexemes.{Leaf, Lexeme, tok, is_same_terminal}}
use Rattle.rgo_grammar.specs.Grammar.{IsExprs, IsStmt, IsStmts, IsIf, IsStmt.{block as a_block, simple, if' as an_if, for' as a_for, go, return as returned, returns, break as broken, continue as continued}, IsStmts.{end, empty, last, more}}
use Rattle.rgo_grammar.specs.reading.{Read.{Reader, Read, next_lexeme, single}, Expressions.{expr, exprs}, Statements.{going, return_by, return_on, stmt_by, stmts, stmts_by, block_by, stmt, if_stmt, block}}
use Rattle.rgo_grammar.proofs.machine.{Table.{alone, Sym, T, Args, Stmts, StmtEnd, Value, step, Bin, Unary, next, row, Block, IfHead}, Runs.{run, closes}, Starts.{entered_then, one_start}}
use Rattle.rgo_grammar.proofs.reading.{Correct.{Correct, token_read, same_start, correct_given, correct_weaker, correct_under, correct_token_then, Empties, Correct.{done, stops}}, Lists.{listed_correct, list_syms}}
use Rattle.rgo_grammar.proofs.expressions.Correct.{value_correct, args_correct}
use Rattle.rgo_grammar.proofs.statements.{Simple.{Values, alone_correct, defining_correct}, Locals.{local_vars_correct}, Branches.{if_correct, Blocks, Ifs, IsBlock, for_on_correct}}

-- what comes before a `;` or `}`: nothing or a statement
abbrev pub IsItem : List Lexeme → List tree.Stmt → Type 0
IsItem z ss = ((z ≡ []) × (ss ≡ [])) ⊎ ((s : tree.Stmt) × (ss ≡ s ∷ []) × IsStmt z s)

abbrev pub ItemAt : List Lexeme → List tree.Stmt → List Lexeme → Type 0
ItemAt z ss w = IsItem z ss

-- a reader of statements up to their `}` that is correct on lists up to this length
abbrev pub Lists : ℕ → Reader (List tree.Stmt × Leaf) → Type 0
Lists m stmts =
    (l : List Lexeme) → length l ≤ m → Empties (Stmts ∷ []) (λ z x. IsStmts z x.0 x.1) l (stmts l)

-- a statement that begins with this token
keyword_correct : {k : Terminal} {i : Leaf} {l : List Lexeme} {a : List Sym} {r : Read tree.Stmt}
    → Empties a (λ z s. IsStmt (tok k i ∷ z) s) l r
    → ((s : List Sym) → run (tok k i ∷ l) (Stmts ∷ s) ≡ run l (a ++ (StmtEnd ∷ s)))
    → Correct (Stmts ∷ []) (λ _. StmtEnd ∷ []) ItemAt (tok k i ∷ l) (single r)
keyword_correct h e =
    token_read (correct_given _ (correct_under (StmtEnd ∷ []) h) (λ z s w g. inr (s, refl, g)))
    (λ s. rw append_assoc (e s))

-- after `return`: if no statement ends here, a value must come
return_run : (t : Lexeme) (l : List Lexeme) (s : List Sym) → next StmtEnd t.terminal ≡ None
    → run (t ∷ l) (Value ∷ StmtEnd ∷ s) ≡ run (t ∷ l) (Unary false ∷ Bin false ∷ StmtEnd ∷ s)
unfolding run step
return_run t l s e =
    rw (e, entered_then t.terminal (row (Unary false)) (Bin false ∷ []) (StmtEnd ∷ s)) refl

module _ (n m : ℕ) (small : m + 2 < n) (value_c : (h : Bool) → Values h (m + 1) (expr h n 1))
    (exprs_c : (l : List Lexeme) → length l ≤ m
    → Empties (Args ∷ [])
    (λ z x. IsExprs CloseParen z x.0) l (exprs CloseParen n (expr false n 1) l)) where
  going_correct : (i : Leaf) (l : List Lexeme) → length l ≤ m
      → Empties (T Name ∷ T OpenParen ∷ Args ∷ [])
      (λ z s. IsStmt (tok Go i ∷ z) s) l (going n (expr false n 1) i l)
  going_correct i l b =
      correct_token_then Name refl
      (λ j w c. correct_token_then OpenParen refl
      (λ k u d. correct_given _ (exprs_c u (omega (arith, b, ap length c, ap length d)))
      (λ z x w h. go i j k h)))

  return_by_correct : (i : Leaf) (k : Terminal) (j : Leaf) (l : List Lexeme) → length l ≤ m
      → Correct (Value ∷ StmtEnd ∷ []) (λ _. StmtEnd ∷ [])
      (λ z s w. IsStmt (tok Return i ∷ z) s) (tok k j ∷ l)
      (return_by (expr false n 1) i k (tok k j ∷ l))
  unfolding run step
  return_by_correct i Semicolon j l b = done [] refl (returned i) (λ s. refl)
  return_by_correct i CloseBrace j l b = done [] refl (returned i) (λ s. refl)
  return_by_correct i k j l b =
      same_start (correct_given _
      (correct_under (StmtEnd ∷ []) (value_c false (tok k j ∷ l) (omega (arith, b))))
      (λ z v w h. returns i h)) (λ s. return_run (tok k j) l s refl)

  at_return : (i : Leaf) (l : List Lexeme) → length l ≤ m
      → Correct (Value ∷ StmtEnd ∷ []) (λ _. StmtEnd ∷ [])
      (λ z s w. IsStmt (tok Return i ∷ z) s) l (return_on (expr false n 1) i l (next_lexeme l))
  unfolding run closes
  at_return i [] b = stops (λ s. refl)
  at_return i (t ∷ l) b = return_by_correct i t.terminal t.leaf l (omega (arith, b))

  module _ (block : Reader (List tree.Stmt × Leaf)) (block_c : Blocks m block)
      (stmts : Reader (List tree.Stmt × Leaf))
      (stmts_c : Lists m stmts)
      (ifs : Leaf → Reader tree.Stmt) (ifs_c : Ifs (m + 1) ifs) where
    pub stmt_by_correct : (k : Terminal) (i : Leaf) (l : List Lexeme) → length l ≤ m
        → is_same_terminal CloseBrace k ≡ false
        → Correct (Stmts ∷ [])
        (λ _. StmtEnd ∷ []) ItemAt (tok k i ∷ l) (stmt_by n block stmts ifs k i (tok k i ∷ l) l)
    unfolding run step
    stmt_by_correct OpenBrace i l b e =
        token_read (correct_given _ (correct_under (StmtEnd ∷ []) (stmts_c l b))
        (λ z x w h. inr (tree.Block (stmts_of x.0) i.at, refl, a_block i h))) (λ s. refl)
    stmt_by_correct If i l b e =
        keyword_correct
        (correct_weaker (ifs_c i l (omega (arith, b))) (λ z s w c h. an_if h)) (λ s. refl)
    stmt_by_correct For i l b e =
        keyword_correct
        (correct_weaker
        (for_on_correct m (expr true n 1)
        (λ w g. value_c true w (omega (arith, g))) block block_c i l b) (λ z s w c h. a_for h))
        (λ s. refl)
    stmt_by_correct Go i l b e = keyword_correct (going_correct i l b) (λ s. refl)
    stmt_by_correct Var i l b e =
        keyword_correct
        (correct_given _
        (local_vars_correct n m (expr false n 1)
        (λ w g. value_c false w (omega (arith, g))) l (omega (arith, b, small)) b)
        (λ z vs w h. h i)) (λ s. refl)
    stmt_by_correct Return i l b e =
        token_read (correct_given _ (at_return i l b) (λ z s w h. inr (s, refl, h))) (λ s. refl)
    stmt_by_correct Break i l b e =
        done (tok Break i ∷ []) refl (inr (tree.Break i.at, refl, broken i)) (λ s. refl)
    stmt_by_correct Continue i l b e =
        done (tok Continue i ∷ []) refl (inr (tree.Continue i.at, refl, continued i)) (λ s. refl)
    stmt_by_correct Semicolon i l b e = done [] refl (inl (refl, refl)) (λ s. refl)
    stmt_by_correct CloseBrace i l b e = cc
    stmt_by_correct k i l b e =
        correct_given _
        (alone_correct
        (defining_correct alone (m + 1) (expr false n 1) (value_c false) Stmts (StmtEnd ∷ []) refl
        refl k i l (omega (arith, b)) refl)) (λ z s w h. inr (s, refl, simple h))

abbrev IsList : List Lexeme → List tree.Stmt → Leaf → Type 0
IsList z b j = IsStmts z b j

list_last : (z : List Lexeme) (a : List tree.Stmt) (j : Leaf) → IsItem z a
    → IsList (z ++ tok CloseBrace j ∷ []) a j
list_last z a j (inl (e, f)) = rw (e, f) (end j)
list_last z a j (inr (s, f, h)) = rw f (last j h)

list_more : (z : List Lexeme) (a : List tree.Stmt) (i : Leaf) (y : List Lexeme) (b : List tree.Stmt)
    (j : Leaf) → IsItem z a → IsList y b j → IsList (z ++ tok Semicolon i ∷ y) (a ++ b) j
list_more z a i y b j (inl (e, f)) d = rw (e, f) (empty i d)
list_more z a i y b j (inr (s, f, h)) d = rw f (more i h d)

abbrev StmtsAt : List Lexeme → List tree.Stmt × Leaf → Type 0
StmtsAt z x = IsStmts z x.0 x.1

stmts_by_correct : (one : Reader (List tree.Stmt)) (n : ℕ) (l : List Lexeme) → length l < n
    → ((t : Lexeme) (m : List Lexeme) → length m < length l → is_same_terminal CloseBrace t.terminal ≡ false
    → Correct (Stmts ∷ []) (λ _. StmtEnd ∷ []) (λ z ss w. IsItem z ss) (t ∷ m) (one (t ∷ m)))
    → Empties (Stmts ∷ []) StmtsAt l (stmts_by one n l)
stmts_by_correct one n l b h =
    correct_weaker
    (listed_correct (list_syms refl refl refl refl refl refl) one IsItem IsList (length l) h
    (λ j. end j) list_last list_more n [] l b (omega arith)) (λ z x w c g. rw g.1 g.2)

block_run : (l : List Lexeme) (s : List Sym) → run l (Block ∷ s) ≡ run l (T OpenBrace ∷ Stmts ∷ s)
unfolding run closes
block_run [] s = refl
block_run (t ∷ l) s = one_start Block OpenBrace (Stmts ∷ []) t l s refl refl

block_by_correct : (one : Reader (List tree.Stmt)) (n : ℕ) (l : List Lexeme) → length l ≤ n
    → ((t : Lexeme) (m : List Lexeme) → length m + 1 < length l → is_same_terminal CloseBrace t.terminal ≡ false
    → Correct (Stmts ∷ []) (λ _. StmtEnd ∷ []) (λ z ss w. IsItem z ss) (t ∷ m) (one (t ∷ m)))
    → Correct (Block ∷ []) (λ _. []) IsBlock l (block_by one n l)
unfolding run step closes
block_by_correct one n l b h =
    same_start (correct_token_then OpenBrace refl
    (λ i w c. correct_weaker
    (stmts_by_correct one n w (omega (arith, b, ap length c))
    (λ t m g e. h t m (omega (arith, g, ap length c)) e)) (λ z x u d g. (i, z, refl, g))))
    (λ s. block_run l s)

mutual
  unfolding stmt

  pub stmt_correct : (n : ℕ) (t : Lexeme) (l : List Lexeme) → 4 * length (t ∷ l) + 4 ≤ n
      → is_same_terminal CloseBrace t.terminal ≡ false
      → Correct (Stmts ∷ []) (λ _. StmtEnd ∷ []) (λ z ss w. IsItem z ss) (t ∷ l) (stmt n (t ∷ l))
  stmt_correct zero t l b e = absurd (omega arith)
  stmt_correct (suc n) t l b e =
      stmt_by_correct n (length l) (omega arith) (λ h w g. value_correct h n w (omega arith))
      (λ w g. args_correct n w (omega arith)) (block_by (stmt n) n)
      (λ w g. block_by_correct (stmt n) n w (omega arith)
      (λ u m d c. stmt_correct n u m (omega arith) c)) (stmts_by (stmt n) n)
      (λ w g. stmts_by_correct (stmt n) n w (omega arith)
      (λ u m d c. stmt_correct n u m (omega arith) c)) (if_stmt n)
      (λ i w g. if_stmt_correct n i w (omega arith)) t.terminal t.leaf l (omega arith) e

  -- after `if`
  pub if_stmt_correct : (n : ℕ) (i : Leaf) (l : List Lexeme) → 4 * length l + 4 ≤ n
      → Empties (IfHead ∷ []) (λ z s. IsIf (tok If i ∷ z) s) l (if_stmt n i l)
  if_stmt_correct zero i l b = absurd (omega arith)
  if_stmt_correct (suc n) i l b =
      if_correct (length l) (block_by (stmt n) n)
      (λ w g. block_by_correct (stmt n) n w (omega arith)
      (λ u m d c. stmt_correct n u m (omega arith) c)) (if_stmt n)
      (λ i w g. if_stmt_correct n i w (omega arith)) (expr true n 1)
      (λ w g. value_correct true n w (omega arith)) i l (omega arith)

pub block_correct : (n : ℕ) (l : List Lexeme) → 4 * length l + 4 ≤ n
    → Correct (Block ∷ []) (λ _. []) (λ z x w. IsBlock z x w) l (block n l)
block_correct n l b =
    block_by_correct (stmt n) n l (omega arith) (λ t m g e. stmt_correct n t m (omega arith) e)

-- Reading the headers of `if` and `for`, up to the block or the first `;`, is correct.
use Rattle.std.proofs.Common.{◌≡◌, ℕ, ◌+◌, ◌≤◌, Bool, true, false, List, [], ◌∷◌, ◌++◌, length, refl, arith, append-nil, ap}
use Rattle.rgo_ast.specs.Tree as tree
use Rattle.rgo_lexer.specs.{declared.terminals.Terminal.{Terminal, TheVariants.{Arrow, Assign, Step, OpenBrace, Semicolon}}, Lexemes.{Leaf, Lexeme, tok, is_same_terminal}}
use Rattle.rgo_grammar.specs.Grammar.{IsExpr, IsSimple, IsClause, IsSimple.{plain}, IsClause.{empty, some}}
use Rattle.rgo_grammar.specs.reading.{Read.{Reader, Failed, At, next_lexeme}, Statements.{Head, condition, init, head_before_block, head_end_by, head_end_on, head_by, head}}
use Rattle.rgo_grammar.proofs.machine.{Table.{Context, before_if, before_for, Sym, Unary, Bin, Tail, Block, IfHead, IfElse, ForHead, Condition, rest, step}, Runs.{Stopped, run, closes}}
use Rattle.rgo_grammar.proofs.reading.Correct.{Correct, correct_bind, at_token, Correct.{done, stops}}
use Rattle.rgo_grammar.proofs.statements.Simple.{Values, tails, leaves, Left, defining_correct}

-- what follows a header that is a condition, and what follows the first `;` of another: `true` for
-- `if`
abbrev pub after_head : Bool → Head → List Sym
after_head true (condition v) = Block ∷ IfElse ∷ []
after_head true (init s) = Unary true ∷ Bin true ∷ Block ∷ IfElse ∷ []
after_head false (condition v) = Block ∷ []
after_head false (init s) = Condition ∷ []

-- the place of the first statement of a header: `true` for `if`
abbrev before : Bool → Context
before true = before_if
before false = before_for

abbrev pub IsHead : List Lexeme → Head → Type 0
IsHead z (condition v) = IsExpr true 1 z v
IsHead z (init s) =
    (y : List Lexeme) × (j : Leaf) × (z ≡ y ++ tok Semicolon j ∷ []) × IsClause true y s

abbrev HeadAt : List Lexeme → List Lexeme → Head → List Lexeme → Type 0
HeadAt x z h w = IsHead (x ++ z) h

plain_of : {h d : Bool} {x : List Lexeme} {v : tree.Expr}
    → IsSimple h d x (tree.Plain v) → IsExpr h 1 x v
plain_of (plain e) = e

-- after an expression
plain_end_by : (b : Bool) (x : List Lexeme) (v : tree.Expr) (k : Terminal) (i : Leaf)
    (l : List Lexeme) → IsExpr true 1 x v → tails k ≡ false
    → Correct (Tail (before b) ∷ []) (after_head b) (HeadAt x) (tok k i ∷ l)
    (head_end_by (tree.Plain v) k (tok k i ∷ l) l)
unfolding run step
plain_end_by true x v OpenBrace i l e g = done [] refl (rw append-nil e) (λ s. refl)
plain_end_by true x v Semicolon i l e g =
    done (tok Semicolon i ∷ []) refl (x, i, refl, some (plain e)) (λ s. refl)
plain_end_by false x v OpenBrace i l e g = done [] refl (rw append-nil e) (λ s. refl)
plain_end_by false x v Semicolon i l e g =
    done (tok Semicolon i ∷ []) refl (x, i, refl, some (plain e)) (λ s. refl)
plain_end_by b x v Arrow i l e g = cc
plain_end_by b x v (Step o) i l e g = cc
plain_end_by b x v (Assign o) i l e g = cc
plain_end_by true x v _ i l e g = stops (λ s. refl)
plain_end_by false x v _ i l e g = stops (λ s. refl)

-- after another simple statement
other_end_by : (b : Bool) (x : List Lexeme) (st : tree.Stmt) (k : Terminal) (i : Leaf)
    (l : List Lexeme) → IsSimple true true x st
    → ((m : List Lexeme) → head_before_block st m ≡ Failed (At m))
    → Correct (rest (before b)) (after_head b) (HeadAt x) (tok k i ∷ l)
    (head_end_by st k (tok k i ∷ l) l)
unfolding run step
other_end_by true x st OpenBrace i l e g = rw g (stops (λ s. refl))
other_end_by false x st OpenBrace i l e g = rw g (stops (λ s. refl))
other_end_by true x st Semicolon i l e g =
    done (tok Semicolon i ∷ []) refl (x, i, refl, some e) (λ s. refl)
other_end_by false x st Semicolon i l e g =
    done (tok Semicolon i ∷ []) refl (x, i, refl, some e) (λ s. refl)
other_end_by true x st _ i l e g = stops (λ s. refl)
other_end_by false x st _ i l e g = stops (λ s. refl)

no_end : (b : Bool) (st : tree.Stmt) (s : List Sym)
    → run [] (leaves (before b) st ++ s) ≡ Stopped []
unfolding run closes
no_end true (tree.Plain v) s = refl
no_end false (tree.Plain v) s = refl
no_end true _ s = refl
no_end false _ s = refl

head_end_some : (b : Bool) (x : List Lexeme) (st : tree.Stmt) (t : Lexeme) (l : List Lexeme)
    → IsSimple true true x st → Left st (t ∷ l)
    → Correct (leaves (before b) st) (after_head b) (HeadAt x) (t ∷ l)
    (head_end_by st t.terminal (t ∷ l) l)
head_end_some b x (tree.Plain v) t l e g = plain_end_by b x v t.terminal t.leaf l (plain_of e) g
head_end_some b x st t l e g = other_end_by b x st t.terminal t.leaf l e (λ m. refl)

head_end_correct : (b : Bool) (x : List Lexeme) (st : tree.Stmt) (w : List Lexeme)
    → IsSimple true true x st → Left st w
    → Correct (leaves (before b) st) (after_head b) (HeadAt x) w (head_end_on st w (next_lexeme w))
head_end_correct b x st [] e g = stops (λ s. no_end b st s)
head_end_correct b x st (t ∷ w) e g = head_end_some b x st t w e g

module _ (m : ℕ) (value : Reader tree.Expr) (value_c : Values true m value) where
  if_head_by : (k : Terminal) (i : Leaf) (l : List Lexeme) → length l + 1 ≤ m
      → Correct (IfHead ∷ []) (after_head true)
      (λ z h w. IsHead z h) (tok k i ∷ l) (head_by value k (tok k i ∷ l) l)
  unfolding run step
  if_head_by Semicolon i l b = done (tok Semicolon i ∷ []) refl ([], i, refl, empty) (λ s. refl)
  if_head_by k i l b =
      correct_bind (defining_correct before_if m value value_c IfHead [] refl refl k i l b refl)
      (λ z st w e d. rw append-nil (head_end_correct true z st w d.0 d.1))

  pub if_head_correct : (l : List Lexeme) → length l ≤ m
      → Correct (IfHead ∷ []) (after_head true) (λ z h w. IsHead z h) l (head value l)
  if_head_correct l b =
      at_token (head value) refl refl
      (λ t m c. if_head_by t.terminal t.leaf m (omega (arith, b, ap length c)))

  pub for_head_correct : (k : Terminal) (i : Leaf) (l : List Lexeme) → length l + 1 ≤ m
      → is_same_terminal OpenBrace k ≡ false
      → Correct (ForHead ∷ []) (after_head false)
      (λ z h w. IsHead z h) (tok k i ∷ l) (head value (tok k i ∷ l))
  unfolding run step
  for_head_correct OpenBrace i l b f = cc
  for_head_correct Semicolon i l b f =
      done (tok Semicolon i ∷ []) refl ([], i, refl, empty) (λ s. refl)
  for_head_correct k i l b f =
      correct_bind (defining_correct before_for m value value_c ForHead [] refl refl k i l b refl)
      (λ z st w e d. rw append-nil (head_end_correct false z st w d.0 d.1))

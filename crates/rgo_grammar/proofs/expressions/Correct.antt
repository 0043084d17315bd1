-- Reading expressions is correct, by induction on the turns. The hard case is climbing: reading goes back to a lower level of precedence
-- without taking a token, while the machine knows no levels and has one symbol that waits for an operator. So the fact about a level
-- also states that no operator comes next that binds as tightly, and only the outermost level ends the wait.
use Rattle.std.proofs.Common.{◌≡◌, ℕ, zero, suc, ◌+◌, ◌*◌, ◌<◌, ◌≤◌, nat_le, Bool, true, false, cond, List, [], ◌∷◌, ◌++◌, length, Some, refl, ◌∙◌, append_assoc, arith, append-nil}
use Rattle.std.proofs.lemmas.Bool.{leb-true, leb-false}
use Rattle.rgo_ast.specs.declared.ops.{BinaryOp.{BinaryOp}, UnaryOp.{UnaryOp}}
use Rattle.rgo_ast.specs.declared.ops.BinaryOp.TheVariants as op
use Rattle.rgo_ast.specs.declared.ops.UnaryOp.TheVariants as unary_op
use Rattle.rgo_ast.specs.Tree as tree
use Rattle.rgo_lexer.specs.{declared.terminals.Terminal.{Terminal, TheVariants.{Binary, Bang, Ampersand, Arrow, CloseParen}}, Lexemes.{Leaf, Lexeme, tok}}
use Rattle.rgo_grammar.specs.Grammar.{level, sign, IsExpr, IsUnary, IsPrimary, IsExprs, IsExpr.{unary as of_unary, binary}, IsUnary.{signed as with_sign, primary as of_primary}}
use Rattle.rgo_grammar.specs.reading.{Read.{Reader, Read, Done, ◌>>=◌}, Expressions.{exprs, signed, unary_by, climb_by, expr, climb, unary, primary, post}}
use Rattle.rgo_grammar.proofs.machine.{Table.{Sym, Unary, Bin, Post, Args, step}, Runs.{run, closes}}
use Rattle.rgo_grammar.proofs.reading.Correct.{Correct, token_read, correct_bind, correct_given, correct_weaker, correct_then, shorter, Empties, Correct.{done, stops}}
use Rattle.rgo_grammar.proofs.expressions.{Starts.{level_of, top, starts_some, unary_starts, primary_starts, Reads, bin_pops, operator_run, unsigned}, Literals.{literal_correct}, Operands.{args_correct as arg_list, operand_by_correct, post_by_correct}}

-- if no operator comes next, the wait for one is over
pub correct_popped : {A : Type 0} {h : Bool} {from : List Sym}
    {P : List Lexeme → A → List Lexeme → Type 0} {l : List Lexeme} {m : Read A}
    → Correct from (λ _. Bin h ∷ []) (λ z v w. P z v w × (top w < 1)) l m
    → Correct from (λ _. []) P l m
correct_popped {h = h} (done z {a} {w} c p g) = done z c p.0 (λ s. g s ∙ bin_pops h w s p.1)
correct_popped (stops g) = stops g

signed_correct : (h : Bool) (again : Reader tree.Expr) (k : Terminal) (o : UnaryOp) (i : Leaf)
    (l : List Lexeme) → sign k ≡ Some o
    → ((s : List Sym) → run (tok k i ∷ l) (Unary h ∷ s) ≡ run l (Unary h ∷ s))
    → Empties (Unary h ∷ []) (IsUnary h) l (again l)
    → Empties (Unary h ∷ []) (IsUnary h) (tok k i ∷ l) (signed again o i l)
signed_correct h again k o i l e r g =
    token_read (correct_given _ g (λ z v w u. with_sign k o i e u)) r

unary_by_correct : (h : Bool) (n : ℕ) (inner again primary : Reader tree.Expr) (k : Terminal)
    (i : Leaf) (l : List Lexeme) → length l < n
    → ((m : List Lexeme) → length m ≤ length l → Reads inner m)
    → Empties (Unary h ∷ []) (IsUnary h) l (again l)
    → (unsigned k ≡ true → Empties (Unary h ∷ []) IsPrimary (tok k i ∷ l) (primary (tok k i ∷ l)))
    → Empties (Unary h ∷ []) (IsUnary h) (tok k i ∷ l)
    (unary_by h n inner again primary k i (tok k i ∷ l) l)
unfolding run step
unary_by_correct h n inner again primary (Binary op.Add) i l b hi ha hp =
    signed_correct h again (Binary op.Add) unary_op.Plus i l refl (λ s. refl) ha
unary_by_correct h n inner again primary (Binary op.Sub) i l b hi ha hp =
    signed_correct h again (Binary op.Sub) unary_op.Minus i l refl (λ s. refl) ha
unary_by_correct h n inner again primary Bang i l b hi ha hp =
    signed_correct h again Bang unary_op.Not i l refl (λ s. refl) ha
unary_by_correct h n inner again primary Arrow i l b hi ha hp =
    signed_correct h again Arrow unary_op.Receive i l refl (λ s. refl) ha
unary_by_correct true n inner again primary Ampersand i l b hi ha hp = stops (λ s. refl)
unary_by_correct false n inner again primary Ampersand i l b hi ha hp =
    token_read (literal_correct (length l) inner hi n i l b (omega arith)) (λ s. refl)
unary_by_correct h n inner again primary k i l b hi ha hp =
    correct_weaker (hp refl) (λ z v w c p. of_primary p)

-- what was read, and that no operator comes next that binds at least as tightly
abbrev IsExprAt : Bool → ℕ → List Lexeme → List Lexeme → tree.Expr → List Lexeme → Type 0
IsExprAt h least x z v w = IsExpr h least (x ++ z) v × (top w < least)

operator_correct : (h : Bool) (right : ℕ → Reader tree.Expr) (again : tree.Expr → Reader tree.Expr)
    (least : ℕ) (a : tree.Expr) (x : List Lexeme) (o : BinaryOp) (i : Leaf) (l : List Lexeme)
    → least ≤ level o
    → Correct (Unary h ∷ Bin h ∷ [])
    (λ _. Bin h ∷ []) (IsExprAt h (level o + 1) []) l (right (level o + 1) l)
    → ((b : tree.Expr) (y m : List Lexeme) → IsExpr h least y b → IsExpr h (top m) y b
    → length m ≤ length l
    → Correct (Bin h ∷ []) (λ _. Bin h ∷ []) (IsExprAt h least y) m (again b m))
    → IsExpr h (level o) x a
    → Correct (Bin h ∷ [])
    (λ _. Bin h ∷ []) (IsExprAt h least x) (tok (Binary o) i ∷ l)
    (right (level o + 1) l >>= (λ b. again (tree.Binary o a b i.at)))
operator_correct h right again least a x o i l le hr ha f =
    token_read (correct_bind hr
    (λ y b w c g. correct_weaker
    (ha (tree.Binary o a b i.at) (x ++ tok (Binary o) i ∷ y) w (binary o i le f g.0)
    (binary o i (omega (arith, g.1)) f g.0) (omega (arith, shorter l y w c)))
    (λ z v u d e. (rw append_assoc at e.0, e.1)))) (λ s. operator_run h o i l s)

climb_by_correct : (h : Bool) (right : ℕ → Reader tree.Expr) (again : tree.Expr → Reader tree.Expr)
    (least : ℕ) (a : tree.Expr) (x : List Lexeme) (k : Terminal) (i : Leaf) (l : List Lexeme)
    → 1 ≤ least → IsExpr h least x a → IsExpr h (level_of k) x a
    → ((p : ℕ) → 1 ≤ p
    → Correct (Unary h ∷ Bin h ∷ []) (λ _. Bin h ∷ []) (IsExprAt h p []) l (right p l))
    → ((b : tree.Expr) (y m : List Lexeme) → IsExpr h least y b → IsExpr h (top m) y b
    → length m ≤ length l
    → Correct (Bin h ∷ []) (λ _. Bin h ∷ []) (IsExprAt h least y) m (again b m))
    → Correct (Bin h ∷ [])
    (λ _. Bin h ∷ []) (IsExprAt h least x) (tok k i ∷ l)
    (climb_by right again least a k i (tok k i ∷ l) l)
climb_by_correct h right again least a x (Binary o) i l one f g hr ha =
    elim (nat_le least (level o)) as
    (λ v. nat_le least (level o) ≡ v
    → Correct (Bin h ∷ [])
    (λ _. Bin h ∷ []) (IsExprAt h least x) (tok (Binary o) i ∷ l)
    (cond v (right (level o + 1) l >>= (λ b. again (tree.Binary o a b i.at)))
    (Done a (tok (Binary o) i ∷ l)))) [
      | true ↦ λ is. operator_correct h right again least a x o i l (leb-true least (level o) is)
          (hr (level o + 1) (omega arith)) ha g
      | false ↦ λ isnt. done [] refl (rw append-nil f, leb-false least (level o) isnt) (λ s. refl)
    ] refl
climb_by_correct h right again least a x k i l one f g hr ha =
    done [] refl (rw append-nil f, omega arith) (λ s. refl)

mutual
  unfolding expr run closes

  pub expr_correct : (h : Bool) (n least : ℕ) (l : List Lexeme) → 1 ≤ least → 4 * length l + 3 ≤ n
      → Correct (Unary h ∷ Bin h ∷ []) (λ _. Bin h ∷ [])
      (λ z v w. IsExpr h least z v × (top w < least)) l (expr h n least l)
  expr_correct h zero least l one b = absurd (omega arith)
  expr_correct h (suc n) least l one b =
      correct_then (unary_correct h n l (omega arith))
      (λ x a w c u. climb_correct h n least a x w one (of_unary u) (of_unary u)
      (omega (arith, shorter l x w c, starts_some x (unary_starts u))))

  pub climb_correct : (h : Bool) (n least : ℕ) (a : tree.Expr) (x l : List Lexeme) → 1 ≤ least
      → IsExpr h least x a → IsExpr h (top l) x a → 4 * length l + 1 ≤ n
      → Correct (Bin h ∷ []) (λ _. Bin h ∷ [])
      (λ z v w. IsExpr h least (x ++ z) v × (top w < least)) l (climb h n least a l)
  climb_correct h zero least a x l one f g b = absurd (omega arith)
  climb_correct h (suc n) least a x [] one f g b =
      done [] refl (rw append-nil f, omega arith) (λ s. refl)
  climb_correct h (suc n) least a x (t ∷ l) one f g b =
      climb_by_correct h (expr h n) (climb h n least) least a x t.terminal t.leaf l one f g
      (λ p q. expr_correct h n p l q (omega arith))
      (λ c y m d e s. climb_correct h n least c y m one d e (omega arith))

  pub unary_correct : (h : Bool) (n : ℕ) (l : List Lexeme) → 4 * length l + 2 ≤ n
      → Empties (Unary h ∷ []) (IsUnary h) l (unary h n l)
  unary_correct h zero l b = absurd (omega arith)
  unary_correct h (suc n) [] b = stops (λ s. refl)
  unary_correct h (suc n) (t ∷ l) b =
      unary_by_correct h n (expr false n 1) (unary h n) (primary n) t.terminal t.leaf l
      (omega arith)
      (λ m g. correct_popped (expr_correct false n 1 m (omega arith) (omega arith)))
      (unary_correct h n l (omega arith)) (λ u. primary_correct h n t l u (omega arith))

  pub primary_correct : (h : Bool) (n : ℕ) (t : Lexeme) (l : List Lexeme)
      → unsigned t.terminal ≡ true → 4 * length l + 5 ≤ n
      → Empties (Unary h ∷ []) IsPrimary (t ∷ l) (primary n (t ∷ l))
  primary_correct h zero t l u b = absurd (omega arith)
  primary_correct h (suc n) t l u b =
      correct_bind
      (operand_by_correct (length l) (expr false n 1)
      (λ m g. correct_popped (expr_correct false n 1 m (omega arith) (omega arith))) n (omega arith)
      h t.terminal t.leaf l (omega arith) u)
      (λ x v w c p. post_correct n v x w p
      (omega (arith, shorter (t ∷ l) x w c, starts_some x (primary_starts p))))

  -- what was read so far has the tokens x
  pub post_correct : (n : ℕ) (v : tree.Expr) (x l : List Lexeme) → IsPrimary x v
      → 4 * length l + 1 ≤ n → Empties (Post ∷ []) (λ z u. IsPrimary (x ++ z) u) l (post n v l)
  post_correct zero v x l p b = absurd (omega arith)
  post_correct (suc n) v x [] p b = done [] refl (rw append-nil p) (λ s. refl)
  post_correct (suc n) v x (t ∷ l) p b =
      post_by_correct (length l) (expr false n 1)
      (λ m g. correct_popped (expr_correct false n 1 m (omega arith) (omega arith))) n (omega arith)
      (post n) v x t.terminal t.leaf l (omega arith) p
      (λ u y m q g. post_correct n u y m q (omega arith))

-- an expression that no operator follows
pub value_correct : (h : Bool) (n : ℕ) (l : List Lexeme) → 4 * length l + 3 ≤ n
    → Empties (Unary h ∷ Bin h ∷ []) (IsExpr h 1) l (expr h n 1 l)
value_correct h n l b = correct_popped (expr_correct h n 1 l (omega arith) b)

-- an argument list after its `(`
pub args_correct : (n : ℕ) (l : List Lexeme) → 4 * length l + 3 ≤ n
    → Empties (Args ∷ [])
    (λ z x. IsExprs CloseParen z x.0) l (exprs CloseParen n (expr false n 1) l)
args_correct n l b =
    arg_list (length l) (expr false n 1)
    (λ m g. value_correct false n m (omega arith)) n l (omega arith) (omega arith)

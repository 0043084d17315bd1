-- Reading `for` and `if` is correct if reading blocks and the next `if` is, on shorter lists.
use Rattle.std.proofs.Common.{◌≡◌, ℕ, ◌+◌, ◌≤◌, true, false, List, [], ◌∷◌, ◌++◌, length, Option, Some, None, refl, append_assoc, arith, sym, ap}
use Rattle.rgo_ast.specs.Tree.{stmts_of, clause_of}
use Rattle.rgo_ast.specs.Tree as tree
use Rattle.rgo_lexer.specs.{declared.terminals.Terminal.{Terminal, TheVariants.{OpenBrace, Semicolon, If, For, Else}}, Lexemes.{Leaf, Lexeme, tok}}
use Rattle.rgo_grammar.specs.Grammar.{IsSimple, IsClause, IsCondition, IsStmts, IsIf, IsFor, IsExpr, IsElse, IsClause.{empty, some as a_clause}, IsCondition.{none as unconditional, some as on_condition}, IsFor.{while, three}, IsIf.{plain, with}, IsElse.{none as no_else, an_if, a_block}}
use Rattle.rgo_grammar.specs.reading.{Read.{Reader, next_lexeme, ◌>>=◌}, Statements.{valued, Head, condition, init, condition_by, post_stmt_by, looped, for_rest, for_by, for_on, head, else_body_by, else_by, else_on, branches, if_rest, condition_on, post_stmt_on, else_body_on}}
use Rattle.rgo_grammar.proofs.machine.{Table.{for_post, T, Unary, Bin, Tail, Block, IfHead, ForHead, Condition, ForStep, step, IfElse, ElseBody}, Runs.{run, closes}, Starts.{starts_as, alike}}
use Rattle.rgo_grammar.proofs.reading.Correct.{Correct, same_start, correct_bind, correct_given, correct_under, correct_then, correct_token_given, shorter, token_read, correct_weaker, at_token, Empties, Correct.{done}}
use Rattle.rgo_grammar.proofs.statements.{Simple.{Values, valued_correct, correct_left, left_before_block}, Headers.{IsHead, after_head, for_head_correct, if_head_correct}}

abbrev pub IsBlock : List Lexeme → List tree.Stmt × Leaf → List Lexeme → Type 0
IsBlock z x w = (i : Leaf) × (y : List Lexeme) × (z ≡ tok OpenBrace i ∷ y) × IsStmts y x.0 x.1

-- a reader of blocks that is correct on lists up to this length
abbrev pub Blocks : ℕ → Reader (List tree.Stmt × Leaf) → Type 0
Blocks m block =
    (l : List Lexeme) → length l ≤ m → Correct (Block ∷ []) (λ _. []) IsBlock l (block l)

-- and a reader of what follows `if`, on shorter lists
abbrev pub Ifs : ℕ → (Leaf → Reader tree.Stmt) → Type 0
Ifs m again =
    (i : Leaf) (l : List Lexeme) → length l + 1 ≤ m
    → Empties (IfHead ∷ []) (λ z s. IsIf (tok If i ∷ z) s) l (again i l)

-- ---- the second part of the header of a `for`

abbrev IsConditionEnd : List Lexeme → Option tree.Expr → List Lexeme → Type 0
IsConditionEnd z c w =
    (y : List Lexeme) × (k : Leaf) × (z ≡ y ++ tok Semicolon k ∷ []) × IsCondition y c

module _ (m : ℕ) (value : Reader tree.Expr) (value_c : Values true m value) where
  condition_by_correct : (k : Terminal) (i : Leaf) (l : List Lexeme) → length l + 1 ≤ m
      → Correct (Condition ∷ [])
      (λ _. ForStep ∷ []) IsConditionEnd (tok k i ∷ l) (condition_by value k (tok k i ∷ l) l)
  unfolding run step
  condition_by_correct Semicolon i l b =
      done (tok Semicolon i ∷ []) refl ([], i, refl, unconditional) (λ s. refl)
  condition_by_correct k i l b =
      same_start (correct_then (value_c (tok k i ∷ l) (omega (arith, b)))
      (λ z v w e h. correct_under (ForStep ∷ [])
      (correct_token_given Semicolon _ refl (λ j u. (z, j, refl, on_condition h)))))
      (λ s. starts_as Condition (Unary true) (Bin true ∷ T Semicolon ∷ ForStep ∷ [])
      (tok k i) l s refl refl refl)

  step_valued : (l : List Lexeme) → length l ≤ m
      → Correct (Unary true ∷ Bin true ∷ Tail for_post ∷ []) (λ _. Block ∷ [])
      (λ z s w. IsSimple true false z s) l (valued value l)
  step_valued l b =
      correct_left (valued_correct for_post m value value_c false l b)
      (λ z st w g. (g.0, λ s. left_before_block st w s g.1))

  step_by_correct : (k : Terminal) (i : Leaf) (l : List Lexeme) → length l + 1 ≤ m
      → Correct (ForStep ∷ []) (λ _. Block ∷ [])
      (λ z p w. IsClause false z p) (tok k i ∷ l) (post_stmt_by value k (tok k i ∷ l))
  unfolding run step
  step_by_correct OpenBrace i l b = done [] refl empty (λ s. refl)
  step_by_correct k i l b =
      same_start (correct_given _ (step_valued (tok k i ∷ l) (omega (arith, b)))
      (λ z s w h. a_clause h))
      (λ s. starts_as ForStep (Unary true) (Bin true ∷ Tail for_post ∷ [])
      (tok k i) l s refl refl refl)

-- ---- `for`

abbrev ForAt : Leaf → List Lexeme → List Lexeme → tree.Stmt → List Lexeme → Type 0
ForAt i x z s w = IsFor (tok For i ∷ (x ++ z)) s

three_of : (i j k : Leaf) {x u z v y : List Lexeme} {s p : Option tree.Stmt} {c : Option tree.Expr}
    {b : List tree.Stmt} {end : Leaf} (w : List Lexeme) (m : Leaf) → x ≡ u ++ tok Semicolon j ∷ []
    → z ≡ v ++ tok Semicolon k ∷ [] → IsClause true u s → IsCondition v c → IsClause false w p
    → IsStmts y b end
    → IsFor (tok For i ∷ (x ++ (z ++ (w ++ tok OpenBrace m ∷ y))))
    (tree.For (clause_of s) c (clause_of p) (stmts_of b) i.at)
three_of i j k {u = u} {v = v} {y = y} w m e f hs hc hp hb =
    rw (e, f, append_assoc u (tok Semicolon j ∷ []), append_assoc v (tok Semicolon k ∷ []))
    (three i j k m hs hc hp hb)

module _ (m : ℕ) (value : Reader tree.Expr) (value_c : Values true m value)
    (block : Reader (List tree.Stmt × Leaf)) (block_c : Blocks m block) where
  looped_correct : (Q : List Lexeme → tree.Stmt → List Lexeme → Type 0) (i : Leaf) (l : List Lexeme)
      (s : Option tree.Stmt) (c : Option tree.Expr) (p : Option tree.Stmt) → length l ≤ m
      → ((k : Leaf) (y : List Lexeme) (b : List tree.Stmt) (end : Leaf) (w : List Lexeme)
      → IsStmts y b end
      → Q (tok OpenBrace k ∷ y) (tree.For (clause_of s) c (clause_of p) (stmts_of b) i.at) w)
      → Correct (Block ∷ []) (λ _. []) Q l (looped block i s c p l)
  looped_correct Q i l s c p b g =
      correct_given _ (block_c l b) (λ z x w h. rw h.2 (g h.0 h.1 x.0 x.1 w h.3))

  for_rest_correct : (i : Leaf) (x : List Lexeme) (h : Head) (l : List Lexeme) → length l ≤ m
      → IsHead x h
      → Correct (after_head false h) (λ _. []) (ForAt i x) l (for_rest block value i h l)
  for_rest_correct i x (condition c) l b h =
      looped_correct (ForAt i x) i l None (Some c) None b
      (λ k y bs end w d. while i k (on_condition h) d)
  for_rest_correct i x (init s) l b (u, j, e, hs) =
      correct_bind
      (at_token (λ w. condition_on value w (next_lexeme w)) refl refl
      (λ t n g. condition_by_correct m value value_c t.terminal t.leaf n
      (omega (arith, b, ap length g))))
      (λ z c w ec (v, k, ez, hc). correct_bind
      (at_token (λ w. post_stmt_on value w (next_lexeme w)) refl refl
      (λ t n g. step_by_correct m value value_c t.terminal t.leaf n
      (omega (arith, b, shorter l z w ec, ap length g))))
      (λ y p o eo hp. looped_correct
      (λ q t r. ForAt i x (z ++ (y ++ q)) t r) i o s c p
      (omega (arith, b, shorter l z w ec, shorter w y o eo))
      (λ n q bs end r d. three_of i j k y n e ez hs hc hp d)))

  for_by_correct : (i : Leaf) (k : Terminal) (j : Leaf) (l : List Lexeme) → length l + 1 ≤ m
      → Correct (ForHead ∷ [])
      (λ _. []) (ForAt i []) (tok k j ∷ l) (for_by block value i k (tok k j ∷ l))
  unfolding run step
  for_by_correct i OpenBrace j l b =
      same_start (looped_correct (ForAt i []) i (tok OpenBrace j ∷ l) None None None
      (omega (arith, b)) (λ k y bs end w d. while i k unconditional d)) (λ s. refl)
  for_by_correct i k j l b =
      correct_bind (for_head_correct m value value_c k j l b refl)
      (λ z h w e d. for_rest_correct i z h w (omega (arith, b, shorter (tok k j ∷ l) z w e)) d)

  pub for_on_correct : (i : Leaf) (l : List Lexeme) → length l ≤ m
      → Empties (ForHead ∷ [])
      (λ z s. IsFor (tok For i ∷ z) s) l (for_on block value i l (next_lexeme l))
  for_on_correct i l b =
      at_token (λ w. for_on block value i w (next_lexeme w)) refl refl
      (λ t n g. for_by_correct i t.terminal t.leaf n (omega (arith, b, ap length g)))

abbrev ElseAt : List Lexeme → List Lexeme → Option tree.Stmt → Type 0
ElseAt x z e = (j : Leaf) → IsElse (tok Else j ∷ (x ++ z)) e

-- the block that begins at this token
abbrev BlockFrom : Leaf → List Lexeme → List tree.Stmt × Leaf → Type 0
BlockFrom i z x = (y : List Lexeme) × (z ≡ tok OpenBrace i ∷ y) × IsStmts y x.0 x.1

same_leaf : (k j : Terminal) (i c : Leaf) (l w : List Lexeme) → tok k i ∷ l ≡ tok j c ∷ w → c ≡ i
same_leaf k j i c l w e = let f : tok k i ≡ tok j c = cc in sym (ap (λ u. u.leaf) f)

abbrev IfAt : Leaf → List Lexeme → List Lexeme → tree.Stmt → List Lexeme → Type 0
IfAt i x z s w = IsIf (tok If i ∷ (x ++ z)) s

with_of : (i j k : Leaf) {w x y z v : List Lexeme} {s : Option tree.Stmt} {c : tree.Expr}
    {b : List tree.Stmt} {e : Option tree.Stmt} {end : Leaf} → v ≡ w ++ tok Semicolon j ∷ []
    → IsClause true w s → IsExpr true 1 x c → IsStmts y b end → IsElse z e
    → IsIf (tok If i ∷ (v ++ (x ++ tok OpenBrace k ∷ (y ++ z))))
    (tree.If (clause_of s) c (stmts_of b) (clause_of e) i.at)
with_of i j k {w = w} d hs hc hb he =
    rw (d, append_assoc w (tok Semicolon j ∷ [])) (with i j k hs hc hb he)

module _ (m : ℕ) (block : Reader (List tree.Stmt × Leaf)) (block_c : Blocks m block)
    (again : Leaf → Reader tree.Stmt)
    (again_c : Ifs m again) where
  block_from : (k : Terminal) (i : Leaf) (l : List Lexeme) → length l + 1 ≤ m
      → Empties (Block ∷ []) (BlockFrom i) (tok k i ∷ l) (block (tok k i ∷ l))
  block_from k i l b =
      correct_weaker (block_c (tok k i ∷ l) (omega (arith, b)))
      (λ z x w e (c, y, ez, h). let e' = rw ez at e in let is : c ≡ i = same_leaf k OpenBrace i c l
      (y ++ w) e' in (y, rw (ez, is) refl, h))

  else_body_by_correct : (k : Terminal) (i : Leaf) (l : List Lexeme) → length l + 1 ≤ m
      → Empties (ElseBody ∷ []) (ElseAt []) (tok k i ∷ l)
      (else_body_by block again k i (tok k i ∷ l) l)
  unfolding run step
  else_body_by_correct If i l b =
      token_read (correct_given _ (again_c i l (omega (arith, b))) (λ z s w h. λ j. an_if j h))
      (λ s. refl)
  else_body_by_correct k i l b =
      same_start (correct_given _ (block_from k i l b) (λ z x w h. λ j. rw h.1 (a_block j i h.2)))
      (λ s. alike ElseBody Block (tok k i) l s refl refl)

  else_by_correct : (k : Terminal) (i : Leaf) (l : List Lexeme) → length l + 1 ≤ m
      → Empties (IfElse ∷ []) IsElse (tok k i ∷ l) (else_by block again k (tok k i ∷ l) l)
  unfolding run step
  else_by_correct Else i l b =
      token_read (correct_weaker
      (at_token (λ w. else_body_on block again w (next_lexeme w)) refl refl
      (λ t n g. else_body_by_correct t.terminal t.leaf n (omega (arith, b, ap length g))))
      (λ z e w c h. h i)) (λ s. refl)
  else_by_correct _ i l b = done [] refl no_else (λ s. refl)

  else_on_correct : (l : List Lexeme) → length l ≤ m
      → Empties (IfElse ∷ []) IsElse l (else_on block again l (next_lexeme l))
  unfolding run closes
  else_on_correct [] b = done [] refl no_else (λ s. refl)
  else_on_correct (t ∷ l) b = else_by_correct t.terminal t.leaf l (omega (arith, b))

  branches_correct : (Q : List Lexeme → tree.Stmt → List Lexeme → Type 0) (i : Leaf)
      (s : Option tree.Stmt) (c : tree.Expr) (l : List Lexeme) → length l ≤ m
      → ((k : Leaf) (y z : List Lexeme) (b : List tree.Stmt) (end : Leaf) (e : Option tree.Stmt)
      (w : List Lexeme) → IsStmts y b end → IsElse z e
      → Q (tok OpenBrace k ∷ (y ++ z)) (tree.If (clause_of s) c (stmts_of b) (clause_of e) i.at) w)
      → Correct (Block ∷ IfElse ∷ []) (λ _. []) Q l (branches block again i s c l)
  branches_correct Q i s c l b g =
      correct_then (block_c l b)
      (λ z x w d (k, y, ez, h). correct_given _
      (else_on_correct w (omega (arith, b, shorter l z w d)))
      (λ v e u f. rw ez (g k y v x.0 x.1 e u h f)))

  module _ (value : Reader tree.Expr) (value_c : Values true m value) where
    if_rest_correct : (i : Leaf) (x : List Lexeme) (h : Head) (l : List Lexeme) → length l ≤ m
        → IsHead x h
        → Correct (after_head true h) (λ _. []) (IfAt i x) l (if_rest block again value i h l)
    if_rest_correct i x (condition c) l b h =
        branches_correct (IfAt i x) i None c l b (λ k y z bs end e w d f. plain i k h d f)
    if_rest_correct i x (init s) l b (v, j, ex, hs) =
        correct_then (value_c l b)
        (λ u c w e hc. branches_correct
        (λ q t r. IfAt i x (u ++ q) t r) i s c w (omega (arith, b, shorter l u w e))
        (λ k y z bs end f r d g. with_of i j k ex hs hc d g))

    pub if_correct : (i : Leaf) (l : List Lexeme) → length l ≤ m
        → Empties (IfHead ∷ [])
        (λ z s. IsIf (tok If i ∷ z) s) l (head value l >>= if_rest block again value i)
    if_correct i l b =
        correct_bind (if_head_correct m value value_c l b)
        (λ z h w e d. if_rest_correct i z h w (omega (arith, b, shorter l z w e)) d)

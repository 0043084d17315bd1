-- Reading a primary expression is correct if reading expressions in brackets is: lists of them, `new` and `make`, what begins one, what
-- follows it. That premise is a reader `inner`, correct on shorter lists, so the induction is only in `Correct`.
use Rattle.std.proofs.Common.{◌≡◌, ℕ, ◌<◌, ◌≤◌, Bool, true, false, List, [], ◌∷◌, ◌++◌, length, refl, append_assoc, arith, append-nil, ap}
use Rattle.rgo_ast.specs.Tree.{exprs_of}
use Rattle.rgo_ast.specs.Tree as tree
use Rattle.rgo_ast.specs.declared.ops.BinaryOp.TheVariants as op
use Rattle.rgo_lexer.specs.{Lexemes.{Leaf, Lexeme, tok, ident}, declared.terminals.Terminal.{Terminal, TheVariants.{CloseParen, Comma, Name, New, Make, Number, Text, Binary, Bang, Ampersand, Arrow, OpenParen, OpenBracket, CloseBracket, Dot, Chan}}}
use Rattle.rgo_grammar.specs.Grammar.{IsExprs.{none, last, more}, IsMakeEnd.{plain, comma}, IsPrimary.{new, make_slice as is_slice, make_chan, make_sized, number, text, name, parens as in_parens, select, index, call}, Listed.{none as none_item, last as last_item, more as next_item}, IsPrimary, IsType, IsMakeEnd, Listed, IsExpr, IsExprs}
use Rattle.rgo_grammar.specs.reading.{Expressions.{exprs, make_end, make_end_by, capacity_by, sized_chan_by, make_slice, make_args_by, new_at, parens, operand_by, post_by, make_args, capacity, sized_chan}, Types.{a_type}, Read.{Reader}}
use Rattle.rgo_grammar.proofs.machine.{Table.{Sym, Bin, Args, expr_row, T, Unary, Post, step, AType, MakeType, MakeSize, MakeMore, MakeEnd}, Runs.{run}, Starts.{starts_as}}
use Rattle.rgo_grammar.proofs.reading.{Correct.{Correct, same_start, correct_weaker, correct_under, token_read, correct_then, correct_token_then, correct_token_given, shorter, correct_given, correct_token, at_token, Empties, Correct.{done, stops}}, Lists.{ListSyms, list_correct, list_syms}}
use Rattle.rgo_grammar.proofs.types.Correct.{type_correct}
use Rattle.rgo_grammar.proofs.expressions.Starts.{Reads, unsigned}

-- ---- `new`, and the end of `make`

make_end_by_correct : (k : Terminal) (i : Leaf) (l : List Lexeme)
    → Empties (MakeEnd ∷ []) (λ z j. IsMakeEnd z) (tok k i ∷ l) (make_end_by k (tok k i ∷ l) l)
unfolding run step
make_end_by_correct CloseParen i l = done (tok CloseParen i ∷ []) refl (plain i) (λ s. refl)
make_end_by_correct Comma i l =
    token_read (correct_weaker (correct_token CloseParen refl) (λ z j w c e. rw e (comma i j)))
    (λ s. refl)
make_end_by_correct _ i l = stops (λ s. refl)

make_end_correct : (l : List Lexeme) → Empties (MakeEnd ∷ []) (λ z j. IsMakeEnd z) l (make_end l)
make_end_correct l = at_token make_end refl refl (λ t m c. make_end_by_correct t.terminal t.leaf m)

pub new_correct : (i : Leaf) (l : List Lexeme)
    → Empties (T OpenParen ∷ T Name ∷ T CloseParen ∷ [])
    (λ z v. IsPrimary (tok New i ∷ z) v) l (new_at i l)
new_correct i l =
    correct_token_then OpenParen refl
    (λ j w c. correct_token_then Name refl
    (λ k u d. correct_token_given CloseParen _ refl (λ m w. new i j k m)))

-- ---- lists of expressions

exprs_listed : {closer : Terminal} {z : List Lexeme} {vs : List tree.Expr}
    → Listed (IsExpr false 1) Comma closer z vs → IsExprs closer z vs
exprs_listed (none_item j) = none j
exprs_listed (last_item j h) = last j h
exprs_listed (next_item j h d) = more j h (exprs_listed d)

-- `inner` reads an expression in brackets, of lists up to a bound
module _ (bound : ℕ) (inner : Reader tree.Expr)
    (inner_c : (m : List Lexeme) → length m ≤ bound → Reads inner m) where
  pub exprs_correct : {closer : Terminal} {L E : Sym}
      → ListSyms Comma closer (expr_row false (Bin false ∷ E ∷ [])) L E → (n : ℕ) (l : List Lexeme)
      → length l < n → length l ≤ bound
      → Empties (L ∷ []) (λ z x. IsExprs closer z x.0) l (exprs closer n inner l)
  exprs_correct {L = L} {E = E} syms n l h b =
      correct_weaker
      (list_correct inner bound syms
      (λ t m g e. same_start (correct_under (E ∷ []) (inner_c (t ∷ m) (omega arith)))
      (λ s. starts_as L (Unary false) (Bin false ∷ E ∷ []) t m s (rw (syms.list_row, e) refl)
      syms.list_stays refl)) n l h b) (λ z x w c d. exprs_listed d)

  pub args_correct : (n : ℕ) (l : List Lexeme) → length l < n → length l ≤ bound
      → Empties (Args ∷ []) (λ z x. IsExprs CloseParen z x.0) l (exprs CloseParen n inner l)
  args_correct = exprs_correct (list_syms refl refl refl refl refl refl)

  -- ---- `make`

  -- after `make ( chan Type ,`
  abbrev IsSized : Leaf → Leaf → Leaf → Leaf → List Lexeme → List Lexeme → tree.Expr → Type 0
  IsSized i j k c x z v =
      IsPrimary (tok Make i ∷ tok OpenParen j ∷ tok Chan k ∷ (x ++ tok Comma c ∷ z)) v

  capacity_by_correct : (i j k c : Leaf) (x : List Lexeme) (t : tree.TypeExpr) (q : Terminal)
      (d : Leaf) (l : List Lexeme) → IsType x t → length l < bound
      → Empties (MakeMore ∷ []) (IsSized i j k c x) (tok q d ∷ l)
      (capacity_by inner t i q (tok q d ∷ l) l)
  unfolding run step
  capacity_by_correct i j k c x t CloseParen d l h b =
      done (tok CloseParen d ∷ []) refl (make_chan i j k h (comma c d)) (λ s. refl)
  capacity_by_correct i j k c x t q d l h b =
      same_start (correct_then (inner_c (tok q d ∷ l) (omega arith))
      (λ y v w _ hy. correct_given _ (make_end_correct w) (λ z _ u hz. make_sized i j k c h hy hz)))
      (λ s. starts_as MakeMore (Unary false) (Bin false ∷ MakeEnd ∷ [])
      (tok q d) l s refl refl refl)

  -- after `make ( chan Type`
  abbrev IsChan : Leaf → Leaf → Leaf → List Lexeme → List Lexeme → tree.Expr → Type 0
  IsChan i j k x z v = IsPrimary (tok Make i ∷ tok OpenParen j ∷ tok Chan k ∷ (x ++ z)) v

  sized_by_correct : (i j k : Leaf) (x : List Lexeme) (t : tree.TypeExpr) (q : Terminal) (d : Leaf)
      (l : List Lexeme) → IsType x t → length l < bound
      → Empties (MakeSize ∷ []) (IsChan i j k x) (tok q d ∷ l)
      (sized_chan_by inner t i q (tok q d ∷ l) l)
  unfolding run step
  sized_by_correct i j k x t CloseParen d l h b =
      done (tok CloseParen d ∷ []) refl (make_chan i j k h (plain d)) (λ s. refl)
  sized_by_correct i j k x t Comma d l h b =
      token_read (at_token (capacity inner t i) refl refl
      (λ u m e. capacity_by_correct i j k d x t u.terminal u.leaf m h (omega (arith, ap length e))))
      (λ s. refl)
  sized_by_correct i j k x t q d l h b = stops (λ s. refl)

  -- after `make ( [ ] Type`
  abbrev IsSlice : Leaf → Leaf → Leaf → Leaf → List Lexeme → List Lexeme → tree.Expr → Type 0
  IsSlice i j k m x z v =
      IsPrimary (tok Make i ∷ tok OpenParen j ∷ tok OpenBracket k ∷ tok CloseBracket m ∷ (x ++ z)) v

  slice_correct : (i j k m : Leaf) (x : List Lexeme) (t : tree.TypeExpr) (l : List Lexeme)
      → IsType x t → length l ≤ bound
      → Empties (T Comma ∷ Unary false ∷ Bin false ∷ MakeEnd ∷ []) (IsSlice i j k m x) l
      (make_slice inner i t l)
  slice_correct i j k m x t l h b =
      correct_token_then Comma refl
      (λ c w d. correct_then (inner_c w (omega (arith, ap length d)))
      (λ y v u _ hy. correct_given _ (make_end_correct u) (λ z _ _ hz. is_slice i j k m c h hy hz)))

  -- after `make (`
  abbrev IsMade : Leaf → Leaf → List Lexeme → tree.Expr → Type 0
  IsMade i j z v = IsPrimary (tok Make i ∷ tok OpenParen j ∷ z) v

  made_by_correct : (n : ℕ) → bound < n → (i j : Leaf) (q : Terminal) (d : Leaf) (l : List Lexeme)
      → length l < bound
      → ((m : List Lexeme) → length m < n → Empties (AType ∷ []) IsType m (a_type n m))
      → Empties (MakeType ∷ []) (IsMade i j) (tok q d ∷ l) (make_args_by n inner i q (tok q d ∷ l) l)
  unfolding run step
  made_by_correct n big i j OpenBracket d l b type_c =
      token_read (correct_token_then CloseBracket refl
      (λ m w c. correct_then (type_c w (omega (arith, ap length c)))
      (λ x t u e h. slice_correct i j d m x t u h (omega (arith, ap length c, shorter w x u e)))))
      (λ s. refl)
  made_by_correct n big i j Chan d l b type_c =
      token_read (correct_then (type_c l (omega arith))
      (λ x t u e h. at_token (sized_chan inner t i) refl refl
      (λ a m c. sized_by_correct i j d x t a.terminal a.leaf m h
      (omega (arith, shorter l x u e, ap length c))))) (λ s. refl)
  made_by_correct n big i j q d l b type_c = stops (λ s. refl)

  -- ---- primary expressions

  parens_correct : (i : Leaf) (l : List Lexeme) → length l ≤ bound
      → Empties (Unary false ∷ Bin false ∷ T CloseParen ∷ [])
      (λ z v. IsPrimary (tok OpenParen i ∷ z) v) l (parens inner i l)
  parens_correct i l b =
      correct_then (inner_c l b)
      (λ x v w c h. correct_token_given CloseParen _ refl (λ j w. in_parens i j h))

  pub operand_by_correct : (n : ℕ) → bound < n
      → (h : Bool) (k : Terminal) (i : Leaf) (l : List Lexeme) → length l ≤ bound
      → unsigned k ≡ true
      → Correct (Unary h ∷ []) (λ _. Post ∷ [])
      (λ z v w. IsPrimary z v) (tok k i ∷ l) (operand_by n inner k i (tok k i ∷ l) l)
  unfolding run step
  operand_by_correct n big h (Binary op.Add) i l b u = cc
  operand_by_correct n big h (Binary op.Sub) i l b u = cc
  operand_by_correct n big h Bang i l b u = cc
  operand_by_correct n big h Arrow i l b u = cc
  operand_by_correct n big h Ampersand i l b u = cc
  operand_by_correct n big h Name i l b u = done (tok Name i ∷ []) refl (name i) (λ s. refl)
  operand_by_correct n big h (Number v) i l b u =
      done (tok (Number v) i ∷ []) refl (number v i) (λ s. refl)
  operand_by_correct n big h Text i l b u = done (tok Text i ∷ []) refl (text i) (λ s. refl)
  operand_by_correct n big h OpenParen i l b u =
      token_read (correct_under (Post ∷ []) (parens_correct i l b)) (λ s. refl)
  operand_by_correct n big h New i l b u =
      token_read (correct_under (Post ∷ []) (new_correct i l)) (λ s. refl)
  operand_by_correct n big h Make i l b u =
      token_read (correct_under (Post ∷ [])
      (correct_token_then OpenParen refl
      (λ j w c. at_token (make_args n inner i) refl refl
      (λ t m d. made_by_correct n big i j t.terminal t.leaf m
      (omega (arith, ap length c, ap length d)) (λ v g. type_correct n v g))))) (λ s. refl)
  operand_by_correct n big true k i l b u = stops (λ s. refl)
  operand_by_correct n big false k i l b u = stops (λ s. refl)

  -- what was read so far has the tokens x
  pub post_by_correct : (n : ℕ) → bound < n
      → (again : tree.Expr → Reader tree.Expr) (v : tree.Expr) (x : List Lexeme) (k : Terminal)
      (i : Leaf) (l : List Lexeme) → length l ≤ bound → IsPrimary x v
      → ((u : tree.Expr) (y m : List Lexeme) → IsPrimary y u → length m ≤ length l
      → Empties (Post ∷ []) (λ z u. IsPrimary (y ++ z) u) m (again u m))
      → Empties (Post ∷ [])
      (λ z u. IsPrimary (x ++ z) u) (tok k i ∷ l) (post_by n inner again v k i (tok k i ∷ l) l)
  unfolding run step
  post_by_correct n big again v x Dot i l b h ha =
      token_read (correct_token_then Name refl
      (λ j w c. correct_weaker
      (ha (tree.Select v (ident j)) (x ++ tok Dot i ∷ tok Name j ∷ []) w (select i j h)
      (omega (arith, ap length c))) (λ z u w c g. rw append_assoc at g))) (λ s. refl)
  post_by_correct n big again v x OpenBracket i l b h ha =
      token_read (correct_then (inner_c l b)
      (λ y a w c g. correct_token_then CloseBracket refl
      (λ j m d. correct_weaker
      (ha (tree.Index v a i.at) (x ++ tok OpenBracket i ∷ (y ++ tok CloseBracket j ∷ [])) m
      (index i j h g) (omega (arith, shorter l y w c, ap length d)))
      (λ z u w c g. rw (append_assoc, append_assoc) at g)))) (λ s. refl)
  post_by_correct n big again v x OpenParen i l b h ha =
      token_read (correct_then (args_correct n l (omega arith) b)
      (λ y a w c g. correct_weaker
      (ha (tree.Called v (exprs_of a.0) i.at) (x ++ tok OpenParen i ∷ y) w (call i h g)
      (omega (arith, shorter l y w c))) (λ z u w c g. rw append_assoc at g))) (λ s. refl)
  post_by_correct n big again v x k i l b h ha = done [] refl (rw append-nil h) (λ s. refl)

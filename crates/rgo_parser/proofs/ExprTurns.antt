-- One turn of each reader of expressions, at a number of turns that is not 0, in the parts that the code reads at once. The reading
-- functions of rgo_grammar are cut otherwise than the code; each equation here turns one into the other, and the answers cite them.
use Rattle.std.proofs.Common.{◌≡◌, ℕ, ◌+◌, ◌-◌, ◌<◌, nat_le, Bool, true, false, cond, List, [], ◌∷◌, ◌++◌, suc, Option, Some, None, refl, sym, ap, subst, ◌∙◌}
use Rattle.rgo_ast.specs.declared.ops.BinaryOp.{BinaryOp}
use Rattle.rgo_ast.specs.declared.ops.BinaryOp.TheVariants as op
use Rattle.rgo_ast.specs.declared.names.Ident.{Ident}
use Rattle.rgo_ast.specs.declared.expressions.Expr as code
use Rattle.rgo_ast.specs.Tree as tree
use Rattle.rgo_ast.proofs.Rows.{exprs_are, elements_are}
use Rattle.rgo_lexer.specs.declared.terminals.Terminal.{Terminal}
use Rattle.rgo_lexer.specs.declared.terminals.Terminal.TheVariants.{Name, New, Make, Number, Text, Binary, Bang, Ampersand, Arrow, OpenParen, CloseParen, OpenBracket, CloseBracket, OpenBrace, CloseBrace, Comma, Dot, Chan}
use Rattle.rgo_lexer.specs.Lexemes.{Leaf, Lexeme, tok, ident}
use Rattle.rgo_grammar.specs.Grammar.{level}
use Rattle.rgo_grammar.specs.reading.Read.{Read, Done, Failed, Starving, ◌>>=◌, yielding, next_lexeme, token, single, list_rest, listed, several}
use Rattle.rgo_grammar.specs.reading.Types.{a_type}
use Rattle.rgo_grammar.specs.reading.Expressions as r
use Rattle.rgo_reader.specs.Agrees.{leaf_at}
use Rattle.rgo_reader.specs.Expressions as parts
use Rattle.rgo_reader.specs.declared.prefixes.Prefix.{Prefix}
use Rattle.rgo_reader.specs.declared.prefixes.Prefix.TheVariants as prefix
use Rattle.rgo_reader.specs.declared.suffixes.Suffix.{Suffix}
use Rattle.rgo_reader.specs.declared.suffixes.Suffix.TheVariants as suffix
use Rattle.rgo_reader.proofs.TypeTurns.{turn}

-- Reading twice in a row, read as once.

pub joined : {A B C : Type 0} (m : Read A) (f : A → List Lexeme → Read B) (g : B → List Lexeme → Read C)
    → (m >>= (λ a w. f a w >>= g)) ≡ ((m >>= f) >>= g)
joined (Done a w) f g = refl
joined (Failed s) f g = refl

same_after : {A B : Type 0} (m : Read A) (f g : A → List Lexeme → Read B) → ((a : A) (w : List Lexeme) → f a w ≡ g a w)
    → (m >>= f) ≡ (m >>= g)
same_after (Done a w) f g e = e a w
same_after (Failed s) f g e = refl

-- Operators between operands.

abbrev pub climbed : (ℕ → List Lexeme → Read tree.Expr) → (tree.Expr → List Lexeme → Read tree.Expr) → tree.Expr
    → Option (BinaryOp × ℕ) → List Lexeme → Read tree.Expr
climbed right again a None l = Done a l
climbed right again a (Some o) l = right (level o.0 + 1) l >>= (λ b. again (tree.Binary o.0 a b o.1))

climb_by_test : (right : ℕ → List Lexeme → Read tree.Expr) (again : tree.Expr → List Lexeme → Read tree.Expr) (a : tree.Expr) (o : BinaryOp)
    (i : Leaf) (l m : List Lexeme) (b : Bool)
    → cond b (right (level o + 1) m >>= (λ c. again (tree.Binary o a c i.at))) (Done a l)
    ≡ (cond b (Done (Some (o, i.at)) m) (Done None l) >>= climbed right again a)
climb_by_test right again a o i l m true = refl
climb_by_test right again a o i l m false = refl

climb_by_is : (right : ℕ → List Lexeme → Read tree.Expr) (again : tree.Expr → List Lexeme → Read tree.Expr) (least : ℕ) (a : tree.Expr)
    (k : Terminal) (i : Leaf) (l m : List Lexeme)
    → r.climb_by right again least a k i l m ≡ (parts.operator_by least k i l m >>= climbed right again a)
climb_by_is right again least a (Binary o) i l m = climb_by_test right again a o i l m (nat_le least (level o))
climb_by_is right again least a _ i l m = refl

climb_is : (right : ℕ → List Lexeme → Read tree.Expr) (again : tree.Expr → List Lexeme → Read tree.Expr) (least : ℕ) (a : tree.Expr)
    (l : List Lexeme)
    → r.climb_on right again least a l (next_lexeme l) ≡ (parts.operator least l >>= climbed right again a)
climb_is right again least a [] = refl
climb_is right again least a (t ∷ l) = climb_by_is right again least a t.terminal t.leaf (t ∷ l) l

-- Signs and literals.

abbrev pub unary_after : ℕ → (List Lexeme → Read tree.Expr) → (List Lexeme → Read tree.Expr) → (List Lexeme → Read tree.Expr)
    → Prefix → List Lexeme → Read tree.Expr
unary_after n inner again primary prefix.None l = primary l
unary_after n inner again primary (prefix.Sign o at) l = r.signed again o (leaf_at at) l
unary_after n inner again primary (prefix.Literal at) l = r.literal n inner (leaf_at at) l

elements_at : (n : ℕ) (inner : List Lexeme → Read tree.Expr) (i j : Leaf) (u : List Lexeme) (b : Bool)
    → cond b (r.keyed n inner i j u) (r.unkeyed n inner i j u)
    ≡ cond b (r.keyed n inner (leaf_at i.at) j u) (r.unkeyed n inner (leaf_at i.at) j u)
elements_at n inner i j u true = refl
elements_at n inner i j u false = refl

literal_inside : (n : ℕ) (inner : List Lexeme → Read tree.Expr) (i j : Leaf) (e : Read Leaf)
    → (e >>= λ _. r.elements n inner i j) ≡ (e >>= λ _. r.elements n inner (leaf_at i.at) j)
literal_inside n inner i j (Done k u) = elements_at n inner i j u (r.is_keyed u)
literal_inside n inner i j (Failed s) = refl

literal_after : (n : ℕ) (inner : List Lexeme → Read tree.Expr) (i : Leaf) (e : Read Leaf)
    → (e >>= λ j w. token OpenBrace w >>= λ _. r.elements n inner i j)
    ≡ (e >>= λ j w. token OpenBrace w >>= λ _. r.elements n inner (leaf_at i.at) j)
literal_after n inner i (Done j w) = literal_inside n inner i j (token OpenBrace w)
literal_after n inner i (Failed s) = refl

literal_if_is : (header : Bool) (n : ℕ) (inner again primary : List Lexeme → Read tree.Expr) (i : Leaf) (l m : List Lexeme)
    → r.literal_if header n inner i l m ≡ (parts.ampersand header i l m >>= unary_after n inner again primary)
literal_if_is true n inner again primary i l m = refl
literal_if_is false n inner again primary i l m = literal_after n inner i (token Name m)

unary_by_is : (header : Bool) (n : ℕ) (inner again primary : List Lexeme → Read tree.Expr) (k : Terminal) (i : Leaf) (l m : List Lexeme)
    → r.unary_by header n inner again primary k i l m ≡ (parts.prefix_by header k i l m >>= unary_after n inner again primary)
unary_by_is header n inner again primary (Binary op.Add) i l m = refl
unary_by_is header n inner again primary (Binary op.Sub) i l m = refl
unary_by_is header n inner again primary Bang i l m = refl
unary_by_is header n inner again primary Arrow i l m = refl
unary_by_is header n inner again primary Ampersand i l m = literal_if_is header n inner again primary i l m
unary_by_is header n inner again primary _ i l m = refl

unary_is : (header : Bool) (n : ℕ) (inner again primary : List Lexeme → Read tree.Expr) (l : List Lexeme)
    → r.unary_on header n inner again primary l (next_lexeme l) ≡ (parts.read_prefix header l >>= unary_after n inner again primary)
unary_is header n inner again primary [] = refl
unary_is header n inner again primary (t ∷ l) = unary_by_is header n inner again primary t.terminal t.leaf (t ∷ l) l

-- a literal by fields, as a list of one turn more
keyed_by : (n : ℕ) (inner : List Lexeme → Read tree.Expr) (i j : Leaf) (e : Read (Ident × tree.Expr))
    → (e >>= λ a w. list_rest Comma CloseBrace (r.elements_from n inner) (a ∷ []) w >>= yielding (λ x. tree.Keyed (ident j) (tree.elements_of x.0) i.at))
    ≡ ((single e >>= λ a. list_rest Comma CloseBrace (r.elements_from n inner) ([] ++ a)) >>= yielding (λ x. tree.Keyed (ident j) (tree.elements_of x.0) i.at))
keyed_by n inner i j (Done a w) = refl
keyed_by n inner i j (Failed s) = refl

keyed_on : (n : ℕ) (inner : List Lexeme → Read tree.Expr) (i j : Leaf) (k : Terminal) (at : Leaf) (m : List Lexeme)
    → r.is_keyed (tok k at ∷ m) ≡ true
    → r.keyed n inner i j (tok k at ∷ m)
    ≡ (several Comma CloseBrace (r.keyed_element inner) (suc n) [] (tok k at ∷ m) >>= yielding (λ x. tree.Keyed (ident j) (tree.elements_of x.0) i.at))
unfolding listed several
keyed_on n inner i j Name at m h = keyed_by n inner i j (r.keyed_element inner (tok Name at ∷ m))
keyed_on n inner i j _ at m h = cc

pub keyed_is : (n : ℕ) (inner : List Lexeme → Read tree.Expr) (i j : Leaf) (l : List Lexeme) → 0 < n → r.is_keyed l ≡ true
    → r.keyed (n - 1) inner i j l
    ≡ (several Comma CloseBrace (r.keyed_element inner) n [] l >>= yielding (λ x. tree.Keyed (ident j) (tree.elements_of x.0) i.at))
keyed_is n inner i j [] g h = cc
keyed_is n inner i j (t ∷ m) g h =
    subst
    (λ k. r.keyed (n - 1) inner i j (t ∷ m)
    ≡ (several Comma CloseBrace (r.keyed_element inner) k [] (t ∷ m) >>= yielding (λ x. tree.Keyed (ident j) (tree.elements_of x.0) i.at)))
    (sym (turn n g)) (keyed_on (n - 1) inner i j t.terminal t.leaf m h)

-- Operands.

abbrev pub operand_after : (List Lexeme → Read tree.Expr) → parts.Opening → List Lexeme → Read tree.Expr
operand_after inner (parts.Whole v) l = Done v l
operand_after inner (parts.Open b) l = inner l >>= parts.operand_closing b

capacity_is : (inner : List Lexeme → Read tree.Expr) (t : tree.TypeExpr) (i : Leaf) (l : List Lexeme)
    → r.capacity inner t i l ≡ (parts.capacity_opening i t l >>= operand_after inner)
capacity_is inner t i [] = refl
capacity_is inner t i (x ∷ l) = by_terminal inner t i x.terminal (x ∷ l) l
  where
    by_terminal : (inner : List Lexeme → Read tree.Expr) (t : tree.TypeExpr) (i : Leaf) (k : Terminal) (l m : List Lexeme)
        → r.capacity_by inner t i k l m ≡ (parts.capacity_opening_by t i k l m >>= operand_after inner)
    by_terminal inner t i CloseParen l m = refl
    by_terminal inner t i _ l m = refl

sized_is : (inner : List Lexeme → Read tree.Expr) (t : tree.TypeExpr) (i : Leaf) (l : List Lexeme)
    → r.sized_chan inner t i l ≡ (parts.sized_opening i t l >>= operand_after inner)
sized_is inner t i [] = refl
sized_is inner t i (x ∷ l) = by_terminal inner t i x.terminal (x ∷ l) l
  where
    by_terminal : (inner : List Lexeme → Read tree.Expr) (t : tree.TypeExpr) (i : Leaf) (k : Terminal) (l m : List Lexeme)
        → r.sized_chan_by inner t i k l m ≡ (parts.sized_opening_by t i k l m >>= operand_after inner)
    by_terminal inner t i CloseParen l m = refl
    by_terminal inner t i Comma l m = capacity_is inner t i m
    by_terminal inner t i _ l m = refl

slice_is : (inner : List Lexeme → Read tree.Expr) (t : tree.TypeExpr) (i : Leaf) (l : List Lexeme)
    → r.make_slice inner i t l ≡ (parts.slice_made i t l >>= operand_after inner)
slice_is inner t i l = joined (token Comma l) _ _

made_by_is : (n : ℕ) (inner : List Lexeme → Read tree.Expr) (i : Leaf) (k : Terminal) (l m : List Lexeme)
    → r.make_args_by n inner i k l m ≡ (parts.make_opening_by n i k l m >>= operand_after inner)
made_by_is n inner i OpenBracket l m =
    same_after (token CloseBracket m) _ _
    (λ _ w. same_after (a_type n w) _ _ (λ t u. slice_is inner t i u) ∙ joined (a_type n w) _ _)
    ∙ joined (token CloseBracket m) _ _
made_by_is n inner i Chan l m = same_after (a_type n m) _ _ (λ t w. sized_is inner t i w) ∙ joined (a_type n m) _ _
made_by_is n inner i _ l m = refl

made_is : (n : ℕ) (inner : List Lexeme → Read tree.Expr) (i : Leaf) (l : List Lexeme)
    → r.make_args n inner i l ≡ (parts.make_opening n i l >>= operand_after inner)
made_is n inner i [] = refl
made_is n inner i (x ∷ l) = made_by_is n inner i x.terminal (x ∷ l) l

whole_is : (inner : List Lexeme → Read tree.Expr) (e : Read tree.Expr) → e ≡ ((e >>= parts.whole) >>= operand_after inner)
whole_is inner (Done v w) = refl
whole_is inner (Failed s) = refl

operand_by_is : (n : ℕ) (inner : List Lexeme → Read tree.Expr) (k : Terminal) (i : Leaf) (l m : List Lexeme)
    → r.operand_by n inner k i l m ≡ (parts.operand_opening_by n k i l m >>= operand_after inner)
operand_by_is n inner New i l m = whole_is inner (r.new_at i m)
operand_by_is n inner Make i l m =
    same_after (token OpenParen m) _ _ (λ _ w. made_is n inner i w) ∙ joined (token OpenParen m) _ _
operand_by_is n inner Name i l m = refl
operand_by_is n inner (Number v) i l m = refl
operand_by_is n inner Text i l m = refl
operand_by_is n inner OpenParen i l m = refl
operand_by_is n inner _ i l m = refl

pub operand_is : (n : ℕ) (inner : List Lexeme → Read tree.Expr) (l : List Lexeme)
    → r.operand n inner l ≡ (parts.operand_opening n l >>= operand_after inner)
operand_is n inner [] = refl
operand_is n inner (t ∷ l) = operand_by_is n inner t.terminal t.leaf (t ∷ l) l

-- What comes after a primary expression.

abbrev pub post_after : ℕ → (List Lexeme → Read tree.Expr) → (tree.Expr → List Lexeme → Read tree.Expr) → tree.Expr
    → Suffix → List Lexeme → Read tree.Expr
post_after n inner again v suffix.None l = Done v l
post_after n inner again v (suffix.Select f) l = again (tree.Select v f) l
post_after n inner again v (suffix.Index at) l = r.indexed inner again v (leaf_at at) l
post_after n inner again v (suffix.Call at) l = r.called n inner again v (leaf_at at) l

post_by_is : (n : ℕ) (inner : List Lexeme → Read tree.Expr) (again : tree.Expr → List Lexeme → Read tree.Expr) (v : tree.Expr)
    (k : Terminal) (i : Leaf) (l m : List Lexeme)
    → r.post_by n inner again v k i l m ≡ (parts.suffix_by k i l m >>= post_after n inner again v)
post_by_is n inner again v Dot i l m = joined (token Name m) _ _
post_by_is n inner again v OpenBracket i l m = refl
post_by_is n inner again v OpenParen i l m = refl
post_by_is n inner again v _ i l m = refl

post_is : (n : ℕ) (inner : List Lexeme → Read tree.Expr) (again : tree.Expr → List Lexeme → Read tree.Expr) (v : tree.Expr)
    (l : List Lexeme)
    → r.post_on n inner again v l (next_lexeme l) ≡ (parts.read_suffix l >>= post_after n inner again v)
post_is n inner again v [] = refl
post_is n inner again v (t ∷ l) = post_by_is n inner again v t.terminal t.leaf (t ∷ l) l

-- The turns.

pub expr_more : (h : Bool) (n least : ℕ) (l : List Lexeme) → 0 < n → r.expr h n least l ≡ (r.unary h (n - 1) l >>= r.climb h (n - 1) least)
unfolding r.expr
expr_more h n least l g = ap (λ m. r.expr h m least l) (turn n g)

pub climb_more : (h : Bool) (n least : ℕ) (a : tree.Expr) (l : List Lexeme) → 0 < n
    → r.climb h n least a l ≡ (parts.operator least l >>= climbed (r.expr h (n - 1)) (r.climb h (n - 1) least) a)
unfolding r.expr
climb_more h n least a l g =
    ap (λ m. r.climb h m least a l) (turn n g) ∙ climb_is (r.expr h (n - 1)) (r.climb h (n - 1) least) least a l

pub unary_more : (h : Bool) (n : ℕ) (l : List Lexeme) → 0 < n
    → r.unary h n l ≡ (parts.read_prefix h l >>= unary_after (n - 1) (r.expr false (n - 1) 1) (r.unary h (n - 1)) (r.primary (n - 1)))
unfolding r.expr
unary_more h n l g =
    ap (λ m. r.unary h m l) (turn n g) ∙ unary_is h (n - 1) (r.expr false (n - 1) 1) (r.unary h (n - 1)) (r.primary (n - 1)) l

pub primary_more : (n : ℕ) (l : List Lexeme) → 0 < n → r.primary n l ≡ (r.operand (n - 1) (r.expr false (n - 1) 1) l >>= r.post (n - 1))
unfolding r.expr
primary_more n l g = ap (λ m. r.primary m l) (turn n g)

pub post_more : (n : ℕ) (v : tree.Expr) (l : List Lexeme) → 0 < n
    → r.post n v l ≡ (parts.read_suffix l >>= post_after (n - 1) (r.expr false (n - 1) 1) (r.post (n - 1)) v)
unfolding r.expr
post_more n v l g = ap (λ m. r.post m v l) (turn n g) ∙ post_is (n - 1) (r.expr false (n - 1) 1) (r.post (n - 1)) v l

pub expr_starved : (h : Bool) (n least : ℕ) (l : List Lexeme) → n ≡ 0 → r.expr h n least l ≡ Failed Starving
unfolding r.expr
expr_starved h n least l e = rw e refl

pub climb_starved : (h : Bool) (n least : ℕ) (a : tree.Expr) (l : List Lexeme) → n ≡ 0 → r.climb h n least a l ≡ Failed Starving
unfolding r.expr
climb_starved h n least a l e = rw e refl

pub unary_starved : (h : Bool) (n : ℕ) (l : List Lexeme) → n ≡ 0 → r.unary h n l ≡ Failed Starving
unfolding r.expr
unary_starved h n l e = rw e refl

pub primary_starved : (n : ℕ) (l : List Lexeme) → n ≡ 0 → r.primary n l ≡ Failed Starving
unfolding r.expr
primary_starved n l e = rw e refl

pub post_starved : (n : ℕ) (v : tree.Expr) (l : List Lexeme) → n ≡ 0 → r.post n v l ≡ Failed Starving
unfolding r.expr
post_starved n v l e = rw e refl

pub ruleset expr_turns = (expr_more, expr_starved)

pub ruleset climb_turns = (climb_more, climb_starved, code.the_lemmas)

pub ruleset unary_turns = (unary_more, unary_starved, code.the_lemmas)

pub ruleset primary_turns = (primary_more, primary_starved, operand_is)

pub ruleset post_turns = (post_more, post_starved, exprs_are, code.the_lemmas)

pub ruleset literal_turns = (keyed_is, exprs_are, elements_are, code.the_lemmas)

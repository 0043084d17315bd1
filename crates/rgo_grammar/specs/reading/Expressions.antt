-- Reading expressions, by precedence climbing.
use Rattle.std.specs.Prelude.{ℕ, zero, suc, ◌+◌, nat_le, Bool, true, false, if◌then◌else◌, List, [], ◌∷◌, Option}
use Rattle.std.specs.Prelude.{Some, None}
use Rattle.rgo_ast.specs.declared.ops.BinaryOp.TheVariants as op
use Rattle.rgo_ast.specs.declared.ops.UnaryOp.{UnaryOp}
use Rattle.rgo_ast.specs.declared.ops.UnaryOp.TheVariants as unary_op
use Rattle.rgo_ast.specs.declared.names.Ident.{Ident}
use Rattle.rgo_ast.specs.Tree as tree
use Rattle.rgo_ast.specs.Tree.{exprs_of, elements_of}
use Rattle.rgo_lexer.specs.{Strings.{string_of}, declared.terminals.Terminal.{Terminal, TheVariants.{Name, New, Make, Number, Text, Binary, Bang}}, declared.terminals.Terminal.TheVariants.{Ampersand, Arrow, OpenParen, CloseParen}, declared.terminals.Terminal.TheVariants.{OpenBracket, CloseBracket, OpenBrace, CloseBrace}, declared.terminals.Terminal.TheVariants.{Comma, Colon, Dot, Chan}, Lexemes.{Leaf, Lexeme, ident}}
use Rattle.rgo_grammar.specs.Grammar.{level}
use Rattle.rgo_grammar.specs.reading.{Read.{Reader, Read, Done, Failed, At, Starving, ◌>>=◌, yielding, next_lexeme, token, list_rest, several}, Read.{Reader}, Types.{a_type}}

-- [ "," ] ")"
abbrev pub make_end_by : Terminal → List Lexeme → List Lexeme → Read Leaf
make_end_by CloseParen l m = token CloseParen l
make_end_by Comma l m = token CloseParen m
make_end_by _ l m = Failed (At l)

abbrev pub make_end_on : List Lexeme → Option (Lexeme × List Lexeme) → Read Leaf
make_end_on l None = Failed (At l)
make_end_on l (Some x) = make_end_by x.0.terminal l x.1

abbrev pub make_end : List Lexeme → Read Leaf
make_end l = make_end_on l (next_lexeme l)

-- Below, `inner` reads an expression in brackets.

-- after the `,` after a channel's type: a capacity, or the end
abbrev pub capacity_by : Reader tree.Expr → tree.TypeExpr → Leaf → Terminal → List Lexeme
    → List Lexeme → Read tree.Expr
capacity_by inner t i CloseParen l m = Done (tree.MakeChan t tree.no_capacity i.at) m
capacity_by inner t i _ l m =
    inner l >>= λ v w. make_end w >>= yielding (λ _. tree.MakeChan t (tree.a_capacity v) i.at)

abbrev pub capacity_on : Reader tree.Expr → tree.TypeExpr → Leaf → List Lexeme
    → Option (Lexeme × List Lexeme) → Read tree.Expr
capacity_on inner t i l None = Failed (At l)
capacity_on inner t i l (Some x) = capacity_by inner t i x.0.terminal l x.1

abbrev pub capacity : Reader tree.Expr → tree.TypeExpr → Leaf → List Lexeme → Read tree.Expr
capacity inner t i l = capacity_on inner t i l (next_lexeme l)

-- after a channel's type
abbrev pub sized_chan_by : Reader tree.Expr → tree.TypeExpr → Leaf → Terminal → List Lexeme
    → List Lexeme → Read tree.Expr
sized_chan_by inner t i CloseParen l m = Done (tree.MakeChan t tree.no_capacity i.at) m
sized_chan_by inner t i Comma l m = capacity inner t i m
sized_chan_by inner t i _ l m = Failed (At l)

abbrev pub sized_chan_on : Reader tree.Expr → tree.TypeExpr → Leaf → List Lexeme
    → Option (Lexeme × List Lexeme) → Read tree.Expr
sized_chan_on inner t i l None = Failed (At l)
sized_chan_on inner t i l (Some x) = sized_chan_by inner t i x.0.terminal l x.1

abbrev pub sized_chan : Reader tree.Expr → tree.TypeExpr → Leaf → List Lexeme → Read tree.Expr
sized_chan inner t i l = sized_chan_on inner t i l (next_lexeme l)

-- after `make (`
abbrev pub make_slice : Reader tree.Expr → Leaf → tree.TypeExpr → List Lexeme → Read tree.Expr
make_slice inner i t l =
    token Comma l >>= λ _ w. inner w >>= λ v u. make_end u >>= yielding (λ _. tree.MakeSlice t v i.at)

abbrev pub make_args_by : ℕ → Reader tree.Expr → Leaf → Terminal → List Lexeme
    → List Lexeme → Read tree.Expr
make_args_by n inner i OpenBracket l m =
    token CloseBracket m >>= λ _ w. a_type n w >>= make_slice inner i
make_args_by n inner i Chan l m = a_type n m >>= λ t. sized_chan inner t i
make_args_by n inner i _ l m = Failed (At l)

abbrev pub make_args_on : ℕ → Reader tree.Expr → Leaf → List Lexeme
    → Option (Lexeme × List Lexeme) → Read tree.Expr
make_args_on n inner i l None = Failed (At l)
make_args_on n inner i l (Some x) = make_args_by n inner i x.0.terminal l x.1

abbrev pub make_args : ℕ → Reader tree.Expr → Leaf → List Lexeme → Read tree.Expr
make_args n inner i l = make_args_on n inner i l (next_lexeme l)

-- new ( name )
abbrev pub new_at : Leaf → List Lexeme → Read tree.Expr
new_at i l =
    token OpenParen l >>= λ _ w. token Name w >>= λ j u. token CloseParen u >>= yielding
    (λ _. tree.New (ident j) i.at)

abbrev pub parens : Reader tree.Expr → Leaf → List Lexeme → Read tree.Expr
parens inner i l = inner l >>= λ v w. token CloseParen w >>= yielding (λ _. tree.Paren v i.at)

-- the operand that a Primary begins with
abbrev pub operand_by : ℕ → Reader tree.Expr → Terminal → Leaf → List Lexeme
    → List Lexeme → Read tree.Expr
operand_by n inner Name i l m = Done (tree.Name (ident i)) m
operand_by n inner (Number v) i l m = Done (tree.Number v i.at) m
operand_by n inner Text i l m = Done (tree.Text (string_of i.word) i.at) m
operand_by n inner OpenParen i l m = parens inner i m
operand_by n inner New i l m = new_at i m
operand_by n inner Make i l m = token OpenParen m >>= λ _. make_args n inner i
operand_by n inner _ i l m = Failed (At l)

abbrev pub operand_on : ℕ → Reader tree.Expr → List Lexeme
    → Option (Lexeme × List Lexeme) → Read tree.Expr
operand_on n inner l None = Failed (At l)
operand_on n inner l (Some x) = operand_by n inner x.0.terminal x.0.leaf l x.1

abbrev pub operand : ℕ → Reader tree.Expr → List Lexeme → Read tree.Expr
operand n inner l = operand_on n inner l (next_lexeme l)

abbrev pub exprs_from : Terminal → ℕ → Reader tree.Expr → List tree.Expr → List Lexeme
    → Read (List tree.Expr × Leaf)
exprs_from closer n inner found l = several Comma closer inner n found l

abbrev pub exprs : Terminal → ℕ → Reader tree.Expr → List Lexeme → Read (List tree.Expr × Leaf)
exprs closer n inner l = exprs_from closer n inner [] l

-- name ":" Expr
abbrev pub keyed_element : Reader tree.Expr → List Lexeme → Read (Ident × tree.Expr)
keyed_element inner l =
    token Name l >>= λ i w. token Colon w >>= λ _ u. inner u >>= yielding (λ v. (ident i, v))

abbrev pub elements_from : ℕ → Reader tree.Expr → List (Ident × tree.Expr) → List Lexeme
    → Read (List (Ident × tree.Expr) × Leaf)
elements_from n inner found l = several Comma CloseBrace (keyed_element inner) n found l

-- the next token is a `:`, so that a name and a `:` begin an element; a name alone may begin an expression
abbrev pub is_colon : Option (Lexeme × List Lexeme) → Bool
is_colon None = false
is_colon (Some x) = by_terminal x.0.terminal where
  by_terminal : Terminal → Bool
  by_terminal Colon = true
  by_terminal _ = false

abbrev pub is_keyed_on : Option (Lexeme × List Lexeme) → Bool
is_keyed_on None = false
is_keyed_on (Some x) = by_terminal x.0.terminal where
  by_terminal : Terminal → Bool
  by_terminal Name = is_colon (next_lexeme x.1)
  by_terminal _ = false

abbrev pub is_keyed : List Lexeme → Bool
is_keyed l = is_keyed_on (next_lexeme l)

-- after `& name {`
abbrev pub keyed : ℕ → Reader tree.Expr → Leaf → Leaf → List Lexeme → Read tree.Expr
keyed n inner i j l =
    keyed_element inner l >>= λ e w. list_rest Comma CloseBrace (elements_from n inner) (e ∷ []) w >>= yielding
    (λ x. tree.Keyed (ident j) (elements_of x.0) i.at)

abbrev pub unkeyed : ℕ → Reader tree.Expr → Leaf → Leaf → List Lexeme → Read tree.Expr
unkeyed n inner i j l =
    exprs CloseBrace n inner l >>= yielding (λ x. tree.Literal (ident j) (exprs_of x.0) i.at)

abbrev pub elements : ℕ → Reader tree.Expr → Leaf → Leaf → List Lexeme → Read tree.Expr
elements n inner i j l = if is_keyed l then keyed n inner i j l else unkeyed n inner i j l

abbrev pub literal : ℕ → Reader tree.Expr → Leaf → List Lexeme → Read tree.Expr
literal n inner i l = token Name l >>= λ j w. token OpenBrace w >>= λ _. elements n inner i j

-- the suffixes of a Primary
abbrev pub called : ℕ → Reader tree.Expr → (tree.Expr → Reader tree.Expr) → tree.Expr → Leaf
    → List Lexeme → Read tree.Expr
called n inner again v i l =
    exprs CloseParen n inner l >>= λ x. again (tree.Called v (exprs_of x.0) i.at)

abbrev pub indexed : Reader tree.Expr → (tree.Expr → Reader tree.Expr) → tree.Expr → Leaf
    → List Lexeme → Read tree.Expr
indexed inner again v i l =
    inner l >>= λ x w. token CloseBracket w >>= λ _. again (tree.Index v x i.at)

abbrev pub post_by : ℕ → Reader tree.Expr → (tree.Expr → Reader tree.Expr) → tree.Expr → Terminal
    → Leaf → List Lexeme → List Lexeme → Read tree.Expr
post_by n inner again v Dot i l m = token Name m >>= λ j. again (tree.Select v (ident j))
post_by n inner again v OpenBracket i l m = indexed inner again v i m
post_by n inner again v OpenParen i l m = called n inner again v i m
post_by n inner again v _ i l m = Done v l

abbrev pub post_on : ℕ → Reader tree.Expr → (tree.Expr → Reader tree.Expr) → tree.Expr → List Lexeme
    → Option (Lexeme × List Lexeme) → Read tree.Expr
post_on n inner again v l None = Done v l
post_on n inner again v l (Some x) = post_by n inner again v x.0.terminal x.0.leaf l x.1

-- `header`: no literal may begin here, since its `{` would look like that of a block
abbrev pub literal_if : Bool → ℕ → Reader tree.Expr → Leaf → List Lexeme
    → List Lexeme → Read tree.Expr
literal_if true n inner i l m = Failed (At l)
literal_if false n inner i l m = literal n inner i m

abbrev pub signed : Reader tree.Expr → UnaryOp → Leaf → List Lexeme → Read tree.Expr
signed again o i l = again l >>= yielding (λ v. tree.Unary o v i.at)

abbrev pub unary_by : Bool → ℕ → Reader tree.Expr → Reader tree.Expr → Reader tree.Expr → Terminal
    → Leaf → List Lexeme → List Lexeme → Read tree.Expr
unary_by header n inner again primary (Binary op.Add) i l m = signed again unary_op.Plus i m
unary_by header n inner again primary (Binary op.Sub) i l m = signed again unary_op.Minus i m
unary_by header n inner again primary Bang i l m = signed again unary_op.Not i m
unary_by header n inner again primary Arrow i l m = signed again unary_op.Receive i m
unary_by header n inner again primary Ampersand i l m = literal_if header n inner i l m
unary_by header n inner again primary _ i l m = primary l

abbrev pub unary_on : Bool → ℕ → Reader tree.Expr → Reader tree.Expr → Reader tree.Expr
    → List Lexeme → Option (Lexeme × List Lexeme) → Read tree.Expr
unary_on header n inner again primary l None = Failed (At l)
unary_on header n inner again primary l (Some x) =
    unary_by header n inner again primary x.0.terminal x.0.leaf l x.1

abbrev pub climb_by : (ℕ → Reader tree.Expr) → (tree.Expr → Reader tree.Expr) → ℕ → tree.Expr
    → Terminal → Leaf → List Lexeme → List Lexeme → Read tree.Expr
climb_by right again least a (Binary o) i l m =
    if nat_le least (level o) then right (level o + 1) m
    >>= (λ b. again (tree.Binary o a b i.at)) else Done a l
climb_by right again least a _ i l m = Done a l

abbrev pub climb_on : (ℕ → Reader tree.Expr) → (tree.Expr → Reader tree.Expr) → ℕ → tree.Expr
    → List Lexeme → Option (Lexeme × List Lexeme) → Read tree.Expr
climb_on right again least a l None = Done a l
climb_on right again least a l (Some x) = climb_by right again least a x.0.terminal x.0.leaf l x.1

unfoldable mutual
  -- an expression whose operators bind at least as tightly as `least`
  pub expr : Bool → ℕ → ℕ → List Lexeme → Read tree.Expr
  expr header zero least l = Failed Starving
  expr header (suc n) least l = unary header n l >>= climb header n least

  -- the operators after an expression that bind at least as tightly as `least`
  pub climb : Bool → ℕ → ℕ → tree.Expr → List Lexeme → Read tree.Expr
  climb header zero least a l = Failed Starving
  climb header (suc n) least a l =
      climb_on (expr header n) (climb header n least) least a l (next_lexeme l)

  pub unary : Bool → ℕ → List Lexeme → Read tree.Expr
  unary header zero l = Failed Starving
  unary header (suc n) l =
      unary_on header n (expr false n 1) (unary header n) (primary n) l (next_lexeme l)

  pub primary : ℕ → List Lexeme → Read tree.Expr
  primary zero l = Failed Starving
  primary (suc n) l = operand n (expr false n 1) l >>= post n

  pub post : ℕ → tree.Expr → List Lexeme → Read tree.Expr
  post zero v l = Failed Starving
  post (suc n) v l = post_on n (expr false n 1) (post n) v l (next_lexeme l)

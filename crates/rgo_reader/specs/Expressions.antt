-- Reading functions for the parts of an expression that contain no other: what comes before, between and after its operands. Those of
-- rgo_grammar read an operand whole; the code reads it in two halves, so that its functions here do not recur, and rgo_parser proves
-- that the halves together agree.
use Rattle.std.specs.Prelude.{ℕ, nat_le, Bool, true, false, if◌then◌else◌, List, Option, Some, None}
use Rattle.std.specs.declared.alloc.Global.{Global}
use Rattle.std.specs.declared.boxed.Box.{Box}
use Rattle.rgo_ast.specs.declared.ops.BinaryOp.{BinaryOp}
use Rattle.rgo_ast.specs.declared.ops.BinaryOp.TheVariants as op
use Rattle.rgo_ast.specs.declared.ops.UnaryOp.TheVariants as unary_op
use Rattle.rgo_ast.specs.declared.expressions.Expr as code
use Rattle.rgo_ast.specs.Tree as tree
use Rattle.rgo_ast.specs.Views.{expr_of, type_expr_of}
use Rattle.rgo_lexer.specs.declared.terminals.Terminal.{Terminal}
use Rattle.rgo_lexer.specs.declared.terminals.Terminal.TheVariants.{Name, New, Make, Number, Text, Binary, Bang}
use Rattle.rgo_lexer.specs.declared.terminals.Terminal.TheVariants.{Ampersand, Arrow, OpenParen, CloseParen}
use Rattle.rgo_lexer.specs.declared.terminals.Terminal.TheVariants.{OpenBracket, CloseBracket, Comma, Dot, Chan}
use Rattle.rgo_lexer.specs.Lexemes.{Leaf, Lexeme, ident}
use Rattle.rgo_lexer.specs.Strings.{string_of}
use Rattle.rgo_grammar.specs.Grammar.{level}
use Rattle.rgo_grammar.specs.reading.Read.{Read, Done, Failed, At, ◌>>=◌, yielding, next_lexeme, token}
use Rattle.rgo_grammar.specs.reading.Types.{a_type}
use Rattle.rgo_grammar.specs.reading.Expressions.{make_end, new_at}
use Rattle.rgo_reader.specs.declared.prefixes.Prefix.{Prefix}
use Rattle.rgo_reader.specs.declared.prefixes.Prefix.TheVariants as prefix
use Rattle.rgo_reader.specs.declared.suffixes.Suffix.{Suffix}
use Rattle.rgo_reader.specs.declared.suffixes.Suffix.TheVariants as suffix
use Rattle.rgo_reader.specs.declared.operands.Bracket.{Bracket as CodeBracket}
use Rattle.rgo_reader.specs.declared.operands.Bracket.TheVariants as code_bracket
use Rattle.rgo_reader.specs.declared.operands.Opening.{Opening as CodeOpening}
use Rattle.rgo_reader.specs.declared.operands.Opening.TheVariants as code_opening

abbrev pub boxed_of : Box code.Expr Global → tree.Expr
boxed_of e = expr_of e.value

-- a binary operator that binds at least as tightly as a level, with its place
abbrev pub operator_by : ℕ → Terminal → Leaf → List Lexeme → List Lexeme → Read (Option (BinaryOp × ℕ))
operator_by least (Binary o) i l m = if nat_le least (level o) then Done (Some (o, i.at)) m else Done None l
operator_by least _ i l m = Done None l

abbrev pub operator_on : ℕ → List Lexeme → Option (Lexeme × List Lexeme) → Read (Option (BinaryOp × ℕ))
operator_on least l None = Done None l
operator_on least l (Some x) = operator_by least x.0.terminal x.0.leaf l x.1

abbrev pub operator : ℕ → List Lexeme → Read (Option (BinaryOp × ℕ))
operator least l = operator_on least l (next_lexeme l)

-- the beginning of a unary expression; in a header no literal may begin
abbrev pub ampersand : Bool → Leaf → List Lexeme → List Lexeme → Read Prefix
ampersand true i l m = Failed (At l)
ampersand false i l m = Done (prefix.Literal i.at) m

abbrev pub prefix_by : Bool → Terminal → Leaf → List Lexeme → List Lexeme → Read Prefix
prefix_by header (Binary op.Add) i l m = Done (prefix.Sign unary_op.Plus i.at) m
prefix_by header (Binary op.Sub) i l m = Done (prefix.Sign unary_op.Minus i.at) m
prefix_by header Bang i l m = Done (prefix.Sign unary_op.Not i.at) m
prefix_by header Arrow i l m = Done (prefix.Sign unary_op.Receive i.at) m
prefix_by header Ampersand i l m = ampersand header i l m
prefix_by header _ i l m = Done prefix.None l

abbrev pub prefix_on : Bool → List Lexeme → Option (Lexeme × List Lexeme) → Read Prefix
prefix_on header l None = Failed (At l)
prefix_on header l (Some x) = prefix_by header x.0.terminal x.0.leaf l x.1

abbrev pub read_prefix : Bool → List Lexeme → Read Prefix
read_prefix header l = prefix_on header l (next_lexeme l)

-- the next suffix of a primary expression
abbrev pub suffix_by : Terminal → Leaf → List Lexeme → List Lexeme → Read Suffix
suffix_by Dot i l m = token Name m >>= yielding (λ j. suffix.Select (ident j))
suffix_by OpenBracket i l m = Done (suffix.Index i.at) m
suffix_by OpenParen i l m = Done (suffix.Call i.at) m
suffix_by _ i l m = Done suffix.None l

abbrev pub suffix_on : List Lexeme → Option (Lexeme × List Lexeme) → Read Suffix
suffix_on l None = Done suffix.None l
suffix_on l (Some x) = suffix_by x.0.terminal x.0.leaf l x.1

abbrev pub read_suffix : List Lexeme → Read Suffix
read_suffix l = suffix_on l (next_lexeme l)

-- the part of an operand before the expression that it holds
pub data Bracket : Type 0 where
  Paren : ℕ → Bracket
  MakeSlice : tree.TypeExpr → ℕ → Bracket
  MakeChan : tree.TypeExpr → ℕ → Bracket

-- an operand that was read whole, or the first half of one that holds an expression
pub data Opening : Type 0 where
  Whole : tree.Expr → Opening
  Open : Bracket → Opening

abbrev pub bracket_of : CodeBracket → Bracket
bracket_of (code_bracket.Paren at) = Paren at
bracket_of (code_bracket.MakeSlice t at) = MakeSlice (type_expr_of t.value) at
bracket_of (code_bracket.MakeChan t at) = MakeChan (type_expr_of t.value) at

abbrev pub opening_of : CodeOpening → Opening
opening_of (code_opening.Whole v) = Whole (expr_of v.value)
opening_of (code_opening.Open b) = Open (bracket_of b)

abbrev pub whole : tree.Expr → List Lexeme → Read Opening
whole v l = Done (Whole v) l

abbrev pub plain_chan : tree.TypeExpr → Leaf → List Lexeme → Read Opening
plain_chan t i l = Done (Whole (tree.MakeChan t tree.no_capacity i.at)) l

-- after the `,` that follows a channel's type: a capacity, or the end
abbrev pub capacity_opening_by : tree.TypeExpr → Leaf → Terminal → List Lexeme → List Lexeme → Read Opening
capacity_opening_by t i CloseParen l m = plain_chan t i m
capacity_opening_by t i _ l m = Done (Open (MakeChan t i.at)) l

abbrev pub capacity_opening_on : tree.TypeExpr → Leaf → List Lexeme → Option (Lexeme × List Lexeme) → Read Opening
capacity_opening_on t i l None = Failed (At l)
capacity_opening_on t i l (Some x) = capacity_opening_by t i x.0.terminal l x.1

abbrev pub capacity_opening : Leaf → tree.TypeExpr → List Lexeme → Read Opening
capacity_opening i t l = capacity_opening_on t i l (next_lexeme l)

-- after a channel's type
abbrev pub sized_opening_by : tree.TypeExpr → Leaf → Terminal → List Lexeme → List Lexeme → Read Opening
sized_opening_by t i CloseParen l m = plain_chan t i m
sized_opening_by t i Comma l m = capacity_opening i t m
sized_opening_by t i _ l m = Failed (At l)

abbrev pub sized_opening_on : tree.TypeExpr → Leaf → List Lexeme → Option (Lexeme × List Lexeme) → Read Opening
sized_opening_on t i l None = Failed (At l)
sized_opening_on t i l (Some x) = sized_opening_by t i x.0.terminal l x.1

abbrev pub sized_opening : Leaf → tree.TypeExpr → List Lexeme → Read Opening
sized_opening i t l = sized_opening_on t i l (next_lexeme l)

-- after `make (`
abbrev pub slice_made : Leaf → tree.TypeExpr → List Lexeme → Read Opening
slice_made i t l = token Comma l >>= yielding (λ _. Open (MakeSlice t i.at))

abbrev pub make_opening_by : ℕ → Leaf → Terminal → List Lexeme → List Lexeme → Read Opening
make_opening_by n i OpenBracket l m = token CloseBracket m >>= λ _ w. a_type n w >>= slice_made i
make_opening_by n i Chan l m = a_type n m >>= sized_opening i
make_opening_by n i _ l m = Failed (At l)

abbrev pub make_opening_on : ℕ → Leaf → List Lexeme → Option (Lexeme × List Lexeme) → Read Opening
make_opening_on n i l None = Failed (At l)
make_opening_on n i l (Some x) = make_opening_by n i x.0.terminal l x.1

abbrev pub make_opening : ℕ → Leaf → List Lexeme → Read Opening
make_opening n i l = make_opening_on n i l (next_lexeme l)

-- an operand, up to the expression that it holds
abbrev pub operand_opening_by : ℕ → Terminal → Leaf → List Lexeme → List Lexeme → Read Opening
operand_opening_by n Name i l m = whole (tree.Name (ident i)) m
operand_opening_by n (Number v) i l m = whole (tree.Number v i.at) m
operand_opening_by n Text i l m = whole (tree.Text (string_of i.word) i.at) m
operand_opening_by n OpenParen i l m = Done (Open (Paren i.at)) m
operand_opening_by n New i l m = new_at i m >>= whole
operand_opening_by n Make i l m = token OpenParen m >>= λ _. make_opening n i
operand_opening_by n _ i l m = Failed (At l)

abbrev pub operand_opening_on : ℕ → List Lexeme → Option (Lexeme × List Lexeme) → Read Opening
operand_opening_on n l None = Failed (At l)
operand_opening_on n l (Some x) = operand_opening_by n x.0.terminal x.0.leaf l x.1

abbrev pub operand_opening : ℕ → List Lexeme → Read Opening
operand_opening n l = operand_opening_on n l (next_lexeme l)

-- the second half of an operand, after the expression that it holds
abbrev pub operand_closing : Bracket → tree.Expr → List Lexeme → Read tree.Expr
operand_closing (Paren at) v l = token CloseParen l >>= yielding (λ _. tree.Paren v at)
operand_closing (MakeSlice t at) v l = make_end l >>= yielding (λ _. tree.MakeSlice t v at)
operand_closing (MakeChan t at) v l = make_end l >>= yielding (λ _. tree.MakeChan t (tree.a_capacity v) at)

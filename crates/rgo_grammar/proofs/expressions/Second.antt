-- The second token of an expression that begins with a name: `.`, `[`, `(` or an operator. Reading looks two tokens ahead to find a key
-- (`name :`) or a definition (`name :=`), and by this it never takes the beginning of an expression for one.
use Rattle.std.proofs.Common.{◌≡◌, ℕ, Bool, false, List, [], ◌∷◌, ◌++◌, Some, refl, append_assoc}
use Rattle.rgo_ast.specs.declared.ops.{BinaryOp.{BinaryOp}, UnaryOp.{UnaryOp}}
use Rattle.rgo_ast.specs.Tree as tree
use Rattle.rgo_lexer.specs.{declared.terminals.Terminal.{Terminal, TheVariants.{Name, Binary, OpenParen, OpenBracket, CloseBracket, CloseBrace, Comma, Colon, Dot}}, Lexemes.{Leaf, Lexeme, tok, is_same_terminal}}
use Rattle.rgo_grammar.specs.Grammar.{sign, IsExpr, IsUnary, IsPrimary, IsExprs, IsExpr.{unary, binary}, IsUnary.{signed, literal, keyed, primary}, IsPrimary.{number, text, name, parens, new, make_slice, make_chan, make_sized, select, index, call}, IsExprs.{none, last, more}}
use Rattle.rgo_grammar.specs.reading.Expressions.{is_keyed}
use Rattle.rgo_grammar.proofs.reading.Next.{NotNext, next_append}
use Rattle.rgo_grammar.proofs.expressions.Starts.{Starts, expr_starts, primary_starts}

-- a test that none of these passes
pub record Apart (test : Terminal → Bool) : Type 0 where
  pub dot : test Dot ≡ false
  pub bracket : test OpenBracket ≡ false
  pub paren : test OpenParen ≡ false
  pub operator : (o : BinaryOp) → test (Binary o) ≡ false

abbrev pub name_then : (Terminal → Bool) → Terminal → List Lexeme → Type 0
name_then test Name l = NotNext test l
name_then test _ l = Unit {0}

-- if a name comes first, the token after it does not pass the test
abbrev pub SecondNot : (Terminal → Bool) → List Lexeme → Type 0
SecondNot test [] = Unit {0}
SecondNot test (t ∷ l) = name_then test t.terminal l

name_append : (test : Terminal → Bool) (k : Terminal) (x z : List Lexeme) → name_then test k x
    → NotNext test z → name_then test k (x ++ z)
name_append test Name x z h g = next_append test x z h g
name_append test _ x z h g = tt

pub second_append : (test : Terminal → Bool) (x z : List Lexeme) → Starts x → SecondNot test x
    → NotNext test z → SecondNot test (x ++ z)
second_append test [] z s h g = absurd s
second_append test (t ∷ x) z s h g = name_append test t.terminal x z h g

signed_second : (test : Terminal → Bool) (k : Terminal) (o : UnaryOp) (l : List Lexeme)
    → sign k ≡ Some o → name_then test k l
signed_second test Name o l e = cc
signed_second test _ o l e = tt

module _ (test : Terminal → Bool) (apart : Apart test) where
  mutual
    pub second_not : {h : Bool} {p : ℕ} {x : List Lexeme} {v : tree.Expr}
        → IsExpr h p x v → SecondNot test x
    second_not (unary u) = unary_second u
    second_not (binary o i {x} {y} l f g) =
        second_append test x (tok (Binary o) i ∷ y) (expr_starts f)
        (second_not f) (apart.operator o)

    unary_second : {h : Bool} {x : List Lexeme} {v : tree.Expr} → IsUnary h x v → SecondNot test x
    unary_second (signed k o i {x} s u) = signed_second test k o x s
    unary_second (literal i j k d) = tt
    unary_second (keyed i j k d) = tt
    unary_second (primary p) = primary_second p

    primary_second : {x : List Lexeme} {v : tree.Expr} → IsPrimary x v → SecondNot test x
    primary_second (number n i) = tt
    primary_second (text i) = tt
    primary_second (name i) = tt
    primary_second (parens i j f) = tt
    primary_second (new i j k m) = tt
    primary_second (make_slice i j k m c t f e) = tt
    primary_second (make_chan i j k t e) = tt
    primary_second (make_sized i j k c t f e) = tt
    primary_second (select i j {x} p) =
        second_append test x (tok Dot i ∷ tok Name j ∷ []) (primary_starts p)
        (primary_second p) apart.dot
    primary_second (index i j {x} {y} p f) =
        second_append test x (tok OpenBracket i ∷ (y ++ tok CloseBracket j ∷ [])) (primary_starts p)
        (primary_second p) apart.bracket
    primary_second (call i {x} {y} p d) =
        second_append test x (tok OpenParen i ∷ y) (primary_starts p) (primary_second p) apart.paren

colon_apart : Apart (is_same_terminal Colon)
colon_apart = record { dot = refl; bracket = refl; paren = refl; operator = λ o. refl }

second_unkeyed : (k : Terminal) (i j : Leaf) (l : List Lexeme) → is_same_terminal Colon k ≡ false
    → is_keyed (tok Name i ∷ tok k j ∷ l) ≡ false
second_unkeyed Colon i j l e = cc
second_unkeyed _ i j l e = refl

named_unkeyed : (i : Leaf) (l : List Lexeme) → NotNext (is_same_terminal Colon) l
    → is_keyed (tok Name i ∷ l) ≡ false
named_unkeyed i [] h = refl
named_unkeyed i (t ∷ l) h = second_unkeyed t.terminal i t.leaf l h

first_unkeyed : (k : Terminal) (i : Leaf) (l : List Lexeme) → name_then (is_same_terminal Colon) k l
    → is_keyed (tok k i ∷ l) ≡ false
first_unkeyed Name i l h = named_unkeyed i l h
first_unkeyed _ i l h = refl

unkeyed : (l : List Lexeme) → SecondNot (is_same_terminal Colon) l → is_keyed l ≡ false
unkeyed [] h = refl
unkeyed (t ∷ l) h = first_unkeyed t.terminal t.leaf l h

-- no key comes first in a list of expressions
pub exprs_unkeyed : {y : List Lexeme} {vs : List tree.Expr} → IsExprs CloseBrace y vs
    → (l : List Lexeme) → is_keyed (y ++ l) ≡ false
exprs_unkeyed (none j) l = refl
exprs_unkeyed (last j {x} f) l =
    rw append_assoc
    (unkeyed (x ++ tok CloseBrace j ∷ l)
    (second_append (is_same_terminal Colon) x (tok CloseBrace j ∷ l) (expr_starts f)
    (second_not (is_same_terminal Colon) colon_apart f) refl))
exprs_unkeyed (more j {x} {y} f d) l =
    rw append_assoc
    (unkeyed (x ++ tok Comma j ∷ (y ++ l))
    (second_append (is_same_terminal Colon) x (tok Comma j ∷ (y ++ l)) (expr_starts f)
    (second_not (is_same_terminal Colon) colon_apart f) refl))

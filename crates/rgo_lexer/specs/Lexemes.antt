-- Lexemes as plain data, the leaves that trees take from them, and the classes of terminals.
use Rattle.std.specs.Prelude.{ℕ, ◌+◌, Bool, true, false, nat_eq, List, length, if◌then◌else◌}
use Rattle.rgo_ast.specs.declared.ops.BinaryOp.{BinaryOp}
use Rattle.rgo_ast.specs.declared.ops.BinaryOp.TheVariants as op
use Rattle.rgo_ast.specs.declared.ops.AssignOp.{AssignOp}
use Rattle.rgo_ast.specs.declared.ops.AssignOp.TheVariants as assign
use Rattle.rgo_ast.specs.declared.names.Ident.{Ident}
use Rattle.rgo_ast.specs.declared.names.ImportPath.{ImportPath}
use Rattle.rgo_lexer.specs.declared.terminals.Terminal.{Terminal}
use Rattle.rgo_lexer.specs.declared.terminals.Terminal.TheVariants.{Name, Main, New, Make, Number, Text, Binary, Bang}
use Rattle.rgo_lexer.specs.declared.terminals.Terminal.TheVariants.{Ampersand, Arrow, Define, Assign, Step, OpenParen}
use Rattle.rgo_lexer.specs.declared.terminals.Terminal.TheVariants.{CloseParen, OpenBracket, CloseBracket, OpenBrace}
use Rattle.rgo_lexer.specs.declared.terminals.Terminal.TheVariants.{CloseBrace, Comma, Semicolon, Colon, Dot, Package}
use Rattle.rgo_lexer.specs.declared.terminals.Terminal.TheVariants.{Import, TypeWord, Struct, Var, Func, Chan, Go, If}
use Rattle.rgo_lexer.specs.declared.terminals.Terminal.TheVariants.{Else, For, Return, Break, Continue, Other}
use Rattle.rgo_lexer.specs.Strings.{string_of}

-- what a tree keeps of a token: its place and its bytes
pub record Leaf : Type 0 where
  pub at : ℕ
  pub word : List ℕ

-- a token with its terminal
pub record Lexeme : Type 0 where
  pub terminal : Terminal
  -- the record as a function of its parts, for clauses
  pub leaf : Leaf

abbrev pub leaf : ℕ → List ℕ → Leaf
leaf at word = record { at = at; word = word }

-- the same of a lexeme
abbrev pub tok : Terminal → Leaf → Lexeme
tok k i = record { terminal = k; leaf = i }

-- where a lexeme ends
abbrev pub lexeme_end : Lexeme → ℕ
lexeme_end l = l.leaf.at + length l.leaf.word

-- the name in a tree that a leaf becomes: its bytes and its place
abbrev pub ident : Leaf → Ident
ident i = record { name = i.word; at = i.at }

-- the import path of a string literal, with its place
abbrev pub path : Leaf → ImportPath
path i = record { path = string_of i.word; at = i.at }

-- The class of a terminal is the number of its form. Operators that occur in other productions than the rest of their form also have
-- a subclass. Terminals that share both occur in the same productions, so the grammar compares these and not what a terminal carries.
abbrev pub class : Terminal → ℕ
class Name = 0
class Main = 1
class New = 2
class Make = 3
class (Number n) = 4
class Text = 5
class (Binary o) = 6
class Bang = 7
class Ampersand = 8
class Arrow = 9
class Define = 10
class (Assign o) = 11
class (Step o) = 12
class OpenParen = 13
class CloseParen = 14
class OpenBracket = 15
class CloseBracket = 16
class OpenBrace = 17
class CloseBrace = 18
class Comma = 19
class Semicolon = 20
class Colon = 21
class Dot = 22
class Package = 23
class Import = 24
class TypeWord = 25
class Struct = 26
class Var = 27
class Func = 28
class Chan = 29
class Go = 30
class If = 31
class Else = 32
class For = 33
class Return = 34
class Break = 35
class Continue = 36
class Other = 37

abbrev pub binary_class : BinaryOp → ℕ
binary_class op.Add = 1
binary_class op.Sub = 2
binary_class op.Mul = 3
binary_class _ = 0

abbrev pub assign_class : AssignOp → ℕ
assign_class assign.Plain = 1
assign_class _ = 0

abbrev pub subclass : Terminal → ℕ
subclass (Binary o) = binary_class o
subclass (Assign o) = assign_class o
subclass _ = 0

abbrev pub is_same_terminal : Terminal → Terminal → Bool
is_same_terminal k j = if nat_eq (class k) (class j) then nat_eq (subclass k) (subclass j) else false

-- a terminal that carries no value
abbrev pub is_plain_terminal : Terminal → Bool
is_plain_terminal (Number n) = false
is_plain_terminal (Binary o) = false
is_plain_terminal (Assign o) = false
is_plain_terminal (Step o) = false
is_plain_terminal _ = true

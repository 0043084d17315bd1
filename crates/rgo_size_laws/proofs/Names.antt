-- Names that are declared together are at most as many as their lexemes.
use Rattle.std.proofs.Common.{◌≡◌, ◌+◌, ◌≤◌, List, [], ◌∷◌, length, arith, length-append}
use Rattle.rgo_ast.specs.Tree.{Binding}
use Rattle.rgo_ast.specs.declared.names.Ident.{Ident}
use Rattle.rgo_lexer.specs.declared.terminals.Terminal.{Terminal}
use Rattle.rgo_lexer.specs.Lexemes.{Lexeme, tok}
use Rattle.rgo_grammar.specs.Grammar as grammar
use Rattle.rgo_grammar.specs.Grammar.{Listed, IsNames, IsBinding}
use Rattle.rgo_typed.specs.declared.types.Type.{«Type»}
use Rattle.rgo_typing_expressions.specs.Packages.{Scope, Context}
use Rattle.rgo_typing_expressions.specs.Scopes.{with_local, resolved}
use Rattle.rgo_typing_packages.specs.Names.{with_names, with_binding, with_bindings}

pub names_few : {x : List Lexeme} {names : List Ident} → IsNames x names → length names ≤ length x
names_few (grammar.IsNames.one i) = omega arith
names_few (grammar.IsNames.more i j rest) = omega (arith, names_few rest)

pub declared_many : (ty : «Type») (g : Scope) (names : List Ident)
    → length (with_names ty g names).types ≡ length g.types + length names
declared_many ty g [] = omega arith
declared_many ty g (x ∷ names) =
    omega (arith, declared_many ty (with_local x.name ty g) names, length-append g.types (ty ∷ []))

pub binding_few : {x : List Lexeme} {b : Binding} → IsBinding x b → (c : Context) (g : Scope)
    → length (with_binding c g b).types ≤ length g.types + length x
binding_few (grammar.IsBinding.binding {x = x} {y = y} {ns = names} {t = t} is ty) c g =
    omega (arith, names_few is, declared_many (resolved c t) g names, length-append x y)

pub bindings_few : {separator closer : Terminal} {x : List Lexeme} {all : List Binding}
    → Listed IsBinding separator closer x all → (c : Context) (g : Scope)
    → length (with_bindings c g all).types ≤ length g.types + length x
bindings_few (grammar.Listed.none j) c g = omega arith
bindings_few {closer = closer} (grammar.Listed.last j {x = x} b) c g =
    omega (arith, binding_few b c g, length-append x (tok closer j ∷ []))
bindings_few {separator = separator} (grammar.Listed.more j {x = x} {y = y} {a = a} b rest) c g =
    omega (
      arith,
      binding_few b c g,
      bindings_few rest c (with_binding c g a),
      length-append x (tok separator j ∷ y),
    )

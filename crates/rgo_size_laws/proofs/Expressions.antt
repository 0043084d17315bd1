-- The term of an expression counts at most 12 for each of its lexemes, by induction on the derivation. The factor is one for all
-- constructs, so that the bounds of parts add up.
use Rattle.std.proofs.Common.{◌≡◌, ℕ, zero, suc, ◌+◌, ◌*◌, ◌≤◌, Bool, List, [], ◌∷◌, ◌++◌, length, drop, Option, refl, arith, length-append}
use Rattle.rgo_ast.specs.Tree.{Expr, exprs_of, elements_of}
use Rattle.rgo_ast.specs.declared.names.Ident.{Ident}
use Rattle.rgo_typed.specs.declared.types.Type.{«Type»}
use Rattle.rgo_lexer.specs.declared.terminals.Terminal.{Terminal}
use Rattle.rgo_lexer.specs.declared.terminals.Terminal.TheVariants.{Binary, CloseParen, OpenParen, OpenBracket, CloseBracket, CloseBrace, Comma, Dot, Name}
use Rattle.rgo_lexer.specs.Lexemes.{Lexeme, tok, ident}
use Rattle.rgo_grammar.specs.Grammar as grammar
use Rattle.rgo_grammar.specs.Grammar.{IsExpr, IsUnary, IsPrimary, IsExprs, IsElements}
use Rattle.rgo_typing_expressions.specs.Packages.{Fields, Context}
use Rattle.rgo_typing_expressions.specs.Callees.{callee_of}
use Rattle.rgo_typing_expressions.specs.Scopes.{meaning_of}
use Rattle.rgo_typing_expressions.specs.Types.{type_of, field_of}
use Rattle.rgo_typing_expressions.specs.Terms.{typed_term, all_terms, element_terms, element_numbers, wanted_of, first_numbers, number_of_terms}
use Rattle.rgo_typing_expressions.specs.Checking.{field_types, struct_fields}
use Rattle.rgo_lower.specs.Sizes.{term_size, terms_size}
use Rattle.rgo_size_laws.proofs.Terms.{first_retyped, known_retyped, name_small, field_small, call_small, unary_small, binary_small}

numbers_many : (n : ℕ) → length (first_numbers n) ≡ n
numbers_many zero = refl
numbers_many (suc n) = omega (arith, numbers_many n, length-append (first_numbers n) (n ∷ []))

mutual
  pub expr_small : {header : Bool} {least : ℕ} {x : List Lexeme} {v : Expr} → IsExpr header least x v → (c : Context)
      → term_size (typed_term c v) ≤ 12 * length x
  expr_small (grammar.IsExpr.unary e) c = unary_expr_small e c
  expr_small (grammar.IsExpr.binary o i {x = x} {y = y} {a = a} {b = b} tight e f) c =
      omega (
        arith,
        expr_small e c,
        expr_small f c,
        binary_small o (type_of c a) (type_of c b) (typed_term c a) (typed_term c b) i.at,
        length-append x (tok (Binary o) i ∷ y),
      )

  pub unary_expr_small : {header : Bool} {x : List Lexeme} {v : Expr} → IsUnary header x v → (c : Context)
      → term_size (typed_term c v) ≤ 12 * length x
  unary_expr_small (grammar.IsUnary.signed k o i {v = v} is e) c =
      omega (arith, unary_expr_small e c, unary_small o (type_of c v) (typed_term c v) i.at)
  unary_expr_small (grammar.IsUnary.literal i j k {vs = vs} all) c =
      let types = (struct_fields c.globals (meaning_of c (ident j).name)).types in
      omega (arith, exprs_small all c types, numbers_many (number_of_terms (all_terms c types (exprs_of vs))))
  unary_expr_small (grammar.IsUnary.keyed i j k {e = e} {es = es} all) c =
      let fields = struct_fields c.globals (meaning_of c (ident j).name) in
      omega (arith, elements_small all c (field_types fields (elements_of (e ∷ es))) fields)
  unary_expr_small (grammar.IsUnary.primary e) c = primary_small e c

  pub primary_small : {x : List Lexeme} {v : Expr} → IsPrimary x v → (c : Context)
      → term_size (typed_term c v) ≤ 12 * length x
  primary_small (grammar.IsPrimary.number n i) c = omega arith
  primary_small (grammar.IsPrimary.text i) c = omega arith
  primary_small (grammar.IsPrimary.name i) c = omega (arith, name_small c (meaning_of c (ident i).name) (ident i).at)
  primary_small (grammar.IsPrimary.parens i j {x = x} e) c =
      omega (arith, expr_small e c, length-append x (tok CloseParen j ∷ []))
  primary_small (grammar.IsPrimary.new i j k m) c = omega arith
  primary_small (grammar.IsPrimary.make_slice i j k m q {x = x} {y = y} {z = z} t e end) c =
      omega (arith, expr_small e c, length-append x (tok Comma q ∷ (y ++ z)), length-append y z)
  primary_small (grammar.IsPrimary.make_chan i j k t end) c = omega arith
  primary_small (grammar.IsPrimary.make_sized i j k q {x = x} {y = y} {z = z} t e end) c =
      omega (arith, expr_small e c, length-append x (tok Comma q ∷ (y ++ z)), length-append y z)
  primary_small (grammar.IsPrimary.select i j {x = x} {v = v} e) c =
      omega (
        arith,
        primary_small e c,
        field_small (field_of c.globals (type_of c v) (ident j).name) (typed_term c v) (ident j).at,
        length-append x (tok Dot i ∷ tok Name j ∷ []),
      )
  primary_small (grammar.IsPrimary.index i j {x = x} {y = y} e f) c =
      omega (
        arith,
        primary_small e c,
        expr_small f c,
        length-append x (tok OpenBracket i ∷ (y ++ tok CloseBracket j ∷ [])),
        length-append y (tok CloseBracket j ∷ []),
      )
  primary_small (grammar.IsPrimary.call i {x = x} {y = y} {v = v} {vs = vs} f all) c =
      let types = wanted_of c.globals (callee_of c v) in
      omega (
        arith,
        exprs_small all c types,
        call_small c.globals (callee_of c v) (all_terms c types (exprs_of vs)) i.at,
        length-append x (tok OpenParen i ∷ y),
      )

  -- with the store of each
  pub exprs_small : {closer : Terminal} {x : List Lexeme} {vs : List Expr} → IsExprs closer x vs → (c : Context)
      (types : List «Type»)
      → terms_size (all_terms c types (exprs_of vs)) + number_of_terms (all_terms c types (exprs_of vs)) * 3 ≤ 12 * length x
  exprs_small (grammar.IsExprs.none j) c types = omega arith
  exprs_small (grammar.IsExprs.last {closer} j {x = x} {v = v} e) c types =
      omega (arith, expr_small e c, first_retyped types (typed_term c v), length-append x (tok closer j ∷ []))
  exprs_small (grammar.IsExprs.more j {x = x} {y = y} {v = v} e all) c types =
      omega (
        arith,
        expr_small e c,
        exprs_small all c (drop 1 types),
        first_retyped types (typed_term c v),
        length-append x (tok Comma j ∷ y),
      )

  elements_small : {x : List Lexeme} {es : List (Ident × Expr)} → IsElements x es → (c : Context)
      (types : List (Option «Type»)) (fields : Fields)
      → terms_size (element_terms c types (elements_of es)) + length (element_numbers fields (elements_of es)) * 3
      ≤ 12 * length x
  elements_small (grammar.IsElements.no_element j) c types fields = omega arith
  elements_small (grammar.IsElements.last_element i k j {x = x} {v = v} e) c types fields =
      omega (arith, expr_small e c, known_retyped types (typed_term c v), length-append x (tok CloseBrace j ∷ []))
  elements_small (grammar.IsElements.more_elements i k j {x = x} {y = y} {v = v} e all) c types fields =
      omega (
        arith,
        expr_small e c,
        elements_small all c (drop 1 types) fields,
        known_retyped types (typed_term c v),
        length-append x (tok Comma j ∷ y),
      )

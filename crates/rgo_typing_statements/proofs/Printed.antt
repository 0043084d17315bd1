-- Prints: the operands that were seen, and those that are left. The loop takes operands and terms in step, and keeps fewer terms than
-- it takes, so its invariant has both rests.
use Rattle.std.proofs.Common.{◌≡◌, ℕ, ◌+◌, ◌<◌, Bool, true, false, List, [], ◌∷◌, ◌++◌, length, drop, map, get_or, refl, ap, ◌∙◌, sym, arith}
use Rattle.std.proofs.lemmas.List.{append_assoc, append-nil}
use Rattle.rgo_ast.specs.Tree.{exprs_of}
use Rattle.rgo_ast.specs.Views.{expr_of}
use Rattle.rgo_ast.specs.declared.expressions.Expr.{Expr as CodeExpr}
use Rattle.rgo_typed.specs.Tree.{Term, Terms, no_terms, a_term}
use Rattle.rgo_typed.specs.declared.statements.Piece.{Piece}
use Rattle.rgo_typing_expressions.specs.Callees.{without_parens}
use Rattle.rgo_typing_statements.specs.TypedStatements.{printed_pieces, piece_of, printed_terms, is_text, kept_operand, unless_text}
use Rattle.rgo_typing_expressions.proofs.Lists.{terms_before, one_more}
use Rattle.rgo_typing_packages.proofs.Lists.{opened}

pub printed_none : (es : List CodeExpr) → printed_terms (exprs_of (map expr_of es)) no_terms ≡ no_terms
printed_none [] = refl
printed_none (e ∷ es) = refl

pub no_items : {A : Type 0} (l : List A) → length l ≡ 0 → l ≡ []
no_items [] h = refl
no_items (a ∷ l) h = absurd (omega arith)

pub one_less : {A : Type 0} (l : List A) (a : A) (m : List A) (j k : ℕ) → l ≡ a ∷ m → j + 1 ≡ k → k ≡ length l → j ≡ length m
one_less l a m j k p q r = let n : length l ≡ length m + 1 = ap length p ∙ omega arith in omega arith

is_kept : (b : Bool) (o : List Term) (t : Term) (more : Terms) → terms_before (o ++ kept_operand b t) more ≡ terms_before o (unless_text b t more)
is_kept true o t more = ap (λ l. terms_before l more) (append-nil o)
is_kept false o t more = one_more o t more

module _ (all : List CodeExpr) (i : ℕ) (e : CodeExpr) (q : e ≡ get_or all i e) (h : i < length all) where
  pub one_piece : (o : List Piece) (p : Piece) → p ≡ piece_of (without_parens (expr_of e))
      → (o ++ p ∷ []) ++ printed_pieces (exprs_of (map expr_of (drop (i + 1) all))) ≡ o ++ printed_pieces (exprs_of (map expr_of (drop i all)))
  one_piece o p is =
      append_assoc o (p ∷ []) (printed_pieces (exprs_of (map expr_of (drop (i + 1) all))))
      ∙ ap (λ x. o ++ x ∷ printed_pieces (exprs_of (map expr_of (drop (i + 1) all)))) is
      ∙ ap (λ l. o ++ printed_pieces (exprs_of (map expr_of l))) (sym (opened all i e q h))

  -- an operand that is kept unless it is a string
  pub one_operand : (o : List Term) (t : Term) (more : Terms)
      → terms_before (o ++ kept_operand (is_text (without_parens (expr_of e))) t) (printed_terms (exprs_of (map expr_of (drop (i + 1) all))) more)
      ≡ terms_before o (printed_terms (exprs_of (map expr_of (drop i all))) (a_term t more))
  one_operand o t more =
      is_kept (is_text (without_parens (expr_of e))) o t (printed_terms (exprs_of (map expr_of (drop (i + 1) all))) more)
      ∙ ap (λ l. terms_before o (printed_terms (exprs_of (map expr_of l)) (a_term t more))) (sym (opened all i e q h))

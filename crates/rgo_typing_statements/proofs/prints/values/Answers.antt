use Rattle.std.proofs.Common.{◌≡◌, ◌∙◌, ◌+◌, ◌++◌, [], map, drop, ap, sym, arith}
use Rattle.std.proofs.lemmas.List.{drop_all}
use Rattle.std.specs.Vec.Iter.{into_iter_items}
use Rattle.rgo_ast.specs.Tree.{exprs_of}
use Rattle.rgo_ast.specs.Views.{expr_of}
use Rattle.rgo_typed.specs.Tree.{terms_of}
use Rattle.rgo_typed.specs.Views.{term_of}
use Rattle.rgo_typing_statements.specs.TypedStatements.{printed_terms, is_text, kept_operand}
use Rattle.rgo_typing_expressions.specs.Callees.{without_parens}
use Rattle.rgo_typing_expressions.proofs.Lists.{terms_before, no_more}
use Rattle.rgo_typing_statements.proofs.Printed.{one_operand, printed_none, no_items, one_less}
use Rattle.rgo_typing_statements.proofs.prints.values.Goals as goal

pub returns-in-None : goal.returns-in-None
returns-in-None c =
    let none : into_iter_items c.loop-arg.rest ≡ [] = no_items (into_iter_items c.loop-arg.rest) (omega (arith, c.loop-arg.invariant.1, c.in-None.ensures.cases.0)) in
    sym (no_more (map term_of c.loop-arg.values.items))
    ∙ ap (terms_before (map term_of c.loop-arg.values.items)) (sym (printed_none (drop c.loop-arg.arg-index c.args.args.now)))
    ∙ ap (λ l. terms_before (map term_of c.loop-arg.values.items) (printed_terms (exprs_of (map expr_of (drop c.loop-arg.arg-index c.args.args.now))) (terms_of (map term_of l)))) (sym none)
    ∙ c.loop-arg.invariant.0

pub loop-arg-preserved : goal.loop-arg-preserved
loop-arg-preserved c =
    let o = map term_of c.loop-arg.values.items in
    let t = term_of c.in-Some.term in
    let more = terms_of (map term_of (into_iter_items c.next.new.self)) in
    let is : c.is_text.result ≡ is_text (without_parens (expr_of c.arg-item.result)) = c.is_text.ensures ∙ ap is_text c.bare.ensures in (
      ap (λ l. terms_before l (printed_terms (exprs_of (map expr_of (drop (c.loop-arg.arg-index + 1) c.args.args.now))) more)) c.in_ok-keep-in-Some.ensures
          ∙ ap (λ b. terms_before (o ++ kept_operand b t) (printed_terms (exprs_of (map expr_of (drop (c.loop-arg.arg-index + 1) c.args.args.now))) more)) is
          ∙ one_operand c.args.args.now c.loop-arg.arg-index c.arg-item.result c.arg-item.is (omega arith) o t more
          ∙ ap (λ l. terms_before o (printed_terms (exprs_of (map expr_of (drop c.loop-arg.arg-index c.args.args.now))) (terms_of (map term_of l)))) (sym c.in-Some.ensures.cases.0)
          ∙ c.loop-arg.invariant.0,
      one_less (into_iter_items c.loop-arg.rest) c.in-Some.term (into_iter_items c.next.new.self) _ _ c.in-Some.ensures.cases.0 c.in-Some.ensures.cases.1 c.loop-arg.invariant.1,
    )

pub returns : goal.returns
returns c =
    sym (no_more (map term_of c.loop-arg.values.items))
    ∙ ap (λ l. terms_before (map term_of c.loop-arg.values.items) (printed_terms (exprs_of (map expr_of l)) (terms_of (map term_of (into_iter_items c.loop-arg.rest)))))
    (sym (drop_all c.loop-arg.arg-index c.args.args.now (omega arith)))
    ∙ c.loop-arg.invariant.0

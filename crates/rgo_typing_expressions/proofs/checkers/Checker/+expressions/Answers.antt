use Rattle.std.proofs.Common.{rules, arith}
use Rattle.rgo_typing_expressions.proofs.Lists.{exprs, elements, stops, continues, ends}
use Rattle.rgo_typing_expressions.proofs.Trees.{exprs as trees}
use Rattle.rgo_typing_rules.proofs.Refusals.{refusals}
use Rattle.rgo_typing_expressions.proofs.checkers.Checker.+expressions.Goals as goal

pub check_all-returns-in_err-checked : goal.check_all-returns-in_err-checked
check_all-returns-in_err-checked t c =
    let h = stops (exprs c.args.self.now c.args.role) c.args.wanted.now c.args.all.now c.loop-e.e-index c.loop-e.shapes.items c.loop-e.terms.items
    c.e-item.result c.in_err-checked.field-0.0
    c.loop-e.invariant c.loop-e-test.true c.e-item.is c.in_err-checked.ensures in
    search (rules, h)

pub check_all-loop-e-preserved : goal.check_all-loop-e-preserved
check_all-loop-e-preserved t c =
    rw (c.in_ok-push-2.ensures.items, c.in_ok-push.ensures.items)
    (continues (exprs c.args.self.now c.args.role) c.args.wanted.now c.args.all.now c.loop-e.e-index _ _
    c.e-item.result c.in_ok-checked.checked.shape c.in_ok-checked.checked.term c.in_ok-term.term c.len.result
    c.loop-e.invariant c.loop-e-test.true c.e-item.is
    c.in_ok-checked.ensures.0 c.in_ok-checked.ensures.1.0 c.in_ok-checked.ensures.1.1
    c.in_ok-term.ensures (omega arith))

pub check_all-returns : goal.check_all-returns
check_all-returns t c =
    ends (exprs c.args.self.now c.args.role) c.args.wanted.now c.args.all.now c.loop-e.e-index _ _ c.loop-e.invariant c.loop-e-test.false

pub check_elements-returns-in_err-checked : goal.check_elements-returns-in_err-checked
check_elements-returns-in_err-checked t c =
    let h = stops (elements c.args.self.now) c.args.known.now c.args.elements.now c.loop-element.element-index c.loop-element.shapes.items c.loop-element.terms.items
    c.element-item.result c.in_err-checked.field-0.0
    c.loop-element.invariant c.loop-element-test.true c.element-item.is c.in_err-checked.ensures in
    search (rules, h)

pub check_elements-loop-element-preserved : goal.check_elements-loop-element-preserved
check_elements-loop-element-preserved t c =
    rw (c.in_ok-push-2.ensures.items, c.in_ok-push.ensures.items)
    (continues (elements c.args.self.now) c.args.known.now c.args.elements.now c.loop-element.element-index _ _
    c.element-item.result c.in_ok-checked.checked.shape c.in_ok-checked.checked.term c.in_ok-term.term c.len.result
    c.loop-element.invariant c.loop-element-test.true c.element-item.is
    c.in_ok-checked.ensures.0 c.in_ok-checked.ensures.1.0 c.in_ok-checked.ensures.1.1
    c.in_ok-term.ensures (omega arith))

pub check_elements-returns : goal.check_elements-returns
check_elements-returns t c =
    ends (elements c.args.self.now) c.args.known.now c.args.elements.now c.loop-element.element-index _ _ c.loop-element.invariant c.loop-element-test.false

pub check_expr-returns-in-Number : goal.check_expr-returns-in-Number
check_expr-returns-in-Number t c = grind (arith, trees, refusals)

pub check_expr-returns-in-Text : goal.check_expr-returns-in-Text
check_expr-returns-in-Text t c = grind (arith, trees, refusals)

pub check_expr-returns-in-Name : goal.check_expr-returns-in-Name
check_expr-returns-in-Name t c = grind (arith, trees, refusals)

pub check_expr-returns-in-Paren : goal.check_expr-returns-in-Paren
check_expr-returns-in-Paren t c = grind (arith, trees, refusals)

pub check_expr-returns-in-New : goal.check_expr-returns-in-New
check_expr-returns-in-New t c = grind (arith, trees, refusals)

pub check_expr-returns-in-MakeSlice : goal.check_expr-returns-in-MakeSlice
check_expr-returns-in-MakeSlice t c = grind (arith, trees, refusals)

pub check_expr-returns-in-MakeChan-default-None-default : goal.check_expr-returns-in-MakeChan-default-None-default
check_expr-returns-in-MakeChan-default-None-default t c = grind (arith, trees, refusals)

pub check_expr-returns-in-MakeChan-default-Some-default : goal.check_expr-returns-in-MakeChan-default-Some-default
check_expr-returns-in-MakeChan-default-Some-default t c = grind (arith, trees, refusals)

pub check_expr-returns-in-Select : goal.check_expr-returns-in-Select
check_expr-returns-in-Select t c = grind (arith, trees, refusals)

pub check_expr-returns-in_err-slice-in-Index : goal.check_expr-returns-in_err-slice-in-Index
check_expr-returns-in_err-slice-in-Index t c = grind (arith, trees, refusals)

pub check_expr-returns-in_err-position-in-Index : goal.check_expr-returns-in_err-position-in-Index
check_expr-returns-in_err-position-in-Index t c = grind (arith, trees, refusals)

pub check_expr-returns-in_ok-position-in-Index : goal.check_expr-returns-in_ok-position-in-Index
check_expr-returns-in_ok-position-in-Index t c = grind (arith, trees, refusals)

pub check_expr-returns-in_err-check_callee-in-Call : goal.check_expr-returns-in_err-check_callee-in-Call
check_expr-returns-in_err-check_callee-in-Call t c = grind (arith, trees, refusals)

pub check_expr-returns-in_err-args-in-Call : goal.check_expr-returns-in_err-args-in-Call
check_expr-returns-in_err-args-in-Call t c = grind (arith, trees, refusals)

pub check_expr-returns-in_ok-args-in-Call : goal.check_expr-returns-in_ok-args-in-Call
check_expr-returns-in_ok-args-in-Call t c = grind (arith, trees, refusals)

pub check_expr-returns-in-Unary : goal.check_expr-returns-in-Unary
check_expr-returns-in-Unary t c = grind (arith, trees, refusals)

pub check_expr-returns-in_err-left-in-Binary : goal.check_expr-returns-in_err-left-in-Binary
check_expr-returns-in_err-left-in-Binary t c = grind (arith, trees, refusals)

pub check_expr-returns-in_err-right-in-Binary : goal.check_expr-returns-in_err-right-in-Binary
check_expr-returns-in_err-right-in-Binary t c = grind (arith, trees, refusals)

pub check_expr-returns-in_ok-right-in-Binary : goal.check_expr-returns-in_ok-right-in-Binary
check_expr-returns-in_ok-right-in-Binary t c = grind (arith, trees, refusals)

pub check_expr-returns-in-Literal : goal.check_expr-returns-in-Literal
check_expr-returns-in-Literal t c = grind (arith, trees, refusals)

pub check_expr-returns-in-Keyed : goal.check_expr-returns-in-Keyed
check_expr-returns-in-Keyed t c = grind (arith, trees, refusals)

pub check_parts-returns-in-Paren : goal.check_parts-returns-in-Paren
check_parts-returns-in-Paren t c = grind (arith, trees, refusals)

pub check_parts-returns-in-New : goal.check_parts-returns-in-New
check_parts-returns-in-New t c = grind (arith, trees, refusals)

pub check_parts-returns-in-Select : goal.check_parts-returns-in-Select
check_parts-returns-in-Select t c = grind (arith, trees, refusals)

pub check_parts-returns-in-MakeChan-default-None-default : goal.check_parts-returns-in-MakeChan-default-None-default
check_parts-returns-in-MakeChan-default-None-default t c = grind (arith, trees, refusals)

pub check_parts-returns-in_err-check_callee-in-Call : goal.check_parts-returns-in_err-check_callee-in-Call
check_parts-returns-in_err-check_callee-in-Call t c = grind (arith, trees, refusals)

pub check_parts-returns-in_ok-check_callee-in-Call : goal.check_parts-returns-in_ok-check_callee-in-Call
check_parts-returns-in_ok-check_callee-in-Call t c = grind (arith, trees, refusals)

pub check_parts-returns-in_err-check_struct-in-Keyed : goal.check_parts-returns-in_err-check_struct-in-Keyed
check_parts-returns-in_err-check_struct-in-Keyed t c = grind (arith, trees, refusals)

pub check_parts-returns-in_ok-check_struct-in-Keyed : goal.check_parts-returns-in_ok-check_struct-in-Keyed
check_parts-returns-in_ok-check_struct-in-Keyed t c = grind (arith, trees, refusals)

pub check_parts-returns-in_err-check_struct-in-Literal : goal.check_parts-returns-in_err-check_struct-in-Literal
check_parts-returns-in_err-check_struct-in-Literal t c = grind (arith, trees, refusals)

pub check_parts-returns-in_ok-check_struct-in-Literal : goal.check_parts-returns-in_ok-check_struct-in-Literal
check_parts-returns-in_ok-check_struct-in-Literal t c = grind (arith, trees, refusals)

pub check_parts-returns-in_err-check_type-in-MakeSlice : goal.check_parts-returns-in_err-check_type-in-MakeSlice
check_parts-returns-in_err-check_type-in-MakeSlice t c = grind (arith, trees, refusals)

pub check_parts-returns-in_ok-check_type-in-MakeSlice : goal.check_parts-returns-in_ok-check_type-in-MakeSlice
check_parts-returns-in_ok-check_type-in-MakeSlice t c = grind (arith, trees, refusals)

pub check_parts-returns-in_err-check_value-in-Index : goal.check_parts-returns-in_err-check_value-in-Index
check_parts-returns-in_err-check_value-in-Index t c = grind (arith, trees, refusals)

pub check_parts-returns-in_ok-check_value-in-Index : goal.check_parts-returns-in_ok-check_value-in-Index
check_parts-returns-in_ok-check_value-in-Index t c = grind (arith, trees, refusals)

pub check_make_slice-returns-in_err-check_type : goal.check_make_slice-returns-in_err-check_type
check_make_slice-returns-in_err-check_type t c = grind (arith, refusals)

pub check_make_slice-returns-in_err-check_expr : goal.check_make_slice-returns-in_err-check_expr
check_make_slice-returns-in_err-check_expr t c = grind (arith, refusals)

pub check_make_slice-returns : goal.check_make_slice-returns
check_make_slice-returns t c = grind (arith, refusals)

pub check_make_buffered-returns-in_err-check_type : goal.check_make_buffered-returns-in_err-check_type
check_make_buffered-returns-in_err-check_type t c = grind (arith, refusals)

pub check_make_buffered-returns-in_err-check_expr : goal.check_make_buffered-returns-in_err-check_expr
check_make_buffered-returns-in_err-check_expr t c = grind (arith, refusals)

pub check_make_buffered-returns : goal.check_make_buffered-returns
check_make_buffered-returns t c = grind (arith, refusals)

pub check_select-returns-in_err-inner : goal.check_select-returns-in_err-inner
check_select-returns-in_err-inner t c = grind (arith, refusals)

pub check_select-returns : goal.check_select-returns
check_select-returns t c = grind (arith, refusals)

pub check_unary-returns-in_err-inner : goal.check_unary-returns-in_err-inner
check_unary-returns-in_err-inner t c = grind (arith, refusals)

pub check_unary-returns : goal.check_unary-returns
check_unary-returns t c = grind (arith, refusals)

pub check_literal-returns-in_err-found : goal.check_literal-returns-in_err-found
check_literal-returns-in_err-found t c = grind (arith, refusals)

pub check_literal-returns-in_err-values : goal.check_literal-returns-in_err-values
check_literal-returns-in_err-values t c = grind (arith, refusals)

pub check_literal-returns : goal.check_literal-returns
check_literal-returns t c = grind (arith, refusals)

pub check_keyed-returns-in_err-found : goal.check_keyed-returns-in_err-found
check_keyed-returns-in_err-found t c = grind (arith, refusals)

pub check_keyed-returns-in_err-fields : goal.check_keyed-returns-in_err-fields
check_keyed-returns-in_err-fields t c = grind (arith, refusals)

pub check_keyed-returns-in_err-values : goal.check_keyed-returns-in_err-values
check_keyed-returns-in_err-values t c = grind (arith, refusals)

pub check_keyed-returns : goal.check_keyed-returns
check_keyed-returns t c = grind (arith, refusals)

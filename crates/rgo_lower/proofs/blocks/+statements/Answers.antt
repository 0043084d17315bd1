use Rattle.std.proofs.Common.{arith, ◌≡◌, ◌+◌, ◌^◌, ◌<◌, ◌≤◌, rules, true, is_some, length, drop, map, get_or, sym, ap, ◌∙◌, subst}
use Rattle.rgo_typed.specs.declared.terms.Term.{Term}
use Rattle.rgo_typed.specs.Tree as tree
use Rattle.rgo_typed.specs.Tree.{Change, terms_of, stmts_of}
use Rattle.rgo_typed.specs.Views.{term_of, boxed_term_of, stmt_of}
use Rattle.rgo_lower.specs.declared.builder.Loop.{Loop}
use Rattle.rgo_lower.specs.Shapes.{stmts_fit}
use Rattle.rgo_lower.specs.Sizes.{stmt_size}
use Rattle.rgo_lower.specs.Emitted.{builder_size, made_of, IsEmitted, StmtIsEmitted}
use Rattle.rgo_lower.proofs.Growing.{ok_map}
use Rattle.rgo_lower.proofs.Labels.{fresh}
use Rattle.rgo_lower.proofs.Views.{block_is}
use Rattle.rgo_lower.proofs.Weights.{lighter}
use Rattle.rgo_lower.proofs.BlockParts.{next_size, next_fits, block_emitted, if_emitted, if_else_emitted, loop_emitted, next_emitted, end_emitted}
use Rattle.rgo_lower.proofs.blocks.+statements.Goals as goal

-- ---- one statement

pub lower_stmt-returns-in-Block : goal.lower_stmt-returns-in-Block
lower_stmt-returns-in-Block t c =
    let a = made_of c.args.b.now in
    let e = made_of c.lower_stmts.new.b in
    let all = c.in-Block.all in
    let l = c.args.innermost in
    ok_map c.lower_stmts.result _ _
    (λ h. subst (λ z. StmtIsEmitted z l a e) (sym (ap stmt_of c.in-Block.is ∙ block_is all))
    (block_emitted (stmts_of (map stmt_of all.items)) l a e h))
    c.lower_stmts.ensures

pub lower_stmt-returns-in-Declare : goal.lower_stmt-returns-in-Declare
lower_stmt-returns-in-Declare t c =
    let a = made_of c.args.b.now in
    let e = made_of c.declare.new.b in
    let x = c.in-Declare in
    ok_map c.declare.result _ _
    (λ h. subst (λ z. StmtIsEmitted (stmt_of z) c.args.innermost a e) (sym x.is)
    (subst (λ z. IsEmitted (tree.Declare x.n x.ty (term_of z) x.place) a e) c.deref.ensures h c.args.innermost))
    c.declare.ensures

pub lower_stmt-returns-in-Zero : goal.lower_stmt-returns-in-Zero
lower_stmt-returns-in-Zero t c =
    let a = made_of c.args.b.now in
    let e = made_of c.declare_zero.new.b in
    let x = c.in-Zero in
    ok_map c.declare_zero.result _ _
    (λ h. subst (λ z. StmtIsEmitted (stmt_of z) c.args.innermost a e) (sym x.is) (h c.args.innermost))
    c.declare_zero.ensures

pub lower_stmt-returns-in-Assign : goal.lower_stmt-returns-in-Assign
lower_stmt-returns-in-Assign t c =
    let a = made_of c.args.b.now in
    let e = made_of c.assign.new.b in
    let x = c.in-Assign in
    ok_map c.assign.result _ _
    (λ h. subst (λ z. StmtIsEmitted (stmt_of z) c.args.innermost a e) (sym x.is)
    (subst (λ z. IsEmitted (tree.Assign x.n (term_of z) x.place) a e) c.deref-in-Assign.ensures h c.args.innermost))
    c.assign.ensures

pub lower_stmt-returns-in-Perform : goal.lower_stmt-returns-in-Perform
lower_stmt-returns-in-Perform t c =
    let a = made_of c.args.b.now in
    let e = made_of c.perform.new.b in
    let x = c.in-Perform in
    ok_map c.perform.result _ _
    (λ h. subst (λ z. StmtIsEmitted (stmt_of z) c.args.innermost a e) (sym x.is) (h c.args.innermost))
    c.perform.ensures

pub lower_stmt-returns-in-Update : goal.lower_stmt-returns-in-Update
lower_stmt-returns-in-Update t c =
    let a = made_of c.args.b.now in
    let e = made_of c.update.new.b in
    let x = c.in-Update in
    let changed : Term → Change = λ z. record {
      operands = terms_of (map term_of x.operands.items);
      read = x.read;
      ty = x.ty;
      read_at = x.read_at;
      op = x.op;
      value = term_of z;
      write = x.write;
      at = x.at;
    } in
    ok_map c.update.result _ _
    (λ h. subst (λ z. StmtIsEmitted (stmt_of z) c.args.innermost a e) (sym x.is)
    (subst (λ z. IsEmitted (tree.Update (changed z)) a e) c.deref-in-Update.ensures h c.args.innermost))
    c.update.ensures

pub lower_stmt-returns-in-Discard : goal.lower_stmt-returns-in-Discard
lower_stmt-returns-in-Discard t c =
    let a = made_of c.args.b.now in
    let e = made_of c.discard.new.b in
    let x = c.in-Discard in
    ok_map c.discard.result _ _
    (λ h. subst (λ z. StmtIsEmitted (stmt_of z) c.args.innermost a e) (sym x.is)
    (subst (λ z. IsEmitted (tree.Discard (term_of z)) a e) c.deref-in-Discard.ensures h c.args.innermost))
    c.discard.ensures

pub lower_stmt-returns-in-Invoke : goal.lower_stmt-returns-in-Invoke
lower_stmt-returns-in-Invoke t c =
    let a = made_of c.args.b.now in
    let e = made_of c.invoke.new.b in
    let x = c.in-Invoke in
    ok_map c.invoke.result _ _
    (λ h. subst (λ z. StmtIsEmitted (stmt_of z) c.args.innermost a e) (sym x.is) (h c.args.innermost))
    c.invoke.ensures

pub lower_stmt-returns-in-Go : goal.lower_stmt-returns-in-Go
lower_stmt-returns-in-Go t c =
    let a = made_of c.args.b.now in
    let e = made_of c.start.new.b in
    let x = c.in-Go in
    ok_map c.start.result _ _
    (λ h. subst (λ z. StmtIsEmitted (stmt_of z) c.args.innermost a e) (sym x.is) (h c.args.innermost))
    c.start.ensures

pub lower_stmt-returns-in-Print : goal.lower_stmt-returns-in-Print
lower_stmt-returns-in-Print t c =
    let a = made_of c.args.b.now in
    let e = made_of c.print.new.b in
    let x = c.in-Print in
    ok_map c.print.result _ _
    (λ h. subst (λ z. StmtIsEmitted (stmt_of z) c.args.innermost a e) (sym x.is)
    (subst (λ z. IsEmitted (tree.Print z (terms_of
    (map term_of x.values.items)) x.place) a e) c.items.ensures h c.args.innermost))
    c.print.ensures

pub lower_stmt-returns-in-Return : goal.lower_stmt-returns-in-Return
lower_stmt-returns-in-Return t c =
    let a = made_of c.args.b.now in
    let e = made_of c.return_with.new.b in
    let x = c.in-Return in
    ok_map c.return_with.result _ _
    (λ h. subst (λ z. StmtIsEmitted (stmt_of z) c.args.innermost a e) (sym x.is) (h c.args.innermost))
    c.return_with.ensures

-- ---- several statements

pub lower_stmts-lower_stmt-requires : goal.lower_stmts-lower_stmt-requires
lower_stmts-lower_stmt-requires t c =
    let xs = c.args.stmts.now.items in
    let i = c.loop-stmt.stmt-index in
    let x = c.stmt-item.result in
    let same : c.deref-stmt-items.result.now ≡ xs = c.deref-stmt-items.ensures.value in
    let lt : i < length xs = subst (λ z. i < length z) same c.loop-stmt-test.true in
    let is : x ≡ get_or xs i x = subst (λ z. x ≡ get_or z i x) same c.stmt-item.is in
    let down = lighter xs i x is lt in
    let more = next_size xs i x lt is in
    let small : builder_size (made_of c.loop-stmt.b) + stmt_size (stmt_of x) < 2 ^ 32 =
    omega (arith, more, c.loop-stmt.invariant.small) in
    let fits = (next_fits (length c.loop-stmt.b.slots.items) (is_some c.args.innermost) xs i x lt is c.loop-stmt.invariant.shape).0 in
    search (rules, down, small, fits)

pub lower_stmts-loop-stmt-preserved : goal.lower_stmts-loop-stmt-preserved
lower_stmts-loop-stmt-preserved t c =
    let xs = c.args.stmts.now.items in
    let i = c.loop-stmt.stmt-index in
    let x = c.stmt-item.result in
    let same : c.deref-stmt-items.result.now ≡ xs = c.deref-stmt-items.ensures.value in
    let lt : i < length xs = subst (λ z. i < length z) same c.loop-stmt-test.true in
    let is : x ≡ get_or xs i x = subst (λ z. x ≡ get_or z i x) same c.stmt-item.is in
    let more = next_size xs i x lt is in
    record {
      small = omega (arith, more, c.loop-stmt.invariant.small, c.in_ok-lower_stmt.ensures.size);
      shape =
          subst (λ n. stmts_fit n (is_some c.args.innermost) (stmts_of (map stmt_of (drop (i + 1) xs))) ≡ true)
          (sym c.in_ok-lower_stmt.ensures.locals)
          (next_fits (length c.loop-stmt.b.slots.items) (is_some c.args.innermost) xs i x lt is
          c.loop-stmt.invariant.shape).1;
      rest = λ new rest.
          c.loop-stmt.invariant.rest new
          (next_emitted xs i x c.args.innermost (made_of c.loop-stmt.b) (made_of c.lower_stmt.new.b) new lt is
          c.in_ok-lower_stmt.ensures rest);
    }

pub lower_stmts-returns : goal.lower_stmts-returns
lower_stmts-returns t c =
    let xs = c.args.stmts.now.items in
    let i = c.loop-stmt.stmt-index in
    let same : c.deref-stmt-items.result.now ≡ xs = c.deref-stmt-items.ensures.value in
    c.loop-stmt.invariant.rest (made_of c.loop-stmt.b)
    (end_emitted xs i c.args.innermost (made_of c.loop-stmt.b)
    (subst (λ z. length z ≤ i) same c.loop-stmt-test.false))

-- ---- statements with statements in them

pub lower_if-returns : goal.lower_if-returns
lower_if-returns t c =
    let b0 = made_of c.args.b.now in
    let b1 = made_of c.label.new.self in
    let b2 = made_of c.lower_test.new.b in
    let b3 = made_of c.lower_stmts.new.b in
    let b4 = made_of c.place.new.self in
    let end = c.in_ok-end.end in
    ok_map c.place.result _ _
    (if_emitted (term_of c.args.test.now) (stmts_of
    (map stmt_of c.args.body.now.items)) c.args.place end c.args.innermost
    b0 b1 b2 b3 b4 (fresh b0 b1 end c.in_ok-end.ensures.0 c.in_ok-end.ensures.1) c.in_ok-lower_test.ensures
    c.in_ok-lower_stmts.ensures)
    c.place.ensures

pub lower_if_else-returns : goal.lower_if_else-returns
lower_if_else-returns t c =
    let b0 = made_of c.args.b.now in
    let b1 = made_of c.label.new.self in
    let b2 = made_of c.label-2.new.self in
    let b3 = made_of c.lower_test.new.b in
    let b4 = made_of c.lower_stmts.new.b in
    let b5 = made_of c.jump.new.self in
    let b6 = made_of c.place.new.self in
    let b7 = made_of c.lower_stmts-2.new.b in
    let b8 = made_of c.place-2.new.self in
    let away = c.in_ok-away.away in
    let end = c.in_ok-end.end in
    ok_map c.place-2.result _ _
    (if_else_emitted (term_of c.args.test.now) (stmts_of (map stmt_of c.args.body.now.items))
    (stmts_of (map stmt_of c.args.other.now.items)) c.args.place away end c.args.innermost b0 b1 b2 b3 b4 b5 b6 b7 b8
    (fresh b0 b1 away c.in_ok-away.ensures.0 c.in_ok-away.ensures.1)
    (fresh b1 b2 end c.in_ok-end.ensures.0 c.in_ok-end.ensures.1) c.in_ok-lower_test.ensures
    c.in_ok-lower_stmts.ensures c.in_ok-jump.ensures c.in_ok-place.ensures c.in_ok-lower_stmts-2.ensures)
    c.place-2.ensures

pub lower_loop-returns : goal.lower_loop-returns
lower_loop-returns t c =
    let b0 = made_of c.args.b.now in
    let b1 = made_of c.label.new.self in
    let b2 = made_of c.place.new.self in
    let b3 = made_of c.label-2.new.self in
    let b4 = made_of c.label-3.new.self in
    let b5 = made_of c.lower_condition.new.b in
    let b6 = made_of c.lower_stmts.new.b in
    let b7 = made_of c.place-2.new.self in
    let b8 = made_of c.lower_stmts-2.new.b in
    let b9 = made_of c.jump.new.self in
    let b10 = made_of c.place-3.new.self in
    let start = c.in_ok-start.start in
    let l : Loop = record { break_to = c.in_ok-label.field-0; continue_to = c.in_ok-label-2.field-0 } in
    ok_map c.place-3.result _ _
    (loop_emitted (boxed_term_of c.args.test.now) (stmts_of (map stmt_of c.args.body.now.items))
    (stmts_of (map stmt_of c.args.post.now.items)) c.args.place start l c.args.innermost b0 b1 b2 b3 b4 b5 b6 b7
    b8 b9 b10
    (fresh b0 b1 start c.in_ok-start.ensures.0 c.in_ok-start.ensures.1) c.in_ok-place.ensures
    (fresh b2 b3 l.break_to c.in_ok-label.ensures.0 c.in_ok-label.ensures.1)
    (fresh b3 b4 l.continue_to c.in_ok-label-2.ensures.0 c.in_ok-label-2.ensures.1) c.in_ok-lower_condition.ensures
    c.in_ok-lower_stmts.ensures c.in_ok-place-2.ensures c.in_ok-lower_stmts-2.ensures c.in_ok-jump.ensures)
    c.place-3.ensures

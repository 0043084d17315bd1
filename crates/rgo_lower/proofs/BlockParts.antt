-- The code of statements with statements in them, put together from that of their parts. The hard case is the loop: its labels are open
-- while test, body and post statement are emitted, and must still be open when they are placed.
use Rattle.std.proofs.Common.{◌≡◌, arith, ℕ, ◌+◌, ◌<◌, ◌≤◌, Bool, true, ◌||◌, ◌&&◌, List, ◌∷◌, length, map, drop, get_or, refl, sym, ap, ◌∙◌, subst}
use Rattle.std.specs.Prelude.{Option, Some, None, slice_get, nat_eq}
use Rattle.std.proofs.lemmas.List.{at_drop_more, at_drop_all}
use Rattle.rgo_typed.specs.declared.actions.Logical.TheVariants.{And}
use Rattle.rgo_typed.specs.declared.statements.Stmt.{Stmt as CodeStmt}
use Rattle.rgo_typed.specs.Tree as tree
use Rattle.rgo_typed.specs.Tree.{Term, Stmt, Stmts, stmts_of}
use Rattle.rgo_typed.specs.Views.{stmt_of}
use Rattle.rgo_wellformed.specs.WellFormed.{InScope, is_in_scope, Environment, in_a_loop, HasType, IsCondition, AreStmts, scope_after}
use Rattle.rgo_tac.specs.Code.{Jump}
use Rattle.rgo_lower.specs.declared.builder.Loop.{Loop}
use Rattle.rgo_lower.specs.Lowered.{LoweringPoint, next_point, OpAt, LoweringScope, Target, bool_type, TestAt, ConditionAt, StmtsAt}
use Rattle.rgo_lower.specs.Emitted.{BuilderParts, builder_point, slot_of_local, with_placed, Grown, Whole, Completes, OpIsAdded, decides, jump_to}
use Rattle.rgo_lower.specs.Emitted.{ScopeHasSlots, TermIsEmitted, AreLoopTargets, typing_environment, StmtIsEmitted, StmtsAreEmitted, TestIsEmitted, ConditionIsEmitted}
use Rattle.rgo_lower.specs.Shapes.{stmt_fits, stmts_fit}
use Rattle.rgo_lower.specs.Sizes.{stmt_size, stmts_size}
use Rattle.rgo_lower.proofs.Growing.{grown_same, grown_trans, earlier}
use Rattle.rgo_lower.proofs.Labels.{Fresh, Placed, placed, unmade_before, apart, op_moved}
use Rattle.rgo_lower.proofs.StmtParts.{knows_same, knows_kept}
use Rattle.rgo_lower.proofs.TermParts.{sides}

-- ---- several statements

or_true : (b c : Bool) → c ≡ true → b || c ≡ true
or_true true c e = refl
or_true _ c e = e

-- what is in scope before a statement is so after it
pub stays : (s : Stmt) (g : InScope) (n : ℕ) → is_in_scope g n ≡ true → is_in_scope (scope_after g s) n ≡ true
stays (tree.Declare m ty value place) g n h = or_true (nat_eq m n) (is_in_scope g n) h
stays (tree.Zero m ty place) g n h = or_true (nat_eq m n) (is_in_scope g n) h
stays _ g n h = h

pub none_emitted : (innermost : Option Loop) (a : BuilderParts) → StmtsAreEmitted tree.no_stmts innermost a a
none_emitted innermost a = record {
  grown = grown_same a;
  size = omega arith;
  locals = refl;
  kept = λ e g typed n h. refl;
  code = λ w in_loop g scope targets typed leads knows all. (scope, (refl, refl));
}

pub more_emitted : (s : Stmt) (all : Stmts) (innermost : Option Loop) (a b c : BuilderParts) → StmtIsEmitted s innermost a b
    → StmtsAreEmitted all innermost b c → StmtsAreEmitted (tree.a_stmt s all) innermost a c
more_emitted s all innermost a b c h hs = record {
  grown = grown_trans a b c h.grown hs.grown;
  size = omega (arith, h.size, hs.size);
  locals = hs.locals ∙ h.locals;
  kept = λ e g typed n inside.
      hs.kept e (scope_after g s) typed.1 n (stays s g n inside) ∙ h.kept e g typed.0 n inside;
  code = λ w in_loop g scope targets typed leads knows done.
      let first = h.code w in_loop g scope targets typed.0 leads knows (earlier w b c hs.grown done) in
      let rest = hs.code w in_loop (scope_after g s) first.0 targets typed.1 leads first.2 done in
      (rest.0, (first.0, builder_point b, first.1, rest.1));
}

abbrev all_stmts : List CodeStmt → Stmts
all_stmts l = stmts_of (map stmt_of l)

pub next_emitted : (items : List CodeStmt) (i : ℕ) (x : CodeStmt) (innermost : Option Loop) (a b new : BuilderParts)
    → i < length items → x ≡ get_or items i x → StmtIsEmitted (stmt_of x) innermost a b
    → StmtsAreEmitted (stmts_of (map stmt_of (drop (i + 1) items))) innermost b new
    → StmtsAreEmitted (stmts_of (map stmt_of (drop i items))) innermost a new
next_emitted items i x innermost a b new lt is h rest =
    subst (λ z. StmtsAreEmitted z innermost a new) (sym (at_drop_more all_stmts items i x lt))
    (subst (λ z. StmtsAreEmitted (tree.a_stmt (stmt_of z) (all_stmts (drop (i + 1) items))) innermost a new) is
    (more_emitted (stmt_of x) (all_stmts (drop (i + 1) items)) innermost a b new h rest))

-- what the rest of the statements counts
pub next_size : (items : List CodeStmt) (i : ℕ) (x : CodeStmt) → i < length items → x ≡ get_or items i x
    → stmts_size (stmts_of (map stmt_of (drop i items)))
    ≡ stmt_size (stmt_of x) + stmts_size (stmts_of (map stmt_of (drop (i + 1) items)))
next_size items i x lt is =
    at_drop_more (λ l. stmts_size (all_stmts l)) items i x lt
    ∙ ap (λ z. stmt_size (stmt_of z) + stmts_size (all_stmts (drop (i + 1) items))) (sym is)

-- the first of the rest of the statements fits, and so do those after it
pub next_fits : (locals : ℕ) (in_loop : Bool) (items : List CodeStmt) (i : ℕ) (x : CodeStmt) → i < length items
    → x ≡ get_or items i x → stmts_fit locals in_loop (stmts_of (map stmt_of (drop i items))) ≡ true
    → (stmt_fits locals in_loop (stmt_of x) ≡ true)
    × (stmts_fit locals in_loop (stmts_of (map stmt_of (drop (i + 1) items))) ≡ true)
next_fits locals in_loop items i x lt is h =
    let rest = all_stmts (drop (i + 1) items) in
    let more =
    at_drop_more (λ l. stmts_fit locals in_loop (all_stmts l)) items i x lt
    ∙ ap (λ z. stmt_fits locals in_loop (stmt_of z) && stmts_fit locals in_loop rest) (sym is) in
    sides (stmt_fits locals in_loop (stmt_of x)) (stmts_fit locals in_loop rest) (sym more ∙ h)

pub end_emitted : (items : List CodeStmt) (i : ℕ) (innermost : Option Loop) (a : BuilderParts) → length items ≤ i
    → StmtsAreEmitted (stmts_of (map stmt_of (drop i items))) innermost a a
end_emitted items i innermost a le =
    subst (λ z. StmtsAreEmitted z innermost a a) (sym (at_drop_all all_stmts items i le)) (none_emitted innermost a)

pub block_emitted : (all : Stmts) (innermost : Option Loop) (a b : BuilderParts) → StmtsAreEmitted all innermost a b
    → StmtIsEmitted (tree.Block all) innermost a b
block_emitted all innermost a b h = record {
  grown = h.grown;
  size = h.size;
  locals = h.locals;
  kept = h.kept;
  code = λ w in_loop g scope targets typed leads knows done.
      let inner = h.code w in_loop g scope targets typed leads knows done in (
        scope,
        (inner.0, inner.1, refl),
        knows_kept a.slots b.slots g scope (h.kept (typing_environment w in_loop) g typed) knows,
      );
}

-- ---- conditions

pub test_emitted : (t : Term) (d other place : ℕ) (a b c : BuilderParts) → TermIsEmitted t a d b
    → OpIsAdded b (decides And d (length b.lines + 1) other) place c → TestIsEmitted t other place a c
test_emitted t d other place a b c h o = record {
  grown = grown_trans a b c h.grown o.grown;
  size = omega (arith, h.size, o.size);
  slots = o.slots ∙ h.slots;
  code = λ w g scope typed knows all.
      (d, builder_point b, h.code w g bool_type scope typed knows (earlier w b c o.grown all), o.instr w all, o.point);
}

pub no_condition : (other place : ℕ) (a : BuilderParts) → ConditionIsEmitted None other place a a
no_condition other place a = record {
  grown = grown_same a;
  size = omega arith;
  slots = refl;
  code = λ w in_loop g scope typed knows all. refl;
}

pub condition_emitted : (t : Term) (other place : ℕ) (a b : BuilderParts) → TestIsEmitted t other place a b
    → ConditionIsEmitted (Some t) other place a b
condition_emitted t other place a b h = record {
  grown = h.grown;
  size = h.size;
  slots = h.slots;
  code = λ w in_loop g scope typed knows all. h.code w g scope typed knows all;
}

-- ---- if

module _ (test : Term) (body : Stmts) (place end : ℕ) (innermost : Option Loop) (a b c d e : BuilderParts)
    (label : Fresh a end b) (branch : TestIsEmitted test end place b c) (inside : StmtsAreEmitted body innermost c d)
    (is : e ≡ with_placed d end) where
  if_ends : Placed d end e
  if_ends = placed d e end (inside.grown.labels end None (branch.grown.labels end None label.waits)) is

  if_slots : c.slots ≡ a.slots
  if_slots = branch.slots ∙ label.slots

  if_kept : (env : Environment) (g : InScope) → AreStmts env g body → (n : ℕ) → is_in_scope g n ≡ true
      → slot_of_local e n ≡ slot_of_local a n
  if_kept env g typed n h =
      ap (λ z. get_or z n 0) if_ends.slots ∙ inside.kept env g typed n h ∙ ap (λ z. get_or z n 0) if_slots

  if_test : (w : Whole) (g : InScope) (scope : LoweringScope) → HasType w.declared w.locals g test bool_type
      → ScopeHasSlots a.slots g scope → Completes w e
      → TestAt w.functions w.f scope test (length e.lines) place (builder_point a) (builder_point c)
  if_test w g scope typed knows all =
      let at_c = earlier w c d inside.grown (if_ends.completes w all) in
      subst (λ z. TestAt w.functions w.f scope test z place (builder_point a) (builder_point c))
      (if_ends.leads w all ∙ sym (ap (λ (z : LoweringPoint). z.instr) if_ends.point))
      (subst (λ z. TestAt w.functions w.f scope test (w.leads end) place z (builder_point c)) label.point
      (branch.code w g scope typed (knows_same a.slots b.slots g scope label.slots knows) at_c))

  pub if_emitted : StmtIsEmitted (tree.If test body place) innermost a e
  if_emitted = record {
    grown = if_ends.grown a (grown_trans a b d label.grown (grown_trans b c d branch.grown inside.grown)) label.unmade;
    size = omega (arith, label.size, branch.size, inside.size, if_ends.size);
    locals = ap length if_ends.slots ∙ inside.locals ∙ ap length if_slots;
    kept = λ env g typed n h. if_kept env g typed.1 n h;
    code = λ w in_loop g scope targets typed leads knows all.
        let inner =
        inside.code w in_loop g scope targets typed.1 leads (knows_same a.slots c.slots g scope if_slots knows)
        (if_ends.completes w all) in (
          scope,
          (
            builder_point c,
            inner.0,
            if_test w g scope typed.0 knows all,
            subst (λ z. StmtsAt w.functions w.f body targets scope (builder_point c) inner.0 z) (sym if_ends.point) inner.1,
            refl,
          ),
          knows_kept a.slots e.slots g scope (if_kept (typing_environment w in_loop) g typed.1) knows,
        );
  }

-- ---- if with else

module _ (test : Term) (body other : Stmts) (place away end : ℕ) (innermost : Option Loop)
    (b0 b1 b2 b3 b4 b5 b6 b7 b8 : BuilderParts) (first : Fresh b0 away b1) (second : Fresh b1 end b2)
    (branch : TestIsEmitted test away place b2 b3) (inside : StmtsAreEmitted body innermost b3 b4)
    (jump : OpIsAdded b4 (jump_to end) place b5) (away_is : b6 ≡ with_placed b5 away)
    (outside : StmtsAreEmitted other innermost b6 b7) (end_is : b8 ≡ with_placed b7 end) where
  from_2 : Grown b2 b5
  from_2 = grown_trans b2 b3 b5 branch.grown (grown_trans b3 b4 b5 inside.grown jump.grown)

  goes_away : Placed b5 away b6
  goes_away = placed b5 b6 away (from_2.labels away None (second.grown.labels away None first.waits)) away_is

  end_waits : slice_get b7.labels end ≡ Some None
  end_waits =
      outside.grown.labels end None
      (goes_away.others end (Some None) (λ e. apart b1 away end first.waits second.unmade (sym e))
      (from_2.labels end None second.waits))

  else_ends : Placed b7 end b8
  else_ends = placed b7 b8 end end_waits end_is

  from_0 : Grown b0 b5
  from_0 = grown_trans b0 b2 b5 (grown_trans b0 b1 b2 first.grown second.grown) from_2

  slots_3 : b3.slots ≡ b0.slots
  slots_3 = branch.slots ∙ second.slots ∙ first.slots

  slots_6 : b6.slots ≡ b4.slots
  slots_6 = goes_away.slots ∙ jump.slots

  point_6 : builder_point b6 ≡ next_point (builder_point b4)
  point_6 = goes_away.point ∙ jump.point

  module _ (env : Environment) (g : InScope) (typed : AreStmts env g body) where
    kept_6 : (n : ℕ) → is_in_scope g n ≡ true → slot_of_local b6 n ≡ slot_of_local b0 n
    kept_6 n h = ap (λ z. get_or z n 0) slots_6 ∙ inside.kept env g typed n h ∙ ap (λ z. get_or z n 0) slots_3

    kept_8 : AreStmts env g other → (n : ℕ) → is_in_scope g n ≡ true → slot_of_local b8 n ≡ slot_of_local b0 n
    kept_8 typed2 n h = ap (λ z. get_or z n 0) else_ends.slots ∙ outside.kept env g typed2 n h ∙ kept_6 n h

  else_test : (w : Whole) (g : InScope) (scope : LoweringScope) → HasType w.declared w.locals g test bool_type
      → ScopeHasSlots b0.slots g scope → Completes w b6
      → TestAt w.functions w.f scope test (length b4.lines + 1) place (builder_point b0) (builder_point b3)
  else_test w g scope typed knows at_6 =
      let at_4 = earlier w b4 b5 jump.grown (goes_away.completes w at_6) in
      subst (λ z. TestAt w.functions w.f scope test z place (builder_point b0) (builder_point b3))
      (goes_away.leads w at_6 ∙ ap (λ (z : LoweringPoint). z.instr) jump.point)
      (subst (λ z. TestAt w.functions w.f scope test (w.leads away) place z (builder_point b3)) (second.point ∙ first.point)
      (branch.code w g scope typed (knows_same b0.slots b2.slots g scope (second.slots ∙ first.slots) knows)
      (earlier w b3 b4 inside.grown at_4)))

  else_jump : (w : Whole) → Completes w b8 → OpAt w.f (length b4.lines) (Jump (length b8.lines)) place
  else_jump w all =
      let at_6 = earlier w b6 b7 outside.grown (else_ends.completes w all) in
      op_moved w.f (length b4.lines) (length b4.lines) _ _ place (jump.instr w (goes_away.completes w at_6)) refl
      (ap Jump (else_ends.leads w all ∙ sym (ap (λ (z : LoweringPoint). z.instr) else_ends.point)))

  pub if_else_emitted : StmtIsEmitted (tree.IfElse test body other place) innermost b0 b8
  if_else_emitted = record {
    grown =
        else_ends.grown b0
        (grown_trans b0 b6 b7 (goes_away.grown b0 from_0 first.unmade) outside.grown)
        (unmade_before b0 b1 end first.grown second.unmade);
    size = omega (arith, first.size, second.size, branch.size, inside.size, jump.size, goes_away.size, outside.size, else_ends.size);
    locals =
        ap length else_ends.slots ∙ outside.locals ∙ ap length slots_6 ∙ inside.locals ∙ ap length slots_3;
    kept = λ env g typed n h. kept_8 env g typed.1 typed.2 n h;
    code = λ w in_loop g scope targets typed leads knows all.
        let env = typing_environment w in_loop in
        let at_7 = else_ends.completes w all in
        let at_6 = earlier w b6 b7 outside.grown at_7 in
        let at_4 = earlier w b4 b5 jump.grown (goes_away.completes w at_6) in
        let inner =
        inside.code w in_loop g scope targets typed.1 leads (knows_same b0.slots b3.slots g scope slots_3 knows)
        at_4 in
        let outer =
        outside.code w in_loop g scope targets typed.2 leads
        (knows_kept b0.slots b6.slots g scope (kept_6 env g typed.1) knows) at_7 in (
          scope,
          (
            builder_point b3,
            builder_point b4,
            inner.0,
            outer.0,
            else_test w g scope typed.0 knows at_6,
            inner.1,
            else_jump w all,
            subst (λ z. StmtsAt w.functions w.f other targets scope z outer.0 (builder_point b8)) point_6
                (subst (λ z. StmtsAt w.functions w.f other targets scope (builder_point b6) outer.0 z) (sym else_ends.point)
                outer.1),
            refl,
          ),
          knows_kept b0.slots b8.slots g scope (kept_8 env g typed.1 typed.2) knows,
        );
  }

-- ---- loops

module _ (test : Option Term) (body post : Stmts) (place start : ℕ) (l : Loop) (innermost : Option Loop)
    (b0 b1 b2 b3 b4 b5 b6 b7 b8 b9 b10 : BuilderParts) (first : Fresh b0 start b1) (start_is : b2 ≡ with_placed b1 start)
    (second : Fresh b2 l.break_to b3) (third : Fresh b3 l.continue_to b4)
    (condition : ConditionIsEmitted test l.break_to place b4 b5) (inside : StmtsAreEmitted body (Some l) b5 b6)
    (next_is : b7 ≡ with_placed b6 l.continue_to) (behind : StmtsAreEmitted post innermost b7 b8)
    (jump : OpIsAdded b8 (jump_to start) place b9) (end_is : b10 ≡ with_placed b9 l.break_to) where
  starts : Placed b1 start b2
  starts = placed b1 b2 start first.waits start_is

  loop_2 : Grown b0 b2
  loop_2 = starts.grown b0 first.grown first.unmade

  from_4 : Grown b4 b6
  from_4 = grown_trans b4 b5 b6 condition.grown inside.grown

  continues : Placed b6 l.continue_to b7
  continues = placed b6 b7 l.continue_to (from_4.labels l.continue_to None third.waits) next_is

  from_7 : Grown b7 b9
  from_7 = grown_trans b7 b8 b9 behind.grown jump.grown

  break_waits : slice_get b9.labels l.break_to ≡ Some None
  break_waits =
      from_7.labels l.break_to None
      (continues.others l.break_to (Some None) (apart b3 l.break_to l.continue_to second.waits third.unmade)
      (from_4.labels l.break_to None (third.grown.labels l.break_to None second.waits)))

  loop_ends : Placed b9 l.break_to b10
  loop_ends = placed b9 b10 l.break_to break_waits end_is

  loop_3 : Grown b0 b3
  loop_3 = grown_trans b0 b2 b3 loop_2 second.grown

  loop_7 : Grown b0 b7
  loop_7 =
      continues.grown b0 (grown_trans b0 b4 b6 (grown_trans b0 b3 b4 loop_3 third.grown) from_4)
      (unmade_before b0 b3 l.continue_to loop_3 third.unmade)

  loop_grown : Grown b0 b10
  loop_grown = loop_ends.grown b0 (grown_trans b0 b7 b9 loop_7 from_7)
      (unmade_before b0 b2 l.break_to loop_2 second.unmade)

  slots_4 : b4.slots ≡ b0.slots
  slots_4 = third.slots ∙ second.slots ∙ starts.slots ∙ first.slots

  slots_5 : b5.slots ≡ b0.slots
  slots_5 = condition.slots ∙ slots_4

  point_4 : builder_point b4 ≡ builder_point b0
  point_4 = third.point ∙ second.point ∙ starts.point ∙ first.point

  module _ (env : Environment) (g : InScope) (typed : AreStmts (in_a_loop env) g body) where
    kept_7 : (n : ℕ) → is_in_scope g n ≡ true → slot_of_local b7 n ≡ slot_of_local b0 n
    kept_7 n h =
        ap (λ z. get_or z n 0) continues.slots ∙ inside.kept (in_a_loop env) g typed n h
        ∙ ap (λ z. get_or z n 0) slots_5

    kept_10 : AreStmts env g post → (n : ℕ) → is_in_scope g n ≡ true → slot_of_local b10 n ≡ slot_of_local b0 n
    kept_10 typed2 n h =
        ap (λ z. get_or z n 0) (loop_ends.slots ∙ jump.slots) ∙ behind.kept env g typed2 n h ∙ kept_7 n h

  module _ (w : Whole) (all : Completes w b10) where
    at_8 : Completes w b8
    at_8 = earlier w b8 b9 jump.grown (loop_ends.completes w all)

    at_7 : Completes w b7
    at_7 = earlier w b7 b8 behind.grown at_8

    at_6 : Completes w b6
    at_6 = continues.completes w at_7

    at_5 : Completes w b5
    at_5 = earlier w b5 b6 inside.grown at_6

    at_2 : Completes w b2
    at_2 =
        earlier w b2 b3 second.grown (earlier w b3 b4 third.grown (earlier w b4 b5 condition.grown at_5))

    break_leads : w.leads l.break_to ≡ length b10.lines
    break_leads = loop_ends.leads w all ∙ sym (ap (λ (z : LoweringPoint). z.instr) loop_ends.point)

    start_leads : w.leads start ≡ length b0.lines
    start_leads = starts.leads w at_2 ∙ ap (λ (z : LoweringPoint). z.instr) first.point

    abbrev loop_target : Target
    loop_target = record { break_to = length b10.lines; continue_to = length b6.lines }

    body_leads : (targets : List Target) → AreLoopTargets w true (Some l) (loop_target ∷ targets)
    body_leads targets e = (
      l,
      targets,
      refl,
      λ j. record {
        break_to = sym break_leads j;
        continue_to = sym (continues.leads w at_7) j;
      } ∷ targets,
    )

    loop_condition : (in_loop : Bool) (g : InScope) (scope : LoweringScope) → IsCondition (typing_environment w in_loop) g test
        → ScopeHasSlots b0.slots g scope
        → ConditionAt w.functions w.f scope test (length b10.lines) place (builder_point b0) (builder_point b5)
    loop_condition in_loop g scope typed knows =
        subst (λ z. ConditionAt w.functions w.f scope test z place (builder_point b0) (builder_point b5)) break_leads
        (subst (λ z. ConditionAt w.functions w.f scope test (w.leads l.break_to) place z (builder_point b5)) point_4
        (condition.code w in_loop g scope typed (knows_same b0.slots b4.slots g scope slots_4 knows) at_5))

    loop_jump : OpAt w.f (length b8.lines) (Jump (length b0.lines)) place
    loop_jump =
        op_moved w.f (length b8.lines) (length b8.lines) _ _ place (jump.instr w (loop_ends.completes w all)) refl
        (ap Jump start_leads)

  pub loop_emitted : StmtIsEmitted (tree.Loop test body post place) innermost b0 b10
  loop_emitted = record {
    grown = loop_grown;
    size = omega (arith, first.size, starts.size, second.size, third.size, condition.size, inside.size, continues.size, behind.size, jump.size, loop_ends.size);
    locals =
        ap length (loop_ends.slots ∙ jump.slots) ∙ behind.locals ∙ ap length continues.slots ∙ inside.locals
        ∙ ap length slots_5;
    kept = λ env g typed n h. kept_10 env g typed.1 typed.2 n h;
    code = λ w in_loop g scope targets typed leads knows all.
        let env = typing_environment w in_loop in
        let inner =
        inside.code w true g scope (loop_target w all ∷ targets) typed.1 (body_leads w all targets)
        (knows_same b0.slots b5.slots g scope slots_5 knows) (at_6 w all) in
        let outer =
        behind.code w in_loop g scope targets typed.2 leads
        (knows_kept b0.slots b7.slots g scope (kept_7 env g typed.1) knows) (at_8 w all) in (
          scope,
          (
            builder_point b5,
            builder_point b6,
            builder_point b8,
            inner.0,
            outer.0,
            loop_condition w all in_loop g scope typed.0 knows,
            inner.1,
            subst (λ z. StmtsAt w.functions w.f post targets scope z outer.0 (builder_point b8)) continues.point outer.1,
            loop_jump w all,
            refl,
            loop_ends.point ∙ jump.point,
          ),
          knows_kept b0.slots b10.slots g scope (kept_10 env g typed.1 typed.2) knows,
        );
  }

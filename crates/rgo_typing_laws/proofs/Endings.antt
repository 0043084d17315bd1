-- If the statements of a body are terminating, so are its typed statements. The rule is on source trees and the later passes ask of
-- typed ones: typing keeps each `break` and puts headers into blocks, so no loop gains a `break` and the last statement stays last.
use Rattle.std.proofs.Common.{◌≡◌, ◌++◌, ◌&&◌, ◌||◌, ◌+◌, ℕ, pos, Bool, true, false, not, List, [], ◌∷◌, length}
use Rattle.std.proofs.Common.{Option, Some, None, refl, ap, sym, subst, true≢false}
use Rattle.std.proofs.lemmas.List.{append-nil}
use Rattle.rgo_ast.specs.Tree as tree
use Rattle.rgo_ast.specs.Tree.{Expr, Exprs, Clause, LocalVar}
use Rattle.rgo_ast.specs.declared.names.Ident.{Ident}
use Rattle.rgo_ast.specs.declared.ops.BinaryOp.{BinaryOp}
use Rattle.rgo_typed.specs.declared.actions.Action.{Action}
use Rattle.rgo_typed.specs.declared.types.Type.{«Type»}
use Rattle.rgo_typed.specs.Tree as typed
use Rattle.rgo_typed.specs.Tree.{Term, Terms, Stmt, stmts_of}
use Rattle.rgo_typing_rules.specs.Builtins.{result_of, action_of}
use Rattle.rgo_typing_expressions.specs.declared.callees.Callee.{Callee}
use Rattle.rgo_typing_expressions.specs.declared.callees.Callee.TheVariants as callee
use Rattle.rgo_typing_expressions.specs.Callees.{without_parens, callee_of, named_callee}
use Rattle.rgo_typing_expressions.specs.Packages.{Package, Context}
use Rattle.rgo_typing_expressions.specs.Scopes.{signature_at, meaning_of, resolved}
use Rattle.rgo_typing_expressions.specs.Terms.{typed_term, all_terms, wanted_of, with_type, type_in, int_constant}
use Rattle.rgo_typing_expressions.specs.Terms.{result_or_int}
use Rattle.rgo_typing_expressions.specs.Types.{type_of, result_shape}
use Rattle.rgo_types.specs.Flow as source
use Rattle.rgo_typing_statements.specs.Statements.{Enclosing, within_loop, in_block, assign_op, step_op}
use Rattle.rgo_typing_statements.specs.Statements.{context_after, after_var, after_block, after_clause, header}
use Rattle.rgo_typing_statements.specs.TypedStatements.{plain_stmt, bare_plain, call_stmt, called_stmt, builtin_stmt, write_of, store_stmt, stored_by}
use Rattle.rgo_typing_statements.specs.TypedStatements.{changed, changed_by, assign_stmt, step_stmt, go_stmt, zeros, var_stmts}
use Rattle.rgo_typing_statements.specs.TypedStatements.{vars_stmts}
use Rattle.rgo_typing_statements.specs.TypedStatements.{has_clause, headed, if_or_else, optional_term, typed_stmt, typed_all}
use Rattle.rgo_typing_statements.specs.TypedStatements.{typed_clause}
use Rattle.rgo_wellformed.specs.Endings.{has_break, any_break, is_forever, is_terminating, ends}
use Rattle.rgo_typing_laws.specs.Headers.{HasHeaders, HaveHeaders, ClauseHasHeaders}
use Rattle.rgo_typing_laws.proofs.HeaderForms.{init_headers, init_breaks}
use Rattle.rgo_typing_laws.proofs.Unbroken.{not_true, and_left, and_right, or_left, or_right}

-- no `break` in these leaves the loop around them
abbrev NoBreak : List Stmt → Type 0
NoBreak l = any_break (stmts_of l) ≡ false

or_false : (a b : Bool) → a ≡ false → b ≡ false → a || b ≡ false
or_false true b h k = h
or_false false b h k = k

and_true : (a b : Bool) → a ≡ true → b ≡ true → a && b ≡ true
and_true true b h k = k
and_true false b h k = h

stays_both : (l m : List Stmt) → NoBreak l → NoBreak m → NoBreak (l ++ m)
stays_both [] m h k = k
stays_both (s ∷ l) m h k =
    or_false (has_break s) (any_break (stmts_of (l ++ m))) (or_left (has_break s) (any_break (stmts_of l)) h)
    (stays_both l m (or_right (has_break s) (any_break (stmts_of l)) h) k)

stays_one : (s : Stmt) → has_break s ≡ false → NoBreak (s ∷ [])
stays_one s h = or_false (has_break s) false h refl

-- ---- statements without statements in them

called_flat : (n : ℕ) (terms : Terms) (at : ℕ) (o : Option «Type»)
    → has_break (called_stmt (result_shape o) (typed.Call n terms (result_or_int o) at)) ≡ false
called_flat n terms at None = refl
called_flat n terms at (Some t) = refl

builtin_flat : (o : Option Action) (result : Option «Type») (args : Exprs) (terms : Terms) (at : ℕ)
    → has_break (builtin_stmt o result args terms at) ≡ false
builtin_flat None result args terms at = refl
builtin_flat (Some a) None args terms at = refl
builtin_flat (Some a) (Some ty) args terms at = refl

call_flat : (p : Package) (f : Callee) (args : Exprs) (terms : Terms) (at : ℕ)
    → has_break (call_stmt p f args terms at) ≡ false
call_flat p (callee.Routine n) args terms at = called_flat n terms at (signature_at p n).result_type
call_flat p (callee.Builtin b) args terms at = builtin_flat (action_of b) (result_of b) args terms at
call_flat p f args terms at = refl

plain_flat : (c : Context) (e : Expr) → has_break (bare_plain c e) ≡ false
plain_flat c (tree.Called f args at) =
    call_flat c.globals (callee_of c f) args (all_terms c (wanted_of c.globals (callee_of c f)) args) at
plain_flat c e = refl

stored_by_flat : (o : Option Action) (parts : Terms) (value : Term) (at : ℕ)
    → has_break (stored_by o parts value at) ≡ false
stored_by_flat None parts value at = refl
stored_by_flat (Some write) parts value at = refl

stored_flat : (t value : Term) (at : ℕ) → has_break (store_stmt t value at) ≡ false
stored_flat (typed.Local n) value at = refl
stored_flat (typed.Apply read parts ty read_at) value at = stored_by_flat (write_of read) parts value at
stored_flat t value at = refl

changed_by_flat : (o : Option Action) (read : Action) (parts : Terms) (ty : «Type») (read_at : ℕ) (op : BinaryOp)
    (value : Term) (at : ℕ) → has_break (changed_by o read parts ty read_at op value at) ≡ false
changed_by_flat None read parts ty read_at op value at = refl
changed_by_flat (Some write) read parts ty read_at op value at = refl

changed_flat : (op : BinaryOp) (t value : Term) (at : ℕ) → has_break (changed op t value at) ≡ false
changed_flat op (typed.Local n) value at = refl
changed_flat op (typed.Apply read parts ty read_at) value at =
    changed_by_flat (write_of read) read parts ty read_at op value at
changed_flat op t value at = refl

assign_flat : (c : Context) (o : Option BinaryOp) (a b : Expr) (at : ℕ) → has_break (assign_stmt c o a b at) ≡ false
assign_flat c None a b at = stored_flat (typed_term c a) (with_type (type_in (type_of c a)) (typed_term c b)) at
assign_flat c (Some op) a b at = changed_flat op (typed_term c a) (typed_term c b) at

go_flat : (f : Callee) (terms : Terms) (at : ℕ) → has_break (go_stmt f terms at) ≡ false
go_flat (callee.Routine n) terms at = refl
go_flat f terms at = refl

zeros_stay : (n : ℕ) (ty : «Type») (l : List Ident) → NoBreak (zeros n ty l)
zeros_stay n ty [] = refl
zeros_stay n ty (x ∷ l) = zeros_stay (n + 1) ty l

var_stays : (c : Context) (v : LocalVar) → NoBreak (var_stmts c v)
var_stays c (tree.Zero b) = zeros_stay (length c.scope.types) (resolved c b.ty) b.names
var_stays c (tree.Typed x ty e at) = refl
var_stays c (tree.Inferred x e at) = refl

vars_stay : (c : Context) (l : List LocalVar) → NoBreak (vars_stmts c l)
vars_stay c [] = refl
vars_stay c (v ∷ l) =
    stays_both (var_stmts c v) (vars_stmts (after_var c v) l) (var_stays c v) (vars_stay (after_var c v) l)

-- ---- statements that contain others

headed_stays : (init : Clause) (l : List Stmt) (s : Stmt) → NoBreak l → has_break s ≡ false
    → NoBreak (headed (has_clause init) l s)
headed_stays tree.no_clause l s h k = stays_one s k
headed_stays (tree.a_clause x) l s h k =
    stays_one (typed.Block (stmts_of (l ++ s ∷ []))) (stays_both l (s ∷ []) h (stays_one s k))

branches_flat : (other : Clause) (test : Term) (body alternative : List Stmt) (at : ℕ) → NoBreak body
    → NoBreak alternative → has_break (if_or_else (has_clause other) test body alternative at) ≡ false
branches_flat tree.no_clause test body alternative at h k = h
branches_flat (tree.a_clause s) test body alternative at h k =
    or_false (any_break (stmts_of body)) (any_break (stmts_of alternative)) h k

mutual
  stmt_stays : (s : tree.Stmt) (f : Enclosing) (c : Context) → HasHeaders s → source.stmt_breaks s ≡ false
      → NoBreak (typed_stmt f c s)
  stmt_stays (tree.Block all at) f c q h =
      stays_one (typed.Block (stmts_of (typed_all f (in_block c) all))) (all_stay all f (in_block c) q h)
  stmt_stays (tree.Plain e) f c q h = stays_one (plain_stmt c e) (plain_flat c (without_parens e))
  stmt_stays (tree.Send a b at) f c q h = refl
  stmt_stays (tree.Step op e at) f c q h =
      stays_one (step_stmt c (step_op op) e at) (changed_flat (step_op op) (typed_term c e) (int_constant (pos 1) at) at)
  stmt_stays (tree.Assign op a b at) f c q h =
      stays_one (assign_stmt c (assign_op op) a b at) (assign_flat c (assign_op op) a b at)
  stmt_stays (tree.Define x e at) f c q h = refl
  stmt_stays (tree.If init test body other at) f c q h =
      let c1 = header c init in
      let c2 = after_block c1 body in
      let then_part = typed_all f (in_block c1) body in
      let else_part = typed_clause f c2 other in
      headed_stays init (typed_clause f (in_block c) init)
      (if_or_else (has_clause other) (typed_term c1 test) then_part else_part at)
      (clause_stays init f (in_block c) (init_headers init q.0) (init_breaks init q.0))
      (branches_flat other (typed_term c1 test) then_part else_part at
      (all_stay body f (in_block c1) q.1 (or_left (source.stmts_break body) (source.clause_breaks other) h))
      (clause_stays other f c2 q.2 (or_right (source.stmts_break body) (source.clause_breaks other) h)))
  stmt_stays (tree.For init test post body at) f c q h =
      let c1 = header c init in
      let c2 = after_clause c1 post in
      headed_stays init (typed_clause f (in_block c) init)
      (typed.Loop (optional_term c1 test) (stmts_of (typed_all (within_loop f) (in_block c2) body))
      (stmts_of (typed_clause f c1 post)) at)
      (clause_stays init f (in_block c) (init_headers init q.0) (init_breaks init q.0)) refl
  stmt_stays (tree.Go x args at) f c q h =
      let k = named_callee x.at (meaning_of c x.name) in
      let terms = all_terms c (wanted_of c.globals k) args in
      stays_one (go_stmt k terms at) (go_flat k terms at)
  stmt_stays (tree.Var vars at) f c q h = vars_stay c vars
  stmt_stays (tree.Return value at) f c q h = refl
  stmt_stays (tree.Break at) f c q h = absurd (true≢false h)
  stmt_stays (tree.Continue at) f c q h = refl

  all_stay : (l : tree.Stmts) (f : Enclosing) (c : Context) → HaveHeaders l → source.stmts_break l ≡ false
      → NoBreak (typed_all f c l)
  all_stay tree.no_stmts f c q h = refl
  all_stay (tree.a_stmt s l) f c q h =
      stays_both (typed_stmt f c s) (typed_all f (context_after c s) l)
      (stmt_stays s f c q.0 (or_left (source.stmt_breaks s) (source.stmts_break l) h))
      (all_stay l f (context_after c s) q.1 (or_right (source.stmt_breaks s) (source.stmts_break l) h))

  clause_stays : (l : Clause) (f : Enclosing) (c : Context) → ClauseHasHeaders l → source.clause_breaks l ≡ false
      → NoBreak (typed_clause f c l)
  clause_stays tree.no_clause f c q h = refl
  clause_stays (tree.a_clause s) f c q h = stmt_stays s f c q h

-- ---- terminating statements

abbrev Finish : List Stmt → Type 0
Finish l = ends (stmts_of l) ≡ true

finish_after : (l m : List Stmt) → Finish m → Finish (l ++ m)
finish_after [] m h = h
finish_after (s ∷ []) [] h = absurd (true≢false (sym h))
finish_after (s ∷ []) (t ∷ m) h = h
finish_after (s ∷ t ∷ l) m h = finish_after (t ∷ l) m h

headed_finish : (init : Clause) (l : List Stmt) (s : Stmt) → is_terminating s ≡ true
    → Finish (headed (has_clause init) l s)
headed_finish tree.no_clause l s h = h
headed_finish (tree.a_clause x) l s h = finish_after l (s ∷ []) h

branches_end : (other : Clause) (test : Term) (body alternative : List Stmt) (at : ℕ) → source.clause_terminates other ≡ true
    → Finish body → (source.clause_terminates other ≡ true → Finish alternative)
    → is_terminating (if_or_else (has_clause other) test body alternative at) ≡ true
branches_end tree.no_clause test body alternative at e h k = absurd (true≢false (sym e))
branches_end (tree.a_clause s) test body alternative at e h k =
    and_true (ends (stmts_of body)) (ends (stmts_of alternative)) h (k e)

loop_ends : (test : Option Expr) (c : Context) (body : tree.Stmts) (l : List Stmt) → source.is_endless_for test body ≡ true
    → (source.stmts_break body ≡ false → NoBreak l) → is_forever (optional_term c test) (stmts_of l) ≡ true
loop_ends None c body l h k = ap not (k (not_true (source.stmts_break body) h))
loop_ends (Some e) c body l h k = absurd (true≢false (sym h))

mutual
  stmt_ends : (s : tree.Stmt) (f : Enclosing) (c : Context) → HasHeaders s → source.stmt_terminates s ≡ true
      → Finish (typed_stmt f c s)
  stmt_ends (tree.Block all at) f c q h = all_end all f (in_block c) q h
  stmt_ends (tree.If init test body other at) f c q h =
      let c1 = header c init in
      let c2 = after_block c1 body in
      let then_part = typed_all f (in_block c1) body in
      let else_part = typed_clause f c2 other in
      headed_finish init (typed_clause f (in_block c) init)
      (if_or_else (has_clause other) (typed_term c1 test) then_part else_part at)
      (branches_end other (typed_term c1 test) then_part else_part at
      (and_right (source.stmts_terminate body) (source.clause_terminates other) h)
      (all_end body f (in_block c1) q.1 (and_left (source.stmts_terminate body) (source.clause_terminates other) h))
      (clause_finishes other f c2 q.2))
  stmt_ends (tree.For init test post body at) f c q h =
      let c1 = header c init in
      let c2 = after_clause c1 post in
      let typed_body = typed_all (within_loop f) (in_block c2) body in
      headed_finish init (typed_clause f (in_block c) init)
      (typed.Loop (optional_term c1 test) (stmts_of typed_body) (stmts_of (typed_clause f c1 post)) at)
      (loop_ends test c1 body typed_body h (all_stay body (within_loop f) (in_block c2) q.2))
  stmt_ends (tree.Return value at) f c q h = refl
  stmt_ends (tree.Plain e) f c q h = absurd (true≢false (sym h))
  stmt_ends (tree.Send a b at) f c q h = absurd (true≢false (sym h))
  stmt_ends (tree.Step op e at) f c q h = absurd (true≢false (sym h))
  stmt_ends (tree.Assign op a b at) f c q h = absurd (true≢false (sym h))
  stmt_ends (tree.Define x e at) f c q h = absurd (true≢false (sym h))
  stmt_ends (tree.Go x args at) f c q h = absurd (true≢false (sym h))
  stmt_ends (tree.Var vars at) f c q h = absurd (true≢false (sym h))
  stmt_ends (tree.Break at) f c q h = absurd (true≢false (sym h))
  stmt_ends (tree.Continue at) f c q h = absurd (true≢false (sym h))

  pub all_end : (l : tree.Stmts) (f : Enclosing) (c : Context) → HaveHeaders l → source.stmts_terminate l ≡ true
      → Finish (typed_all f c l)
  all_end tree.no_stmts f c q h = absurd (true≢false (sym h))
  all_end (tree.a_stmt s tree.no_stmts) f c q h =
      subst Finish (sym (append-nil (typed_stmt f c s))) (stmt_ends s f c q.0 h)
  all_end (tree.a_stmt s (tree.a_stmt t l)) f c q h =
      finish_after (typed_stmt f c s) (typed_all f (context_after c s) (tree.a_stmt t l))
      (all_end (tree.a_stmt t l) f (context_after c s) q.1 h)

  clause_finishes : (l : Clause) (f : Enclosing) (c : Context) → ClauseHasHeaders l → source.clause_terminates l ≡ true
      → Finish (typed_clause f c l)
  clause_finishes tree.no_clause f c q h = absurd (true≢false (sym h))
  clause_finishes (tree.a_clause s) f c q h = stmt_ends s f c q h

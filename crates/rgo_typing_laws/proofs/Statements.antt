-- If no node of a statement breaks a rule, its typed statements are well-formed, by induction on the statement. The hard case is `for`:
-- its post statement is checked before the body and is after it in the typed tree, which is right only if it declares nothing.
use Rattle.std.proofs.Common.{◌≡◌, ◌++◌, ℕ, pos, Bool, true, List, [], ◌∷◌}
use Rattle.std.proofs.Common.{Option, Some, None, refl, sym, subst}
use Rattle.std.specs.Prelude.{⊤}
use Rattle.rgo_ast.specs.Tree as tree
use Rattle.rgo_ast.specs.Tree.{Expr, Clause}
use Rattle.rgo_ast.specs.Places.{place_of}
use Rattle.rgo_ast.specs.declared.ops.AssignOp.{AssignOp}
use Rattle.rgo_ast.specs.declared.ops.AssignOp.TheVariants as assign
use Rattle.rgo_ast.specs.declared.ops.StepOp.{StepOp}
use Rattle.rgo_ast.specs.declared.ops.StepOp.TheVariants as step
use Rattle.rgo_ast.specs.declared.ops.BinaryOp.{BinaryOp}
use Rattle.rgo_typed.specs.declared.types.Type.{«Type»}
use Rattle.rgo_typed.specs.Tree as typed
use Rattle.rgo_typed.specs.Tree.{Term, Stmt, stmts_of}
use Rattle.rgo_typing_rules.specs.Shapes as shape
use Rattle.rgo_typing_rules.specs.Nodes as node
use Rattle.rgo_typing_rules.specs.Sites.{first_refusal}
use Rattle.rgo_typing_rules.specs.declared.roles.Role.TheVariants as role
use Rattle.rgo_typing_rules.specs.declared.rules.Rule.TheVariants as rule
use Rattle.rgo_typing_rules.proofs.Unbroken.{keeps}
use Rattle.rgo_typing_expressions.specs.Callees.{without_parens, may_stand, named_callee, is_place}
use Rattle.rgo_typing_expressions.specs.Checking.{nodes, all_nodes}
use Rattle.rgo_typing_expressions.specs.Packages.{Context}
use Rattle.rgo_typing_expressions.specs.Scopes.{int, meaning_of}
use Rattle.rgo_typing_expressions.specs.Terms.{int_constant, typed_term}
use Rattle.rgo_typing_expressions.specs.Types.{type_of, types_of}
use Rattle.rgo_typing_statements.specs.Statements.{Enclosing, in_block, header, context_after, after_all, after_clause, after_block}
use Rattle.rgo_typing_statements.specs.Statements.{step_op, step_sites, assign_op, assign_sites, go_site, optional_nodes}
use Rattle.rgo_typing_statements.specs.Statements.{optional_type, condition_sites, stmt_sites, all_sites, clause_sites}
use Rattle.rgo_typing_statements.specs.TypedStatements.{plain_stmt, send_stmt, assign_stmt, step_stmt, started, returned}
use Rattle.rgo_typing_statements.specs.TypedStatements.{optional_term}
use Rattle.rgo_typing_statements.specs.TypedStatements.{has_clause, headed, if_or_else, typed_stmt, typed_all, typed_clause}
use Rattle.rgo_wellformed.specs.TypeRules.{Declared, Computes}
use Rattle.rgo_wellformed.specs.WellFormed.{InScope, HasType, AreStmts, IsCondition, IsResult}
use Rattle.rgo_wellformed.specs.TypeRules.{bool}
use Rattle.rgo_typing_laws.specs.Headers.{IsPost, HasHeaders, HaveHeaders, ClauseHasHeaders}
use Rattle.rgo_typing_laws.proofs.Unbroken.{not_false, left, right, alone, in_three}
use Rattle.rgo_typing_laws.proofs.HeaderForms.{init_headers, post_init}
use Rattle.rgo_typing_laws.proofs.Growth.{grows_all, grows_clause, after_the_block, after_if, after_for}
use Rattle.rgo_typing_laws.proofs.Fitting.{a_constant}
use Rattle.rgo_typing_laws.proofs.Expressions.{named_calls}
use Rattle.rgo_typing_laws.proofs.Scopes.{Describes, describes_inside, describes_outside, describes_later, means}
use Rattle.rgo_typing_laws.proofs.Assignments.{Stays, assigned_well, updated_well, send_well}
use Rattle.rgo_typing_laws.proofs.Calls.{return_well, condition_well, go_well, plain_well}
use Rattle.rgo_typing_laws.proofs.Declarations.{env, AreAll, Steps, steps_none, steps_then, steps_all, steps_one}
use Rattle.rgo_typing_laws.proofs.Declarations.{Room, room_before, value_well, define_well, vars_well}

module _ (d : Declared) (locals : List «Type») (result : Option «Type») (known : IsResult d result) where
  abbrev pub enclosing : Bool → Enclosing
  enclosing in_loop = record { result_type = result; in_loop = in_loop }

  abbrev Well : Bool → InScope → Stmt → Type 0
  Well in_loop here s = Stays (env d locals result in_loop) here s

  abbrev All : Bool → InScope → List Stmt → Type 0
  All in_loop here l = AreAll d locals result in_loop here l

  abbrev Leads : Bool → InScope → Context → List Stmt → Type 0
  Leads in_loop here h l = Steps d locals result in_loop here h l

  -- ---- assignments

  abbrev IntsOf : Option BinaryOp → Type 0
  IntsOf None = ⊤
  IntsOf (Some op) = Computes op (int ∷ int ∷ []) int

  assign_computes : (o : AssignOp) → IntsOf (assign_op o)
  assign_computes assign.Plain = tt
  assign_computes assign.Add = (refl, refl)
  assign_computes assign.Sub = (refl, refl)
  assign_computes assign.Mul = (refl, refl)
  assign_computes assign.Div = (refl, refl)
  assign_computes assign.Rem = (refl, refl)

  step_computes : (o : StepOp) → Computes (step_op o) (int ∷ int ∷ []) int
  step_computes step.Increment = (refl, refl)
  step_computes step.Decrement = (refl, refl)

  assign_well : (c : Context) (here : InScope) (in_loop : Bool) (o : Option BinaryOp) (a b : Expr) (at : ℕ) → IntsOf o
      → Room d locals result c → Describes d c here → first_refusal (assign_sites c o a b at) ≡ None
      → Well in_loop here (assign_stmt c o a b at)
  assign_well c here in_loop None a b at k room st h =
      assigned_well c d result locals here (means c d locals here st room) st.sound.structs a b at in_loop h
  assign_well c here in_loop (Some op) a b at k room st h =
      let n = node.Update op (is_place c a) (type_of c a) (type_of c b) in
      let parts = in_three (nodes c role.Value a) (nodes c role.Value b) at n h in
      updated_well c d result locals here (means c d locals here st room) st.sound.structs op a (type_of c b)
      (typed_term c b) at in_loop k parts.0 (value_well d locals result c here room st b role.Value parts.1) parts.2

  step_well : (c : Context) (here : InScope) (in_loop : Bool) (op : BinaryOp) (e : Expr) (at : ℕ)
      → Computes op (int ∷ int ∷ []) int → Room d locals result c → Describes d c here
      → first_refusal (step_sites c op e at) ≡ None → Well in_loop here (step_stmt c op e at)
  step_well c here in_loop op e at computes room st h =
      let one = shape.Constant (pos 1) in
      let n = node.Update op (is_place c e) (type_of c e) one in
      updated_well c d result locals here (means c d locals here st room) st.sound.structs op e one
      (int_constant (pos 1) at) at in_loop computes (left (nodes c role.Value e) ((at, n) ∷ []) h)
      (a_constant d locals here (pos 1) at) (alone at n (right (nodes c role.Value e) ((at, n) ∷ []) h))

  -- ---- headers

  headed_well : (in_loop : Bool) (here : InScope) (c h : Context) (init : Clause) (s : Stmt)
      → (inner : Leads in_loop here (header c init) (typed_clause (enclosing in_loop) (in_block c) init))
      → Describes d c here → ((next : InScope) → Describes d c next → Describes d h next) → Well in_loop inner.0 s
      → Leads in_loop here h (headed (has_clause init) (typed_clause (enclosing in_loop) (in_block c) init) s)
  headed_well in_loop here c h tree.no_clause s inner st later stays = (
    inner.0,
    later inner.0 (describes_outside d c inner.0 inner.1),
    λ more a. inner.2 (s ∷ more)
        (stays.0, subst (λ x. AreStmts (env d locals result in_loop) x (stmts_of more)) (sym stays.1) a),
  )
  headed_well in_loop here c h (tree.a_clause x) s inner st later stays =
      (here, later here st, λ more a. (inner.2 (s ∷ []) (stays.0, tt), a))

  branches_well : (in_loop : Bool) (here : InScope) (other : Clause) (test : Term) (body alternative : List Stmt)
      (at : ℕ)
      → HasType d locals here test bool → All in_loop here body → All in_loop here alternative
      → Well in_loop here (if_or_else (has_clause other) test body alternative at)
  branches_well in_loop here tree.no_clause test body alternative at t b o = ((t, b), refl)
  branches_well in_loop here (tree.a_clause s) test body alternative at t b o = ((t, b, o), refl)

  -- a post statement declares nothing
  post_describes : (c : Context) (here : InScope) (post : Clause) → IsPost post → Describes d c here
      → Describes d (after_clause c post) here
  post_describes c here tree.no_clause k st = st
  post_describes c here (tree.a_clause (tree.Plain e)) k st = st
  post_describes c here (tree.a_clause (tree.Send a b at)) k st = st
  post_describes c here (tree.a_clause (tree.Step op e at)) k st = st
  post_describes c here (tree.a_clause (tree.Assign op a b at)) k st = st
  post_describes c here (tree.a_clause s) k st = absurd k

  loop_condition : (c : Context) (here : InScope) (test : Option Expr) (at : ℕ) (in_loop : Bool)
      → Room d locals result c → Describes d c here → first_refusal (optional_nodes c test) ≡ None
      → first_refusal (condition_sites (optional_type c test) at) ≡ None
      → IsCondition (env d locals result in_loop) here (optional_term c test)
  loop_condition c here None at in_loop room st h k = tt
  loop_condition c here (Some e) at in_loop room st h k =
      condition_well c d result locals here (means c d locals here st room) st.sound.structs e at h k

  -- ---- statements

  mutual
    pub well_stmt : (s : tree.Stmt) (c : Context) (here : InScope) (in_loop : Bool) → HasHeaders s
        → Room d locals result (context_after c s) → Describes d c here
        → first_refusal (stmt_sites (enclosing in_loop) c s) ≡ None
        → Leads in_loop here (context_after c s) (typed_stmt (enclosing in_loop) c s)
    well_stmt (tree.Block all at) c here in_loop q room st h =
        let inside = in_block c in
        let body = well_all all inside here in_loop q room (describes_inside d c here st) h in
        steps_one d locals result in_loop here (after_block c all)
        (typed.Block (stmts_of (typed_all (enclosing in_loop) inside all)))
        (describes_later d c (after_block c all) here (after_the_block c all) body.1.scoped.types st) (
          steps_all d locals result in_loop here (after_all inside all) (typed_all (enclosing in_loop) inside all) body,
          refl,
        )
    well_stmt (tree.Plain e) c here in_loop q room st h =
        let n = node.Alone (may_stand c e) in
        let all = nodes c role.Alone (without_parens e) in
        let at = place_of (without_parens e) in
        steps_one d locals result in_loop here c (plain_stmt c e) st
        (plain_well c d result locals here (means c d locals here st room) st.sound.structs (without_parens e) in_loop
        (left all ((at, n) ∷ []) h)
        (not_false (may_stand c e) (keeps rule.NotStatement n (alone at n (right all ((at, n) ∷ []) h)))))
    well_stmt (tree.Send a b at) c here in_loop q room st h =
        steps_one d locals result in_loop here c (send_stmt c a b at) st
        (send_well c d result locals here (means c d locals here st room) st.sound.structs a b at in_loop h)
    well_stmt (tree.Step op e at) c here in_loop q room st h =
        steps_one d locals result in_loop here c (step_stmt c (step_op op) e at) st
        (step_well c here in_loop (step_op op) e at (step_computes op) room st h)
    well_stmt (tree.Assign op a b at) c here in_loop q room st h =
        steps_one d locals result in_loop here c (assign_stmt c (assign_op op) a b at) st
        (assign_well c here in_loop (assign_op op) a b at (assign_computes op) room st h)
    well_stmt (tree.Define x e at) c here in_loop q room st h =
        define_well d locals result in_loop here c x None e at tt room st h
    well_stmt (tree.If init test body other at) c here in_loop q room st h =
        let f = enclosing in_loop in
        let c1 = header c init in
        let c2 = after_block c1 body in
        let all = context_after c (tree.If init test body other at) in
        let site = (at, node.Condition (type_of c1 test)) ∷ [] in
        let others = clause_sites f c2 other ++ site in
        let bodies = all_sites f (in_block c1) body ++ others in
        let h1 = right (clause_sites f (in_block c) init) (nodes c1 role.Value test ++ bodies) h in
        let h2 = right (nodes c1 role.Value test) bodies h1 in
        let h3 = right (all_sites f (in_block c1) body) others h2 in
        let room2 = room_before d locals result c2 (after_clause c2 other) (grows_clause c2 other) room in
        let room1 =
        room_before d locals result (in_block c1) (after_all (in_block c1) body) (grows_all (in_block c1) body) room2 in
        let inner = well_clause init (in_block c) here in_loop (init_headers init q.0) room1
        (describes_inside d c here st)
        (left (clause_sites f (in_block c) init) (nodes c1 role.Value test ++ bodies) h) in
        let b = well_all body (in_block c1) inner.0 in_loop q.1 room2 (describes_inside d c1 inner.0 inner.1)
        (left (all_sites f (in_block c1) body) others h2) in
        let st2 = describes_later d c1 c2 inner.0 (after_the_block c1 body) b.1.scoped.types inner.1 in
        let o = well_clause other c2 inner.0 in_loop q.2 room st2 (left (clause_sites f c2 other) site h3) in
        let t = condition_well c1 d result locals inner.0 (means c1 d locals inner.0 inner.1 room1)
        inner.1.sound.structs test at (left (nodes c1 role.Value test) bodies h1)
        (right (clause_sites f c2 other) site h3) in
        headed_well in_loop here c all init _ inner st
        (λ next st3. describes_later d c all next (after_if c init test body other at) o.1.scoped.types st3)
        (branches_well in_loop inner.0 other (typed_term c1 test) (typed_all f (in_block c1) body)
        (typed_clause f c2 other) at t
        (steps_all d locals result in_loop inner.0 (after_all (in_block c1) body) (typed_all f (in_block c1) body) b)
        (steps_all d locals result in_loop inner.0 (after_clause c2 other) (typed_clause f c2 other) o))
    well_stmt (tree.For init test post body at) c here in_loop q room st h =
        let f = enclosing in_loop in
        let c1 = header c init in
        let c2 = after_clause c1 post in
        let all = context_after c (tree.For init test post body at) in
        let site = condition_sites (optional_type c1 test) at in
        let bodies = all_sites (enclosing true) (in_block c2) body ++ site in
        let posts = clause_sites f c1 post ++ bodies in
        let h1 = right (clause_sites f (in_block c) init) (optional_nodes c1 test ++ posts) h in
        let h2 = right (optional_nodes c1 test) posts h1 in
        let h3 = right (clause_sites f c1 post) bodies h2 in
        let room2 =
        room_before d locals result (in_block c2) (after_all (in_block c2) body) (grows_all (in_block c2) body) room in
        let room1 = room_before d locals result c1 c2 (grows_clause c1 post) room2 in
        let inner = well_clause init (in_block c) here in_loop (init_headers init q.0) room1
        (describes_inside d c here st) (left (clause_sites f (in_block c) init) (optional_nodes c1 test ++ posts) h) in
        let r = well_clause post c1 inner.0 in_loop (init_headers post (post_init post q.1)) room2 inner.1
        (left (clause_sites f c1 post) bodies h2) in
        let b = well_all body (in_block c2) inner.0 true q.2 room
        (describes_inside d c2 inner.0 (post_describes c1 inner.0 post q.1 inner.1))
        (left (all_sites (enclosing true) (in_block c2) body) site h3) in
        let t = loop_condition c1 inner.0 test at in_loop room1 inner.1 (left (optional_nodes c1 test) posts h1)
        (right (all_sites (enclosing true) (in_block c2) body) site h3) in
        headed_well in_loop here c all init _ inner st
        (λ next st3. describes_later d c all next (after_for c init test post body at) b.1.scoped.types st3) (
          (
            t,
            steps_all d locals result true inner.0 (after_all (in_block c2) body)
                (typed_all (enclosing true) (in_block c2) body) b,
            steps_all d locals result in_loop inner.0 c2 (typed_clause f c1 post) r,
          ),
          refl,
        )
    well_stmt (tree.Go x args at) c here in_loop q room st h =
        let f = named_callee x.at (meaning_of c x.name) in
        let meant = means c d locals here st room in
        let site = go_site c.globals f (types_of c args) at in
        steps_one d locals result in_loop here c (started c f args at) st
        (go_well c d result locals here meant st.sound.structs f args at in_loop
        (named_calls c d locals here x.at (meaning_of c x.name) (meant x.name))
        (left (all_nodes c role.Value args) (site ∷ []) h) (right (all_nodes c role.Value args) (site ∷ []) h))
    well_stmt (tree.Var vars at) c here in_loop q room st h = vars_well d locals result in_loop here c vars room st h
    well_stmt (tree.Return value at) c here in_loop q room st h =
        let n = node.Return result (optional_type c value) in
        steps_one d locals result in_loop here c (typed.Return (returned result c value) at) st
        (return_well c d result locals here
        (means c d locals here st room) st.sound.structs result value at in_loop refl
        known (left (optional_nodes c value) ((at, n) ∷ []) h)
        (alone at n (right (optional_nodes c value) ((at, n) ∷ []) h)))
    well_stmt (tree.Break at) c here in_loop q room st h =
        let n = node.Branch in_loop in
        steps_one d locals result in_loop here c (typed.Break at) st
        (not_false in_loop (keeps rule.LoopOutside n (alone at n h)), refl)
    well_stmt (tree.Continue at) c here in_loop q room st h =
        let n = node.Branch in_loop in
        steps_one d locals result in_loop here c (typed.Continue at) st
        (not_false in_loop (keeps rule.LoopOutside n (alone at n h)), refl)

    pub well_all : (l : tree.Stmts) (c : Context) (here : InScope) (in_loop : Bool) → HaveHeaders l
        → Room d locals result (after_all c l) → Describes d c here
        → first_refusal (all_sites (enclosing in_loop) c l) ≡ None
        → Leads in_loop here (after_all c l) (typed_all (enclosing in_loop) c l)
    well_all tree.no_stmts c here in_loop q room st h = steps_none d locals result in_loop here c st
    well_all (tree.a_stmt s l) c here in_loop q room st h =
        let c2 = context_after c s in
        let f = enclosing in_loop in
        steps_then d locals result in_loop here c2 (after_all c2 l) (typed_stmt f c s) (typed_all f c2 l)
        (well_stmt s c here in_loop q.0 (room_before d locals result c2 (after_all c2 l) (grows_all c2 l) room) st
        (left (stmt_sites f c s) (all_sites f c2 l) h))
        (λ next st2. well_all l c2 next in_loop q.1 room st2 (right (stmt_sites f c s) (all_sites f c2 l) h))

    well_clause : (l : Clause) (c : Context) (here : InScope) (in_loop : Bool) → ClauseHasHeaders l
        → Room d locals result (after_clause c l) → Describes d c here
        → first_refusal (clause_sites (enclosing in_loop) c l) ≡ None
        → Leads in_loop here (after_clause c l) (typed_clause (enclosing in_loop) c l)
    well_clause tree.no_clause c here in_loop q room st h = steps_none d locals result in_loop here c st
    well_clause (tree.a_clause s) c here in_loop q room st h = well_stmt s c here in_loop q room st h

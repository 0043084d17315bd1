-- Statements: the steps of a frame that executes statements, or is at the end of its function.
use Rattle.std.proofs.Common.{◌≡◌, ℕ, ◌+◌, ◌<◌, List, [], ◌∷◌, ◌++◌, take, Option, Some, None, refl, sym, ap}
use Rattle.std.proofs.Common.{subst, inl, inr, arith}
use Rattle.std.proofs.lemmas.Option.{slice_get_within}
use Rattle.rgo_typed.specs.declared.actions.Action.{Action}
use Rattle.rgo_typed.specs.declared.actions.Action.TheVariants.{Binary}
use Rattle.rgo_typed.specs.declared.types.Type.{«Type»}
use Rattle.rgo_typed.specs.Tree as tree
use Rattle.rgo_typed.specs.Tree.{Term, Terms, Stmt, Stmts, Change}
use Rattle.rgo_memory.specs.declared.values.Value.{Value}
use Rattle.rgo_memory.specs.Memory.{Memory}
use Rattle.rgo_machine.specs.Machines.{Moves}
use Rattle.rgo_tac.specs.Code as op
use Rattle.rgo_meaning.specs.Frames.{Todo, Evaluate, Each, Affect, Give, Forget, Clear, Enter, Start, Write}
use Rattle.rgo_meaning.specs.Frames.{Execute, Sequence, When, Choose, Close, Turn}
use Rattle.rgo_meaning.specs.Steps.{source_act}
use Rattle.rgo_meaning.specs.Todos.{term_count, return_todo, update_todo}
use Rattle.rgo_lower.specs.Lowered.{LoweringPoint, after_value, next_point, OpAt, ActionAt, LoweringScope, StmtsAt}
use Rattle.rgo_lower.proofs.follows.Lists.{onto, twice_taken, twice_dropped, two_taken, one_more_taken}
use Rattle.rgo_lower.proofs.follows.Lists.{one_more_dropped}
use Rattle.rgo_lower.proofs.follows.Places.{place_of, Loop, targets_of}
use Rattle.rgo_lower.proofs.follows.Grows.{same_inside, stmts_scopes}
use Rattle.rgo_lower.proofs.follows.Size.{todo_size}
use Rattle.rgo_lower.proofs.follows.Branches.{break_steps, continue_steps}
use Rattle.rgo_lower.proofs.follows.Settings.{Setting, frame_of, Here, At}
use Rattle.rgo_lower.proofs.follows.Changes.{stays}
use Rattle.rgo_lower.proofs.follows.Chains.{leads, terms_length, affect_todo, start_todo, write_todo, invoke_todo}
use Rattle.rgo_lower.proofs.follows.Steps.{Goal, stutter, goes_on}

module _ (c : Setting) (loops : List Loop) (scope : LoweringScope) (p : LoweringPoint) (locals : List Value) where
  abbrev Now : List ℕ → List Todo → Type 0
  Now held todo = Here c loops scope p held locals todo

  abbrev Steps : List ℕ → List Todo → Type 0
  Steps held todo = Goal c (frame_of c locals held todo)

  -- the source continues alone from a statement to what it leaves to do
  unfolds : (s : Stmt) (todo todo2 : List Todo) → Now [] (Execute s ∷ todo)
      → ((m : Memory) → source_act c.program m (frame_of c locals [] (Execute s ∷ todo))
      ≡ Moves m (frame_of c locals [] todo2))
      → todo_size todo2 < todo_size (Execute s ∷ todo)
      → At c todo2 loops scope p [] → Steps [] (Execute s ∷ todo)
  unfolds s todo todo2 h moves smaller at = goes_on c h todo2 refl moves smaller at

  -- what follows a statement, where it leaves this scope and ends at q
  after_stmt : (s : Stmt) (todo : List Todo) (h : Now [] (Execute s ∷ todo)) (scope2 : LoweringScope) (q : LoweringPoint)
      → h.todo.1.0 ≡ scope2 → h.todo.1.1 ≡ q → At c todo loops scope2 q []
  after_stmt s todo h scope2 q e e2 =
      let i = h.todo.1 in
      let rest = leads c todo loops i.3 h.todo.2 in
      subst (λ z. At c todo loops scope2 z []) e2 (subst (λ z. At c todo loops z i.1 []) e rest)

  -- ---- local variables

  declare_steps : (n : ℕ) (ty : «Type») (value : Term) (place : ℕ) (todo : List Todo)
      → Now [] (Execute (tree.Declare n ty value place) ∷ todo)
      → Steps [] (Execute (tree.Declare n ty value place) ∷ todo)
  declare_steps n ty value place todo h =
      let t = h.todo.1.2 in
      let mid = t.1 in
      let known = slice_get_within c.f.variables mid.variable ty t.3.variable in
      let scope2 = (n, mid.variable) ∷ scope in
      unfolds (tree.Declare n ty value place) todo (Evaluate value ∷ Give n ∷ todo) h (λ m. refl) (omega arith) (
        place_of scope mid (t.0 ∷ []),
        (t.0, mid, t.2, refl),
        (
          place_of scope2 (after_value mid) [],
          (mid.variable, place, t.3.instr, inl (refl, record { known = known; fresh = t.4; is = refl })),
          after_stmt (tree.Declare n ty value place) todo h scope2 (after_value mid) t.5 t.6,
        ),
      )

  zero_steps : (n : ℕ) (ty : «Type») (place : ℕ) (todo : List Todo) → Now [] (Execute (tree.Zero n ty place) ∷ todo)
      → Steps [] (Execute (tree.Zero n ty place) ∷ todo)
  zero_steps n ty place todo h =
      let t = h.todo.1.2 in
      let known = slice_get_within c.f.variables p.variable ty t.0.variable in
      let scope2 = (n, p.variable) ∷ scope in
      unfolds (tree.Zero n ty place) todo (Clear n ty ∷ todo) h (λ m. refl) (omega arith) (
        place_of scope2 (after_value p) [],
        (place, t.0, record { known = known; fresh = t.1; is = refl }),
        after_stmt (tree.Zero n ty place) todo h scope2 (after_value p) t.2 t.3,
      )

  assign_steps : (n : ℕ) (value : Term) (place : ℕ) (todo : List Todo)
      → Now [] (Execute (tree.Assign n value place) ∷ todo)
      → Steps [] (Execute (tree.Assign n value place) ∷ todo)
  assign_steps n value place todo h =
      let t = h.todo.1.2 in
      let mid = t.1 in
      unfolds (tree.Assign n value place) todo (Evaluate value ∷ Give n ∷ todo) h (λ m. refl) (omega arith) (
        place_of scope mid (t.0 ∷ []),
        (t.0, mid, t.3, refl),
        (
          place_of scope (next_point mid) [],
          (t.2, place, t.5, inr (record { known = t.4; is = refl })),
          after_stmt (tree.Assign n value place) todo h scope (next_point mid) t.6 t.7,
        ),
      )

  -- ---- statements with operands

  perform_steps : (action : Action) (operands : Terms) (place : ℕ) (todo : List Todo)
      → Now [] (Execute (tree.Perform action operands place) ∷ todo)
      → Steps [] (Execute (tree.Perform action operands place) ∷ todo)
  perform_steps action operands place todo h =
      let t = h.todo.1.2 in
      let n = term_count operands in
      unfolds (tree.Perform action operands place) todo (Each operands ∷ Affect action n place ∷ todo) h (λ m. refl)
      (omega arith) (
        place_of scope t.1 (onto t.0 []),
        (t.0, t.1, t.2, refl),
        affect_todo c loops scope t.1 t.0 [] n
            (terms_length c operands scope p t.0 t.1 t.2) todo action place t.3
            (after_stmt (tree.Perform action operands place) todo h scope (next_point t.1) t.4 t.5),
      )

  invoke_steps : (function : ℕ) (arguments : Terms) (place : ℕ) (todo : List Todo)
      → Now [] (Execute (tree.Invoke function arguments place) ∷ todo)
      → Steps [] (Execute (tree.Invoke function arguments place) ∷ todo)
  invoke_steps function arguments place todo h =
      let t = h.todo.1.2 in
      let n = term_count arguments in
      unfolds (tree.Invoke function arguments place) todo (Each arguments ∷ Enter function n ∷ todo) h (λ m. refl)
      (omega arith) (
        place_of scope t.1 (onto t.0 []),
        (t.0, t.1, t.2, refl),
        invoke_todo c loops scope t.1 t.0 [] n
            (terms_length c arguments scope p t.0 t.1 t.2) todo function place t.3 t.4
            (after_stmt (tree.Invoke function arguments place) todo h scope (next_point t.1) t.5 t.6),
      )

  go_steps : (function : ℕ) (arguments : Terms) (place : ℕ) (todo : List Todo)
      → Now [] (Execute (tree.Go function arguments place) ∷ todo)
      → Steps [] (Execute (tree.Go function arguments place) ∷ todo)
  go_steps function arguments place todo h =
      let t = h.todo.1.2 in
      let n = term_count arguments in
      unfolds (tree.Go function arguments place) todo (Each arguments ∷ Start function n ∷ todo) h (λ m. refl)
      (omega arith) (
        place_of scope t.1 (onto t.0 []),
        (t.0, t.1, t.2, refl),
        start_todo c loops scope t.1 t.0 [] n
            (terms_length c arguments scope p t.0 t.1 t.2) todo function place t.3 t.4
            (after_stmt (tree.Go function arguments place) todo h scope (next_point t.1) t.5 t.6),
      )

  print_steps : (pieces : _) (values : Terms) (place : ℕ) (todo : List Todo)
      → Now [] (Execute (tree.Print pieces values place) ∷ todo)
      → Steps [] (Execute (tree.Print pieces values place) ∷ todo)
  print_steps pieces values place todo h =
      let t = h.todo.1.2 in
      let n = term_count values in
      unfolds (tree.Print pieces values place) todo (Each values ∷ Write pieces n ∷ todo) h (λ m. refl)
      (omega arith) (
        place_of scope t.1 (onto t.0 []),
        (t.0, t.1, t.2, refl),
        write_todo c loops scope t.1 t.0 [] n
            (terms_length c values scope p t.0 t.1 t.2) todo pieces place t.3
            (after_stmt (tree.Print pieces values place) todo h scope (next_point t.1) t.4 t.5),
      )

  -- the operands are evaluated once, for the read and for the write
  update_steps : (u : Change) (todo : List Todo) → Now [] (Execute (tree.Update u) ∷ todo)
      → Steps [] (Execute (tree.Update u) ∷ todo)
  update_steps u todo h =
      let t = h.todo.1.2.0 in
      let ds = t.0 in
      let start = t.1 in
      let mid = t.5 in
      let n = term_count u.operands in
      let size = terms_length c u.operands scope p ds start t.2 in
      let all = onto ds [] in
      let end = next_point (after_value mid) in
      unfolds (tree.Update u) todo (update_todo u todo) h (λ m. refl) (omega arith) (
        place_of scope start all,
        (ds, start, t.2, refl),
        (
          place_of scope start (take n all ++ all),
          refl,
          (
            place_of scope (after_value start) (start.variable ∷ all),
            (
              subst (λ z. ActionAt c.f start u.read z u.ty u.read_at) (sym (twice_taken ds n size)) t.3,
              ap (λ z. place_of scope (after_value start) (start.variable ∷ z)) (sym (twice_dropped ds n size)),
            ),
            (
              place_of scope mid (t.4 ∷ start.variable ∷ all),
              (t.4, mid, t.6, refl),
              (
                place_of scope (after_value mid) (mid.variable ∷ all),
                (
                  subst (λ z. ActionAt c.f mid (Binary u.op) z u.ty u.at) (sym (two_taken start.variable t.4 all)) t.7,
                  refl,
                ),
                (
                  place_of scope end [],
                  (
                    subst (λ z. OpAt c.f (mid.instr + 1) (op.Do None u.write z) u.at)
                        (sym (one_more_taken ds mid.variable n size)) t.8,
                    ap (place_of scope end) (sym (one_more_dropped ds mid.variable n size)),
                  ),
                  after_stmt (tree.Update u) todo h scope end h.todo.1.2.1 t.9,
                ),
              ),
            ),
          ),
        ),
      )

  discard_steps : (value : Term) (todo : List Todo) → Now [] (Execute (tree.Discard value) ∷ todo)
      → Steps [] (Execute (tree.Discard value) ∷ todo)
  discard_steps value todo h =
      let q = h.todo.1.1 in
      let t = h.todo.1.2 in
      unfolds (tree.Discard value) todo (Evaluate value ∷ Forget ∷ todo) h (λ m. refl) (omega arith) (
        place_of scope q (t.0 ∷ []),
        (t.0, q, t.1, refl),
        (place_of scope q [], refl, after_stmt (tree.Discard value) todo h scope q t.2 refl),
      )

  -- ---- statements with statements

  block_steps : (all : Stmts) (todo : List Todo) → Now [] (Execute (tree.Block all) ∷ todo)
      → Steps [] (Execute (tree.Block all) ∷ todo)
  block_steps all todo h =
      let q = h.todo.1.1 in
      let t = h.todo.1.2 in
      let inside = stmts_scopes c.program.functions c.f all (targets_of loops) scope p t.0 q t.1 in
      unfolds (tree.Block all) todo (Sequence all ∷ Close ∷ todo) h (λ m. refl) (omega arith) (
        place_of t.0 q [],
        (t.0, q, t.1, refl),
        (
          place_of scope q [],
          (scope, inside, h.loop, refl),
          after_stmt (tree.Block all) todo h scope q t.2 refl,
        ),
      )

  if_steps : (test : Term) (body : Stmts) (place : ℕ) (todo : List Todo)
      → Now [] (Execute (tree.If test body place) ∷ todo)
      → Steps [] (Execute (tree.If test body place) ∷ todo)
  if_steps test body place todo h =
      let q = h.todo.1.1 in
      let t = h.todo.1.2 in
      let k = t.2 in
      let body_at = subst (λ z. StmtsAt c.program.functions c.f body (targets_of loops) scope z t.1 q) k.4 t.3 in
      unfolds (tree.If test body place) todo (Evaluate test ∷ When body ∷ todo) h (λ m. refl) (omega arith) (
        place_of scope k.1 (k.0 ∷ []),
        (k.0, k.1, k.2, refl),
        (
          place_of scope q [],
          (place, t.1, q, k.3, body_at, refl),
          after_stmt (tree.If test body place) todo h scope q t.4 refl,
        ),
      )

  if_else_steps : (test : Term) (body other : Stmts) (place : ℕ) (todo : List Todo)
      → Now [] (Execute (tree.IfElse test body other place) ∷ todo)
      → Steps [] (Execute (tree.IfElse test body other place) ∷ todo)
  if_else_steps test body other place todo h =
      let q = h.todo.1.1 in
      let t = h.todo.1.2 in
      let k = t.4 in
      let body_at = subst (λ z. StmtsAt c.program.functions c.f body (targets_of loops) scope z t.2 t.1) k.4 t.5 in
      unfolds (tree.IfElse test body other place) todo (Evaluate test ∷ Choose body other ∷ todo) h (λ m. refl)
      (omega arith) (
        place_of scope k.1 (k.0 ∷ []),
        (k.0, k.1, k.2, refl),
        (
          place_of scope q [],
          (place, t.2, t.3, t.1, q, k.3, body_at, t.6, t.7, refl),
          after_stmt (tree.IfElse test body other place) todo h scope q t.8 refl,
        ),
      )

  loop_steps : (test : Option Term) (body post : Stmts) (place : ℕ) (todo : List Todo)
      → Now [] (Execute (tree.Loop test body post place) ∷ todo)
      → Steps [] (Execute (tree.Loop test body post place) ∷ todo)
  loop_steps test body post place todo h =
      let q = h.todo.1.1 in
      let t = h.todo.1.2 in
      unfolds (tree.Loop test body post place) todo (Turn test body post ∷ todo) h (λ m. refl) (omega arith) (
        place_of scope q [],
        (t.1, q, place, (t.0, t.2, t.3, t.4, t.5, t.6, t.7, t.8, t.10), refl),
        after_stmt (tree.Loop test body post place) todo h scope q t.9 refl,
      )

  -- ---- returns

  -- no loop is around what is left
  returns : (value : Option Term) (place : ℕ) (todo : List Todo) → Now [] (Execute (tree.Return value place) ∷ todo)
      → todo_size (return_todo value) < todo_size (Execute (tree.Return value place) ∷ todo)
      → At c (return_todo value) [] scope p [] → Steps [] (Execute (tree.Return value place) ∷ todo)
  returns value place todo h smaller at =
      let frame = frame_of c locals [] (Execute (tree.Return value place) ∷ todo) in
      stutter c frame (frame_of c locals [] (return_todo value)) refl (λ m. refl)
      (stays c h [] scope p [] [] (return_todo value) refl
      (same_inside scope) h.fits tt tt refl at)
      smaller

  return_steps : (value : Option Term) (place : ℕ) (todo : List Todo)
      → Now [] (Execute (tree.Return value place) ∷ todo)
      → Steps [] (Execute (tree.Return value place) ∷ todo)
  return_steps None place todo h =
      let t = h.todo.1.2 in
      returns None place todo h (omega arith) (record { place = place; instr = t.0; is = t.1; none = refl })
  return_steps (Some value) place todo h =
      let t = h.todo.1.2 in
      returns (Some value) place todo h (omega arith) (
        place_of scope t.1 (t.0 ∷ []),
        (t.0, t.1, t.3, refl),
        record { place = place; instr = t.4; ty = t.2; is = t.5; none = refl },
      )

  -- ---- sequences

  pub sequence_steps : (ss : Stmts) (todo : List Todo) → Now [] (Sequence ss ∷ todo) → Steps [] (Sequence ss ∷ todo)
  sequence_steps tree.no_stmts todo h =
      let i = h.todo.1 in
      let rest = leads c todo loops i.3 h.todo.2 in
      goes_on c h todo refl (λ m. refl) (omega arith)
      (subst (λ z. At c todo loops scope z []) i.2.1 (subst (λ z. At c todo loops z i.1 []) i.2.0 rest))
  sequence_steps (tree.a_stmt s ss) todo h =
      let i = h.todo.1 in
      let t = i.2 in
      goes_on c h (Execute s ∷ Sequence ss ∷ todo) refl
      (λ m. refl) (omega arith)
      (place_of t.0 t.1 [], (t.0, t.1, t.2, refl), (h.todo.0, (i.0, i.1, t.3, i.3), h.todo.2))

-- ---- every statement

module _ (c : Setting) (scope : LoweringScope) (p : LoweringPoint) (locals : List Value) where
  pub execute_steps : (loops : List Loop) (s : Stmt) (todo : List Todo)
      → Here c loops scope p [] locals (Execute s ∷ todo) → Goal c (frame_of c locals [] (Execute s ∷ todo))
  execute_steps loops (tree.Block all) todo h = block_steps c loops scope p locals all todo h
  execute_steps loops (tree.Declare n ty value place) todo h =
      declare_steps c loops scope p locals n ty value place todo h
  execute_steps loops (tree.Zero n ty place) todo h = zero_steps c loops scope p locals n ty place todo h
  execute_steps loops (tree.Assign n value place) todo h = assign_steps c loops scope p locals n value place todo h
  execute_steps loops (tree.Perform action operands place) todo h =
      perform_steps c loops scope p locals action operands place todo h
  execute_steps loops (tree.Update u) todo h = update_steps c loops scope p locals u todo h
  execute_steps loops (tree.Discard value) todo h = discard_steps c loops scope p locals value todo h
  execute_steps loops (tree.Invoke n arguments place) todo h =
      invoke_steps c loops scope p locals n arguments place todo h
  execute_steps loops (tree.Go n arguments place) todo h = go_steps c loops scope p locals n arguments place todo h
  execute_steps loops (tree.Print pieces values place) todo h =
      print_steps c loops scope p locals pieces values place todo h
  execute_steps loops (tree.If test body place) todo h = if_steps c loops scope p locals test body place todo h
  execute_steps loops (tree.IfElse test body other place) todo h =
      if_else_steps c loops scope p locals test body other place todo h
  execute_steps loops (tree.Loop test body post place) todo h =
      loop_steps c loops scope p locals test body post place todo h
  execute_steps [] (tree.Break place) todo h = absurd h.todo.1.2
  execute_steps (l ∷ loops) (tree.Break place) todo h = break_steps c l loops scope p locals todo place h
  execute_steps [] (tree.Continue place) todo h = absurd h.todo.1.2
  execute_steps (l ∷ loops) (tree.Continue place) todo h = continue_steps c l loops scope p locals todo place h
  execute_steps loops (tree.Return value place) todo h = return_steps c loops scope p locals value place todo h
